use Rattle.std.proofs.Common.{◌+◌, ◌≤◌, length, get_or, drop, ap, arith}
use Rattle.std.proofs.lemmas.List.{get_or_default}
use Rattle.fs_ident.specs.declared.actor.Peer.{Peer}
use Rattle.fs_window.specs.declared.link.Link.{Link}
use Rattle.fs_window.specs.Post.{link_sent}
use Rattle.fs_window.specs.Touched.{IsSettled}
use Rattle.fs_window.proofs.Between.{next_place, last_place, changed_next, changed_all}
use Rattle.fs_window.proofs.Settled.{settled_stays}
use Rattle.fs_window.proofs.touched.mark_places.Goals as goal

pub loop-place-preserved : goal.loop-place-preserved
loop-place-preserved c =
    let own = c.loop-place.invariant in
    let k = c.loop-place.place-index in
    let places = c.args.places.now in
    let old = c.args.links.now in
    let p = get_or places k 0 in
    let h = next_place IsSettled own.0 k p places old c.loop-place-test.true (get_or_default places k 0 p c.loop-place-test.true) own.1.1 in
    let within : p + 1 ≤ length old = omega (arith, h.1) in (
      p + 1,
      (
        within,
        h.3,
        rw c.mark_one.ensures
            (changed_next IsSettled (λ (e : Peer × Link). (e.0, link_sent e.1)) settled_stays old c.loop-place.links own.0 p (drop (k + 1) places) (get_or c.loop-place.links p c.index-links-place.result) h
            (ap (λ (e : Peer × Link). get_or c.loop-place.links p e) c.index-links-place.is) own.1.2),
      ),
    )

pub returns : goal.returns
returns c =
    let own = c.loop-place.invariant in
    let k = c.loop-place.place-index in
    let places = c.args.places.now in
    let past : length places ≤ k = omega (arith, c.loop-place-test.false) in
    changed_all IsSettled (λ (e : Peer × Link). (e.0, link_sent e.1)) settled_stays c.args.links.now c.loop-place.links own.0 own.1.0 (last_place IsSettled own.0 k places c.args.links.now past own.1.1) own.1.2
