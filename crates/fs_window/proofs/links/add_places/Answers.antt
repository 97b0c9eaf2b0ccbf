use Rattle.std.proofs.Common.{◌≡◌, ◌+◌, ◌≤◌, [], length, get_or, drop, arith}
use Rattle.std.proofs.lemmas.List.{get_or_default}
use Rattle.fs_window.specs.Post.{sent_on}
use Rattle.fs_window.proofs.Between.{next_place, last_place, added_next, added_all}
use Rattle.fs_window.proofs.links.add_places.Goals as goal

pub loop-place-preserved : goal.loop-place-preserved
loop-place-preserved c =
    let own = c.loop-place.invariant in
    let k = c.loop-place.place-index in
    let places = c.args.places.now in
    let links = c.args.links.now in
    let f = sent_on c.args.me c.args.turn c.args.heard in
    let p = get_or places k 0 in
    let h = next_place (λ e. f e ≡ []) own.0 k p places links c.loop-place-test.true (get_or_default places k 0 p c.loop-place-test.true) own.1.1 in
    let within : p + 1 ≤ length links = omega (arith, h.1) in (
      p + 1,
      (
        within,
        h.3,
        rw c.in_ok-add_one.ensures (added_next f links own.0 p (drop (k + 1) places) c.index-links-place.result c.loop-place.sent _ h c.index-links-place.is own.1.2),
      ),
    )

pub returns : goal.returns
returns c =
    let own = c.loop-place.invariant in
    let k = c.loop-place.place-index in
    let f = sent_on c.args.me c.args.turn c.args.heard in
    let past : length c.args.places.now ≤ k = omega (arith, c.loop-place-test.false) in
    added_all f c.args.links.now own.0 c.loop-place.sent _ own.1.0 (last_place (λ e. f e ≡ []) own.0 k c.args.places.now c.args.links.now past own.1.1) own.1.2
