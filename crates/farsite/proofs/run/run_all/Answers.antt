use Rattle.std.proofs.Common.{◌≡◌, ◌+◌, ◌≤◌, ◌<◌, ℕ, List, [], ◌∷◌, ◌++◌, ap, sym, subst, ◌∙◌, arith, inl, inr, drop, length}
use Rattle.std.specs.Prelude.{None, Some}
use Rattle.fs_schedule.specs.declared.event.Event.{Event}
use Rattle.fs_schedule.specs.declared.limits.TheConstants.{PACKETS}
use Rattle.fs_schedule.specs.declared.outcome.Outcome.{Outcome}
use Rattle.fs_world.specs.Refusals.{NoneHas, is_link_strange}
use Rattle.fs_world.specs.World.{Run, AtPackets, more, packets_of, run_on, step, stop_in}
use Rattle.fs_world.specs.declared.form.Form.{Form}
use Rattle.fs_world.proofs.RightRuns.{one_more}
use Rattle.farsite.proofs.Asked.{fits_further}
use Rattle.farsite.proofs.Runs.{carried_on, flooded, goes_on, no_error, run_step, stands_here, stands_on, unspent}
use Rattle.farsite.proofs.run.run_all.Goals as goal

pub returns-in-Some-clause-packets : goal.returns-in-Some-clause-packets
returns-in-Some-clause-packets c = λ line h.
    let i = c.loop-at.at in
    let e = c.index-events-at.result in
    let none : (step c.loop-at.world e).spent ≡ None = unspent (step c.loop-at.world e).spent (λ k h. elim (c.in-Ok.ensures.only k h) [ inl x ↦ no_error _ _ x | inr x ↦ no_error _ _ x ]) in
    let count : c.packet_count.result ≡ length (packets_of c.step.new.self) = c.packet_count.ensures in
    let over = c.in-Some.ensures.many in
    let more : PACKETS < length (packets_of c.step.new.self) = omega (arith, count, over.0) in
    let same : i + 2 ≡ line = cc (h, over.1) in
    sym c.loop-at.invariant.stop
    ∙ flooded c.loop-at.world c.step.new.self (i + 2) c.args.events.now i e c.loop-at-test.true c.index-events-at.is c.in-Ok.ensures.world none more
    ∙ ap (λ (n : ℕ). Some (AtPackets n)) same

pub returns-in_err-done-in-None-clause-memory : goal.returns-in_err-done-in-None-clause-memory
returns-in_err-done-in-None-clause-memory c = λ h.
    let items = c.args.events.now in
    let i = c.loop-at.at in
    let w = c.loop-at.world in
    let e = c.index-events-at.result in
    let after = c.step.new.self in
    let none : (step w e).spent ≡ None = unspent (step w e).spent (λ k h. elim (c.in-Ok.ensures.only k h) [ inl x ↦ no_error _ _ x | inr x ↦ no_error _ _ x ]) in
    let count : c.packet_count.result ≡ length (packets_of after) = c.packet_count.ensures in
    let less : length (packets_of after) ≤ PACKETS = omega (arith, count, c.in-None.ensures.few) in
    c.loop-at.invariant.stands after (stands_on w after items i e c.loop-at-test.true c.index-events-at.is c.in-Ok.ensures.world none less after (stands_here after (drop (i + 1) items)))

pub loop-at-preserved : goal.loop-at-preserved
loop-at-preserved c =
    let items = c.args.events.now in
    let i = c.loop-at.at in
    let w = c.loop-at.world in
    let e = c.index-events-at.result in
    let after = c.step.new.self in
    let rest = drop (i + 1) items in
    let r : Run = record { world = w; outcomes = c.loop-at.outcomes } in
    let pushed : c.push-done.new.self ≡ c.loop-at.outcomes ++ c.in-Ok.outcome ∷ [] = c.in_ok-done-in-None.ensures.ok in
    let outcomes : c.push-done.new.self ≡ c.loop-at.outcomes ++ (step w e).outcome ∷ [] = pushed ∙ ap (λ (o : Outcome). c.loop-at.outcomes ++ o ∷ []) c.in-Ok.ensures.outcome in
    let none : (step w e).spent ≡ None = unspent (step w e).spent (λ k h. elim (c.in-Ok.ensures.only k h) [ inl x ↦ no_error _ _ x | inr x ↦ no_error _ _ x ]) in
    let count : c.packet_count.result ≡ length (packets_of after) = c.packet_count.ensures in
    let less : length (packets_of after) ≤ PACKETS = omega (arith, count, c.in-None.ensures.few) in
    let line : i + 1 + 2 ≡ i + 2 + 1 = omega arith in
    record {
      so_far = ap (λ (v : Form). run_on (record { world = v; outcomes = c.push-done.new.self }) rest) c.in-Ok.ensures.world
          ∙ ap (λ (os : List Outcome). run_on (record { world = (step w e).world; outcomes = os }) rest) outcomes
          ∙ ap (λ (x : Event). run_on (more r x) rest) c.index-events-at.is
          ∙ sym (run_step r items i e c.loop-at-test.true) ∙ c.loop-at.invariant.so_far;
      stop = ap (λ (k : ℕ). stop_in after k rest) line
          ∙ sym (goes_on w after (i + 2) items i e c.loop-at-test.true c.index-events-at.is c.in-Ok.ensures.world none less)
          ∙ c.loop-at.invariant.stop;
      fits = fits_further w after items i e c.loop-at-test.true c.in-Ok.ensures.world c.loop-at.invariant.fits;
      carried = λ rest. c.loop-at.invariant.carried (carried_on w after items i e c.loop-at-test.true c.index-events-at.is c.in-Ok.ensures.world c.in-Ok.ensures.carried rest);
      stands = λ now s. c.loop-at.invariant.stands now (stands_on w after items i e c.loop-at-test.true c.index-events-at.is c.in-Ok.ensures.world none less now s);
      known = λ known. subst (λ (os : List Outcome). NoneHas is_link_strange os) (sym pushed) (one_more is_link_strange c.loop-at.outcomes c.in-Ok.outcome (c.loop-at.invariant.known known) c.in-Ok.ensures.known);
    }
