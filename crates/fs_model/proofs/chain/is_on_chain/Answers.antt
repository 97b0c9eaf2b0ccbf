use Rattle.std.proofs.Common.{◌∙◌, ◌<◌, ◌-◌, sym, ap, subst, arith, Some}
use Rattle.std.specs.Prelude.{is_some}
use Rattle.std.specs.FinMap as map
use Rattle.fs_ident.specs.Maps.{map_of}
use Rattle.fs_model.specs.Ways.{IsAbove}
use Rattle.fs_model.proofs.Chains.{from_start}
use Rattle.fs_model.proofs.WaysUp.{grown_true, within_file, at_top, one_up}
use Rattle.fs_model.proofs.chain.is_on_chain.Goals as goal

pub returns-in_err-goal-clause-so : goal.returns-in_err-goal-clause-so
returns-in_err-goal-clause-so c = grown_true (map_of c.args.nodes.now) c.limit.new.self c.place.new.self c.place.ensures.grown (c.limit.ensures (map_of c.args.nodes.now) c.requires)

pub returns-in_err-at-clause-so : goal.returns-in_err-at-clause-so
returns-in_err-at-clause-so c =
    let m = map_of c.args.nodes.now in
    grown_true m c.place.new.self c.place-2.new.self c.place-2.ensures.grown (grown_true m c.limit.new.self c.place.new.self c.place.ensures.grown (c.limit.ensures m c.requires))

pub loop-step-init : goal.loop-step-init
loop-step-init c =
    let m = map_of c.args.nodes.now in (
      from_start (map.len m) m c.args.file.now c.args.dir.now _ c.in_ok-at.ensures.at,
      ap is_some c.in_ok-at.ensures.at,
      c.place-2.ensures.grown.files c.in_ok-goal.goal c.args.file.now c.in_ok-goal.ensures.at,
      c.place-2.ensures.sole,
      grown_true m c.place.new.self c.place-2.new.self c.place-2.ensures.grown (grown_true m c.limit.new.self c.place.new.self c.place.ensures.grown (c.limit.ensures m c.requires)),
    )

pub above-requires-clause-at : goal.above-requires-clause-at
above-requires-clause-at c = within_file c.loop-step.ways c.loop-step.at c.loop-step.invariant.1

pub returns-in-None-clause-is : goal.returns-in-None-clause-is
returns-in-None-clause-is c =
    let m = map_of c.args.nodes.now in
    let own = c.loop-step.invariant in
    let is : IsAbove m c.above.new.ways c.loop-step.at c.in_ok-above.field-0 = c.in_ok-above.ensures.up in
    sym (own.0 ∙ at_top (map.len m - c.loop-step.step) m c.args.file.now c.loop-step.ways c.above.new.ways c.loop-step.at c.in_ok-goal.goal own.3 own.1 own.2 c.if-at-goal.false c.above.ensures.files (subst (IsAbove m c.above.new.ways c.loop-step.at) c.in-None.is is))

pub loop-step-preserved : goal.loop-step-preserved
loop-step-preserved c =
    let m = map_of c.args.nodes.now in
    let own = c.loop-step.invariant in
    let is : IsAbove m c.above.new.ways c.loop-step.at c.in_ok-above.field-0 = c.in_ok-above.ensures.up in
    let above : IsAbove m c.above.new.ways c.loop-step.at (Some c.in-Some.up) = subst (IsAbove m c.above.new.ways c.loop-step.at) c.in-Some.is is in
    let lt : c.loop-step.step < map.len m = omega (arith, c.loop-step-test.true, c.count-step-end.ensures) in (
      own.0 ∙ one_up (map.len m) c.loop-step.step m c.args.file.now c.loop-step.ways c.above.new.ways c.loop-step.at c.in_ok-goal.goal c.in-Some.up lt own.3 own.1 own.2 c.if-at-goal.false c.above.ensures.files above,
      above.listed,
      c.above.ensures.files c.in_ok-goal.goal c.args.file.now own.2,
      c.above.ensures.sole own.3,
      c.above.ensures.so,
    )
