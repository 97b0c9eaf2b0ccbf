use Rattle.std.proofs.Common.{◌<◌, [], ◌∷◌, ap, sym, subst, ◌∙◌}
use Rattle.fs_path.specs.Tables.{PathTables}
use Rattle.fs_path.specs.Walk.{rise_from}
use Rattle.fs_path.proofs.Meeting.{IsOnWay, fewer_unmet, goes_on, sets_out, unmet}
use Rattle.fs_path.proofs.walk.path_of.Goals as goal

pub loop-at-init : goal.loop-at-init
loop-at-init c =
    let t : PathTables = record { issued = []; held = c.args.held.now; frozen = c.args.frozen.now } in
    subst (λ at. IsOnWay t c.args.records.now c.args.file.now at c.new-below.result) (sym c.in_ok-at.ensures)
    (subst (IsOnWay t c.args.records.now c.args.file.now c.args.file.now) (sym c.new-below.ensures) (sets_out t c.args.records.now c.args.file.now))

pub loop-at-smaller : goal.loop-at-smaller
loop-at-smaller c =
    let t : PathTables = record { issued = []; held = c.args.held.now; frozen = c.args.frozen.now } in
    let m = c.args.records.now in
    let at = c.loop-at.at in
    let below = c.loop-at.below in
    let found = sym (c.in_ok-txn.ensures ∙ ap (λ b. rise_from m (at ∷ b) at c.frozen_for.result) c.as_slice.ensures ∙ ap (rise_from m (at ∷ below) at) c.frozen_for.ensures) ∙ c.in-On.is in
    subst (λ b. unmet m (c.in-On.parent ∷ b) < unmet m (at ∷ below)) (sym c.in_ok-insert-in-On.ensures.ok) (fewer_unmet t m at c.in-On.parent below found)

pub loop-at-preserved : goal.loop-at-preserved
loop-at-preserved c =
    let t : PathTables = record { issued = []; held = c.args.held.now; frozen = c.args.frozen.now } in
    let m = c.args.records.now in
    let at = c.loop-at.at in
    let below = c.loop-at.below in
    let found = sym (c.in_ok-txn.ensures ∙ ap (λ b. rise_from m (at ∷ b) at c.frozen_for.result) c.as_slice.ensures ∙ ap (rise_from m (at ∷ below) at) c.frozen_for.ensures) ∙ c.in-On.is in
    subst (IsOnWay t m c.args.file.now c.in-On.parent) (sym c.in_ok-insert-in-On.ensures.ok) (goes_on t m c.args.file.now at c.in-On.parent below c.loop-at.invariant found)
