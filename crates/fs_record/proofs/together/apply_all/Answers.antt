use Rattle.std.proofs.Common.{◌≡◌, ◌+◌, ◌++◌, ◌∷◌, [], List, take, ap, sym, subst, ◌∙◌}
use Rattle.std.proofs.lemmas.List.{take_all, take_more}
use Rattle.fs_field.specs.declared.effect.Effect.{Effect}
use Rattle.fs_ident.specs.Maps.{map_of}
use Rattle.fs_record.specs.declared.undo.Undo.{Undo}
use Rattle.fs_record.specs.Applied.{records_after, records_after_all}
use Rattle.fs_record.specs.Records.{AreRecords}
use Rattle.fs_record.specs.Undo.{undo_of, undos_of}
use Rattle.fs_record.proofs.AllApplied.{records_after_all-append, after_all_kept}
use Rattle.fs_record.proofs.Undoing.{all_back, records_back, undos_of-append, front_undoable}
use Rattle.fs_record.proofs.together.apply_all.Goals as goal

pub apply_noted-requires-clause-kept : goal.apply_noted-requires-clause-kept
apply_noted-requires-clause-kept c =
    subst AreRecords (sym c.loop-e.invariant.done) (after_all_kept (map_of c.args.records.now) (take c.loop-e.e-index c.args.effects.now) c.requires.kept)

pub take_back_all-requires : goal.take_back_all-requires
take_back_all-requires c =
    let old = map_of c.args.records.now in
    let front = take c.loop-e.e-index c.args.effects.now in
    rw (c.in-Err.ensures.none_noted, c.loop-e.invariant.noted, c.in-Err.ensures.err, c.loop-e.invariant.done) (records_back old front c.requires.kept (front_undoable c.args.effects.now c.loop-e.e-index c.requires.undoable))

pub returns-in-Err-clause-err : goal.returns-in-Err-clause-err
returns-in-Err-clause-err c =
    let old = map_of c.args.records.now in
    let front = take c.loop-e.e-index c.args.effects.now in
    rw (c.take_back_all.ensures, c.in-Err.ensures.none_noted, c.loop-e.invariant.noted, c.in-Err.ensures.err, c.loop-e.invariant.done) (all_back old front c.requires.kept (front_undoable c.args.effects.now c.loop-e.e-index c.requires.undoable))

pub loop-e-preserved : goal.loop-e-preserved
loop-e-preserved c =
    let old = map_of c.args.records.now in
    let e = c.e-item.result in
    let front : List Effect = take c.loop-e.e-index c.args.effects.now in
    let more : take (c.loop-e.e-index + 1) c.args.effects.now ≡ front ++ e ∷ [] = take_more c.args.effects.now c.loop-e.e-index e c.loop-e-test.true ∙ ap (λ (x : Effect). front ++ x ∷ []) (sym c.e-item.is) in
    record {
      done = c.in-Ok.ensures.ok ∙ ap (λ m. records_after m e) c.loop-e.invariant.done ∙ sym (records_after_all-append old front (e ∷ [])) ∙ ap (records_after_all old) (sym more);
      noted = c.in-Ok.ensures.noted
          ∙ ap (λ (us : List Undo). us ++ undo_of e (map_of c.loop-e.records) ∷ []) c.loop-e.invariant.noted
          ∙ ap (λ m. undos_of old front ++ undo_of e m ∷ []) c.loop-e.invariant.done
          ∙ sym (undos_of-append old front e)
          ∙ ap (undos_of old) (sym more);
    }

pub returns-clause-ok : goal.returns-clause-ok
returns-clause-ok c = c.loop-e.invariant.done ∙ ap (records_after_all (map_of c.args.records.now)) (take_all c.loop-e.e-index c.args.effects.now c.loop-e-test.false)
