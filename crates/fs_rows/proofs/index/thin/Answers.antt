use Rattle.std.proofs.Common.{sym, subst, refl, ap, ◌∙◌}
use Rattle.std.specs.FinMap.{get}
use Rattle.fs_ident.specs.Maps.{map_of}
use Rattle.fs_ident.proofs.MapsOf.{map_of_get}
use Rattle.fs_rows.specs.Index.{but_number, ChangesOf}
use Rattle.fs_rows.proofs.ByField.{set_files, set_nothing, absent_files}
use Rattle.fs_rows.proofs.index.thin.Goals as goal

pub returns-in-Some-clause-changed : goal.returns-in-Some-clause-changed
returns-in-Some-clause-changed c = set_files (but_number c.args.no) c.args.field.now _ _ c.file.result.now _ _ c.file.ensures (sym c.in-Some.ensures.value) ((c.get_mut.follows.holds _).0) c.forget.ensures

pub returns-in-Some-clause-empty : goal.returns-in-Some-clause-empty
returns-in-Some-clause-empty c t = set_nothing c.args.field.now c.args.files.now _ c.file.result.now _ _ c.file.ensures (sym c.in-Some.ensures.value) ((c.get_mut.follows.holds _).0) (sym c.is_empty.ensures ∙ t)

pub returns-in-None-clause-changed : goal.returns-in-None-clause-changed
returns-in-None-clause-changed c = subst (λ n. ChangesOf (but_number c.args.no) c.args.field.now c.args.files.now n) (sym c.get_mut.follows.holds-at-none)
    (absent_files (but_number c.args.no) c.args.field.now c.args.files.now (ap (get (map_of c.args.files.now)) (sym c.file.ensures) ∙ map_of_get c.args.files.now c.file.result.now ∙ sym c.in-None.ensures.value) refl)
