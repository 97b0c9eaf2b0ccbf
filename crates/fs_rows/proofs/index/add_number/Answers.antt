use Rattle.std.proofs.Common.{sym, ◌∙◌}
use Rattle.std.proofs.lemmas.Result.{on_ok_weaker}
use Rattle.fs_rows.specs.Index.{and_number}
use Rattle.fs_rows.proofs.ByField.{set_files, new_files}
use Rattle.fs_rows.proofs.index.add_number.Goals as goal

pub returns-in-Some : goal.returns-in-Some
returns-in-Some c = on_ok_weaker c.add.result (λ g. set_files (and_number c.args.no) c.args.field.now _ _ c.file.result.now _ _ c.file.ensures (sym c.in-Some.ensures.value) ((c.get_mut.follows.holds _).0) g) c.add.ensures

pub returns-in_ok-copy-in-None : goal.returns-in_ok-copy-in-None
returns-in_ok-copy-in-None c = on_ok_weaker c.put_file.result (λ s. new_files (and_number c.args.no) c.args.field.now c.args.files.now _ _ c.file.result.now _ _ _ c.get_mut.follows.holds-at-none c.file.ensures (c.in_ok-copy-in-None.ensures ∙ c.file-in-None.ensures) (sym c.in-None.ensures.value) s c.new-on_file.ensures c.in_ok-add-in-None.ensures) c.put_file.ensures
