use Rattle.std.proofs.Common.{◌≡◌, drop}
use Rattle.std.specs.List.{list_any}
use Rattle.fs_ident.specs.Ident.{same}
use Rattle.fs_path.proofs.files.goes_over.Given as goal

abbrev pub invariant-loop-x : goal.invariant-loop-x
invariant-loop-x l = list_any (λ f. same f l.file) l.files ≡ list_any (λ f. same f l.file) (drop l.x-index l.files)
