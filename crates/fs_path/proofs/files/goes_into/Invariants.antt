use Rattle.std.proofs.Common.{◌≡◌, drop}
use Rattle.std.specs.List.{list_any}
use Rattle.fs_map.specs.Map.{is_given}
use Rattle.fs_path.proofs.files.goes_into.Given as goal

abbrev pub invariant-loop-x : goal.invariant-loop-x
invariant-loop-x l = list_any (λ f. is_given l.map l.me l.prefix f) l.files ≡ list_any (λ f. is_given l.map l.me l.prefix f) (drop l.x-index l.files)
