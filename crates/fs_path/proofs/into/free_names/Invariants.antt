use Rattle.std.proofs.Common.{◌≡◌, ◌++◌, drop}
use Rattle.std.specs.List.{filter, find}
use Rattle.fs_path.specs.Into.{is_free}
use Rattle.fs_path.specs.Returns.{is_of}
use Rattle.fs_path.proofs.into.free_names.Given as goal

abbrev pub invariant-loop-name : goal.invariant-loop-name
invariant-loop-name l = l.list ++ filter (λ n. is_free l.issued (find (is_of n.1) l.held)) (drop l.name-index l.names) ≡ filter (λ n. is_free l.issued (find (is_of n.1) l.held)) l.names
