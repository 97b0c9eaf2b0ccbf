use Rattle.std.proofs.Common.{◌≡◌, drop}
use Rattle.std.specs.Prelude.{option_map}
use Rattle.std.specs.List.{find}
use Rattle.fs_path.specs.Freed.{leaves}
use Rattle.fs_path.proofs.returning.first_leaving.Given as goal

abbrev pub invariant-loop-name : goal.invariant-loop-name
invariant-loop-name l = option_map (λ n. n.1) (find (λ n. leaves n.1 l.held) l.names) ≡ option_map (λ n. n.1) (find (λ n. leaves n.1 l.held) (drop l.name-index l.names))
