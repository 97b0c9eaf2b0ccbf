use Rattle.std.proofs.Common.{◌≡◌, ◌&&◌, ◌++◌, List, ℕ}
use Rattle.std.specs.List.{find}
use Rattle.std.specs.Option.{option_copied}
use Rattle.fs_ident.specs.declared.actor.LeaseNo.{LeaseNo}
use Rattle.fs_field.specs.Table.{is_live}
use Rattle.fs_rows.specs.Index.{is_listed}
use Rattle.fs_rows.specs.Sought.{passes}
use Rattle.fs_rows.proofs.seek.least_named.Given as goal

abbrev pub invariant-loop-entry : goal.invariant-loop-entry
invariant-loop-entry l = (done : List (List ℕ × List LeaseNo)) × ((done ++ l.entry-iterator ≡ l.named.entries) × (option_copied l.least ≡ find (λ r. is_listed r.no done && (is_live l.now l.skew r && passes l.sought r)) l.rows))
