use Rattle.std.proofs.Common.{◌≡◌, ◌≤◌, ℕ, Option, drop, length, map}
use Rattle.fs_ident.specs.declared.actor.LeaseNo.{LeaseNo}
use Rattle.fs_client.specs.Answers.{begins_numbers}
use Rattle.fs_client.proofs.fits.begins_numbers.Given as goal

abbrev pub invariant-loop-at : goal.invariant-loop-at
invariant-loop-at l = record {
  within : l.at ≤ length l.sent;
  same : begins_numbers (drop l.at l.sent) (map (λ (row : LeaseNo × Option ℕ). row.0) (drop l.at l.rows)) ≡ begins_numbers l.sent (map (λ (row : LeaseNo × Option ℕ). row.0) l.rows);
}
