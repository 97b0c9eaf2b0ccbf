use Rattle.fs_parcel.specs.Rows.{AreRows, in_one_list}
use Rattle.tests_tables.proofs.parcel.refusing.refuse_each.Given as goal

-- the rows stay in order
abbrev pub invariant-loop-prefix : goal.invariant-loop-prefix
invariant-loop-prefix g l = AreRows (in_one_list l.s.rows l.s.modes)
