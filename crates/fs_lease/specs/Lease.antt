-- The states of a lease.
use Rattle.std.specs.Prelude.{ℕ, List}
use Rattle.fs_ident.specs.declared.actor.LeaseNo.{LeaseNo}
use Rattle.fs_field.specs.declared.field.Field.{Field}
use Rattle.fs_field.specs.declared.lease_kind.LeaseKind.{LeaseKind}

-- a lease and the reading from which on it is not used
pub record Lease : Type 0 where
  pub no : LeaseNo
  pub field : Field
  pub kind : LeaseKind
  pub until : ℕ

-- a lease that so many entries use
pub record InUse : Type 0 where
  pub lease : Lease
  pub entries : ℕ

-- a lease on its way back, by its number and its file
pub record OnItsWay : Type 0 where
  pub no : LeaseNo
  pub file : List ℕ
