-- Leases that a question gets, before anything is changed.
use Rattle.std.specs.Prelude.{◌≡◌, ◌+◌, ◌≤◌, ℕ, List, length, None, Result, Ok, Err}
use Rattle.std.specs.List.{find}
use Rattle.fs_ident.specs.declared.actor.LeaseNo.{LeaseNo}
use Rattle.fs_ident.specs.declared.actor.Session.{Session}
use Rattle.fs_field.specs.declared.field.Field.{Field}
use Rattle.fs_field.specs.declared.lease_kind.LeaseKind.{LeaseKind}
use Rattle.fs_field.specs.declared.row.Row.{Row}
use Rattle.fs_field.specs.Table.{has_no}
use Rattle.fs_rows.specs.Granted.{with_rows}
use Rattle.fs_record.specs.ValueOf.{value_of}
use Rattle.fs_msg.specs.declared.answer.Grant.{Grant}
use Rattle.fs_msg.specs.declared.end.End.{End}
use Rattle.fs_msg.specs.declared.end.End.TheVariants as end
use Rattle.fs_msg.specs.declared.core_error.CoreError.{CoreError}
use Rattle.fs_msg.specs.declared.core_error.CoreError.TheVariants as error
use Rattle.fs_record.specs.declared.error.FreshError.{FreshError}
use Rattle.fs_record.specs.declared.error.FreshError.TheVariants as fresh
use Rattle.fs_server.specs.declared.fresh.Got.{Got}
use Rattle.fs_server.specs.declared.grants.Grants.{Grants}
use Rattle.fs_server.specs.declared.state.Server.{Server}
use Rattle.fs_server.specs.declared.change.Change.TheVariants as change
use Rattle.fs_server.specs.Asks.{Asking, answer_to}
use Rattle.fs_server.specs.Plan.{AreRows, IsServer, changed}
use Rattle.fs_server.specs.Server.{end_of}

-- a server, and its rows in order
pub record IsReady (s : Server) : Type 0 where
  pub server : IsServer s
  pub table : AreRows s.rows

-- the server where the leases of these rows are given
abbrev pub with_leases : List Row → Server → Server
with_leases rows s = record s { given = s.given + length rows; rows = with_rows rows s.rows }

-- the rows are those of leases that the session is given, each with the next number
pub record IsLent (by : Session) (rows : List Row) (s : Server) : Type 0 where
  -- they change no answer to the session
  pub answers : (field : Field) (kind : LeaseKind) → answer_to by field kind (with_leases rows s) ≡ answer_to by field kind s
  -- no number was given before
  pub new : (number : LeaseNo) → (number.server ≡ s.me → number.count ≤ s.given)
      → find (has_no number) (with_rows rows s.rows) ≡ find (has_no number) s.rows
  pub ready : IsReady (with_leases rows s)

-- what a session is told of the lease of this number
abbrev pub numbered_grant : LeaseNo → Session → Field → LeaseKind → Server → Grant
numbered_grant number by field kind s = record {
  no = number;
  field = field;
  kind = kind;
  until = end_of s;
  value = value_of s.records by field;
}

-- how a question ends that gets no identifier below the directory
abbrev pub end_without : FreshError → List ℕ → Result End CoreError
end_without fresh.NoDir dir = Ok end.All
end_without fresh.NoIds dir = Ok (end.NoIds dir)
end_without fresh.Memory dir = Err error.Memory

-- the server and the answer where these leases are given
abbrev pub lent_by : Grants → End → Server → Asking
lent_by lent e s = record { server = with_leases lent.rows s; grants = lent.grants; fresh = None; end = e }

-- the server and the answer where the question got this
abbrev pub got_by : Got → Server → Asking
got_by got s = record {
  server = changed (change.Grant got.lent.rows got.gift) s;
  grants = got.lent.grants;
  fresh = got.fresh;
  end = got.end;
}
