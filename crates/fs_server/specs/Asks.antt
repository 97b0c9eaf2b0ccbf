-- A question for leases.
use Rattle.std.specs.Prelude.{ℕ, ◌+◌, Bool, true, false, List, [], ◌∷◌, ◌++◌, length, Option, Some, None, if◌then◌else◌}
use Rattle.std.specs.List.{find}
use Rattle.fs_ident.specs.Ident.{child}
use Rattle.fs_ident.specs.declared.actor.LeaseNo.{LeaseNo}
use Rattle.fs_ident.specs.declared.actor.Session.{Session}
use Rattle.fs_ident.specs.declared.actor.Peer.{Peer}
use Rattle.fs_field.specs.declared.asked.Asked.{Asked}
use Rattle.fs_field.specs.declared.asked.Asked.TheVariants.{Granted, Wait, Locked}
use Rattle.fs_field.specs.declared.field.Field.{Field}
use Rattle.fs_field.specs.declared.field.Field.TheVariants.{Life, Own, SelfW, Other}
use Rattle.fs_field.specs.declared.lease_kind.LeaseKind.{LeaseKind}
use Rattle.fs_field.specs.declared.lease_kind.LeaseKind.TheVariants.{Shared, Exclusive}
use Rattle.fs_field.specs.declared.row.Row.{Row}
use Rattle.fs_field.specs.Field.{file_of}
use Rattle.fs_field.specs.Table.{has_no, with_row, borne_numbers}
use Rattle.fs_rows.specs.Answer.{answer}
use Rattle.fs_moderows.specs.Answer.{answer_self, answer_other, given_row}
use Rattle.fs_record.specs.Fresh.{fresh_number, is_directory, records_after_gift}
use Rattle.fs_record.specs.ValueOf.{value_of, selves_in}
use Rattle.fs_msg.specs.declared.answer.Answer.TheVariants as reply
use Rattle.fs_msg.specs.declared.answer.Grant.{Grant}
use Rattle.fs_msg.specs.declared.end.End.{End}
use Rattle.fs_msg.specs.declared.end.End.TheVariants as end
use Rattle.fs_msg.specs.declared.msg.Msg.{Msg}
use Rattle.fs_msg.specs.declared.server_note.ServerNote.TheVariants as note
use Rattle.fs_server.specs.declared.state.Server.{Server}
use Rattle.fs_server.specs.Server.{Stepped, next_number, end_of, is_mine, moved, to_session}

-- a session's handles are its own, and so is what it tells of a mode: it alone may lease these. What others tell of a
-- mode is only read
abbrev pub kind_for : Field → LeaseKind → LeaseKind
kind_for (Own file) kind = Exclusive
kind_for (SelfW file m) kind = Exclusive
kind_for (Other file m) kind = Shared
kind_for field kind = kind

-- the answer to the session's question for such a lease; over a mode it depends on who has handles on the file
abbrev pub answer_to : Session → Field → LeaseKind → Server → Asked
answer_to by (SelfW file m) kind s = answer_self (selves_in s.records file) s.rows by file m
answer_to by (Other file m) kind s = answer_other (selves_in s.records file) s.rows by file m
answer_to by field kind s = answer s.rows by field kind

-- one lease more: its number is used up, and its row stands, with what it promises
abbrev pub with_lease : Session → Field → LeaseKind → Option Bool → Server → Server
with_lease by field kind promise s = record s {
  given = s.given + 1;
  rows = with_row (given_row (next_number s) by field kind (end_of s) promise) s.rows;
}

-- what the session is told of that lease
abbrev pub grant_of : Session → Field → LeaseKind → Server → Grant
grant_of by field kind s = record { no = next_number s; field = field; kind = kind; until = end_of s; value = value_of s.records by field }

-- the server and the answer so far
pub record Asking : Type 0 where
  pub server : Server
  pub grants : List Grant
  pub fresh : Option (List ℕ)
  pub end : End

-- the items in order, up to the first that cannot be given, or whose file is with another server
abbrev pub ask_from : Session → List (Field × LeaseKind) → Server → List Grant → Asking
ask_from by [] s grants = record { server = s; grants = grants; fresh = None; end = end.All }
ask_from by (x ∷ xs) s grants =
    if is_mine s (file_of x.0) then
    elim (answer_to by x.0 (kind_for x.0 x.1) s) as (λ _. Asking) [
      | Granted promise ↦ ask_from by xs (with_lease by x.0 (kind_for x.0 x.1) promise s)
          (grants ++ grant_of by x.0 (kind_for x.0 x.1) s ∷ [])
      | Wait blocker ↦ record { server = s; grants = grants; fresh = None; end = end.Wait blocker }
      | Locked txn ↦ record { server = s; grants = grants; fresh = None; end = end.Locked txn }
    ]
    else record { server = s; grants = grants; fresh = None; end = moved s (file_of x.0) }

-- ## An identifier for a new file

-- it is the directory's next free number; an exclusive lease on its life comes with it
abbrev pub with_fresh : Session → List ℕ → ℕ → Asking → Asking
with_fresh by dir k a = record {
  server = record (with_lease by (Life (child dir k)) Exclusive None a.server) {
    records = records_after_gift a.server.records dir (Some k);
  };
  grants = a.grants ++ grant_of by (Life (child dir k)) Exclusive a.server ∷ [];
  fresh = Some (child dir k);
  end = end.All;
}

abbrev pub fresh_of : Session → List ℕ → Option ℕ → Asking → Asking
fresh_of by dir (Some k) a = with_fresh by dir k a
fresh_of by dir None a = record a { end = end.NoIds dir }

-- one that is no directory gives none, and is not spoken of
abbrev pub fresh_in : Session → List ℕ → Bool → Asking → Asking
fresh_in by dir true a = fresh_of by dir (fresh_number a.server.records dir (borne_numbers dir a.server.rows)) a
fresh_in by dir false a = a

abbrev pub fresh_for : Session → Option (List ℕ) → Asking → Asking
fresh_for by None a = a
fresh_for by (Some dir) a =
    if is_mine a.server dir then fresh_in by dir (is_directory a.server.records dir) a else record a { end = moved a.server dir }

-- only where all items were given
abbrev pub ask_fresh : Session → Option (List ℕ) → End → Asking → Asking
ask_fresh by dir end.All a = fresh_for by dir a
ask_fresh by dir e a = a

abbrev pub asked_in : Session → List (Field × LeaseKind) → Option (List ℕ) → Server → Asking
asked_in by items dir s = let a = ask_from by items s [] in ask_fresh by dir a.end a

-- ## The answer

-- the lease of this row is asked back from its session
abbrev pub recall_of : LeaseNo → Option Row → List (Peer × Msg)
recall_of number None = []
recall_of number (Some row) = to_session row.session (reply.Recall number) ∷ []

-- what stands in the way is asked back
abbrev pub recalls_at : End → List Row → List (Peer × Msg)
recalls_at (end.Wait blocker) rows = recall_of blocker (find (has_no blocker) rows)
recalls_at e rows = []

abbrev pub answered : Session → Asking → Stepped
answered by a = record {
  server = a.server;
  out = record {
    note = note.Grants (length a.grants) a.end;
    send = to_session by (reply.Granted a.grants a.fresh a.end) ∷ recalls_at a.end a.server.rows;
    admitted = [];
  };
}

abbrev pub ask_step : Session → List (Field × LeaseKind) → Option (List ℕ) → Server → Stepped
ask_step by items dir s = answered by (asked_in by items dir s)
