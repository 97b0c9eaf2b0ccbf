-- A session is given a lease that it asked for.
use Rattle.std.proofs.Common.{◌≡◌, ℕ, ◌≤◌, ◌⊎◌, Bool, List, [], ◌∷◌, refl, sym, ap, subst, inl, inr, arith}
use Rattle.std.specs.Prelude.{Option, None}
use Rattle.fs_ident.specs.declared.actor.Session.{Session}
use Rattle.fs_ident.proofs.Standing.{In-put_here}
use Rattle.fs_field.specs.declared.asked.Asked.TheVariants.{Granted}
use Rattle.fs_field.specs.declared.field.Field.{Field}
use Rattle.fs_field.specs.declared.lease_kind.LeaseKind.{LeaseKind}
use Rattle.fs_field.specs.declared.row.Row.{Row}
use Rattle.fs_field.specs.Table.{no_before}
use Rattle.fs_field.specs.declared.value.Value.{Value}
use Rattle.fs_msg.specs.declared.answer.Grant.{Grant}
use Rattle.fs_msg.specs.declared.item.Item.{Item}
use Rattle.fs_moderows.specs.Answer.{given_row}
use Rattle.fs_record.specs.Records.{RecordMap}
use Rattle.fs_record.specs.ValueOf.{value_of}
use Rattle.fs_server.specs.Asks.{answer_to, grant_of, kind_for, with_lease}
use Rattle.fs_server.specs.Server.{next_number, end_of}
use Rattle.fs_server.specs.declared.state.Server.{Server}
use Rattle.fs_view.specs.ViewLease.{number_of}
use Rattle.fs_serial.specs.Gone.{IsOfGone}
use Rattle.fs_serial.specs.Leases.{IsRowOf, LeasesGiven, LeasesMatch}
use Rattle.fs_serial.specs.Rows.{RowsGiven}
use Rattle.fs_serial.specs.Parts.{with_client}
use Rattle.fs_serial.specs.Settled.{Lease, Settled, granted, with_leases}
use Rattle.fs_serial.specs.Sight.{Counts, IsGiven, sight_beside}
use Rattle.fs_serial.specs.World.{Ends, GoesOn}
use Rattle.fs_serial.proofs.Lists.Counting.{given_is_other, next_is_given, next_is_new, one_more_given, still_given}
use Rattle.fs_serial.proofs.OneServer.LeaseChanges.{RowsChange, goes_leased, goes_still, reserved_none}
use Rattle.fs_serial.proofs.Grants.Granting.{apart_granted, promises_granted, shapes_granted}
use Rattle.fs_serial.proofs.Grants.Leased.{In-with_row, IsNewLease, row_relied}
use Rattle.fs_serial.proofs.OtherSessions.Relied.{relies_for}

-- the grant with this value
abbrev pub with_value : Value → Grant → Grant
with_value value g = record g { value = value }

module _ (o : Counts) (by : Session) (field : Field) (asked : LeaseKind) (promise : Option Bool) (s : Server) (journal : List Item) (stored : RecordMap) (value : Value) (right : IsOfGone s.records journal field ⊎ (value ≡ value_of s.records by field)) where
  -- the kind that the server gives
  abbrev kind : LeaseKind
  kind = kind_for field asked

  abbrev t : Server
  t = with_lease by field kind promise s

  abbrev row : Row
  row = given_row (next_number s) by field kind (end_of s) promise

  -- the lease that the session is told of; its value is the field's, unless that is of no matter any more
  abbrev pub item_lease : Lease
  item_lease = granted None (with_value value (grant_of by field kind s))

  pub row_granted : (skew greatest : ℕ) (clients : Session → Settled) → answer_to by field kind s ≡ Granted promise
      → ((x : Session) → LeasesMatch s.rows x (clients x).leases) → RowsChange skew greatest (sight_beside stored o s journal) (sight_beside stored o t journal) clients
  row_granted skew greatest clients ok matching = record {
    servers = λ h. record {
      apart = apart_granted s by field asked promise ok h.apart;
      promises = promises_granted s by field asked promise ok h.promises;
      serial = h.serial;
      reaped = h.reaped;
    };
    kept = λ f. record {
      shaped = shapes_granted s by field asked promise ok f.shaped;
      counted = λ r i. elim (In-with_row r row s.rows i) as (λ _. 1 ≤ r.no.count) [
        | inl e ↦ let c = ap (λ (x : Row). x.no.count) e in omega arith
        | inr j ↦ f.counted r j
      ];
      given = λ r i. elim (In-with_row r row s.rows i) as (λ _. IsGiven (sight_beside stored o t journal).given r.no) [
        | inl e ↦ subst (λ (x : Row). IsGiven (sight_beside stored o t journal).given x.no) (sym e) (next_is_given o s)
        | inr j ↦ still_given o s r.no (f.given r j)
      ];
      sound = f.sound;
      made = f.made;
    };
    records = refl;
    stored = refl;
    journal = refl;
    relied = λ x. relies_for skew greatest x (sight_beside stored o s journal) (sight_beside stored o t journal) (clients x).leases (matching x)
        (row_relied skew greatest x (sight_beside stored o s journal) (sight_beside stored o t journal) row refl (next_is_new o s) (one_more_given o s) (λ f. refl) refl);
  }

  pub item_new : (leases : List Lease) → RowsGiven (sight_beside stored o s journal).given s.rows → LeasesGiven (sight_beside stored o s journal).given leases → IsNewLease (sight_beside stored o t journal) by leases item_lease
  item_new leases rows given = record {
    given = next_is_given o s;
    new = λ j h e. given_is_other o s j.no (given j h) e;
    row = record { row = row; stands = In-put_here (λ x. no_before row.no x.no) row s.rows; number = refl; lasts = omega arith };
    own = λ r i e. elim (In-with_row r row s.rows i) as (λ _. IsRowOf by field kind r) [
      | inl q ↦ subst (IsRowOf by field kind) (sym q) (record { session = refl; field = refl; kind = refl })
      | inr j ↦ absurd (given_is_other o s r.no (rows r j) e)
    ];
    told = right;
    fresh = λ d e. absurd (cc);
  }

  pub item_granted : (skew greatest : ℕ) (replied : Session → List Item) (ends : Session → Ends) (clients : Session → Settled) → answer_to by field kind s ≡ Granted promise → GoesOn skew greatest (sight_beside stored o s journal) replied ends clients
      → GoesOn skew greatest (sight_beside stored o t journal) replied ends (with_client by (with_leases (item_lease ∷ []) (clients by)) clients)
  item_granted skew greatest replied ends clients ok h =
      let change = row_granted skew greatest clients ok (λ x. (h.all.fitting x).matching) in
      let new = item_new (clients by).leases h.all.kept.given (h.all.fitting by).given in
      goes_leased skew greatest (sight_beside stored o t journal) replied ends clients by item_lease new
      (λ k i leaving e. given_is_other o s (number_of k.standing) (h.carried.returns by k i leaving).fits.known (sym e))
      (reserved_none clients by item_lease stored journal refl h.all.reserved)
      (goes_still skew greatest (sight_beside stored o s journal) (sight_beside stored o t journal) replied ends clients change h)
