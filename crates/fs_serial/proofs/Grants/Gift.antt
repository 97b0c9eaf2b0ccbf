-- A directory gives an identifier to a session.
use Rattle.std.proofs.Common.{◌≡◌, ℕ, ◌≤◌, true, false, List, [], ◌∷◌, ◌++◌, cond, map, append_assoc, refl, sym, ap, ◌∙◌, subst, inl, inr, arith}
use Rattle.std.specs.Prelude.{◌≢◌, Some, None}
use Rattle.std.specs.FinMap.{get}
use Rattle.std.proofs.lemmas.List.{map-append}
use Rattle.std.proofs.lemmas.Bool.{false_from_ne_true}
use Rattle.fs_ident.specs.In.{In}
use Rattle.fs_ident.specs.Ident.{child, parent, same}
use Rattle.fs_ident.specs.declared.actor.Session.{Session}
use Rattle.fs_ident.proofs.Standing.{In-put_here}
use Rattle.fs_ident.proofs.Same.{same_is, same_self}
use Rattle.fs_field.specs.declared.field.Field.{Field}
use Rattle.fs_field.specs.declared.field.Field.TheVariants.{Life, Child, Names, Info, Own, SelfW, Other}
use Rattle.fs_field.specs.declared.lease_kind.LeaseKind.TheVariants.{Exclusive}
use Rattle.fs_field.specs.declared.row.Row.{Row}
use Rattle.fs_field.specs.declared.value.Value.TheVariants as value
use Rattle.fs_field.specs.Conflict.{NoPlainConflict}
use Rattle.fs_field.specs.Field.{file_of, same_field}
use Rattle.fs_field.specs.Table.{no_before, borne_numbers}
use Rattle.fs_field.proofs.Leases.{NoPlainConflict-with_row}
use Rattle.fs_model.specs.Sound.{kind_of}
use Rattle.fs_rows.proofs.Bearing.{gift_goes as gift_alone, not_on}
use Rattle.fs_msg.specs.declared.answer.Answer.TheVariants.{Granted}
use Rattle.fs_msg.specs.declared.answer.Grant.{Grant}
use Rattle.fs_msg.specs.declared.end.End.{End}
use Rattle.fs_msg.specs.declared.item.Item.{Item}
use Rattle.fs_record.specs.Fresh.{IsLeastFree, fresh_number, is_borne, is_directory, records_after_gift}
use Rattle.fs_record.specs.Records.{RecordMap, node_of, next_of}
use Rattle.fs_record.proofs.NumbersRise.{number_least}
use Rattle.fs_moderows.specs.Answer.{given_row}
use Rattle.fs_server.specs.Asks.{Asking, grant_of, with_fresh}
use Rattle.fs_server.specs.Server.{next_number, end_of}
use Rattle.fs_server.specs.declared.state.Server.{Server}
use Rattle.fs_view.specs.declared.view_lease.ViewLease.{ViewLease}
use Rattle.fs_view.specs.ViewLease.{number_of}
use Rattle.fs_serial.specs.Exchange.{ReturnsFit}
use Rattle.fs_serial.specs.Fresh.{IsMade, reserved_by}
use Rattle.fs_serial.specs.World.{Ends, GoesOn}
use Rattle.fs_serial.proofs.OtherSessions.Gone.{all_anew}
use Rattle.fs_serial.proofs.OneServer.LeaseChanges.{carried_leased, carried_still}
use Rattle.fs_serial.specs.Laws.{IsGift, GiftIsRelied, GiftIsTold, GiftKeepsParts, GiftReturnsNone, lease_given, with_given}
use Rattle.fs_serial.specs.Leases.{IsFresh, IsRowOf, LeasesGiven}
use Rattle.fs_serial.specs.Parts.{AllHold, with_client, ServersHold, ServersFit, SessionHolds, SessionFits}
use Rattle.fs_serial.specs.Relies.{Relies}
use Rattle.fs_client.specs.Turns.{pair_of}
use Rattle.fs_serial.specs.Rows.{RowsCounted, RowsGiven}
use Rattle.fs_serial.specs.Serial.{AreSound}
use Rattle.fs_serial.specs.Settled.{Lease, Settled, granted, told, with_leases}
use Rattle.fs_serial.specs.Sight.{Counts, Sight, sight_beside, IsGiven}
use Rattle.fs_serial.proofs.Lists.Children.{parent_child}
use Rattle.fs_serial.proofs.Lists.Journals.{each_more, below_itself}
use Rattle.fs_serial.proofs.Lists.Counting.{given_is_other, next_is_given, next_is_new, one_more_given, still_given}
use Rattle.fs_serial.proofs.Grants.Claims.{unmade_dead}
use Rattle.fs_serial.proofs.Grants.GiftReserved.{directory_made, reserved_still, reserved_then}
use Rattle.fs_serial.proofs.Grants.GiftedRecords.{made_still, serial_still, sound_still, values_stay}
use Rattle.fs_serial.proofs.Grants.Granting.{shapes_beside}
use Rattle.fs_serial.proofs.Grants.Leased.{In-with_row, IsNewLease, leased_fits, leased_holds, row_relied}
use Rattle.fs_serial.proofs.Grants.Promises.{promises_beside, promises_gift}
use Rattle.fs_serial.proofs.OtherSessions.Older.{later_pair}
use Rattle.fs_serial.proofs.OtherSessions.Together.{each_session}
use Rattle.fs_serial.proofs.OtherSessions.Relied.{relies_for, relied_fits, relied_holds}

same_file : (g : Field) (id : List ℕ) → (file_of g ≡ id → ⊥) → same_field g (Life id) ≡ false
same_file (Life b) id h = false_from_ne_true (same b id) (λ e. h (same_is b id e))
same_file (Child b n) id h = refl
same_file (Names b) id h = refl
same_file (Info b) id h = refl
same_file (Own b) id h = refl
same_file (SelfW b m) id h = refl
same_file (Other b m) id h = refl

-- ## The gift

-- the records that are stored are given beside those that all hold together: in these the directory may be gone
module _ (o : Counts) (by : Session) (dir : List ℕ) (k : ℕ) (a : Asking) (journal : List Item) (stored : RecordMap)
    (free : is_borne (borne_numbers dir a.server.rows) k ≡ false) where
  abbrev s : Server
  s = a.server

  abbrev t : Server
  t = (with_fresh by dir k a).server

  abbrev row : Row
  row = given_row (next_number s) by (Life (child dir k)) Exclusive (end_of s) None

  abbrev before : Sight
  before = sight_beside stored o s journal

  abbrev pub after : Sight
  after = sight_beside (records_after_gift stored dir (Some k)) o t journal

  apart : ServersHold before → NoPlainConflict t.rows
  apart h = NoPlainConflict-with_row row s.rows (gift_alone by dir k Exclusive s.rows free) h.apart

  rows_given : ServersFit before → RowsGiven after.given t.rows
  rows_given f r i = elim (In-with_row r row s.rows i) as (λ _. IsGiven after.given r.no) [
    | inl e ↦ subst (λ (x : Row). IsGiven after.given x.no) (sym e) (next_is_given o s)
    | inr j ↦ still_given o s r.no (f.given r j)
  ]

  rows_counted : ServersFit before → RowsCounted t.rows
  rows_counted f r i = elim (In-with_row r row s.rows i) as (λ _. 1 ≤ r.no.count) [
    | inl e ↦ let c = ap (λ (x : Row). x.no.count) e in omega arith
    | inr j ↦ f.counted r j
  ]

  pub gift_holds : ServersHold before → ServersHold after
  gift_holds h = record {
    apart = apart h;
    promises = promises_gift s.records t.rows dir k (promises_beside s.records row s.rows refl h.promises);
    serial = serial_still s.records dir k journal h.serial;
    reaped = h.reaped;
  }

  pub gift_fits : (AreSound s.records → AreSound t.records) → ServersFit before → ServersFit after
  gift_fits sound f = record {
    shaped = shapes_beside row s.rows refl f.shaped;
    counted = rows_counted f;
    given = rows_given f;
    sound = sound f.sound;
    made = made_still s.records dir k journal f.made;
  }

  pub gift_relied : (skew greatest : ℕ) (x : Session) → Relies skew greatest x before after
  gift_relied skew greatest x = row_relied skew greatest x before after row refl (next_is_new o s) (one_more_given o s) (λ field. values_stay s.records dir k x field) refl

  -- ## The lease

  abbrev l : Lease
  l = lease_given by dir k s

  below_is : l.below ≡ Some dir
  below_is = ap (λ b. cond b (parent (child dir k)) None) (same_self (child dir k)) ∙ parent_child dir k

  dead : ServersFit before → (IsMade journal (child dir k) → ⊥) → kind_of (node_of (get s.records (child dir k))) ≡ None
  dead f unmade = unmade_dead s.records journal (child dir k) f.made unmade

  fresh : ServersFit before → (IsMade journal (child dir k) → ⊥) → (d : List ℕ) → l.below ≡ Some d → IsFresh d l
  fresh f unmade d e =
      let q : Some dir ≡ Some d = sym below_is ∙ e in
      let is : dir ≡ d = cc in
      record { number = k; field = ap (λ x. Life (child x k)) is; kind = refl; base = ap value.Life (dead f unmade) }

  pub new_lease : ServersFit before → (leases : List Lease) → (IsMade journal (child dir k) → ⊥) → LeasesGiven before.given leases → IsNewLease after by leases l
  new_lease f leases unmade given = record {
    given = next_is_given o s;
    new = λ j h e. given_is_other o s j.no (given j h) e;
    row = record { row = row; stands = In-put_here (λ x. no_before row.no x.no) row s.rows; number = refl; lasts = omega arith };
    own = λ r i e. elim (In-with_row r row s.rows i) as (λ _. IsRowOf by l.field l.kind r) [
      | inl q ↦ subst (IsRowOf by l.field l.kind) (sym q) (record { session = refl; field = refl; kind = refl })
      | inr j ↦ absurd (given_is_other o s r.no (f.given r j) e)
    ];
    told = inr (sym (values_stay s.records dir k by (Life (child dir k))));
    fresh = fresh f unmade;
  }

  -- what goes back is no lease that is given
  pub returned_still : (kept : List ViewLease) (leases : List Lease) → ReturnsFit before.given s.rows by kept leases → ReturnsFit after.given t.rows by kept (leases ++ l ∷ [])
  returned_still kept leases h j i leaving =
      let q = h j i leaving in
      let rely = gift_relied 0 0 by in
      record {
        fits = later_pair before.given after.given s.rows t.rows (record { given = rely.given; older = rely.older }) (pair_of j) q.fits;
        alone = each_more (λ (x : Lease). x.no ≢ number_of j.standing) leases l q.alone (λ e. given_is_other o s (number_of j.standing) q.fits.known (sym e));
        own = λ r z e. elim (In-with_row r row s.rows z) as (λ _. r.session ≡ by) [
          | inl is ↦ absurd (given_is_other o s (number_of j.standing) q.fits.known (sym e ∙ ap (λ (x : Row). x.no) is))
          | inr old ↦ q.own r old e
        ];
      }

  -- ## The answer

  -- leases on other files are as they would be without the identifier
  granted_alike : (gs : List Grant) → ((g : Grant) → In g gs → file_of g.field ≡ child dir k → ⊥) → map (granted (Some (child dir k))) gs ≡ map (granted None) gs
  granted_alike [] h = refl
  granted_alike (g ∷ gs) h =
      ap (λ b. (let x : Lease = record { no = g.no; field = g.field; kind = g.kind; until = g.until; base = g.value; below = cond b (parent (child dir k)) None } in x) ∷ map (granted (Some (child dir k))) gs) (same_file g.field (child dir k) (h g (inl refl)))
      ∙ ap (λ ls. granted None g ∷ ls) (granted_alike gs (λ x i. h x (inr i)))

  -- what the session is told with it is the lease, behind those that it is given
  pub told_with : (d : Settled) (e : End) → ((g : Grant) → In g a.grants → (r : Row) × In r s.rows × (r.field ≡ g.field)) → told by (Granted (with_fresh by dir k a).grants (with_fresh by dir k a).fresh e) d ≡ with_given by dir k s (told by (Granted a.grants None e) d)
  told_with d e rows =
      let other : (g : Grant) → In g a.grants → file_of g.field ≡ child dir k → ⊥ = λ g i q. let r = rows g i in not_on dir k s.rows free r.0 r.1 (ap file_of r.2 ∙ q) in
      ap (λ ls. with_leases ls d) (map-append (granted (Some (child dir k))) a.grants (grant_of by (Life (child dir k)) Exclusive s ∷ []) ∙ ap (λ ls. ls ++ l ∷ []) (granted_alike a.grants other))
      ∙ ap (λ ls. let x : Settled = record d { leases = ls } in x) (sym (append_assoc d.leases (map (granted None) a.grants) (l ∷ [])))

-- what it is when it is given: the directory stood in the records that are stored, and was made
module _ (o : Counts) (by : Session) (dir : List ℕ) (k : ℕ) (a : Asking) (journal : List Item) (stored : RecordMap)
    (here : is_directory stored dir ≡ true) (number : fresh_number stored dir (borne_numbers dir a.server.rows) ≡ Some k)
    (made : IsMade journal dir) (sound : AreSound a.server.records → AreSound (with_fresh by dir k a).server.records)
    (skew greatest : ℕ) (replied : Session → List Item) (clients : Session → Settled) where
  least : IsLeastFree (next_of (get stored dir)) (borne_numbers dir a.server.rows) k
  least = number_least stored dir (borne_numbers dir a.server.rows) k number

  abbrev first : Sight
  first = sight_beside stored o a.server journal

  abbrev second : Sight
  second = sight_beside (records_after_gift stored dir (Some k)) o (with_fresh by dir k a).server journal

  abbrev given : Lease
  given = lease_given by dir k a.server

  unmade : AllHold skew greatest first replied clients → IsMade journal (child dir k) → ⊥
  unmade all was = all.reserved.made_before dir k (child dir k) here least.from was (below_itself (child dir k))

  new : AllHold skew greatest first replied clients → IsNewLease second by (clients by).leases given
  new all = new_lease o by dir k a journal stored least.free all.kept (clients by).leases (unmade all) (all.fitting by).given

  relied : (x : Session) → Relies skew greatest x first second
  relied = gift_relied o by dir k a journal stored least.free skew greatest

  pub gift_keeps : AllHold skew greatest first replied clients → AllHold skew greatest second replied (with_client by (with_given by dir k a.server (clients by)) clients)
  gift_keeps all =
      let fits : (x : Session) → SessionFits skew greatest second x (clients x) = λ x. relied_fits skew greatest x first second (clients x) (relied x) (all.fitting x) in
      let holds : (x : Session) → SessionHolds skew greatest second x (replied x) (clients x) = λ x. relied_holds skew greatest x first second (clients x) (relied x) (all.fitting x) (all_anew skew greatest first replied clients all x) (replied x) (all.sessions x) in
      record {
        servers = gift_holds o by dir k a journal stored least.free all.servers;
        kept = gift_fits o by dir k a journal stored least.free sound all.kept;
        sessions = each_session (λ x d. SessionHolds skew greatest second x (replied x) d) by (with_leases (given ∷ []) (clients by)) clients (leased_holds skew greatest by second (clients by) given (new all) (fits by) (replied by) (holds by)) (λ x other. holds x);
        fitting = each_session (λ x d. SessionFits skew greatest second x d) by (with_leases (given ∷ []) (clients by)) clients (leased_fits skew greatest by second (clients by) given (new all) (fits by) (gift_fits o by dir k a journal stored least.free sound all.kept).made) (λ x other. fits x);
        reserved = reserved_still stored journal dir k here least.from made (reserved_by clients) (reserved_by (with_client by (with_given by dir k a.server (clients by)) clients)) by (next_number a.server) (reserved_then clients by given) all.reserved;
      }

  -- while the server's event goes on
  pub gift_goes : (ends : Session → Ends) → GoesOn skew greatest first replied ends clients → GoesOn skew greatest second replied ends (with_client by (with_given by dir k a.server (clients by)) clients)
  gift_goes ends h = record {
    all = gift_keeps h.all;
    carried = carried_leased skew greatest second replied ends clients by given (new h.all)
        (λ j i leaving e. given_is_other o a.server (number_of j.standing) (h.carried.returns by j i leaving).fits.known (sym e))
        (carried_still skew greatest first second ends clients (λ x. relies_for skew greatest x first second (clients x).leases (h.all.fitting x).matching (relied x)) h.all.fitting h.carried);
  }

-- ## Where nothing is decided

pub number_free : (dir : List ℕ) (k : ℕ) (s : Server) → IsGift dir k s → is_borne (borne_numbers dir s.rows) k ≡ false
number_free dir k s gift = (number_least s.records dir (borne_numbers dir s.rows) k gift.1).free

pub gift_keeps_parts : GiftKeepsParts
gift_keeps_parts o skew greatest a journal replied clients by dir k all gift =
    gift_keeps o by dir k a journal a.server.records gift.0 gift.1 (directory_made a.server.records journal dir all.kept.made gift.0)
    (sound_still a.server.records dir k (borne_numbers dir a.server.rows) gift.1) skew greatest replied clients all

pub gift_is_relied : GiftIsRelied
gift_is_relied o skew greatest a journal by x dir k gift = gift_relied o by dir k a journal a.server.records (number_free dir k a.server gift) skew greatest x

pub gift_returns_none : GiftReturnsNone
gift_returns_none o a journal by dir k kept d gift = returned_still o by dir k a journal a.server.records (number_free dir k a.server gift) kept d.leases

none_other : Counts
none_other = record { given = λ k. 0; reaps = λ k. 0 }

pub gift_is_told : GiftIsTold
gift_is_told a by dir k d e gift rows = told_with none_other by dir k a [] a.server.records (number_free dir k a.server gift) d e rows
