-- What steps of a server that lock and unlock nothing leave of its locked rows.
use Rattle.std.proofs.Common.{◌≡◌, ◌⊎◌, ◌==◌, ◌||◌, not, ℕ, nat_lt, Bool, true, false, List, [], ◌∷◌, refl, sym, ap, ◌∙◌, cond, inl, inr, filter, map}
use Rattle.std.specs.Prelude.{◌+◌, Option, Some, None, is_some}
use Rattle.std.specs.FinMap.{get}
use Rattle.fs_ident.specs.In.{In}
use Rattle.fs_ident.specs.declared.actor.LeaseNo.{LeaseNo}
use Rattle.fs_ident.specs.declared.actor.Session.{Session}
use Rattle.fs_ident.specs.declared.actor.PathNo.{PathNo}
use Rattle.fs_ident.specs.declared.actor.TxnNo.{TxnNo}
use Rattle.fs_ident.proofs.Standing.{In-filter, In-map, In-mapped, In-put}
use Rattle.fs_field.specs.Field.{file_of}
use Rattle.fs_field.specs.Table.{has_no, is_live, no_before, renewed_row, with_row}
use Rattle.fs_field.specs.declared.field.Field.{Field}
use Rattle.fs_field.specs.declared.lease_kind.LeaseKind.{LeaseKind}
use Rattle.fs_field.specs.declared.row.Row.{Row}
use Rattle.fs_field.proofs.Leases.{SameLease, renewed_same}
use Rattle.fs_field.proofs.SameNo.{same_no_is}
use Rattle.fs_map.specs.Lists.{piece_of}
use Rattle.fs_map.specs.Map.{Owners, is_given, longest, server_of}
use Rattle.fs_map.proofs.Owned.{piece_piece}
use Rattle.fs_parcel.specs.Parcel.{busy_or, move_refusal, not_mine, paths_out}
use Rattle.fs_parcel.specs.declared.error.MoveError.{MoveError}
use Rattle.fs_parcel.specs.declared.error.MoveError.TheVariants as move
use Rattle.fs_parcel.proofs.Refused.{is_mine}
use Rattle.fs_parcel.proofs.Both.{passing}
use Rattle.fs_record.specs.Records.{RecordMap}
use Rattle.fs_rows.specs.Granted.{with_rows}
use Rattle.fs_rows.specs.Moving.{is_on_given, least_of, lock_below, locked_in, rows_given, rows_left}
use Rattle.fs_server.specs.Pairs.{released_rows, renewed_rows}
use Rattle.fs_txn.specs.Locks.{IsLocked, LeavesLocks}
use Rattle.fs_txn.proofs.Keys.{kept_in}
use Rattle.fs_serial.proofs.DecidedEffects.GuardRows.{renewed_lock}
use Rattle.fs_serial.proofs.Grants.Leased.{In-put_still}

-- ## One step, and several

locked_so : (rows : List Row) (r q : Row) (txn : TxnNo) → In q rows → SameLease r q → q.lock ≡ Some txn
    → IsLocked rows txn r.session r.no r.field r.kind
locked_so rows r q txn i same e =
    record {
      has = record { row = q; stands = i; number = same.number; session = same.session; field = same.field; kind = same.kind };
      lock = e;
    }

locked_itself : (rows : List Row) (r : Row) (txn : TxnNo) → In r rows → r.lock ≡ Some txn → IsLocked rows txn r.session r.no r.field r.kind
locked_itself rows r txn i e = locked_so rows r r txn i (record { number = refl; session = refl; field = refl; kind = refl }) e

pub locks_itself : (rows : List Row) → LeavesLocks rows rows
locks_itself rows = record { stays = λ r i txn e. locked_itself rows r txn i e; older = λ r i txn e. locked_itself rows r txn i e }

passed_on : (rows new : List Row) (txn : TxnNo) (by : Session) (n : LeaseNo) (on : Field) (kind : LeaseKind)
    → ((r : Row) → In r rows → r.lock ≡ Some txn → IsLocked new txn r.session r.no r.field r.kind) → IsLocked rows txn by n on kind
    → IsLocked new txn by n on kind
passed_on rows new txn by n on kind on_to x =
    let q = on_to x.has.row x.has.stands x.lock in
    record {
      has = record {
        row = q.has.row;
        stands = q.has.stands;
        number = q.has.number ∙ x.has.number;
        session = q.has.session ∙ x.has.session;
        field = q.has.field ∙ x.has.field;
        kind = q.has.kind ∙ x.has.kind;
      };
      lock = q.lock;
    }

pub locks_then : (a b c : List Row) → LeavesLocks a b → LeavesLocks b c → LeavesLocks a c
locks_then a b c f g = record {
  stays = λ r i txn e. passed_on b c txn r.session r.no r.field r.kind (λ q j l. g.stays q j txn l) (f.stays r i txn e);
  older = λ r i txn e. passed_on b a txn r.session r.no r.field r.kind (λ q j l. f.older q j txn l) (g.older r i txn e);
}

-- ## Rows that change otherwise

pub locks_mapped : (f : Row → Row) → ((r : Row) → SameLease r (f r)) → ((r : Row) → (f r).lock ≡ r.lock) → (rows : List Row)
    → LeavesLocks rows (map f rows)
locks_mapped f same lock rows = record {
  stays = λ r i txn e. locked_so (map f rows) r (f r) txn (In-mapped f r rows i) (same r) (lock r ∙ e);
  older = λ r i txn e.
      let q = In-map f r rows i in
      let was = same q.0 in
      locked_so rows r q.0 txn q.1.0 (record {
        number = sym (ap (λ (z : Row). z.no) q.1.1 ∙ was.number);
        session = sym (ap (λ (z : Row). z.session) q.1.1 ∙ was.session);
        field = sym (ap (λ (z : Row). z.field) q.1.1 ∙ was.field);
        kind = sym (ap (λ (z : Row). z.kind) q.1.1 ∙ was.kind);
      }) (sym (lock q.0) ∙ ap (λ (z : Row). z.lock) (sym q.1.1) ∙ e);
}

pub locks_renewed : (until : ℕ) (ns : List LeaseNo) (rows : List Row) → LeavesLocks rows (renewed_rows until ns rows)
locks_renewed until [] rows = locks_itself rows
locks_renewed until (n ∷ ns) rows =
    locks_then rows (map (renewed_row n until) rows) (renewed_rows until ns (map (renewed_row n until) rows))
    (locks_mapped (renewed_row n until) (renewed_same n until) (renewed_lock n until) rows)
    (locks_renewed until ns (map (renewed_row n until) rows))

-- ## Rows that go

-- those that are locked pass
pub locks_filtered : (test : Row → Bool) (rows : List Row) → ((r : Row) → In r rows → is_some r.lock ≡ true → test r ≡ true)
    → LeavesLocks rows (filter test rows)
locks_filtered test rows pass = record {
  stays = λ r i txn e. locked_itself (filter test rows) r txn (kept_in test r rows i (pass r i (ap is_some e))) e;
  older = λ r i txn e. locked_itself rows r txn (In-filter test r rows i) e;
}

-- a locked row is never over
pub locks_begun : (now skew : ℕ) (rows : List Row) → LeavesLocks rows (filter (is_live now skew) rows)
locks_begun now skew rows = locks_filtered (is_live now skew) rows (λ r i e. ap (λ b. b || nat_lt now (r.until + skew)) e)

unlocked_is : (o : Option TxnNo) → o ≡ None → is_some o ≡ true → ⊥
unlocked_is o e h = let wrong : false ≡ true = ap is_some (sym e) ∙ h in absurd (cc wrong)

-- rows go back that no transaction has
pub locks_released : (ns : List LeaseNo) (rows : List Row) → ((n : LeaseNo) → In n ns → (r : Row) → In r rows → r.no ≡ n → r.lock ≡ None)
    → LeavesLocks rows (released_rows ns rows)
locks_released [] rows free = locks_itself rows
locks_released (n ∷ ns) rows free =
    locks_then rows (filter (λ r. not (has_no n r)) rows) (released_rows ns (filter (λ r. not (has_no n r)) rows))
    (locks_filtered (λ r. not (has_no n r)) rows (λ r i e. other r i e (has_no n r) refl))
    (locks_released ns (filter (λ r. not (has_no n r)) rows) (λ m j r i. free m (inr j) r (In-filter (λ y. not (has_no n y)) r rows i)))
  where
    other : (r : Row) → In r rows → is_some r.lock ≡ true → (b : Bool) → has_no n r ≡ b → not b ≡ true
    other r i e true t = absurd (unlocked_is r.lock (free n (inl refl) r i (same_no_is r.no n t)) e)
    other r i e false t = refl

-- ## Rows that come

-- those that come are unlocked
pub locks_more : (rows new : List Row) → ((r : Row) → In r rows → In r new) → ((r : Row) → In r new → (r.lock ≡ None) ⊎ In r rows)
    → LeavesLocks rows new
locks_more rows new still old = record {
  stays = λ r i txn e. locked_itself new r txn (still r i) e;
  older = λ r i txn e. elim (old r i) as (λ _. IsLocked rows txn r.session r.no r.field r.kind) [
    | inl n ↦ absurd (unlocked_is r.lock n (ap is_some e))
    | inr j ↦ locked_itself rows r txn j e
  ];
}

pub locks_with_row : (row : Row) (rows : List Row) → row.lock ≡ None → LeavesLocks rows (with_row row rows)
locks_with_row row rows free = locks_more rows (with_row row rows)
    (λ r i. In-put_still (λ z. no_before row.no z.no) r row rows i)
    (λ r i. elim (In-put (λ z. no_before row.no z.no) r row rows i) as (λ _. (r.lock ≡ None) ⊎ In r rows) [
      | inl e ↦ inl (ap (λ (z : Row). z.lock) e ∙ free)
      | inr j ↦ inr j
    ])

pub locks_with_rows : (more rows : List Row) → ((r : Row) → In r more → r.lock ≡ None) → LeavesLocks rows (with_rows more rows)
locks_with_rows [] rows free = locks_itself rows
locks_with_rows (x ∷ xs) rows free =
    locks_then rows (with_row x rows) (with_rows xs (with_row x rows)) (locks_with_row x rows (free x (inl refl)))
    (locks_with_rows xs (with_row x rows) (λ r i. free r (inr i)))

-- ## A move

least_none : (a b : Option TxnNo) → least_of a b ≡ None → (a ≡ None) × (b ≡ None)
least_none None b h = (refl, h)
least_none (Some x) None h = absurd (cc h)
least_none (Some x) (Some y) h = absurd (cc h)

none_locked : (prefix : List ℕ) (owners : Owners) (me : ℕ) (rows : List Row) → locked_in prefix owners me rows ≡ None → (r : Row)
    → In r rows → is_given owners me prefix (file_of r.field) ≡ true → r.lock ≡ None
none_locked prefix owners me [] h r i g = absurd i
none_locked prefix owners me (x ∷ xs) h r i g =
    let q = least_none (lock_below prefix owners me x) (locked_in prefix owners me xs) h in
    elim i as (λ _. r.lock ≡ None) [
      | inl e ↦
          let given : is_given owners me prefix (file_of x.field) ≡ true =
          ap (λ (z : Row). is_given owners me prefix (file_of z.field)) (sym e) ∙ g in
          ap (λ (z : Row). z.lock) e ∙ sym (ap (λ b. cond b x.lock None) given) ∙ q.0
      | inr j ↦ none_locked prefix owners me xs q.1 r j g
    ]

refused_last : (a b d : Bool) (x y z : MoveError) (o : Option MoveError) → cond a (Some x) (cond b (Some y) (cond d (Some z) o)) ≡ None
    → o ≡ None
refused_last true b d x y z o h = absurd (cc h)
refused_last false true d x y z o h = absurd (cc h)
refused_last false false true x y z o h = absurd (cc h)
refused_last false false false x y z o h = h

not_busy : (o : Option TxnNo) (later : Option MoveError) → busy_or o later ≡ None → o ≡ None
not_busy None later h = refl
not_busy (Some t) later h = absurd (cc h)

module _ (records : RecordMap) (rows : List Row) (map : Owners) (me : ℕ) (prefix : List ℕ) (to : ℕ) (through : Option PathNo)
    (goes : move_refusal records rows map me prefix to through ≡ None) where
  none_busy : locked_in prefix map me rows ≡ None
  none_busy = not_busy (locked_in prefix map me rows) (paths_out through)
      (refused_last (not (server_of map prefix == me)) (not (is_some (get records prefix))) (to == me)
      (not_mine (longest map prefix)) move.NoFile move.Same (busy_or (locked_in prefix map me rows) (paths_out through)) goes)

  free_below : (r : Row) → In r rows → is_on_given prefix (piece_of map me prefix) r ≡ true → r.lock ≡ None
  free_below r i g = none_locked prefix map me rows none_busy r i
      (sym ((piece_piece map me prefix (is_mine records rows map me prefix to through goes)).1 (file_of r.field)) ∙ g)

  -- what goes is unlocked
  pub goes_unlocked : (r : Row) → In r (rows_given prefix (piece_of map me prefix) rows) → r.lock ≡ None
  goes_unlocked r i = free_below r (In-filter (is_on_given prefix (piece_of map me prefix)) r rows i)
      (passing (is_on_given prefix (piece_of map me prefix)) rows r i)

  pub locks_left : LeavesLocks rows (rows_left prefix (piece_of map me prefix) rows)
  locks_left = locks_filtered (λ r. not (is_on_given prefix (piece_of map me prefix) r)) rows
      (λ r i e. other r i e (is_on_given prefix (piece_of map me prefix) r) refl)
    where
      other : (r : Row) → In r rows → is_some r.lock ≡ true → (b : Bool) → is_on_given prefix (piece_of map me prefix) r ≡ b → not b ≡ true
      other r i e true t = absurd (unlocked_is r.lock (free_below r i t) e)
      other r i e false t = refl
