-- A part says Yes at a server, which has its rows in one table.
use Rattle.std.proofs.Common.{◌≡◌, ◌&&◌, Bool, true, false, List, ◌∷◌, ◌++◌, refl, sym, ap, ◌∙◌, subst, cond, not, filter, map}
use Rattle.std.specs.Prelude.{Some, None, is_some}
use Rattle.fs_ident.specs.In.{In}
use Rattle.fs_ident.specs.declared.actor.TxnNo.{TxnNo}
use Rattle.fs_ident.proofs.Standing.{In-behind, In-both, In-filter, In-front, In-map, In-mapped, any_In}
use Rattle.fs_field.specs.Field.{tells_no_mode}
use Rattle.fs_field.specs.Table.{has_no, is_ordered}
use Rattle.fs_field.specs.declared.row.Row.{Row}
use Rattle.fs_field.specs.declared.used.Use.{Use}
use Rattle.fs_field.proofs.Order.{one_of_number}
use Rattle.fs_field.proofs.SameNo.{same_no_is}
use Rattle.fs_parcel.proofs.Both.{passing}
use Rattle.fs_server.specs.Rows.{is_off_modes, rows_off_modes, rows_on_modes}
use Rattle.fs_server.specs.Ships.{first_gone}
use Rattle.fs_txn.specs.Locks.{Agreed, HasRow, IsFree, IsLocked, Kept, LeavesLocks, LocksHold}
use Rattle.fs_txn.specs.Preparing.{is_used, row_locked, rows_locked, table_of, uses_of_modes, uses_off}
use Rattle.fs_txn.proofs.Keys.{kept_in}
use Rattle.fs_txn.proofs.Locked.{others_keep, yes_keeps}
use Rattle.fs_txn.proofs.Locking.{locked, used_by}
use Rattle.fs_serial.specs.Pending.{AllStand, Stands}
use Rattle.fs_serial.proofs.Admission.Rowed.{all_found}

-- ## The same rows

row_locks : (rows : List Row) (r : Row) (t : TxnNo) → In r rows → r.lock ≡ Some t → IsLocked rows t r.session r.no r.field r.kind
row_locks rows r t i e = record { has = record { row = r; stands = i; number = refl; session = refl; field = refl; kind = refl }; lock = e }

pub same_rows : (a b : List Row) → ((r : Row) → In r a → In r b) → ((r : Row) → In r b → In r a) → LeavesLocks a b
same_rows a b there back = record {
  stays = λ r i t e. row_locks b r t (there r i) e;
  older = λ r i t e. row_locks a r t (back r i) e;
}

-- ## Yes

module _ (rows : List Row) (said : List Agreed) (kept : List Kept) (y : Agreed) (h : LocksHold rows said kept)
    (ordered : is_ordered rows ≡ true) (none : first_gone rows y.wanted.session y.wanted.part.uses ≡ None)
    (own : (r : Row) → In r rows → r.session ≡ y.wanted.session → (t : TxnNo) → r.lock ≡ Some t → t ≡ y.key.txn) where
  abbrev t : TxnNo
  t = y.key.txn

  abbrev uses : List Use
  uses = y.wanted.part.uses

  abbrev off : List Row
  off = rows_off_modes rows

  abbrev on : List Row
  on = rows_on_modes rows

  all_stand : AllStand rows y.wanted.session uses
  all_stand = all_found rows y.wanted.session uses none

  -- a row that is used is that of its lease
  used_stands : (r : Row) → In r rows → is_used uses r ≡ true
      → (u : Use) × (In u uses × ((r.session ≡ y.wanted.session) × (r.field ≡ u.field)))
  used_stands r i e =
      let q : (u : Use) × (In u uses × (has_no u.no r ≡ true)) = any_In (λ (u : Use). has_no u.no r) uses e in
      let p : Stands rows y.wanted.session q.0 = all_stand q.0 q.1.0 in
      let same : r ≡ p.row = one_of_number rows ordered r p.row i p.stands (same_no_is r.no (q.0).no q.1.1 ∙ sym p.number) in
      (q.0, (q.1.0, (ap (λ (x : Row). x.session) same ∙ p.session, ap (λ (x : Row). x.field) same ∙ p.field)))

  -- ## Both tables

  there : (r : Row) → In r rows → In r (off ++ on)
  there r i = elim (is_off_modes r) as (λ b. is_off_modes r ≡ b → In r (off ++ on)) [
    | true ↦ λ e. In-front r off on (kept_in is_off_modes r rows i e)
    | false ↦ λ e. In-behind r off on (kept_in (λ (x : Row). not (is_off_modes x)) r rows i (ap not e))
  ] refl

  back : (r : Row) → In r (off ++ on) → In r rows
  back r i = In-both r off on (In r rows) (In-filter is_off_modes r rows) (In-filter (λ (x : Row). not (is_off_modes x)) r rows) i

  stand : (u : Use) → In u uses → HasRow (table_of off on u) y.wanted.session u.no u.field u.kind
  stand u i =
      let p : Stands rows y.wanted.session u = all_stand u i in
      elim (tells_no_mode u.field) as (λ b. tells_no_mode u.field ≡ b → HasRow (cond b off on) y.wanted.session u.no u.field u.kind) [
        | true ↦
            λ e. record {
              row = p.row;
              stands = kept_in is_off_modes p.row rows p.stands (ap tells_no_mode p.field ∙ e);
              number = p.number;
              session = p.session;
              field = p.field;
              kind = p.kind;
            }
        | false ↦
            λ e. record {
              row = p.row;
              stands = kept_in (λ (x : Row). not (is_off_modes x)) p.row rows p.stands
                  (ap not (ap tells_no_mode p.field ∙ e));
              number = p.number;
              session = p.session;
              field = p.field;
              kind = p.kind;
            }
      ] refl

  free : (r : Row) → In r (off ++ on) → is_used uses r ≡ true → IsFree y r
  free r i e = let q = used_stands r (back r i) e in record { session = q.1.1.0; own = own r (back r i) q.1.1.0 }

  -- a row of one table is used by a lease on a field of it
  its_uses : (keep : Use → Bool) (r : Row) → In r rows → ((u : Use) → r.field ≡ u.field → keep u ≡ true)
      → is_used (filter keep uses) r ≡ is_used uses r
  its_uses keep r i passes = elim (is_used uses r) as (λ b. is_used uses r ≡ b → is_used (filter keep uses) r ≡ b) [
    | true ↦ λ e.
        let q : (u : Use) × (In u uses × (has_no u.no r ≡ true)) = any_In (λ (u : Use). has_no u.no r) uses e in
        let p : Stands rows y.wanted.session q.0 = all_stand q.0 q.1.0 in
        let same : r ≡ p.row = one_of_number rows ordered r p.row i p.stands (same_no_is r.no (q.0).no q.1.1 ∙ sym p.number) in
        used_by (filter keep uses) q.0 r (kept_in keep q.0 uses q.1.0 (passes q.0 (ap (λ (x : Row). x.field) same ∙ p.field))) q.1.1
    | false ↦ λ e. elim (is_used (filter keep uses) r) as (λ b. is_used (filter keep uses) r ≡ b → b ≡ false) [
      | true ↦ λ g.
          let q : (u : Use) × (In u (filter keep uses) × (has_no u.no r ≡ true)) =
          any_In (λ (u : Use). has_no u.no r) (filter keep uses) g in
          let wrong : true ≡ false = sym (used_by uses q.0 r (In-filter keep q.0 uses q.1.0) q.1.1) ∙ e in
          absurd (cc)
      | false ↦ λ g. refl
    ] refl
  ] refl

  abbrev row_if : Bool → Row → Row
  row_if b r = cond (b && not (is_some r.lock)) (locked t r) r

  off_locked : (r : Row) → In r rows → is_off_modes r ≡ true → row_locked t (uses_off uses) r ≡ row_locked t uses r
  off_locked r i e = ap (λ b. row_if b r) (its_uses (λ (u : Use). tells_no_mode u.field) r i (λ u f. sym (ap tells_no_mode f) ∙ e))

  on_locked : (r : Row) → In r rows → not (is_off_modes r) ≡ true → row_locked t (uses_of_modes uses) r ≡ row_locked t uses r
  on_locked r i e =
      ap (λ b. row_if b r) (its_uses (λ (u : Use). not (tells_no_mode u.field)) r i (λ u f. ap (λ g. not (tells_no_mode g)) (sym f) ∙ e))

  abbrev both : List Row
  both = map (row_locked t (uses_off uses)) off ++ map (row_locked t (uses_of_modes uses)) on

  then_there : (r : Row) → In r both → In r (rows_locked t uses rows)
  then_there r i =
      In-both r (map (row_locked t (uses_off uses)) off) (map (row_locked t (uses_of_modes uses)) on) (In r (rows_locked t uses rows))
      (λ j.
      let q : (x : Row) × (In x off × (r ≡ row_locked t (uses_off uses) x)) = In-map (row_locked t (uses_off uses)) r off j in
      let o : In q.0 rows × (is_off_modes q.0 ≡ true) = (In-filter is_off_modes q.0 rows q.1.0, passing is_off_modes rows q.0 q.1.0) in
      subst (λ x. In x (rows_locked t uses rows)) (sym (q.1.1 ∙ off_locked q.0 o.0 o.1)) (In-mapped (row_locked t uses) q.0 rows o.0))
      (λ j.
      let q : (x : Row) × (In x on × (r ≡ row_locked t (uses_of_modes uses) x)) = In-map (row_locked t (uses_of_modes uses)) r on j in
      let o : In q.0 rows × (not (is_off_modes q.0) ≡ true) =
      (In-filter (λ (x : Row). not (is_off_modes x)) q.0 rows q.1.0, passing (λ (x : Row). not (is_off_modes x)) rows q.0 q.1.0) in
      subst (λ x. In x (rows_locked t uses rows)) (sym (q.1.1 ∙ on_locked q.0 o.0 o.1)) (In-mapped (row_locked t uses) q.0 rows o.0))
      i

  then_back : (r : Row) → In r (rows_locked t uses rows) → In r both
  then_back r i =
      let q : (x : Row) × (In x rows × (r ≡ row_locked t uses x)) = In-map (row_locked t uses) r rows i in
      elim (is_off_modes q.0) as (λ b. is_off_modes q.0 ≡ b → In r both) [
        | true ↦ λ e. In-front r (map (row_locked t (uses_off uses)) off) (map (row_locked t (uses_of_modes uses)) on)
            (subst (λ x. In x (map (row_locked t (uses_off uses)) off)) (off_locked q.0 q.1.0 e ∙ sym q.1.1)
            (In-mapped (row_locked t (uses_off uses)) q.0 off (kept_in is_off_modes q.0 rows q.1.0 e)))
        | false ↦ λ e. In-behind r (map (row_locked t (uses_off uses)) off) (map (row_locked t (uses_of_modes uses)) on)
            (subst (λ x. In x (map (row_locked t (uses_of_modes uses)) on)) (on_locked q.0 q.1.0 (ap not e) ∙ sym q.1.1)
            (In-mapped (row_locked t (uses_of_modes uses)) q.0 on
            (kept_in (λ (x : Row). not (is_off_modes x)) q.0 rows q.1.0 (ap not e))))
      ] refl

  pub yes_locks : LocksHold (rows_locked t uses rows) (y ∷ said) kept
  yes_locks = others_keep both (rows_locked t uses rows) (y ∷ said) kept
      (yes_keeps off on said kept y (others_keep rows (off ++ on) said kept h (same_rows rows (off ++ on) there back)) stand free)
      (same_rows both (rows_locked t uses rows) then_there then_back)
