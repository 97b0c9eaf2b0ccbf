-- Locks of one server's rows.
use Rattle.std.proofs.Common.{◌≡◌, ◌==◌, ◌&&◌, ◌++◌, Bool, true, false, List, ◌∷◌, refl, sym, ap, ◌∙◌, subst, inl, inr, cond, filter, map, not}
use Rattle.std.specs.Prelude.{◌⊎◌, Some, None, is_some}
use Rattle.fs_ident.specs.In.{In}
use Rattle.fs_ident.specs.declared.actor.LeaseNo.{LeaseNo}
use Rattle.fs_ident.specs.declared.actor.Session.{Session}
use Rattle.fs_ident.specs.declared.actor.TxnNo.{TxnNo}
use Rattle.fs_ident.proofs.Standing.{In-behind, In-both, In-filter, In-front, In-map, In-mapped, any_In, none_any}
use Rattle.fs_field.specs.Field.{tells_no_mode}
use Rattle.fs_field.specs.Table.{has_no, is_lock_of, same_no, same_txn, unlocked_row}
use Rattle.fs_field.specs.declared.field.Field.{Field}
use Rattle.fs_field.specs.declared.lease_kind.LeaseKind.{LeaseKind}
use Rattle.fs_field.specs.declared.row.Row.{Row}
use Rattle.fs_field.specs.declared.used.Use.{Use}
use Rattle.fs_field.specs.declared.vote.Vote.TheVariants.{Yes}
use Rattle.fs_field.proofs.Leases.{SameLease, same_itself, unlocked_same}
use Rattle.fs_field.proofs.SameNo.{same_no_self}
use Rattle.fs_txn.specs.Locks.{Agreed, CommitKeepsLocks, DecideKeepsLocks, HasRow, IsFree, IsKept, IsLocked, IsOf, Kept, LastDoneKeepsLocks, LocksHold, OthersKeepLocks, YesKeepsLocks, rows_decided, rows_unlocked, waits_here, without_kept, without_part, without_txn}
use Rattle.fs_txn.specs.Preparing.{is_used, row_locked, rows_voted, table_of, uses_of_modes, uses_off}
use Rattle.fs_txn.specs.Stages.{Key, same_key}
use Rattle.fs_txn.proofs.Keys.{key_is, kept_in, txn_is}
use Rattle.fs_txn.proofs.Locking.{locked, stays, used_by}

-- ## Rows

locked_by : (b : Bool) (txn : TxnNo) (r : Row) → SameLease r (cond b (locked txn r) r)
locked_by true txn r = record { number = refl; session = refl; field = refl; kind = refl }
locked_by false txn r = same_itself r

row_locked_same : (txn : TxnNo) (us : List Use) (r : Row) → SameLease r (row_locked txn us r)
row_locked_same txn us r = locked_by (is_used us r && not (is_some r.lock)) txn r

-- a lock stays where the row does
with_stands : (rows new : List Row) (txn : TxnNo) (by : Session) (n : LeaseNo) (on : Field) (k : LeaseKind) (x : IsLocked rows txn by n on k) → In x.has.row new → IsLocked new txn by n on k
with_stands rows new txn by n on k x i = record { has = record { row = x.has.row; stands = i; number = x.has.number; session = x.has.session; field = x.has.field; kind = x.has.kind }; lock = x.lock }

-- a row that is used is locked then
locks : (t : TxnNo) (us : List Use) (r : Row) → is_used us r ≡ true → ((x : TxnNo) → r.lock ≡ Some x → x ≡ t) → (row_locked t us r).lock ≡ Some t
locks t us r u own = elim r.lock as (λ o. r.lock ≡ o → (cond (is_used us r && not (is_some o)) (locked t r) r).lock ≡ Some t) [
  | None ↦ λ e. ap (λ b. (cond (b && true) (locked t r) r).lock) u
  | Some x ↦ λ e. ap (λ b. (cond (b && false) (locked t r) r).lock) u ∙ e ∙ ap Some (own x e)
] refl

-- a row that is locked then was so, or is used
was_or_used : (t : TxnNo) (us : List Use) (r : Row) (x : TxnNo) → (row_locked t us r).lock ≡ Some x → (r.lock ≡ Some x) ⊎ ((x ≡ t) × (is_used us r ≡ true))
was_or_used t us r x e = elim (is_used us r) as (λ b. is_used us r ≡ b → (cond (b && not (is_some r.lock)) (locked t r) r).lock ≡ Some x → (r.lock ≡ Some x) ⊎ ((x ≡ t) × (is_used us r ≡ true))) [
  | true ↦ λ u. elim (not (is_some r.lock)) as (λ b. (cond b (locked t r) r).lock ≡ Some x → (r.lock ≡ Some x) ⊎ ((x ≡ t) × (is_used us r ≡ true))) [
    | true ↦ λ g. let same : t ≡ x = cc in inr (sym same, u)
    | false ↦ λ g. inl g
  ]
  | false ↦ λ u g. inl g
] refl e

-- a row of one of some uses is one of all
used_too : (keep : Use → Bool) (us : List Use) (r : Row) → is_used (filter keep us) r ≡ true → is_used us r ≡ true
used_too keep us r h =
    let q : (u : Use) × (In u (filter keep us) × (has_no u.no r ≡ true)) = any_In (λ (u : Use). has_no u.no r) (filter keep us) h in
    used_by us q.0 r (In-filter keep q.0 us q.1.0) q.1.1

number_is : (n : LeaseNo) (r : Row) → r.no ≡ n → has_no n r ≡ true
number_is n r e = ap (λ m. same_no m n) e ∙ same_no_self n

-- ## Yes

module _ (rows modes : List Row) (said : List Agreed) (kept : List Kept) (y : Agreed) (h : LocksHold (rows ++ modes) said kept) (stand : (u : Use) → In u y.wanted.part.uses → HasRow (table_of rows modes u) y.wanted.session u.no u.field u.kind) (own : (r : Row) → In r (rows ++ modes) → is_used y.wanted.part.uses r ≡ true → IsFree y r) where
  abbrev t : TxnNo
  t = y.key.txn

  abbrev uses : List Use
  uses = y.wanted.part.uses

  abbrev new : List Row
  new = rows_voted Yes t (uses_off uses) rows ++ rows_voted Yes t (uses_of_modes uses) modes

  still : (r : Row) (x : TxnNo) → In r (rows ++ modes) → r.lock ≡ Some x → In r new
  still r x i e = In-both r rows modes (In r new)
      (λ j. In-front r (map (row_locked t (uses_off uses)) rows) (map (row_locked t (uses_of_modes uses)) modes) (subst (λ z. In z (map (row_locked t (uses_off uses)) rows)) (stays t (uses_off uses) r (ap is_some e)) (In-mapped (row_locked t (uses_off uses)) r rows j)))
      (λ j. In-behind r (map (row_locked t (uses_off uses)) rows) (map (row_locked t (uses_of_modes uses)) modes) (subst (λ z. In z (map (row_locked t (uses_of_modes uses)) modes)) (stays t (uses_of_modes uses) r (ap is_some e)) (In-mapped (row_locked t (uses_of_modes uses)) r modes j)))
      i

  -- the row of a lease, as it is then
  then_locked : (table : List Row) (us : List Use) (u : Use) → In u us → In u uses → (p : HasRow table y.wanted.session u.no u.field u.kind) → In p.row (rows ++ modes) → In (row_locked t us p.row) new → IsLocked new t y.wanted.session u.no u.field u.kind
  then_locked table us u among all p old i =
      let same : SameLease p.row (row_locked t us p.row) = row_locked_same t us p.row in
      let number : has_no u.no p.row ≡ true = number_is u.no p.row p.number in
      let free : IsFree y p.row = own p.row old (used_by uses u p.row all number) in
      record {
        has = record { row = row_locked t us p.row; stands = i; number = same.number ∙ p.number; session = same.session ∙ p.session; field = same.field ∙ p.field; kind = same.kind ∙ p.kind };
        lock = locks t us p.row (used_by us u p.row among number) free.own;
      }

  here : (u : Use) → In u uses → (b : Bool) → tells_no_mode u.field ≡ b → HasRow (cond b rows modes) y.wanted.session u.no u.field u.kind → IsLocked new t y.wanted.session u.no u.field u.kind
  here u i true e p = then_locked rows (uses_off uses) u (kept_in (λ (x : Use). tells_no_mode x.field) u uses i e) i p (In-front p.row rows modes p.stands)
      (In-front (row_locked t (uses_off uses) p.row) (map (row_locked t (uses_off uses)) rows) (map (row_locked t (uses_of_modes uses)) modes) (In-mapped (row_locked t (uses_off uses)) p.row rows p.stands))
  here u i false e p = then_locked modes (uses_of_modes uses) u (kept_in (λ (x : Use). not (tells_no_mode x.field)) u uses i (ap not e)) i p (In-behind p.row rows modes p.stands)
      (In-behind (row_locked t (uses_of_modes uses) p.row) (map (row_locked t (uses_off uses)) rows) (map (row_locked t (uses_of_modes uses)) modes) (In-mapped (row_locked t (uses_of_modes uses)) p.row modes p.stands))

  abbrev Owner : TxnNo → Session → Type 0
  Owner x s = IsOf (y ∷ said) x s ⊎ IsKept kept x s

  older : (x : TxnNo) (s : Session) → IsOf said x s ⊎ IsKept kept x s → Owner x s
  older x s (inl o) = inl (record { agreed = o.agreed; among = inr o.among; its = o.its; session = o.session })
  older x s (inr k) = inr k

  owned : (us : List Use) (q r : Row) → In q (rows ++ modes) → (is_used us q ≡ true → is_used uses q ≡ true) → r ≡ row_locked t us q → (x : TxnNo) → r.lock ≡ Some x → Owner x r.session
  owned us q r i more e x l =
      let session : r.session ≡ q.session = ap (λ (z : Row). z.session) e ∙ (row_locked_same t us q).session in
      subst (Owner x) (sym session) (elim (was_or_used t us q x (ap (λ (z : Row). z.lock) (sym e) ∙ l)) as (λ _. Owner x q.session) [
        | inl g ↦ older x q.session (h.used q x i g)
        | inr g ↦ inl (record { agreed = y; among = inl refl; its = sym g.0; session = sym (own q i (more g.1)).session })
      ])

  pub yes_kept : LocksHold new (y ∷ said) kept
  yes_kept = record {
    locked = λ z i u j. elim i as (λ _. IsLocked new z.key.txn z.wanted.session u.no u.field u.kind) [
      | inl e ↦
          let used : In u uses = subst (λ (v : Agreed). In u v.wanted.part.uses) e j in
          subst (λ (v : Agreed). IsLocked new v.key.txn v.wanted.session u.no u.field u.kind) (sym e) (here u used (tells_no_mode u.field) refl (stand u used))
      | inr k ↦
          let q = h.locked z k u j in
          with_stands (rows ++ modes) new z.key.txn z.wanted.session u.no u.field u.kind q (still q.has.row z.key.txn q.has.stands q.lock)
    ];
    used = λ r x i l. In-both r (map (row_locked t (uses_off uses)) rows) (map (row_locked t (uses_of_modes uses)) modes) (Owner x r.session)
        (λ j. let q = In-map (row_locked t (uses_off uses)) r rows j in owned (uses_off uses) q.0 r (In-front q.0 rows modes q.1.0) (used_too (λ (z : Use). tells_no_mode z.field) uses q.0) q.1.1 x l)
        (λ j. let q = In-map (row_locked t (uses_of_modes uses)) r modes j in owned (uses_of_modes uses) q.0 r (In-behind q.0 rows modes q.1.0) (used_too (λ (z : Use). not (tells_no_mode z.field)) uses q.0) q.1.1 x l)
        i;
  }

pub yes_keeps : YesKeepsLocks
yes_keeps rows modes said kept y h stand own = yes_kept rows modes said kept y h stand own

-- ## Rows that are unlocked

not_false : (b : Bool) → b ≡ false → not b ≡ true
not_false b h = ap not h

lock_kept : (t x : TxnNo) (r : Row) → r.lock ≡ Some x → same_txn x t ≡ false → unlocked_row t r ≡ r
lock_kept t x r e off = ap (λ b. cond b (let q : Row = record r { lock = None } in q) r) (ap (is_lock_of t) e ∙ off)

-- a row that is locked then is not the transaction's, and was so
still_locked : (t : TxnNo) (r : Row) (x : TxnNo) → (unlocked_row t r).lock ≡ Some x → (r.lock ≡ Some x) × (same_txn x t ≡ false)
still_locked t r x e = elim (is_lock_of t r.lock) as (λ b. is_lock_of t r.lock ≡ b → (cond b (let q : Row = record r { lock = None } in q) r).lock ≡ Some x → (r.lock ≡ Some x) × (same_txn x t ≡ false)) [
  | true ↦ λ u g. absurd (cc)
  | false ↦ λ u g. (g, ap (is_lock_of t) (sym g) ∙ u)
] refl e

unlocked_stays : (rows : List Row) (t txn : TxnNo) (by : Session) (n : LeaseNo) (on : Field) (k : LeaseKind) → same_txn txn t ≡ false → IsLocked rows txn by n on k → IsLocked (rows_unlocked t rows) txn by n on k
unlocked_stays rows t txn by n on k off x = with_stands rows (rows_unlocked t rows) txn by n on k x (subst (λ z. In z (rows_unlocked t rows)) (lock_kept t txn x.has.row x.lock off) (In-mapped (unlocked_row t) x.has.row rows x.has.stands))

-- whoever locks a row then locked it before
unlocked_used : (rows : List Row) (t : TxnNo) (P : TxnNo → Session → Type 0) → ((q : Row) (x : TxnNo) → In q rows → q.lock ≡ Some x → same_txn x t ≡ false → P x q.session) → (r : Row) (x : TxnNo) → In r (rows_unlocked t rows) → r.lock ≡ Some x → P x r.session
unlocked_used rows t P f r x i e =
    let q = In-map (unlocked_row t) r rows i in
    let s = still_locked t q.0 x (ap (λ (z : Row). z.lock) (sym q.1.1) ∙ e) in
    let session : r.session ≡ (q.0).session = ap (λ (z : Row). z.session) q.1.1 ∙ (unlocked_same t q.0).session in
    subst (P x) (sym session) (f q.0 x q.1.0 s.0 s.1)

-- ## A decision is applied

other_part : (key : Key) (y : Agreed) → same_txn y.key.txn key.txn ≡ false → same_key y.key key ≡ false
other_part key y h = ap (λ b. b && (y.key.part == key.part)) h

module _ (rows : List Row) (said : List Agreed) (kept : List Kept) (key : Key) (h : LocksHold rows said kept) (one : (y z : Agreed) → In y said → In z said → y.key.txn ≡ z.key.txn → y.wanted.session ≡ z.wanted.session) where
  abbrev left : List Agreed
  left = without_part key said

  in_left : (y : Agreed) → In y left → In y said
  in_left y i = In-filter (λ (x : Agreed). not (same_key x.key key)) y said i

  leaves : (y : Agreed) → In y said → same_key y.key key ≡ false → In y left
  leaves y i e = kept_in (λ (x : Agreed). not (same_key x.key key)) y said i (not_false (same_key y.key key) e)

  -- another part of the transaction waits: the rows stay locked
  waiting : waits_here key.txn left ≡ true → LocksHold rows left kept
  waiting w =
      let z = any_In (λ (y : Agreed). same_txn y.key.txn key.txn) left w in
      record {
        locked = λ y i. h.locked y (in_left y i);
        used = λ r t i e. elim (h.used r t i e) as (λ _. IsOf left t r.session ⊎ IsKept kept t r.session) [
          | inl o ↦ inl (elim (same_key o.agreed.key key) as (λ b. same_key o.agreed.key key ≡ b → IsOf left t r.session) [
            | true ↦ λ s.
                let its : (z.0).key.txn ≡ o.agreed.key.txn = txn_is (z.0).key.txn key.txn z.1.1 ∙ ap (λ (k : Key). k.txn) (sym (key_is o.agreed.key key s)) in
                record { agreed = z.0; among = z.1.0; its = its ∙ o.its; session = one z.0 o.agreed (in_left z.0 z.1.0) o.among its ∙ o.session }
            | false ↦ λ s. record { agreed = o.agreed; among = leaves o.agreed o.among s; its = o.its; session = o.session }
          ] refl)
          | inr k ↦ inr k
        ];
      }

  -- none does: all its rows are unlocked
  over : waits_here key.txn left ≡ false → LocksHold (rows_unlocked key.txn rows) left kept
  over w = record {
    locked = λ y i u j. unlocked_stays rows key.txn y.key.txn y.wanted.session u.no u.field u.kind (none_any (λ (x : Agreed). same_txn x.key.txn key.txn) left w y i) (h.locked y (in_left y i) u j);
    used = unlocked_used rows key.txn (λ x s. IsOf left x s ⊎ IsKept kept x s) (λ q x i e off. elim (h.used q x i e) as (λ _. IsOf left x q.session ⊎ IsKept kept x q.session) [
      | inl o ↦ inl (record { agreed = o.agreed; among = leaves o.agreed o.among (other_part key o.agreed (ap (λ z. same_txn z key.txn) o.its ∙ off)); its = o.its; session = o.session })
      | inr k ↦ inr k
    ]);
  }

  pub part_applied : LocksHold (rows_decided key rows said) left kept
  part_applied = elim (waits_here key.txn left) as (λ b. waits_here key.txn left ≡ b → LocksHold (cond b rows (rows_unlocked key.txn rows)) left kept) [ true ↦ waiting | false ↦ over ] refl

pub decide_keeps : DecideKeepsLocks
decide_keeps rows said kept key h one = part_applied rows said kept key h one

pub commit_keeps : CommitKeepsLocks
commit_keeps rows said kept commit h one = record {
  locked = λ y i. h.locked y (In-filter (λ (z : Agreed). not (same_txn z.key.txn commit.txn)) y said i);
  used = λ r x i e. elim (h.used r x i e) as (λ _. IsOf (without_txn commit.txn said) x r.session ⊎ IsKept (commit ∷ kept) x r.session) [
    | inl o ↦ elim (same_txn o.agreed.key.txn commit.txn) as (λ b. same_txn o.agreed.key.txn commit.txn ≡ b → IsOf (without_txn commit.txn said) x r.session ⊎ IsKept (commit ∷ kept) x r.session) [
      | true ↦ λ s. let is : o.agreed.key.txn ≡ commit.txn = txn_is o.agreed.key.txn commit.txn s in inr (record { commit = commit; among = inl refl; its = sym is ∙ o.its; session = sym (one o.agreed o.among is) ∙ o.session })
      | false ↦ λ s. inl (record { agreed = o.agreed; among = kept_in (λ (z : Agreed). not (same_txn z.key.txn commit.txn)) o.agreed said o.among (not_false (same_txn o.agreed.key.txn commit.txn) s); its = o.its; session = o.session })
    ] refl
    | inr k ↦ inr (record { commit = k.commit; among = inr k.among; its = k.its; session = k.session })
  ];
}

-- ## Other steps

pub others_keep : OthersKeepLocks
others_keep rows new said kept h leave = record {
  locked = λ y i u j.
      let q = h.locked y i u j in
      let p = leave.stays q.has.row q.has.stands y.key.txn q.lock in
      record { has = record { row = p.has.row; stands = p.has.stands; number = p.has.number ∙ q.has.number; session = p.has.session ∙ q.has.session; field = p.has.field ∙ q.has.field; kind = p.has.kind ∙ q.has.kind }; lock = p.lock };
  used = λ r t i e.
      let p = leave.older r i t e in
      subst (λ s. IsOf said t s ⊎ IsKept kept t s) p.has.session (h.used p.has.row t p.has.stands p.lock);
}

-- ## The last Done

pub last_keeps : LastDoneKeepsLocks
last_keeps rows said kept t h none = record {
  locked = λ y i u j. unlocked_stays rows t y.key.txn y.wanted.session u.no u.field u.kind (none y i) (h.locked y i u j);
  used = unlocked_used rows t (λ x s. IsOf said x s ⊎ IsKept (without_kept t kept) x s) (λ q x i e off. elim (h.used q x i e) as (λ _. IsOf said x q.session ⊎ IsKept (without_kept t kept) x q.session) [
    | inl o ↦ inl o
    | inr k ↦ inr (record { commit = k.commit; among = kept_in (λ (z : Kept). not (same_txn z.txn t)) k.commit kept k.among (not_false (same_txn k.commit.txn t) (ap (λ z. same_txn z t) k.its ∙ off)); its = k.its; session = k.session })
  ]);
}
