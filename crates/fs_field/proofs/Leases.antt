-- Rows of the same lease, and rows of which no two conflict plainly.
use Rattle.std.proofs.Common.{◌≡◌, ◌==◌, not, ◌&&◌, ◌⊎◌, ℕ, Bool, true, false, List, [], ◌∷◌, refl, ap, cond, ◌∙◌, map, inl, inr, nat_lt}
use Rattle.std.specs.Cmp.{nat_eq_equiv}
use Rattle.std.specs.List.{filter, list_any}
use Rattle.std.specs.Prelude.{Option, Some, None}
use Rattle.fs_ident.proofs.Booleans.{neither}
use Rattle.fs_ident.specs.declared.actor.LeaseNo.{LeaseNo}
use Rattle.fs_ident.specs.declared.actor.TxnNo.{TxnNo}
use Rattle.fs_field.specs.declared.row.Row.{Row}
use Rattle.fs_ident.specs.In.{In}
use Rattle.fs_field.specs.Conflict.{NoPlainConflict, meets, plain_conflict}
use Rattle.fs_field.specs.Table.{has_no, with_row, no_before, renewed_row, is_unlocked, locked_row, is_lock_of, unlocked_row}
use Rattle.fs_ident.proofs.Standing.{In-filter, In-put, In-map}
use Rattle.fs_field.proofs.Conflicts.{plain_mutual}

-- the rows are those of one lease
pub record SameLease (a b : Row) : Type 0 where
  pub number : b.no ≡ a.no
  pub session : b.session ≡ a.session
  pub field : b.field ≡ a.field
  pub kind : b.kind ≡ a.kind

pub same_itself : (a : Row) → SameLease a a
same_itself a = record { number = refl; session = refl; field = refl; kind = refl }

renewed_by : (b : Bool) (until : ℕ) (r : Row) → SameLease r (cond b (record r { until = until }) r)
renewed_by true until r = record { number = refl; session = refl; field = refl; kind = refl }
renewed_by false until r = same_itself r

locked_by : (b : Bool) (lock : Option TxnNo) (r : Row) → SameLease r (cond b (record r { lock = lock }) r)
locked_by true lock r = record { number = refl; session = refl; field = refl; kind = refl }
locked_by false lock r = same_itself r

-- a new end and a lock leave the lease
pub renewed_same : (number : LeaseNo) (until : ℕ) (r : Row) → SameLease r (renewed_row number until r)
renewed_same number until r = renewed_by (has_no number r && nat_lt r.until until) until r

pub locked_same : (number : LeaseNo) (txn : TxnNo) (r : Row) → SameLease r (locked_row number txn r)
locked_same number txn r = locked_by (is_unlocked number r) (Some txn) r

pub unlocked_same : (txn : TxnNo) (r : Row) → SameLease r (unlocked_row txn r)
unlocked_same txn r = locked_by (is_lock_of txn r.lock) None r

-- a renewal of no row changes none
pub none_renewed : (number : LeaseNo) (until : ℕ) (rows : List Row) → list_any (has_no number) rows ≡ false → map (renewed_row number until) rows ≡ rows
none_renewed number until [] h = refl
none_renewed number until (r ∷ rs) h =
    let q : (has_no number r ≡ false) × (list_any (has_no number) rs ≡ false) = neither (has_no number r) (list_any (has_no number) rs) h in
    ap (λ b. cond (b && nat_lt r.until until) (record r { until = until }) r ∷ map (renewed_row number until) rs) q.0 ∙ ap (λ rows. r ∷ rows) (none_renewed number until rs q.1)

pub conflict_same : (a b c d : Row) → SameLease a c → SameLease b d → plain_conflict c d ≡ plain_conflict a b
conflict_same a b c d p q =
    ap (λ s. not (s.0 == d.session.0) && meets c.field c.kind d.field d.kind) p.session
    ∙ ap (λ s. not (a.session.0 == s.0) && meets c.field c.kind d.field d.kind) q.session
    ∙ ap (λ f. not (a.session.0 == b.session.0) && meets f c.kind d.field d.kind) p.field
    ∙ ap (λ k. not (a.session.0 == b.session.0) && meets a.field k d.field d.kind) p.kind
    ∙ ap (λ f. not (a.session.0 == b.session.0) && meets a.field a.kind f d.kind) q.field
    ∙ ap (λ k. not (a.session.0 == b.session.0) && meets a.field a.kind b.field k) q.kind

pub NoPlainConflict-filter : (test : Row → Bool) (rows : List Row) → NoPlainConflict rows → NoPlainConflict (filter test rows)
NoPlainConflict-filter test rows free a b i j = free a b (In-filter test a rows i) (In-filter test b rows j)

pub NoPlainConflict-map : (f : Row → Row) → ((r : Row) → SameLease r (f r)) → (rows : List Row) → NoPlainConflict rows → NoPlainConflict (map f rows)
NoPlainConflict-map f same rows free a b i j =
    let p : (x : Row) × (In x rows × (a ≡ f x)) = In-map f a rows i in
    let q : (y : Row) × (In y rows × (b ≡ f y)) = In-map f b rows j in
    ap (λ (x : Row). plain_conflict x b) p.1.1
    ∙ ap (λ (y : Row). plain_conflict (f p.0) y) q.1.1
    ∙ conflict_same p.0 q.0 (f p.0) (f q.0) (same p.0) (same q.0)
    ∙ free p.0 q.0 p.1.0 q.1.0

-- a row conflicts with no row of its session
pub not_itself : (row : Row) → plain_conflict row row ≡ false
not_itself row = ap (λ b. not b && meets row.field row.kind row.field row.kind) (nat_eq_equiv.refl row.session.0)

beside : (row : Row) (rows : List Row) → ((x : Row) → In x rows → plain_conflict row x ≡ false) → (x : Row) → (x ≡ row) ⊎ In x rows → plain_conflict row x ≡ false
beside row rows free x i =
    elim i [
      | inl e ↦ ap (λ (z : Row). plain_conflict row z) e ∙ not_itself row
      | inr j ↦ free x j
    ]

pub NoPlainConflict-with_row : (row : Row) (rows : List Row) → ((x : Row) → In x rows → plain_conflict row x ≡ false) → NoPlainConflict rows → NoPlainConflict (with_row row rows)
NoPlainConflict-with_row row rows beside_all free a b i j =
    let test : Row → Bool = λ r. no_before row.no r.no in
    elim (In-put test a row rows i) [
      | inl e ↦ ap (λ (z : Row). plain_conflict z b) e ∙ beside row rows beside_all b (In-put test b row rows j)
      | inr k ↦ elim (In-put test b row rows j) [
        | inl e ↦ ap (λ (z : Row). plain_conflict a z) e ∙ plain_mutual a row ∙ beside row rows beside_all a (inr k)
        | inr l ↦ free a b k l
      ]
    ]
