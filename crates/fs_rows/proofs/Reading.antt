-- What is read through an index is what is read of all rows.
use Rattle.std.proofs.Common.{◌≡◌, ◌==◌, ◌&&◌, ◌||◌, ◌∷◌, ℕ, Bool, true, false, not, List, [], refl, ap, cond, sym, ◌∙◌}
use Rattle.std.specs.Prelude.{Option, Some, None, is_some}
use Rattle.std.specs.List.{filter, find}
use Rattle.std.specs.Cmp.Lexicographic.{nat_list_eq_equiv}
use Rattle.fs_ident.specs.Ident.{same}
use Rattle.fs_ident.specs.declared.actor.TxnNo.{TxnNo}
use Rattle.fs_ident.specs.declared.actor.Session.{Session}
use Rattle.fs_ident.proofs.Booleans.{second}
use Rattle.fs_field.specs.declared.field.Field.{Field}
use Rattle.fs_field.specs.declared.field.Field.TheVariants.{Life, Child, Names, Info, Own, SelfW, Other}
use Rattle.fs_field.specs.declared.lease_kind.LeaseKind.{LeaseKind}
use Rattle.fs_field.specs.declared.row.Row.{Row}
use Rattle.fs_field.specs.Conflict.{meets, is_exclusive, stands_against}
use Rattle.fs_field.specs.Field.{same_field}
use Rattle.fs_field.specs.Table.{is_ordered, lock_on}
use Rattle.fs_rows.specs.declared.index.FieldIndex.{FieldIndex}
use Rattle.fs_rows.specs.Index.{has_number, numbers_of, IsIndexOf}
use Rattle.fs_rows.specs.Sought.{lesser_row, directory_of, is_list}
use Rattle.fs_rows.proofs.Seeking.{find_alike, first_of_either}
use Rattle.fs_rows.proofs.Tied.{told_of}

abbrev Test : Type 0
Test = Row → Bool

-- ## Locks

abbrev pub lock_of : Option Row → Option TxnNo
lock_of None = None
lock_of (Some r) = r.lock

lock_found : (f : Field) (live : Test) (rows : List Row) → lock_of (find (λ r. live r && (same_field r.field f && is_some r.lock)) rows) ≡ lock_on f (filter live rows)
lock_found f live [] = refl
lock_found f live (r ∷ rs) =
    elim (live r) as (λ b. lock_of (cond (b && (same_field r.field f && is_some r.lock)) (Some r) (find (λ x. live x && (same_field x.field f && is_some x.lock)) rs)) ≡ lock_on f (cond b (r ∷ filter live rs) (filter live rs))) [
      | true ↦ elim (same_field r.field f && is_some r.lock) as (λ b. lock_of (cond b (Some r) (find (λ x. live x && (same_field x.field f && is_some x.lock)) rs)) ≡ cond b r.lock (lock_on f (filter live rs))) [
        | true ↦ refl
        | false ↦ lock_found f live rs
      ]
      | false ↦ lock_found f live rs
    ]

once : (a b c : Bool) → (a && (b && (a && c))) ≡ (b && (a && c))
once true b c = refl
once false true c = refl
once false false c = refl

pub lock_told : (index : FieldIndex) (rows : List Row) → is_ordered rows ≡ true → index.whole ≡ true → IsIndexOf index rows → (f : Field) (live : Test)
    → lock_of (find (λ r. has_number r.no (numbers_of index.files f) && (live r && (same_field r.field f && is_some r.lock))) rows) ≡ lock_on f (filter live rows)
lock_told index rows o w h f live =
    ap lock_of (find_alike (λ r. has_number r.no (numbers_of index.files f) && (live r && (same_field r.field f && is_some r.lock))) (λ r. live r && (same_field r.field f && is_some r.lock)) rows
    (λ r i. ap (λ b. b && (live r && (same_field r.field f && is_some r.lock))) (told_of index rows o w h f r i) ∙ once (same_field r.field f) (live r) (is_some r.lock)))
    ∙ lock_found f live rows

-- ## What stands against a lease

pub found_live : (t live : Test) (rows : List Row) → find (λ r. live r && t r) rows ≡ find t (filter live rows)
found_live t live [] = refl
found_live t live (r ∷ rs) = elim (live r) as (λ b. cond (b && t r) (Some r) (find (λ x. live x && t x) rs) ≡ find t (cond b (r ∷ filter live rs) (filter live rs))) [
  | true ↦ ap (cond (t r) (Some r)) (found_live t live rs)
  | false ↦ found_live t live rs
]

pub within : (a b c : Bool) → (c ≡ true → a ≡ true) → (a && (b && c)) ≡ (b && c)
within true b c h = refl
within false true true h = let wrong : false ≡ true = h refl in absurd (cc)
within false true false h = refl
within false false c h = refl

pub one_told : (index : FieldIndex) (rows : List Row) → is_ordered rows ≡ true → index.whole ≡ true → IsIndexOf index rows → (f : Field) (t live : Test) → ((r : Row) → t r ≡ true → same_field r.field f ≡ true)
    → find (λ r. has_number r.no (numbers_of index.files f) && (live r && t r)) rows ≡ find t (filter live rows)
one_told index rows o w h f t live k =
    find_alike (λ r. has_number r.no (numbers_of index.files f) && (live r && t r)) (λ r. live r && t r) rows
    (λ r i. ap (λ b. b && (live r && t r)) (told_of index rows o w h f r i) ∙ within (same_field r.field f) (live r) (t r) (k r))
    ∙ found_live t live rows

pub spread : (a b c : Bool) → ((a && c) || (b && c)) ≡ ((a || b) && c)
spread true true true = refl
spread true true false = refl
spread true false true = refl
spread true false false = refl
spread false b c = refl

two_told : (index : FieldIndex) (rows : List Row) → is_ordered rows ≡ true → index.whole ≡ true → IsIndexOf index rows → (f g : Field) (t live : Test) → ((r : Row) → t r ≡ true → (same_field r.field f || same_field r.field g) ≡ true)
    → lesser_row (find (λ r. has_number r.no (numbers_of index.files f) && (live r && t r)) rows) (find (λ r. has_number r.no (numbers_of index.files g) && (live r && t r)) rows) ≡ find t (filter live rows)
two_told index rows o w h f g t live k =
    sym (first_of_either (λ r. has_number r.no (numbers_of index.files f) && (live r && t r)) (λ r. has_number r.no (numbers_of index.files g) && (live r && t r)) rows o)
    ∙ find_alike (λ r. (has_number r.no (numbers_of index.files f) && (live r && t r)) || (has_number r.no (numbers_of index.files g) && (live r && t r))) (λ r. live r && t r) rows
    (λ r i. spread (has_number r.no (numbers_of index.files f)) (has_number r.no (numbers_of index.files g)) (live r && t r)
    ∙ ap (λ b. (b || has_number r.no (numbers_of index.files g)) && (live r && t r)) (told_of index rows o w h f r i)
    ∙ ap (λ b. (same_field r.field f || b) && (live r && t r)) (told_of index rows o w h g r i)
    ∙ within (same_field r.field f || same_field r.field g) (live r) (t r) (k r))
    ∙ found_live t live rows

pub only : (a x : Bool) → ((a && x) || false) ≡ true → a ≡ true
only true x h = refl
only false x h = absurd (cc)

only_second : (a x : Bool) → (a && x) ≡ true → a ≡ true
only_second true x h = refl
only_second false x h = absurd (cc)

pub first_of : (a b : Bool) → a ≡ true → (a || b) ≡ true
first_of a b h = ap (λ t. t || b) h

pub turn : (a b : List ℕ) → same a b ≡ true → same b a ≡ true
turn a b h = nat_list_eq_equiv.symm b a ∙ h

turn_both : (a b m n : List ℕ) → (same a b && same m n) ≡ true → (same b a && same n m) ≡ true
turn_both a b m n h = ap (λ t. t && same n m) (nat_list_eq_equiv.symm b a) ∙ ap (λ t. same a b && t) (nat_list_eq_equiv.symm n m) ∙ h

-- of a field that is no list of names and no child only rows on it are against a lease
far : (f g : Field) (k l : LeaseKind) → is_list f ≡ false → directory_of f ≡ None → meets f k g l ≡ true → same_field g f ≡ true
far (Life a) (Life b) k l n d h = turn a b (only (same a b) (is_exclusive k || is_exclusive l) h)
far (Info a) (Info b) k l n d h = turn a b (only (same a b) (is_exclusive k || is_exclusive l) h)
far (Own a) (Names b) k l n d h = absurd (cc)
far (SelfW a m) (Names b) k l n d h = absurd (cc)
far (Other a m) (Names b) k l n d h = absurd (cc)
far f g k l n d h = absurd (cc)

-- of a child only those on it and on the names of its directory
near : (f g : Field) (k l : LeaseKind) (dir : List ℕ) → directory_of f ≡ Some dir → meets f k g l ≡ true → (same_field g f || same_field g (Names dir)) ≡ true
near (Child a m) (Child b n) k l dir d h = first_of (same b a && same n m) false (turn_both a b m n (only (same a b && same m n) (is_exclusive k || is_exclusive l) h))
near (Child a m) (Names b) k l dir d h = let e : a ≡ dir = cc in ap (same b) (sym e) ∙ only_second (same b a) (is_exclusive k) h
near f g k l dir d h = absurd (cc)

pub against_told : (index : FieldIndex) (rows : List Row) → is_ordered rows ≡ true → index.whole ≡ true → IsIndexOf index rows → (s : Session) (f : Field) (k : LeaseKind) (live : Test) → is_list f ≡ false → directory_of f ≡ None
    → find (λ r. has_number r.no (numbers_of index.files f) && (live r && stands_against s f k r)) rows ≡ find (stands_against s f k) (filter live rows)
against_told index rows o w h s f k live n d = one_told index rows o w h f (stands_against s f k) live (λ r t. far f r.field k r.kind n d (second (not (s.0 == r.session.0)) (meets f k r.field r.kind) t))

pub against_both : (index : FieldIndex) (rows : List Row) → is_ordered rows ≡ true → index.whole ≡ true → IsIndexOf index rows → (s : Session) (f : Field) (k : LeaseKind) (live : Test) (dir : List ℕ) → directory_of f ≡ Some dir
    → lesser_row (find (λ r. has_number r.no (numbers_of index.files f) && (live r && stands_against s f k r)) rows) (find (λ r. has_number r.no (numbers_of index.files (Names dir)) && (live r && stands_against s f k r)) rows) ≡ find (stands_against s f k) (filter live rows)
against_both index rows o w h s f k live dir d = two_told index rows o w h f (Names dir) (stands_against s f k) live (λ r t. near f r.field k r.kind dir d (second (not (s.0 == r.session.0)) (meets f k r.field r.kind) t))

pub alike : (a b c d : Option Row) → a ≡ b → c ≡ d → lesser_row a c ≡ lesser_row b d
alike a b c d h k = ap (λ x. lesser_row x c) h ∙ ap (lesser_row b) k
