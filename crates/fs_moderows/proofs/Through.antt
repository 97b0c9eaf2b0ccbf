-- What is found through an index is what is found among all rows.
use Rattle.std.proofs.Common.{Bor, subst, ◌≡◌, ◌==◌, ◌&&◌, ◌∷◌, ◌+◌, ◌<◌, ◌≤◌, ℕ, zero, suc, Bool, true, false, not, List, [], refl, ap, cond, sym, ◌∙◌, length, get_or, drop, map, arith, add-one, inl, inr}
use Rattle.std.proofs.lemmas.List.{drop_all}
use Rattle.std.specs.Prelude.{Option, Some, None, is_some}
use Rattle.std.specs.List.{filter, find}
use Rattle.std.specs.Option.{option_copied}
use Rattle.std.specs.Cmp.Lexicographic.{nat_list_eq_equiv}
use Rattle.fs_ident.specs.Ident.{same}
use Rattle.fs_ident.specs.In.{In}
use Rattle.fs_ident.specs.declared.actor.LeaseNo.{LeaseNo}
use Rattle.fs_ident.specs.declared.actor.TxnNo.{TxnNo}
use Rattle.fs_ident.specs.declared.actor.Session.{Session}
use Rattle.fs_ident.proofs.Booleans.{both, first as first_holds, second as second_holds}
use Rattle.fs_ident.proofs.Passing.{found}
use Rattle.fs_ident.proofs.Standing.{In-filter, none_pass}
use Rattle.fs_modes.specs.declared.modes.Mode.{Mode}
use Rattle.fs_field.specs.declared.field.Field.{Field}
use Rattle.fs_field.specs.declared.field.Field.TheVariants.{Life, Child, Names, Info, SelfW, Other, Own}
use Rattle.fs_field.specs.declared.row.Row.{Row}
use Rattle.fs_field.specs.Conflict.{is_self, can_fail}
use Rattle.fs_field.specs.Field.{file_of, same_field, same_mode}
use Rattle.fs_field.specs.Table.{has_no, is_ordered, lock_on}
use Rattle.fs_field.proofs.Order.{one_of_number}
use Rattle.fs_field.proofs.SameNo.{same_no_self, same_no_is}
use Rattle.fs_moderows.specs.Fixed.{has_but, is_other, rests_by_each}
use Rattle.fs_moderows.specs.Index.{is_on, numbers_on}
use Rattle.fs_moderows.specs.Sought.{file_sought, only, passes}
use Rattle.fs_moderows.specs.declared.fixed.EachMode.{EachMode}
use Rattle.fs_moderows.specs.declared.sought.Sought.{Sought}
use Rattle.fs_moderows.specs.declared.sought.Sought.TheVariants.{SelfOf, SelfOfOther, OtherOfOther, Against, Resting, Kept}

abbrev Test : Type 0
Test = Row → Bool

-- ## What is sought is on one file

turned : (a b : List ℕ) → same a b ≡ true → same b a ≡ true
turned a b h = nat_list_eq_equiv.symm b a ∙ h

self_there : (f : List ℕ) (m : Mode) (g : Field) → is_self f m g ≡ true → same (file_of g) f ≡ true
self_there f m (SelfW g n) h = turned f g (first_holds (same f g) (same_mode m n) h)
self_there f m g h = absurd (cc)

other_there : (f : List ℕ) (m : Mode) (g : Field) → is_other f m g ≡ true → same (file_of g) f ≡ true
other_there f m (Other g n) h = first_holds (same g f) (same_mode n m) h
other_there f m g h = absurd (cc)

resting_there : (each : EachMode) (f : List ℕ) (x : Session) (g : Field) (p : Option Bool) → rests_by_each each f x g p ≡ true → same (file_of g) f ≡ true
resting_there each f x (Other g m) p h = first_holds (same g f) _ h
resting_there each f x g p h = absurd (cc)

field_there : (f g : Field) → same_field f g ≡ true → same (file_of f) (file_of g) ≡ true
field_there (Life a) (Life b) h = h
field_there (Child a m) (Child b n) h = first_holds (same a b) (same m n) h
field_there (Names a) (Names b) h = h
field_there (Info a) (Info b) h = h
field_there (Own a) (Own b) h = h
field_there (SelfW a m) (SelfW b n) h = first_holds (same a b) (same_mode m n) h
field_there (Other a m) (Other b n) h = first_holds (same a b) (same_mode m n) h
field_there f g h = absurd (cc)

there : (s : Sought) (r : Row) → passes s r ≡ true → is_on (file_sought s) r ≡ true
there (SelfOf f m x) r h = self_there f.now m r.field (first_holds (is_self f.now m r.field) _ h)
there (SelfOfOther f m x) r h = self_there f.now m r.field (first_holds (is_self f.now m r.field) _ h)
there (OtherOfOther f m x) r h = other_there f.now m r.field (first_holds (is_other f.now m r.field) _ h)
there (Against f m x fixed) r h = other_there f.now m r.field (first_holds (is_other f.now m r.field) (can_fail r.promise (has_but fixed r.session)) (second_holds (not (r.session.0 == x.0)) _ h))
there (Resting f x each) r h = resting_there each.now f.now r.session r.field r.promise (second_holds (not (r.session.0 == x.0)) _ h)
there (Kept f) r h = field_there r.field f.now (first_holds (same_field r.field f.now) (is_some r.lock) h)

-- ## Among the rows on the file

find_among : (t kept : Test) → ((r : Row) → t r ≡ true → kept r ≡ true) → (rows : List Row) → find t (filter kept rows) ≡ find t rows
find_among t kept k [] = refl
find_among t kept k (r ∷ rs) = elim (kept r) as (λ b. kept r ≡ b → find t (cond b (r ∷ filter kept rs) (filter kept rs)) ≡ cond (t r) (Some r) (find t rs)) [
  | true ↦ λ e. ap (cond (t r) (Some r)) (find_among t kept k rs)
  | false ↦ λ e. find_among t kept k rs ∙ elim (t r) as (λ c. t r ≡ c → find t rs ≡ cond c (Some r) (find t rs)) [
    | true ↦ λ g. let wrong : true ≡ false = sym (k r g) ∙ e in absurd (cc)
    | false ↦ λ g. refl
  ] refl
] refl

found_live : (t live : Test) (rows : List Row) → find (λ r. live r && t r) rows ≡ find t (filter live rows)
found_live t live [] = refl
found_live t live (r ∷ rs) = elim (live r) as (λ b. cond (b && t r) (Some r) (find (λ x. live x && t x) rs) ≡ find t (cond b (r ∷ filter live rs) (filter live rs))) [
  | true ↦ ap (cond (t r) (Some r)) (found_live t live rs)
  | false ↦ found_live t live rs
]

-- of the rows on its file the first that is sought is the first of all
pub first_there : (s : Sought) (live : Test) (rows : List Row) → find (λ r. live r && passes s r) (filter (is_on (file_sought s)) rows) ≡ find (passes s) (filter live rows)
first_there s live rows =
    find_among (λ r. live r && passes s r) (is_on (file_sought s)) (λ r h. there s r (second_holds (live r) (passes s r) h)) rows
    ∙ found_live (passes s) live rows

-- ## By their numbers

found_own : (rows : List Row) → is_ordered rows ≡ true → (x : Row) → In x rows → find (has_no x.no) rows ≡ Some x
found_own rows o x i = elim (find (has_no x.no) rows) as (λ z. find (has_no x.no) rows ≡ z → z ≡ Some x) [
  | None ↦ λ e. let wrong : true ≡ false = sym (same_no_self x.no) ∙ none_pass (has_no x.no) rows e x i in absurd (cc)
  | Some y ↦ λ e. let q = found (has_no x.no) rows y e in ap Some (one_of_number rows o y x q.0 i (same_no_is y.no x.no q.1))
] refl

-- the row whose number stands at a place among the numbers
next_row : (xs : List Row) (i : ℕ) (d : LeaseNo) → i < length (map (λ (r : Row). r.no) xs) → (x : Row) × ((drop i xs ≡ x ∷ drop (i + 1) xs) × ((x.no ≡ get_or (map (λ (r : Row). r.no) xs) i d) × In x xs))
next_row [] i d l = absurd (omega arith)
next_row (y ∷ ys) zero d l = (y, (refl, (refl, inl refl)))
next_row (y ∷ ys) (suc i) d l =
    let n = next_row ys i d (omega arith) in
    let one : suc i + 1 ≡ suc (i + 1) = omega arith in
    (n.0, (n.1.0 ∙ ap (λ k. n.0 ∷ drop k (y ∷ ys)) (sym one), (n.1.1.0, inr n.1.1.1)))

abbrev pub or_next : Option Row → Option Row → Option Row
or_next None o = o
or_next (Some r) o = Some r

pub some_next : (o : Option (Bor Row)) (rest : Option Row) → is_some o ≡ true → option_copied o ≡ or_next (option_copied o) rest
some_next None rest h = absurd (cc)
some_next (Some r) rest h = refl

pub none_next : (o : Option (Bor Row)) (rest : Option Row) → is_some o ≡ false → rest ≡ or_next (option_copied o) rest
none_next None rest h = refl
none_next (Some r) rest h = absurd (cc)

taken : (t : Test) (x : Row) (rest : Option Row) → cond (t x) (Some x) rest ≡ or_next (only t (Some x)) rest
taken t x rest = elim (t x) as (λ b. cond b (Some x) rest ≡ or_next (cond b (Some x) None) rest) [ true ↦ refl | false ↦ refl ]

-- one number further
pub number_step : (t : Test) (file : List ℕ) (rows : List Row) (numbers : List LeaseNo) (i : ℕ) (d : LeaseNo) (o : Option Row) → is_ordered rows ≡ true → numbers ≡ numbers_on file rows → i < length numbers → o ≡ only t (find (has_no (get_or numbers i d)) rows)
    → find t (drop i (filter (is_on file) rows)) ≡ or_next o (find t (drop (i + 1) (filter (is_on file) rows)))
number_step t file rows numbers i d o w e l h =
    let n = next_row (filter (is_on file) rows) i d (subst (λ ns. i < length ns) e l) in
    ap (find t) n.1.0
    ∙ taken t n.0 (find t (drop (i + 1) (filter (is_on file) rows)))
    ∙ ap (λ z. or_next z (find t (drop (i + 1) (filter (is_on file) rows))))
    (sym (h ∙ ap (λ ns. only t (find (has_no (get_or ns i d)) rows)) e ∙ ap (λ m. only t (find (has_no m) rows)) (sym n.1.1.0) ∙ ap (only t) (found_own rows w n.0 (In-filter (is_on file) n.0 rows n.1.1.1))))

no_more : (xs : List Row) (i : ℕ) → length (map (λ (r : Row). r.no) xs) ≤ i → drop i xs ≡ []
no_more [] zero l = refl
no_more [] (suc i) l = refl
no_more (x ∷ xs) zero l = absurd (omega arith)
no_more (x ∷ xs) (suc i) l = no_more xs i (omega arith)

-- behind the last number none is found
pub numbers_end : (t : Test) (file : List ℕ) (rows : List Row) (numbers : List LeaseNo) (i : ℕ) → numbers ≡ numbers_on file rows → length numbers ≤ i → find t (drop i (filter (is_on file) rows)) ≡ None
numbers_end t file rows numbers i e l = ap (find t) (no_more (filter (is_on file) rows) i (subst (λ ns. length ns ≤ i) e l))

-- ## Locks

abbrev pub lock_of : Option Row → Option TxnNo
lock_of None = None
lock_of (Some r) = r.lock

pub lock_found : (f : Field) (rows : List Row) → lock_of (find (λ r. same_field r.field f && is_some r.lock) rows) ≡ lock_on f rows
lock_found f [] = refl
lock_found f (r ∷ rs) = elim (same_field r.field f && is_some r.lock) as (λ b. lock_of (cond b (Some r) (find (λ x. same_field x.field f && is_some x.lock) rs)) ≡ cond b r.lock (lock_on f rs)) [
  | true ↦ refl
  | false ↦ lock_found f rs
]
