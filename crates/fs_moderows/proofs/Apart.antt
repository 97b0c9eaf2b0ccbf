-- Rows that come into a table, each looked at once.
use Rattle.std.proofs.Common.{◌≡◌, ◌==◌, not, ◌&&◌, ◌||◌, ℕ, Bool, true, false, List, [], ◌∷◌, refl, ap, cond, sym, ◌∙◌, inl, inr}
use Rattle.std.specs.Prelude.{Option, Some, None}
use Rattle.std.specs.Cmp.{nat_eq_equiv}
use Rattle.std.specs.Cmp.Lexicographic.{same_text}
use Rattle.std.specs.List.{find, list_any, list_all}
use Rattle.std.proofs.lemmas.Bool.{not-true}
use Rattle.std.proofs.Math.Bool.{or-false}
use Rattle.fs_ident.specs.In.{In}
use Rattle.fs_ident.specs.Ident.{same}
use Rattle.fs_ident.specs.declared.actor.Session.{Session}
use Rattle.fs_ident.proofs.Booleans.{both, neither, and_regroup, or_regroup}
use Rattle.fs_ident.proofs.Passing.{all-In}
use Rattle.fs_ident.proofs.Standing.{none_any}
use Rattle.fs_modes.specs.declared.modes.Mode.{Mode}
use Rattle.fs_modes.specs.declared.modes.Modes.{Modes}
use Rattle.fs_field.specs.declared.field.Field.{Field}
use Rattle.fs_field.specs.declared.field.Field.TheVariants.{Life, Child, Names, Info, SelfW, Other, Own}
use Rattle.fs_field.specs.declared.row.Row.{Row}
use Rattle.fs_field.specs.Conflict.{Selves, meets, is_self, has_fixed, can_fail, mode_meets, mode_conflict, plain_conflict}
use Rattle.fs_field.specs.Field.{same_mode}
use Rattle.fs_field.specs.Table.{no_before, with_row}
use Rattle.fs_field.proofs.Conflicts.{plain_mutual}
use Rattle.fs_field.proofs.Named.{any_put}
use Rattle.fs_field.proofs.Leases.{not_itself}
use Rattle.fs_rows.specs.Granted.{with_rows}
use Rattle.fs_rows.specs.Moving.{is_new, are_new, stands_beside, fits as fit_plainly}
use Rattle.fs_rows.proofs.Comes.{plainly_free}
use Rattle.fs_moderows.specs.Answer.{Opens, is_self_of_other, stands_against_self}
use Rattle.fs_moderows.specs.Fixed.{AreFixedBut, is_other, is_other_of_other, stands_by}
use Rattle.fs_moderows.specs.declared.fixed.Fixed.{Fixed}
use Rattle.fs_moderows.specs.Moving.{selves_listed, is_free, fits}
use Rattle.fs_moderows.proofs.Free.{meets_is}
use Rattle.fs_moderows.proofs.FoundOnce.{meets_same, meets_none, stays_out}
use Rattle.fs_moderows.proofs.Witnesses.{In_none, witness, witnessed, witness_past, witness_one}

-- ## A row of a table that others come into

regroup : (x y z : Bool) → (x || (y || z)) ≡ ((y || x) || z)
regroup true true z = refl
regroup true false z = refl
regroup false true z = refl
regroup false false z = refl

-- one of all passes where one that came does, or one that was there
pub any_rows : (test : Row → Bool) (more rows : List Row) → list_any test (with_rows more rows) ≡ (list_any test more || list_any test rows)
any_rows test [] rows = refl
any_rows test (m ∷ ms) rows =
    any_rows test ms (with_row m rows)
    ∙ ap (λ b. list_any test ms || b) (any_put test (λ r. no_before m.no r.no) m rows)
    ∙ regroup (list_any test ms) (test m) (list_any test rows)

-- ## What one row is asked

any_same : {X : Type 0} (p q : X → Bool) (xs : List X) → ((x : X) → In x xs → p x ≡ q x) → list_any p xs ≡ list_any q xs
any_same p q [] k = refl
any_same p q (y ∷ ys) k = ap (λ b. b || list_any p ys) (k y (inl refl)) ∙ ap (λ b. q y || b) (any_same p q ys (λ x i. k x (inr i)))

-- a row that tells a session what others have lets none change it
lets_nothing : (selves : Selves) (rows : List Row) (x y : Session) (f : List ℕ) (m : Mode) (p : Option Bool) (g : Field) → mode_meets selves rows x g p y (Other f m) ≡ false
lets_nothing selves rows x y f m p (Life g) = refl
lets_nothing selves rows x y f m p (Child g n) = refl
lets_nothing selves rows x y f m p (Names g) = refl
lets_nothing selves rows x y f m p (Info g) = refl
lets_nothing selves rows x y f m p (Own g) = refl
lets_nothing selves rows x y f m p (SelfW g n) = refl
lets_nothing selves rows x y f m p (Other g n) = refl

-- only who has handles on the one file counts
one_meets : (selves : Selves) (rows : List Row) (x y : Session) (f : List ℕ) (m : Mode) (p : Option Bool) (g : Field) → mode_meets selves rows x g p y (SelfW f m) ≡ mode_meets (λ h. selves f) rows x g p y (SelfW f m)
one_meets selves rows x y f m p (Life g) = refl
one_meets selves rows x y f m p (Child g n) = refl
one_meets selves rows x y f m p (Names g) = refl
one_meets selves rows x y f m p (Info g) = refl
one_meets selves rows x y f m p (Own g) = refl
one_meets selves rows x y f m p (SelfW g n) = refl
one_meets selves rows x y f m p (Other g n) =
    elim (same g f && same_mode n m) as (λ b. (same g f && same_mode n m) ≡ b → (b && can_fail p (has_fixed selves rows g n x y)) ≡ (b && can_fail p (has_fixed (λ h. selves f) rows g n x y))) [
      | false ↦ λ t. refl
      | true ↦ λ t. ap (λ h. can_fail p (has_fixed (λ z. selves h) rows g n x y)) (same_text g f (sym (both (same g f) (same_mode n m) t).0))
    ] refl

-- the rows of the table that a lease to change what a session tells does not go with
pub against_self : (selves : Selves) (rows : List Row) (a : Row) (f : List ℕ) (m : Mode) → a.field ≡ SelfW f m → list_any (mode_conflict selves rows a) rows ≡ list_any (stands_against_self (selves f) rows a.session f m) rows
against_self selves rows a f m fe = any_same (mode_conflict selves rows a) (stands_against_self (selves f) rows a.session f m) rows (λ b i.
    ap (λ z. not (a.session.0 == b.session.0) && (mode_meets selves rows a.session z a.promise b.session b.field || mode_meets selves rows b.session b.field b.promise a.session z)) fe
    ∙ ap (λ z. not z && mode_meets selves rows b.session b.field b.promise a.session (SelfW f m)) (nat_eq_equiv.symm a.session.0 b.session.0)
    ∙ ap (λ z. not (b.session.0 == a.session.0) && z) (one_meets selves rows b.session a.session f m b.promise b.field))

one_truth : (a b : Bool) → (a ≡ true → b ≡ true) → (b ≡ true → a ≡ true) → a ≡ b
one_truth true b k l = sym (k refl)
one_truth false true k l = l refl
one_truth false false k l = refl

-- where a row lets a session change what it tells, a third session is one beside the first alone
any_third : (selves : Selves) (rows : List Row) (f : List ℕ) (m : Mode) (x : Session) (b : Row) → In b rows → is_self f m b.field ≡ true → has_fixed selves rows f m x b.session ≡ has_fixed selves rows f m x x
any_third selves rows f m x b i t = one_truth (has_fixed selves rows f m x b.session) (has_fixed selves rows f m x x)
    (λ h. witnessed selves rows f m x x (witness_one selves rows f m x b.session (witness selves rows f m x b.session h)))
    (λ h. witnessed selves rows f m x b.session (witness_past selves rows f m x x b i t (witness selves rows f m x x h)))

any_and : {X : Type 0} (test : X → Bool) (k : Bool) (xs : List X) → list_any (λ x. test x && k) xs ≡ (list_any test xs && k)
any_and test k [] = refl
any_and test k (y ∷ ys) = ap (λ b. (test y && k) || b) (any_and test k ys) ∙ spread (test y) (list_any test ys) k where
  spread : (a b k : Bool) → ((a && k) || (b && k)) ≡ ((a || b) && k)
  spread true true true = refl
  spread true true false = refl
  spread true false true = refl
  spread true false false = refl
  spread false b k = refl

reorder : (a b c d : Bool) → (b ≡ true → c ≡ d) → (a && ((b && c) || false)) ≡ ((b && a) && d)
reorder true true c d k = or-false c ∙ k refl
reorder true false c d k = refl
reorder false true c d k = refl
reorder false false c d k = refl

-- the rows of the table that let another session make untrue what a row tells
pub against_other : (selves : Selves) (rows : List Row) (a : Row) (f : List ℕ) (m : Mode) → a.field ≡ Other f m → list_any (mode_conflict selves rows a) rows ≡ (list_any (is_self_of_other f m a.session) rows && can_fail a.promise (has_fixed (λ g. selves f) rows f m a.session a.session))
against_other selves rows a f m fe = any_same (mode_conflict selves rows a) (λ b. is_self_of_other f m a.session b && can_fail a.promise (has_fixed selves rows f m a.session a.session)) rows (λ b i.
    ap (λ z. not (a.session.0 == b.session.0) && (mode_meets selves rows a.session z a.promise b.session b.field || mode_meets selves rows b.session b.field b.promise a.session z)) fe
    ∙ ap (λ z. not (a.session.0 == b.session.0) && (z || mode_meets selves rows b.session b.field b.promise a.session (Other f m))) (meets_is selves rows a.session f m a.promise b.session b.field)
    ∙ ap (λ z. not (a.session.0 == b.session.0) && ((is_self f m b.field && can_fail a.promise (has_fixed selves rows f m a.session b.session)) || z)) (lets_nothing selves rows b.session a.session f m b.promise b.field)
    ∙ ap (λ z. not z && ((is_self f m b.field && can_fail a.promise (has_fixed selves rows f m a.session b.session)) || false)) (nat_eq_equiv.symm a.session.0 b.session.0)
    ∙ reorder (not (b.session.0 == a.session.0)) (is_self f m b.field) (can_fail a.promise (has_fixed selves rows f m a.session b.session)) (can_fail a.promise (has_fixed selves rows f m a.session a.session)) (λ t. ap (can_fail a.promise) (any_third selves rows f m a.session b i t)))
    ∙ any_and (is_self_of_other f m a.session) (can_fail a.promise (has_fixed selves rows f m a.session a.session)) rows

tells_none : (selves : Selves) (rows : List Row) (x y : Session) (p : Option Bool) (f g : Field) → ((h : List ℕ) (n : Mode) → f ≡ Other h n → ⊥) → mode_meets selves rows x f p y g ≡ false
tells_none selves rows x y p (Other h n) g k = absurd (k h n refl)
tells_none selves rows x y p f g k = refl

lets_none : (selves : Selves) (rows : List Row) (x y : Session) (p : Option Bool) (f g : Field) → ((h : List ℕ) (n : Mode) → g ≡ SelfW h n → ⊥) → mode_meets selves rows x f p y g ≡ false
lets_none selves rows x y p (Other f m) (SelfW h n) k = absurd (k h n refl)
lets_none selves rows x y p f g k = refl

neither_way : (a b c : Bool) → b ≡ false → c ≡ false → (a && (b || c)) ≡ false
neither_way true b c p q = ap (λ z. z || c) p ∙ q
neither_way false b c p q = refl

-- a row on another field conflicts over no mode
pub against_none : (selves : Selves) (rows : List Row) (a : Row) → ((f : List ℕ) (m : Mode) → a.field ≡ SelfW f m → ⊥) → ((f : List ℕ) (m : Mode) → a.field ≡ Other f m → ⊥) → list_any (mode_conflict selves rows a) rows ≡ false
against_none selves rows a k l = In_none (mode_conflict selves rows a) rows (λ b i.
    neither_way (not (a.session.0 == b.session.0)) (mode_meets selves rows a.session a.field a.promise b.session b.field) (mode_meets selves rows b.session b.field b.promise a.session a.field)
    (tells_none selves rows a.session b.session a.promise a.field b.field l)
    (lets_none selves rows b.session a.session b.promise b.field a.field k))

-- ## Sessions that are found once

pub none_against_self : (opens : Opens) (rows : List Row) (f : List ℕ) (m : Mode) (y : Session) → list_any (is_other_of_other f m y) rows ≡ false → list_any (stands_against_self opens rows y f m) rows ≡ false
none_against_self opens rows f m y h = In_none (stands_against_self opens rows y f m) rows (λ row i. stays_out (is_other f m row.field) (not (row.session.0 == y.0)) (mode_meets (λ g. opens) rows row.session row.field row.promise y (SelfW f m)) (none_any (is_other_of_other f m y) rows h row i) (meets_none opens rows f m y row.session row.promise row.field))

pub some_against_self : (opens : Opens) (rows : List Row) (f : List ℕ) (m : Mode) (y : Session) (fixed : Fixed) → AreFixedBut opens rows f m y fixed → list_any (stands_by fixed y f m) rows ≡ list_any (stands_against_self opens rows y f m) rows
some_against_self opens rows f m y fixed k = any_same (stands_by fixed y f m) (stands_against_self opens rows y f m) rows (λ row i. ap (λ b. not (row.session.0 == y.0) && b) (meets_same opens rows f m y row.session fixed row.promise k row.field))

-- ## Who is listed

abbrev pub listed_by : Option (List ℕ × List (Session × Modes)) → List (Session × Modes)
listed_by (Some e) = e.1
listed_by None = []

-- the first entry of the file tells who has handles on it
pub listed_first : (listed : List (List ℕ × List (Session × Modes))) (file : List ℕ) → selves_listed listed file ≡ listed_by (find (λ e. same e.0 file) listed)
listed_first [] file = refl
listed_first (e ∷ es) file = elim (same e.0 file) as (λ b. cond b e.1 (selves_listed es file) ≡ listed_by (cond b (Some e) (find (λ z. same z.0 file) es))) [
  | true ↦ refl
  | false ↦ listed_first es file
]

-- ## All that come

-- none of these conflicts with the row over a mode
abbrev free_over_modes : Selves → List Row → Row → Bool
free_over_modes selves rows a = not (list_any (mode_conflict selves rows a) rows)

-- a row that came goes with those behind it where each of those goes with all
with_later : (m : Row) (ms rows : List Row) → list_all (plainly_free (with_rows (m ∷ ms) rows)) ms ≡ true → list_any (plain_conflict m) ms ≡ false
with_later m ms rows free = In_none (plain_conflict m) ms (λ x i.
    let none : list_any (plain_conflict x) (with_rows (m ∷ ms) rows) ≡ false = not-true (list_any (plain_conflict x) (with_rows (m ∷ ms) rows)) (all-In (plainly_free (with_rows (m ∷ ms) rows)) ms free x i) in
    let first : ((plain_conflict x m || list_any (plain_conflict x) ms) ≡ false) × (list_any (plain_conflict x) rows ≡ false) = neither (plain_conflict x m || list_any (plain_conflict x) ms) (list_any (plain_conflict x) rows) (sym (any_rows (plain_conflict x) (m ∷ ms) rows) ∙ none) in
    plain_mutual m x ∙ (neither (plain_conflict x m) (list_any (plain_conflict x) ms) first.0).0)

with_all : (m : Row) (ms rows : List Row) → list_all (plainly_free (with_rows (m ∷ ms) rows)) ms ≡ true → plainly_free rows m ≡ plainly_free (with_rows (m ∷ ms) rows) m
with_all m ms rows free = ap not (sym (
    any_rows (plain_conflict m) (m ∷ ms) rows
    ∙ ap (λ b. (b || list_any (plain_conflict m) ms) || list_any (plain_conflict m) rows) (not_itself m)
    ∙ ap (λ b. b || list_any (plain_conflict m) rows) (with_later m ms rows free)))

arrange : (n p a q s : Bool) → (s ≡ true → p ≡ q) → ((n && p) && (a && s)) ≡ ((n && a) && (q && s))
arrange false p a q s k = refl
arrange true true false q s k = refl
arrange true false false q s k = refl
arrange true p true q true k = ap (λ z. z && true) (k refl)
arrange true true true true false k = refl
arrange true true true false false k = refl
arrange true false true true false k = refl
arrange true false true false false k = refl

-- rows fit plainly where the numbers are new and each goes with all
plainly_apart : (more rows : List Row) → fit_plainly rows more ≡ (are_new rows more && list_all (plainly_free (with_rows more rows)) more)
plainly_apart [] rows = refl
plainly_apart (m ∷ ms) rows =
    ap (λ b. stands_beside rows m && b) (plainly_apart ms (with_row m rows))
    ∙ arrange (is_new rows m) (plainly_free rows m) (are_new (with_row m rows) ms) (plainly_free (with_rows (m ∷ ms) rows) m) (list_all (plainly_free (with_rows (m ∷ ms) rows)) ms) (with_all m ms rows)

any_either : {X : Type 0} (p q : X → Bool) (xs : List X) → list_any (λ x. p x || q x) xs ≡ (list_any p xs || list_any q xs)
any_either p q [] = refl
any_either p q (y ∷ ys) = ap (λ b. (p y || q y) || b) (any_either p q ys) ∙ or_regroup (p y) (q y) (list_any p ys) (list_any q ys)

not_either : (a b : Bool) → not (a || b) ≡ (not a && not b)
not_either true b = refl
not_either false b = refl

-- a row that came conflicts with none where it does so neither plainly nor over a mode
all_apart : (selves : Selves) (rows more : List Row) → list_all (is_free selves rows) more ≡ (list_all (plainly_free rows) more && list_all (free_over_modes selves rows) more)
all_apart selves rows [] = refl
all_apart selves rows (m ∷ ms) =
    ap (λ b. not b && list_all (is_free selves rows) ms) (any_either (plain_conflict m) (mode_conflict selves rows m) rows)
    ∙ ap (λ b. b && list_all (is_free selves rows) ms) (not_either (list_any (plain_conflict m) rows) (list_any (mode_conflict selves rows m) rows))
    ∙ ap (λ b. (plainly_free rows m && free_over_modes selves rows m) && b) (all_apart selves rows ms)
    ∙ and_regroup (plainly_free rows m) (free_over_modes selves rows m) (list_all (plainly_free rows) ms) (list_all (free_over_modes selves rows) ms)

assoc : (a b c : Bool) → ((a && b) && c) ≡ (a && (b && c))
assoc true b c = refl
assoc false b c = refl

abbrev pub all_free_over_modes : Selves → List Row → List Row → Bool
all_free_over_modes selves rows more = list_all (free_over_modes selves rows) more

-- rows fit where they fit plainly and none conflicts over a mode
pub fits_apart : (selves : Selves) (rows more : List Row) → (fit_plainly rows more && all_free_over_modes selves (with_rows more rows) more) ≡ fits selves rows more
fits_apart selves rows more =
    ap (λ b. b && list_all (free_over_modes selves (with_rows more rows)) more) (plainly_apart more rows)
    ∙ assoc (are_new rows more) (list_all (plainly_free (with_rows more rows)) more) (list_all (free_over_modes selves (with_rows more rows)) more)
    ∙ ap (λ b. are_new rows more && b) (sym (all_apart selves (with_rows more rows) more))
