-- What is found once for a question is what each row would find by itself.
use Rattle.std.proofs.Common.{◌≡◌, ◌==◌, not, ◌&&◌, ℕ, Bool, true, false, List, [], ◌∷◌, refl, ap, cond, sym, ◌∙◌, inl, inr, arith}
use Rattle.std.specs.Cmp.{nat_eq_equiv}
use Rattle.std.specs.Cmp.Lexicographic.{same_text}
use Rattle.std.specs.Prelude.{Option, Some, None}
use Rattle.std.specs.List.{find, list_any}
use Rattle.std.proofs.lemmas.Bool.Decides.{nat_tests}
use Rattle.std.proofs.lemmas.Bool.{eqb-true, not-true}
use Rattle.fs_ident.specs.In.{In}
use Rattle.fs_ident.specs.Ident.{same}
use Rattle.fs_ident.specs.declared.actor.Session.{Session}
use Rattle.fs_ident.proofs.Booleans.{both, joined}
use Rattle.fs_ident.proofs.Passing.{found}
use Rattle.fs_ident.proofs.Standing.{none_pass, none_any}
use Rattle.fs_modes.specs.declared.modes.Mode.{Mode}
use Rattle.fs_modes.specs.declared.modes.Modes.{Modes}
use Rattle.fs_modes.specs.Modes.{has}
use Rattle.fs_field.specs.declared.field.Field.{Field}
use Rattle.fs_field.specs.declared.field.Field.TheVariants.{Life, Child, Names, Info, SelfW, Other, Own}
use Rattle.fs_field.specs.declared.row.Row.{Row}
use Rattle.fs_field.specs.Conflict.{is_fixed, has_fixed, can_fail, mode_meets}
use Rattle.fs_field.specs.Field.{mode_rank, same_mode}
use Rattle.fs_moderows.specs.Answer.{Opens, has_mode, is_told_true, rests_on, stands_against_self, stands_against_reap}
use Rattle.fs_moderows.specs.Fixed.{has_but, AreFixedBut, is_other, is_other_of_other, stands_by, rests_by, of_mode, rests_by_each, stands_by_each, TellsOfMode}
use Rattle.fs_moderows.specs.declared.fixed.Fixed.{Fixed}
use Rattle.fs_moderows.specs.declared.fixed.Fixed.TheVariants.{Nobody, One, Several}
use Rattle.fs_moderows.specs.declared.fixed.EachMode.{EachMode}
use Rattle.fs_moderows.proofs.Witnesses.{same_mode_is, Witness, witness, witnessed}

-- tests that agree on all items find the same
pub find_same : {X : Type 0} (p q : X → Bool) (xs : List X) → ((x : X) → In x xs → p x ≡ q x) → find p xs ≡ find q xs
find_same p q [] k = refl
find_same p q (y ∷ ys) k = ap (λ b. cond b (Some y) (find p ys)) (k y (inl refl)) ∙ ap (cond (q y) (Some y)) (find_same p q ys (λ x i. k x (inr i)))

find_none : {X : Type 0} (p : X → Bool) (xs : List X) → ((x : X) → In x xs → p x ≡ false) → find p xs ≡ None
find_none p [] k = refl
find_none p (y ∷ ys) k = ap (λ b. cond b (Some y) (find p ys)) (k y (inl refl)) ∙ find_none p ys (λ x i. k x (inr i))

-- the entry is of a session other than y that has the mode and is fixed
abbrev among : List Row → List ℕ → Mode → Session → Session × Modes → Bool
among rows f m y e = (not (e.0.0 == y.0) && has e.1 m) && is_fixed rows f m e.0

pub nobody_fixed : (opens : Opens) (rows : List Row) (f : List ℕ) (m : Mode) (y : Session) → find (among rows f m y) opens ≡ None → AreFixedBut opens rows f m y Nobody
nobody_fixed opens rows f m y h x =
    elim (has_fixed (λ g. opens) rows f m x y) as (λ b. has_fixed (λ g. opens) rows f m x y ≡ b → false ≡ b) [
      | false ↦ λ e. refl
      | true ↦ λ e.
          let w : Witness (λ g. opens) rows f m x y = witness (λ g. opens) rows f m x y e in
          sym (none_pass (among rows f m y) opens h w.entry w.listed) ∙ joined (not (w.entry.0.0 == y.0) && has w.entry.1 m) (is_fixed rows f m w.entry.0) (joined (not (w.entry.0.0 == y.0)) (has w.entry.1 m) (ap not w.not_y) w.told) w.fixed
    ] refl

-- the first that is found serves any session but itself
first_serves : (opens : Opens) (rows : List Row) (f : List ℕ) (m : Mode) (x y : Session) (e : Session × Modes) → find (among rows f m y) opens ≡ Some e → (e.0.0 == x.0) ≡ false → has_fixed (λ g. opens) rows f m x y ≡ true
first_serves opens rows f m x y e h apart =
    let q : In e opens × (among rows f m y e ≡ true) = found (among rows f m y) opens e h in
    let a : ((not (e.0.0 == y.0) && has e.1 m) ≡ true) × (is_fixed rows f m e.0 ≡ true) = both (not (e.0.0 == y.0) && has e.1 m) (is_fixed rows f m e.0) q.1 in
    let b : (not (e.0.0 == y.0) ≡ true) × (has e.1 m ≡ true) = both (not (e.0.0 == y.0)) (has e.1 m) a.0 in
    witnessed (λ g. opens) rows f m x y (record { entry = e; listed = q.0; not_x = apart; not_y = not-true (e.0.0 == y.0) b.0; told = b.1; fixed = a.1 })

third_same : (opens : Opens) (rows : List Row) (f : List ℕ) (m : Mode) (s x y : Session) → (s.0 == x.0) ≡ true → has_fixed (λ g. opens) rows f m s y ≡ has_fixed (λ g. opens) rows f m x y
third_same opens rows f m s x y t = ap (λ k. list_any (λ e. ((not (e.0.0 == k) && not (e.0.0 == y.0)) && has e.1 m) && is_fixed rows f m e.0) opens) (eqb-true s.0 x.0 t)

but_itself : (another : Bool) (s x : Session) → (s.0 == x.0) ≡ true → has_but (cond another Several (One s)) x ≡ another
but_itself true s x t = refl
but_itself false s x t = ap not t

but_other : (another : Bool) (s x : Session) → (s.0 == x.0) ≡ false → has_but (cond another Several (One s)) x ≡ true
but_other true s x t = refl
but_other false s x t = ap not t

pub some_fixed : (opens : Opens) (rows : List Row) (f : List ℕ) (m : Mode) (y : Session) (e : Session × Modes) (another : Bool) → find (among rows f m y) opens ≡ Some e → another ≡ has_fixed (λ g. opens) rows f m e.0 y → AreFixedBut opens rows f m y (cond another Several (One e.0))
some_fixed opens rows f m y e another h k x =
    elim (e.0.0 == x.0) as (λ b. (e.0.0 == x.0) ≡ b → has_but (cond another Several (One e.0)) x ≡ has_fixed (λ g. opens) rows f m x y) [
      | true ↦ λ t. but_itself another e.0 x t ∙ k ∙ third_same opens rows f m e.0 x y t
      | false ↦ λ t. but_other another e.0 x t ∙ sym (first_serves opens rows f m x y e h t)
    ] refl

-- what is found of one file and mode is so of a field on them
of_field : (opens : Opens) (rows : List Row) (f g : List ℕ) (m n : Mode) (y x : Session) (fixed : Fixed) → AreFixedBut opens rows f m y fixed → (same g f && same_mode n m) ≡ true → has_but fixed x ≡ has_fixed (λ h. opens) rows g n x y
of_field opens rows f g m n y x fixed k t =
    let q : (same g f ≡ true) × (same_mode n m ≡ true) = both (same g f) (same_mode n m) t in
    k x ∙ ap (λ z. has_fixed (λ h. opens) rows z m x y) (sym (same_text g f (sym q.0))) ∙ ap (λ z. has_fixed (λ h. opens) rows g z x y) (sym (same_mode_is n m q.1))

pub meets_same : (opens : Opens) (rows : List Row) (f : List ℕ) (m : Mode) (y x : Session) (fixed : Fixed) (promise : Option Bool) → AreFixedBut opens rows f m y fixed → (field : Field) → (is_other f m field && can_fail promise (has_but fixed x)) ≡ mode_meets (λ h. opens) rows x field promise y (SelfW f m)
meets_same opens rows f m y x fixed promise k (Life a) = refl
meets_same opens rows f m y x fixed promise k (Child a n) = refl
meets_same opens rows f m y x fixed promise k (Names a) = refl
meets_same opens rows f m y x fixed promise k (Info a) = refl
meets_same opens rows f m y x fixed promise k (SelfW a n) = refl
meets_same opens rows f m y x fixed promise k (Own a) = refl
meets_same opens rows f m y x fixed promise k (Other g n) =
    elim (same g f && same_mode n m) as (λ b. (same g f && same_mode n m) ≡ b → (b && can_fail promise (has_but fixed x)) ≡ (b && can_fail promise (has_fixed (λ h. opens) rows g n x y))) [
      | true ↦ λ t. ap (can_fail promise) (of_field opens rows f g m n y x fixed k t)
      | false ↦ λ t. refl
    ] refl

pub self_found : (opens : Opens) (rows : List Row) (f : List ℕ) (m : Mode) (y : Session) (fixed : Fixed) → AreFixedBut opens rows f m y fixed → find (stands_by fixed y f m) rows ≡ find (stands_against_self opens rows y f m) rows
self_found opens rows f m y fixed k = find_same (stands_by fixed y f m) (stands_against_self opens rows y f m) rows (λ row i. ap (λ b. not (row.session.0 == y.0) && b) (meets_same opens rows f m y row.session fixed row.promise k row.field))

-- a field that is not what others tell of the mode meets no lease on it
pub meets_none : (opens : Opens) (rows : List Row) (f : List ℕ) (m : Mode) (y x : Session) (promise : Option Bool) (field : Field) → is_other f m field ≡ false → mode_meets (λ h. opens) rows x field promise y (SelfW f m) ≡ false
meets_none opens rows f m y x promise (Life a) h = refl
meets_none opens rows f m y x promise (Child a n) h = refl
meets_none opens rows f m y x promise (Names a) h = refl
meets_none opens rows f m y x promise (Info a) h = refl
meets_none opens rows f m y x promise (SelfW a n) h = refl
meets_none opens rows f m y x promise (Own a) h = refl
meets_none opens rows f m y x promise (Other g n) h = ap (λ b. b && can_fail promise (has_fixed (λ z. opens) rows g n x y)) h

pub stays_out : (a b c : Bool) → (a && b) ≡ false → (a ≡ false → c ≡ false) → (b && c) ≡ false
stays_out true true c h k = absurd (cc)
stays_out true false c h k = refl
stays_out false true c h k = k refl
stays_out false false c h k = refl

pub none_told : (opens : Opens) (rows : List Row) (f : List ℕ) (m : Mode) (y : Session) → list_any (is_other_of_other f m y) rows ≡ false → find (stands_against_self opens rows y f m) rows ≡ None
none_told opens rows f m y h = find_none (stands_against_self opens rows y f m) rows (λ row i. stays_out (is_other f m row.field) (not (row.session.0 == y.0)) (mode_meets (λ g. opens) rows row.session row.field row.promise y (SelfW f m)) (none_any (is_other_of_other f m y) rows h row i) (meets_none opens rows f m y row.session row.promise row.field))

-- nothing that was told of a mode rests on a session without it
rests_none : (opens : Opens) (rows : List Row) (s : Session) (f : List ℕ) (m : Mode) (x : Session) (promise : Option Bool) (field : Field) → has_mode opens s m ≡ false → is_other f m field ≡ true → rests_on opens rows s f x field promise ≡ false
rests_none opens rows s f m x promise (Life a) h t = absurd (cc)
rests_none opens rows s f m x promise (Child a n) h t = absurd (cc)
rests_none opens rows s f m x promise (Names a) h t = absurd (cc)
rests_none opens rows s f m x promise (Info a) h t = absurd (cc)
rests_none opens rows s f m x promise (SelfW a n) h t = absurd (cc)
rests_none opens rows s f m x promise (Own a) h t = absurd (cc)
rests_none opens rows s f m x promise (Other g n) h t =
    let q : (same g f ≡ true) × (same_mode n m ≡ true) = both (same g f) (same_mode n m) t in
    ap (λ b. (b && has_mode opens s n) && (is_told_true promise && not (has_fixed (λ z. opens) rows g n x s))) q.0 ∙ ap (λ b. b && (is_told_true promise && not (has_fixed (λ z. opens) rows g n x s))) (ap (has_mode opens s) (same_mode_is n m q.1) ∙ h)

pub tells_no_mode : (opens : Opens) (rows : List Row) (s : Session) (f : List ℕ) (m : Mode) → has_mode opens s m ≡ false → TellsOfMode opens rows s f m None
tells_no_mode opens rows s f m h row i t = ap (λ b. not (row.session.0 == s.0) && b) (rests_none opens rows s f m row.session row.promise row.field h t)

pub tells_none_told : (opens : Opens) (rows : List Row) (s : Session) (f : List ℕ) (m : Mode) → list_any (is_other_of_other f m s) rows ≡ false → TellsOfMode opens rows s f m None
tells_none_told opens rows s f m h row i t =
    let own : not (row.session.0 == s.0) ≡ false = sym (ap (λ b. b && not (row.session.0 == s.0)) t) ∙ none_any (is_other_of_other f m s) rows h row i in
    ap (λ b. b && rests_on opens rows s f row.session row.field row.promise) own ∙ ap (λ b. b && false) (sym own)

reap_at : (opens : Opens) (rows : List Row) (s : Session) (f : List ℕ) (each : EachMode) → ((m : Mode) → TellsOfMode opens rows s f m (of_mode each m)) → (row : Row) → In row rows → (field : Field) → row.field ≡ field → (not (row.session.0 == s.0) && rests_by_each each f row.session field row.promise) ≡ (not (row.session.0 == s.0) && rests_on opens rows s f row.session field row.promise)
reap_at opens rows s f each k row i (Life a) t = refl
reap_at opens rows s f each k row i (Child a n) t = refl
reap_at opens rows s f each k row i (Names a) t = refl
reap_at opens rows s f each k row i (Info a) t = refl
reap_at opens rows s f each k row i (SelfW a n) t = refl
reap_at opens rows s f each k row i (Own a) t = refl
reap_at opens rows s f each k row i (Other g n) t =
    elim (same g f) as (λ b. same g f ≡ b → (not (row.session.0 == s.0) && (b && rests_by (of_mode each n) row.session row.promise)) ≡ (not (row.session.0 == s.0) && ((b && has_mode opens s n) && (is_told_true row.promise && not (has_fixed (λ h. opens) rows g n row.session s))))) [
      | false ↦ λ h. refl
      | true ↦ λ h.
          let on : is_other f n row.field ≡ true = ap (is_other f n) t ∙ joined (same g f) (same_mode n n) h (nat_eq_equiv.refl (mode_rank n)) in
          let told : stands_against_reap opens rows s f row ≡ (not (row.session.0 == s.0) && rests_by (of_mode each n) row.session row.promise) = k n row i on in
          sym told ∙ ap (λ z. not (row.session.0 == s.0) && rests_on opens rows s f row.session z row.promise) t ∙ ap (λ b. not (row.session.0 == s.0) && ((b && has_mode opens s n) && (is_told_true row.promise && not (has_fixed (λ z. opens) rows g n row.session s)))) h
    ] refl

pub reap_found : (opens : Opens) (rows : List Row) (s : Session) (f : List ℕ) (each : EachMode) → ((m : Mode) → TellsOfMode opens rows s f m (of_mode each m)) → find (stands_by_each each s f) rows ≡ find (stands_against_reap opens rows s f) rows
reap_found opens rows s f each k = find_same (stands_by_each each s f) (stands_against_reap opens rows s f) rows (λ row i. reap_at opens rows s f each k row i row.field refl)
