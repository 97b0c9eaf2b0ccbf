-- Sessions that have a mode and cannot change that.
use Rattle.std.proofs.Common.{◌≡◌, ◌==◌, not, ◌&&◌, ◌||◌, ℕ, Bool, true, false, List, [], ◌∷◌, refl, ap, cond, sym, ◌∙◌, subst, map, inl, inr, arith}
use Rattle.std.specs.Cmp.{nat_eq_equiv}
use Rattle.std.specs.Cmp.Lexicographic.{same_text}
use Rattle.std.specs.List.{filter, list_any}
use Rattle.std.proofs.lemmas.Bool.Decides.{nat_tests}
use Rattle.std.proofs.lemmas.Bool.{or_from, not-true}
use Rattle.fs_ident.specs.In.{In}
use Rattle.fs_ident.specs.Ident.{same}
use Rattle.fs_ident.specs.declared.actor.Session.{Session}
use Rattle.fs_ident.proofs.Booleans.{both, joined, second_fails}
use Rattle.fs_ident.proofs.Standing.{In-filter, In-put, In-map, none_any, any_In}
use Rattle.fs_modes.specs.declared.modes.Mode.{Mode}
use Rattle.fs_modes.specs.declared.modes.Mode.TheVariants.{AccR, AccW, AccD, DenyR, DenyW, DenyD}
use Rattle.fs_modes.specs.declared.modes.Modes.{Modes}
use Rattle.fs_modes.specs.Modes.{has}
use Rattle.fs_field.specs.declared.field.Field.TheVariants.{SelfW}
use Rattle.fs_field.specs.declared.row.Row.{Row}
use Rattle.fs_field.specs.Conflict.{Selves, is_self, is_fixed, has_fixed}
use Rattle.fs_field.specs.Field.{same_mode}
use Rattle.fs_field.specs.Table.{no_before, with_row}
use Rattle.fs_moderows.proofs.Tables.{TellsSame, tells_same_itself}

pub not_both : (a b : Bool) → (a ≡ true → b ≡ false) → (a && b) ≡ false
not_both true b k = k refl
not_both false b k = refl

or_holds : (a b : Bool) → b ≡ true → (a || b) ≡ true
or_holds true b h = refl
or_holds false b h = h

pub In_any : {X : Type 0} (test : X → Bool) (xs : List X) (x : X) → In x xs → test x ≡ true → list_any test xs ≡ true
In_any test [] x i p = absurd i
In_any test (y ∷ ys) x i p = elim i [
  | inl e ↦ ap (λ b. b || list_any test ys) (ap test (sym e) ∙ p)
  | inr j ↦ or_holds (test y) (list_any test ys) (In_any test ys x j p)
]

pub In_none : {X : Type 0} (test : X → Bool) (xs : List X) → ((x : X) → In x xs → test x ≡ false) → list_any test xs ≡ false
In_none test [] k = refl
In_none test (y ∷ ys) k = or_from (test y) (list_any test ys) (k y (inl refl)) (In_none test ys (λ x i. k x (inr i)))

-- an item that passes stays
pub In_filtered : {X : Type 0} (test : X → Bool) (xs : List X) (x : X) → In x xs → test x ≡ true → In x (filter test xs)
In_filtered test [] x i p = i
In_filtered test (y ∷ ys) x i p =
    elim (test y) as (λ b. test y ≡ b → In x (cond b (y ∷ filter test ys) (filter test ys))) [
      | true ↦ λ e. elim i [ inl q ↦ inl q | inr j ↦ inr (In_filtered test ys x j p) ]
      | false ↦ λ e. elim i [
        | inl q ↦ let wrong : true ≡ false = sym p ∙ ap test q ∙ e in absurd (cc)
        | inr j ↦ In_filtered test ys x j p
      ]
    ] refl

-- of three numbers the first two are one, and the third is another
pub another : (a b c : ℕ) → (a == b) ≡ true → (c == a) ≡ false → (b == c) ≡ false
another a b c p q = grind (arith, nat_tests)

pub turned : (a b c : ℕ) → (a == b) ≡ true → (b == c) ≡ false → (c == a) ≡ false
turned a b c p q = grind (arith, nat_tests)

pub same_mode_is : (m n : Mode) → same_mode m n ≡ true → m ≡ n
same_mode_is AccR AccR h = refl
same_mode_is AccW AccW h = refl
same_mode_is AccD AccD h = refl
same_mode_is DenyR DenyR h = refl
same_mode_is DenyW DenyW h = refl
same_mode_is DenyD DenyD h = refl
same_mode_is m n h = absurd (cc)

-- both fields are what a session tells of one file
pub one_file : (h f : List ℕ) (n m : Mode) → is_self h n (SelfW f m) ≡ true → h ≡ f
one_file h f n m t = same_text h f (sym (both (same h f) (same_mode n m) t).0)

abbrev pub lets : List ℕ → Mode → Session → Row → Bool
lets f m s row = is_self f m row.field && (row.session.0 == s.0)

-- a row that lets a session change what it tells is of no session that is fixed
pub fixed_row : (rows : List Row) (f : List ℕ) (m : Mode) (s : Session) (r : Row) → is_fixed rows f m s ≡ true → In r rows → is_self f m r.field ≡ true → (r.session.0 == s.0) ≡ false
fixed_row rows f m s r h i e = second_fails (is_self f m r.field) (r.session.0 == s.0) e (none_any (lets f m s) rows (not-true (list_any (lets f m s) rows) h) r i)

pub fixed_from : (rows : List Row) (f : List ℕ) (m : Mode) (s : Session) → ((r : Row) → In r rows → is_self f m r.field ≡ true → (r.session.0 == s.0) ≡ false) → is_fixed rows f m s ≡ true
fixed_from rows f m s k = ap not (In_none (lets f m s) rows (λ r i. not_both (is_self f m r.field) (r.session.0 == s.0) (k r i)))

-- with one row more, which is none by which it could change what it tells
pub fixed_with : (r : Row) (rows : List Row) (f : List ℕ) (m : Mode) (s : Session) → (is_self f m r.field ≡ true → (r.session.0 == s.0) ≡ false) → is_fixed rows f m s ≡ true → is_fixed (with_row r rows) f m s ≡ true
fixed_with r rows f m s k h = fixed_from (with_row r rows) f m s (λ x i e. elim (In-put (λ z. no_before r.no z.no) x r rows i) [
  | inl q ↦ ap (λ (z : Row). z.session.0 == s.0) q ∙ k (ap (λ (z : Row). is_self f m z.field) (sym q) ∙ e)
  | inr j ↦ fixed_row rows f m s x h j e
])

-- each row of the first list tells what one of the second does
abbrev pub Covered : List Row → List Row → Type 0
Covered new old = (b : Row) → In b new → (a : Row) × (In a old × TellsSame a b)

pub covered_filter : (test : Row → Bool) (rows : List Row) → Covered (filter test rows) rows
covered_filter test rows b i = (b, (In-filter test b rows i, tells_same_itself b))

pub covered_map : (f : Row → Row) → ((r : Row) → TellsSame r (f r)) → (rows : List Row) → Covered (map f rows) rows
covered_map f same rows b i =
    let q : (x : Row) × (In x rows × (b ≡ f x)) = In-map f b rows i in
    (q.0, (q.1.0, subst (TellsSame q.0) (sym q.1.1) (same q.0)))

pub fixed_fewer : (new old : List Row) → Covered new old → (f : List ℕ) (m : Mode) (s : Session) → is_fixed old f m s ≡ true → is_fixed new f m s ≡ true
fixed_fewer new old c f m s h = fixed_from new f m s (λ b i e.
    let q : (a : Row) × (In a old × TellsSame a b) = c b i in
    ap (λ (z : Session). z.0 == s.0) q.1.1.session ∙ fixed_row old f m s q.0 h q.1.0 (ap (is_self f m) (sym q.1.1.field) ∙ e))

-- a session other than these two that has the mode and cannot change that
pub record Witness (selves : Selves) (rows : List Row) (f : List ℕ) (m : Mode) (x y : Session) : Type 0 where
  pub entry : Session × Modes
  pub listed : In entry (selves f)
  pub not_x : (entry.0.0 == x.0) ≡ false
  pub not_y : (entry.0.0 == y.0) ≡ false
  pub told : has entry.1 m ≡ true
  pub fixed : is_fixed rows f m entry.0 ≡ true

abbrev serves : List Row → List ℕ → Mode → Session → Session → Session × Modes → Bool
serves rows f m x y e = ((not (e.0.0 == x.0) && not (e.0.0 == y.0)) && has e.1 m) && is_fixed rows f m e.0

pub witness : (selves : Selves) (rows : List Row) (f : List ℕ) (m : Mode) (x y : Session) → has_fixed selves rows f m x y ≡ true → Witness selves rows f m x y
witness selves rows f m x y h =
    let q : (e : Session × Modes) × (In e (selves f) × (serves rows f m x y e ≡ true)) = any_In (serves rows f m x y) (selves f) h in
    let a : (((not (q.0.0.0 == x.0) && not (q.0.0.0 == y.0)) && has q.0.1 m) ≡ true) × (is_fixed rows f m q.0.0 ≡ true) = both ((not (q.0.0.0 == x.0) && not (q.0.0.0 == y.0)) && has q.0.1 m) (is_fixed rows f m q.0.0) q.1.1 in
    let b : ((not (q.0.0.0 == x.0) && not (q.0.0.0 == y.0)) ≡ true) × (has q.0.1 m ≡ true) = both (not (q.0.0.0 == x.0) && not (q.0.0.0 == y.0)) (has q.0.1 m) a.0 in
    let c : (not (q.0.0.0 == x.0) ≡ true) × (not (q.0.0.0 == y.0) ≡ true) = both (not (q.0.0.0 == x.0)) (not (q.0.0.0 == y.0)) b.0 in
    record { entry = q.0; listed = q.1.0; not_x = not-true (q.0.0.0 == x.0) c.0; not_y = not-true (q.0.0.0 == y.0) c.1; told = b.1; fixed = a.1 }

pub witnessed : (selves : Selves) (rows : List Row) (f : List ℕ) (m : Mode) (x y : Session) → Witness selves rows f m x y → has_fixed selves rows f m x y ≡ true
witnessed selves rows f m x y w = In_any (serves rows f m x y) (selves f) w.entry w.listed
    (joined ((not (w.entry.0.0 == x.0) && not (w.entry.0.0 == y.0)) && has w.entry.1 m) (is_fixed rows f m w.entry.0)
    (joined (not (w.entry.0.0 == x.0) && not (w.entry.0.0 == y.0)) (has w.entry.1 m)
    (joined (not (w.entry.0.0 == x.0)) (not (w.entry.0.0 == y.0)) (ap not w.not_x) (ap not w.not_y))
    w.told)
    w.fixed)

-- where sessions stay fixed, so does the witness
pub witness_stays : (selves : Selves) (old new : List Row) (f : List ℕ) (m : Mode) (x y : Session) → ((s : Session) → is_fixed old f m s ≡ true → is_fixed new f m s ≡ true) → has_fixed selves old f m x y ≡ true → has_fixed selves new f m x y ≡ true
witness_stays selves old new f m x y k h =
    let w : Witness selves old f m x y = witness selves old f m x y h in
    witnessed selves new f m x y (record { entry = w.entry; listed = w.listed; not_x = w.not_x; not_y = w.not_y; told = w.told; fixed = k w.entry.0 w.fixed })

-- a row of the second session leaves it
pub witness_beside : (selves : Selves) (rows : List Row) (r : Row) (f : List ℕ) (m : Mode) (x : Session) → Witness selves rows f m x r.session → Witness selves (with_row r rows) f m x r.session
witness_beside selves rows r f m x w = record {
  entry = w.entry;
  listed = w.listed;
  not_x = w.not_x;
  not_y = w.not_y;
  told = w.told;
  fixed = fixed_with r rows f m w.entry.0 (λ u. nat_eq_equiv.symm r.session.0 w.entry.0.0 ∙ w.not_y) w.fixed;
}

-- it is not the session of a row by which one can change what it tells
pub witness_past : (selves : Selves) (rows : List Row) (f : List ℕ) (m : Mode) (x y : Session) (b : Row) → In b rows → is_self f m b.field ≡ true → Witness selves rows f m x y → Witness selves rows f m x b.session
witness_past selves rows f m x y b i t w = record {
  entry = w.entry;
  listed = w.listed;
  not_x = w.not_x;
  not_y = nat_eq_equiv.symm w.entry.0.0 b.session.0 ∙ fixed_row rows f m w.entry.0 b w.fixed i t;
  told = w.told;
  fixed = w.fixed;
}

-- that it is not the first session is enough where both are one
pub witness_one : (selves : Selves) (rows : List Row) (f : List ℕ) (m : Mode) (x y : Session) → Witness selves rows f m x y → Witness selves rows f m x x
witness_one selves rows f m x y w = record { entry = w.entry; listed = w.listed; not_x = w.not_x; not_y = w.not_x; told = w.told; fixed = w.fixed }

-- it is listed for the file
pub witness_of : (selves : Selves) (rows : List Row) (h f : List ℕ) (m : Mode) (x y : Session) → h ≡ f → Witness (λ g. selves f) rows h m x y → Witness selves rows h m x y
witness_of selves rows h f m x y e w = record {
  entry = w.entry;
  listed = subst (λ g. In w.entry (selves g)) (sym e) w.listed;
  not_x = w.not_x;
  not_y = w.not_y;
  told = w.told;
  fixed = w.fixed;
}
