-- Rows on other files change no answer about a file.
use Rattle.std.proofs.Common.{◌≡◌, ℕ, ◌==◌, ◌&&◌, ◌||◌, not, Bool, true, false, List, [], ◌∷◌, map, refl, ap, ap₂, cond, subst, sym, ◌∙◌, inl, inr}
use Rattle.std.proofs.lemmas.Bool.{and_left, and_right}
use Rattle.std.specs.Prelude.{Option, Some, None, is_some, option_map}
use Rattle.std.specs.List.{filter, find, list_any}
use mathlib.Core.Path.{fun_ext}
use Rattle.fs_ident.specs.declared.actor.Session.{Session}
use Rattle.fs_ident.specs.Ident.{same}
use Rattle.fs_ident.specs.In.{In}
use Rattle.fs_ident.specs.Ordered.{put_before}
use Rattle.fs_ident.proofs.Same.{same_is}
use Rattle.fs_modes.specs.declared.modes.Mode.{Mode}
use Rattle.fs_modes.specs.declared.modes.Modes.{Modes}
use Rattle.fs_modes.specs.Modes.{has}
use Rattle.fs_field.specs.declared.asked.Asked.TheVariants.{Granted}
use Rattle.fs_field.specs.declared.field.Field.{Field}
use Rattle.fs_field.specs.declared.field.Field.TheVariants.{Life, Child, Names, Info, Own, SelfW, Other}
use Rattle.fs_field.specs.declared.lease_kind.LeaseKind.{LeaseKind}
use Rattle.fs_field.specs.declared.row.Row.{Row}
use Rattle.fs_field.specs.Conflict.{can_fail, has_fixed, is_exclusive, is_fixed, is_self, meets, mode_meets, names_over, one_shared, stands_against}
use Rattle.fs_field.specs.Field.{file_of, same_field, same_mode}
use Rattle.fs_field.specs.Table.{lock_on, no_before, with_row}
use Rattle.fs_field.proofs.Named.{any_put}
use Rattle.fs_moderows.specs.Answer.{Opens, answer_other, answer_self, has_fixed_other, has_mode, is_self_of_other, is_told_true, reap_blocker, rests_on, stands_against_reap, stands_against_self, unless_locked, waits_or}
use Rattle.fs_rows.specs.Answer.{answer, answer_by}
use Rattle.fs_rows.specs.Granted.{with_rows}
use Rattle.fs_rows.specs.Live.{unlocked_on}
use Rattle.fs_rows.proofs.Granting.{find_put, lock_put}
use Rattle.fs_serial.proofs.Lists.Journals.{same_symm}

-- ## What is read past rows

-- what no single row changes no rows change
pub unseen : {A : Type 0} (f : List Row → A) (xs rows : List Row) → ((r : Row) → In r xs → (m : List Row) → f (with_row r m) ≡ f m) → f (with_rows xs rows) ≡ f rows
unseen f [] rows h = refl
unseen f (r ∷ rs) rows h = unseen f rs (with_row r rows) (λ x i. h x (inr i)) ∙ h r (inl refl) rows

-- none of these rows passes
abbrev pub NonePasses : (Row → Bool) → List Row → Type 0
NonePasses test xs = (r : Row) → In r xs → test r ≡ false

pub find_past : (test : Row → Bool) (xs rows : List Row) → NonePasses test xs → find test (with_rows xs rows) ≡ find test rows
find_past test xs rows h = unseen (find test) xs rows (λ r i m. find_put test (λ x. no_before r.no x.no) r m (h r i))

pub any_past : (test : Row → Bool) (xs rows : List Row) → NonePasses test xs → list_any test (with_rows xs rows) ≡ list_any test rows
any_past test xs rows h = unseen (list_any test) xs rows (λ r i m. any_put test (λ x. no_before r.no x.no) r m ∙ ap (λ b. b || list_any test m) (h r i))

filter_put : {X : Type 0} (test first : X → Bool) (x : X) (xs : List X) → test x ≡ false → filter test (put_before first x xs) ≡ filter test xs
filter_put test first x [] h = ap (λ b. cond b (x ∷ []) []) h
filter_put test first x (y ∷ ys) h =
    elim (first y) as (λ b. filter test (cond b (x ∷ y ∷ ys) (y ∷ put_before first x ys)) ≡ filter test (y ∷ ys)) [
      | true ↦ ap (λ b. cond b (x ∷ filter test (y ∷ ys)) (filter test (y ∷ ys))) h
      | false ↦ ap (λ zs. cond (test y) (y ∷ zs) zs) (filter_put test first x ys h)
    ]

pub filter_past : (test : Row → Bool) (xs rows : List Row) → NonePasses test xs → filter test (with_rows xs rows) ≡ filter test rows
filter_past test xs rows h = unseen (filter test) xs rows (λ r i m. filter_put test (λ x. no_before r.no x.no) r m (h r i))

-- ## Rows on other files

-- no row is on the file
abbrev pub AreOff : List ℕ → List Row → Type 0
AreOff file xs = (r : Row) → In r xs → same (file_of r.field) file ≡ false

pub other_field : (f g : Field) → same (file_of f) (file_of g) ≡ false → same_field f g ≡ false
other_field (Life a) (Life b) h = h
other_field (Child a m) (Child b n) h = and_left (same a b) (same m n) h
other_field (Names a) (Names b) h = h
other_field (Info a) (Info b) h = h
other_field (Own a) (Own b) h = h
other_field (SelfW a m) (SelfW b n) h = and_left (same a b) (same_mode m n) h
other_field (Other a m) (Other b n) h = and_left (same a b) (same_mode m n) h
other_field f g h = refl

other_shared : (f g : Field) → same (file_of f) (file_of g) ≡ false → one_shared f g ≡ false
other_shared (Life a) (Life b) h = h
other_shared (Child a m) (Child b n) h = and_left (same a b) (same m n) h
other_shared (Names a) (Names b) h = h
other_shared (Info a) (Info b) h = h
other_shared f g h = refl

other_names : (f g : Field) → same (file_of f) (file_of g) ≡ false → names_over f g ≡ false
other_names (Names a) (Child b n) h = h
other_names f g h = refl

other_meets : (f : Field) (k : LeaseKind) (g : Field) (l : LeaseKind) → same (file_of f) (file_of g) ≡ false → same (file_of g) (file_of f) ≡ false → meets f k g l ≡ false
other_meets f k g l h o =
    ap (λ b. (b && (is_exclusive k || is_exclusive l)) || ((names_over f g && is_exclusive l) || (names_over g f && is_exclusive k))) (other_shared f g h)
    ∙ ap (λ b. (b && is_exclusive l) || (names_over g f && is_exclusive k)) (other_names f g h)
    ∙ ap (λ b. b && is_exclusive k) (other_names g f o)

pub off_back : (a b : List ℕ) → same a b ≡ false → same b a ≡ false
off_back a b h = same_symm b a ∙ h

-- it stands against no lease on the file
off_against : (by : Session) (field : Field) (kind : LeaseKind) (xs : List Row) → AreOff (file_of field) xs → NonePasses (stands_against by field kind) xs
off_against by field kind xs h r i = and_right (not (by.0 == r.session.0)) (meets field kind r.field r.kind) (other_meets field kind r.field r.kind (off_back (file_of r.field) (file_of field) (h r i)) (h r i))

off_locks : (field : Field) (xs rows : List Row) → AreOff (file_of field) xs → lock_on field (with_rows xs rows) ≡ lock_on field rows
off_locks field xs rows h = unseen (lock_on field) xs rows (λ r i m. lock_put field (λ x. no_before r.no x.no) r m (and_left (same_field r.field field) (is_some r.lock) (other_field r.field field (h r i))))

pub answer_past : (xs rows : List Row) (by : Session) (field : Field) (kind : LeaseKind) → AreOff (file_of field) xs → answer (with_rows xs rows) by field kind ≡ answer rows by field kind
answer_past xs rows by field kind h = ap₂ answer_by (off_locks field xs rows h) (find_past (stands_against by field kind) xs rows (off_against by field kind xs h))

pub unlocked_past : (field : Field) (xs rows : List Row) → AreOff (file_of field) xs → unlocked_on field (with_rows xs rows) ≡ unlocked_on field rows
unlocked_past field xs rows h = ap (map (λ (row : Row). (row.no, row.session))) (filter_past (λ row. same_field row.field field && not (is_some row.lock)) xs rows (λ r i. and_left (same_field r.field field) (not (is_some r.lock)) (other_field r.field field (h r i))))

-- ## Modes

other_self : (f : List ℕ) (m : Mode) (g : Field) → same (file_of g) f ≡ false → is_self f m g ≡ false
other_self f m (SelfW g n) h = and_left (same f g) (same_mode m n) (off_back g f h)
other_self f m g h = refl

pub fixed_past : (xs rows : List Row) (f : List ℕ) (m : Mode) (s : Session) → AreOff f xs → is_fixed (with_rows xs rows) f m s ≡ is_fixed rows f m s
fixed_past xs rows f m s h = ap not (any_past (λ row. is_self f m row.field && (row.session.0 == s.0)) xs rows (λ r i. and_left (is_self f m r.field) (r.session.0 == s.0) (other_self f m r.field (h r i))))

pub has_fixed_past : (opens : Opens) (xs rows : List Row) (f : List ℕ) (m : Mode) (x y : Session) → AreOff f xs → has_fixed (λ g. opens) (with_rows xs rows) f m x y ≡ has_fixed (λ g. opens) rows f m x y
has_fixed_past opens xs rows f m x y h = ap (λ test. list_any test opens) (fun_ext (λ (e : Session × Modes). ap (λ b. ((not (e.0.0 == x.0) && not (e.0.0 == y.0)) && has e.1 m) && b) (fixed_past xs rows f m e.0 h)))

off_meets : (opens : Opens) (rows : List Row) (x y : Session) (g : Field) (p : Option Bool) (f : List ℕ) (m : Mode) → same (file_of g) f ≡ false → mode_meets (λ h. opens) rows x g p y (SelfW f m) ≡ false
off_meets opens rows x y (Other g n) p f m h = ap (λ b. (b && same_mode n m) && can_fail p (has_fixed (λ h. opens) rows g n x y)) h
off_meets opens rows x y g p f m h = refl

-- a row on the file meets a lease as before
meets_past : (opens : Opens) (xs rows : List Row) (x y : Session) (g : Field) (p : Option Bool) (f : List ℕ) (m : Mode) → AreOff f xs → mode_meets (λ h. opens) (with_rows xs rows) x g p y (SelfW f m) ≡ mode_meets (λ h. opens) rows x g p y (SelfW f m)
meets_past opens xs rows x y (Other g n) p f m h =
    elim (same g f) as (λ b. same g f ≡ b → ((b && same_mode n m) && can_fail p (has_fixed (λ h. opens) (with_rows xs rows) g n x y)) ≡ ((b && same_mode n m) && can_fail p (has_fixed (λ h. opens) rows g n x y))) [
      | true ↦ λ e. ap (λ b. (true && same_mode n m) && can_fail p b) (subst (λ k. has_fixed (λ h. opens) (with_rows xs rows) k n x y ≡ has_fixed (λ h. opens) rows k n x y) (sym (same_is g f e)) (has_fixed_past opens xs rows f n x y h))
      | false ↦ λ e. refl
    ] refl
meets_past opens xs rows x y g p f m h = refl

against_self_past : (opens : Opens) (xs rows : List Row) (y : Session) (f : List ℕ) (m : Mode) → AreOff f xs → find (stands_against_self opens (with_rows xs rows) y f m) (with_rows xs rows) ≡ find (stands_against_self opens rows y f m) rows
against_self_past opens xs rows y f m h =
    find_past (stands_against_self opens (with_rows xs rows) y f m) xs rows (λ r i. and_right (not (r.session.0 == y.0)) (mode_meets (λ g. opens) (with_rows xs rows) r.session r.field r.promise y (SelfW f m)) (off_meets opens (with_rows xs rows) r.session y r.field r.promise f m (h r i)))
    ∙ ap (λ test. find test rows) (fun_ext (λ (r : Row). ap (λ b. not (r.session.0 == y.0) && b) (meets_past opens xs rows r.session y r.field r.promise f m h)))

pub self_past : (opens : Opens) (xs rows : List Row) (y : Session) (f : List ℕ) (m : Mode) → AreOff f xs → answer_self opens (with_rows xs rows) y f m ≡ answer_self opens rows y f m
self_past opens xs rows y f m h = ap₂ (λ lock against. unless_locked lock (waits_or against None)) (off_locks (SelfW f m) xs rows h) (against_self_past opens xs rows y f m h)

of_other_past : (xs rows : List Row) (x : Session) (f : List ℕ) (m : Mode) → AreOff f xs → find (is_self_of_other f m x) (with_rows xs rows) ≡ find (is_self_of_other f m x) rows
of_other_past xs rows x f m h = find_past (is_self_of_other f m x) xs rows (λ r i. and_left (is_self f m r.field) (not (r.session.0 == x.0)) (other_self f m r.field (h r i)))

pub other_past : (opens : Opens) (xs rows : List Row) (x : Session) (f : List ℕ) (m : Mode) → AreOff f xs → answer_other opens (with_rows xs rows) x f m ≡ answer_other opens rows x f m
other_past opens xs rows x f m h =
    ap (λ lock. unless_locked lock (cond (has_fixed_other opens (with_rows xs rows) f m x) (Granted (Some true)) (waits_or (find (is_self_of_other f m x) (with_rows xs rows)) (Some false)))) (off_locks (Other f m) xs rows h)
    ∙ ap (λ fixed. unless_locked (lock_on (Other f m) rows) (cond fixed (Granted (Some true)) (waits_or (find (is_self_of_other f m x) (with_rows xs rows)) (Some false)))) (has_fixed_past opens xs rows f m x x h)
    ∙ ap (λ against. unless_locked (lock_on (Other f m) rows) (cond (has_fixed_other opens rows f m x) (Granted (Some true)) (waits_or against (Some false)))) (of_other_past xs rows x f m h)

-- ## Reaps

off_rests : (opens : Opens) (rows : List Row) (s : Session) (f : List ℕ) (x : Session) (g : Field) (p : Option Bool) → same (file_of g) f ≡ false → rests_on opens rows s f x g p ≡ false
off_rests opens rows s f x (Other g m) p h = ap (λ b. (b && has_mode opens s m) && (is_told_true p && not (has_fixed (λ h. opens) rows g m x s))) h
off_rests opens rows s f x g p h = refl

rests_past : (opens : Opens) (xs rows : List Row) (s : Session) (f : List ℕ) (x : Session) (g : Field) (p : Option Bool) → AreOff f xs → rests_on opens (with_rows xs rows) s f x g p ≡ rests_on opens rows s f x g p
rests_past opens xs rows s f x (Other g m) p h =
    elim (same g f) as (λ b. same g f ≡ b → ((b && has_mode opens s m) && (is_told_true p && not (has_fixed (λ h. opens) (with_rows xs rows) g m x s))) ≡ ((b && has_mode opens s m) && (is_told_true p && not (has_fixed (λ h. opens) rows g m x s)))) [
      | true ↦ λ e. ap (λ b. (true && has_mode opens s m) && (is_told_true p && not b)) (subst (λ k. has_fixed (λ h. opens) (with_rows xs rows) k m x s ≡ has_fixed (λ h. opens) rows k m x s) (sym (same_is g f e)) (has_fixed_past opens xs rows f m x s h))
      | false ↦ λ e. refl
    ] refl
rests_past opens xs rows s f x g p h = refl

pub reap_past : (opens : Opens) (xs rows : List Row) (s : Session) (f : List ℕ) → AreOff f xs → reap_blocker opens (with_rows xs rows) s f ≡ reap_blocker opens rows s f
reap_past opens xs rows s f h = ap (option_map (λ (row : Row). row.no)) (
    find_past (stands_against_reap opens (with_rows xs rows) s f) xs rows (λ r i. and_right (not (r.session.0 == s.0)) (rests_on opens (with_rows xs rows) s f r.session r.field r.promise) (off_rests opens (with_rows xs rows) s f r.session r.field r.promise (h r i)))
    ∙ ap (λ test. find test rows) (fun_ext (λ (r : Row). ap (λ b. not (r.session.0 == s.0) && b) (rests_past opens xs rows s f r.session r.field r.promise h))))
