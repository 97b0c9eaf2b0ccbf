-- What is read of rows is read of the part that it is about.
use Rattle.std.proofs.Common.{◌≡◌, ◌==◌, not, ◌&&◌, ℕ, Bool, true, false, List, [], ◌∷◌, refl, ap, cond, sym, ◌∙◌, subst, map, inl, inr}
use mathlib.Core.Path.{fun_ext}
use Rattle.std.specs.Prelude.{Option, Some, None, is_some, option_map}
use Rattle.std.specs.List.{filter, find, list_any}
use Rattle.std.proofs.lemmas.Map.Views.{any-filter_same}
use Rattle.fs_ident.specs.declared.actor.LeaseNo.{LeaseNo}
use Rattle.fs_ident.specs.declared.actor.Session.{Session}
use Rattle.fs_ident.specs.Ident.{same}
use Rattle.fs_ident.specs.In.{In}
use Rattle.fs_ident.proofs.Booleans.{first, second}
use Rattle.fs_ident.proofs.Passing.{found}
use Rattle.fs_ident.proofs.Standing.{In-filter, none_pass}
use Rattle.fs_modes.specs.declared.modes.Mode.{Mode}
use Rattle.fs_modes.specs.Modes.{has}
use Rattle.fs_field.specs.declared.asked.Asked.TheVariants.{Granted}
use Rattle.fs_field.specs.declared.field.Field.{Field}
use Rattle.fs_field.specs.declared.field.Field.TheVariants.{Life, Child, Names, Info, Own, SelfW, Other}
use Rattle.fs_field.specs.declared.lease_kind.LeaseKind.{LeaseKind}
use Rattle.fs_field.specs.declared.row.Row.{Row}
use Rattle.fs_field.specs.Conflict.{Selves, stands_against, meets, is_self, is_fixed, has_fixed, can_fail, mode_meets}
use Rattle.fs_field.specs.Field.{same_field, same_mode, tells_no_mode}
use Rattle.fs_field.specs.Table.{has_no, is_ordered, lock_on}
use Rattle.fs_field.proofs.Order.{one_of_number}
use Rattle.fs_field.proofs.SameNo.{same_no_is}
use Rattle.fs_field.proofs.Conflicts.{self_on}
use Rattle.fs_moderows.specs.Answer.{Opens, unless_locked, waits_or, answer_self, answer_other, has_fixed_other, is_self_of_other, stands_against_self, has_mode, is_told_true, rests_on, stands_against_reap, reap_blocker}
use Rattle.fs_moderows.proofs.Witnesses.{In_filtered}
use Rattle.fs_rows.specs.Answer.{answer_by, answer}
use Rattle.fs_rows.specs.Live.{unlocked_on}
use Rattle.fs_server.specs.Rows.{is_off_modes, rows_off_modes, rows_on_modes}

-- ## A test that only items of the part pass

pub find_part : {X : Type 0} (test part : X → Bool) → ((x : X) → test x ≡ true → part x ≡ true) → (xs : List X) → find test xs ≡ find test (filter part xs)
find_part test part h [] = refl
find_part test part h (x ∷ xs) =
    elim (part x) as (λ b. part x ≡ b → cond (test x) (Some x) (find test xs) ≡ find test (cond b (x ∷ filter part xs) (filter part xs))) [
      | true ↦ λ e. ap (cond (test x) (Some x)) (find_part test part h xs)
      | false ↦ λ e. passed (test x) (λ t. sym (h x t) ∙ e) ∙ find_part test part h xs
    ] refl where
      passed : (b : Bool) → (b ≡ true → true ≡ false) → cond b (Some x) (find test xs) ≡ find test xs
      passed true k = let wrong : true ≡ false = k refl in absurd (cc)
      passed false k = refl

filter_part : {X : Type 0} (test part : X → Bool) → ((x : X) → test x ≡ true → part x ≡ true) → (xs : List X) → filter test xs ≡ filter test (filter part xs)
filter_part test part h [] = refl
filter_part test part h (x ∷ xs) =
    elim (part x) as (λ b. part x ≡ b → cond (test x) (x ∷ filter test xs) (filter test xs) ≡ filter test (cond b (x ∷ filter part xs) (filter part xs))) [
      | true ↦ λ e. ap (λ ys. cond (test x) (x ∷ ys) (filter test xs)) (filter_part test part h xs) ∙ ap (cond (test x) (x ∷ filter test (filter part xs))) (filter_part test part h xs)
      | false ↦ λ e. passed (test x) (λ t. sym (h x t) ∙ e) ∙ filter_part test part h xs
    ] refl where
      passed : (b : Bool) → (b ≡ true → true ≡ false) → cond b (x ∷ filter test xs) (filter test xs) ≡ filter test xs
      passed true k = let wrong : true ≡ false = k refl in absurd (cc)
      passed false k = refl

pub any_part : {X : Type 0} (test part : X → Bool) → ((x : X) → test x ≡ true → part x ≡ true) → (xs : List X) → list_any test xs ≡ list_any test (filter part xs)
any_part test part h xs = sym (any-filter_same test part true h xs)

lock_part : (field : Field) (part : Row → Bool) → ((r : Row) → (same_field r.field field && is_some r.lock) ≡ true → part r ≡ true) → (rows : List Row) → lock_on field rows ≡ lock_on field (filter part rows)
lock_part field part h [] = refl
lock_part field part h (r ∷ rs) =
    elim (part r) as (λ b. part r ≡ b → cond (same_field r.field field && is_some r.lock) r.lock (lock_on field rs) ≡ lock_on field (cond b (r ∷ filter part rs) (filter part rs))) [
      | true ↦ λ e. ap (cond (same_field r.field field && is_some r.lock) r.lock) (lock_part field part h rs)
      | false ↦ λ e. passed (same_field r.field field && is_some r.lock) (λ t. sym (h r t) ∙ e) ∙ lock_part field part h rs
    ] refl where
      passed : (b : Bool) → (b ≡ true → true ≡ false) → cond b r.lock (lock_on field rs) ≡ lock_on field rs
      passed true k = let wrong : true ≡ false = k refl in absurd (cc)
      passed false k = refl

-- ## Fields of one part

-- one field is of one part
pub same_part : (g f : Field) → same_field g f ≡ true → tells_no_mode g ≡ tells_no_mode f
same_part (Life a) (Life b) h = refl
same_part (Child a m) (Child b n) h = refl
same_part (Names a) (Names b) h = refl
same_part (Info a) (Info b) h = refl
same_part (Own a) (Own b) h = refl
same_part (SelfW a m) (SelfW b n) h = refl
same_part (Other a m) (Other b n) h = refl
same_part g f h = absurd (cc)

-- what does not go with a lease, whoever has a handle, is off modes
meets_off : (f : Field) (k : LeaseKind) (g : Field) (l : LeaseKind) → meets f k g l ≡ true → tells_no_mode g ≡ true
meets_off (Life a) k (SelfW b m) l h = absurd (cc)
meets_off (Child a n) k (SelfW b m) l h = absurd (cc)
meets_off (Names a) k (SelfW b m) l h = absurd (cc)
meets_off (Info a) k (SelfW b m) l h = absurd (cc)
meets_off (Own a) k (SelfW b m) l h = absurd (cc)
meets_off (SelfW a n) k (SelfW b m) l h = absurd (cc)
meets_off (Other a n) k (SelfW b m) l h = absurd (cc)
meets_off (Life a) k (Other b m) l h = absurd (cc)
meets_off (Child a n) k (Other b m) l h = absurd (cc)
meets_off (Names a) k (Other b m) l h = absurd (cc)
meets_off (Info a) k (Other b m) l h = absurd (cc)
meets_off (Own a) k (Other b m) l h = absurd (cc)
meets_off (SelfW a n) k (Other b m) l h = absurd (cc)
meets_off (Other a n) k (Other b m) l h = absurd (cc)
meets_off f k g l h = refl

mode_meets_on : (selves : Selves) (rows : List Row) (x : Session) (g : Field) (promise : Option Bool) (y : Session) (f : List ℕ) (m : Mode) → mode_meets selves rows x g promise y (SelfW f m) ≡ true → not (tells_no_mode g) ≡ true
mode_meets_on selves rows x (Other g n) promise y f m h = refl
mode_meets_on selves rows x g promise y f m h = absurd (cc)

rests_on_on : (opens : Opens) (rows : List Row) (s : Session) (f : List ℕ) (x : Session) (g : Field) (promise : Option Bool) → rests_on opens rows s f x g promise ≡ true → not (tells_no_mode g) ≡ true
rests_on_on opens rows s f x (Other g m) promise h = refl
rests_on_on opens rows s f x g promise h = absurd (cc)

-- ## Off modes

lock_off : (field : Field) → tells_no_mode field ≡ true → (rows : List Row) → lock_on field rows ≡ lock_on field (rows_off_modes rows)
lock_off field off rows = lock_part field is_off_modes (λ r t. same_part r.field field (first (same_field r.field field) (is_some r.lock) t) ∙ off) rows

-- a question is answered by the rows off modes
pub answer_off : (rows : List Row) (s : Session) (field : Field) (kind : LeaseKind) → tells_no_mode field ≡ true → answer rows s field kind ≡ answer (rows_off_modes rows) s field kind
answer_off rows s field kind off =
    ap (λ o. answer_by o (find (stands_against s field kind) rows)) (lock_off field off rows)
    ∙ ap (answer_by (lock_on field (rows_off_modes rows))) (find_part (stands_against s field kind) is_off_modes (λ r t. meets_off field kind r.field r.kind (second (not (s.0 == r.session.0)) (meets field kind r.field r.kind) t)) rows)

pub has_on_off : (rows : List Row) (field : Field) (s : Session) → tells_no_mode field ≡ true → list_any (λ r. same_field r.field field && (r.session.0 == s.0)) rows ≡ list_any (λ r. same_field r.field field && (r.session.0 == s.0)) (rows_off_modes rows)
has_on_off rows field s off = any_part (λ r. same_field r.field field && (r.session.0 == s.0)) is_off_modes (λ r t. same_part r.field field (first (same_field r.field field) (r.session.0 == s.0) t) ∙ off) rows

pub unlocked_off : (rows : List Row) (field : Field) → tells_no_mode field ≡ true → unlocked_on field rows ≡ unlocked_on field (rows_off_modes rows)
unlocked_off rows field off = ap (map (λ (r : Row). (r.no, r.session))) (filter_part (λ (r : Row). same_field r.field field && not (is_some r.lock)) is_off_modes (λ r t. same_part r.field field (first (same_field r.field field) (not (is_some r.lock)) t) ∙ off) rows)

pub unlocked_on_modes : (rows : List Row) (field : Field) → tells_no_mode field ≡ false → unlocked_on field rows ≡ unlocked_on field (rows_on_modes rows)
unlocked_on_modes rows field on = ap (map (λ (r : Row). (r.no, r.session))) (filter_part (λ (r : Row). same_field r.field field && not (is_some r.lock)) (λ r. not (is_off_modes r)) (λ r t. ap not (same_part r.field field (first (same_field r.field field) (not (is_some r.lock)) t) ∙ on)) rows)

-- ## On modes

lock_modes : (field : Field) → tells_no_mode field ≡ false → (rows : List Row) → lock_on field rows ≡ lock_on field (rows_on_modes rows)
lock_modes field on rows = lock_part field (λ r. not (is_off_modes r)) (λ r t. ap not (same_part r.field field (first (same_field r.field field) (is_some r.lock) t) ∙ on)) rows

fixed_modes : (rows : List Row) (f : List ℕ) (m : Mode) (s : Session) → is_fixed rows f m s ≡ is_fixed (rows_on_modes rows) f m s
fixed_modes rows f m s = ap not (any_part (λ (r : Row). is_self f m r.field && (r.session.0 == s.0)) (λ r. not (is_off_modes r)) (λ r t. self_on f m r.field (first (is_self f m r.field) (r.session.0 == s.0) t)) rows)

has_fixed_modes : (selves : Selves) (rows : List Row) (f : List ℕ) (m : Mode) (x y : Session) → has_fixed selves rows f m x y ≡ has_fixed selves (rows_on_modes rows) f m x y
has_fixed_modes selves rows f m x y = ap (λ test. list_any test (selves f)) (fun_ext (λ e. ap (λ b. ((not (e.0.0 == x.0) && not (e.0.0 == y.0)) && has e.1 m) && b) (fixed_modes rows f m e.0)))

meets_modes : (selves : Selves) (rows : List Row) (x : Session) (g : Field) (promise : Option Bool) (y : Session) (f : List ℕ) (m : Mode) → mode_meets selves rows x g promise y (SelfW f m) ≡ mode_meets selves (rows_on_modes rows) x g promise y (SelfW f m)
meets_modes selves rows x (Other g n) promise y f m = ap (λ b. (same g f && same_mode n m) && can_fail promise b) (has_fixed_modes selves rows g n x y)
meets_modes selves rows x g promise y f m = refl

against_self_modes : (opens : Opens) (rows : List Row) (y : Session) (f : List ℕ) (m : Mode) → find (stands_against_self opens rows y f m) rows ≡ find (stands_against_self opens (rows_on_modes rows) y f m) (rows_on_modes rows)
against_self_modes opens rows y f m =
    find_part (stands_against_self opens rows y f m) (λ r. not (is_off_modes r)) (λ r t. mode_meets_on (λ g. opens) rows r.session r.field r.promise y f m (second (not (r.session.0 == y.0)) (mode_meets (λ g. opens) rows r.session r.field r.promise y (SelfW f m)) t)) rows
    ∙ ap (λ test. find test (rows_on_modes rows)) (fun_ext (λ (r : Row). ap (λ b. not (r.session.0 == y.0) && b) (meets_modes (λ g. opens) rows r.session r.field r.promise y f m)))

-- a question on a mode is answered by the rows on modes
pub answer_self_modes : (opens : Opens) (rows : List Row) (y : Session) (f : List ℕ) (m : Mode) → answer_self opens rows y f m ≡ answer_self opens (rows_on_modes rows) y f m
answer_self_modes opens rows y f m =
    ap (λ o. unless_locked o (waits_or (find (stands_against_self opens rows y f m) rows) None)) (lock_modes (SelfW f m) refl rows)
    ∙ ap (λ o. unless_locked (lock_on (SelfW f m) (rows_on_modes rows)) (waits_or o None)) (against_self_modes opens rows y f m)

pub answer_other_modes : (opens : Opens) (rows : List Row) (x : Session) (f : List ℕ) (m : Mode) → answer_other opens rows x f m ≡ answer_other opens (rows_on_modes rows) x f m
answer_other_modes opens rows x f m =
    ap (λ o. unless_locked o (cond (has_fixed_other opens rows f m x) (Granted (Some true)) (waits_or (find (is_self_of_other f m x) rows) (Some false)))) (lock_modes (Other f m) refl rows)
    ∙ ap (λ b. unless_locked (lock_on (Other f m) (rows_on_modes rows)) (cond b (Granted (Some true)) (waits_or (find (is_self_of_other f m x) rows) (Some false)))) (has_fixed_modes (λ g. opens) rows f m x x)
    ∙ ap (λ o. unless_locked (lock_on (Other f m) (rows_on_modes rows)) (cond (has_fixed_other opens (rows_on_modes rows) f m x) (Granted (Some true)) (waits_or o (Some false))))
    (find_part (is_self_of_other f m x) (λ r. not (is_off_modes r)) (λ r t. self_on f m r.field (first (is_self f m r.field) (not (r.session.0 == x.0)) t)) rows)

rests_modes : (opens : Opens) (rows : List Row) (s : Session) (f : List ℕ) (x : Session) (g : Field) (promise : Option Bool) → rests_on opens rows s f x g promise ≡ rests_on opens (rows_on_modes rows) s f x g promise
rests_modes opens rows s f x (Other g m) promise = ap (λ b. (same g f && has_mode opens s m) && (is_told_true promise && not b)) (has_fixed_modes (λ h. opens) rows g m x s)
rests_modes opens rows s f x g promise = refl

pub reap_modes : (opens : Opens) (rows : List Row) (s : Session) (f : List ℕ) → reap_blocker opens rows s f ≡ reap_blocker opens (rows_on_modes rows) s f
reap_modes opens rows s f =
    ap (option_map (λ (row : Row). row.no)) (find_part (stands_against_reap opens rows s f) (λ r. not (is_off_modes r)) (λ r t. rests_on_on opens rows s f r.session r.field r.promise (second (not (r.session.0 == s.0)) (rests_on opens rows s f r.session r.field r.promise) t)) rows
    ∙ ap (λ test. find test (rows_on_modes rows)) (fun_ext (λ (r : Row). ap (λ b. not (r.session.0 == s.0) && b) (rests_modes opens rows s f r.session r.field r.promise))))

-- ## The row of a number

-- the row that is found off modes is that of all rows
pub named_plain : (number : LeaseNo) (rows plain : List Row) (r : Row) → is_ordered rows ≡ true → rows_off_modes rows ≡ plain → Some r ≡ find (has_no number) plain → Some r ≡ find (has_no number) rows
named_plain number rows plain r o e h =
    let one : In r plain × (has_no number r ≡ true) = found (has_no number) plain r (sym h) in
    let here : In r rows = In-filter is_off_modes r rows (subst (In r) (sym e) one.0) in
    elim (find (has_no number) rows) as (λ f. find (has_no number) rows ≡ f → Some r ≡ f) [
      | None ↦ λ g. let wrong : true ≡ false = sym one.1 ∙ none_pass (has_no number) rows g r here in absurd (cc)
      | Some x ↦ λ g.
          let two : In x rows × (has_no number x ≡ true) = found (has_no number) rows x g in
          ap Some (one_of_number rows o r x here two.0 (same_no_is r.no number one.1 ∙ sym (same_no_is x.no number two.1)))
    ] refl

-- where none is found off modes, it is that on modes
pub named_modes : (number : LeaseNo) (rows plain : List Row) → rows_off_modes rows ≡ plain → None ≡ find (has_no number) plain → find (has_no number) (rows_on_modes rows) ≡ find (has_no number) rows
named_modes number rows plain e h = sym (part rows (λ x i t. unfound x (In_filtered is_off_modes rows x i t))) where
  unfound : (x : Row) → In x (rows_off_modes rows) → has_no number x ≡ false
  unfound x i = none_pass (has_no number) plain (sym h) x (subst (In x) e i)

  part : (xs : List Row) → ((x : Row) → In x xs → is_off_modes x ≡ true → has_no number x ≡ false) → find (has_no number) xs ≡ find (has_no number) (rows_on_modes xs)
  part [] k = refl
  part (x ∷ xs) k =
      elim (is_off_modes x) as (λ b. is_off_modes x ≡ b → cond (has_no number x) (Some x) (find (has_no number) xs) ≡ find (has_no number) (cond (not b) (x ∷ rows_on_modes xs) (rows_on_modes xs))) [
        | true ↦ λ g. ap (λ b. cond b (Some x) (find (has_no number) xs)) (k x (inl refl) g) ∙ part xs (λ y i. k y (inr i))
        | false ↦ λ g. ap (cond (has_no number x) (Some x)) (part xs (λ y i. k y (inr i)))
      ] refl
