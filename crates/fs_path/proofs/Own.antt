-- Leases from other servers, and their names at their own files and at the files of their paths.
use Rattle.std.proofs.Common.{◌≡◌, ◌∙◌, ◌&&◌, ◌||◌, ℕ, Bool, true, false, not, List, [], ◌∷◌, ◌++◌, ◌<◌, ◌≤◌, zero, suc, refl, ap, cond, sym, subst, map, length, get_or, take, drop, arith, inl, inr}
use Rattle.std.specs.Prelude.{Some, None, slice_set}
use Rattle.std.specs.List.{filter, find, list_all, list_any, position, remove}
use Rattle.std.proofs.Math.Bool.{or-false}
use Rattle.std.proofs.Math.Seq.{map-set_same}
use Rattle.std.proofs.lemmas.List.{get_or-map, length-map}
use Rattle.fs_ident.specs.In.{In}
use Rattle.fs_ident.specs.Ident.{same}
use Rattle.fs_ident.specs.declared.actor.PathNo.{PathNo}
use Rattle.fs_ident.proofs.Booleans.{both}
use Rattle.fs_ident.proofs.Passing.{all-In}
use Rattle.fs_ident.proofs.Standing.{In-filter}
use Rattle.fs_path.specs.Index.{AreRisingAt, ChangesAmong, IsHad, IsNewAmong, IsNoted, IsOver, IsOwn, IsVia, are_rising, at_own, first_of, if_used, is_numbered, named_at, no_of_held, no_of_issued, used_named, without_named}
use Rattle.fs_path.specs.Leases.{PathLease, goes_over, has_no, named_to_peer, path_before, same_path_no}
use Rattle.fs_path.specs.Returns.{asked_back, goes_back, held_after, is_needed, is_of, recalls, rests_on_asked}
use Rattle.fs_path.specs.Tables.{is_leaving, lease_of, leaving, with_held, with_issued}
use Rattle.fs_path.specs.Walk.{used_for}
use Rattle.fs_path.specs.declared.having.Having.{Having}
use Rattle.fs_path.specs.declared.having.Having.TheVariants.{Held, Leaving}
use Rattle.fs_path.specs.declared.held_index.HeldIndex.{HeldIndex}
use Rattle.fs_path.specs.declared.index.FileIndex.{FileIndex}
use Rattle.fs_path.proofs.Over.{forgot_over, noted_over, over_rises}
use Rattle.fs_path.proofs.Placing.{none_back}
use Rattle.fs_path.proofs.Rising.{ahead_unlike, behind_none, find_none, placed_any, rising_map, same_no_self, unlike}

-- ## As they stand in an index

-- a lease stands there by its own name, and one that is leaving where it stood
pub record IsStanding (at : Having → PathLease) : Type 0 where
  pub named : (h : Having) → named_to_peer (at h) ≡ named_to_peer (lease_of h)
  pub stays : (h : Having) → at (leaving h) ≡ at h

module _ (at : Having → PathLease) (stands : IsStanding at) where
  number_standing : (h : Having) → (at h).no ≡ (lease_of h).no
  number_standing h = ap (λ (name : ℕ × PathNo). name.1) (stands.named h)

  rise_standing : (held : List Having) → are_rising no_of_issued (map at held) ≡ are_rising no_of_held held
  rise_standing held = rising_map no_of_held no_of_issued at number_standing held

  -- while the index is whole their numbers rise
  standing_rises : (index : FileIndex) (held : List Having) → IsOver index (map at held) → index.whole ≡ true → are_rising no_of_held held ≡ true
  standing_rises index held h w = sym (rise_standing held) ∙ (h w).0

  any_standing : (number : PathNo) (held : List Having) → list_any (is_numbered no_of_issued number) (map at held) ≡ list_any (is_numbered no_of_held number) held
  any_standing number [] = refl
  any_standing number (h ∷ hs) =
      ap (λ n. same_path_no n number || list_any (is_numbered no_of_issued number) (map at hs)) (number_standing h)
      ∙ ap (λ b. is_numbered no_of_held number h || b) (any_standing number hs)

  put_standing : (h : Having) (held : List Having) → map at (with_held h held) ≡ with_issued (at h) (map at held)
  put_standing h [] = refl
  put_standing h (x ∷ xs) =
      by (path_before (lease_of h).no (lease_of x).no) (put_standing h xs)
      ∙ ap (λ n. cond (path_before n (lease_of x).no) (at h ∷ at x ∷ map at xs) (at x ∷ with_issued (at h) (map at xs))) (sym (number_standing h))
      ∙ ap (λ n. cond (path_before (at h).no n) (at h ∷ at x ∷ map at xs) (at x ∷ with_issued (at h) (map at xs))) (sym (number_standing x))
    where
      by : (b : Bool) → map at (with_held h xs) ≡ with_issued (at h) (map at xs)
          → map at (cond b (h ∷ x ∷ xs) (x ∷ with_held h xs)) ≡ cond b (at h ∷ at x ∷ map at xs) (at x ∷ with_issued (at h) (map at xs))
      by true e = refl
      by false e = ap (λ ys. at x ∷ ys) e

  remove_standing : (held : List Having) (i : ℕ) → map at (remove held i) ≡ remove (map at held) i
  remove_standing [] zero = refl
  remove_standing [] (suc i) = refl
  remove_standing (x ∷ xs) zero = refl
  remove_standing (x ∷ xs) (suc i) = ap (λ ys. at x ∷ ys) (remove_standing xs i)

  left_standing : (asked : Having → Bool) (held : List Having) → map at (map (asked_back asked) held) ≡ map at held
  left_standing asked [] = refl
  left_standing asked (h ∷ hs) = by (asked h) ∙ ap (λ ys. at h ∷ ys) (left_standing asked hs)
    where
      by : (b : Bool) → at (cond b (leaving h) h) ∷ map at (map (asked_back asked) hs) ≡ at h ∷ map at (map (asked_back asked) hs)
      by true = ap (λ l. l ∷ map at (map (asked_back asked) hs)) (stands.stays h)
      by false = refl

  -- the one at the place is leaving
  leaving_standing : (held : List Having) (i : ℕ) (d : Having) (index : FileIndex) → IsOver index (map at held) → d ≡ get_or held i d → IsOver index (map at (slice_set held i (leaving d)))
  leaving_standing held i d index h e = subst (λ ls. IsOver index ls) (sym (map-set_same at held i (leaving d) d (stands.stays d ∙ ap at e))) h

  -- those that are asked back are
  still_standing : (asked : Having → Bool) (held : List Having) (index : FileIndex) → IsOver index (map at held) → IsOver index (map at (map (asked_back asked) held))
  still_standing asked held index h = subst (λ ls. IsOver index ls) (sym (left_standing asked held)) h

  -- one lease more is noted
  noted_standing : (new : Having) (is_new : Bool) (held : List Having) (old now : FileIndex) → IsOver old (map at held) → IsNewAmong no_of_held (lease_of new).no held is_new
      → IsNoted is_new (named_to_peer (lease_of new)) (at new).path old now → IsOver now (map at (with_held new held))
  noted_standing new is_new held old now h fresh noted =
      subst (λ ls. IsOver now ls) (sym (put_standing new held))
      (noted_over (at new) is_new (map at held) old now h
      (λ e. ap (λ n. list_any (is_numbered no_of_issued n) (map at held)) (number_standing new) ∙ any_standing (lease_of new).no held ∙ fresh e)
      (subst (λ name. IsNoted is_new name (at new).path old now) (sym (stands.named new)) noted))

  -- the one at the place is forgotten where it stands
  forgot_standing : (held : List Having) (i : ℕ) (d : Having) (old now : FileIndex) → IsOver old (map at held) → i < length held → d ≡ get_or held i d → now.whole ≡ old.whole
      → (old.whole ≡ true → ChangesAmong (without_named (lease_of d).no) (at d).path old.files now.files) → IsOver now (map at (remove held i))
  forgot_standing held i d old now h l e same change w =
      let before : old.whole ≡ true = sym same ∙ w in
      let there : get_or (map at held) i (at d) ≡ at d = get_or-map at held i d (at d) l ∙ ap at (sym e) in
      subst (λ ls. IsOver now ls) (sym (remove_standing held i))
      (forgot_over (lease_of d).no (map at held) i (at d) old now h before (subst (λ n. i < n) (sym (length-map held at)) l)
      (ap (has_no (lease_of d).no) there ∙ ap (λ n. same_path_no n (lease_of d).no) (number_standing d) ∙ same_no_self (lease_of d).no) same
      (subst (λ (x : PathLease). ChangesAmong (without_named (lease_of d).no) x.path old.files now.files) (sym there) (change before))) w

-- ## Both indexes

-- at its own file, and at the files of its path
own_stands : IsStanding at_own
own_stands = record { named = λ h. refl; stays = λ h. refl }

via_stands : IsStanding lease_of
via_stands = record { named = λ h. refl; stays = λ h. refl }

-- while an index is whole the numbers rise
pub own_rises : (index : FileIndex) (held : List Having) → IsOwn index held → index.whole ≡ true → are_rising no_of_held held ≡ true
own_rises index held h w = standing_rises at_own own_stands index held h w

pub via_rises : (index : FileIndex) (held : List Having) → IsVia index held → index.whole ≡ true → are_rising no_of_held held ≡ true
via_rises index held h w = standing_rises lease_of via_stands index held h w

-- and so do those at each file
pub own_names_rise : (index : FileIndex) (held : List Having) → IsOwn index held → index.whole ≡ true → AreRisingAt index.files
own_names_rise index held h w = over_rises index (map at_own held) h w

pub via_names_rise : (index : FileIndex) (held : List Having) → IsVia index held → index.whole ≡ true → AreRisingAt index.files
via_names_rise index held h w = over_rises index (map lease_of held) h w

-- the one at the place is leaving
pub leaving_had : (held : List Having) (i : ℕ) (d : Having) (had : HeldIndex) → IsHad had held → d ≡ get_or held i d → IsHad had (slice_set held i (leaving d))
leaving_had held i d had h e = (leaving_standing at_own own_stands held i d had.own h.0 e, leaving_standing lease_of via_stands held i d had.via h.1 e)

-- those that are asked back are
pub still_had : (asked : Having → Bool) (held : List Having) (had : HeldIndex) → IsHad had held → IsHad had (map (asked_back asked) held)
still_had asked held had h = (still_standing at_own own_stands asked held had.own h.0, still_standing lease_of via_stands asked held had.via h.1)

-- one lease more is noted
pub noted_had : (new : Having) (is_new : Bool) (held : List Having) (old now : HeldIndex) → IsHad old held → IsNewAmong no_of_held (lease_of new).no held is_new
    → IsNoted is_new (named_to_peer (lease_of new)) ((lease_of new).file ∷ []) old.own now.own → IsNoted is_new (named_to_peer (lease_of new)) (lease_of new).path old.via now.via
    → IsHad now (with_held new held)
noted_had new is_new held old now h fresh own via =
    (noted_standing at_own own_stands new is_new held old.own now.own h.0 fresh own, noted_standing lease_of via_stands new is_new held old.via now.via h.1 fresh via)

-- the one at the place is forgotten
pub forgot_had : (held : List Having) (i : ℕ) (d : Having) (old now : HeldIndex) → IsHad old held → i < length held → d ≡ get_or held i d
    → now.own.whole ≡ old.own.whole → now.via.whole ≡ old.via.whole
    → (old.own.whole ≡ true → ChangesAmong (without_named (lease_of d).no) ((lease_of d).file ∷ []) old.own.files now.own.files)
    → (old.via.whole ≡ true → ChangesAmong (without_named (lease_of d).no) (lease_of d).path old.via.files now.via.files)
    → IsHad now (remove held i)
forgot_had held i d old now h l e own_whole via_whole own via = (
  forgot_standing at_own own_stands held i d old.own now.own h.0 l e own_whole own,
  forgot_standing lease_of via_stands held i d old.via now.via h.1 l e via_whole via,
)

-- ## By number

-- none but the one at the place has the number
find_numbered : (number : PathNo) (held : List Having) → list_any (is_numbered no_of_held number) held ≡ false → find (is_of number) held ≡ None
find_numbered number [] e = refl
find_numbered number (h ∷ hs) e = by (is_of number h) e (find_numbered number hs)
  where
    by : (b : Bool) → (b || list_any (is_numbered no_of_held number) hs) ≡ false → (list_any (is_numbered no_of_held number) hs ≡ false → find (is_of number) hs ≡ None) → cond b (Some h) (find (is_of number) hs) ≡ None
    by true q rest = absurd (cc q)
    by false q rest = rest q

rising_rest : {X : Type 0} (key : X → PathNo) (x : X) (xs : List X) → are_rising key (x ∷ xs) ≡ true → are_rising key xs ≡ true
rising_rest key x xs o = (both (list_all (λ y. path_before (key x) (key y)) xs) (are_rising key xs) o).1

other_stays : (number : PathNo) (issued : List PathLease) (x : Having) (xs : List Having) → is_of number x ≡ false → held_after (is_of number) issued (x ∷ xs) ≡ x ∷ held_after (is_of number) issued xs
other_stays number issued x xs e =
    ap (λ b. map (asked_back (is_of number)) (cond (not (b && not (is_needed issued x))) (x ∷ filter (λ h. not (goes_back (is_of number) issued h)) xs) (filter (λ h. not (goes_back (is_of number) issued h)) xs))) e
    ∙ ap (λ b. cond b (leaving x) x ∷ held_after (is_of number) issued xs) e

none_rests : (number : PathNo) (held : List Having) (l : PathLease) → list_any (is_numbered no_of_held number) held ≡ false → rests_on_asked (is_of number) held l ≡ false
none_rests number [] l e = refl
none_rests number (h ∷ hs) l e = by (is_of number h) e (none_rests number hs l)
  where
    by : (b : Bool) → (b || list_any (is_numbered no_of_held number) hs) ≡ false → (list_any (is_numbered no_of_held number) hs ≡ false → rests_on_asked (is_of number) hs l ≡ false) → ((b && goes_over (lease_of h).file l) || rests_on_asked (is_of number) hs l) ≡ false
    by true q rest = absurd (cc q)
    by false q rest = rest q

-- it stays, and is leaving, where it is needed
pub left_there : (number : PathNo) (issued : List PathLease) (held : List Having) (i : ℕ) (d : Having) → are_rising no_of_held held ≡ true → i < length held → is_of number (get_or held i d) ≡ true → is_needed issued (get_or held i d) ≡ true → held_after (is_of number) issued held ≡ slice_set held i (leaving (get_or held i d))
left_there number issued [] i d o l e n = absurd (omega arith)
left_there number issued (x ∷ xs) zero d o l e n =
    ap (λ b. map (asked_back (is_of number)) (cond (not (b && not (is_needed issued x))) (x ∷ filter (λ h. not (goes_back (is_of number) issued h)) xs) (filter (λ h. not (goes_back (is_of number) issued h)) xs))) e
    ∙ ap (λ b. map (asked_back (is_of number)) (cond (not (not b)) (x ∷ filter (λ h. not (goes_back (is_of number) issued h)) xs) (filter (λ h. not (goes_back (is_of number) issued h)) xs))) n
    ∙ ap (λ b. cond b (leaving x) x ∷ held_after (is_of number) issued xs) e
    ∙ ap (λ hs. leaving x ∷ hs) (none_back (is_of number) issued xs (find_numbered number xs (behind_none no_of_held number x xs o e)))
left_there number issued (x ∷ xs) (suc i) d o l e n =
    other_stays number issued x xs (ahead_unlike no_of_held number x xs i d o (omega arith) e)
    ∙ ap (λ hs. x ∷ hs) (left_there number issued xs i d (rising_rest no_of_held x xs o) (omega arith) e n)

-- and it goes where it is not
pub went_there : (number : PathNo) (issued : List PathLease) (held : List Having) (i : ℕ) (d : Having) → are_rising no_of_held held ≡ true → i < length held → is_of number (get_or held i d) ≡ true → is_needed issued (get_or held i d) ≡ false → held_after (is_of number) issued held ≡ remove held i
went_there number issued [] i d o l e n = absurd (omega arith)
went_there number issued (x ∷ xs) zero d o l e n =
    ap (λ b. map (asked_back (is_of number)) (cond (not (b && not (is_needed issued x))) (x ∷ filter (λ h. not (goes_back (is_of number) issued h)) xs) (filter (λ h. not (goes_back (is_of number) issued h)) xs))) e
    ∙ ap (λ b. map (asked_back (is_of number)) (cond (not (not b)) (x ∷ filter (λ h. not (goes_back (is_of number) issued h)) xs) (filter (λ h. not (goes_back (is_of number) issued h)) xs))) n
    ∙ none_back (is_of number) issued xs (find_numbered number xs (behind_none no_of_held number x xs o e))
went_there number issued (x ∷ xs) (suc i) d o l e n =
    other_stays number issued x xs (ahead_unlike no_of_held number x xs i d o (omega arith) e)
    ∙ ap (λ hs. x ∷ hs) (went_there number issued xs i d (rising_rest no_of_held x xs o) (omega arith) e n)

-- nothing of the number is had
pub none_there : (number : PathNo) (issued : List PathLease) (held : List Having) → None ≡ position (is_numbered no_of_held number) held → held_after (is_of number) issued held ≡ held
none_there number issued held e = none_back (is_of number) issued held (find_none (is_of number) held e)

-- what rests on the one of the number goes over its file
rests_there : (number : PathNo) (held : List Having) (i : ℕ) (d : Having) (l : PathLease) → are_rising no_of_held held ≡ true → i < length held → is_of number (get_or held i d) ≡ true → rests_on_asked (is_of number) held l ≡ goes_over (lease_of (get_or held i d)).file l
rests_there number [] i d l o w e = absurd (omega arith)
rests_there number (x ∷ xs) zero d l o w e =
    ap (λ b. (b && goes_over (lease_of x).file l) || rests_on_asked (is_of number) xs l) e
    ∙ ap (λ b. goes_over (lease_of x).file l || b) (none_rests number xs l (behind_none no_of_held number x xs o e))
    ∙ or-false (goes_over (lease_of x).file l)
rests_there number (x ∷ xs) (suc i) d l o w e =
    ap (λ b. (b && goes_over (lease_of x).file l) || rests_on_asked (is_of number) xs l) (ahead_unlike no_of_held number x xs i d o (omega arith) e)
    ∙ rests_there number xs i d l (rising_rest no_of_held x xs o) (omega arith) e

same_recalls : (a b : PathLease → Bool) (issued : List PathLease) → ((l : PathLease) → a l ≡ b l) → recalls a issued ≡ recalls b issued
same_recalls a b [] same = refl
same_recalls a b (l ∷ ls) same = ap (λ t. map named_to_peer (cond t (l ∷ filter a ls) (filter a ls))) (same l) ∙ by (b l) (same_recalls a b ls same)
  where
    by : (t : Bool) → recalls a ls ≡ recalls b ls → map named_to_peer (cond t (l ∷ filter a ls) (filter a ls)) ≡ map named_to_peer (cond t (l ∷ filter b ls) (filter b ls))
    by true e = ap (λ ns. named_to_peer l ∷ ns) e
    by false e = e

pub recalls_there : (number : PathNo) (issued : List PathLease) (held : List Having) (i : ℕ) (d : Having) → are_rising no_of_held held ≡ true → i < length held → is_of number (get_or held i d) ≡ true → recalls (goes_over (lease_of (get_or held i d)).file) issued ≡ recalls (rests_on_asked (is_of number) held) issued
recalls_there number issued held i d o w e = same_recalls _ _ issued (λ l. sym (rests_there number held i d l o w e))

pub recalls_none : (number : PathNo) (issued : List PathLease) (held : List Having) → None ≡ position (is_numbered no_of_held number) held → recalls (rests_on_asked (is_of number) held) issued ≡ []
recalls_none number issued held e = same_recalls _ (λ l. false) issued (λ l. none_rests number held l (sym (placed_any (is_numbered no_of_held number) held None e))) ∙ nothing issued
  where
    nothing : (ls : List PathLease) → recalls (λ l. false) ls ≡ []
    nothing [] = refl
    nothing (l ∷ ls) = nothing ls

-- ## By file

pub names_own : (file : List ℕ) (held : List Having) → recalls (goes_over file) (map at_own held) ≡ map (λ h. named_to_peer (lease_of h)) (filter (λ h. same (lease_of h).file file) held)
names_own file [] = refl
names_own file (h ∷ hs) = ap (λ b. map named_to_peer (cond b (at_own h ∷ filter (goes_over file) (map at_own hs)) (filter (goes_over file) (map at_own hs)))) (or-false (same (lease_of h).file file)) ∙ by (same (lease_of h).file file) (names_own file hs)
  where
    by : (b : Bool) → recalls (goes_over file) (map at_own hs) ≡ map (λ x. named_to_peer (lease_of x)) (filter (λ x. same (lease_of x).file file) hs)
        → map named_to_peer (cond b (at_own h ∷ filter (goes_over file) (map at_own hs)) (filter (goes_over file) (map at_own hs))) ≡ map (λ x. named_to_peer (lease_of x)) (cond b (h ∷ filter (λ x. same (lease_of x).file file) hs) (filter (λ x. same (lease_of x).file file) hs))
    by true e = ap (λ ns. named_to_peer (lease_of h) ∷ ns) e
    by false e = e

-- each is found by its number
pub found_own : (held : List Having) (x : Having) → are_rising no_of_held held ≡ true → In x held → find (is_of (lease_of x).no) held ≡ Some x
found_own [] x o i = absurd i
found_own (h ∷ hs) x o (inl q) = ap (λ b. cond b (Some h) (find (is_of (lease_of x).no) hs)) (ap (λ y. same_path_no (lease_of h).no (lease_of y).no) q ∙ same_no_self (lease_of h).no) ∙ ap Some (sym q)
found_own (h ∷ hs) x o (inr i) =
    ap (λ b. cond b (Some h) (find (is_of (lease_of x).no) hs)) (unlike (lease_of h).no (lease_of x).no (all-In (λ y. path_before (lease_of h).no (lease_of y).no) hs (both _ _ o).0 x i))
    ∙ found_own hs x (rising_rest no_of_held h hs o) i

used_each : (held : List Having) (xs : List Having) → ((x : Having) → In x xs → find (is_of (lease_of x).no) held ≡ Some x) → used_named (map (λ h. named_to_peer (lease_of h)) xs) held ≡ find (λ h. not (is_leaving h)) xs
used_each held [] each = refl
used_each held (Held l ∷ xs) each = ap (λ o. first_of (if_used o) (used_named (map (λ h. named_to_peer (lease_of h)) xs) held)) (each (Held l) (inl refl))
used_each held (Leaving l ∷ xs) each = ap (λ o. first_of (if_used o) (used_named (map (λ h. named_to_peer (lease_of h)) xs) held)) (each (Leaving l) (inl refl)) ∙ used_each held xs (λ x i. each x (inr i))

serving : (file : List ℕ) (held : List Having) → find (λ h. not (is_leaving h)) (filter (λ h. same (lease_of h).file file) held) ≡ used_for file held
serving file [] = refl
serving file (h ∷ hs) = by (not (is_leaving h)) refl (same (lease_of h).file file) (serving file hs)
  where
    by : (a : Bool) → not (is_leaving h) ≡ a → (b : Bool) → find (λ x. not (is_leaving x)) (filter (λ x. same (lease_of x).file file) hs) ≡ used_for file hs
        → find (λ x. not (is_leaving x)) (cond b (h ∷ filter (λ x. same (lease_of x).file file) hs) (filter (λ x. same (lease_of x).file file) hs)) ≡ cond (not (is_leaving h) && b) (Some h) (used_for file hs)
    by true q true e = ap (λ c. cond c (Some h) (find (λ x. not (is_leaving x)) (filter (λ x. same (lease_of x).file file) hs))) q ∙ sym (ap (λ c. cond (c && true) (Some h) (used_for file hs)) q)
    by true q false e = e ∙ sym (ap (λ c. cond (c && false) (Some h) (used_for file hs)) q)
    by false q true e = ap (λ c. cond c (Some h) (find (λ x. not (is_leaving x)) (filter (λ x. same (lease_of x).file file) hs))) q ∙ e ∙ sym (ap (λ c. cond (c && true) (Some h) (used_for file hs)) q)
    by false q false e = e ∙ sym (ap (λ c. cond (c && false) (Some h) (used_for file hs)) q)

-- the first of the file's that does not leave is found by the names at the file
pub used_own : (file : List ℕ) (index : FileIndex) (held : List Having) → IsOwn index held → index.whole ≡ true → used_named (named_at index.files file) held ≡ used_for file held
used_own file index held h w =
    ap (λ ns. used_named ns held) ((h w).1 file ∙ names_own file held)
    ∙ used_each held (filter (λ x. same (lease_of x).file file) held) (λ x i. found_own held x (own_rises index held h w) (In-filter (λ y. same (lease_of y).file file) x held i))
    ∙ serving file held

-- ## Those that go, one after another

-- a place is within, or at the end of, what is left without the one there
pub within_removed : (held : List Having) (i : ℕ) → i < length held → i ≤ length (remove held i)
within_removed [] i l = absurd (omega (arith, l))
within_removed (x ∷ xs) zero l = omega arith
within_removed (x ∷ xs) (suc i) l = let r = within_removed xs i (omega (arith, l)) in omega (arith, r)

-- without the one at the place, which goes, the others that stay are the same
pub passed : (test : Having → Bool) (held : List Having) (i : ℕ) (d : Having) → i < length held → d ≡ get_or held i d → test d ≡ false → take i (remove held i) ++ filter test (drop i (remove held i)) ≡ take i held ++ filter test (drop i held)
passed test [] i d l e t = absurd (omega (arith, l))
passed test (x ∷ xs) zero d l e t = sym (ap (λ b. cond b (x ∷ filter test xs) (filter test xs)) (ap test (sym e) ∙ t))
passed test (x ∷ xs) (suc i) d l e t = ap (λ rest. x ∷ rest) (passed test xs i d (omega (arith, l)) e t)
