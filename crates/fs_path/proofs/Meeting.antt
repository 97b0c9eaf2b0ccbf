-- No file is met twice on the way up, so the walk ends.
use Rattle.std.proofs.Common.{◌≡◌, ◌∙◌, ℕ, zero, suc, ◌≤◌, ◌<◌, Bool, true, false, not, List, [], ◌∷◌, refl, sym, ap, cond, length, inl, inr, arith}
use Rattle.std.specs.Prelude.{◌&&◌, ◌||◌, Option, Some, None, is_some}
use Rattle.std.specs.FinMap.{get, keys, entries, find, get-entries, slice_cmp-IsAntisymmetric, nat_cmp-IsAntisymmetric}
use Rattle.std.specs.List.{filter}
use Rattle.std.specs.Map.{keys_of}
use Rattle.std.specs.Ordering.{nat_cmp, eq_by_cmp}
use Rattle.std.specs.Cmp.Lexicographic.{slice_cmp}
use Rattle.fs_ident.specs.In.{In}
use Rattle.fs_ident.specs.Ident.{same}
use Rattle.fs_ident.specs.declared.actor.TxnNo.{TxnNo}
use Rattle.fs_ident.proofs.Booleans.{both, equal_is}
use Rattle.fs_ident.proofs.Same.{same_self}
use Rattle.fs_field.specs.declared.path.PathAnswer.{PathAnswer}
use Rattle.fs_field.specs.declared.path.PathAnswer.TheVariants as answer
use Rattle.fs_model.specs.Sound.{parent_of}
use Rattle.fs_record.specs.Records.{RecordMap, node_of}
use Rattle.fs_record.specs.declared.record.Record.{Record}
use Rattle.fs_path.specs.Tables.{PathTables, frozen_for}
use Rattle.fs_path.specs.Walk.{answer_at, at_top, is_among, path_from, path_of, rise, rise_from, rise_to, used_for}
use Rattle.fs_path.specs.declared.rise.Rise.{Rise}
use Rattle.fs_path.specs.declared.rise.Rise.TheVariants.{Frozen, Ends, Topmost, On}

-- ## How many records were not met

abbrev left : List (List ℕ) → List (List ℕ) → List (List ℕ)
left met ks = filter (λ k. not (is_among k met)) ks

abbrev pub unmet : RecordMap → List (List ℕ) → ℕ
unmet m met = length (left met (keys m))

no_more : (k : List ℕ) (xs ys : List (List ℕ)) (a b : Bool) → length xs ≤ length ys → length (cond (not (a || b)) (k ∷ xs) xs) ≤ length (cond (not b) (k ∷ ys) ys)
no_more k xs ys true true h = h
no_more k xs ys true false h = omega (arith, h)
no_more k xs ys false true h = h
no_more k xs ys false false h = omega (arith, h)

one_fewer : (k : List ℕ) (xs ys : List (List ℕ)) (a b : Bool) → length xs < length ys → length (cond (not (a || b)) (k ∷ xs) xs) < length (cond (not b) (k ∷ ys) ys)
one_fewer k xs ys true true h = h
one_fewer k xs ys true false h = omega (arith, h)
one_fewer k xs ys false true h = h
one_fewer k xs ys false false h = omega (arith, h)

no_more_left : (d : List ℕ) (met ks : List (List ℕ)) → length (left (d ∷ met) ks) ≤ length (left met ks)
no_more_left d met [] = omega arith
no_more_left d met (k ∷ ks) = no_more k (left (d ∷ met) ks) (left met ks) (same d k) (is_among k met) (no_more_left d met ks)

goes_off : (k : List ℕ) (xs ys : List (List ℕ)) (a b : Bool) → a ≡ true → b ≡ false → length xs ≤ length ys → length (cond (not (a || b)) (k ∷ xs) xs) < length (cond (not b) (k ∷ ys) ys)
goes_off k xs ys true true e f h = absurd (cc f)
goes_off k xs ys true false e f h = omega (arith, h)
goes_off k xs ys false b e f h = absurd (cc e)

fewer : (d : List ℕ) (met ks : List (List ℕ)) → In d ks → is_among d met ≡ false → length (left (d ∷ met) ks) < length (left met ks)
fewer d met [] i e = absurd i
fewer d met (k ∷ ks) (inl q) e =
    goes_off k (left (d ∷ met) ks) (left met ks) (same d k) (is_among k met) (ap (same d) (sym q) ∙ same_self d) (ap (λ x. is_among x met) (sym q) ∙ e) (no_more_left d met ks)
fewer d met (k ∷ ks) (inr i) e = one_fewer k (left (d ∷ met) ks) (left met ks) (same d k) (is_among k met) (fewer d met ks i e)

all_left : (met ks : List (List ℕ)) → length (left met ks) ≤ length ks
all_left met [] = omega arith
all_left met (k ∷ ks) = by (not (is_among k met)) (all_left met ks)
  where
    by : (b : Bool) → length (left met ks) ≤ length ks → length (cond b (k ∷ left met ks) (left met ks)) ≤ length (k ∷ ks)
    by true h = omega (arith, h)
    by false h = omega (arith, h)

-- what has a record is among those that do
has_key : (d : List ℕ) (es : List (List ℕ × Record)) → is_some (find (slice_cmp nat_cmp) d es) ≡ true → In d (keys_of es)
has_key d [] h = absurd (cc h)
has_key d (e ∷ es) h = by (eq_by_cmp (slice_cmp nat_cmp) d e.0) refl h (has_key d es)
  where
    by : (b : Bool) → eq_by_cmp (slice_cmp nat_cmp) d e.0 ≡ b → is_some (cond b (Some e.1) (find (slice_cmp nat_cmp) d es)) ≡ true → (is_some (find (slice_cmp nat_cmp) d es) ≡ true → In d (keys_of es)) → In d (e.0 ∷ keys_of es)
    by true q s rest = inl (slice_cmp-IsAntisymmetric nat_cmp-IsAntisymmetric d e.0 (equal_is _ q))
    by false q s rest = inr (rest s)

-- ## The walk goes on

unmet_there : (b : Bool) → not b ≡ true → b ≡ false
unmet_there true h = absurd (cc h)
unmet_there false h = refl

on_to : (m : RecordMap) (met : List (List ℕ)) (d : List ℕ) (place : Option (List ℕ × List ℕ)) → rise_to m met place ≡ On d → (is_some (get m d) ≡ true) × (is_among d met ≡ false)
on_to m met d None e = absurd (cc e)
on_to m met d (Some place) e = by (is_some (get m place.0) && not (is_among place.0 met)) refl e
  where
    by : (b : Bool) → (is_some (get m place.0) && not (is_among place.0 met)) ≡ b → cond b (On place.0) (Topmost place.0) ≡ On d → (is_some (get m d) ≡ true) × (is_among d met ≡ false)
    by true q s =
        let is : place.0 ≡ d = cc s in
        let t = both _ _ q in
        (ap (λ x. is_some (get m x)) (sym is) ∙ t.0, ap (λ x. is_among x met) (sym is) ∙ unmet_there (is_among place.0 met) t.1)
    by false q s = absurd (cc s)

on_from : (m : RecordMap) (met : List (List ℕ)) (file d : List ℕ) (o : Option TxnNo) → rise_from m met file o ≡ On d → (is_some (get m d) ≡ true) × (is_among d met ≡ false)
on_from m met file d None e = on_to m met d (parent_of (node_of (get m file))) e
on_from m met file d (Some txn) e = absurd (cc e)

pub fewer_unmet : (t : PathTables) (m : RecordMap) (file d : List ℕ) (below : List (List ℕ)) → rise t m file below ≡ On d → unmet m (d ∷ file ∷ below) < unmet m (file ∷ below)
fewer_unmet t m file d below e =
    let o = on_from m (file ∷ below) file d (frozen_for file t.frozen) e in
    fewer d (file ∷ below) (keys m) (has_key d (entries m) (ap is_some (sym (get-entries m d)) ∙ o.0)) o.1

-- the walk from the start has come to the file, and there are enough steps for what was not met
pub record IsOnWay (t : PathTables) (m : RecordMap) (start file : List ℕ) (below : List (List ℕ)) : Type 0 where
  pub steps : ℕ
  pub same : path_from steps t m file below ≡ path_of t m start
  pub enough : unmet m (file ∷ below) ≤ steps

pub sets_out : (t : PathTables) (m : RecordMap) (start : List ℕ) → IsOnWay t m start start []
sets_out t m start = record { steps = length (keys m); same = refl; enough = all_left (start ∷ []) (keys m) }

goes_up : (t : PathTables) (m : RecordMap) (start file d : List ℕ) (below : List (List ℕ)) (n : ℕ) → path_from n t m file below ≡ path_of t m start → unmet m (file ∷ below) ≤ n → rise t m file below ≡ On d → IsOnWay t m start d (file ∷ below)
goes_up t m start file d below zero s h e = let f = fewer_unmet t m file d below e in absurd (omega (arith, f, h))
goes_up t m start file d below (suc n) s h e =
    let f = fewer_unmet t m file d below e in
    record { steps = n; same = sym (ap (answer_at t file below (λ parent. path_from n t m parent (file ∷ below))) e) ∙ s; enough = omega (arith, f, h) }

pub goes_on : (t : PathTables) (m : RecordMap) (start file d : List ℕ) (below : List (List ℕ)) → IsOnWay t m start file below → rise t m file below ≡ On d → IsOnWay t m start d (file ∷ below)
goes_on t m start file d below w e = goes_up t m start file d below w.steps w.same w.enough e

-- ## The walk ends

-- what is found ends it
abbrev stops : Rise → Bool
stops (On d) = false
stops r = true

stopped : (t : PathTables) (file : List ℕ) (below : List (List ℕ)) (f g : List ℕ → PathAnswer) (r : Rise) → stops r ≡ true → answer_at t file below f r ≡ answer_at t file below g r
stopped t file below f g (Frozen txn) e = refl
stopped t file below f g Ends e = refl
stopped t file below f g (Topmost d) e = refl
stopped t file below f g (On d) e = absurd (cc e)

ended : (n : ℕ) (t : PathTables) (m : RecordMap) (file : List ℕ) (below : List (List ℕ)) (f : List ℕ → PathAnswer) (r : Rise) → stops r ≡ true → rise t m file below ≡ r → answer_at t file below f r ≡ path_from n t m file below
ended zero t m file below f r s e = stopped t file below f _ r s ∙ sym (ap (answer_at t file below (λ parent. at_top (used_for file t.held) file parent below)) e)
ended (suc n) t m file below f r s e = stopped t file below f _ r s ∙ sym (ap (answer_at t file below (λ parent. path_from n t m parent (file ∷ below))) e)

pub frozen_there : (t : PathTables) (m : RecordMap) (start file : List ℕ) (below : List (List ℕ)) (txn : TxnNo) → IsOnWay t m start file below → rise t m file below ≡ Frozen txn → answer.Frozen file txn ≡ path_of t m start
frozen_there t m start file below txn w e = ended w.steps t m file below (λ d. answer.Path []) (Frozen txn) refl e ∙ w.same

pub ends_there : (t : PathTables) (m : RecordMap) (start file : List ℕ) (below : List (List ℕ)) → IsOnWay t m start file below → rise t m file below ≡ Ends → answer.Path (file ∷ below) ≡ path_of t m start
ends_there t m start file below w e = ended w.steps t m file below (λ d. answer.Path []) Ends refl e ∙ w.same

pub tops_there : (t : PathTables) (m : RecordMap) (start file d : List ℕ) (below : List (List ℕ)) → IsOnWay t m start file below → rise t m file below ≡ Topmost d → at_top (used_for file t.held) file d below ≡ path_of t m start
tops_there t m start file d below w e = ended w.steps t m file below (λ x. answer.Path []) (Topmost d) refl e ∙ w.same
