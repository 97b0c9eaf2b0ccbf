-- Leases given out, and their names at the files of their paths.
use Rattle.std.proofs.Common.{◌≡◌, ◌∙◌, ◌&&◌, ◌||◌, ◌==◌, ℕ, Bool, true, false, not, List, [], ◌∷◌, ◌<◌, zero, suc, refl, ap, cond, sym, map, length, get_or, arith}
use Rattle.std.specs.Prelude.{Some, option_map}
use Rattle.std.specs.List.{filter, find, list_all, list_any, remove}
use Rattle.fs_ident.specs.declared.actor.PathNo.{PathNo}
use Rattle.fs_ident.proofs.Booleans.{both}
use Rattle.fs_ident.proofs.Same.{after_zero}
use Rattle.fs_path.specs.Index.{AreRisingAt, ByFile, ChangesAmong, IsNewAmong, IsNoted, IsOver, are_rising, first_named, has_other, named_at, no_of_issued, no_of_named, with_named, without_named}
use Rattle.fs_path.specs.Leases.{PathLease, goes_over, has_no, named_to_peer, path_before, same_path_no}
use Rattle.fs_path.specs.Returns.{recalls, without_no}
use Rattle.fs_path.specs.Tables.{through, with_issued}
use Rattle.fs_path.specs.Walk.{is_among}
use Rattle.fs_path.specs.declared.index.FileIndex.{FileIndex}
use Rattle.fs_path.proofs.Rising.{before_trans, gone_there, rising_filter, rising_map, rising_put}

abbrev Test : Type 0
Test = PathLease → Bool

-- ## Names of those that pass a test

-- they rise
pub recalls_rise : (test : Test) (issued : List PathLease) → are_rising no_of_issued issued ≡ true → are_rising no_of_named (recalls test issued) ≡ true
recalls_rise test issued h = rising_map no_of_issued no_of_named named_to_peer (λ l. refl) (filter test issued) ∙ rising_filter no_of_issued test issued h

-- before all, the name goes first
pub name_first : (name : ℕ × PathNo) (names : List (ℕ × PathNo)) → list_all (λ n. path_before name.1 n.1) names ≡ true → with_named name names ≡ name ∷ names
name_first name [] h = refl
name_first name (n ∷ ns) h = ap (λ b. cond b (name ∷ n ∷ ns) (n ∷ with_named name ns)) (both (path_before name.1 n.1) (list_all (λ m. path_before name.1 m.1) ns) h).0

pub all_names : (n : PathNo) (test : Test) (issued : List PathLease) → list_all (λ l. path_before n l.no) issued ≡ true → list_all (λ m. path_before n m.1) (recalls test issued) ≡ true
all_names n test [] h = refl
all_names n test (l ∷ ls) h =
    let q = both (path_before n l.no) (list_all (λ x. path_before n x.no) ls) h in
    elim (test l) as (λ b. list_all (λ m. path_before n m.1) (map named_to_peer (cond b (l ∷ filter test ls) (filter test ls))) ≡ true) [
      | true ↦ ap (λ b. b && list_all (λ m. path_before n m.1) (recalls test ls)) q.0 ∙ all_names n test ls q.1
      | false ↦ all_names n test ls q.1
    ]

further : (a b : PathNo) (ls : List PathLease) → path_before a b ≡ true → list_all (λ x. path_before b x.no) ls ≡ true → list_all (λ x. path_before a x.no) ls ≡ true
further a b [] h k = refl
further a b (l ∷ ls) h k =
    let q = both (path_before b l.no) (list_all (λ x. path_before b x.no) ls) k in
    ap (λ t. t && list_all (λ x. path_before a x.no) ls) (before_trans a b l.no h q.0) ∙ further a b ls h q.1

-- with one lease more there is its name more, where it passes
pub recalls_put : (test : Test) (new : PathLease) (issued : List PathLease) → are_rising no_of_issued issued ≡ true → recalls test (with_issued new issued) ≡ cond (test new) (with_named (named_to_peer new) (recalls test issued)) (recalls test issued)
recalls_put test new [] h = by (test new)
  where
    by : (b : Bool) → map named_to_peer (cond b (new ∷ []) []) ≡ cond b (named_to_peer new ∷ []) []
    by true = refl
    by false = refl
recalls_put test new (l ∷ ls) h =
    let q = both (list_all (λ x. path_before l.no x.no) ls) (are_rising no_of_issued ls) h in
    go (path_before new.no l.no) refl q.0 (recalls_put test new ls q.1)
  where
    -- it goes before all of them
    front : path_before new.no l.no ≡ true → list_all (λ x. path_before l.no x.no) ls ≡ true → (c : Bool) → map named_to_peer (cond c (new ∷ filter test (l ∷ ls)) (filter test (l ∷ ls))) ≡ cond c (with_named (named_to_peer new) (recalls test (l ∷ ls))) (recalls test (l ∷ ls))
    front t a true = sym (name_first (named_to_peer new) (recalls test (l ∷ ls)) (all_names new.no test (l ∷ ls) (ap (λ b. b && list_all (λ x. path_before new.no x.no) ls) t ∙ further new.no l.no ls t a)))
    front t a false = refl

    -- or behind this one
    behind : (b c : Bool) → path_before new.no l.no ≡ false → (rest : List (ℕ × PathNo)) → rest ≡ cond c (with_named (named_to_peer new) (recalls test ls)) (recalls test ls)
        → cond b (named_to_peer l ∷ rest) rest ≡ cond c (with_named (named_to_peer new) (cond b (named_to_peer l ∷ recalls test ls) (recalls test ls))) (cond b (named_to_peer l ∷ recalls test ls) (recalls test ls))
    behind true true t rest e = ap (λ xs. named_to_peer l ∷ xs) e ∙ sym (ap (λ b. cond b (named_to_peer new ∷ named_to_peer l ∷ recalls test ls) (named_to_peer l ∷ with_named (named_to_peer new) (recalls test ls))) t)
    behind true false t rest e = ap (λ xs. named_to_peer l ∷ xs) e
    behind false true t rest e = e
    behind false false t rest e = e

    split : (b : Bool) (xs : List PathLease) → map named_to_peer (cond b (l ∷ xs) xs) ≡ cond b (named_to_peer l ∷ map named_to_peer xs) (map named_to_peer xs)
    split true xs = refl
    split false xs = refl

    go : (b : Bool) → path_before new.no l.no ≡ b → list_all (λ x. path_before l.no x.no) ls ≡ true → recalls test (with_issued new ls) ≡ cond (test new) (with_named (named_to_peer new) (recalls test ls)) (recalls test ls)
        → recalls test (cond b (new ∷ l ∷ ls) (l ∷ with_issued new ls)) ≡ cond (test new) (with_named (named_to_peer new) (recalls test (l ∷ ls))) (recalls test (l ∷ ls))
    go true t a rest = front t a (test new)
    go false t a rest =
        split (test l) (filter test (with_issued new ls))
        ∙ behind (test l) (test new) t (recalls test (with_issued new ls)) rest
        ∙ ap (λ xs. cond (test new) (with_named (named_to_peer new) xs) xs) (sym (split (test l) (filter test ls)))

-- without those of a number there are not their names
pub recalls_without : (test : Test) (number : PathNo) (issued : List PathLease) → recalls test (without_no number issued) ≡ without_named number (recalls test issued)
recalls_without test number [] = refl
recalls_without test number (l ∷ ls) = by (has_no number l) (test l) refl (recalls_without test number ls)
  where
    by : (b c : Bool) → has_no number l ≡ b → recalls test (without_no number ls) ≡ without_named number (recalls test ls)
        → recalls test (cond (not b) (l ∷ without_no number ls) (without_no number ls)) ≡ without_named number (map named_to_peer (cond (test l) (l ∷ filter test ls) (filter test ls)))
    by true c e rest = gone (test l) e rest
      where
        gone : (t : Bool) → has_no number l ≡ true → recalls test (without_no number ls) ≡ without_named number (recalls test ls) → recalls test (without_no number ls) ≡ without_named number (map named_to_peer (cond t (l ∷ filter test ls) (filter test ls)))
        gone true q r = r ∙ sym (ap (λ k. cond (not k) (named_to_peer l ∷ without_named number (recalls test ls)) (without_named number (recalls test ls))) q)
        gone false q r = r
    by false c e rest = kept (test l) e rest
      where
        kept : (t : Bool) → has_no number l ≡ false → recalls test (without_no number ls) ≡ without_named number (recalls test ls)
            → map named_to_peer (cond t (l ∷ filter test (without_no number ls)) (filter test (without_no number ls))) ≡ without_named number (map named_to_peer (cond t (l ∷ filter test ls) (filter test ls)))
        kept true q r = ap (λ xs. named_to_peer l ∷ xs) r ∙ sym (ap (λ k. cond (not k) (named_to_peer l ∷ without_named number (recalls test ls)) (without_named number (recalls test ls))) q)
        kept false q r = r

-- the first name is that of the first that passes
pub first_is : (file : List ℕ) (issued : List PathLease) → first_named (recalls (goes_over file) issued) ≡ through file issued
first_is file [] = refl
first_is file (l ∷ ls) = by (goes_over file l) (first_is file ls)
  where
    by : (b : Bool) → first_named (recalls (goes_over file) ls) ≡ through file ls → first_named (map named_to_peer (cond b (l ∷ filter (goes_over file) ls) (filter (goes_over file) ls))) ≡ option_map (λ (x : PathLease). x.no) (cond b (Some l) (find (goes_over file) ls))
    by true rest = refl
    by false rest = rest

-- there are names exactly where one passes
pub some_named : (test : Test) (issued : List PathLease) → not (length (recalls test issued) == 0) ≡ list_any test issued
some_named test [] = refl
some_named test (l ∷ ls) = by (test l) (some_named test ls)
  where
    by : (b : Bool) → not (length (recalls test ls) == 0) ≡ list_any test ls → not (length (map named_to_peer (cond b (l ∷ filter test ls) (filter test ls))) == 0) ≡ (b || list_any test ls)
    by true rest = ap not (after_zero (length (recalls test ls)))
    by false rest = rest

-- and another than those of the number exactly where one passes without them
pub other_named : (test : Test) (number : PathNo) (issued : List PathLease) → has_other number (recalls test issued) ≡ list_any test (without_no number issued)
other_named test number [] = refl
other_named test number (l ∷ ls) = by (has_no number l) refl (other_named test number ls)
  where
    also : (t b : Bool) → has_no number l ≡ b → has_other number (map named_to_peer (cond t (l ∷ filter test ls) (filter test ls))) ≡ ((t && not b) || has_other number (recalls test ls))
    also true b e = ap (λ k. not k || has_other number (recalls test ls)) e
    also false b e = refl

    drop_never : (t : Bool) (r : Bool) → ((t && false) || r) ≡ r
    drop_never true r = refl
    drop_never false r = refl

    keep_ever : (t : Bool) (r : Bool) → ((t && true) || r) ≡ (t || r)
    keep_ever true r = refl
    keep_ever false r = refl

    by : (b : Bool) → has_no number l ≡ b → has_other number (recalls test ls) ≡ list_any test (without_no number ls) → has_other number (recalls test (l ∷ ls)) ≡ list_any test (cond (not b) (l ∷ without_no number ls) (without_no number ls))
    by true e rest = also (test l) true e ∙ drop_never (test l) (has_other number (recalls test ls)) ∙ rest
    by false e rest = also (test l) false e ∙ keep_ever (test l) (has_other number (recalls test ls)) ∙ ap (λ r. test l || r) rest

-- ## The index beside the leases

pub over_none : (index : FileIndex) → ((f : List ℕ) → named_at index.files f ≡ []) → IsOver index []
over_none index h w = (refl, h)

-- what the names at each file are, they rise
pub over_rises : (index : FileIndex) (issued : List PathLease) → IsOver index issued → index.whole ≡ true → AreRisingAt index.files
over_rises index issued h w f = let q = h w in ap (are_rising no_of_named) (q.1 f) ∙ recalls_rise (goes_over f) issued q.0

-- with those of a number forgotten they rise still
pub forgets_rise : (number : PathNo) (files : List (List ℕ)) (old now : ByFile) → AreRisingAt old → ChangesAmong (without_named number) files old now → AreRisingAt now
forgets_rise number files old now h change f = ap (are_rising no_of_named) (change f) ∙ by (is_among f files)
  where
    by : (b : Bool) → are_rising no_of_named (cond b (without_named number (named_at old f)) (named_at old f)) ≡ true
    by true = rising_filter no_of_named (λ n. not (same_path_no n.1 number)) (named_at old f) (h f)
    by false = h f

-- one lease more is noted
pub noted_over : (new : PathLease) (is_new : Bool) (issued : List PathLease) (old now : FileIndex) → IsOver old issued → IsNewAmong no_of_issued new.no issued is_new → IsNoted is_new (named_to_peer new) new.path old now → IsOver now (with_issued new issued)
noted_over new is_new issued old now h fresh noted w =
    let n = noted w in
    let q = h n.1.0 in (
      rising_put no_of_issued new issued q.0 (fresh n.0),
      λ f. n.1.1 f ∙ ap (λ xs. cond (is_among f new.path) (with_named (named_to_peer new) xs) xs) (q.1 f) ∙ sym (recalls_put (goes_over f) new issued q.0),
    )

-- one that does not pass changes nothing where it goes
removed_same : (test : Test) (issued : List PathLease) (i : ℕ) (d : PathLease) → i < length issued → test (get_or issued i d) ≡ false → recalls test (remove issued i) ≡ recalls test issued
removed_same test [] i d l e = absurd (omega arith)
removed_same test (x ∷ xs) zero d l e = sym (ap (λ b. map named_to_peer (cond b (x ∷ filter test xs) (filter test xs))) e)
removed_same test (x ∷ xs) (suc i) d l e = by (test x) (removed_same test xs i d (omega arith) e)
  where
    by : (b : Bool) → recalls test (remove xs i) ≡ recalls test xs → map named_to_peer (cond b (x ∷ filter test (remove xs i)) (filter test (remove xs i))) ≡ map named_to_peer (cond b (x ∷ filter test xs) (filter test xs))
    by true rest = ap (λ ys. named_to_peer x ∷ ys) rest
    by false rest = rest

-- the one of the number is forgotten at the files of its path
pub forgot_over : (number : PathNo) (issued : List PathLease) (i : ℕ) (d : PathLease) (old now : FileIndex) → IsOver old issued → old.whole ≡ true → i < length issued → has_no number (get_or issued i d) ≡ true → now.whole ≡ old.whole → ChangesAmong (without_named number) (get_or issued i d).path old.files now.files → IsOver now (remove issued i)
forgot_over number issued i d old now h w l e same change w2 =
    let q = h w in
    let goes : remove issued i ≡ without_no number issued = gone_there no_of_issued number issued i d q.0 l e in (
      ap (are_rising no_of_issued) goes ∙ rising_filter no_of_issued (λ x. not (has_no number x)) issued q.0,
      λ f. change f
          ∙ ap (λ ns. cond (is_among f (get_or issued i d).path) (without_named number ns) ns) (q.1 f)
          ∙ ap (λ ns. cond (is_among f (get_or issued i d).path) ns (recalls (goes_over f) issued)) (sym (recalls_without (goes_over f) number issued) ∙ ap (recalls (goes_over f)) (sym goes))
          ∙ by f (is_among f (get_or issued i d).path) refl,
    )
  where
    by : (f : List ℕ) (b : Bool) → is_among f (get_or issued i d).path ≡ b → cond b (recalls (goes_over f) (remove issued i)) (recalls (goes_over f) issued) ≡ recalls (goes_over f) (remove issued i)
    by f true t = refl
    by f false t = sym (removed_same (goes_over f) issued i d l t)
