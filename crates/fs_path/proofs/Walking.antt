-- The walk from a file up to the root.
use Rattle.std.proofs.Common.{◌≡◌, ◌∙◌, ℕ, zero, suc, Bool, true, false, not, List, [], ◌∷◌, ◌++◌, refl, sym, ap, cond, length, inl, inr}
use Rattle.std.specs.Prelude.{◌&&◌, Option, Some, None, is_some, option_map}
use Rattle.std.specs.FinMap.{get, keys}
use Rattle.std.specs.List.{filter}
use Rattle.fs_ident.specs.In.{In}
use Rattle.fs_ident.specs.Ident.{same}
use Rattle.fs_ident.specs.declared.actor.TxnNo.{TxnNo}
use Rattle.fs_ident.proofs.Same.{same_is}
use Rattle.fs_field.specs.declared.path.PathAnswer.{PathAnswer}
use Rattle.fs_field.specs.declared.path.PathAnswer.TheVariants as answer
use Rattle.fs_model.specs.Sound.{parent_of}
use Rattle.fs_record.specs.Records.{RecordMap, node_of}
use Rattle.fs_path.specs.Laws.{BeginsAt, EndsWith, IsRun, IsTaken, LeavingIsUsedForNothing, TakenPathsBegin, dir_of, without_leaving}
use Rattle.fs_path.specs.Leases.{PathLease}
use Rattle.fs_path.specs.Tables.{PathTables, frozen_for, is_leaving, lease_of}
use Rattle.fs_path.specs.Walk.{answer_at, at_top, is_among, path_from, path_of, rise, rise_from, rise_to, used_for}
use Rattle.fs_path.specs.declared.having.Having.{Having}
use Rattle.fs_path.specs.declared.having.Having.TheVariants.{Held, Leaving}
use Rattle.fs_path.specs.declared.rise.Rise.{Rise}
use Rattle.fs_path.specs.declared.rise.Rise.TheVariants.{Frozen, Ends, Topmost, On}

-- ## A lease that leaves is used for nothing

used_alike : (file : List ℕ) (held : List Having) → used_for file (filter (λ h. not (is_leaving h)) held) ≡ used_for file held
used_alike file [] = refl
used_alike file (Held l ∷ hs) = ap (λ o. cond (same l.file file) (Some (Held l)) o) (used_alike file hs)
used_alike file (Leaving l ∷ hs) = used_alike file hs

answered_alike : (t : PathTables) (file : List ℕ) (below : List (List ℕ)) (f g : List ℕ → PathAnswer) → ((d : List ℕ) → f d ≡ g d) → (r : Rise) → answer_at (without_leaving t) file below f r ≡ answer_at t file below g r
answered_alike t file below f g same (Frozen txn) = refl
answered_alike t file below f g same Ends = refl
answered_alike t file below f g same (Topmost d) = ap (λ o. at_top o file d below) (used_alike file t.held)
answered_alike t file below f g same (On d) = same d

walked_alike : (n : ℕ) (t : PathTables) (m : RecordMap) (file : List ℕ) (below : List (List ℕ)) → path_from n (without_leaving t) m file below ≡ path_from n t m file below
walked_alike zero t m file below = answered_alike t file below _ _ (λ d. ap (λ o. at_top o file d below) (used_alike file t.held)) (rise t m file below)
walked_alike (suc n) t m file below = answered_alike t file below _ _ (λ d. walked_alike n t m d (file ∷ below)) (rise t m file below)

pub leaving_for_nothing : LeavingIsUsedForNothing
leaving_for_nothing t m file = walked_alike (length (keys m)) t m file []

-- ## What was given out is not looked at

answered_same : (t : PathTables) (issued : List PathLease) (file : List ℕ) (below : List (List ℕ)) (f g : List ℕ → PathAnswer) → ((d : List ℕ) → f d ≡ g d) → (r : Rise) → answer_at (record t { issued = issued }) file below f r ≡ answer_at t file below g r
answered_same t issued file below f g same (Frozen txn) = refl
answered_same t issued file below f g same Ends = refl
answered_same t issued file below f g same (Topmost d) = refl
answered_same t issued file below f g same (On d) = same d

walked_same : (n : ℕ) (t : PathTables) (issued : List PathLease) (m : RecordMap) (file : List ℕ) (below : List (List ℕ)) → path_from n (record t { issued = issued }) m file below ≡ path_from n t m file below
walked_same zero t issued m file below = answered_same t issued file below _ _ (λ d. refl) (rise t m file below)
walked_same (suc n) t issued m file below = answered_same t issued file below _ _ (λ d. walked_same n t issued m d (file ∷ below)) (rise t m file below)

pub unseen : (t : PathTables) (m : RecordMap) (file : List ℕ) → path_of (record { issued = []; held = t.held; frozen = t.frozen }) m file ≡ path_of t m file
unseen t m file = walked_same (length (keys m)) t [] m file []

-- ## A path that is taken

-- what is known of the files below: they stand in one another, the first of them in this one
abbrev AreBelow : PathTables → RecordMap → List ℕ → List ℕ → List (List ℕ) → Type 0
AreBelow t m start file [] = file ≡ start
AreBelow t m start file (g ∷ gs) = (dir_of m g ≡ Some file) × (IsRun t m (g ∷ gs) × EndsWith start (g ∷ gs))

run_up : (t : PathTables) (m : RecordMap) (start file : List ℕ) (below : List (List ℕ)) → AreBelow t m start file below → frozen_for file t.frozen ≡ None → IsRun t m (file ∷ below) × EndsWith start (file ∷ below)
run_up t m start file [] b e = (e, b)
run_up t m start file (g ∷ gs) b e = ((e, (b.0, b.1.0)), b.1.1)

-- what the walk found says of the file
abbrev Says : PathTables → RecordMap → List ℕ → Rise → Type 0
Says t m file (Frozen txn) = Unit {0}
Says t m file Ends = (frozen_for file t.frozen ≡ None) × (dir_of m file ≡ None)
Says t m file (Topmost d) = (frozen_for file t.frozen ≡ None) × (dir_of m file ≡ Some d)
Says t m file (On d) = (frozen_for file t.frozen ≡ None) × (dir_of m file ≡ Some d)

says_to : (t : PathTables) (m : RecordMap) (met : List (List ℕ)) (file : List ℕ) (place : Option (List ℕ × List ℕ)) → frozen_for file t.frozen ≡ None → parent_of (node_of (get m file)) ≡ place → Says t m file (rise_to m met place)
says_to t m met file None e p = (e, ap (λ o. option_map (λ (x : List ℕ × List ℕ). x.0) o) p)
says_to t m met file (Some place) e p = by (is_some (get m place.0) && not (is_among place.0 met))
  where
    by : (b : Bool) → Says t m file (cond b (On place.0) (Topmost place.0))
    by true = (e, ap (λ o. option_map (λ (x : List ℕ × List ℕ). x.0) o) p)
    by false = (e, ap (λ o. option_map (λ (x : List ℕ × List ℕ). x.0) o) p)

says : (t : PathTables) (m : RecordMap) (met : List (List ℕ)) (file : List ℕ) (o : Option TxnNo) → frozen_for file t.frozen ≡ o → Says t m file (rise_from m met file o)
says t m met file (Some txn) e = tt
says t m met file None e = says_to t m met file (parent_of (node_of (get m file))) e refl

used_is : (file : List ℕ) (held : List Having) (h : Having) → used_for file held ≡ Some h → (l : PathLease) × (In (Held l) held × ((l.file ≡ file) × (h ≡ Held l)))
used_is file [] h e = absurd (cc e)
used_is file (Leaving l ∷ hs) h e = let r = used_is file hs h e in (r.0, (inr r.1.0, r.1.1))
used_is file (Held l ∷ hs) h e = by (same l.file file) refl e (used_is file hs h)
  where
    by : (b : Bool) → same l.file file ≡ b → cond b (Some (Held l)) (used_for file hs) ≡ Some h
        → (used_for file hs ≡ Some h → (x : PathLease) × (In (Held x) hs × ((x.file ≡ file) × (h ≡ Held x)))) → (x : PathLease) × (In (Held x) (Held l ∷ hs) × ((x.file ≡ file) × (h ≡ Held x)))
    by true q s rest = let is : Held l ≡ h = cc s in (l, (inl refl, (same_is l.file file q, sym is)))
    by false q s rest = let r = rest s in (r.0, (inr r.1.0, r.1.1))

top_begins : (t : PathTables) (m : RecordMap) (file d : List ℕ) (below path : List (List ℕ)) (o : Option Having) → used_for file t.held ≡ o → at_top o file d below ≡ answer.Path path → BeginsAt t m file below path
top_begins t m file d below path None u e = absurd (cc e)
top_begins t m file d below path (Some h) u e =
    let r = used_is file t.held h u in
    let q : (lease_of h).path ++ below ≡ path = cc e in
    inr (r.0, (r.1.0, (r.1.1.0, sym q ∙ ap (λ x. (lease_of x).path ++ below) r.1.1.1)))

-- at the topmost file the path begins
taken_at_top : (t : PathTables) (m : RecordMap) (start file d : List ℕ) (below path : List (List ℕ)) → AreBelow t m start file below → frozen_for file t.frozen ≡ None → at_top (used_for file t.held) file d below ≡ answer.Path path → IsTaken t m start path
taken_at_top t m start file d below path b f e =
    let r = run_up t m start file below b f in
    record { top = file; below = below; run = r.0; last = r.1; begins = top_begins t m file d below path (used_for file t.held) refl e }

taken_here : (t : PathTables) (m : RecordMap) (start file : List ℕ) (below path : List (List ℕ)) (above : List ℕ → PathAnswer) → AreBelow t m start file below
    → ((d : List ℕ) → frozen_for file t.frozen ≡ None → dir_of m file ≡ Some d → above d ≡ answer.Path path → IsTaken t m start path)
    → (r : Rise) → Says t m file r → answer_at t file below above r ≡ answer.Path path → IsTaken t m start path
taken_here t m start file below path above b up (Frozen txn) s e = absurd (cc e)
taken_here t m start file below path above b up Ends s e =
    let r = run_up t m start file below b s.0 in
    let q : file ∷ below ≡ path = cc e in
    record { top = file; below = below; run = r.0; last = r.1; begins = inl (s.1, sym q) }
taken_here t m start file below path above b up (Topmost d) s e = taken_at_top t m start file d below path b s.0 e
taken_here t m start file below path above b up (On d) s e = up d s.0 s.1 e

taken_from : (n : ℕ) (t : PathTables) (m : RecordMap) (start file : List ℕ) (below path : List (List ℕ)) → AreBelow t m start file below → path_from n t m file below ≡ answer.Path path → IsTaken t m start path
taken_from zero t m start file below path b e =
    taken_here t m start file below path (λ d. at_top (used_for file t.held) file d below) b (λ d f q x. taken_at_top t m start file d below path b f x)
    (rise t m file below) (says t m (file ∷ below) file (frozen_for file t.frozen) refl) e
taken_from (suc n) t m start file below path b e =
    taken_here t m start file below path (λ d. path_from n t m d (file ∷ below)) b
    (λ d f q x. taken_from n t m start d (file ∷ below) path (q, run_up t m start file below b f) x)
    (rise t m file below) (says t m (file ∷ below) file (frozen_for file t.frozen) refl) e

pub taken : TakenPathsBegin
taken t m file path e = taken_from (length (keys m)) t m file file [] path refl e
