-- The path that a server takes of a directory that it has: it is the directory's chain, rests on what the server holds, and goes over no
-- file here that a transaction keeps.
use Rattle.std.proofs.Common.{◌≡◌, ◌∙◌, ℕ, zero, suc, ◌≤◌, Bool, true, false, not, List, [], ◌∷◌, reverse, refl, sym, ap, subst, cond, inl, inr, arith}
use Rattle.std.specs.Prelude.{◌⊎◌, ◌&&◌, Option, Some, None, is_some, option_map, slice_get}
use Rattle.std.proofs.lemmas.Option.{none-some, same_Some}
use Rattle.std.specs.FinMap.{get}
use mathlib.Core.List.{reverse_aux}
use Rattle.fs_ident.specs.In.{In}
use Rattle.fs_ident.specs.Ident.{same}
use Rattle.fs_ident.specs.declared.actor.TxnNo.{TxnNo}
use Rattle.fs_ident.specs.declared.kind.Kind.TheVariants.{Dir}
use Rattle.fs_ident.proofs.Booleans.{both}
use Rattle.fs_ident.proofs.Passing.{found}
use Rattle.fs_ident.proofs.Same.{same_is}
use Rattle.fs_ident.proofs.Standing.{In-got, any_In}
use Rattle.fs_field.specs.declared.path.PathAnswer.{PathAnswer}
use Rattle.fs_field.specs.declared.path.PathAnswer.TheVariants as answer
use Rattle.fs_model.specs.Sound.{parent_of}
use Rattle.fs_record.specs.Records.{RecordMap, node_of}
use Rattle.fs_path.specs.Leases.{PathLease}
use Rattle.fs_path.specs.Tables.{frozen_for, is_leaving, lease_of, serves}
use Rattle.fs_path.specs.Walk.{answer_at, at_top, is_among, path_from, rise, rise_from, rise_to, used_for}
use Rattle.fs_path.specs.declared.having.Having.{Having}
use Rattle.fs_path.specs.declared.rise.Rise.{Rise}
use Rattle.fs_path.specs.declared.rise.Rise.TheVariants.{Frozen, Ends, Topmost, On}
use Rattle.fs_path.proofs.Meeting.{fewer_unmet, sets_out, unmet}
use Rattle.fs_server.specs.PathSteps.{dir_here, path_here}
use Rattle.fs_server.specs.declared.state.Server.{Server}
use Rattle.fs_serial.specs.Cluster.{Cluster}
use Rattle.fs_serial.specs.Fresh.{made}
use Rattle.fs_serial.specs.PathLaws.{TakenIsTrue}
use Rattle.fs_serial.specs.Paths.{BeginsWith, HoldsPath, IsChainUp, IsTruePath, PathsHold, PathsStand, has_record, is_kept, rests_from, run_up, upwards}
use Rattle.fs_serial.specs.Runs.{held_by}
use Rattle.fs_serial.proofs.Paths.Chains.{AreUnder, chain_below, none_again, turned}

-- a list that goes up from the file is its chain, rests on nothing or on what is held, and no file of the run is kept
pub record IsGood (m : RecordMap) (s : Server) (file : List ℕ) (up : List (List ℕ)) : Type 0 where
  pub chain : IsChainUp m up
  pub begins : BeginsWith file up
  pub rests : (files : List (List ℕ)) → rests_from s up ≡ Some files → HoldsPath s files
  pub free : (f : List ℕ) → is_kept s f ≡ true → In f (run_up s up) → ⊥

-- the lowest of what the walk met
abbrev lowest : List ℕ → List (List ℕ) → List ℕ
lowest file [] = file
lowest file (g ∷ gs) = lowest g gs

-- what the walk met is here and is not kept
abbrev AreMet : Server → List (List ℕ) → Type 0
AreMet s [] = Unit {0}
AreMet s (g ∷ gs) = (has_record s g ≡ true) × (is_kept s g ≡ false) × AreMet s gs

-- what the walk finds at a file
abbrev IsFound : Server → List ℕ → List (List ℕ) → Rise → Type 0
IsFound s file met (Frozen txn) = Unit {0}
IsFound s file met Ends = (is_kept s file ≡ false) × (dir_here s.records file ≡ None)
IsFound s file met (Topmost d) = (is_kept s file ≡ false) × (dir_here s.records file ≡ Some d) × ((has_record s d ≡ false) ⊎ In d met)
IsFound s file met (On d) = (is_kept s file ≡ false) × (dir_here s.records file ≡ Some d) × (has_record s d ≡ true)

away : (a b : Bool) → (a && not b) ≡ false → (a ≡ false) ⊎ (b ≡ true)
away true true e = inr refl
away true false e = absurd (cc e)
away false b e = inl refl

among : (d : List ℕ) (met : List (List ℕ)) → is_among d met ≡ true → In d met
among d met e = let r = any_In (λ f. same f d) met e in subst (λ x. In x met) (same_is r.0 d r.1.1) r.1.0

found_to : (s : Server) (met : List (List ℕ)) (file : List ℕ) (place : Option (List ℕ × List ℕ)) → is_kept s file ≡ false
    → parent_of (node_of (get s.records file)) ≡ place → IsFound s file met (rise_to s.records met place)
found_to s met file None k e = (k, ap (λ o. option_map (λ (x : List ℕ × List ℕ). x.0) o) e)
found_to s met file (Some place) k e = by (is_some (get s.records place.0) && not (is_among place.0 met)) refl
  where
    by : (b : Bool) → (is_some (get s.records place.0) && not (is_among place.0 met)) ≡ b → IsFound s file met (cond b (On place.0) (Topmost place.0))
    by true t = (k, ap (λ o. option_map (λ (x : List ℕ × List ℕ). x.0) o) e, (both _ _ t).0)
    by false t = (
      k,
      ap (λ o. option_map (λ (x : List ℕ × List ℕ). x.0) o) e,
      elim (away _ _ t) as (λ _. (has_record s place.0 ≡ false) ⊎ In place.0 met) [
        | inl a ↦ inl a
        | inr a ↦ inr (among place.0 met a)
      ],
    )

found_from : (s : Server) (met : List (List ℕ)) (file : List ℕ) (o : Option TxnNo) → frozen_for file s.paths.frozen ≡ o
    → IsFound s file met (rise_from s.records met file o)
found_from s met file (Some txn) e = tt
found_from s met file None e = found_to s met file (parent_of (node_of (get s.records file))) (ap is_some e) refl

run_of : (s : Server) (f : List ℕ) (up : List (List ℕ)) → has_record s f ≡ true → (g : List ℕ) → In g (run_up s (f ∷ up)) → In g (f ∷ run_up s up)
run_of s f up here g i = subst (λ b. In g (cond b (f ∷ run_up s up) [])) here i

other : (s : Server) (f g : List ℕ) → is_kept s f ≡ false → is_kept s g ≡ true → g ≡ f → ⊥
other s f g a b e = let wrong : true ≡ false = sym b ∙ ap (is_kept s) e ∙ a in absurd (cc wrong)

-- one file more below
pub good_below : (m : RecordMap) (s : Server) (f d : List ℕ) (up : List (List ℕ)) → has_record s f ≡ true → is_kept s f ≡ false
    → dir_here m f ≡ Some d → has_record s d ≡ true → IsGood m s d up → IsGood m s f (f ∷ up)
good_below m s f d [] here thaw e there r = absurd r.begins
good_below m s f d (g ∷ gs) here thaw e there r =
    let is : has_record s g ≡ true = ap (has_record s) r.begins ∙ there in
    record {
      chain = chain_below m f d (g ∷ gs) e r.chain r.begins;
      begins = refl;
      rests = λ files q. r.rests files (subst (λ b. cond b (rests_from s (g ∷ gs)) (Some (f ∷ g ∷ gs)) ≡ Some files) is q);
      free = λ x z i. elim (run_of s f (g ∷ gs) here x i) as (λ _. ⊥) [ inl q ↦ other s f x thaw z q | inr j ↦ r.free x z j ];
    }

-- all files that the walk met
all_below : (m : RecordMap) (s : Server) (file : List ℕ) (below up : List (List ℕ)) → AreMet s below → AreUnder m file below
    → has_record s file ≡ true → IsGood m s file up → IsGood m s (lowest file below) (reverse_aux below up)
all_below m s file [] up a u here r = r
all_below m s file (g ∷ gs) up a u here r = all_below m s g gs (g ∷ up) a.2 u.1 a.0 (good_below m s g file up a.0 a.1 u.0 here r)

-- the root
good_root : (m : RecordMap) (s : Server) (file : List ℕ) → has_record s file ≡ true → is_kept s file ≡ false → dir_here m file ≡ None
    → IsGood m s file (file ∷ [])
good_root m s file here thaw e = record {
  chain = e;
  begins = refl;
  rests = λ files q. absurd (none-some files q);
  free = λ x z i. elim (run_of s file [] here x i) as (λ _. ⊥) [ inl q ↦ other s file x thaw z q | inr j ↦ j ];
}

-- a lease that is held, where the directory of its file is not here
good_held : (m : RecordMap) (s : Server) (file d : List ℕ) (up : List (List ℕ)) → has_record s file ≡ true → is_kept s file ≡ false
    → has_record s d ≡ false → dir_here m file ≡ Some d → IsChainUp m up → BeginsWith file up → HoldsPath s up → IsGood m s file up
good_held m s file d [] here thaw off e c b h = absurd c
good_held m s file d (g ∷ []) here thaw off e c b h = absurd (none-some d (sym c ∙ ap (dir_here m) b ∙ e))
good_held m s file d (g ∷ x ∷ xs) here thaw off e c b h =
    let is : x ≡ d = same_Some x d (sym c.0 ∙ ap (dir_here m) b ∙ e) in
    let no : has_record s x ≡ false = ap (has_record s) is ∙ off in
    record {
      chain = c;
      begins = b;
      rests = λ files q. subst (HoldsPath s) (same_Some (g ∷ x ∷ xs) files (subst (λ t. cond t (rests_from s (x ∷ xs)) (Some (g ∷ x ∷ xs)) ≡ Some files) no q)) h;
      free = λ y z i. elim (run_of s g (x ∷ xs) (ap (has_record s) b ∙ here) y i) as (λ _. ⊥) [
        | inl q ↦ other s file y thaw z (q ∙ b)
        | inr j ↦ subst (λ t. In y (cond t (x ∷ run_up s xs) [])) no j
      ];
    }

-- what a lease from another server is of, as its server gave it out
pub record IsGiven (c : Cluster) (l : PathLease) : Type 0 where
  pub server : Server
  pub there : In server c.servers
  pub to : ℕ
  pub issued : In (record l { peer = to }) server.paths.issued
  pub right : IsTruePath (held_by c) c.journal server (record l { peer = to })

pub held_given : (c : Cluster) (k : ℕ) (s : Server) (had : Having) → PathsHold c → slice_get c.servers k ≡ Some s → In had s.paths.held
    → IsGiven c (lease_of had)
held_given c k s had h at i =
    let out = h.held k s at had i in
    let there : In out.server c.servers = In-got c.servers (lease_of had).peer out.server out.there in
    record { server = out.server; there = there; to = k; issued = out.issued; right = h.truth out.server there (record (lease_of had) { peer = k }) out.issued }

module _ (c : Cluster) (k : ℕ) (s : Server) (stand : PathsStand c) (h : PathsHold c) (at : slice_get c.servers k ≡ Some s) where
  abbrev all : RecordMap
  all = held_by c

  -- what the answer of the walk says
  abbrev pub IsRight : List ℕ → PathAnswer → Type 0
  IsRight start (answer.Path path) = IsGood all s start (reverse path)
  IsRight start (answer.Wanted top dir) = made c.journal top ≡ Some Dir
  IsRight start (answer.Frozen f txn) = Unit {0}

  place_of : (file : List ℕ) (o : Option (List ℕ)) → made c.journal file ≡ Some Dir → has_record s file ≡ true → is_kept s file ≡ false
      → dir_here s.records file ≡ o → dir_here all file ≡ o
  place_of file o dir here thaw e = sym (stand.placed k s file at dir here thaw) ∙ e

  -- the topmost file here
  top_right : (file d : List ℕ) (below : List (List ℕ)) (o : Option Having) → made c.journal file ≡ Some Dir → has_record s file ≡ true
      → is_kept s file ≡ false → dir_here all file ≡ Some d
      → AreMet s below → AreUnder all file below → (has_record s d ≡ false) ⊎ In d (file ∷ below) → used_for file s.paths.held ≡ o
      → IsRight (lowest file below) (at_top o file d below)
  top_right file d below None dir here thaw e a u t q = dir
  top_right file d below (Some had) dir here thaw e a u t q =
      let f : In had s.paths.held × (serves file had ≡ true) = found (serves file) s.paths.held had q in
      let g = held_given c k s had h at f.0 in
      let is : (lease_of had).file ≡ file = same_is (lease_of had).file file (both (not (is_leaving had)) (same (lease_of had).file file) f.1).1 in
      let begins : BeginsWith file (upwards (lease_of had)) = subst (λ x. BeginsWith x (upwards (lease_of had))) is g.right.begins in
      let off : has_record s d ≡ false = elim t as (λ _. has_record s d ≡ false) [
        | inl n ↦ n
        | inr i ↦ absurd (none_again all d file below (upwards (lease_of had)) u g.right.chain begins e i)
      ] in
      let held : HoldsPath s (upwards (lease_of had)) = record { lease = had; held = f.0; path = refl } in
      subst (IsGood all s (lowest file below)) (sym (turned (lease_of had).path below []))
      (all_below all s file below (upwards (lease_of had)) a u here (good_held all s file d (upwards (lease_of had)) here thaw off e g.right.chain begins held))

  here_right : (file : List ℕ) (below : List (List ℕ)) (above : List ℕ → PathAnswer) → made c.journal file ≡ Some Dir → has_record s file ≡ true
      → AreMet s below → AreUnder all file below
      → ((d : List ℕ) → rise s.paths s.records file below ≡ On d → made c.journal d ≡ Some Dir → has_record s d ≡ true
      → AreMet s (file ∷ below) → AreUnder all d (file ∷ below) → IsRight (lowest file below) (above d))
      → (r : Rise) → rise s.paths s.records file below ≡ r → IsFound s file (file ∷ below) r
      → IsRight (lowest file below) (answer_at s.paths file below above r)
  here_right file below above dir here a u up (Frozen txn) e f = tt
  here_right file below above dir here a u up Ends e f = all_below all s file below (file ∷ []) a u here (good_root all s file here f.0 (place_of file None dir here f.0 f.1))
  here_right file below above dir here a u up (Topmost d) e f = top_right file d below (used_for file s.paths.held) dir here f.0 (place_of file (Some d) dir here f.0 f.1) a u f.2 refl
  here_right file below above dir here a u up (On d) e f =
      let place : dir_here all file ≡ Some d = place_of file (Some d) dir here f.0 f.1 in
      up d e (stand.dirs file d place) f.2 (here, f.0, a) (place, u)

  walk_right : (n : ℕ) (file : List ℕ) (below : List (List ℕ)) → unmet s.records (file ∷ below) ≤ n → made c.journal file ≡ Some Dir
      → has_record s file ≡ true → AreMet s below → AreUnder all file below
      → IsRight (lowest file below) (path_from n s.paths s.records file below)
  walk_right zero file below l dir here a u =
      here_right file below (λ d. at_top (used_for file s.paths.held) file d below) dir here a u
      (λ d e q w x y. let f = fewer_unmet s.paths s.records file d below e in absurd (omega (arith, f, l)))
      (rise s.paths s.records file below) refl (found_from s (file ∷ below) file (frozen_for file s.paths.frozen) refl)
  walk_right (suc n) file below l dir here a u =
      here_right file below (λ d. path_from n s.paths s.records d (file ∷ below)) dir here a u
      (λ d e q w x y. let f = fewer_unmet s.paths s.records file d below e in walk_right n d (file ∷ below) (omega (arith, f, l)) q w x y)
      (rise s.paths s.records file below) refl (found_from s (file ∷ below) file (frozen_for file s.paths.frozen) refl)

  pub right : (file : List ℕ) → made c.journal file ≡ Some Dir → has_record s file ≡ true → IsRight file (path_here s file)
  right file dir here = let w = sets_out s.paths s.records file in subst (IsRight file) w.same (walk_right w.steps file [] w.enough dir here tt tt)

  -- a path that is taken
  pub taken_good : (file : List ℕ) (path : List (List ℕ)) → made c.journal file ≡ Some Dir → has_record s file ≡ true
      → path_here s file ≡ answer.Path path → IsGood all s file (reverse path)
  taken_good file path dir here e = subst (IsRight file) e (right file dir here)

  -- the file whose path is wanted is a directory
  pub wanted_made : (file top d : List ℕ) → made c.journal file ≡ Some Dir → has_record s file ≡ true → path_here s file ≡ answer.Wanted top d
      → made c.journal top ≡ Some Dir
  wanted_made file top d dir here e = subst (IsRight file) e (right file dir here)

pub taken_is_true : TakenIsTrue
taken_is_true c k s file path stand h at dir here e = let g = taken_good c k s stand h at file path dir here e in (g.chain, g.begins)
