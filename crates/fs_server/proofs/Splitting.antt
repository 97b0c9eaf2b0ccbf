-- A commit, split by the servers of its parts.
use Rattle.std.proofs.Common.{◌≡◌, ◌==◌, ◌+◌, ℕ, zero, suc, Bool, true, false, not, List, [], ◌∷◌}
use Rattle.std.proofs.Common.{◌++◌, cond, length, map, refl, ap, ap₂, sym, ◌∙◌, subst, inl, inr, arith}
use Rattle.std.specs.Prelude.{Option, Some, None, option_map, slice_get, unwrap_or}
use Rattle.std.specs.List.{filter, flat_map, list_any}
use Rattle.std.proofs.lemmas.Bool.{eqb-true}
use Rattle.std.proofs.lemmas.List.{length-map}
use Rattle.std.proofs.lemmas.List.Elements.{filter-append}
use Rattle.std.proofs.lemmas.Option.{slice_get-map}
use Rattle.fs_ident.specs.Ident.{same}
use Rattle.fs_ident.specs.In.{In}
use Rattle.fs_ident.proofs.Same.{same_is}
use Rattle.fs_ident.proofs.Standing.{In-filter, any_In, none_any}
use Rattle.fs_field.specs.After.{changed_file}
use Rattle.fs_field.specs.declared.effect.Effect.{Effect}
use Rattle.fs_field.specs.declared.path.PathAnswer.{PathAnswer}
use Rattle.fs_field.specs.declared.used.Part.{Part}
use Rattle.fs_field.specs.declared.used.Use.{Use}
use Rattle.fs_model.specs.declared.op.Op.{Op}
use Rattle.fs_model.specs.declared.op.Op.TheVariants as op
use Rattle.fs_model.specs.declared.reply.Reply.{Reply}
use Rattle.fs_model.specs.declared.reply.Reply.TheVariants.{Cycle}
use Rattle.fs_moderows.proofs.Witnesses.{In_filtered}
use Rattle.fs_record.specs.Applied.{records_after_all}
use Rattle.fs_record.specs.LedEffects.{led_effects}
use Rattle.fs_txn.specs.Deciding.{commit, decision, effects_on, told_effects}
use Rattle.fs_txn.specs.Leading.{IsWholeLeader, elsewhere, own_effects, own_parts, said_yes, yes_from}
use Rattle.fs_txn.specs.Votes.{Votes}
use Rattle.fs_txn.specs.declared.decision.Decision.TheVariants.{Commit}
use Rattle.fs_txn.specs.declared.leader.Leader.{Leader}
use Rattle.fs_txn.specs.declared.leading.Leading.{Leading}
use Rattle.fs_txn.proofs.Parted.{decision_is, part_files}
use Rattle.fs_txn.proofs.Shared.{parts_share}
use Rattle.fs_txn.proofs.Yeses.{commit_yes}
use Rattle.fs_server.specs.LeadingLaws.{AreYes, CommitSplits, goes_from, has_effect}

-- ## The effects of a commit

pub commit_effects : (l : Leader) (path : Option PathAnswer) (r : Reply) (effects : List (List Effect)) → decision l path ≡ Commit r effects
    → effects ≡ map (λ (p : Part). effects_on (led_effects l.op l.file r) p.file) l.parts
commit_effects l path r effects = decision_is l (λ d. d ≡ Commit r effects
    → effects ≡ map (λ (p : Part). effects_on (led_effects l.op l.file r) p.file) l.parts) (λ e q. absurd (cc q)) its path
  where
    its : (x : Reply) → commit l x ≡ Commit r effects → effects ≡ map (λ (p : Part). effects_on (led_effects l.op l.file r) p.file) l.parts
    its x q =
        let a : x ≡ r = cc in
        let b : map (λ (p : Part). effects_on (led_effects l.op l.file x) p.file) l.parts ≡ effects = cc in
        sym b ∙ ap (λ y. map (λ (p : Part). effects_on (led_effects l.op l.file y) p.file) l.parts) a

-- ## Those of some servers

-- the lists of the servers that pass, in their order
abbrev pub picked : (ℕ → Bool) → List ℕ → List (List Effect) → List Effect
picked test [] es = []
picked test (k ∷ ks) [] = []
picked test (k ∷ ks) (e ∷ es) = cond (test k) (e ++ picked test ks es) (picked test ks es)

told_from : (test : ℕ → Bool) (told : ℕ → List Effect) (first : ℕ) (effects : List (List Effect)) (votes : Votes) (at : List ℕ)
    → ((i : ℕ) → told (first + i) ≡ unwrap_or (slice_get effects i) []) → AreYes votes
    → length at ≡ length votes → length effects ≡ length votes
    → flat_map (λ (x : ℕ × ℕ). told x.0) (filter (λ (x : ℕ × ℕ). test x.1) (yes_from first votes at)) ≡ picked test at effects
told_from test told first effects [] [] t y a b = refl
told_from test told first effects [] (k ∷ ks) t y a b = absurd (omega arith)
told_from test told first effects (v ∷ vs) [] t y a b = absurd (omega arith)
told_from test told first [] (v ∷ vs) (k ∷ ks) t y a b = absurd (omega arith)
told_from test told first (e ∷ es) (v ∷ vs) (k ∷ ks) t y a b =
    ap (λ yes. flat_map (λ (x : ℕ × ℕ). told x.0) (filter (λ (x : ℕ × ℕ). test x.1)
    (cond yes ((first, k) ∷ yes_from (first + 1) vs ks) (yes_from (first + 1) vs ks)))) (ap said_yes (y v (inl refl)))
    ∙ by (test k) (told_from test told (first + 1) es vs ks (λ i. ap told (more first i) ∙ t (suc i)) (λ x i. y x (inr i)) (omega arith)
    (omega arith))
  where
    more : (n i : ℕ) → n + 1 + i ≡ n + suc i
    more n i = omega arith

    none : (n : ℕ) → n ≡ n + 0
    none n = omega arith

    by : (b : Bool) → flat_map (λ (x : ℕ × ℕ). told x.0) (filter (λ (x : ℕ × ℕ). test x.1) (yes_from (first + 1) vs ks)) ≡ picked test ks es
        → flat_map (λ (x : ℕ × ℕ). told x.0) (cond b ((first, k) ∷ filter (λ (x : ℕ × ℕ). test x.1) (yes_from (first + 1) vs ks))
        (filter (λ (x : ℕ × ℕ). test x.1) (yes_from (first + 1) vs ks))) ≡ cond b (e ++ picked test ks es) (picked test ks es)
    by true r = ap₂ (λ xs ys. xs ++ ys) (ap told (none first) ∙ t 0) r
    by false r = r

-- what the parts that said Yes at these servers are told
pub told_picked : (test : ℕ → Bool) (r : Reply) (effects : List (List Effect)) (l : Leading) → AreYes l.leader.votes
    → length l.at ≡ length l.leader.votes → length effects ≡ length l.leader.votes
    → flat_map (λ (x : ℕ × ℕ). told_effects (Commit r effects) x.0) (filter (λ (x : ℕ × ℕ). test x.1) (yes_from 0 l.leader.votes l.at))
    ≡ picked test l.at effects
told_picked test r effects l = told_from test (told_effects (Commit r effects)) 0 effects l.leader.votes l.at
    (λ i. ap (told_effects (Commit r effects)) (at i))
  where
    at : (i : ℕ) → 0 + i ≡ i
    at i = omega arith

-- ## Those of some files

part_goes : (goes : Effect → Bool) (b : Bool) (es : List Effect) (file : List ℕ)
    → ((e : Effect) → same (changed_file e) file ≡ true → goes e ≡ b) → filter goes (effects_on es file) ≡ cond b (effects_on es file) []
part_goes goes true [] file h = refl
part_goes goes false [] file h = refl
part_goes goes b (x ∷ xs) file h = at (same (changed_file x) file) refl (part_goes goes b xs file h)
  where
    on : (b : Bool) → filter goes (effects_on xs file) ≡ cond b (effects_on xs file) []
        → cond b (x ∷ filter goes (effects_on xs file)) (filter goes (effects_on xs file)) ≡ cond b (x ∷ effects_on xs file) []
    on true r = ap (λ es. x ∷ es) r
    on false r = r

    at : (t : Bool) → same (changed_file x) file ≡ t → filter goes (effects_on xs file) ≡ cond b (effects_on xs file) []
        → filter goes (cond t (x ∷ effects_on xs file) (effects_on xs file))
        ≡ cond b (cond t (x ∷ effects_on xs file) (effects_on xs file)) []
    at false e rest = rest
    at true e rest = ap (λ g. cond g (x ∷ filter goes (effects_on xs file)) (filter goes (effects_on xs file))) (h x e) ∙ on b rest

-- an effect on a part's file passes where the part's server does
abbrev PassTogether : (ℕ → Bool) → (Effect → Bool) → List Part → List ℕ → Type 0
PassTogether test goes parts at = (k : ℕ) (p : Part) (a : ℕ) → slice_get parts k ≡ Some p → slice_get at k ≡ Some a → (e : Effect)
    → same (changed_file e) p.file ≡ true → goes e ≡ test a

picked_pass : (test : ℕ → Bool) (goes : Effect → Bool) (es : List Effect) (parts : List Part) (at : List ℕ)
    → PassTogether test goes parts at → length at ≡ length parts
    → picked test at (map (λ (p : Part). effects_on es p.file) parts) ≡ filter goes (flat_map (λ (p : Part). effects_on es p.file) parts)
picked_pass test goes es [] [] h n = refl
picked_pass test goes es [] (a ∷ more) h n = absurd (omega arith)
picked_pass test goes es (p ∷ ps) [] h n = absurd (omega arith)
picked_pass test goes es (p ∷ ps) (a ∷ more) h n =
    by (test a) (picked_pass test goes es ps more (λ k q b f g. h (suc k) q b f g) (omega arith))
    ∙ ap (λ xs. xs ++ filter goes (flat_map (λ (p : Part). effects_on es p.file) ps))
    (sym (part_goes goes (test a) es p.file (h 0 p a refl refl)))
    ∙ sym (filter-append goes (effects_on es p.file) (flat_map (λ (p : Part). effects_on es p.file) ps))
  where
    by : (b : Bool) → picked test more (map (λ (p : Part). effects_on es p.file) ps)
        ≡ filter goes (flat_map (λ (p : Part). effects_on es p.file) ps)
        → cond b (effects_on es p.file ++ picked test more (map (λ (p : Part). effects_on es p.file) ps))
        (picked test more (map (λ (p : Part). effects_on es p.file) ps))
        ≡ cond b (effects_on es p.file) [] ++ filter goes (flat_map (λ (p : Part). effects_on es p.file) ps)
    by true r = ap (λ xs. effects_on es p.file ++ xs) r
    by false r = r

-- ## Parts that said Yes, and where they are

in_yes : (n i a : ℕ) (votes : Votes) (at : List ℕ) → AreYes votes → length at ≡ length votes → slice_get at i ≡ Some a
    → In (n + i, a) (yes_from n votes at)
in_yes n i a [] [] y e h = absurd (cc h)
in_yes n i a [] (k ∷ ks) y e h = absurd (omega arith)
in_yes n i a (v ∷ vs) [] y e h = absurd (cc h)
in_yes n zero a (v ∷ vs) (k ∷ ks) y e h =
    subst (λ b. In (n + 0, a) (cond b ((n, k) ∷ yes_from (n + 1) vs ks) (yes_from (n + 1) vs ks))) (sym (ap said_yes (y v (inl refl))))
    (inl (let q : k ≡ a = cc h in ap₂ (λ (x y : ℕ). let z : ℕ × ℕ = (x, y) in z) (same_number n) (sym q)))
  where
    same_number : (n : ℕ) → n + 0 ≡ n
    same_number n = omega arith
in_yes n (suc i) a (v ∷ vs) (k ∷ ks) y e h =
    subst (λ b. In (n + suc i, a) (cond b ((n, k) ∷ yes_from (n + 1) vs ks) (yes_from (n + 1) vs ks))) (sym (ap said_yes (y v (inl refl))))
    (inr (subst (λ (m : ℕ). In (m, a) (yes_from (n + 1) vs ks)) (more n i) (in_yes (n + 1) i a vs ks (λ x j. y x (inr j)) (omega arith) h)))
  where
    more : (n i : ℕ) → n + 1 + i ≡ n + suc i
    more n i = omega arith

out_yes : (n : ℕ) (x : ℕ × ℕ) (votes : Votes) (at : List ℕ) → In x (yes_from n votes at)
    → (i : ℕ) × ((x.0 ≡ n + i) × (slice_get at i ≡ Some x.1))
out_yes n x [] at j = absurd j
out_yes n x (v ∷ vs) [] j = absurd j
out_yes n x (v ∷ vs) (k ∷ ks) j = by (out_yes (n + 1) x vs ks) (said_yes v) j
  where
    first : (n : ℕ) → n ≡ n + 0
    first n = omega arith

    more : (n i : ℕ) → n + 1 + i ≡ n + suc i
    more n i = omega arith

    by : (In x (yes_from (n + 1) vs ks) → (i : ℕ) × ((x.0 ≡ n + 1 + i) × (slice_get ks i ≡ Some x.1))) → (b : Bool)
        → In x (cond b ((n, k) ∷ yes_from (n + 1) vs ks) (yes_from (n + 1) vs ks))
        → (i : ℕ) × ((x.0 ≡ n + i) × (slice_get (k ∷ ks) i ≡ Some x.1))
    by rest true (inl q) = (0, (ap (λ (y : ℕ × ℕ). y.0) q ∙ first n, ap (λ (y : ℕ × ℕ). Some y.1) (sym q)))
    by rest true (inr j) = let q = rest j in (suc q.0, (q.1.0 ∙ more n q.0, q.1.1))
    by rest false j = let q = rest j in (suc q.0, (q.1.0 ∙ more n q.0, q.1.1))

-- ## What goes to others

pub passes : {X : Type 0} (test : X → Bool) (x : X) (xs : List X) → In x (filter test xs) → test x ≡ true
passes test x [] i = absurd i
passes test x (y ∷ ys) i = by (test y) refl (passes test x ys) i
  where
    by : (b : Bool) → test y ≡ b → (In x (filter test ys) → test x ≡ true) → In x (cond b (y ∷ filter test ys) (filter test ys))
        → test x ≡ true
    by true e rest (inl q) = ap test q ∙ e
    by true e rest (inr j) = rest j
    by false e rest j = rest j

-- an effect on a part's file goes to others where the part is elsewhere
module _ (me : ℕ) (l : Leading) (uses : List Use) (w : IsWholeLeader l uses) (y : AreYes l.leader.votes) where
  goes_so : PassTogether (λ k. not (k == me)) (goes_from me l) l.leader.parts l.at
  goes_so k p a f g e s =
      by (not (a == me)) refl (list_any (λ (x : ℕ × ℕ). has_effect e (slice_get l.leader.parts x.0)) (elsewhere me l)) refl
    where
      start : (k : ℕ) → 0 + k ≡ k
      start k = omega arith

      there : In (k, a) (yes_from 0 l.leader.votes l.at)
      there = subst (λ (m : ℕ). In (m, a) (yes_from 0 l.leader.votes l.at)) (start k)
          (in_yes 0 k a l.leader.votes l.at y (w.asked ∙ sym w.votes) g)

      by : (b : Bool) → not (a == me) ≡ b → (t : Bool)
          → list_any (λ (x : ℕ × ℕ). has_effect e (slice_get l.leader.parts x.0)) (elsewhere me l) ≡ t → t ≡ b
      by true n true t = refl
      by false n false t = refl
      by true n false t =
          let none : has_effect e (slice_get l.leader.parts k)
          ≡ false = none_any (λ (x : ℕ × ℕ). has_effect e (slice_get l.leader.parts x.0)) (elsewhere me l) t (k, a)
          (In_filtered (λ (x : ℕ × ℕ). not (x.1 == me)) (yes_from 0 l.leader.votes l.at) (k, a) there n) in
          let wrong : true ≡ false = sym s ∙ ap (has_effect e) (sym f) ∙ none in
          absurd (cc)
      by false n true t =
          let q = any_In (λ (x : ℕ × ℕ). has_effect e (slice_get l.leader.parts x.0)) (elsewhere me l) t in
          let o = out_yes 0 q.0 l.leader.votes l.at
          (In-filter (λ (x : ℕ × ℕ). not (x.1 == me)) q.0 (yes_from 0 l.leader.votes l.at) q.1.0) in
          let away : not (q.0.1 == me) ≡ true = passes (λ (x : ℕ × ℕ). not (x.1 == me)) q.0 (yes_from 0 l.leader.votes l.at) q.1.0 in
          let number : q.0.0 ≡ o.0 = o.1.0 ∙ start o.0 in
          absurd (other o.0 q.0.1 (slice_get l.leader.parts o.0) refl
          (ap (λ m. has_effect e (slice_get l.leader.parts m)) (sym number) ∙ q.1.1) o.1.1 away (k == o.0) refl)
        where
          other : (j b : ℕ) (o : Option Part) → slice_get l.leader.parts j ≡ o → has_effect e (slice_get l.leader.parts j) ≡ true
              → slice_get l.at j ≡ Some b → not (b == me) ≡ true
              → (c : Bool) → (k == j) ≡ c → ⊥
          other j b None r h i away c m = let wrong : false ≡ true = ap (has_effect e) (sym r) ∙ h in absurd (cc)
          other j b (Some z) r h i away true m =
              let same_place : k ≡ j = eqb-true k j m in
              let both : Some a ≡ Some b = sym g ∙ ap (slice_get l.at) same_place ∙ i in
              let one : a ≡ b = cc in
              let wrong : false ≡ true = sym n ∙ ap (λ x. not (x == me)) one ∙ away in
              absurd (cc)
          other j b (Some z) r h i away false m =
              let its : same (changed_file e) z.file ≡ true = ap (has_effect e) (sym r) ∙ h in
              let apart : same p.file z.file ≡ false = part_files l.leader.op l.leader.file uses l.leader.mode k j p z m
              (ap (λ ps. slice_get ps k) (sym w.parts) ∙ f) (ap (λ ps. slice_get ps j) (sym w.parts) ∙ r) in
              let wrong : true ≡ false = sym its ∙ ap (λ x. same x z.file) (same_is (changed_file e) p.file s) ∙ apart in
              absurd (cc)

-- ## The law

twice : (b : Bool) → not (not b) ≡ b
twice true = refl
twice false = refl

pub commit_splits : CommitSplits
commit_splits me l uses path r effects w h s d =
    let es : List Effect = led_effects l.leader.op l.leader.file r in
    let y : AreYes l.leader.votes = commit_yes l.leader path r effects d in
    let is : effects ≡ map (λ (p : Part). effects_on es p.file) l.leader.parts = commit_effects l.leader path r effects d in
    let as_many : length effects ≡ length l.leader.votes = ap length is ∙ length-map l.leader.parts (λ (p : Part). effects_on es p.file)
    ∙ sym w.votes in
    let shared : flat_map (λ (p : Part). effects_on es p.file) l.leader.parts ≡ es =
    ap (flat_map (λ (p : Part). effects_on es p.file)) w.parts ∙ parts_share l.leader.op l.leader.file uses l.leader.mode r h s in
    let own : own_effects me l (Commit r effects) ≡ filter (λ e. not (goes_from me l e)) es =
    told_picked (λ k. k == me) r effects l y (w.asked ∙ sym w.votes) as_many
    ∙ ap (picked (λ k. k == me) l.at) is
    ∙ picked_pass (λ k. k == me) (λ e. not (goes_from me l e)) es l.leader.parts l.at
    (λ k p a f g e t. ap not (goes_so me l uses w y k p a f g e t) ∙ twice (a == me)) w.asked
    ∙ ap (filter (λ e. not (goes_from me l e))) shared in (
      λ m. ap (records_after_all m) own,
      told_picked (λ k. not (k == me)) r effects l y (w.asked ∙ sym w.votes) as_many
          ∙ ap (picked (λ k. not (k == me)) l.at) is
          ∙ picked_pass (λ k. not (k == me)) (goes_from me l) es l.leader.parts l.at (goes_so me l uses w y) w.asked
          ∙ ap (filter (goes_from me l)) shared,
    )

-- ## A cycle

cycle_makes_none : (o : Op) (file : List ℕ) → led_effects o file Cycle ≡ []
cycle_makes_none (op.Rename sdir sname ddir dname) file = refl
cycle_makes_none (op.Delete dir name) file = refl
cycle_makes_none o file = refl

-- no part is told any effect
pub cycle_tells_none : (l : Leader) (path : Option PathAnswer) (effects : List (List Effect)) (number : ℕ)
    → decision l path ≡ Commit Cycle effects → told_effects (Commit Cycle effects) number ≡ []
cycle_tells_none l path effects number d =
    ap (λ es. unwrap_or (slice_get es number) []) (commit_effects l path Cycle effects d
    ∙ ap (λ es. map (λ (p : Part). effects_on es p.file) l.parts) (cycle_makes_none l.op l.file))
    ∙ ap (λ (o : Option (List Effect)). unwrap_or o []) (slice_get-map (λ (p : Part). effects_on [] p.file) l.parts number)
    ∙ none (slice_get l.parts number)
  where
    none : (o : Option Part) → unwrap_or (option_map (λ (p : Part). effects_on [] p.file) o) [] ≡ []
    none None = refl
    none (Some p) = refl

pub cycle_changes_none : (me : ℕ) (l : Leading) (path : Option PathAnswer) (effects : List (List Effect))
    → decision l.leader path ≡ Commit Cycle effects → own_effects me l (Commit Cycle effects) ≡ []
cycle_changes_none me l path effects d = each (own_parts me l)
  where
    each : (parts : List (ℕ × ℕ)) → flat_map (λ (x : ℕ × ℕ). told_effects (Commit Cycle effects) x.0) parts ≡ []
    each [] = refl
    each (x ∷ xs) = ap₂ (λ es fs. es ++ fs) (cycle_tells_none l.leader path effects x.0 d) (each xs)
