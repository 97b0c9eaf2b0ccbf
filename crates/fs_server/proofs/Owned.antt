-- The effects of a decision on the parts that are here: what they take away may come last.
use Rattle.std.proofs.Common.{◌≡◌, ◌⊎◌, ◌==◌, ◌+◌, ◌<◌, ℕ, Bool, true, false, not, List, [], ◌∷◌, ◌++◌, refl, ap, sym, ◌∙◌, subst, cond, inl, inr, arith}
use Rattle.std.specs.Prelude.{Option, Some, None, option_map, unwrap_or, slice_get}
use Rattle.std.specs.List.{filter, flat_map, list_any}
use Rattle.std.proofs.lemmas.Bool.Decides.{nat_tests}
use Rattle.std.proofs.lemmas.Option.{slice_get-map}
use Rattle.fs_ident.specs.Ident.{same}
use Rattle.fs_ident.specs.In.{In}
use Rattle.fs_ident.proofs.Same.{same_self, unequal}
use Rattle.fs_ident.proofs.Standing.{In-both, In-filter}
use Rattle.fs_field.specs.declared.effect.Effect.{Effect}
use Rattle.fs_field.specs.declared.effect.Effect.TheVariants.{SetChild, SetParent, RemoveNode}
use Rattle.fs_field.specs.declared.path.PathAnswer.{PathAnswer}
use Rattle.fs_field.specs.declared.used.Part.{Part}
use Rattle.fs_field.specs.declared.used.Use.{Use}
use Rattle.fs_field.specs.After.{changed_file}
use Rattle.fs_model.specs.Asking.{home_of}
use Rattle.fs_model.specs.declared.op.Op.{Op}
use Rattle.fs_model.specs.declared.op.Op.TheVariants as op
use Rattle.fs_model.specs.declared.reply.Reply.{Reply}
use Rattle.fs_model.specs.declared.reply.Reply.TheVariants as reply
use Rattle.fs_record.specs.Applied.{is_undoable, records_after, records_after_all, takes_away}
use Rattle.fs_record.specs.LedEffects.{led_effects}
use Rattle.fs_record.specs.Records.{RecordMap}
use Rattle.fs_txn.specs.Decided.{AreDecided, IsDecided}
use Rattle.fs_txn.specs.Deciding.{commit, decision, effects_on, told_effects}
use Rattle.fs_txn.specs.Leading.{IsWholeLeader, own_effects, said_yes, yes_from}
use Rattle.fs_txn.specs.Parts.{led_files, part_at, parts_of, source_of, with_file}
use Rattle.fs_txn.specs.Ready.{records_decided}
use Rattle.fs_txn.specs.Votes.{Votes}
use Rattle.fs_txn.specs.declared.decision.Decision.{Decision}
use Rattle.fs_txn.specs.declared.leader.Leader.{Leader}
use Rattle.fs_txn.specs.declared.leading.Leading.{Leading}
use Rattle.fs_txn.proofs.HomeTold.{others_are_decided}
use Rattle.fs_txn.proofs.Parted.{decision_is, part_files}
use Rattle.fs_txn.proofs.Waiting.{in_their_order}

-- ## Effects of which all but the first are decided

-- the first can be taken back, or is decided as the others are
abbrev FirstOnly : List Effect → Type 0
FirstOnly [] = Unit {0}
FirstOnly (e ∷ es) = ((is_undoable e ≡ true) ⊎ IsDecided e) × AreDecided es

decided_first : (es : List Effect) → AreDecided es → FirstOnly es
decided_first [] k = tt
decided_first (e ∷ es) k = (inr (k e (inl refl)), λ d i. k d (inr i))

front_taken : (m : RecordMap) (e : Effect) (es : List Effect) → is_undoable e ≡ true → records_decided (e ∷ es) m ≡ records_decided es (records_after m e)
front_taken m e es u = ap
    (λ b. records_after_all (records_after_all m (cond b (e ∷ filter is_undoable es) (filter is_undoable es)))
    (cond (not b) (e ∷ filter takes_away es) (filter takes_away es))) u

in_order : (m : RecordMap) (es : List Effect) → FirstOnly es → records_decided es m ≡ records_after_all m es
in_order m [] k = refl
in_order m (e ∷ es) (inl u, k) = front_taken m e es u ∙ in_their_order (records_after m e) es k
in_order m (e ∷ es) (inr d, k) = in_their_order m (e ∷ es) (λ x i. elim i as (λ _. IsDecided x) [
  | inl q ↦ subst IsDecided (sym q) d
  | inr j ↦ k x j
])

decided_both : (es more : List Effect) → AreDecided es → AreDecided more → AreDecided (es ++ more)
decided_both es more k l d = In-both d es more (IsDecided d) (k d) (l d)

more_decided : (es more : List Effect) → FirstOnly es → AreDecided more → FirstOnly (es ++ more)
more_decided [] more k l = decided_first more l
more_decided (e ∷ es) more k l = (k.0, decided_both es more k.1 l)

some_decided : (test : Effect → Bool) (es : List Effect) → AreDecided es → AreDecided (filter test es)
some_decided test es k d i = k d (In-filter test d es i)

-- ## What the home is told

home_first : (o : Op) (file : List ℕ) → slice_get (led_files o file) 0 ≡ Some (home_of o)
home_first o file = at (list_any (λ f. same f (source_of o)) (home_of o ∷ [])) refl
  where
    stays : (b : Bool) (f : List ℕ) (fs : List (List ℕ)) → slice_get (cond b (home_of o ∷ fs) ((home_of o ∷ fs) ++ f ∷ [])) 0 ≡ Some (home_of o)
    stays true f fs = refl
    stays false f fs = refl

    at : (b : Bool) → list_any (λ f. same f (source_of o)) (home_of o ∷ []) ≡ b
        → slice_get (with_file file (cond b (home_of o ∷ []) (home_of o ∷ source_of o ∷ []))) 0 ≡ Some (home_of o)
    at true e = stays (list_any (λ f. same f file) (home_of o ∷ [])) file []
    at false e = stays (list_any (λ f. same f file) (home_of o ∷ source_of o ∷ [])) file (source_of o ∷ [])

home_effects : (o : Op) (file : List ℕ) (r : Reply) → FirstOnly (effects_on (led_effects o file r) (home_of o))
home_effects (op.Rename sdir sname ddir dname) file reply.Renamed =
    let rest : List Effect = SetChild sdir sname None ∷ SetParent file ddir dname ∷ [] in
    let k : AreDecided rest = λ d i. elim i as (λ _. IsDecided d) [
      | inl q ↦ subst IsDecided (sym q) tt
      | inr (inl q) ↦ subst IsDecided (sym q) tt
      | inr (inr z) ↦ absurd z
    ] in
    subst (λ b. FirstOnly (cond b (SetChild ddir dname (Some file) ∷ effects_on rest ddir) (effects_on rest ddir))) (sym (same_self ddir))
    (inl refl, some_decided (λ e. same (changed_file e) ddir) rest k)
home_effects (op.Delete dir name) file reply.Deleted =
    let all : List Effect = SetChild dir name None ∷ RemoveNode file ∷ [] in
    let k : AreDecided all = λ d i. elim i as (λ _. IsDecided d) [
      | inl q ↦ subst IsDecided (sym q) tt
      | inr (inl q) ↦ subst IsDecided (sym q) tt
      | inr (inr z) ↦ absurd z
    ] in
    decided_first (effects_on all dir) (some_decided (λ e. same (changed_file e) dir) all k)
home_effects o file r = tt

-- the part of this number is told the effects on its file
told_of : (l : Leader) (r : Reply) (number : ℕ) (o : Option Part) → slice_get l.parts number ≡ o
    → told_effects (commit l r) number ≡ unwrap_or (option_map (λ (p : Part). effects_on (led_effects l.op l.file r) p.file) o) []
told_of l r number o h =
    let on : Part → List Effect = λ p. effects_on (led_effects l.op l.file r) p.file in
    ap (λ (x : Option (List Effect)). unwrap_or x []) (slice_get-map on l.parts number ∙ ap (option_map on) h)

home_part : (l : Leader) (uses : List Use) → l.parts ≡ parts_of l.op l.file uses l.mode → slice_get l.parts 0 ≡ Some (part_at l.mode l.op l.file uses (home_of l.op))
home_part l uses h =
    ap (λ ps. slice_get ps 0) h
    ∙ slice_get-map (part_at l.mode l.op l.file uses) (led_files l.op l.file) 0
    ∙ ap (option_map (part_at l.mode l.op l.file uses)) (home_first l.op l.file)

home_told : (l : Leader) (uses : List Use) (p : Option PathAnswer) → l.parts ≡ parts_of l.op l.file uses l.mode → FirstOnly (told_effects (decision l p) 0)
home_told l uses p h = decision_is l (λ d. FirstOnly (told_effects d 0)) (λ e. tt)
    (λ r. subst FirstOnly (sym (told_of l r 0 (Some (part_at l.mode l.op l.file uses (home_of l.op))) (home_part l uses h))) (home_effects l.op l.file r)) p

-- ## What the others are told

abbrev OthersDecided : Decision → Type 0
OthersDecided d = (number : ℕ) → 0 < number → AreDecided (told_effects d number)

others_told : (l : Leader) (uses : List Use) (p : Option PathAnswer) → l.parts ≡ parts_of l.op l.file uses l.mode → OthersDecided (decision l p)
others_told l uses p h number lt = by (slice_get l.parts number) refl
  where
    by : (o : Option Part) → slice_get l.parts number ≡ o → AreDecided (told_effects (decision l p) number)
    by None e = decision_is l (λ d. AreDecided (told_effects d number)) (λ x d i. absurd i) (λ r d i. absurd (subst (In d) (told_of l r number None e) i)) p
    by (Some a) e =
        let home : Part = part_at l.mode l.op l.file uses (home_of l.op) in
        let other : same (home_of l.op) a.file ≡ false =
        part_files l.op l.file uses l.mode 0 number home a (unequal 0 number lt) (ap (λ ps. slice_get ps 0) (sym h) ∙ home_part l uses h) (ap (λ ps. slice_get ps number) (sym h) ∙ e) in
        others_are_decided l p number a e
        (part_files l.op l.file uses l.mode number 0 a home (turned_test number lt) (ap (λ ps. slice_get ps number) (sym h) ∙ e) (ap (λ ps. slice_get ps 0) (sym h) ∙ home_part l uses h))
      where
        turned_test : (n : ℕ) → 0 < n → (n == 0) ≡ false
        turned_test n h = grind (arith, nat_tests)

-- ## All that are here

abbrev told_here : ℕ → Decision → List (ℕ × ℕ) → List Effect
told_here me d parts = flat_map (λ (x : ℕ × ℕ). told_effects d x.0) (filter (λ (x : ℕ × ℕ). x.1 == me) parts)

one_decided : (me : ℕ) (d : Decision) (x : ℕ × ℕ) (xs : List (ℕ × ℕ)) → AreDecided (told_effects d x.0) → AreDecided (told_here me d xs)
    → AreDecided (told_here me d (x ∷ xs))
one_decided me d x xs k l = at (x.1 == me)
  where
    at : (b : Bool) → AreDecided (flat_map (λ (y : ℕ × ℕ). told_effects d y.0)
        (cond b (x ∷ filter (λ (y : ℕ × ℕ). y.1 == me) xs) (filter (λ (y : ℕ × ℕ). y.1 == me) xs)))
    at true = decided_both (told_effects d x.0) (told_here me d xs) k l
    at false = l

later_decided : (me : ℕ) (d : Decision) (number : ℕ) (votes : Votes) (at : List ℕ) → OthersDecided d → 0 < number
    → AreDecided (told_here me d (yes_from number votes at))
later_decided me d number [] at k lt = λ e i. absurd i
later_decided me d number (v ∷ vs) [] k lt = λ e i. absurd i
later_decided me d number (v ∷ vs) (s ∷ ss) k lt = by (said_yes v) (later_decided me d (number + 1) vs ss k (omega arith))
  where
    by : (b : Bool) → AreDecided (told_here me d (yes_from (number + 1) vs ss))
        → AreDecided (told_here me d (cond b ((number, s) ∷ yes_from (number + 1) vs ss) (yes_from (number + 1) vs ss)))
    by false rest = rest
    by true rest = one_decided me d (number, s) (yes_from (number + 1) vs ss) (k number lt) rest

home_more : (me : ℕ) (d : Decision) (s : ℕ) (xs : List (ℕ × ℕ)) → FirstOnly (told_effects d 0) → AreDecided (told_here me d xs)
    → FirstOnly (told_here me d ((0, s) ∷ xs))
home_more me d s xs k l = at (s == me)
  where
    at : (b : Bool) → FirstOnly (flat_map (λ (y : ℕ × ℕ). told_effects d y.0)
        (cond b ((0, s) ∷ filter (λ (y : ℕ × ℕ). y.1 == me) xs) (filter (λ (y : ℕ × ℕ). y.1 == me) xs)))
    at true = more_decided (told_effects d 0) (told_here me d xs) k l
    at false = decided_first (told_here me d xs) l

all_here : (me : ℕ) (d : Decision) (votes : Votes) (at : List ℕ) → FirstOnly (told_effects d 0) → OthersDecided d
    → FirstOnly (told_here me d (yes_from 0 votes at))
all_here me d [] at k l = tt
all_here me d (v ∷ vs) [] k l = tt
all_here me d (v ∷ vs) (s ∷ ss) k l = by (said_yes v) (later_decided me d 1 vs ss l (omega arith))
  where
    by : (b : Bool) → AreDecided (told_here me d (yes_from 1 vs ss)) → FirstOnly (told_here me d (cond b ((0, s) ∷ yes_from 1 vs ss) (yes_from 1 vs ss)))
    by false rest = decided_first (told_here me d (yes_from 1 vs ss)) rest
    by true rest = home_more me d s (yes_from 1 vs ss) k rest

-- what a leader's own parts take away may come behind the rest
pub own_order : (m : RecordMap) (me : ℕ) (l : Leading) (uses : List Use) (p : Option PathAnswer) → IsWholeLeader l uses
    → records_decided (own_effects me l (decision l.leader p)) m ≡ records_after_all m (own_effects me l (decision l.leader p))
own_order m me l uses p w =
    let d : Decision = decision l.leader p in
    in_order m (own_effects me l d) (all_here me d l.leader.votes l.at (home_told l.leader uses p w.parts) (others_told l.leader uses p w.parts))
