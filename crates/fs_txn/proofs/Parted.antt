-- Effects of two parts are on two files.
use Rattle.std.proofs.Common.{◌≡◌, ◌==◌, ◌&&◌, ℕ, zero, suc, Bool, true, false, List, [], ◌∷◌, ◌++◌, refl, sym, ap, ◌∙◌, subst, cond, not, inl, inr}
use Rattle.std.specs.Prelude.{◌||◌, Option, Some, None, option_map, unwrap_or, slice_get}
use Rattle.std.specs.List.{list_any}
use Rattle.std.proofs.lemmas.Option.{slice_get-map}
use Rattle.fs_ident.specs.Ident.{same}
use Rattle.fs_ident.specs.In.{In}
use Rattle.fs_ident.proofs.Booleans.{both, first, second, joined}
use Rattle.fs_ident.proofs.Same.{itself, same_is, same_self}
use Rattle.fs_field.specs.After.{changed_file}
use Rattle.fs_field.specs.declared.effect.Effect.{Effect}
use Rattle.fs_field.specs.declared.path.PathAnswer.{PathAnswer}
use Rattle.fs_field.specs.declared.path.PathAnswer.TheVariants.{Path, Wanted, Frozen}
use Rattle.fs_field.specs.declared.used.Part.{Part}
use Rattle.fs_field.specs.declared.used.Use.{Use}
use Rattle.fs_model.specs.Asking.{home_of}
use Rattle.fs_model.specs.declared.op.Op.{Op}
use Rattle.fs_model.specs.declared.reply.Reply.{Reply}
use Rattle.fs_model.specs.declared.reply.Reply.TheVariants as reply
use Rattle.fs_record.specs.LedEffects.{led_effects}
use Rattle.fs_record.specs.declared.led_end.LedEnd.{LedEnd}
use Rattle.fs_txn.specs.Decided.{AreApart, IsApart}
use Rattle.fs_txn.specs.Deciding.{agreed, by_files, by_path, commit, decision, effects_on, first_end, has_file, needs_path, reply_of, told_effects, unless_ended}
use Rattle.fs_txn.specs.Parts.{led_files, part_at, parts_of, source_of, with_file}
use Rattle.fs_txn.specs.declared.decision.Decision.{Decision}
use Rattle.fs_txn.specs.declared.decision.Decision.TheVariants.{Abort}
use Rattle.fs_txn.specs.declared.leader.Leader.{Leader}
use Rattle.fs_txn.specs.declared.mode.Mode2.{Mode2}
use Rattle.fs_txn.specs.declared.mode.Mode2.TheVariants.{Plain, Freeze, Check}

-- ## What a decision can be

-- what holds of every commit of the leader, and of every abort, holds of its decision
module _ (l : Leader) (P : Decision → Type 0) (aborts : (e : LedEnd) → P (Abort e)) (commits : (r : Reply) → P (commit l r)) where
  by_files_is : (mode : Mode2) (b : Bool) → P (by_files l mode b)
  by_files_is Check true = commits reply.Cycle
  by_files_is Check false = aborts _
  by_files_is Plain true = aborts _
  by_files_is Plain false = commits reply.Renamed
  by_files_is Freeze true = aborts _
  by_files_is Freeze false = commits reply.Renamed

  by_path_is : (p : Option PathAnswer) → P (by_path l p)
  by_path_is None = aborts _
  by_path_is (Some (Path files)) = by_files_is l.mode (has_file files l.file)
  by_path_is (Some (Wanted file parent)) = aborts _
  by_path_is (Some (Frozen file txn)) = aborts _

  agreed_is : (p : Option PathAnswer) → P (agreed l p)
  agreed_is p = either (needs_path l.mode l.op) where
    either : (b : Bool) → P (cond b (by_path l p) (commit l (reply_of l.op)))
    either true = by_path_is p
    either false = commits (reply_of l.op)

  pub decision_is : (p : Option PathAnswer) → P (decision l p)
  decision_is p = either (first_end l.votes) where
    either : (o : Option LedEnd) → P (unless_ended o (agreed l p))
    either None = agreed_is p
    either (Some e) = aborts e

-- ## Effects on a file

on_file : (es : List Effect) (f : List ℕ) (e : Effect) → In e (effects_on es f) → In e es × (same (changed_file e) f ≡ true)
on_file [] f e i = absurd i
on_file (x ∷ xs) f e i = by (same (changed_file x) f) refl (on_file xs f e) i
  where
    by : (b : Bool) → same (changed_file x) f ≡ b → (In e (effects_on xs f) → In e xs × (same (changed_file e) f ≡ true)) → In e (cond b (x ∷ effects_on xs f) (effects_on xs f)) → In e (x ∷ xs) × (same (changed_file e) f ≡ true)
    by true t rest (inl q) = (inl q, ap (λ y. same (changed_file y) f) q ∙ t)
    by true t rest (inr j) = let r = rest j in (inr r.0, r.1)
    by false t rest j = let r = rest j in (inr r.0, r.1)

-- the effects that a part is told
told_at : (l : Leader) (r : Reply) (k : ℕ) (o : Option Part) → slice_get l.parts k ≡ o
    → told_effects (commit l r) k ≡ unwrap_or (option_map (λ (p : Part). effects_on (led_effects l.op l.file r) p.file) o) []
told_at l r k o h = ap (λ (x : Option (List Effect)). unwrap_or x []) (slice_get-map (λ (p : Part). effects_on (led_effects l.op l.file r) p.file) l.parts k ∙ ap (option_map (λ (p : Part). effects_on (led_effects l.op l.file r) p.file)) h)

-- each is on the part's file, and of the operation
abbrev pub AreOn : Leader → ℕ → Part → Decision → Type 0
AreOn l k a d = (e : Effect) → In e (told_effects d k) → ((r : Reply) × In e (led_effects l.op l.file r)) × (same (changed_file e) a.file ≡ true)

pub told_are_on : (l : Leader) (k : ℕ) (a : Part) (p : Option PathAnswer) → slice_get l.parts k ≡ Some a → AreOn l k a (decision l p)
told_are_on l k a p h = decision_is l (AreOn l k a) (λ x e i. absurd i)
    (λ r e i. let q = on_file (led_effects l.op l.file r) a.file e (subst (In e) (told_at l r k (Some a) h) i) in ((r, q.0), q.1)) p

-- what is no part is told nothing
told_none : (l : Leader) (k : ℕ) (p : Option PathAnswer) → slice_get l.parts k ≡ None → told_effects (decision l p) k ≡ []
told_none l k p h = decision_is l (λ d. told_effects d k ≡ []) (λ x. refl) (λ r. told_at l r k None h) p

-- ## Different files

pub parts_apart : (l : Leader) (p : Option PathAnswer) (j k : ℕ) → ((a b : Part) → slice_get l.parts j ≡ Some a → slice_get l.parts k ≡ Some b → same a.file b.file ≡ false)
    → AreApart (told_effects (decision l p) j) (told_effects (decision l p) k)
parts_apart l p j k differ d e i i2 = by (slice_get l.parts j) (slice_get l.parts k) refl refl
  where
    by : (x y : Option Part) → slice_get l.parts j ≡ x → slice_get l.parts k ≡ y → IsApart d e
    by None y f g = absurd (subst (In d) (told_none l j p f) i)
    by (Some a) None f g = absurd (subst (In e) (told_none l k p g) i2)
    by (Some a) (Some b) f g = λ s.
        let x : changed_file d ≡ a.file = same_is (changed_file d) a.file (told_are_on l j a p f d i).1 in
        let y : changed_file e ≡ b.file = same_is (changed_file e) b.file (told_are_on l k b p g e i2).1 in
        let z : a.file ≡ b.file = sym x ∙ s ∙ y in
        let wrong : true ≡ false = sym (same_self b.file) ∙ ap (λ f. same f b.file) (sym z) ∙ differ a b f g in
        absurd (cc wrong)

-- ## The files of the parts

-- no file stands twice
abbrev pub are_distinct : List (List ℕ) → Bool
are_distinct [] = true
are_distinct (f ∷ fs) = not (list_any (λ g. same g f) fs) && are_distinct fs

pub turned : (a b : List ℕ) → same a b ≡ false → same b a ≡ false
turned a b h = by (same b a) refl
  where
    by : (t : Bool) → same b a ≡ t → t ≡ false
    by true e = let wrong : true ≡ false = sym (same_self a) ∙ ap (λ f. same a f) (sym (same_is b a e)) ∙ h in absurd (cc wrong)
    by false e = refl

no_more : (f file : List ℕ) (fs : List (List ℕ)) → list_any (λ g. same g f) fs ≡ false → same file f ≡ false → list_any (λ g. same g f) (fs ++ file ∷ []) ≡ false
no_more f file [] h n = ap (λ b. b || false) n
no_more f file (g ∷ gs) h n = by (same g f) (λ e. no_more f file gs e n) h
  where
    by : (b : Bool) → (list_any (λ g. same g f) gs ≡ false → list_any (λ g. same g f) (gs ++ file ∷ []) ≡ false) → (b || list_any (λ g. same g f) gs) ≡ false → (b || list_any (λ g. same g f) (gs ++ file ∷ [])) ≡ false
    by true rest e = absurd (cc e)
    by false rest e = rest e

one_more : (file : List ℕ) (fs : List (List ℕ)) → are_distinct fs ≡ true → list_any (λ f. same f file) fs ≡ false → are_distinct (fs ++ file ∷ []) ≡ true
one_more file [] d h = refl
one_more file (f ∷ fs) d h = by (same f file) (list_any (λ g. same g f) fs) refl refl (one_more file fs) h (both (not (list_any (λ g. same g f) fs)) (are_distinct fs) d)
  where
    by : (b t : Bool) → same f file ≡ b → list_any (λ g. same g f) fs ≡ t → (are_distinct fs ≡ true → list_any (λ f. same f file) fs ≡ false → are_distinct (fs ++ file ∷ []) ≡ true) → (b || list_any (λ g. same g file) fs) ≡ false → (not t ≡ true) × (are_distinct fs ≡ true) → (not (list_any (λ g. same g f) (fs ++ file ∷ [])) && are_distinct (fs ++ file ∷ [])) ≡ true
    by true t e g rest h d = absurd (cc h)
    by false true e g rest h d = absurd (cc d.0)
    by false false e g rest h d = joined (not (list_any (λ g. same g f) (fs ++ file ∷ []))) (are_distinct (fs ++ file ∷ [])) (ap not (no_more f file fs g (turned f file e))) (rest d.1 h)

with_file_distinct : (file : List ℕ) (fs : List (List ℕ)) → are_distinct fs ≡ true → are_distinct (with_file file fs) ≡ true
with_file_distinct file fs d = by (list_any (λ f. same f file) fs) refl
  where
    by : (b : Bool) → list_any (λ f. same f file) fs ≡ b → are_distinct (cond b fs (fs ++ file ∷ [])) ≡ true
    by true e = d
    by false e = one_more file fs d e

files_distinct : (o : Op) (file : List ℕ) → are_distinct (led_files o file) ≡ true
files_distinct o file = with_file_distinct file (with_file (source_of o) (home_of o ∷ [])) (with_file_distinct (source_of o) (home_of o ∷ []) refl)

none_here : (f : List ℕ) (fs : List (List ℕ)) (k : ℕ) (g : List ℕ) → list_any (λ x. same x f) fs ≡ false → slice_get fs k ≡ Some g → same g f ≡ false
none_here f [] k g h e = absurd (cc e)
none_here f (x ∷ xs) zero g h e = by (same x f) refl h
  where
    by : (b : Bool) → same x f ≡ b → (b || list_any (λ y. same y f) xs) ≡ false → same g f ≡ false
    by true t h = absurd (cc h)
    by false t h = let q : x ≡ g = cc e in ap (λ y. same y f) (sym q) ∙ t
none_here f (x ∷ xs) (suc k) g h e = by (same x f) (λ h. none_here f xs k g h e) h
  where
    by : (b : Bool) → (list_any (λ y. same y f) xs ≡ false → same g f ≡ false) → (b || list_any (λ y. same y f) xs) ≡ false → same g f ≡ false
    by true rest h = absurd (cc h)
    by false rest h = rest h

not_is : (b : Bool) → not b ≡ true → b ≡ false
not_is true h = absurd (cc h)
not_is false h = refl

two_places : (fs : List (List ℕ)) (j k : ℕ) (f g : List ℕ) → are_distinct fs ≡ true → (j ≡ k → ⊥) → slice_get fs j ≡ Some f → slice_get fs k ≡ Some g → same f g ≡ false
two_places [] j k f g d n x y = absurd (cc x)
two_places (z ∷ zs) zero zero f g d n x y = absurd (n refl)
two_places (z ∷ zs) zero (suc k) f g d n x y =
    let q : z ≡ f = cc x in
    let none : list_any (λ w. same w z) zs ≡ false = not_is (list_any (λ w. same w z) zs) (first (not (list_any (λ w. same w z) zs)) (are_distinct zs) d) in
    ap (λ w. same w g) (sym q) ∙ turned g z (none_here z zs k g none y)
two_places (z ∷ zs) (suc j) zero f g d n x y =
    let q : z ≡ g = cc y in
    let none : list_any (λ w. same w z) zs ≡ false = not_is (list_any (λ w. same w z) zs) (first (not (list_any (λ w. same w z) zs)) (are_distinct zs) d) in
    ap (λ w. same f w) (sym q) ∙ none_here z zs j f none x
two_places (z ∷ zs) (suc j) (suc k) f g d n x y = two_places zs j k f g (second (not (list_any (λ w. same w z) zs)) (are_distinct zs) d) (λ e. n (ap suc e)) x y

file_at : (o : Op) (file : List ℕ) (uses : List Use) (mode : Mode2) (k : ℕ) (a : Part) → slice_get (parts_of o file uses mode) k ≡ Some a → slice_get (led_files o file) k ≡ Some a.file
file_at o file uses mode k a h = by (slice_get (led_files o file) k) refl (sym (slice_get-map (part_at mode o file uses) (led_files o file) k) ∙ h)
  where
    by : (x : Option (List ℕ)) → slice_get (led_files o file) k ≡ x → option_map (part_at mode o file uses) x ≡ Some a → x ≡ Some a.file
    by None e q = absurd (cc q)
    by (Some f) e q = let r : part_at mode o file uses f ≡ a = cc q in ap (λ (p : Part). Some p.file) r

apart_is : (j k : ℕ) → (j == k) ≡ false → j ≡ k → ⊥
apart_is j k n e = let wrong : true ≡ false = sym (itself k) ∙ ap (λ m. m == k) (sym e) ∙ n in absurd (cc wrong)

pub part_files : (o : Op) (file : List ℕ) (uses : List Use) (mode : Mode2) (j k : ℕ) (a b : Part) → (j == k) ≡ false
    → slice_get (parts_of o file uses mode) j ≡ Some a → slice_get (parts_of o file uses mode) k ≡ Some b → same a.file b.file ≡ false
part_files o file uses mode j k a b n x y = two_places (led_files o file) j k a.file b.file (files_distinct o file) (apart_is j k n) (file_at o file uses mode j a x) (file_at o file uses mode k b y)

pub own_parts_apart : (l : Leader) (uses : List Use) (p : Option PathAnswer) (j k : ℕ) → l.parts ≡ parts_of l.op l.file uses l.mode → (j == k) ≡ false
    → AreApart (told_effects (decision l p) j) (told_effects (decision l p) k)
own_parts_apart l uses p j k h n = parts_apart l p j k (λ a b x y. part_files l.op l.file uses l.mode j k a b n (ap (λ ps. slice_get ps j) (sym h) ∙ x) (ap (λ ps. slice_get ps k) (sym h) ∙ y))
