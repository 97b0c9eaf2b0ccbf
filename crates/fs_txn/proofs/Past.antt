-- Decided effects go past others.
use Rattle.std.proofs.Common.{◌≡◌, Bool, true, false, not, List, [], ◌∷◌, ◌++◌, refl, ap, sym, ◌∙◌, inl, inr, cond}
use Rattle.fs_ident.specs.In.{In}
use Rattle.fs_field.specs.declared.effect.Effect.{Effect}
use Rattle.fs_record.specs.Applied.{records_after, records_after_all}
use Rattle.fs_record.specs.Records.{AreRecords, RecordMap}
use Rattle.fs_record.proofs.AllApplied.{after_all_kept, records_after_all-append}
use Rattle.fs_record.proofs.Kept.{after_kept}
use Rattle.fs_txn.specs.Decided.{AreApart, AreDecided, IsApart, SplitIsOneStep, going, held_with, staying}
use Rattle.fs_txn.proofs.Swaps.{goes_past}

-- one effect goes past all that are decided
one_past : (m : RecordMap) (ds : List Effect) (e : Effect) → AreRecords m → AreDecided ds → ((d : Effect) → In d ds → IsApart d e) → records_after_all (records_after m e) ds ≡ records_after (records_after_all m ds) e
one_past m [] e s k a = refl
one_past m (d ∷ ds) e s k a =
    ap (λ n. records_after_all n ds) (goes_past m d e (k d (inl refl)) (a d (inl refl)) s)
    ∙ one_past (records_after m d) ds e (after_kept m d s) (λ x i. k x (inr i)) (λ x i. a x (inr i))

pub all_past : (m : RecordMap) (decided es : List Effect) → AreRecords m → AreDecided decided → AreApart decided es → held_with decided (records_after_all m es) ≡ records_after_all (held_with decided m) es
all_past m ds [] s k a = refl
all_past m ds (e ∷ es) s k a =
    all_past (records_after m e) ds es (after_kept m e s) k (λ d x i j. a d x i (inr j))
    ∙ ap (λ n. records_after_all n es) (one_past m ds e s k (λ d i. a d e i (inl refl)))

pub commit_past : (m : RecordMap) (decided own remote : List Effect) → AreRecords m → AreDecided decided → AreApart decided own → held_with (decided ++ remote) (records_after_all m own) ≡ records_after_all (held_with decided m) (own ++ remote)
commit_past m ds own remote s k a =
    records_after_all-append (records_after_all m own) ds remote
    ∙ ap (λ n. records_after_all n remote) (all_past m ds own s k a)
    ∙ sym (records_after_all-append (records_after_all m ds) own remote)

pub decide_past : (m : RecordMap) (front its back : List Effect) → AreRecords m → AreDecided front → AreApart front its → held_with (front ++ back) (records_after_all m its) ≡ held_with (front ++ (its ++ back)) m
decide_past m front its back s k a =
    records_after_all-append (records_after_all m its) front back
    ∙ ap (λ n. records_after_all n back) (all_past m front its s k a)
    ∙ sym (records_after_all-append m front (its ++ back) ∙ records_after_all-append (records_after_all m front) its back)

-- ## Some go and some stay

-- in which order effects are done that are apart makes no difference
sorted : (m : RecordMap) (goes : Effect → Bool) (es : List Effect) → AreRecords m → AreDecided (going goes es) → AreApart (going goes es) (staying goes es) → records_after_all m (staying goes es ++ going goes es) ≡ records_after_all m es
sorted m goes [] s k a = refl
sorted m goes (e ∷ es) s k a =
    elim (goes e) as (λ b. AreDecided (cond b (e ∷ going goes es) (going goes es)) → AreApart (cond b (e ∷ going goes es) (going goes es)) (cond (not b) (e ∷ staying goes es) (staying goes es))
    → records_after_all m (cond (not b) (e ∷ staying goes es) (staying goes es) ++ cond b (e ∷ going goes es) (going goes es)) ≡ records_after_all (records_after m e) es) [
      | true ↦ λ l p.
          records_after_all-append m (staying goes es) (e ∷ going goes es)
          ∙ ap (λ n. records_after_all n (going goes es)) (all_past m (e ∷ []) (staying goes es) s (λ d i. l d (first_only d e (going goes es) i)) (λ d x i j. p d x (first_only d e (going goes es) i) j))
          ∙ sym (records_after_all-append (records_after m e) (staying goes es) (going goes es))
          ∙ sorted (records_after m e) goes es (after_kept m e s) (λ d i. l d (inr i)) (λ d x i j. p d x (inr i) j)
      | false ↦ λ l p. sorted (records_after m e) goes es (after_kept m e s) l (λ d x i j. p d x i (inr j))
    ] k a
  where
    first_only : (d e : Effect) (es : List Effect) → In d (e ∷ []) → In d (e ∷ es)
    first_only d e es (inl q) = inl q
    first_only d e es (inr z) = absurd z

pub split_past : SplitIsOneStep
split_past m decided es goes s k l a p =
    commit_past m decided (staying goes es) (going goes es) s k a
    ∙ sorted (held_with decided m) goes es (after_all_kept m decided s) l p
