-- New base values.
use Rattle.std.proofs.Common.{◌≡◌, ℕ, ◌+◌, ◌<◌, ◌||◌, Bool, true, false, List, [], ◌∷◌, ◌++◌, zero, suc, refl, ap, cond, length, get_or, take, drop, map, arith, sym, ◌∙◌}
use Rattle.std.specs.Prelude.{Option, None, unwrap_or, Result, OnOk, OnErr}
use Rattle.std.specs.List.{list_any}
use Rattle.std.proofs.lemmas.List.{take_more, map-append, length-take}
use Rattle.fs_ident.proofs.Booleans.{neither}
use Rattle.fs_ident.specs.declared.actor.Session.{Session}
use Rattle.fs_field.specs.declared.effect.Effect.{Effect}
use Rattle.fs_field.specs.declared.field.Field.{Field}
use Rattle.fs_field.specs.declared.value.Value.{Value}
use Rattle.fs_field.specs.After.{touches}
use Rattle.fs_field.proofs.Untouched.{value_stays}
use Rattle.fs_field.specs.Field.{file_of}
use Rattle.fs_view.specs.declared.view_lease.ViewLease.{ViewLease}
use Rattle.fs_view.specs.declared.view_lease.Standing.{Standing}
use Rattle.fs_view.specs.declared.view_lease.Standing.TheVariants.{Held, Pinned, Leaving}
use Rattle.fs_view.specs.ViewLease.{makes, is_pending, number_of}
use Rattle.fs_view.specs.View.{View, are_distinct, value_after_all, value_after_log, base_after, below_after, knowing, admitted_front}
use Rattle.fs_ident.specs.declared.memory.Memory.{Memory}
use Rattle.fs_view.proofs.Places.{distinct_map, distinct_mapped}
use Rattle.fs_view.specs.Admit.{knowing_all, base_after_log, below_after_log, with_base, with_bases}

-- effects that do not touch the field leave its value
pub untouched_by_all : (s : Session) (field : Field) (v : Value) (effects : List Effect) → list_any (λ e. touches e field) effects ≡ false → value_after_all s field v effects ≡ v
untouched_by_all s field v [] h = refl
untouched_by_all s field v (e ∷ es) h =
    let q : (touches e field ≡ false) × (list_any (λ x. touches x field) es ≡ false) = neither (touches e field) _ h in
    ap (λ w. value_after_all s field w es) (value_stays s field v e q.0) ∙ untouched_by_all s field v es q.1

pub untouched_by_log : (s : Session) (field : Field) (v : Value) (log : List (List Effect)) → list_any (λ es. list_any (λ e. touches e field) es) log ≡ false → value_after_log s field v log ≡ v
untouched_by_log s field v [] h = refl
untouched_by_log s field v (es ∷ log) h =
    let q : (list_any (λ e. touches e field) es ≡ false) × (list_any (λ x. list_any (λ e. touches e field) x) log ≡ false) = neither (list_any (λ e. touches e field) es) _ h in
    ap (λ w. value_after_log s field w log) (untouched_by_all s field v es q.0) ∙ untouched_by_log s field v log q.1

-- ## What a lease comes to

abbrev pub kept : Standing → Value → Bool → Option (List ℕ) → ViewLease
kept st base recalled below = record { standing = st; base = base; recalled = recalled; below = below }

either : (a b : Bool) (x : Option (List ℕ)) → cond b None (cond a None x) ≡ cond (a || b) None x
either true true x = refl
either true false x = refl
either false true x = refl
either false false x = refl

pub knows : (s : Session) (log : List (List Effect)) (st : Standing) (base : Value) (recalled : Bool) (below : Option (List ℕ)) → knowing_all s log (kept st base recalled below) ≡ kept st (base_after_log s log st base) recalled (below_after_log log st below)
knows s [] (Held l) base recalled below = refl
knows s [] (Pinned u) base recalled below = refl
knows s [] (Leaving l) base recalled below = refl
knows s (es ∷ log) (Held l) base recalled below =
    knows s log (Held l) (base_after s es (Held l) base) recalled (below_after es (Held l) below)
    ∙ ap (λ x. kept (Held l) (value_after_log s l.field (value_after_all s l.field base es) log) recalled x) (either (list_any (makes (file_of l.field)) es) (is_pending (file_of l.field) log) below)
knows s (es ∷ log) (Pinned u) base recalled below =
    knows s log (Pinned u) (base_after s es (Pinned u) base) recalled (below_after es (Pinned u) below)
    ∙ ap (λ x. kept (Pinned u) (value_after_log s u.lease.field (value_after_all s u.lease.field base es) log) recalled x) (either (list_any (makes (file_of u.lease.field)) es) (is_pending (file_of u.lease.field) log) below)
knows s (es ∷ log) (Leaving l) base recalled below = knows s log (Leaving l) base recalled below

-- one lease more gets its base value
more : (log : List (List Effect)) (ks : List ViewLease) (bs : List (Option Value)) (k : ViewLease) (b : Option Value) → length bs ≡ length ks → with_bases log (ks ++ k ∷ []) (bs ++ b ∷ []) ≡ with_bases log ks bs ++ with_base log k b ∷ []
more log [] [] k b h = refl
more log [] (b' ∷ bs) k b h = absurd (cc)
more log (k' ∷ ks) [] k b h = absurd (cc)
more log (k' ∷ ks) (b' ∷ bs) k b h = ap (λ rest. with_base log k' b' ∷ rest) (more log ks bs k b (cc))

with_base_is : (s : Session) (log : List (List Effect)) (k : ViewLease) (b : Option Value) → unwrap_or b k.base ≡ base_after_log s log k.standing k.base → with_base log k b ≡ knowing_all s log k
with_base_is s log k b e = ap (λ (v : Value). kept k.standing v k.recalled (below_after_log log k.standing k.below)) e ∙ sym (knows s log k.standing k.base k.recalled k.below)

pub one_more : (s : Session) (log : List (List Effect)) (ks : List ViewLease) (i : ℕ) (k : ViewLease) (bs : List (Option Value)) (b : Option Value) → i < length ks → k ≡ get_or ks i k → length bs ≡ i → with_bases log (take i ks) bs ≡ map (knowing_all s log) (take i ks)
    → unwrap_or b k.base ≡ base_after_log s log k.standing k.base
    → with_bases log (take (i + 1) ks) (bs ++ b ∷ []) ≡ map (knowing_all s log) (take (i + 1) ks)
one_more s log ks i k bs b h here each after e =
    let n : length bs ≡ length (take i ks) = omega (arith, length-take i ks) in
    let t : take (i + 1) ks ≡ take i ks ++ k ∷ [] = take_more ks i k h ∙ ap (λ j. take i ks ++ j ∷ []) (sym here) in
    rw t (more log (take i ks) bs k b n ∙ (ap (λ rest. rest ++ with_base log k b ∷ []) after ∙ (ap (λ j. map (knowing_all s log) (take i ks) ++ j ∷ []) (with_base_is s log k b e) ∙ sym (map-append (knowing_all s log) (take i ks) (k ∷ [])))))

-- ## Several entries at the front at once

all_still : (s : Session) (ks : List ViewLease) → map (knowing_all s []) ks ≡ ks
all_still s [] = refl
all_still s (k ∷ ks) = ap (λ rest. k ∷ rest) (all_still s ks)

all_then : (s : Session) (es : List Effect) (log : List (List Effect)) (ks : List ViewLease) → map (knowing_all s log) (map (knowing s es) ks) ≡ map (knowing_all s (es ∷ log)) ks
all_then s es log [] = refl
all_then s es log (k ∷ ks) = ap (λ rest. knowing_all s log (knowing s es k) ∷ rest) (all_then s es log ks)

abbrev pub viewed : Session → List ViewLease → List (List Effect) → View
viewed s ks log = record { session = s; leases = ks; pending = log }

front_of : (n : ℕ) (s : Session) (ks : List ViewLease) (log : List (List Effect)) → admitted_front n (viewed s ks log) ≡ viewed s (map (knowing_all s (take n log)) ks) (drop n log)
front_of zero s ks log = ap (λ xs. viewed s xs log) (sym (all_still s ks))
front_of (suc n) s ks [] = front_of n s ks [] ∙ nothing n
  where
    nothing : (n : ℕ) → viewed s (map (knowing_all s (take n [])) ks) (drop n []) ≡ viewed s (map (knowing_all s []) ks) []
    nothing zero = refl
    nothing (suc n) = refl
front_of (suc n) s ks (es ∷ log) = front_of n s (map (knowing s es) ks) log ∙ ap (λ xs. viewed s xs (drop n log)) (all_then s es (take n log) ks)

-- ## Numbers stay

same_number : (s : Session) (log : List (List Effect)) (k : ViewLease) → number_of (knowing_all s log k).standing ≡ number_of k.standing
same_number s log k = ap (λ (x : ViewLease). number_of x.standing) (knows s log k.standing k.base k.recalled k.below)

pub still_distinct : (r : Result (Unit {0}) Memory) (s : Session) (log : List (List Effect)) (old new : List ViewLease) → OnOk r (new ≡ map (knowing_all s log) old) → OnErr r (new ≡ old) → are_distinct old ≡ true → are_distinct new ≡ true
still_distinct r s log old new ok err d = distinct_mapped r old new (knowing_all s log) (same_number s log) ok err d

pub known_distinct : (s : Session) (log : List (List Effect)) (old new : List ViewLease) → new ≡ map (knowing_all s log) old → are_distinct old ≡ true → are_distinct new ≡ true
known_distinct s log old new e d = ap are_distinct e ∙ (distinct_map (knowing_all s log) (same_number s log) old ∙ d)

-- ## The front of the entries

pub front_at : (n : ℕ) (v : View) (s : Session) (old new : List ViewLease) (log rest : List (List Effect)) → viewed s old log ≡ v → new ≡ map (knowing_all s (take n log)) old → rest ≡ drop n log → viewed s new rest ≡ admitted_front n v
front_at n v s old new log rest is e f = ap (λ xs. viewed s xs rest) e ∙ (ap (λ xs. viewed s (map (knowing_all s (take n log)) old) xs) f ∙ (sym (front_of n s old log) ∙ ap (admitted_front n) is))
