-- What begins with a prefix stands together, and a walk over it tells what goes.
use Rattle.std.proofs.Common.{◌≡◌, ◌∙◌, ℕ, List, [], ◌∷◌, ◌++◌, Bool, true, false, refl, ap, sym, cond, inl, inr, append_assoc, arith}
use Rattle.std.specs.Prelude.{None, not, ◌&&◌, nat_eq, unwrap_or}
use Rattle.std.specs.List.{filter}
use Rattle.std.specs.List.Sorted.{IsStrictlySortedBy}
use Rattle.std.specs.Map.{keys_of}
use Rattle.std.specs.BTreeMap.{BTreeMap}
use Rattle.std.specs.BTreeMap.Range.{entries_between}
use Rattle.std.specs.declared.ops.Bound.TheVariants.{Included, Unbounded}
use Rattle.std.specs.Ordering.{nat_cmp, is_le, ordering_then, ordering_reverse}
use Rattle.std.specs.Cmp.{nat_cmp_total}
use Rattle.std.specs.Cmp.Lexicographic.{slice_cmp, nat_list_cmp_total}
use Rattle.std.specs.FinMap.{get, entries, from_entries, get-entries, get-from_entries, entries_sorted, is_sorted, nat_cmp-IsAntisymmetric}
use Rattle.std.specs.FinMap.Entries.{below_all, find-where_key}
use Rattle.std.specs.declared.cmp.Ordering.{Ordering}
use Rattle.std.specs.declared.cmp.Ordering.TheVariants.{Less, Equal, Greater}
use Rattle.std.proofs.lemmas.Cmp.{tied_itself}
use Rattle.std.proofs.lemmas.Bool.Decides.{nat_tests}
use Rattle.fs_ident.specs.Maps.{map_of}
use Rattle.fs_ident.specs.Ordered.{Keyed}
use Rattle.fs_ident.proofs.Booleans.{first, second, joined, less, holds}
use Rattle.fs_ident.proofs.MapsOf.{anti, map_of_entries}
use Rattle.fs_map.specs.Map.{begins, gives, told_of}
use Rattle.fs_map.proofs.Prefixes.{prefix_first, number_is}
use Rattle.fs_record.specs.declared.record.Record.{Record}
use Rattle.fs_record.specs.Records.{RecordMap}
use Rattle.fs_record.specs.Moving.{records_given, records_left}
use Rattle.fs_record.specs.Walk.{given_from}

abbrev cmp : List ℕ → List ℕ → Ordering
cmp = slice_cmp nat_cmp

-- ## Together

number_same : (x y : ℕ) → x ≡ y → nat_eq x y ≡ true
number_same x y e = grind (arith, nat_tests)

-- from a prefix on, what comes before an identifier that begins with it begins with it too
pub between : (p k l : List ℕ) → is_le (slice_cmp nat_cmp p k) ≡ true → slice_cmp nat_cmp k l ≡ Less → begins p l ≡ true → begins p k ≡ true
between [] k l a b h = refl
between (x ∷ p) [] l a b h = absurd (cc)
between (x ∷ p) (y ∷ k) [] a b h = absurd (cc)
between (x ∷ p) (y ∷ k) (z ∷ l) a b h =
    let turned : nat_cmp y z ≡ ordering_reverse (nat_cmp x y) = ap (nat_cmp y) (sym (number_is x z (first _ _ h))) ∙ nat_cmp_total.antisymm y x in
    elim (nat_cmp x y) as (λ r. nat_cmp x y ≡ r → is_le (ordering_then r (slice_cmp nat_cmp p k)) ≡ true → ordering_then (ordering_reverse r) (slice_cmp nat_cmp k l) ≡ Less → begins (x ∷ p) (y ∷ k) ≡ true) [
      | Less ↦ λ e a b. absurd (cc b)
      | Equal ↦ λ e a b. joined _ _ (number_same x y (nat_cmp-IsAntisymmetric x y e)) (between p k l a b (second _ _ h))
      | Greater ↦ λ e a b. absurd (cc a)
    ] refl a (sym (ap (λ r. ordering_then r (slice_cmp nat_cmp k l)) turned) ∙ b)

-- what begins with the prefix comes from it on
pub from_prefix : (p q : List ℕ) → begins p q ≡ true → is_le (slice_cmp nat_cmp p q) ≡ true
from_prefix p q h = elim (prefix_first p q h) [
  | inl e ↦ ap is_le (ap (slice_cmp nat_cmp p) (sym e) ∙ tied_itself nat_list_cmp_total p)
  | inr l ↦ ap is_le l
]

not_below : (p q : List ℕ) → is_le (slice_cmp nat_cmp p q) ≡ false → begins p q ≡ false
not_below p q a = elim (begins p q) as (λ b. begins p q ≡ b → b ≡ false) [
  | true ↦ λ b. absurd (cc (sym (from_prefix p q b) ∙ a))
  | false ↦ λ b. refl
] refl

-- ## A walk

abbrev given_there : List ℕ → Keyed Bool → Keyed Record → Keyed Record
given_there prefix given es = filter (λ e. gives prefix given e.0) es

abbrev from_there : List ℕ → Keyed Record → Keyed Record
from_there prefix es = filter (λ e. is_le (slice_cmp nat_cmp prefix e.0) && true) es

abbrev told : Keyed Bool → List ℕ → Bool
told given k = unwrap_or (told_of given k) false

-- nothing behind an identifier that does not begin with the prefix, from it on, is given
none_behind : (prefix : List ℕ) (given : Keyed Bool) (k : List ℕ) (es : Keyed Record) → is_le (slice_cmp nat_cmp prefix k) ≡ true → begins prefix k ≡ false → below_all (slice_cmp nat_cmp) k es ≡ true → given_there prefix given es ≡ []
none_behind prefix given k [] a n h = refl
none_behind prefix given k (e ∷ es) a n h =
    elim (begins prefix e.0) as (λ b. begins prefix e.0 ≡ b → cond (b && told given e.0) (e ∷ given_there prefix given es) (given_there prefix given es) ≡ []) [
      | true ↦ λ b. absurd (cc (sym (between prefix k e.0 a (less _ (first _ _ h)) b) ∙ n))
      | false ↦ λ b. none_behind prefix given k es a n (second _ _ h)
    ] refl

pub walked : (prefix : List ℕ) (given : Keyed Bool) (es : Keyed Record) → is_sorted (slice_cmp nat_cmp) es ≡ true → given_from prefix given (from_there prefix es) ≡ given_there prefix given es
walked prefix given [] h = refl
walked prefix given (e ∷ es) h =
    let f : Keyed Record = given_there prefix given es in
    let g : Keyed Record = given_from prefix given (from_there prefix es) in
    elim (is_le (slice_cmp nat_cmp prefix e.0)) as (λ a. is_le (slice_cmp nat_cmp prefix e.0) ≡ a → given_from prefix given (cond (a && true) (e ∷ from_there prefix es) (from_there prefix es)) ≡ given_there prefix given (e ∷ es)) [
      | true ↦ λ a. elim (begins prefix e.0) as (λ b. begins prefix e.0 ≡ b → cond b (cond (b && told given e.0) (e ∷ g) g) [] ≡ cond (b && told given e.0) (e ∷ f) f) [
        | true ↦ λ b. ap (λ xs. cond (told given e.0) (e ∷ xs) xs) (walked prefix given es (second _ _ h))
        | false ↦ λ b. sym (none_behind prefix given e.0 es a b (first _ _ h))
      ] refl
      | false ↦ λ a. walked prefix given es (second _ _ h) ∙ sym (ap (λ b. cond (b && told given e.0) (e ∷ f) f) (not_below prefix e.0 a))
    ] refl

-- the walk begins at the prefix, and tells what goes
pub given_in : (prefix : List ℕ) (given : Keyed Bool) (m : BTreeMap (List ℕ) Record) → IsStrictlySortedBy (slice_cmp nat_cmp) (keys_of m.entries)
    → given_from prefix given (entries_between (slice_cmp nat_cmp) (Included prefix) Unbounded m.entries) ≡ records_given prefix given (map_of m)
given_in prefix given m h =
    ap (λ es. given_from prefix given (from_there prefix es)) (sym (map_of_entries m h))
    ∙ walked prefix given (entries (map_of m)) (holds _ (entries_sorted (map_of m)))

-- the first is given, and then the others
given_more : (prefix : List ℕ) (given : Keyed Bool) (e : List ℕ × Record) (es : Keyed Record) → begins prefix e.0 ≡ true → gives prefix given e.0 ≡ true → given_from prefix given (e ∷ es) ≡ e ∷ given_from prefix given es
given_more prefix given e es b g =
    let more : Keyed Record = given_from prefix given es in
    ap (λ b. cond b (cond (gives prefix given e.0) (e ∷ more) more) []) b ∙ ap (λ b. cond b (e ∷ more) more) g

pub given_next : (prefix : List ℕ) (given : Keyed Bool) (moved all es : Keyed Record) (e : List ℕ × Record) → all ≡ e ∷ es → begins prefix e.0 ≡ true → gives prefix given e.0 ≡ true
    → (moved ++ e ∷ []) ++ given_from prefix given es ≡ moved ++ given_from prefix given all
given_next prefix given moved all es e s b g =
    append_assoc moved (e ∷ []) (given_from prefix given es) ∙ ap (λ (xs : Keyed Record). moved ++ xs) (sym (ap (given_from prefix given) s ∙ given_more prefix given e es b g))

-- ## What is left

pub map_of_left : (prefix : List ℕ) (given : Keyed Bool) (m n : BTreeMap (List ℕ) Record) → IsStrictlySortedBy (slice_cmp nat_cmp) (keys_of m.entries)
    → n.entries ≡ filter (λ e. not (gives prefix given e.0)) m.entries → map_of n ≡ records_left prefix given (map_of m)
unfolding map_of
map_of_left prefix given m n h e =
    ap (λ es. from_entries es) e ∙ ap (λ es. from_entries (filter (λ e. not (gives prefix given e.0)) es)) (sym (map_of_entries m h))

-- the record of a file among what is left
pub left_at : (prefix : List ℕ) (given : Keyed Bool) (m : RecordMap) (q : List ℕ) → get (records_left prefix given m) q ≡ cond (not (gives prefix given q)) (get m q) None
left_at prefix given m q =
    get-from_entries nat_list_cmp_total (filter (λ e. not (gives prefix given e.0)) (entries m)) q
    ∙ find-where_key (slice_cmp nat_cmp) (λ k. not (gives prefix given k)) q (λ x t. ap (λ k. not (gives prefix given k)) (sym (anti q x t))) (entries m)
    ∙ ap (λ o. cond (not (gives prefix given q)) o None) (sym (get-entries m q))
