-- A path that is taken tells which renames would make a cycle.
use Rattle.std.proofs.Common.{◌≡◌, ◌∙◌, ℕ, zero, suc, ◌-◌, ◌≤◌, ◌<◌, Bool, true, false, List, [], ◌∷◌, length, reverse, refl, sym, ap, cond, inl, inr, arith}
use Rattle.std.proofs.Math.Bool.{or-false}
use Rattle.std.specs.Prelude.{◌||◌, Option, Some, None, is_some, option_map}
use Rattle.std.proofs.lemmas.Option.{none-some}
use Rattle.std.specs.Option.{option_map_or}
use Rattle.std.specs.List.{list_any}
use Rattle.std.specs.FinMap.{get, remove, len, empty_of_len, get-empty, len-remove}
use Rattle.std.specs.Ordering.{nat_cmp}
use Rattle.std.specs.Cmp.Lexicographic.{slice_cmp, nat_list_cmp_total}
use mathlib.Core.List.{reverse_aux}
use Rattle.fs_ident.specs.In.{In}
use Rattle.fs_ident.specs.Ident.{same}
use Rattle.fs_model.specs.Ancestors.{ancestors_within, directory_of}
use Rattle.fs_model.specs.Namespace.{NodeMap}
use Rattle.fs_model.specs.Sound.{parent_of}
use Rattle.fs_model.specs.declared.node.Node.{Node}
use Rattle.fs_model.proofs.SoundMaps.{remove_other}
use Rattle.fs_record.specs.Records.{RecordMap, node_of, nodes_of}
use Rattle.fs_record.proofs.NodeMaps.{node_there}
use Rattle.fs_server.specs.PathSteps.{dir_here}
use Rattle.fs_serial.specs.PathLaws.{TakenTellsCycles}
use Rattle.fs_serial.specs.Paths.{BeginsWith, IsChainUp}
use Rattle.fs_serial.specs.Runs.{held_by}
use Rattle.fs_serial.proofs.Paths.Chains.{one_chain}
use Rattle.fs_serial.proofs.Paths.Taken.{taken_is_true}

-- ## No file is met twice

-- a chain's way from one of its files on
record IsPart (m : RecordMap) (f : List ℕ) (p : List (List ℕ)) : Type 0 where
  pub way : List (List ℕ)
  pub chain : IsChainUp m way
  pub begins : BeginsWith f way
  pub short : length way ≤ length p

part_of : (m : RecordMap) (f : List ℕ) (p : List (List ℕ)) → IsChainUp m p → In f p → IsPart m f p
part_of m f [] c i = absurd i
part_of m f (g ∷ gs) c (inl e) = record { way = g ∷ gs; chain = c; begins = sym e; short = omega arith }
part_of m f (g ∷ []) c (inr i) = absurd i
part_of m f (g ∷ d ∷ ds) c (inr i) =
    let r = part_of m f (d ∷ ds) c.1 i in
    let l : length r.way ≤ suc (length ds) = r.short in
    record { way = r.way; chain = r.chain; begins = r.begins; short = omega (arith, l) }

abbrev AreApart : List (List ℕ) → Type 0
AreApart [] = Unit {0}
AreApart (f ∷ fs) = (In f fs → ⊥) × AreApart fs

apart : (m : RecordMap) (p : List (List ℕ)) → IsChainUp m p → AreApart p
apart m [] c = tt
apart m (f ∷ []) c = (λ i. i, tt)
apart m (f ∷ d ∷ ds) c = (
  λ i. (let r = part_of m f (d ∷ ds) c.1 i in
      let equal : suc (suc (length ds)) ≡ length r.way = ap length (one_chain m f (f ∷ d ∷ ds) r.way c r.chain refl r.begins) in
      let l : length r.way ≤ suc (length ds) = r.short in
      omega (arith, equal, l)),
  apart m (d ∷ ds) c.1,
)

-- ## The same chain in the namespace

abbrev IsWay : NodeMap → List (List ℕ) → Type 0
IsWay m [] = ⊥
IsWay m (f ∷ []) = directory_of (get m f) ≡ None
IsWay m (f ∷ d ∷ ds) = (directory_of (get m f) ≡ Some d) × IsWay m (d ∷ ds)

same_dir : (o : Option Node) → directory_of o ≡ option_map (λ (x : List ℕ × List ℕ). x.0) (parent_of o)
same_dir None = refl
same_dir (Some n) = refl

dir_there : (m : RecordMap) (f : List ℕ) → directory_of (get (nodes_of m) f) ≡ dir_here m f
dir_there m f = ap directory_of (node_there m f) ∙ same_dir (node_of (get m f))

way_of : (m : RecordMap) (p : List (List ℕ)) → IsChainUp m p → IsWay (nodes_of m) p
way_of m [] c = c
way_of m (f ∷ []) c = dir_there m f ∙ c
way_of m (f ∷ d ∷ ds) c = (dir_there m f ∙ c.0, way_of m (d ∷ ds) c.1)

-- ## It is no longer than there are nodes

has_node : (o : Option Node) (d : List ℕ) → directory_of o ≡ Some d → is_some o ≡ true
has_node None d e = absurd (none-some d e)
has_node (Some n) d e = refl

some_node : (m : NodeMap) (f : List ℕ) → is_some (get m f) ≡ true → 0 < len m
some_node m f h = by (len m) refl
  where
    by : (k : ℕ) → len m ≡ k → 0 < k
    by zero e =
        let q : is_some (get m f) ≡ false = ap (λ (m : NodeMap). is_some (get m f)) (empty_of_len m e)
        ∙ ap is_some (get-empty (slice_cmp nat_cmp) f) in
        let r : true ≡ false = sym h ∙ q in absurd (cc r)
    by (suc k) e = omega arith

way_kept : (m : NodeMap) (f : List ℕ) (p : List (List ℕ)) → (In f p → ⊥) → IsWay m p → IsWay (remove m f) p
way_kept m f [] out w = w
way_kept m f (g ∷ []) out w = ap directory_of (remove_other m f g (λ e. out (inl (sym e)))) ∙ w
way_kept m f (g ∷ d ∷ ds) out w = (ap directory_of (remove_other m f g (λ e. out (inl (sym e)))) ∙ w.0, way_kept m f (d ∷ ds) (λ i. out (inr i)) w.1)

few : (m : NodeMap) (f : List ℕ) (ds : List (List ℕ)) → IsWay m (f ∷ ds) → AreApart (f ∷ ds) → length ds ≤ len m
few m f [] w a = omega arith
few m f (d ∷ ds) w a =
    let there : is_some (get m f) ≡ true = has_node (get m f) d w.0 in
    let less : len (remove m f) ≡ len m - 1 = len-remove nat_list_cmp_total m f ∙ ap (λ b. cond b (len m - 1) (len m)) there in
    let some : 0 < len m = some_node m f there in
    let rest : length ds ≤ len (remove m f) = few (remove m f) d ds (way_kept m f (d ∷ ds) a.0 w.1) a.1 in
    omega (arith, less, some, rest)

-- so its files are the ancestors
climbed : (n : ℕ) (m : NodeMap) (f : List ℕ) (ds : List (List ℕ)) → IsWay m (f ∷ ds) → length ds ≤ n → ancestors_within n m f ≡ ds
climbed zero m f [] w l = refl
climbed zero m f (d ∷ ds) w l = absurd (omega (arith, l))
climbed (suc n) m f [] w l = ap (λ o. option_map_or (λ dir. dir ∷ ancestors_within n m dir) o []) w
climbed (suc n) m f (d ∷ ds) w l = ap (λ o. option_map_or (λ dir. dir ∷ ancestors_within n m dir) o []) w.0
    ∙ ap (λ r. d ∷ r) (climbed n m d ds w.1 (omega (arith, l)))

-- ## What stands on it

or_turned : (a b c : Bool) → (b || (a || c)) ≡ ((a || b) || c)
or_turned true true c = refl
or_turned true false c = refl
or_turned false true c = refl
or_turned false false c = refl

any_turned : {X : Type 0} (test : X → Bool) (xs acc : List X) → list_any test (reverse_aux xs acc) ≡ (list_any test xs || list_any test acc)
any_turned test [] acc = refl
any_turned test (x ∷ xs) acc = any_turned test xs (x ∷ acc) ∙ or_turned (test x) (list_any test xs) (list_any test acc)

on_it : (m : RecordMap) (f : List ℕ) (p : List (List ℕ)) → IsChainUp m p → BeginsWith f p → p ≡ f ∷ ancestors_within (len (nodes_of m)) (nodes_of m) f
on_it m f [] c b = absurd c
on_it m f (g ∷ ds) c b =
    let w = way_of m (g ∷ ds) c in
    let up : ancestors_within (len (nodes_of m)) (nodes_of m) g ≡ ds = climbed (len (nodes_of m)) (nodes_of m) g ds w (few (nodes_of m) g ds w (apart m (g ∷ ds) c)) in
    ap (λ r. g ∷ r) (sym up) ∙ ap (λ x. x ∷ ancestors_within (len (nodes_of m)) (nodes_of m) x) b

pub taken_tells_cycles : TakenTellsCycles
taken_tells_cycles c k s file dir path stand h at made_dir here e =
    let t = taken_is_true c k s dir path stand h at made_dir here e in
    sym (or-false (list_any (λ f. same f file) path))
    ∙ sym (any_turned (λ f. same f file) path [])
    ∙ ap (list_any (λ f. same f file)) (on_it (held_by c) dir (reverse path) t.0 t.1)
