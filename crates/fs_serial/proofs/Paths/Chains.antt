-- Chains of files that go up, and lists of files that are turned round.
use Rattle.std.proofs.Common.{◌≡◌, ◌∙◌, ℕ, suc, ◌≤◌, List, [], ◌∷◌, ◌++◌, length, reverse, refl, sym, ap, subst, inl, inr, arith}
use Rattle.std.specs.Prelude.{◌⊎◌, Some}
use Rattle.std.proofs.lemmas.Option.{none-some, same_Some}
use mathlib.Core.List.{reverse_aux}
use Rattle.fs_ident.specs.In.{In}
use Rattle.fs_ident.specs.declared.kind.Kind.TheVariants.{Dir}
use Rattle.fs_msg.specs.declared.item.Item.{Item}
use Rattle.fs_path.specs.Leases.{PathLease}
use Rattle.fs_record.specs.Records.{RecordMap}
use Rattle.fs_server.specs.PathSteps.{dir_here}
use Rattle.fs_serial.specs.Fresh.{made}
use Rattle.fs_serial.specs.Paths.{BeginsWith, IsChainUp, upwards}

-- ## Lists that are turned round

pub turned : {X : Type 0} (xs ys acc : List X) → reverse_aux (xs ++ ys) acc ≡ reverse_aux ys (reverse_aux xs acc)
turned [] ys acc = refl
turned (x ∷ xs) ys acc = turned xs ys (x ∷ acc)

-- the last of them comes first
pub turned_last : {X : Type 0} (xs : List X) (x : X) → reverse (xs ++ x ∷ []) ≡ x ∷ reverse xs
turned_last xs x = turned xs (x ∷ []) []

pub In_turned : {X : Type 0} (x : X) (xs acc : List X) → In x (reverse_aux xs acc) → In x xs ⊎ In x acc
In_turned x [] acc i = inr i
In_turned x (y ∷ ys) acc i = elim (In_turned x ys (y ∷ acc) i) as (λ _. In x (y ∷ ys) ⊎ In x acc) [
  | inl j ↦ inl (inr j)
  | inr j ↦ elim j as (λ _. In x (y ∷ ys) ⊎ In x acc) [ inl e ↦ inl (inl e) | inr l ↦ inr l ]
]

pub In_turned_back : {X : Type 0} (x : X) (xs acc : List X) → In x xs ⊎ In x acc → In x (reverse_aux xs acc)
In_turned_back x [] acc (inl i) = absurd i
In_turned_back x [] acc (inr i) = i
In_turned_back x (y ∷ ys) acc (inl (inl e)) = In_turned_back x ys (y ∷ acc) (inr (inl e))
In_turned_back x (y ∷ ys) acc (inl (inr i)) = In_turned_back x ys (y ∷ acc) (inl i)
In_turned_back x (y ∷ ys) acc (inr i) = In_turned_back x ys (y ∷ acc) (inr (inr i))

-- the same files stand on a path, down and up
pub In_down : (l : PathLease) (f : List ℕ) → In f (upwards l) → In f l.path
In_down l f i = elim (In_turned f l.path [] i) as (λ _. In f l.path) [ inl j ↦ j | inr j ↦ absurd j ]

pub In_up : (l : PathLease) (f : List ℕ) → In f l.path → In f (upwards l)
In_up l f i = In_turned_back f l.path [] (inl i)

-- ## Chains

pub begins_in : (f : List ℕ) (p : List (List ℕ)) → BeginsWith f p → In f p
begins_in f [] b = absurd b
begins_in f (g ∷ gs) b = inl (sym b)

pub chain_below : (m : RecordMap) (f d : List ℕ) (p : List (List ℕ)) → dir_here m f ≡ Some d → IsChainUp m p → BeginsWith d p → IsChainUp m (f ∷ p)
chain_below m f d [] e c b = absurd c
chain_below m f d (g ∷ gs) e c b = (e ∙ ap Some (sym b), c)

-- a file has one chain
pub one_chain : (m : RecordMap) (f : List ℕ) (p q : List (List ℕ)) → IsChainUp m p → IsChainUp m q → BeginsWith f p → BeginsWith f q → p ≡ q
one_chain m f [] q c k b d = absurd c
one_chain m f (x ∷ p) [] c k b d = absurd k
one_chain m f (x ∷ []) (y ∷ []) c k b d = ap (λ z. z ∷ []) (b ∙ sym d)
one_chain m f (x ∷ []) (y ∷ z ∷ q) c k b d = absurd (none-some z (sym c ∙ ap (dir_here m) (b ∙ sym d) ∙ k.0))
one_chain m f (x ∷ w ∷ p) (y ∷ []) c k b d = absurd (none-some w (sym k ∙ ap (dir_here m) (d ∙ sym b) ∙ c.0))
one_chain m f (x ∷ w ∷ p) (y ∷ z ∷ q) c k b d =
    let same : z ≡ w = same_Some z w (sym k.0 ∙ ap (dir_here m) (d ∙ sym b) ∙ c.0) in
    ap (λ g. g ∷ w ∷ p) (b ∙ sym d) ∙ ap (λ r. y ∷ r) (one_chain m w (w ∷ p) (z ∷ q) c.1 k.1 refl same)

-- the chain of a directory is of directories
pub chain_dirs : (m : RecordMap) (journal : List Item) → ((f d : List ℕ) → dir_here m f ≡ Some d → made journal d ≡ Some Dir)
    → (d : List ℕ) (p : List (List ℕ)) → made journal d ≡ Some Dir → IsChainUp m p → BeginsWith d p → (g : List ℕ) → In g p
    → made journal g ≡ Some Dir
chain_dirs m journal dirs d [] here c b g i = absurd c
chain_dirs m journal dirs d (x ∷ []) here c b g (inl e) = ap (made journal) (e ∙ b) ∙ here
chain_dirs m journal dirs d (x ∷ []) here c b g (inr i) = absurd i
chain_dirs m journal dirs d (x ∷ y ∷ ys) here c b g (inl e) = ap (made journal) (e ∙ b) ∙ here
chain_dirs m journal dirs d (x ∷ y ∷ ys) here c b g (inr i) = chain_dirs m journal dirs y (y ∷ ys) (dirs x y c.0) c.1 refl g i

-- where its files stand as they did it is a chain still
pub chain_alike : (m n : RecordMap) (p : List (List ℕ)) → ((f : List ℕ) → In f p → dir_here n f ≡ dir_here m f) → IsChainUp m p → IsChainUp n p
chain_alike m n [] same c = c
chain_alike m n (f ∷ []) same c = same f (inl refl) ∙ c
chain_alike m n (f ∷ d ∷ ds) same c = (same f (inl refl) ∙ c.0, chain_alike m n (d ∷ ds) (λ g i. same g (inr i)) c.1)

-- ## What was met on the way up

-- the first one stands in the file, each other one in the one before it
abbrev pub AreUnder : RecordMap → List ℕ → List (List ℕ) → Type 0
AreUnder m file [] = Unit {0}
AreUnder m file (g ∷ gs) = (dir_here m g ≡ Some file) × AreUnder m g gs

-- the chain of one that was met, which is no shorter than that of the file
record IsMet (m : RecordMap) (met : List ℕ) (p : List (List ℕ)) : Type 0 where
  pub way : List (List ℕ)
  pub chain : IsChainUp m way
  pub begins : BeginsWith met way
  pub long : length p ≤ length way

met_chain : (m : RecordMap) (d file : List ℕ) (below p : List (List ℕ)) → AreUnder m file below → IsChainUp m p → BeginsWith file p
    → In d (file ∷ below) → IsMet m d p
met_chain m d file below p u c b (inl e) = record { way = p; chain = c; begins = subst (λ x. BeginsWith x p) (sym e) b; long = omega arith }
met_chain m d file [] p u c b (inr i) = absurd i
met_chain m d file (g ∷ gs) p u c b (inr i) =
    let r = met_chain m d g gs (g ∷ p) u.1 (chain_below m g file p u.0 c b) refl i in
    let l : suc (length p) ≤ length r.way = r.long in
    record { way = r.way; chain = r.chain; begins = r.begins; long = omega (arith, l) }

-- no file that was met is the directory of one above it
pub none_again : (m : RecordMap) (d file : List ℕ) (below p : List (List ℕ)) → AreUnder m file below → IsChainUp m p → BeginsWith file p
    → dir_here m file ≡ Some d → In d (file ∷ below) → ⊥
none_again m d file below [] u c b e i = c
none_again m d file below (x ∷ []) u c b e i = none-some d (sym c ∙ ap (dir_here m) b ∙ e)
none_again m d file below (x ∷ y ∷ ys) u c b e i =
    let is : y ≡ d = same_Some y d (sym c.0 ∙ ap (dir_here m) b ∙ e) in
    let r = met_chain m d file below (x ∷ y ∷ ys) u c b i in
    let same : (y ∷ ys) ≡ r.way = one_chain m d (y ∷ ys) r.way c.1 r.chain is r.begins in
    let equal : suc (length ys) ≡ length r.way = ap length same in
    let l : suc (suc (length ys)) ≤ length r.way = r.long in
    omega (arith, equal, l)
