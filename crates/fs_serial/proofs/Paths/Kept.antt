-- Where the server of a file's directory keeps the file, it is on no path that any server gave out.
use Rattle.std.proofs.Common.{◌≡◌, ◌∙◌, ℕ, zero, suc, ◌≤◌, ◌<◌, Bool, true, false, List, [], ◌∷◌, length, refl, sym, ap, subst, cond, inl, inr, arith}
use Rattle.std.specs.Prelude.{◌⊎◌, Option, Some, slice_get}
use Rattle.std.proofs.lemmas.Option.{none-some, same_Some}
use Rattle.fs_ident.specs.In.{In}
use Rattle.fs_path.specs.Leases.{PathLease}
use Rattle.fs_path.specs.Tables.{lease_of}
use Rattle.fs_record.specs.Records.{RecordMap}
use Rattle.fs_server.specs.PathSteps.{dir_here}
use Rattle.fs_server.specs.declared.state.Server.{Server}
use Rattle.fs_serial.specs.Cluster.{Cluster}
use Rattle.fs_serial.specs.PathLaws.{KeptIsOnNone}
use Rattle.fs_serial.specs.Paths.{Avoids, HoldsPath, IsChainUp, IsSupported, PathsHold, PathsStand, has_record, is_kept, rests_from, run_up, upwards}
use Rattle.fs_serial.specs.Runs.{held_by}
use Rattle.fs_serial.proofs.Lists.Servers.{In_at}
use Rattle.fs_serial.proofs.Paths.Chains.{In_up}
use Rattle.fs_serial.proofs.Paths.Taken.{held_given}

-- what a run rests on is no longer than its way up
pub shorter : (s : Server) (up files : List (List ℕ)) → rests_from s up ≡ Some files → length files ≤ length up
shorter s [] files e = absurd (none-some files e)
shorter s (f ∷ []) files e = absurd (none-some files e)
shorter s (f ∷ d ∷ ds) files e = by (has_record s d) e (shorter s (d ∷ ds) files)
  where
    by : (b : Bool) → cond b (rests_from s (d ∷ ds)) (Some (f ∷ d ∷ ds)) ≡ Some files
        → (rests_from s (d ∷ ds) ≡ Some files → length files ≤ length (d ∷ ds)) → length files ≤ length (f ∷ d ∷ ds)
    by true q rest = let l : length files ≤ suc (length ds) = rest q in omega (arith, l)
    by false q rest = let n : suc (suc (length ds)) ≡ length files = ap length (same_Some (f ∷ d ∷ ds) files q) in omega (arith, n)

-- the file is of the run, and its directory is here; or it is on what the run rests on
abbrev IsFound : Server → List ℕ → List ℕ → List (List ℕ) → Option (List (List ℕ)) → Type 0
IsFound s f d run rest = ((has_record s d ≡ true) × In f run) ⊎ ((files : List (List ℕ)) × ((rest ≡ Some files) × In f files))

module _ (m : RecordMap) (s : Server) (f d : List ℕ) (e : dir_here m f ≡ Some d) where
  in_run : (a : List ℕ) (run : List (List ℕ)) → has_record s a ≡ true → In f (a ∷ run) → In f (cond (has_record s a) (a ∷ run) [])
  in_run a run here i = subst (λ b. In f (cond b (a ∷ run) [])) (sym here) i

  -- one file more below
  one_more : (a b : List ℕ) (bs : List (List ℕ)) → has_record s a ≡ true → has_record s b ≡ true → dir_here m a ≡ Some b → In f (a ∷ b ∷ bs)
      → (In f (b ∷ bs) → IsFound s f d (run_up s (b ∷ bs)) (rests_from s (b ∷ bs))) → IsFound s f d (run_up s (a ∷ b ∷ bs)) (rests_from s (b ∷ bs))
  one_more a b bs here there c (inl j) above =
      let is : b ≡ d = same_Some b d (sym c ∙ ap (dir_here m) (sym j) ∙ e) in
      inl (subst (λ x. has_record s x ≡ true) is there, in_run a (run_up s (b ∷ bs)) here (inl j))
  one_more a b bs here there c (inr j) above = elim (above j) as (λ _. IsFound s f d (run_up s (a ∷ b ∷ bs)) (rests_from s (b ∷ bs))) [
    | inl x ↦ inl (x.0, in_run a (run_up s (b ∷ bs)) here (inr x.1))
    | inr x ↦ inr x
  ]

  -- where a file is on the chain above one that is here
  found_up : (a : List ℕ) (as_ : List (List ℕ)) → has_record s a ≡ true → IsChainUp m (a ∷ as_) → In f (a ∷ as_)
      → IsFound s f d (run_up s (a ∷ as_)) (rests_from s (a ∷ as_))
  found_up a [] here c (inl i) = absurd (none-some d (sym c ∙ ap (dir_here m) (sym i) ∙ e))
  found_up a [] here c (inr i) = absurd i
  found_up a (b ∷ bs) here c i =
      elim (has_record s b) as (λ t. has_record s b ≡ t → IsFound s f d (run_up s (a ∷ b ∷ bs)) (cond t (rests_from s (b ∷ bs)) (Some (a ∷ b ∷ bs)))) [
        | true ↦ λ t. one_more a b bs here t c.0 i (λ j. found_up b bs t c.1 j)
        | false ↦ λ t. inr (a ∷ b ∷ bs, (refl, i))
      ] refl

-- one file is kept where its directory is
module _ (c : Cluster) (k : ℕ) (s : Server) (file dir : List ℕ) (stand : PathsStand c) (h : PathsHold c) (at : slice_get c.servers k ≡ Some s)
    (place : dir_here (held_by c) file ≡ Some dir) (here : has_record s dir ≡ true) (kept : is_kept s file ≡ true) where
  -- the server that has the directory is that one
  kept_there : (t : Server) → In t c.servers → has_record t dir ≡ true → is_kept t file ≡ true
  kept_there t i there =
      let p = In_at c.servers t i in
      let one : k ≡ p.place = stand.one k p.place s t dir at p.is here there in
      let same : s ≡ t = same_Some s t (sym at ∙ ap (slice_get c.servers) one ∙ p.is) in
      subst (λ x. is_kept x file ≡ true) same kept

  -- a path of a server does not go over it
  none_up : (n : ℕ) (t : Server) (up : List (List ℕ)) → length up ≤ n → In t c.servers → IsChainUp (held_by c) up → IsSupported t up
      → (is_kept t file ≡ true → Avoids t file up)
      → ((files : List (List ℕ)) → length files < length up → HoldsPath t files → In file files → ⊥) → In file up → ⊥
  none_up n t [] l i chain support avoids rest m = m
  none_up n t (g ∷ []) l i chain support avoids rest m = support
  none_up n t (g ∷ a ∷ as_) l i chain support avoids rest (inl e) =
      let is : a ≡ dir = same_Some a dir (sym chain.0 ∙ ap (dir_here (held_by c)) (sym e) ∙ place) in
      (avoids (kept_there t i (subst (λ x. has_record t x ≡ true) is support.0))).0 (sym e)
  none_up n t (g ∷ a ∷ as_) l i chain support avoids rest (inr b) =
      elim (found_up (held_by c) t file dir place a as_ support.0 chain.1 b) as (λ _. ⊥) [
        | inl x ↦ (avoids (kept_there t i x.0)).1 x.1
        | inr x ↦
            let less : length x.0 ≤ suc (length as_) = shorter t (a ∷ as_) x.0 x.1.0 in
            rest x.0 (omega (arith, less)) (support.1 x.0 x.1.0) x.1.1
      ]

  -- of those of the length none does
  none : (n : ℕ) (t : Server) (l : PathLease) → length (upwards l) ≤ n → In t c.servers → In l t.paths.issued → In file (upwards l) → ⊥
  none zero t l short i j m = nothing (upwards l) short m
    where
      nothing : (up : List (List ℕ)) → length up ≤ 0 → In file up → ⊥
      nothing [] z x = x
      nothing (g ∷ gs) z x = absurd (omega (arith, z))
  none (suc n) t l short i j m =
      let r = h.truth t i l j in
      none_up (suc n) t (upwards l) short i r.chain r.supported (r.avoids file) (λ files less held in_it.
      (let p = In_at c.servers t i in
      let g = held_given c p.place t held.lease h p.is held.held in
      let shorter_one : length (upwards (lease_of held.lease)) ≤ n = subst (λ x. length x ≤ n) (sym held.path) (omega (arith, less, short)) in
      none n g.server (record (lease_of held.lease) { peer = g.to }) shorter_one g.there g.issued (subst (λ x. In file x) (sym held.path) in_it))
      ) m

pub kept_is_on_none : KeptIsOnNone
kept_is_on_none c k s file dir stand h at place here kept on =
    none c k s file dir stand h at place here kept (length (upwards on.lease)) on.server on.lease (omega arith) on.here on.issued (In_up on.lease file on.among)
