-- A lease stays true where as much stays as it speaks of.
use Rattle.std.proofs.Common.{◌≡◌, ◌∙◌, Bool, true, false, List, [], ◌∷◌, ℕ, refl, sym, ap, subst, cond, inl, inr}
use Rattle.std.specs.Prelude.{◌⊎◌, Some}
use Rattle.std.proofs.lemmas.Option.{none-some, same_Some}
use Rattle.fs_ident.specs.In.{In}
use Rattle.fs_ident.specs.declared.actor.TxnNo.{TxnNo}
use Rattle.fs_ident.specs.declared.kind.Kind.TheVariants.{Dir}
use Rattle.fs_msg.specs.declared.item.Item.{Item}
use Rattle.fs_path.specs.Leases.{PathLease}
use Rattle.fs_record.specs.Records.{RecordMap}
use Rattle.fs_server.specs.PathSteps.{dir_here}
use Rattle.fs_server.specs.Server.{Stepped}
use Rattle.fs_server.specs.declared.event.ServerEvent.{ServerEvent}
use Rattle.fs_server.specs.declared.state.Server.{Server}
use Rattle.fs_serial.specs.Cluster.{Cluster, after_step}
use Rattle.fs_serial.specs.Fresh.{made}
use Rattle.fs_serial.specs.Paths.{Avoids, HoldsPath, IsOnPath, IsSupported, IsTruePath, PathsHold, has_record, is_kept, rests_from, run_up, upwards}
use Rattle.fs_serial.specs.Runs.{held_by}
use Rattle.fs_serial.proofs.Lists.SetAt.{In_set}
use Rattle.fs_serial.proofs.Paths.Chains.{In_down, chain_alike}

-- ## The way up

abbrev pub HasAlike : Server → Server → List (List ℕ) → Type 0
HasAlike s t files = (f : List ℕ) → In f files → has_record t f ≡ has_record s f

run_alike : (s t : Server) (up : List (List ℕ)) → HasAlike s t up → run_up t up ≡ run_up s up
run_alike s t [] same = refl
run_alike s t (f ∷ fs) same = ap (λ b. cond b (f ∷ run_up t fs) []) (same f (inl refl))
    ∙ ap (λ r. cond (has_record s f) (f ∷ r) []) (run_alike s t fs (λ g i. same g (inr i)))

rests_alike : (s t : Server) (up : List (List ℕ)) → HasAlike s t up → rests_from t up ≡ rests_from s up
rests_alike s t [] same = refl
rests_alike s t (f ∷ []) same = refl
rests_alike s t (f ∷ d ∷ ds) same =
    ap (λ b. cond b (rests_from t (d ∷ ds)) (Some (f ∷ d ∷ ds))) (same d (inr (inl refl)))
    ∙ ap (λ r. cond (has_record s d) r (Some (f ∷ d ∷ ds))) (rests_alike s t (d ∷ ds) (λ g i. same g (inr i)))

-- what a run rests on is of its way up
rests_among : (s : Server) (up files : List (List ℕ)) → rests_from s up ≡ Some files → (f : List ℕ) → In f files → In f up
rests_among s [] files e f i = absurd (none-some files e)
rests_among s (g ∷ []) files e f i = absurd (none-some files e)
rests_among s (g ∷ d ∷ ds) files e f i = by (has_record s d) e (λ q. rests_among s (d ∷ ds) files q f i)
  where
    by : (b : Bool) → cond b (rests_from s (d ∷ ds)) (Some (g ∷ d ∷ ds)) ≡ Some files → (rests_from s (d ∷ ds) ≡ Some files → In f (d ∷ ds))
        → In f (g ∷ d ∷ ds)
    by true q rest = inr (rest q)
    by false q rest = subst (In f) (sym (same_Some (g ∷ d ∷ ds) files q)) i

-- a path that is held over files of these is held then
abbrev pub HeldAlike : Server → Server → List (List ℕ) → Type 0
HeldAlike s t up = (files : List (List ℕ)) → ((f : List ℕ) → In f files → In f up) → HoldsPath s files → HoldsPath t files

supported_alike : (s t : Server) (up : List (List ℕ)) → HasAlike s t up → HeldAlike s t up → IsSupported s up → IsSupported t up
supported_alike s t [] same held a = a
supported_alike s t (f ∷ []) same held a = a
supported_alike s t (f ∷ d ∷ ds) same held a = (
  same d (inr (inl refl)) ∙ a.0,
  λ files e. (
      let q : rests_from s (d ∷ ds) ≡ Some files = sym (rests_alike s t (d ∷ ds) (λ g i. same g (inr i))) ∙ e in
      held files (λ g i. inr (rests_among s (d ∷ ds) files q g i)) (a.1 files q)
      ),
)

-- a run is of its way up
run_among : (t : Server) (up : List (List ℕ)) (f : List ℕ) → In f (run_up t up) → In f up
run_among t [] f i = i
run_among t (g ∷ gs) f i = by (has_record t g) i (run_among t gs f)
  where
    by : (b : Bool) → In f (cond b (g ∷ run_up t gs) []) → (In f (run_up t gs) → In f gs) → In f (g ∷ gs)
    by true (inl e) rest = inl e
    by true (inr j) rest = inr (rest j)
    by false j rest = absurd j

-- a path avoids what is not on it
avoids_other : (t : Server) (f : List ℕ) (up : List (List ℕ)) → (In f up → ⊥) → Avoids t f up
avoids_other t f [] out = tt
avoids_other t f (g ∷ gs) out = (λ e. out (inl (sym e)), λ i. out (inr (run_among t gs f i)))

avoids_alike : (s t : Server) (g : List ℕ) (up : List (List ℕ)) → HasAlike s t up → Avoids s g up → Avoids t g up
avoids_alike s t g [] same a = a
avoids_alike s t g (f ∷ fs) same a = (a.0, λ i. a.1 (subst (In g) (run_alike s t fs (λ x j. same x (inr j))) i))

-- ## A lease

-- of the files of the lease the server has the same, and what the lease may rest on is held; and no more of them are kept
pub record KeepsFor (s t : Server) (l : PathLease) : Type 0 where
  pub here : HasAlike s t l.path
  pub held : HeldAlike s t l.path
  pub kept : (f : List ℕ) → is_kept t f ≡ true → (is_kept s f ≡ true) ⊎ (In f l.path → ⊥)

pub true_alike : (m n : RecordMap) (i j : List Item) (s t : Server) (l : PathLease) → ((f : List ℕ) → In f l.path → dir_here n f ≡ dir_here m f)
    → ((f : List ℕ) → made i f ≡ Some Dir → made j f ≡ Some Dir)
    → KeepsFor s t l → IsTruePath m i s l → IsTruePath n j t l
true_alike m n i j s t l up dirs k r = record {
  begins = r.begins;
  chain = chain_alike m n (upwards l) (λ f x. up f (In_down l f x)) r.chain;
  dirs = λ f x. dirs f (r.dirs f x);
  supported = supported_alike s t (upwards l) (λ f x. k.here f (In_down l f x)) (λ files of. k.held files (λ f x. In_down l f (of f x))) r.supported;
  avoids = λ f z. elim (k.kept f z) as (λ _. Avoids t f (upwards l)) [
    | inl was ↦ avoids_alike s t f (upwards l) (λ g x. k.here g (In_down l g x)) (r.avoids f was)
    | inr out ↦ avoids_other t f (upwards l) (λ x. out (In_down l f x))
  ];
}

-- a lease that is held is held where the table of those that are is the same
pub held_still : (s t : Server) (files : List (List ℕ)) → t.paths.held ≡ s.paths.held → HoldsPath s files → HoldsPath t files
held_still s t files e p = record { lease = p.lease; held = subst (In p.lease) (sym e) p.held; path = p.path }

pub keeps_same : (s t : Server) (l : PathLease) → t.records ≡ s.records → t.paths.held ≡ s.paths.held → t.paths.frozen ≡ s.paths.frozen
    → KeepsFor s t l
keeps_same s t l records held frozen = record {
  here = λ f i. ap (λ m. has_there m f) records;
  held = λ files of p. held_still s t files held p;
  kept = λ f z. inl (ap (λ r. is_frozen r f) (sym frozen) ∙ z);
}
  where
    has_there : RecordMap → List ℕ → Bool
    has_there m f = has_record (record s { records = m }) f

    is_frozen : List (List ℕ × TxnNo) → List ℕ → Bool
    is_frozen r f = is_kept (record s { paths = record s.paths { frozen = r } }) f

-- ## All servers, where one takes a step

pub on_path : (c : Cluster) (t : Server) (l : PathLease) (f : List ℕ) → In t c.servers → In l t.paths.issued → In f l.path → IsOnPath c.servers f
on_path c t l f i j m = record { server = t; here = i; lease = l; issued = j; among = m }

-- all leases are true then, where its own are
pub all_true : (c : Cluster) (k : ℕ) (e : ServerEvent) (x : Stepped) → PathsHold c
    → ((f : List ℕ) → IsOnPath c.servers f → dir_here (held_by (after_step k e x c)) f ≡ dir_here (held_by c) f)
    → ((f : List ℕ) → made c.journal f ≡ Some Dir → made (after_step k e x c).journal f ≡ Some Dir)
    → ((l : PathLease) → In l x.server.paths.issued → IsTruePath (held_by (after_step k e x c)) (after_step k e x c).journal x.server l)
    → (t : Server) → In t (after_step k e x c).servers → (l : PathLease) → In l t.paths.issued
    → IsTruePath (held_by (after_step k e x c)) (after_step k e x c).journal t l
all_true c k e x h up dirs own t i l j =
    let later : Cluster = after_step k e x c in
    elim (In_set c.servers k x.server t i) as (λ _. IsTruePath (held_by later) later.journal t l) [
      | inl q ↦ subst (λ y. IsTruePath (held_by later) later.journal y l) (sym q) (own l (subst (λ (y : Server). In l y.paths.issued) q j))
      | inr z ↦
          true_alike (held_by c) (held_by later) c.journal later.journal t t l (λ f m. up f (on_path c t l f z j m)) dirs
          (keeps_same t t l refl refl refl) (h.truth t z l j)
    ]
