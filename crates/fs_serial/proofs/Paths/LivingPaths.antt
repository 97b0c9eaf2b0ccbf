-- What is on a path lives in what all hold together; what is being removed is on none.
use Rattle.std.proofs.Common.{◌≡◌, ◌∙◌, ℕ, true, false, List, [], ◌∷◌, refl, sym, ap, subst, inl, inr}
use Rattle.std.specs.Prelude.{Option, Some, None, is_some, option_map}
use Rattle.std.specs.FinMap.{get}
use Rattle.std.proofs.lemmas.Option.{none-some}
use Rattle.fs_ident.specs.In.{In}
use Rattle.fs_ident.specs.declared.kind.Kind.{Kind}
use Rattle.fs_ident.specs.declared.kind.Kind.TheVariants.{Dir}
use Rattle.fs_field.specs.declared.effect.Effect.TheVariants.{RemoveNode}
use Rattle.fs_model.specs.Sound.{IsTree, kind_of, parent_of}
use Rattle.fs_model.specs.declared.node.Node.{Node}
use Rattle.fs_record.specs.Records.{RecordMap, node_of, nodes_of}
use Rattle.fs_record.proofs.NodeMaps.{node_there}
use Rattle.fs_server.specs.PathSteps.{dir_here}
use Rattle.fs_server.specs.declared.state.Server.{Server}
use Rattle.fs_txn.specs.Decided.{AreDecided}
use Rattle.fs_txn.specs.Grants.{effects_in}
use Rattle.fs_serial.specs.Cluster.{Cluster}
use Rattle.fs_serial.specs.Joined.{effects_on_way}
use Rattle.fs_serial.specs.Leading.{LedHolds}
use Rattle.fs_serial.specs.Paths.{IsChainUp, IsOnPath, IsSupported, PathsHold, upwards}
use Rattle.fs_serial.specs.Runs.{held_by, records_in}
use Rattle.fs_serial.specs.Words.{decided_in}
use Rattle.fs_serial.proofs.DecidedEffects.GuardsAgain.{decided_again}
use Rattle.fs_serial.proofs.DecidedEffects.HeldSeen.{all_told}
use Rattle.fs_serial.proofs.DecidedEffects.Underway.{are_decided, gone_held}
use Rattle.fs_serial.proofs.Paths.Chains.{In_up}
use Rattle.fs_serial.proofs.Paths.OnTheWay.{dir_in}

some_kind : (o : Option Node) (kind : Kind) → kind_of o ≡ Some kind → is_some o ≡ true
some_kind None kind e = absurd (none-some kind e)
some_kind (Some n) kind e = refl

some_dir : (o : Option Node) (d : List ℕ) → dir_in o ≡ Some d → is_some o ≡ true
some_dir None d e = absurd (none-some d e)
some_dir (Some n) d e = refl

-- it stands there under a name
named_in : (o : Option (List ℕ × List ℕ)) (d : List ℕ) → option_map (λ (place : List ℕ × List ℕ). place.0) o ≡ Some d
    → (name : List ℕ) × (o ≡ Some (d, name))
named_in None d e = absurd (none-some d e)
named_in (Some p) d e = let same_dir : p.0 ≡ d = cc in (p.1, ap (λ (x : List ℕ). Some (x, p.1)) same_dir)

module _ (m : RecordMap) (tree : IsTree (nodes_of m)) where
  -- what a file stands in lives
  lives_in : (f d : List ℕ) → dir_here m f ≡ Some d → is_some (node_of (get m d)) ≡ true
  lives_in f d e =
      let place = named_in (parent_of (node_of (get m f))) d e in
      let there : parent_of (get (nodes_of m) f) ≡ Some (d, place.0) = ap parent_of (node_there m f) ∙ place.1 in
      some_kind (node_of (get m d)) Dir (sym (ap kind_of (node_there m d)) ∙ tree.in_directories f d place.0 there)

  chain_lives : (g : List ℕ) (gs : List (List ℕ)) → is_some (node_of (get m g)) ≡ true → IsChainUp m (g ∷ gs) → (f : List ℕ) → In f (g ∷ gs)
      → is_some (node_of (get m f)) ≡ true
  chain_lives g gs lives c f (inl e) = ap (λ x. is_some (node_of (get m x))) e ∙ lives
  chain_lives g [] lives c f (inr i) = absurd i
  chain_lives g (d ∷ ds) lives c f (inr i) = chain_lives d ds (lives_in g d c.0) c.1 f i

  up_lives : (s : Server) (up : List (List ℕ)) → IsChainUp m up → IsSupported s up → (f : List ℕ) → In f up
      → is_some (node_of (get m f)) ≡ true
  up_lives s [] c support f i = absurd i
  up_lives s (g ∷ []) c support f i = absurd support
  up_lives s (g ∷ d ∷ ds) c support f i = chain_lives g (d ∷ ds) (some_dir (node_of (get m g)) d c.0) c f i

pub path_lives : (c : Cluster) → PathsHold c → IsTree (nodes_of (held_by c)) → (f : List ℕ) → IsOnPath c.servers f
    → is_some (node_of (get (held_by c) f)) ≡ true
path_lives c h tree f on =
    let r = h.truth on.server on.here on.lease on.issued in
    up_lives (held_by c) tree on.server (upwards on.lease) r.chain r.supported f (In_up on.lease f on.among)

-- what is to be removed, and is told so, lives no longer
gone_by_now : (c : Cluster) → LedHolds c → (f : List ℕ) → In (RemoveNode f) (effects_on_way c.in_flight)
    → node_of (get (held_by c) f) ≡ None
gone_by_now c led f i =
    let told : effects_on_way c.in_flight ≡ effects_in (decided_in c) = all_told c led c.in_flight (λ g j. j) in
    gone_held (records_in c) (effects_on_way c.in_flight) f
    (subst AreDecided (sym told) (are_decided (decided_in c) (λ d j. decided_again c led d j))) i

pub removed_on_none : (c : Cluster) → LedHolds c → PathsHold c → IsTree (nodes_of (held_by c)) → (f : List ℕ)
    → In (RemoveNode f) (effects_on_way c.in_flight) → IsOnPath c.servers f → ⊥
removed_on_none c led h tree f i on =
    let wrong : false ≡ true = sym (ap (λ (o : Option Node). is_some o) (gone_by_now c led f i)) ∙ path_lives c h tree f on in
    absurd (cc wrong)
