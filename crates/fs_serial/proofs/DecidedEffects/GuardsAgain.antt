-- What is decided and told is guarded, whatever else is unlocked.
use Rattle.std.proofs.Common.{◌≡◌, ◌==◌, ◌≤◌, ℕ, Bool, true, false, List, [], ◌∷◌, ◌++◌, length, refl, sym, ap, ◌∙◌, subst, inl, inr, arith}
use Rattle.std.specs.Prelude.{Option, Some, None}
use Rattle.std.specs.FinMap.{get}
use Rattle.std.proofs.lemmas.Grind.{flat_map-append}
use Rattle.std.proofs.lemmas.List.{length-map, map-append}
use Rattle.fs_ident.specs.In.{In}
use Rattle.fs_ident.specs.declared.actor.Session.{Session}
use Rattle.fs_ident.proofs.Same.{itself, one_session}
use Rattle.fs_ident.proofs.Standing.{In-behind, In-map}
use Rattle.fs_field.specs.declared.effect.Effect.{Effect}
use Rattle.fs_field.specs.declared.effect.Effect.TheVariants.{SetChild, SetParent, NewNode, RemoveNode, AddHandle, RemoveHandle, SetInfo}
use Rattle.fs_model.specs.Sound.{parent_of}
use Rattle.fs_model.specs.declared.node.Node.{Node}
use Rattle.fs_record.specs.Applied.{node_change, records_after, records_after_all}
use Rattle.fs_record.specs.Records.{RecordMap, node_of, nodes_of}
use Rattle.fs_record.proofs.AllApplied.{records_after_all-append}
use Rattle.fs_record.proofs.NodeMaps.{node_there}
use Rattle.fs_server.specs.declared.state.Server.{Server}
use Rattle.fs_txn.specs.Decided.{IsApart, IsDecided}
use Rattle.fs_txn.specs.Grants.{Decided, effects_in}
use Rattle.fs_txn.specs.Guards.{IsGuarded}
use Rattle.fs_txn.proofs.Guarded.{guarded_apart}
use Rattle.fs_serial.specs.Cluster.{Cluster, InFlight, parcels_of}
use Rattle.fs_serial.specs.Decided.{DecidedStands}
use Rattle.fs_serial.specs.Joined.{records_of_all}
use Rattle.fs_serial.specs.Leading.{LedHolds}
use Rattle.fs_serial.specs.Refusals.{rows_in}
use Rattle.fs_serial.specs.Words.{decided_among, decided_by, decided_in}
use Rattle.fs_serial.specs.Seen.{ClusterHolds}
use Rattle.fs_serial.proofs.DecidedEffects.Deciding.{IsDeciding, among_told, deciding_in, its_effects, told_by}
pub use Rattle.fs_serial.proofs.DecidedEffects.Deciding.{is_decided, its_session, told, told_effect, w}
use Rattle.fs_serial.proofs.DecidedEffects.HeldSeen.{held_seen}
use Rattle.fs_serial.proofs.DecidedEffects.OwnApart.{own_files}
use Rattle.fs_serial.proofs.DecidedEffects.ToldParts.{IsPutIn, told_guarded}
use Rattle.fs_serial.proofs.DecidedEffects.Underway.{effect_of, node_changed, place_all}

-- a file that gets its place stands there in what all hold together
abbrev pub IsPut : Cluster → Decided → Type 0
IsPut c d = IsPutIn (nodes_of (held_seen c)) d.effect

module _ (c : Cluster) (led : LedHolds c) (d : Decided) (f : InFlight) (there : In f c.in_flight) (p : IsDeciding c.servers f d) where
  pub is_guarded : IsPut c d → IsGuarded (rows_in c) (nodes_of (held_seen c)) d.by d.effect
  is_guarded put =
      let word = w c led d f there p in
      subst (λ s. IsGuarded (rows_in c) (nodes_of (held_seen c)) s d.effect) (its_session c led d f there p)
      (told_guarded c led _ word.at word.effects d.effect (told c led d f there p) (told_effect c led d f there p)
      (nodes_of (held_seen c)) put)

pub guarded_again : (c : Cluster) → LedHolds c → (d : Decided) → In d (decided_in c) → IsPut c d
    → IsGuarded (rows_in c) (nodes_of (held_seen c)) d.by d.effect
guarded_again c led d i put =
    let q = deciding_in c.servers c.in_flight d i in
    is_guarded c led d q.0 q.1.0 q.1.1 put

pub decided_again : (c : Cluster) → LedHolds c → (d : Decided) → In d (decided_in c) → IsDecided d.effect
decided_again c led d i =
    let q = deciding_in c.servers c.in_flight d i in
    is_decided c led d q.0 q.1.0 q.1.1

-- ## Each file that gets its place has it

split_in : {X : Type 0} (x : X) (xs : List X) → In x xs → (front : List X) × ((back : List X) × (xs ≡ front ++ x ∷ back))
split_in x [] i = absurd i
split_in x (y ∷ ys) (inl e) = ([], (ys, ap (λ z. z ∷ ys) (sym e)))
split_in x (y ∷ ys) (inr i) = let q = split_in x ys i in (y ∷ q.0, (q.1.0, ap (λ zs. y ∷ zs) q.1.1))

pub alone_in : {X : Type 0} (x : X) (xs : List X) → In x xs → length xs ≤ 1 → xs ≡ x ∷ []
alone_in x [] i n = absurd i
alone_in x (y ∷ []) (inl e) n = ap (λ z. z ∷ []) (sym e)
alone_in x (y ∷ []) (inr i) n = absurd i
alone_in x (y ∷ z ∷ zs) i n = absurd (omega (arith, n))

-- a node that has a place is one, and gets this place
put_in : (o : Option Node) (file dir name : List ℕ) (p : List ℕ × List ℕ) → parent_of (node_change (SetParent file dir name) o) ≡ Some p
    → parent_of (node_change (SetParent file dir name) o) ≡ Some (dir, name)
put_in None file dir name p h = absurd (cc)
put_in (Some n) file dir name p h = refl

module _ (skew greatest : ℕ) (c : Cluster) (h : ClusterHolds skew greatest c) (s : Server) (s_in : In s c.servers) where
  abbrev records : RecordMap
  records = records_of_all c.servers (parcels_of c.in_flight)

  abbrev held : RecordMap
  held = held_seen c

  stands : (d : Decided) → In d (decided_in c) → DecidedStands (rows_in c) records (nodes_of held) c.journal d
  stands d i = ((h.parts s s_in).1).all.stand d i

  module _ (d : Decided) (f : InFlight) (there : In f c.in_flight) (p : IsDeciding c.servers f d) where
    alone : decided_by c.servers f.message ≡ d ∷ []
    alone =
        let word = w c h.led d f there p in
        let few : length word.effects ≤ 1 = h.led.few _ word.at word.effects (told c h.led d f there p) in
        let same : length p.message.effects ≡ length word.effects = ap length (its_effects c h.led d f there p) in
        let all : length (decided_by c.servers f.message) ≡ length p.message.effects =
        ap length (told_by c.servers f d p)
        ∙ length-map p.message.effects (λ (e : Effect). let z : Decided = record { by = p.ending.session; effect = e } in z) in
        alone_in d (decided_by c.servers f.message) (among_told c.servers f d p) (omega (arith, few, same, all))

    module _ (front back : List InFlight) (whole : c.in_flight ≡ front ++ f ∷ back) where
      abbrev before : List Decided
      before = decided_among c.servers front

      abbrev behind : List Decided
      behind = decided_among c.servers back

      order : decided_in c ≡ before ++ (d ∷ behind)
      order =
          ap (decided_among c.servers) whole ∙ flat_map-append (λ (g : InFlight). decided_by c.servers g.message) front (f ∷ back)
          ∙ ap (λ ds. before ++ (ds ++ behind)) alone

      d_in : In d (decided_in c)
      d_in = subst (In d) (sym order) (In-behind d before (d ∷ behind) (inl refl))

      -- what comes behind it changes other things
      apart : (e : Decided) → In e behind → IsApart d.effect e.effect
      apart e i = by (d.by.0 == e.by.0) refl
        where
          e_in : In e (decided_in c)
          e_in = subst (In e) (sym order) (In-behind e before (d ∷ behind) (inr i))

          e_other : In e (decided_among c.servers (front ++ back))
          e_other = subst (In e) (sym (flat_map-append (λ (g : InFlight). decided_by c.servers g.message) front back))
              (In-behind e before behind i)

          by : (b : Bool) → (d.by.0 == e.by.0) ≡ b → IsApart d.effect e.effect
          by true t = λ same. absurd (own_files skew greatest c h f front back whole e d e_other (among_told c.servers f d p)
              (ap (λ (x : Session). e.by.0 == x.0) (one_session d.by e.by t) ∙ itself e.by.0) (sym same))
          by false t = guarded_apart (rows_in c) (nodes_of held) d.by e.by d.effect e.effect ((h.parts s s_in).0).all.servers.apart t
              (stands d d_in).guarded (stands e e_in).guarded

      abbrev earlier : RecordMap
      earlier = records_after_all records (effects_in before)

      held_is : held ≡ records_after_all (records_after earlier d.effect) (effects_in behind)
      held_is =
          ap (λ ds. records_after_all records (effects_in ds)) order
          ∙ ap (records_after_all records) (map-append effect_of before (d ∷ behind))
          ∙ records_after_all-append records (effects_in before) (d.effect ∷ effects_in behind)

      module _ (file dir name : List ℕ) (is : d.effect ≡ SetParent file dir name) where
        abbrev change : Effect
        change = SetParent file dir name

        place_is : parent_of (get (nodes_of held) file) ≡ parent_of (node_change change (node_of (get earlier file)))
        place_is =
            ap parent_of (node_there held file)
            ∙ ap (λ m. parent_of (node_of (get m file)))
            (held_is ∙ ap (λ e. records_after_all (records_after earlier e) (effects_in behind)) is)
            ∙ place_all (records_after earlier change) file dir name (effects_in behind) (λ e i.
            let q = In-map effect_of e behind i in
            subst (λ x. IsApart x e) is (subst (λ x. IsApart d.effect x) (sym q.1.1) (apart q.0 q.1.0)))
            ∙ ap parent_of (node_changed earlier change)

        placed : parent_of (get (nodes_of held) file) ≡ Some (dir, name)
        placed =
            let fixed = (subst (λ x. IsGuarded (rows_in c) (nodes_of held) d.by x) is (stands d d_in).guarded).0 in
            place_is ∙ put_in (node_of (get earlier file)) file dir name (fixed.dir, fixed.name) (sym place_is ∙ fixed.place)

      put_by : (x : Effect) → d.effect ≡ x → IsPutIn (nodes_of held) x
      put_by (SetParent file dir name) e = placed file dir name e
      put_by (SetChild a b z) e = tt
      put_by (NewNode a b z n) e = tt
      put_by (RemoveNode a) e = tt
      put_by (AddHandle a b z n) e = tt
      put_by (RemoveHandle a b z) e = tt
      put_by (SetInfo a b z) e = tt

    is_put : IsPut c d
    is_put = let q = split_in f c.in_flight there in put_by q.0 q.1.0 q.1.1 d.effect refl

  pub all_put : (d : Decided) → In d (decided_in c) → IsPut c d
  all_put d i = let q = deciding_in c.servers c.in_flight d i in is_put d q.0 q.1.0 q.1.1
