-- What paths rest on holds where all that holds between events does, and servers keep what they have to keep.
use Rattle.std.proofs.Common.{◌≡◌, ◌∙◌, ℕ, true, false, List, [], map, sym, ap, subst, inl, inr}
use Rattle.std.specs.Prelude.{Option, Some, None, option_map, slice_get}
use Rattle.std.specs.FinMap.{get}
use Rattle.std.specs.List.{flat_map, list_any}
use Rattle.fs_ident.specs.Ident.{same}
use Rattle.fs_ident.specs.In.{In}
use Rattle.fs_ident.specs.declared.kind.Kind.TheVariants.{File, Dir}
use Rattle.fs_ident.proofs.Standing.{In-front, In-got, In-map, In-mapped}
use Rattle.fs_field.specs.After.{changed_file}
use Rattle.fs_field.specs.declared.effect.Effect.{Effect}
use Rattle.fs_field.specs.declared.effect.Effect.TheVariants.{SetChild, SetParent, NewNode, RemoveNode, AddHandle, RemoveHandle, SetInfo}
use Rattle.fs_field.specs.declared.used.Part.{Part}
use Rattle.fs_model.specs.Sound.{IsTree, child_of, kind_of, parent_of}
use Rattle.fs_model.specs.Step.{children_of}
use Rattle.fs_record.specs.Records.{RecordMap, node_of, nodes_of}
use Rattle.fs_record.specs.declared.record.Record.{Record}
use Rattle.fs_record.proofs.NodeMaps.{node_there}
use Rattle.fs_server.specs.PathSteps.{dir_here, has_child}
use Rattle.fs_server.specs.Server.{is_mine}
use Rattle.fs_server.specs.declared.state.Server.{Server}
use Rattle.fs_txn.specs.Decided.{AreDecided, IsDecided}
use Rattle.fs_txn.specs.Grants.{Decided, IsBare, effects_in}
use Rattle.fs_txn.specs.Leading.{said_by}
use Rattle.fs_txn.specs.Ready.{agreed_of}
use Rattle.fs_txn.specs.Stages.{Key, word_to}
use Rattle.fs_txn.specs.Stages.Word.{Decide}
use Rattle.fs_txn.proofs.Keys.{key_is}
use Rattle.fs_serial.specs.Cluster.{Cluster, parcels_of}
use Rattle.fs_serial.specs.Decided.{AllDecidedStand}
use Rattle.fs_serial.specs.Fresh.{made}
use Rattle.fs_serial.specs.KeptFiles.{FilesKept, IsKeptFor}
use Rattle.fs_serial.specs.PathLaws.{WhatPathsRestOn}
use Rattle.fs_serial.specs.Paths.{has_record, is_kept}
use Rattle.fs_serial.specs.Runs.{held_by, records_in}
use Rattle.fs_serial.specs.Seen.{ClusterHolds, with_all}
use Rattle.fs_serial.specs.Words.{decided_in, key_of, said_at, telling_of}
use Rattle.fs_serial.proofs.DecidedEffects.Deciding as deciding
use Rattle.fs_serial.proofs.DecidedEffects.GuardsAgain.{decided_again}
use Rattle.fs_serial.proofs.DecidedEffects.HeldSeen.{held_same, held_seen}
use Rattle.fs_serial.proofs.DecidedEffects.ToldParts.{HasReady, mine_of, ready}
use Rattle.fs_serial.proofs.Paths.OnTheWay.{HasNamed, LeavesIn, LeavesName, dir_all, has_dir, kept_among, name_all, named_child}
use Rattle.fs_serial.proofs.Places.AllHere.{record_at_home}
use Rattle.fs_serial.proofs.Places.OnePlaces.{one_server}
use Rattle.fs_serial.proofs.WholeRuns.ClusterClients.{some_server}

module _ (skew greatest : ℕ) (c : Cluster) (h : ClusterHolds skew greatest c) where
  abbrev held : RecordMap
  held = held_seen c

  same_held : held_by c ≡ held
  same_held = held_same c h.led

  -- the server that manages a file is one
  pub one_home : (s t : Server) (f : List ℕ) → In s c.servers → In t c.servers → is_mine s f ≡ true → is_mine t f ≡ true → s ≡ t
  one_home s t f = one_server c.servers (parcels_of c.in_flight) h.places.one f s t

  -- what has a record at a server is managed there
  pub at_home : (s : Server) (f : List ℕ) → In s c.servers → has_record s f ≡ true → is_mine s f ≡ true
  at_home s f i has = (h.places.homes s i).records f has

  -- ## Directories

  in_held : (o : Option (List ℕ × List ℕ)) (d : List ℕ) → option_map (λ (place : List ℕ × List ℕ). place.0) o ≡ Some d
      → (name : List ℕ) × (o ≡ Some (d, name))
  in_held None d e = absurd (cc e)
  in_held (Some p) d e = let same_dir : p.0 ≡ d = cc in (p.1, ap (λ (x : List ℕ). Some (x, p.1)) same_dir)

  dirs : (f d : List ℕ) → dir_here (held_by c) f ≡ Some d → made c.journal d ≡ Some Dir
  dirs f d e =
      let q = some_server c h.places in
      let all = (h.parts q.0 q.1).0.all in
      let place = in_held (parent_of (node_of (get held f))) d (sym (ap (λ (m : RecordMap). dir_here m f) same_held) ∙ e) in
      let there : parent_of (get (nodes_of held) f) ≡ Some (d, place.0) = ap parent_of (node_there held f) ∙ place.1 in
      all.kept.made d Dir (sym (ap kind_of (node_there held d)) ∙ all.kept.sound.space.tree.in_directories f d place.0 there)

  one : (j k : ℕ) (s t : Server) (f : List ℕ) → slice_get c.servers j ≡ Some s → slice_get c.servers k ≡ Some t
      → has_record s f ≡ true → has_record t f ≡ true → j ≡ k
  one j k s t f a b here there =
      let i : In s c.servers = In-got c.servers j s a in
      let l : In t c.servers = In-got c.servers k t b in
      sym (h.places.numbered j s a) ∙ ap (λ (x : Server). x.me) (one_home s t f i l (at_home s f i here) (at_home t f l there))
      ∙ h.places.numbered k t b

  -- ## What is on its way is told, and its part is kept

  -- it is decided, and told
  record IsOnWay (e : Effect) : Type 0 where
    decided : Decided
    stands : In decided (decided_in c)
    is : decided.effect ≡ e
    key : Key
    at : ℕ
    effects : List Effect
    word : In (word_to key at (Decide effects)) (telling_of c.in_flight)
    among : In e effects

  abbrev way : List Effect
  way = effects_in (decided_in c)

  on_way : (e : Effect) → In e way → IsOnWay e
  on_way e i =
      let q = In-map (λ (d : Decided). d.effect) e (decided_in c) i in
      let d : Decided = q.0 in
      let f = deciding.deciding_in c.servers c.in_flight d q.1.0 in
      let w = deciding.w c h.led d f.0 f.1.0 f.1.1 in
      record {
        decided = d;
        stands = q.1.0;
        is = sym q.1.1;
        key = deciding.key c h.led d f.0 f.1.0 f.1.1;
        at = w.at;
        effects = w.effects;
        word = deciding.told c h.led d f.0 f.1.0 f.1.1;
        among = subst (λ x. In x w.effects) (sym q.1.1) (deciding.told_effect c h.led d f.0 f.1.0 f.1.1);
      }

  are_decided : AreDecided way
  are_decided e i = let t = on_way e i in subst IsDecided t.is (decided_again c h.led t.decided t.stands)

  -- the part that is told it
  abbrev ready_for : (e : Effect) (t : IsOnWay e) → HasReady c.servers t.key t.at (h.led.parts t.key)
  ready_for e t = ready c h.led t.key t.at t.effects t.word

  module _ (kept : FilesKept c) where
    abbrev part_of : (e : Effect) → IsOnWay e → Part
    part_of e t = ((ready_for e t).part).part

    -- the server that manages the file of the effect keeps what its part keeps
    keeps : (e : Effect) (t : IsOnWay e) (s : Server) (f : List ℕ) → In s c.servers → is_mine s (changed_file e) ≡ true
        → (part_of e t).freeze ≡ Some f → is_kept s f ≡ true
    keeps e t s f i mine freeze =
        let r : HasReady c.servers t.key t.at (h.led.parts t.key) = ready_for e t in
        let there : In r.server c.servers = In-got c.servers t.at r.server r.there in
        let said : In (agreed_of r.part) (said_at r.server) =
        In-front (agreed_of r.part) (map agreed_of r.server.prepared) (flat_map (said_by r.server.me) r.server.leading)
        (In-mapped agreed_of r.part r.server.prepared r.among) in
        let frozen = kept.here r.server there (agreed_of r.part) f said freeze in
        subst (λ x. is_kept x f ≡ true)
        (one_home r.server s (changed_file e) there i (mine_of c h.led t.key t.at t.effects t.word h.places e t.among) mine)
        (kept_among f (agreed_of r.part).key.txn r.server.paths.frozen frozen)

    -- where a server does not keep a directory
    module _ (k : ℕ) (s : Server) (f : List ℕ) (at : slice_get c.servers k ≡ Some s) (dir : made c.journal f ≡ Some Dir)
        (free : is_kept s f ≡ false) where
      here : In s c.servers
      here = In-got c.servers k s at

      no_file : made c.journal f ≡ Some File → ⊥
      no_file is = let wrong : Some File ≡ Some Dir = sym is ∙ dir in absurd (cc wrong)

      -- no part keeps it on whose file an effect is on its way here
      not_frozen : (e : Effect) (t : IsOnWay e) → is_mine s (changed_file e) ≡ true → (part_of e t).freeze ≡ Some f → ⊥
      not_frozen e t mine freeze = let wrong : true ≡ false = sym (keeps e t s f here mine freeze) ∙ free in absurd (cc wrong)

      kept_for : (e : Effect) (t : IsOnWay e) → IsKeptFor (records_in c) c.journal (part_of e t) e
      kept_for e t =
          let r : HasReady c.servers t.key t.at (h.led.parts t.key) = ready_for e t in
          let its : key_of (r.part).txn (r.part).number ≡ t.key = key_is (key_of (r.part).txn (r.part).number) t.key r.its in
          kept.told r.server (In-got c.servers t.at r.server r.there) r.part r.among t.at t.effects
          (subst (λ (z : Key). In (word_to z t.at (Decide t.effects)) (telling_of c.in_flight)) (sym its) t.word) e t.among

      -- ## Where it stands

      leaves_in : is_mine s f ≡ true → (e : Effect) → In e way → LeavesIn (dir_here (records_in c) f) f e
      leaves_in mine e i =
          let t = on_way e i in
          by (part_of e t) e (kept_for e t) (λ q. not_frozen e t (subst (λ x. is_mine s x ≡ true) (sym q) mine))
        where
          by : (p : Part) (x : Effect) → IsKeptFor (records_in c) c.journal p x → (changed_file x ≡ f → p.freeze ≡ Some f → ⊥)
              → LeavesIn (dir_here (records_in c) f) f x
          by p (SetParent file to name) q none = λ e. elim q as (λ _. dir_here (records_in c) f ≡ Some to) [
            | inl is ↦ absurd (no_file (sym (ap (made c.journal) e) ∙ is))
            | inr (inl r) ↦ absurd (none e (r ∙ ap Some e))
            | inr (inr stays) ↦ ap (dir_here (records_in c)) (sym e) ∙ stays
          ]
          by p (RemoveNode file) q none = λ e. elim q as (λ _. ⊥) [
            | inl is ↦ no_file (sym (ap (made c.journal) e) ∙ is)
            | inr r ↦ none e (r ∙ ap Some e)
          ]
          by p (SetChild a b z) q none = tt
          by p (NewNode a b z n) q none = tt
          by p (AddHandle a b z n) q none = tt
          by p (RemoveHandle a b z) q none = tt
          by p (SetInfo a b z) q none = tt

      pub placed : has_record s f ≡ true → dir_here s.records f ≡ dir_here (held_by c) f
      placed has =
          let mine : is_mine s f ≡ true = at_home s f here has in
          sym (ap (λ (o : Option Record). option_map (λ (place : List ℕ × List ℕ). place.0) (parent_of (node_of o))) (record_at_home k c s at h.places f mine))
          ∙ sym (dir_all (records_in c) f way are_decided (leaves_in mine))
          ∙ sym (ap (λ (m : RecordMap). dir_here m f) same_held)

      -- ## What lists it

      module _ (d : List ℕ) (has : has_child s.records d f ≡ true) where
        mine : is_mine s d ≡ true
        mine = at_home s d here (has_dir s.records d f has)

        has_too : has_child (records_in c) d f ≡ true
        has_too =
            ap (λ (o : Option Record). list_any (λ (x : List ℕ × List ℕ). same x.1 f) (children_of (node_of o)))
            (record_at_home k c s at h.places d mine) ∙ has

        all : AllDecidedStand (decided_in c) (with_all s c) c.journal
        all = (h.parts s here).1.all

        named : HasNamed (records_in c) d f
        named = named_child (records_in c) d f all.records has_too

        leaves_name : (e : Effect) → In e way → LeavesName d named.name e
        leaves_name e i =
            let t = on_way e i in
            by (part_of e t) e (kept_for e t) (λ q. not_frozen e t (subst (λ x. is_mine s x ≡ true) (sym q) mine))
            (subst (IsBare (records_in c)) t.is (all.stand t.decided t.stands).bare)
          where
            by : (p : Part) (x : Effect) → IsKeptFor (records_in c) c.journal p x → (changed_file x ≡ d → p.freeze ≡ Some f → ⊥)
                → IsBare (records_in c) x → LeavesName d named.name x
            by p (SetChild to name None) q none bare = λ e n. elim (q f
                (ap (λ y. child_of (node_of (get (records_in c) y)) name) e
                ∙ ap (child_of (node_of (get (records_in c) d))) n ∙ named.is)) as (λ _. ⊥) [
                  | inl is ↦ no_file is
                  | inr r ↦ none e r
                ]
            by p (SetChild to name (Some z)) q none bare = tt
            by p (RemoveNode file) q none bare = λ e.
                let nothing : children_of (node_of (get (records_in c) d)) ≡ [] =
                sym (ap (λ y. children_of (node_of (get (records_in c) y))) e) ∙ bare.0 in
                let wrong : true ≡ false = sym has_too ∙ ap (list_any (λ (x : List ℕ × List ℕ). same x.1 f)) nothing in
                absurd (cc wrong)
            by p (SetParent a b z) q none bare = tt
            by p (NewNode a b z n) q none bare = tt
            by p (AddHandle a b z n) q none bare = tt
            by p (RemoveHandle a b z) q none bare = tt
            by p (SetInfo a b z) q none bare = tt

        pub listed : dir_here (held_by c) f ≡ Some d
        listed =
            let tree : IsTree (nodes_of held) = (h.parts s here).0.all.kept.sound.space.tree in
            let child : child_of (get (nodes_of held) d) named.name ≡ Some f =
            ap (λ o. child_of o named.name) (node_there held d) ∙ name_all (records_in c) d named.name way are_decided leaves_name ∙ named.is in
            let stands : parent_of (node_of (get held f)) ≡ Some (d, named.name) =
            sym (ap parent_of (node_there held f)) ∙ (tree.agreeing d named.name f).0 child in
            ap (λ (m : RecordMap). dir_here m f) same_held ∙ ap (option_map (λ (place : List ℕ × List ℕ). place.0)) stands

pub paths_stand : WhatPathsRestOn
paths_stand skew greatest c h kept = record {
  dirs = dirs skew greatest c h;
  one = one skew greatest c h;
  placed = λ k s f at dir has free. placed skew greatest c h kept k s f at dir free has;
  listed = λ k s f d at dir has free. listed skew greatest c h kept k s f at dir free d has;
}
