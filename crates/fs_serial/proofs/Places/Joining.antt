-- The namespace that is made file by file.
use Rattle.std.proofs.Common.{◌≡◌, ℕ, ◌+◌, ◌<◌, List, [], ◌∷◌, ◌++◌, length, take, get_or, Bool, true, false, refl, ap, sym, ◌∙◌, cond, inl, inr}
use Rattle.std.proofs.lemmas.List.{take_more}
use Rattle.std.proofs.lemmas.Option.{slice_get_read}
use Rattle.std.specs.Prelude.{◌⊎◌, Option, Some, None, map}
use Rattle.std.specs.Ordering.{nat_cmp, eq_by_cmp}
use Rattle.std.specs.Cmp.Lexicographic.{slice_cmp, nat_list_cmp_total}
use Rattle.std.specs.FinMap.{get, insert, empty, entries, entries_sorted, keys, find}
use Rattle.std.specs.FinMap.{get-empty, get-entries, get-insert, len-empty, len-entries, same_map}
use Rattle.fs_ident.specs.In.{In}
use Rattle.fs_ident.proofs.Booleans.{equal_is, holds}
use Rattle.fs_ident.proofs.MapsOf.{anti, put_here}
use Rattle.fs_model.specs.Namespace.{NodeMap}
use Rattle.fs_record.specs.declared.record.Record.{Record}
use Rattle.fs_model.specs.declared.node.Node.{Node}
use Rattle.fs_ident.specs.Ordered.{Keyed}
use Rattle.fs_ident.proofs.Standing.{In-got}
use Rattle.fs_map.proofs.Merging.{empty as no_entries}
use Rattle.fs_record.specs.Moving.{with_records}
use Rattle.fs_record.specs.Records.{RecordMap, node_of, nodes_of}
use Rattle.fs_record.proofs.Coming.{come_at, or_else}
use Rattle.fs_record.proofs.NodeMaps.{node_with_at}
use Rattle.fs_server.specs.declared.state.Server.{Server}
use Rattle.fs_record.specs.declared.parcel.Parcel.{Parcel}
use Rattle.fs_record.proofs.NodeMaps.{node_there}
use Rattle.fs_serial.specs.Joined.{with_all_of, with_node, with_nodes, with_nodes_in, with_parcels}

-- what has an entry is among the keys
found_in : (q : List ℕ) (es : List (List ℕ × Record)) (r : Record) → find (slice_cmp nat_cmp) q es ≡ Some r → In q (map (λ e. e.0) es)
found_in q [] r h = absurd (cc)
found_in q (e ∷ es) r h = go (eq_by_cmp (slice_cmp nat_cmp) q e.0) refl (found_in q es r) h
  where
    go : (b : Bool) → eq_by_cmp (slice_cmp nat_cmp) q e.0 ≡ b → (find (slice_cmp nat_cmp) q es ≡ Some r → In q (map (λ (e : List ℕ × Record). e.0) es)) → cond b (Some e.1) (find (slice_cmp nat_cmp) q es) ≡ Some r → In q (e.0 ∷ map (λ (e : List ℕ × Record). e.0) es)
    go true t rest h = inl (anti q e.0 (equal_is _ t))
    go false t rest h = inr (rest h)

-- the node of the record, if there is one, or this
abbrev node_or : Option Record → Option Node → Option Node
node_or None base = base
node_or (Some r) base = Some r.node

-- the file has its node, or it is yet to come
abbrev IsThereOrComes : RecordMap → NodeMap → List (List ℕ) → List ℕ → Option Node → Type 0
IsThereOrComes records m files q base = (get m q ≡ node_or (get records q) base) ⊎ (In q files × (get m q ≡ base))

module _ (records : RecordMap) (m : NodeMap) (f : List ℕ) (files : List (List ℕ)) (q : List ℕ) (base : Option Node) where
  absent : get records f ≡ None → IsThereOrComes records m (f ∷ files) q base → IsThereOrComes records m files q base
  absent e (inl h) = inl h
  absent e (inr (inl i, same)) = inl (same ∙ sym (ap (λ k. node_or (get records k) base) i ∙ ap (λ o. node_or o base) e))
  absent e (inr (inr i, same)) = inr (i, same)

  module _ (r : Record) (e : get records f ≡ Some r) where
    here : q ≡ f → get (insert m f r.node) q ≡ node_or (get records q) base
    here i = ap (get (insert m f r.node)) i ∙ put_here m f r.node ∙ sym (ap (λ k. node_or (get records k) base) i ∙ ap (λ o. node_or o base) e)

    other : eq_by_cmp (slice_cmp nat_cmp) q f ≡ false → get (insert m f r.node) q ≡ get m q
    other t = get-insert nat_list_cmp_total m f r.node q ∙ ap (λ b. cond b (Some r.node) (get m q)) t

    kept : (b : Bool) → eq_by_cmp (slice_cmp nat_cmp) q f ≡ b → get m q ≡ node_or (get records q) base → get (insert m f r.node) q ≡ node_or (get records q) base
    kept true t h = here (anti q f (equal_is _ t))
    kept false t h = other t ∙ h

    comes : (b : Bool) → eq_by_cmp (slice_cmp nat_cmp) q f ≡ b → In q files → get m q ≡ base → IsThereOrComes records (insert m f r.node) files q base
    comes true t i same = inl (here (anti q f (equal_is _ t)))
    comes false t i same = inr (i, other t ∙ same)

    put : IsThereOrComes records m (f ∷ files) q base → IsThereOrComes records (insert m f r.node) files q base
    put (inl h) = inl (kept _ refl h)
    put (inr (inl i, same)) = inl (here i)
    put (inr (inr i, same)) = comes _ refl i same

  next : (o : Option Record) → get records f ≡ o → IsThereOrComes records m (f ∷ files) q base → IsThereOrComes records (with_node f o m) files q base
  next None e h = absent e h
  next (Some r) e h = put r e h

there : (records : RecordMap) (m : NodeMap) (q : List ℕ) (base : Option Node) → IsThereOrComes records m [] q base → get m q ≡ node_or (get records q) base
there records m q base (inl h) = h
there records m q base (inr h) = absurd h.0

all_come : (records : RecordMap) (files : List (List ℕ)) (m n : NodeMap) (base : List ℕ → Option Node) → ((q : List ℕ) → get n q ≡ node_or (get records q) (base q)) → ((q : List ℕ) → IsThereOrComes records m files q (base q)) → with_nodes records files m ≡ n
all_come records [] m n base is h = same_map nat_list_cmp_total anti _ _ (λ q. there records m q (base q) (h q) ∙ sym (is q))
all_come records (f ∷ fs) m n base is h = all_come records fs (with_node f (get records f) m) n base is (λ q. next records m f fs q (base q) (get records f) refl (h q))

none_yet : (records : RecordMap) (m : NodeMap) (q : List ℕ) (o : Option Record) → get records q ≡ o → IsThereOrComes records m (keys records) q (get m q)
none_yet records m q None e = inl (sym (ap (λ p. node_or p (get m q)) e))
none_yet records m q (Some r) e = inr (found_in q (entries records) r (sym (get-entries records q) ∙ e), refl)

either : (o p : Option Record) → node_of (or_else o p) ≡ node_or o (node_of p)
either None p = refl
either (Some r) p = refl

record_or : (records m : RecordMap) (q : List ℕ) → get (nodes_of (with_records (entries records) m)) q ≡ node_or (get records q) (get (nodes_of m) q)
record_or records m q =
    node_there (with_records (entries records) m) q
    ∙ ap node_of (come_at q (entries records) m (holds _ (entries_sorted records)) ∙ ap (λ o. or_else o (get m q)) (sym (get-entries records q)))
    ∙ either (get records q) (get m q)
    ∙ ap (node_or (get records q)) (sym (node_there m q))

-- with the nodes of all files with a record
pub nodes_joined : (records m : RecordMap) → with_nodes records (keys records) (nodes_of m) ≡ nodes_of (with_records (entries records) m)
nodes_joined records m = all_come records (keys records) (nodes_of m) (nodes_of (with_records (entries records) m)) (get (nodes_of m)) (record_or records m) (λ q. none_yet records (nodes_of m) q (get records q) refl)

-- where nothing was there
alone : (o : Option Record) (base : Option Node) → base ≡ None → node_of o ≡ node_or o base
alone None base e = sym e
alone (Some r) base e = refl

-- with them alone
pub nodes_alone : (m : RecordMap) → with_nodes m (keys m) empty ≡ nodes_of m
nodes_alone m =
    all_come m (keys m) empty (nodes_of m) (get empty)
    (λ q. node_there m q ∙ alone (get m q) (get empty q) (get-empty (slice_cmp nat_cmp) q))
    (λ q. none_yet m empty q (get m q) refl)

-- with those of a list of records
pub nodes_listed : (es : Keyed Record) (m : RecordMap) → with_nodes_in es (nodes_of m) ≡ nodes_of (with_records es m)
nodes_listed [] m = refl
nodes_listed (e ∷ es) m = ap (with_nodes_in es) (sym (node_with_at m e.0 (Some e.1))) ∙ nodes_listed es (insert m e.0 e.1)

-- ## One server or parcel more

pub one_server : (servers : List Server) (s : Server) (m : RecordMap) → with_all_of (servers ++ s ∷ []) m ≡ with_records (entries s.records) (with_all_of servers m)
one_server [] s m = refl
one_server (t ∷ ts) s m = one_server ts s (with_records (entries t.records) m)

one_parcel : (parcels : List Parcel) (p : Parcel) (m : RecordMap) → with_parcels (parcels ++ p ∷ []) m ≡ with_records p.records (with_parcels parcels m)
one_parcel [] p m = refl
one_parcel (t ∷ ts) p m = one_parcel ts p (with_records t.records m)

pub server_joined : (servers : List Server) (s : Server) (m : RecordMap) → with_nodes s.records (keys s.records) (nodes_of (with_all_of servers m)) ≡ nodes_of (with_all_of (servers ++ s ∷ []) m)
server_joined servers s m = nodes_joined s.records (with_all_of servers m) ∙ ap nodes_of (sym (one_server servers s m))

pub parcel_joined : (parcels : List Parcel) (p : Parcel) (m : RecordMap) → with_nodes_in p.records (nodes_of (with_parcels parcels m)) ≡ nodes_of (with_parcels (parcels ++ p ∷ []) m)
parcel_joined parcels p m = nodes_listed p.records (with_parcels parcels m) ∙ ap nodes_of (sym (one_parcel parcels p m))

pub none_entered : entries {K = List ℕ} {X = Record} {R = slice_cmp nat_cmp} empty ≡ []
none_entered = no_entries _ (sym (len-entries {K = List ℕ} {X = Record} {R = slice_cmp nat_cmp} empty) ∙ len-empty (slice_cmp nat_cmp) Record)

pub more_servers : (servers : List Server) (i : ℕ) (s : Server) (space later : NodeMap) (records : RecordMap) → i < length servers → s ≡ get_or servers i s → records ≡ s.records → space ≡ nodes_of (with_all_of (take i servers) empty) → later ≡ with_nodes records (keys records) space
    → later ≡ nodes_of (with_all_of (take (i + 1) servers) empty)
more_servers servers i s space later records within is same h e =
    e
    ∙ ap (λ (r : RecordMap). with_nodes r (keys r) space) same
    ∙ ap (with_nodes s.records (keys s.records)) h
    ∙ server_joined (take i servers) s empty
    ∙ ap (λ (x : Server). nodes_of (with_all_of (take i servers ++ x ∷ []) empty)) is
    ∙ ap (λ (ss : List Server). nodes_of (with_all_of ss empty)) (sym (take_more servers i s within))

pub more_parcels : (parcels : List Parcel) (i : ℕ) (p : Parcel) (m : RecordMap) (space later : NodeMap) (records : Keyed Record) → i < length parcels → p ≡ get_or parcels i p → records ≡ p.records → space ≡ nodes_of (with_parcels (take i parcels) m) → later ≡ with_nodes_in records space
    → later ≡ nodes_of (with_parcels (take (i + 1) parcels) m)
more_parcels parcels i p m space later records within is same h e =
    e
    ∙ ap (λ (r : Keyed Record). with_nodes_in r space) same
    ∙ ap (with_nodes_in p.records) h
    ∙ parcel_joined (take i parcels) p m
    ∙ ap (λ (x : Parcel). nodes_of (with_parcels (take i parcels ++ x ∷ []) m)) is
    ∙ ap (λ (ps : List Parcel). nodes_of (with_parcels ps m)) (sym (take_more parcels i p within))

-- what stands at a place is among them
pub read_In : {X : Type 0} (xs : List X) (i : ℕ) (x : X) → i < length xs → x ≡ get_or xs i x → In x xs
read_In xs i x within is = In-got xs i x (slice_get_read xs (length xs) i x refl within is)
