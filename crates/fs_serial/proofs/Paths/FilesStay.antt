-- Files that stay where they are: where a server has the record of a file as before, and it names the same directory, the file stands there
-- in what all servers hold together as before.
use Rattle.std.proofs.Common.{◌≡◌, ◌∙◌, ℕ, zero, suc, Bool, true, false, List, [], ◌∷◌, refl, sym, ap, subst, cond, inl, inr}
use Rattle.std.specs.Prelude.{Option, Some, None, is_some, slice_get, slice_set}
use Rattle.std.specs.Ordering.{nat_cmp, eq_by_cmp}
use Rattle.std.specs.Cmp.Lexicographic.{slice_cmp, nat_list_cmp_total}
use Rattle.std.specs.FinMap.{empty, entries, entries_sorted, get, get-entries, get-insert, insert}
use Rattle.fs_ident.specs.In.{In}
use Rattle.fs_ident.specs.Ordered.{Keyed}
use Rattle.fs_ident.proofs.Booleans.{holds}
use Rattle.fs_field.specs.After.{changed_file}
use Rattle.fs_field.specs.declared.effect.Effect.{Effect}
use Rattle.fs_field.specs.declared.effect.Effect.TheVariants.{SetChild, SetParent, NewNode, RemoveNode, AddHandle, RemoveHandle, SetInfo}
use Rattle.fs_record.specs.Applied.{record_change, records_after, records_after_all}
use Rattle.fs_record.specs.Moving.{with_records}
use Rattle.fs_record.specs.Records.{RecordMap, node_of}
use Rattle.fs_record.specs.declared.parcel.Parcel.{Parcel}
use Rattle.fs_record.specs.declared.record.Record.{Record}
use Rattle.fs_record.proofs.Coming.{come_at, or_else}
use Rattle.fs_record.proofs.Undoing.{get_here}
use Rattle.fs_server.specs.Server.{Stepped}
use Rattle.fs_server.specs.declared.event.ServerEvent.{ServerEvent}
use Rattle.fs_server.specs.declared.state.Server.{Server}
use Rattle.fs_txn.specs.Decided.{held_with}
use Rattle.fs_serial.specs.Cluster.{Cluster, after_step, parcels_of}
use Rattle.fs_serial.specs.Joined.{effects_on_way, records_of_all, with_all_of, with_parcels}
use Rattle.fs_serial.specs.Runs.{held_by}
use Rattle.fs_serial.proofs.DecidedEffects.Underway.{either_file, node_beside}
use Rattle.fs_serial.proofs.Paths.OnTheWay.{dir_in}

-- ## One record

-- there is a record then where there was one before, and it names the same directory
pub record StaysAt (o p : Option Record) : Type 0 where
  pub there : is_some p ≡ is_some o
  pub dir : dir_in (node_of p) ≡ dir_in (node_of o)

pub at_itself : (o : Option Record) → StaysAt o o
at_itself o = record { there = refl; dir = refl }

pub at_then : (a b c : Option Record) → StaysAt a b → StaysAt b c → StaysAt a c
at_then a b c p q = record { there = q.there ∙ p.there; dir = q.dir ∙ p.dir }

-- whatever effect changes both
both_some : (e : Effect) (r t : Record) → StaysAt (Some r) (Some t) → StaysAt (record_change e (Some r)) (record_change e (Some t))
both_some (SetChild d n None) r t s = record { there = refl; dir = s.dir }
both_some (SetChild d n (Some f)) r t s = record { there = refl; dir = s.dir }
both_some (SetParent f d n) r t s = record { there = refl; dir = refl }
both_some (NewNode f kind d n) r t s = record { there = refl; dir = refl }
both_some (RemoveNode f) r t s = record { there = refl; dir = refl }
both_some (AddHandle f by h modes) r t s = record { there = refl; dir = s.dir }
both_some (RemoveHandle f by h) r t s = record { there = refl; dir = s.dir }
both_some (SetInfo f size stamp) r t s = record { there = refl; dir = s.dir }

both_changed : (e : Effect) (o p : Option Record) → StaysAt o p → StaysAt (record_change e o) (record_change e p)
both_changed e None None s = at_itself (record_change e None)
both_changed e None (Some t) s = let wrong : true ≡ false = s.there in absurd (cc wrong)
both_changed e (Some r) None s = let wrong : false ≡ true = s.there in absurd (cc wrong)
both_changed e (Some r) (Some t) s = both_some e r t s

-- ## An effect

-- the effect makes no such file, takes none away and gives none a place
abbrev pub LeavesFile : List ℕ → Effect → Type 0
LeavesFile f (SetParent file dir name) = file ≡ f → ⊥
LeavesFile f (NewNode file kind dir name) = file ≡ f → ⊥
LeavesFile f (RemoveNode file) = file ≡ f → ⊥
LeavesFile f e = Unit {0}

left_some : (e : Effect) (r : Record) → LeavesFile (changed_file e) e → StaysAt (Some r) (record_change e (Some r))
left_some (SetChild d n None) r l = record { there = refl; dir = refl }
left_some (SetChild d n (Some f)) r l = record { there = refl; dir = refl }
left_some (AddHandle f by h modes) r l = record { there = refl; dir = refl }
left_some (RemoveHandle f by h) r l = record { there = refl; dir = refl }
left_some (SetInfo f size stamp) r l = record { there = refl; dir = refl }
left_some (SetParent f d n) r l = absurd (l refl)
left_some (NewNode f kind d n) r l = absurd (l refl)
left_some (RemoveNode f) r l = absurd (l refl)

left_none : (e : Effect) → LeavesFile (changed_file e) e → StaysAt None (record_change e None)
left_none (SetChild d n to) l = record { there = refl; dir = refl }
left_none (AddHandle f by h modes) l = record { there = refl; dir = refl }
left_none (RemoveHandle f by h) l = record { there = refl; dir = refl }
left_none (SetInfo f size stamp) l = record { there = refl; dir = refl }
left_none (SetParent f d n) l = absurd (l refl)
left_none (NewNode f kind d n) l = absurd (l refl)
left_none (RemoveNode f) l = absurd (l refl)

left_at : (e : Effect) (o : Option Record) → LeavesFile (changed_file e) e → StaysAt o (record_change e o)
left_at e None l = left_none e l
left_at e (Some r) l = left_some e r l

-- ## Records

-- of the file
abbrev pub StaysThere : List ℕ → RecordMap → RecordMap → Type 0
StaysThere f m n = StaysAt (get m f) (get n f)

changed_here : (m : RecordMap) (e : Effect) → get (records_after m e) (changed_file e) ≡ record_change e (get m (changed_file e))
changed_here m e = get_here m (changed_file e) (record_change e (get m (changed_file e)))

pub effect_leaves : (m : RecordMap) (f : List ℕ) (e : Effect) → LeavesFile f e → StaysThere f m (records_after m e)
effect_leaves m f e l = elim (either_file f (changed_file e)) as (λ _. StaysThere f m (records_after m e)) [
  | inl s ↦ subst (λ (x : List ℕ). LeavesFile x e → StaysThere x m (records_after m e)) (sym s)
      (λ k. subst (StaysAt (get m (changed_file e))) (sym (changed_here m e)) (left_at e (get m (changed_file e)) k)) l
  | inr other ↦ subst (StaysAt (get m f)) (sym (node_beside m e f other)) (at_itself (get m f))
]

pub effects_leave : (m : RecordMap) (f : List ℕ) (es : List Effect) → ((e : Effect) → In e es → LeavesFile f e)
    → StaysThere f m (records_after_all m es)
effects_leave m f [] l = at_itself (get m f)
effects_leave m f (e ∷ es) l =
    at_then (get m f) (get (records_after m e) f) (get (records_after_all (records_after m e) es) f)
    (effect_leaves m f e (l e (inl refl))) (effects_leave (records_after m e) f es (λ x i. l x (inr i)))

-- the same effects change both
effect_alike : (m n : RecordMap) (f : List ℕ) (e : Effect) → StaysThere f m n → StaysThere f (records_after m e) (records_after n e)
effect_alike m n f e stays = elim (either_file f (changed_file e)) as (λ _. StaysThere f (records_after m e) (records_after n e)) [
  | inl s ↦ subst (λ (x : List ℕ). StaysThere x m n → StaysThere x (records_after m e) (records_after n e)) (sym s)
      (λ k. subst (λ o. StaysAt o (get (records_after n e) (changed_file e))) (sym (changed_here m e))
      (subst (StaysAt (record_change e (get m (changed_file e)))) (sym (changed_here n e))
      (both_changed e (get m (changed_file e)) (get n (changed_file e)) k))) stays
  | inr other ↦ subst (λ o. StaysAt o (get (records_after n e) f)) (sym (node_beside m e f other))
      (subst (StaysAt (get m f)) (sym (node_beside n e f other)) stays)
]

effects_alike : (m n : RecordMap) (f : List ℕ) (es : List Effect) → StaysThere f m n
    → StaysThere f (records_after_all m es) (records_after_all n es)
effects_alike m n f [] stays = stays
effects_alike m n f (e ∷ es) stays = effects_alike (records_after m e) (records_after n e) f es (effect_alike m n f e stays)

-- the same records come to both
put_alike : (m n : RecordMap) (f : List ℕ) (es : Keyed Record) → StaysThere f m n → StaysThere f (with_records es m) (with_records es n)
put_alike m n f [] stays = stays
put_alike m n f (e ∷ es) stays = put_alike (insert m e.0 e.1) (insert n e.0 e.1) f es
    (subst (λ o. StaysAt o (get (insert n e.0 e.1) f)) (sym (get-insert nat_list_cmp_total m e.0 e.1 f))
    (subst (StaysAt (cond (eq_by_cmp (slice_cmp nat_cmp) f e.0) (Some e.1) (get m f))) (sym (get-insert nat_list_cmp_total n e.0 e.1 f))
    (by (eq_by_cmp (slice_cmp nat_cmp) f e.0))))
  where
    by : (b : Bool) → StaysAt (cond b (Some e.1) (get m f)) (cond b (Some e.1) (get n f))
    by true = at_itself (Some e.1)
    by false = stays

-- ## All servers

joined_at : (r m : RecordMap) (f : List ℕ) → get (with_records (entries r) m) f ≡ or_else (get r f) (get m f)
joined_at r m f = come_at f (entries r) m (holds _ (entries_sorted r)) ∙ ap (λ o. or_else o (get m f)) (sym (get-entries r f))

or_alike : (a b o p : Option Record) → StaysAt a b → StaysAt o p → StaysAt (or_else a o) (or_else b p)
or_alike None None o p s t = t
or_alike None (Some y) o p s t = let wrong : true ≡ false = s.there in absurd (cc wrong)
or_alike (Some x) None o p s t = let wrong : false ≡ true = s.there in absurd (cc wrong)
or_alike (Some x) (Some y) o p s t = s

all_alike : (ss : List Server) (m n : RecordMap) (f : List ℕ) → StaysThere f m n → StaysThere f (with_all_of ss m) (with_all_of ss n)
all_alike [] m n f stays = stays
all_alike (s ∷ ss) m n f stays =
    all_alike ss (with_records (entries s.records) m) (with_records (entries s.records) n) f (put_alike m n f (entries s.records) stays)

set_alike : (ss : List Server) (k : ℕ) (s t : Server) (m : RecordMap) (f : List ℕ) → slice_get ss k ≡ Some s
    → StaysThere f s.records t.records → StaysThere f (with_all_of ss m) (with_all_of (slice_set ss k t) m)
set_alike [] k s t m f at stays = absurd (cc at)
set_alike (x ∷ xs) zero s t m f at stays =
    let q : x ≡ s = cc at in
    let its : StaysThere f x.records t.records = subst (λ (y : Server). StaysThere f y.records t.records) (sym q) stays in
    all_alike xs (with_records (entries x.records) m) (with_records (entries t.records) m) f
    (subst (λ o. StaysAt o (get (with_records (entries t.records) m) f)) (sym (joined_at x.records m f))
    (subst (StaysAt (or_else (get x.records f) (get m f))) (sym (joined_at t.records m f))
    (or_alike (get x.records f) (get t.records f) (get m f) (get m f) its (at_itself (get m f)))))
set_alike (x ∷ xs) (suc k) s t m f at stays = set_alike xs k s t (with_records (entries x.records) m) f at stays

parcels_alike : (ps : List Parcel) (m n : RecordMap) (f : List ℕ) → StaysThere f m n → StaysThere f (with_parcels ps m) (with_parcels ps n)
parcels_alike [] m n f stays = stays
parcels_alike (p ∷ ps) m n f stays =
    parcels_alike ps (with_records p.records m) (with_records p.records n) f (put_alike m n f p.records stays)

-- no parcel comes or goes, and no effect
pub record SameOnWay (c later : Cluster) : Type 0 where
  pub parcels : parcels_of later.in_flight ≡ parcels_of c.in_flight
  pub effects : effects_on_way later.in_flight ≡ effects_on_way c.in_flight

-- the file stands where it stood, in what all hold together
pub file_stays : (c : Cluster) (k : ℕ) (e : ServerEvent) (s : Server) (x : Stepped) (f : List ℕ) → slice_get c.servers k ≡ Some s
    → SameOnWay c (after_step k e x c) → StaysThere f s.records x.server.records → StaysThere f (held_by c) (held_by (after_step k e x c))
file_stays c k e s x f at way stays =
    let ps : List Parcel = parcels_of c.in_flight in
    let es : List Effect = effects_on_way c.in_flight in
    let then : List Server = slice_set c.servers k x.server in
    let ds : List Effect = effects_on_way (after_step k e x c).in_flight in
    subst (λ (qs : List Parcel). StaysThere f (held_by c) (held_with ds (records_of_all then qs)))
    (sym way.parcels)
    (subst (λ (xs : List Effect). StaysThere f (held_by c) (held_with xs (records_of_all then ps))) (sym way.effects)
    (effects_alike (records_of_all c.servers ps) (records_of_all then ps) f es
    (parcels_alike ps (with_all_of c.servers empty) (with_all_of then empty) f (set_alike c.servers k s x.server empty f at stays))))
