-- Parts that are told what was decided: the server has the part ready, and its rows guard what is decided.
use Rattle.std.proofs.Common.{◌≡◌, ℕ, true, List, refl, sym, ap, ◌∙◌, subst, inl, map}
use Rattle.std.specs.Prelude.{Option, Some, None, is_some, option_map, slice_get}
use Rattle.std.specs.FinMap.{get}
use Rattle.std.specs.List.{find, flat_map}
use Rattle.fs_ident.specs.In.{In}
use Rattle.fs_ident.specs.declared.actor.Session.{Session}
use Rattle.fs_ident.specs.declared.actor.TxnNo.{TxnNo}
use Rattle.fs_ident.proofs.Passing.{found}
use Rattle.fs_ident.proofs.Standing.{In-front, In-got, In-mapped}
use Rattle.fs_field.specs.After.{changed_file}
use Rattle.fs_field.specs.Field.{file_of}
use Rattle.fs_field.specs.declared.effect.Effect.{Effect}
use Rattle.fs_field.specs.declared.effect.Effect.TheVariants.{SetChild, SetParent, NewNode, RemoveNode, AddHandle, RemoveHandle, SetInfo}
use Rattle.fs_field.specs.declared.field.Field.{Field}
use Rattle.fs_field.specs.declared.field.Field.TheVariants.{Life, Child, Names, Own}
use Rattle.fs_field.specs.declared.lease_kind.LeaseKind.{LeaseKind}
use Rattle.fs_field.specs.declared.lease_kind.LeaseKind.TheVariants.{Shared, Exclusive}
use Rattle.fs_field.specs.declared.row.Row.{Row}
use Rattle.fs_field.specs.declared.used.Use.{Use}
use Rattle.fs_model.specs.Namespace.{NodeMap}
use Rattle.fs_model.specs.Sound.{parent_of}
use Rattle.fs_server.specs.Server.{is_mine}
use Rattle.fs_server.specs.declared.state.Server.{Server}
use Rattle.fs_txn.specs.Decided.{IsDecided}
use Rattle.fs_txn.specs.Guards.{HasLocked, IsGuarded, is_enough}
use Rattle.fs_txn.specs.Leading.{said_by}
use Rattle.fs_txn.specs.Locks.{IsLocked}
use Rattle.fs_txn.specs.Ready.{agreed_of, is_part}
use Rattle.fs_txn.specs.Stages.{Key, Wanted, word_to}
use Rattle.fs_txn.specs.Stages.Word.{Decide}
use Rattle.fs_txn.specs.declared.ready.Ready.{Ready}
use Rattle.fs_txn.proofs.Telling.{finds}
use Rattle.fs_serial.specs.Cluster.{Cluster, parcels_of}
use Rattle.fs_serial.specs.Leading.{HasLockFor, HasUse, IsCoveredBy, IsPlaced, LedHolds}
use Rattle.fs_serial.specs.Places.{PlacesHold}
use Rattle.fs_serial.specs.Refusals.{rows_in}
use Rattle.fs_serial.specs.Words.{desks_of, prepared_in, ready_at, rows_at, telling_of, wanted_of}
use Rattle.fs_serial.proofs.Places.HeldRows.{row_of_all}

-- ## The part is ready

pub record HasReady (servers : List Server) (key : Key) (at : ℕ) (w : Wanted) : Type 0 where
  pub server : Server
  pub there : slice_get servers at ≡ Some server
  pub part : Ready
  pub among : In part server.prepared
  pub its : is_part key.txn key.part part ≡ true
  pub wanted : wanted_of part ≡ w

pub has_ready : (servers : List Server) (key : Key) (at : ℕ) (w : Wanted) → prepared_in servers at key ≡ Some w → HasReady servers key at w
has_ready servers key at w e =
    elim (slice_get servers at) as
    (λ o. slice_get servers at ≡ o → option_map wanted_of (find (is_part key.txn key.part) (ready_at o)) ≡ Some w
    → HasReady servers key at w) [
      | None ↦ λ f g. absurd (cc)
      | Some s ↦ λ f g. of_part s f (find (is_part key.txn key.part) s.prepared) refl g
    ] refl e
  where
    of_part : (s : Server) → slice_get servers at ≡ Some s → (o : Option Ready) → find (is_part key.txn key.part) s.prepared ≡ o
        → option_map wanted_of o ≡ Some w → HasReady servers key at w
    of_part s f None h g = absurd (cc)
    of_part s f (Some x) h g =
        let q = found (is_part key.txn key.part) s.prepared x h in
        let named : Some (wanted_of x) ≡ Some w = g in
        let same : wanted_of x ≡ w = cc in
        record { server = s; there = f; part = x; among = q.0; its = q.1; wanted = same }

-- ## Its rows

-- a row of a server is one of all
row_there : (c : Cluster) (n : ℕ) (r : Row) → In r (rows_at (slice_get c.servers n)) → In r (rows_in c)
row_there c n r i = elim (slice_get c.servers n) as (λ o. slice_get c.servers n ≡ o → In r (rows_at o) → In r (rows_in c)) [
  | None ↦ λ e j. absurd j
  | Some s ↦ λ e j. row_of_all c.servers (parcels_of c.in_flight) r (inl (s, In-got c.servers n s e, j))
] refl i

placed_locked : (c : Cluster) (n : ℕ) (txn : TxnNo) (by : Session) (on : Field) (wanted : LeaseKind)
    → HasLockFor (rows_at (slice_get c.servers n)) txn by on wanted → HasLocked (rows_in c) by on wanted
placed_locked c n txn by on wanted h = record {
  row = h.row;
  stands = row_there c n h.row h.stands;
  session = h.session;
  field = h.field;
  enough = h.enough;
  lock = ap is_some h.lock;
}

-- a file that gets its place stands there in what all hold together
abbrev pub IsPutIn : NodeMap → Effect → Type 0
IsPutIn held (SetParent file dir name) = parent_of (get held file) ≡ Some (dir, name)
IsPutIn held e = Unit {0}

module _ (c : Cluster) (h : LedHolds c) (key : Key) (at : ℕ) (effects : List Effect)
    (told : In (word_to key at (Decide effects)) (telling_of c.in_flight)) where
  pub ready : HasReady c.servers key at (h.parts key)
  ready = has_ready c.servers key at (h.parts key) (finds (desks_of h.parts c) key at effects h.stages told)

  abbrev s : Server
  s = ready.server

  s_in : In s c.servers
  s_in = In-got c.servers at s ready.there

  pub used_row : (u : Use) → In u (h.parts key).part.uses
      → IsLocked s.rows (agreed_of ready.part).key.txn (wanted_of ready.part).session u.no u.field u.kind
  used_row u i = (h.locks s s_in).locked (agreed_of ready.part)
      (In-front (agreed_of ready.part) (map agreed_of s.prepared) (flat_map (said_by s.me) s.leading)
      (In-mapped agreed_of ready.part s.prepared ready.among)) u
      (subst (λ (w : Wanted). In u w.part.uses) (sym ready.wanted) i)

  abbrev by : Session
  by = (h.parts key).session

  abbrev HasUsed : Field → LeaseKind → Type 0
  HasUsed on wanted = HasUse (h.parts key).part.uses on wanted

  locked : (on : Field) (wanted : LeaseKind) → HasUsed on wanted → HasLocked (rows_in c) by on wanted
  locked on wanted q =
      let r = used_row q.used q.among in
      record {
        row = r.has.row;
        stands = row_of_all c.servers (parcels_of c.in_flight) r.has.row (inl (s, s_in, r.has.stands));
        session = r.has.session ∙ ap (λ (w : Wanted). w.session) ready.wanted;
        field = r.has.field ∙ q.field;
        enough = ap (is_enough wanted) r.has.kind ∙ q.enough;
        lock = ap is_some r.lock;
      }

  module _ (held : NodeMap) where
    guard : (e : Effect) → IsPutIn held e → IsDecided e → IsCoveredBy (h.parts key).part.uses e
        → IsPlaced (rows_at (slice_get c.servers key.txn.server)) key.txn by e → IsGuarded (rows_in c) held by e
    guard (SetChild dir name to) put d u place = (locked (Child dir name) Exclusive u.0, locked (Life dir) Shared u.1)
    guard (SetParent file dir name) put d u place = (
      record { dir = dir; name = name; place = put; row = placed_locked c key.txn.server key.txn by (Child dir name) Exclusive place },
      locked (Life file) Shared u,
    )
    guard (RemoveNode file) put d u place =
        (locked (Names file) Shared u.0, (locked (Life file) Exclusive (u.1).0, locked (Own file) Exclusive (u.1).1))
    guard (NewNode f k x n) put d u place = absurd d
    guard (AddHandle f a x n) put d u place = absurd d
    guard (RemoveHandle f a x) put d u place = absurd d
    guard (SetInfo f a x) put d u place = absurd d

    pub guard_of : (e : Effect) → In e effects → IsPutIn held e → IsGuarded (rows_in c) held by e
    guard_of e i put = let t = h.told key at effects told e i in guard e put t.decided t.covered t.placed

  module _ (places : PlacesHold c) where
    row_mine : (on : Field) (wanted : LeaseKind) → HasUsed on wanted → is_mine s (file_of on) ≡ true
    row_mine on wanted q =
        let r = used_row q.used q.among in
        ap (λ f. is_mine s (file_of f)) (sym (r.has.field ∙ q.field)) ∙ (places.homes s s_in).rows r.has.row r.has.stands

    mine : (e : Effect) → IsDecided e → IsCoveredBy (h.parts key).part.uses e → is_mine s (changed_file e) ≡ true
    mine (SetChild dir name to) d u = row_mine (Life dir) Shared u.1
    mine (SetParent file dir name) d u = row_mine (Life file) Shared u
    mine (RemoveNode file) d u = row_mine (Names file) Shared u.0
    mine (NewNode f k x n) d u = absurd d
    mine (AddHandle f a x n) d u = absurd d
    mine (RemoveHandle f a x) d u = absurd d
    mine (SetInfo f a x) d u = absurd d

    pub mine_of : (e : Effect) → In e effects → is_mine s (changed_file e) ≡ true
    mine_of e i = let t = h.told key at effects told e i in mine e t.decided t.covered

-- what is told is guarded by rows of its session
pub told_guarded : (c : Cluster) (h : LedHolds c) (key : Key) (at : ℕ) (effects : List Effect) (e : Effect)
    → In (word_to key at (Decide effects)) (telling_of c.in_flight) → In e effects → (held : NodeMap) → IsPutIn held e
    → IsGuarded (rows_in c) held (h.parts key).session e
told_guarded c h key at effects e told i held put = guard_of c h key at effects told held e i put

-- the server that is told manages its file
pub told_there : (c : Cluster) (h : LedHolds c) (key : Key) (at : ℕ) (effects : List Effect) (e : Effect)
    → In (word_to key at (Decide effects)) (telling_of c.in_flight) → In e effects → (s : Server) → PlacesHold c
    → slice_get c.servers at ≡ Some s → is_mine s (changed_file e) ≡ true
told_there c h key at effects e told i s places there =
    let r = ready c h key at effects told in
    let got : Some s ≡ Some r.server = sym there ∙ r.there in
    let same : s ≡ r.server = cc in
    subst (λ x. is_mine x (changed_file e) ≡ true) (sym same) (mine_of c h key at effects told places e i)
