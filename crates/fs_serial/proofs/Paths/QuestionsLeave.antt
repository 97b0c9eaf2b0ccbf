-- What a server does for sessions leaves what it has of paths, and the directories that were made where they are: questions for leases,
-- renewals and releases, a log that is handed in, a turn, and leases that are asked back.
use Rattle.std.proofs.Common.{◌≡◌, ◌∙◌, ℕ, ◌+◌, Bool, true, false, List, [], ◌∷◌, refl, sym, ap, subst, cond, inl, inr}
use Rattle.std.specs.Prelude.{Option, Some, None}
use Rattle.std.specs.List.{list_all}
use Rattle.std.specs.Ordering.{nat_cmp, eq_by_cmp}
use Rattle.std.specs.Cmp.Lexicographic.{slice_cmp, nat_list_cmp_total}
use Rattle.std.specs.FinMap.{get, get-insert}
use Rattle.fs_ident.specs.In.{In}
use Rattle.fs_ident.specs.declared.actor.LeaseNo.{LeaseNo}
use Rattle.fs_ident.specs.declared.actor.Session.{Session}
use Rattle.fs_ident.specs.declared.kind.Kind.TheVariants.{Dir}
use Rattle.fs_ident.proofs.Standing.{In-map}
use Rattle.fs_field.specs.Table.{borne_numbers}
use Rattle.fs_field.specs.declared.effect.Effect.{Effect}
use Rattle.fs_field.specs.declared.effect.Effect.TheVariants.{AddHandle, RemoveHandle, SetInfo}
use Rattle.fs_field.specs.declared.field.Field.{Field}
use Rattle.fs_field.specs.declared.lease_kind.LeaseKind.{LeaseKind}
use Rattle.fs_modes.specs.declared.modes.Modes.{Modes}
use Rattle.fs_model.specs.declared.op.Op.{Op}
use Rattle.fs_model.specs.declared.op.Op.TheVariants as op
use Rattle.fs_model.specs.declared.reply.Reply.{Reply}
use Rattle.fs_model.specs.declared.reply.Reply.TheVariants as reply
use Rattle.fs_msg.specs.declared.end.End.{End}
use Rattle.fs_msg.specs.declared.end.End.TheVariants as end
use Rattle.fs_msg.specs.declared.entry.Entry.{Entry}
use Rattle.fs_msg.specs.declared.item.Item.{Item}
use Rattle.fs_record.specs.Effects.{effects_of, reap_effects, tells_its_effects}
use Rattle.fs_record.specs.Fresh.{fresh_number, is_directory, records_after_gift, with_next}
use Rattle.fs_record.specs.Records.{RecordMap, node_of}
use Rattle.fs_record.specs.ValueOf.{handles_of, own_of}
use Rattle.fs_record.specs.declared.record.Record.{Record}
use Rattle.fs_record.proofs.NodeValues.{key_is}
use Rattle.fs_server.specs.Asks.{Asking, ask_fresh, ask_from, ask_step, fresh_for, fresh_in, fresh_of}
use Rattle.fs_server.specs.Reaps.{lapsed_in, reap_from, turn_over, turn_step, with_reap}
use Rattle.fs_server.specs.Server.{is_mine, moved, strange}
use Rattle.fs_server.specs.Ships.{ship_from, ship_step, shipped, with_entry}
use Rattle.fs_server.specs.declared.state.Server.{Server}
use Rattle.fs_server.proofs.OneByOne.{asks_leave, each_entry, each_lapsed, reaps_leave, ships_leave}
use Rattle.fs_serial.specs.Fresh.{made}
use Rattle.fs_serial.specs.Pending.{named_by}
use Rattle.fs_serial.proofs.Paths.FilesStay.{LeavesFile, StaysAt, StaysThere, at_itself, at_then, effects_leave}
use Rattle.fs_serial.proofs.Paths.OffPaths.{LeavesFiles, leaves_itself, leaves_then}

-- where the server has the same records too
pub leaves_records : (journal : List Item) (s t : Server) → t.me ≡ s.me → t.paths ≡ s.paths → t.paths_given ≡ s.paths_given
    → t.records ≡ s.records → LeavesFiles journal s t
leaves_records journal s t me paths given records = record {
  me = me;
  paths = paths;
  given = given;
  files = λ f m. subst (StaysThere f s.records) (sym records) (at_itself (get s.records f));
}

-- ## A question

-- a directory that gives a number stays where it is
next_stays : (m : RecordMap) (dir f : List ℕ) (next : ℕ) (o : Option Record) → get m dir ≡ o → StaysThere f m (with_next m dir next o)
next_stays m dir f next None e = at_itself (get m f)
next_stays m dir f next (Some r) e =
    let then : Record = record r { next = next } in
    subst (StaysAt (get m f)) (sym (get-insert nat_list_cmp_total m dir then f)) (by (eq_by_cmp (slice_cmp nat_cmp) f dir) refl)
  where
    by : (b : Bool) → eq_by_cmp (slice_cmp nat_cmp) f dir ≡ b
        → StaysAt (get m f) (cond b (let o : Option Record = Some (record r { next = next }) in o) (get m f))
    by false t = at_itself (get m f)
    by true t =
        let is : get m f ≡ Some r = ap (get m) (key_is f dir t) ∙ e in
        subst (λ o. StaysAt o (Some (record r { next = next }))) (sym is) (record { there = refl; dir = refl })

pub gift_stays : (m : RecordMap) (dir f : List ℕ) (k : ℕ) → StaysThere f m (records_after_gift m dir (Some k))
gift_stays m dir f k = next_stays m dir f (k + 1) (get m dir) refl

module _ (journal : List Item) where
  items_leave : (by : Session) (items : List (Field × LeaseKind)) (s : Server) → LeavesFiles journal s (ask_from by items s []).server
  items_leave by items s = subst (LeavesFiles journal s) (sym (asks_leave by items s []))
      (record { me = refl; paths = refl; given = refl; files = λ f m. at_itself _ })

  fresh_leaves : (by : Session) (dir : List ℕ) (o : Option ℕ) (a : Asking) → LeavesFiles journal a.server (fresh_of by dir o a).server
  fresh_leaves by dir None a = leaves_itself journal a.server
  fresh_leaves by dir (Some n) a =
      record { me = refl; paths = refl; given = refl; files = λ f m. gift_stays a.server.records dir f n }

  dir_leaves : (by : Session) (dir : List ℕ) (b : Bool) (a : Asking) → LeavesFiles journal a.server (fresh_in by dir b a).server
  dir_leaves by dir true a = fresh_leaves by dir (fresh_number a.server.records dir (borne_numbers dir a.server.rows)) a
  dir_leaves by dir false a = leaves_itself journal a.server

  for_leaves : (by : Session) (dir : Option (List ℕ)) (a : Asking) → LeavesFiles journal a.server (fresh_for by dir a).server
  for_leaves by None a = leaves_itself journal a.server
  for_leaves by (Some dir) a = elim (is_mine a.server dir) as
      (λ b. LeavesFiles journal a.server (let z : Asking = cond b (fresh_in by dir (is_directory a.server.records dir) a)
      (record a { end = moved a.server dir }) in z).server) [
        | true ↦ dir_leaves by dir (is_directory a.server.records dir) a
        | false ↦ leaves_itself journal a.server
      ]

  end_leaves : (by : Session) (dir : Option (List ℕ)) (e : End) (a : Asking) → LeavesFiles journal a.server (ask_fresh by dir e a).server
  end_leaves by dir end.All a = for_leaves by dir a
  end_leaves by dir e a = leaves_itself journal a.server

  pub ask_leaves : (by : Session) (items : List (Field × LeaseKind)) (dir : Option (List ℕ)) (s : Server)
      → LeavesFiles journal s (ask_step by items dir s).server
  ask_leaves by items dir s =
      let a : Asking = ask_from by items s [] in
      leaves_then journal s a.server (ask_fresh by dir a.end a).server (items_leave by items s) (end_leaves by dir a.end a)

-- ## A log

one_leaves : (f : List ℕ) (d e : Effect) → LeavesFile f e → In d (e ∷ []) → LeavesFile f d
one_leaves f d e l (inl q) = subst (LeavesFile f) (sym q) l
one_leaves f d e l (inr none) = absurd none

-- an entry makes no other file than the one that it names
entry_leaves : (by : Session) (o : Op) (r : Reply) (f : List ℕ) → (named_by o ≡ Some f → ⊥) → (d : Effect) → In d (effects_of by o r)
    → LeavesFile f d
entry_leaves by (op.Create dir name kind (Some new)) reply.Made f other d i = elim i as (λ _. LeavesFile f d) [
  | inl q ↦ subst (LeavesFile f) (sym q) tt
  | inr j ↦ elim j as (λ _. LeavesFile f d) [
    | inl q ↦ subst (LeavesFile f) (sym q) (λ same. other (ap Some same))
    | inr z ↦ absurd z
  ]
]
entry_leaves by (op.OpenFile file h modes) reply.Opened f other d i = one_leaves f d (AddHandle file by h modes) tt i
entry_leaves by (op.Close file h) reply.Closed f other d i = one_leaves f d (RemoveHandle file by h) tt i
entry_leaves by (op.Set file h size stamp) reply.Set f other d i = one_leaves f d (SetInfo file size stamp) tt i
entry_leaves by o r f other d i = absurd i

-- none of the entries names the file
abbrev pub AreOfOthers : List ℕ → List Entry → Type 0
AreOfOthers f es = (e : Entry) → In e es → named_by e.op ≡ Some f → ⊥

log_stays : (by : Session) (f : List ℕ) (es : List Entry) (s : Server) (admitted : List Item) → AreOfOthers f es
    → StaysThere f s.records (ship_from by es s admitted).server.records
log_stays by f = each_entry by (λ es s admitted x. AreOfOthers f es → StaysThere f s.records x.server.records)
    (λ s admitted others. at_itself (get s.records f))
    (λ e es s admitted x mine standing p others.
    at_then (get s.records f) (get (with_entry by e s).records f) (get x.server.records f)
    (effects_leave s.records f (effects_of by e.op e.reply) (entry_leaves by e.op e.reply f (others e (inl refl))))
    (p (λ y i. others y (inr i))))
    (λ e es s admitted at gaps why others. at_itself (get s.records f))

-- where none of the entries names a directory that was made
pub ship_leaves : (journal : List Item) (by : Session) (es : List Entry) (s : Server)
    → ((f : List ℕ) → made journal f ≡ Some Dir → AreOfOthers f es) → LeavesFiles journal s (ship_step by es s).server
ship_leaves journal by es s others = elim (list_all (λ (e : Entry). tells_its_effects e.op) es) as
    (λ b. LeavesFiles journal s (cond b (shipped by (ship_from by es s [])) (strange s)).server) [
      | true ↦ record {
        me = ap (λ (t : Server). t.me) (ships_leave by es s []);
        paths = ap (λ (t : Server). t.paths) (ships_leave by es s []);
        given = ap (λ (t : Server). t.paths_given) (ships_leave by es s []);
        files = λ f m. log_stays by f es s [] (others f m);
      }
      | false ↦ leaves_itself journal s
    ]

-- ## A turn

reap_leaves : (m : RecordMap) (file f : List ℕ) (by : Session) (e : Effect) → In e (reap_effects m file by) → LeavesFile f e
reap_leaves m file f by e i =
    let q = In-map (λ (h : ℕ × Modes). RemoveHandle file by h.0) e (own_of by (handles_of (node_of (get m file)))) i in
    subst (LeavesFile f) (sym q.1.1) tt

reaps_stay : (f : List ℕ) (xs : List (List ℕ × Session)) (s : Server) (admitted : List Item) (blockers : List LeaseNo)
    → StaysThere f s.records (reap_from xs s admitted blockers).server.records
reaps_stay f = each_lapsed (λ xs s admitted blockers r. StaysThere f s.records r.server.records)
    (λ s admitted blockers. at_itself (get s.records f))
    (λ file x xs s admitted blockers r e p.
    at_then (get s.records f) (get (with_reap file x s).records f) (get r.server.records f)
    (effects_leave s.records f (reap_effects s.records file x) (reap_leaves s.records file f x)) p)
    (λ file x xs s admitted blockers r number e p. p)

turned : (journal : List Item) (xs : List (List ℕ × Session)) (s : Server) → LeavesFiles journal s (turn_over xs s).server
turned journal [] s = leaves_itself journal s
turned journal (x ∷ xs) s = record {
  me = ap (λ (t : Server). t.me) (reaps_leave (x ∷ xs) s [] []);
  paths = ap (λ (t : Server). t.paths) (reaps_leave (x ∷ xs) s [] []);
  given = ap (λ (t : Server). t.paths_given) (reaps_leave (x ∷ xs) s [] []);
  files = λ f m. reaps_stay f (x ∷ xs) s [] [];
}

pub turn_leaves : (journal : List Item) (s : Server) → LeavesFiles journal s (turn_step s).server
turn_leaves journal s = turned journal (lapsed_in s) s
