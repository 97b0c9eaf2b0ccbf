-- A transaction ends and no part is told anything: all that holds of what is seen then.
use Rattle.std.proofs.Common.{◌≡◌, ℕ, ◌==◌, Bool, true, false, List, [], ◌∷◌, ◌++◌, map, cond, append-nil}
use Rattle.std.proofs.Common.{refl, sym, ap, ap₂, ◌∙◌, subst, inl, inr}
use Rattle.std.specs.Prelude.{Option, Some, None, slice_get}
use Rattle.std.specs.FinMap.{empty}
use Rattle.fs_ident.specs.In.{In}
use Rattle.fs_ident.specs.declared.actor.Session.{Session}
use Rattle.fs_ident.specs.declared.actor.TxnNo.{TxnNo}
use Rattle.fs_ident.proofs.Same.{itself, one_session}
use Rattle.fs_ident.proofs.Standing.{In-got, In-mapped, none_pass}
use Rattle.fs_field.specs.Field.{file_of}
use Rattle.fs_field.specs.Table.{is_lock_of, same_txn, unlocked_row}
use Rattle.fs_field.specs.declared.effect.Effect.{Effect}
use Rattle.fs_field.specs.declared.row.Row.{Row}
use Rattle.fs_msg.specs.declared.client_msg.ClientMsg.TheVariants.{Lead}
use Rattle.fs_msg.specs.declared.item.Item.{Item}
use Rattle.fs_record.specs.Applied.{records_after_all}
use Rattle.fs_record.specs.Records.{RecordMap, nodes_of}
use Rattle.fs_client.specs.Led.{lead_of}
use Rattle.fs_client.specs.declared.led.Led.{Led as TheLed}
use Rattle.fs_server.specs.Server.{is_mine}
use Rattle.fs_server.specs.declared.state.Server.{Server}
use Rattle.fs_txn.specs.Decided.{held_with}
use Rattle.fs_txn.specs.Grants.{Decided, effects_in}
use Rattle.fs_txn.specs.Leading.{elsewhere, own_parts}
use Rattle.fs_txn.specs.Locks.{IsKept, IsOf}
use Rattle.fs_txn.specs.declared.decision.Decision.{Decision}
use Rattle.fs_txn.specs.declared.leading.Ending.{Ending}
use Rattle.fs_txn.specs.declared.leading.Leading.{Leading}
use Rattle.fs_txn.proofs.Keys.{txn_is, txn_itself}
use Rattle.fs_server.specs.Concludes.{admitted_of, keeps_for}
use Rattle.fs_serial.specs.Cluster.{Cluster, parcels_of, with_items}
use Rattle.fs_serial.specs.Decided.{DecidedFits, StandsIn, WorldStands, decided_for}
use Rattle.fs_serial.specs.Exchange.{due}
use Rattle.fs_serial.specs.Joined.{records_of_all, with_parcels}
use Rattle.fs_serial.specs.Leading.{IsLeading}
use Rattle.fs_serial.specs.Locks.{at_home}
use Rattle.fs_serial.specs.Owed.{ends_in}
use Rattle.fs_serial.specs.Refusals.{rows_in}
use Rattle.fs_serial.specs.Seen.{ClusterHolds, counts_of, given_at, reaps_at, with_all, world_of}
use Rattle.fs_serial.specs.Words.{decided_in, ended_in, kept_at, said_at}
use Rattle.fs_serial.specs.World.{Ends, World, WorldHolds}
use Rattle.fs_serial.specs.Fresh.{IsMade}
use Rattle.fs_serial.proofs.DecidedEffects.DecisionSeen as decides
use Rattle.fs_serial.proofs.DecidedEffects.Owing.{others_in}
use Rattle.fs_serial.proofs.DecidedEffects.RelockedWorld.{relocked_holds, with_locks}
use Rattle.fs_serial.proofs.DecidedEffects.Underway.{LocksStay, going_same, place_same, stands_then}
use Rattle.fs_serial.proofs.Places.AllHere.{row_at_home}
use Rattle.fs_serial.proofs.Places.RelockedRows.{home_relock}
use Rattle.fs_serial.proofs.Returns.Lapsing.{same_records}
use Rattle.fs_serial.proofs.Transactions.Agreements.{TellsNone, none_told}
use Rattle.fs_serial.proofs.Transactions.FitsAlike.{fits_alike}
use Rattle.fs_serial.proofs.Transactions.OwnersOfLocks.{said_session, session_by, session_of}
use Rattle.fs_serial.proofs.Transactions.Tables.{in_kept}
use Rattle.fs_serial.proofs.Transactions.ToldOrOwed as session
use Rattle.fs_serial.proofs.WholeRuns.Views.{alike_holds, count_set}

module _ (k skew greatest : ℕ) (c : Cluster) (s : Server) (at : slice_get c.servers k ≡ Some s) (h : ClusterHolds skew greatest c)
    (l : Leading) (there : In l s.leading) (d : Decision) (none : TellsNone d) where
  abbrev by : Session
  by = l.leader.session

  abbrev t : TxnNo
  t = l.leader.txn

  abbrev pub w : World
  w = world_of s c

  abbrev pub after : Cluster
  after = decides.after k skew greatest c s at h l there d

  abbrev pub server_then : Server
  server_then = decides.y k skew greatest c s at h l there d

  s_in : In s c.servers
  s_in = In-got c.servers k s at

  pub view : WorldStands greatest w
  view = h.parts s s_in

  me : s.me ≡ k
  me = h.places.numbered k s at

  leads : IsLeading c.lines s h.led.parts l
  leads = h.led.leading s s_in l there

  abbrev pub asked : TheLed
  asked = session.m k skew greatest c s at h l there d

  pub up : (ends_in c by).up ≡ Lead (lead_of asked) ∷ []
  up = session.its_up k skew greatest c s at h l there d

  -- ## The session is told, or is owed the answer

  -- what is admitted joins the journal
  abbrev pub journal : List Item
  journal = c.journal ++ admitted_of d l.leader

  abbrev pub told_world : World
  told_world = record {
    server = with_all s c;
    counts = counts_of c.servers;
    decided = decided_in c;
    journal = journal;
    replied = with_items (admitted_of d l.leader) c.replied;
    ends = session.told k skew greatest c s at h l there d;
  }

  -- ## Records stay

  decided_still : decided_in after ≡ decided_in c
  decided_still =
      decides.told_then k skew greatest c s at h l there d
      ∙ ap (λ (es : List Effect). decided_in c ++ decided_for by es) (none_told d none (elsewhere s.me l))
      ∙ append-nil (decided_in c)

  pub records_still : records_of_all after.servers (parcels_of after.in_flight) ≡ records_of_all c.servers (parcels_of c.in_flight)
  records_still =
      ap (records_of_all after.servers) (decides.parcels_then k skew greatest c s at h l there d)
      ∙ ap (with_parcels (parcels_of c.in_flight))
      (same_records c.servers k s server_then empty at (ap (records_after_all s.records) (none_told d none (own_parts s.me l))))

  module _ (grows : (id : List ℕ) → IsMade c.journal id → IsMade journal id) (told_holds : WorldHolds greatest told_world) where
    abbrev owed_world : World
    owed_world = record told_world { ends = session.ends_then k skew greatest c s at h l there d }

    owed_holds : WorldHolds greatest owed_world
    owed_holds = session.ends_hold k skew greatest c s at h l there d told_world (λ y. refl) told_holds

    -- ## Its rows are unlocked

    abbrev change : Row → Row
    change = at_home s (decides.relock k skew greatest c s at h l there d)

    abbrev relocked : World
    relocked = with_locks change owed_world

    relocked_now : WorldHolds greatest relocked
    relocked_now = relocked_holds change
        (home_relock s (decides.relock k skew greatest c s at h l there d) (decides.is_relock k skew greatest c s at h l there d))
        greatest owed_world owed_holds

    -- a row that the transaction keeps is its session's
    its_row : (r : Row) → In r s.rows → r.lock ≡ Some t → r.session ≡ by
    its_row r i lock = elim ((h.led.locks s s_in).used r t i lock) as (λ _. r.session ≡ by) [
      | inl o ↦ of_part o
      | inr q ↦ absurd (of_commit q)
    ]
      where
        of_part : IsOf (said_at s) t r.session → r.session ≡ by
        of_part o =
            let its : session_of c.servers t ≡ Some by =
            ap (λ z. session_by z (ended_in c.servers t)) (decides.led_there k skew greatest c s at h l there d) in
            let same : Some o.agreed.wanted.session ≡ Some by =
            sym (said_session c h.led s k at me o.agreed o.among) ∙ ap (session_of c.servers) o.its ∙ its in
            let whose : o.agreed.wanted.session ≡ by = cc in
            sym o.session ∙ whose

        of_commit : IsKept (kept_at s) t r.session → ⊥
        of_commit q =
            let x = in_kept s.ending q.commit q.among in
            let gone : same_txn (x.0).txn t ≡ false = none_pass (λ (z : Ending). same_txn z.txn t) s.ending leads.only x.0 x.1.0 in
            let same : (x.0).txn ≡ t = sym x.1.1.1.0 ∙ q.its in
            let wrong : true ≡ false = sym (txn_itself t) ∙ ap (λ u. same_txn u t) (sym same) ∙ gone in
            absurd (cc wrong)

    lock_is : (o : Option TxnNo) → is_lock_of t o ≡ true → o ≡ Some t
    lock_is None f = absurd (cc f)
    lock_is (Some u) f = ap Some (txn_is u t f)

    -- no row of another session changes
    others_stay : (x : Session) → (x.0 == by.0) ≡ false → (r : Row) → In r (rows_in c) → r.session ≡ x → change r ≡ r
    others_stay x off r i own = at_file (is_mine s (file_of r.field)) refl
      where
        at_lock : In r s.rows → (b : Bool) → is_lock_of t r.lock ≡ b → cond b (let z : Row = record r { lock = None } in z) r ≡ r
        at_lock j true f =
            let its : x ≡ by = sym own ∙ its_row r j (lock_is r.lock f) in
            let wrong : true ≡ false = sym (itself by.0) ∙ ap (λ (y : Session). y.0 == by.0) (sym its) ∙ off in
            absurd (cc wrong)
        at_lock j false f = refl

        at_keeping : In r s.rows → (b : Bool) → cond b r (unlocked_row t r) ≡ r
        at_keeping j true = refl
        at_keeping j false = at_lock j (is_lock_of t r.lock) refl

        at_file : (b : Bool) → is_mine s (file_of r.field) ≡ b → cond b (cond (keeps_for d (elsewhere s.me l)) r (unlocked_row t r)) r ≡ r
        at_file true f = at_keeping (row_at_home k c s at h.places r i f) (keeps_for d (elsewhere s.me l))
        at_file false f = refl

    -- ## What is decided

    off_its : (x : Decided) → In x (decided_in c) → (x.by.0 == by.0) ≡ false
    off_its x i = others_in greatest w by (Lead (lead_of asked)) (subst (In (Lead (lead_of asked))) (sym up) (inl refl)) view.0 view.1 x i

    locks_stay : (x : Decided) → In x (decided_in c) → LocksStay x.by (rows_in c) (map change (rows_in c))
    locks_stay x i r j own lock = record {
      row = r;
      stands = subst (λ z. In z (map change (rows_in c))) (others_stay x.by (off_its x i) r j own) (In-mapped change r (rows_in c) j);
      session = refl;
      field = refl;
      kind = refl;
      lock = lock;
    }

    stands_still : (x : Decided) → In x (decided_in c) → StandsIn relocked x
    stands_still x i =
        let records : RecordMap = (with_all s c).records in
        let held : RecordMap = held_with (effects_in (decided_in c)) records in
        stands_then (rows_in c) (map change (rows_in c)) records records (nodes_of held) (nodes_of held) c.journal journal x
        (locks_stay x i) (place_same (nodes_of held) x.effect) (going_same records records x.effect (λ f. refl)) grows (view.1.all.stand x i)

    owed_still : (x : Decided) → In x (decided_in c) → due (session.ends_then k skew greatest c s at h l there d x.by).down ≡ [] → ⊥
    owed_still x i none = view.1.owed x i
        (ap (λ (z : Ends). due z.down) (sym (session.others_then k skew greatest c s at h l there d x.by (turned x.by (off_its x i)))) ∙ none)
      where
        turned : (x : Session) → (x.0 == by.0) ≡ false → (by.0 == x.0) ≡ false
        turned x off = by_test (by.0 == x.0) refl
          where
            by_test : (b : Bool) → (by.0 == x.0) ≡ b → b ≡ false
            by_test true f =
                let wrong : true ≡ false = sym (itself by.0) ∙ ap (λ (y : Session). y.0 == by.0) (one_session by x f) ∙ off in
                absurd (cc wrong)
            by_test false f = refl

    relocked_fits : DecidedFits relocked
    relocked_fits = record { all = record { records = view.1.all.records; stand = stands_still }; owed = owed_still }

    -- ## All of it

    pub unapplied_stands : WorldStands greatest (world_of server_then after)
    unapplied_stands =
        let rows : rows_in after ≡ map change (rows_in c) = decides.rows_are k skew greatest c s at h l there d in (
          alike_holds greatest relocked (world_of server_then after) (record {
            rows = rows;
            records = ap₂ (λ (ds : List Decided) (m : RecordMap). held_with (effects_in ds) m) decided_still records_still;
            stored = records_still;
            skew = refl;
            given = λ n. count_set given_at c.servers k s.me s.given server_then me n;
            reaps = λ n. count_set reaps_at c.servers k s.me s.reaps server_then me n;
            journal = refl;
            replied = refl;
            ends = λ y. refl;
          }) view.0.clock relocked_now,
          fits_alike relocked (world_of server_then after) decided_still rows records_still refl (λ y. refl) relocked_fits,
        )
