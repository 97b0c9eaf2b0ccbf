-- A leader commits: all that holds of the world holds after it.
use Rattle.std.proofs.Common.{◌≡◌, ℕ, true, false, not, Bool, List, [], ◌∷◌, ◌++◌, refl, sym, ap, ap₂, ◌∙◌, subst, inl, inr}
use Rattle.std.specs.Prelude.{Some, None, is_some, slice_get, Option}
use Rattle.std.specs.FinMap.{get}
use Rattle.std.proofs.lemmas.Bool.{not-true}
use Rattle.fs_ident.specs.Ident.{same}
use Rattle.fs_ident.specs.In.{In}
use Rattle.fs_ident.specs.declared.actor.Peer.TheVariants.{Client}
use Rattle.fs_ident.specs.declared.actor.Session.{Session}
use Rattle.fs_ident.proofs.Standing.{In-append, In-behind, In-filter, In-got, In-map, In-mapped}
use Rattle.fs_field.specs.declared.effect.Effect.{Effect}
use Rattle.fs_field.specs.declared.effect.Effect.TheVariants.{SetChild, SetParent, NewNode, RemoveNode, AddHandle, RemoveHandle, SetInfo}
use Rattle.fs_field.specs.declared.row.Row.{Row}
use Rattle.fs_field.specs.declared.used.Part.{Part}
use Rattle.fs_field.specs.declared.path.PathAnswer.{PathAnswer}
use Rattle.fs_model.specs.Asking.{home_of}
use Rattle.fs_model.specs.Sound.{kind_of}
use Rattle.fs_model.specs.Step.{children_of}
use Rattle.fs_model.specs.declared.op.Op.{Op}
use Rattle.fs_model.specs.declared.op.Op.TheVariants as op
use Rattle.fs_msg.specs.declared.answer.Answer.TheVariants as answer
use Rattle.fs_msg.specs.declared.client_msg.ClientMsg.TheVariants as message
use Rattle.fs_msg.specs.declared.item.Item.{Item}
use Rattle.fs_msg.specs.declared.lead.Lead.{Lead as ToLead}
use Rattle.fs_parcel.proofs.Both.{passing}
use Rattle.fs_record.specs.Applied.{records_after_all}
use Rattle.fs_record.specs.LedEffects.{led_effects}
use Rattle.fs_record.specs.Records.{AreRecords, RecordMap, node_of, nodes_of}
use Rattle.fs_record.specs.ValueOf.{handles_of}
use Rattle.fs_record.specs.declared.led_end.LedEnd.TheVariants as end
use Rattle.fs_record.proofs.AllApplied.{after_all_kept}
use Rattle.fs_record.proofs.NodeMaps.{node_there}
use Rattle.fs_client.specs.Led.{lead_of}
use Rattle.fs_client.specs.declared.led.Led.{Led as TheLed}
use Rattle.fs_server.specs.Concludes.{admitted_of, concludes, end_of_decision}
use Rattle.fs_server.specs.LeadingLaws.{CommitSplits, goes_from}
use Rattle.fs_server.specs.Leads.{led_item}
use Rattle.fs_server.specs.Server.{is_mine}
use Rattle.fs_server.specs.declared.state.Server.{Server}
use Rattle.fs_txn.specs.Decided.{IsApart, going, held_with, staying}
use Rattle.fs_txn.specs.Deciding.{commit, decision, reply_of}
use Rattle.fs_txn.specs.Grants.{Decided, IsBare, effects_in}
use Rattle.fs_txn.specs.Leading.{own_parts}
use Rattle.fs_txn.specs.Parts.{source_of}
use Rattle.fs_txn.specs.declared.leading.Leading.{Leading}
use Rattle.fs_view.specs.LedLaws.{IsLed}
use Rattle.fs_serial.specs.Cluster.{Cluster, parcels_of, with_items}
use Rattle.fs_serial.specs.Commits.{IsCommitted}
use Rattle.fs_serial.specs.Conclusions.{after_concluded}
use Rattle.fs_serial.specs.Decided.{DecidedFits, IsOfFile, IsSplit, WorldStands, after_commit, decided_for}
use Rattle.fs_serial.specs.Joined.{records_of_all}
use Rattle.fs_serial.specs.Leading.{IsLeading, LedHolds}
use Rattle.fs_serial.specs.Led.{LedStands}
use Rattle.fs_serial.specs.Locks.{at_home}
use Rattle.fs_serial.specs.Owed.{ends_in}
use Rattle.fs_serial.specs.Refusals.{rows_in}
use Rattle.fs_serial.specs.Seen.{ClusterHolds, given_at, reaps_at, world_of}
use Rattle.fs_serial.specs.Settled.{Settled}
use Rattle.fs_serial.specs.Sight.{Sight}
use Rattle.fs_serial.specs.Words.{decided_in}
use Rattle.fs_serial.specs.World.{World, WorldHolds, settled_at, sight_in, with_answer, without_question}
use Rattle.fs_serial.proofs.DecidedEffects.CommitSeen.{decided_is, goes_same, held_is, is_relock}
use Rattle.fs_serial.proofs.DecidedEffects.CommitSeen.{records_are, relock, rows_are}
use Rattle.fs_serial.proofs.DecidedEffects.DecideSeen.{StaysDecided, fits_again}
use Rattle.fs_serial.proofs.DecidedEffects.DecidedOwed.{decided_owed}
use Rattle.fs_serial.proofs.DecidedEffects.FileApart.{IsFileApart}
use Rattle.fs_serial.proofs.DecidedEffects.GuardsAgain.{IsPut, all_put, decided_again}
use Rattle.fs_serial.proofs.DecidedEffects.HeldSeen.{held_seen}
use Rattle.fs_serial.proofs.DecidedEffects.LedPuts.{AreBare, ArePut, beside, each_fits, put_past}
use Rattle.fs_serial.proofs.DecidedEffects.RelockedWorld.{relocked_holds, with_locks}
use Rattle.fs_serial.proofs.DecidedEffects.StandPast.{AllApart}
use Rattle.fs_serial.proofs.DecidedEffects.ToldParts.{IsPutIn}
use Rattle.fs_serial.proofs.DecidedEffects.Underway.{effect_of, going_past, locks_stay, place_past, stands_then}
use Rattle.fs_serial.proofs.LedOperations.Committing.{kind_there, led_reply}
use Rattle.fs_serial.proofs.LedOperations.LedSteps.{commit_past_all, effects_past, led_stands, one_step, to_lead}
use Rattle.fs_serial.proofs.OtherSessions.Gone.{made_more}
use Rattle.fs_serial.proofs.Places.RelockedRows.{home_relock}
use Rattle.fs_serial.proofs.Transactions.ToldOrOwed.{ends_hold, told}
use Rattle.fs_serial.proofs.WholeRuns.Views.{alike_holds, count_set}

-- it is the file of the operation
goes_file : (o : Op) (file f : List ℕ) → In (RemoveNode f) (led_effects o file (reply_of o)) → file ≡ f
goes_file (op.Delete dir name) file f (inl e) = let wrong : RemoveNode f ≡ SetChild dir name None = e in absurd (cc wrong)
goes_file (op.Delete dir name) file f (inr (inl e)) = let same : RemoveNode f ≡ RemoveNode file = e in cc
goes_file (op.Delete dir name) file f (inr (inr z)) = absurd z
goes_file (op.Rename sdir sname ddir dname) file f (inl e) =
    let wrong : RemoveNode f ≡ SetChild ddir dname (Some file) = e in absurd (cc wrong)
goes_file (op.Rename sdir sname ddir dname) file f (inr (inl e)) =
    let wrong : RemoveNode f ≡ SetChild sdir sname None = e in absurd (cc wrong)
goes_file (op.Rename sdir sname ddir dname) file f (inr (inr (inl e))) =
    let wrong : RemoveNode f ≡ SetParent file ddir dname = e in absurd (cc wrong)
goes_file (op.Rename sdir sname ddir dname) file f (inr (inr (inr z))) = absurd z
goes_file o file f i = absurd i

module _ (k skew greatest : ℕ) (c : Cluster) (s : Server) (at : slice_get c.servers k ≡ Some s) (h : ClusterHolds skew greatest c)
    (l : Leading) (there : In l s.leading) (path : Option PathAnswer)
    (decided_so : decision l.leader path ≡ commit l.leader (reply_of l.leader.op)) where
  here : In s c.servers
  here = In-got c.servers k s at

  abbrev pub leads : IsLeading c.lines s h.led.parts l
  leads = h.led.leading s (In-got c.servers k s at) l there

  abbrev pub d : TheLed
  d = leads.led

  abbrev m : ToLead
  m = lead_of d

  abbrev by : Session
  by = l.leader.session

  abbrev pub w : World
  w = world_of s c

  abbrev pub t : Server
  t = (concludes l path [] s).server

  abbrev pub then : Cluster
  then = after_concluded k l path s c

  abbrev es : List Effect
  es = led_effects l.leader.op l.leader.file (reply_of l.leader.op)

  abbrev effects_by : TheLed → List Effect
  effects_by x = led_effects x.entry.op x.file (reply_of x.entry.op)

  abbrev sends : Effect → Bool
  sends = goes_from s.me l

  abbrev records : RecordMap
  records = records_of_all c.servers (parcels_of c.in_flight)

  abbrev held : RecordMap
  held = held_seen c

  view : WorldStands greatest w
  view = h.parts s here

  pub effects_are : es ≡ effects_by d
  effects_are = ap₂ (λ o f. led_effects o f (reply_of o)) leads.leader.op leads.leader.file

  item_is : admitted_of (decision l.leader path) l.leader ≡ led_item by m ∷ []
  item_is =
      ap (λ x. admitted_of x l.leader) decided_so
      ∙ ap₂ (λ n o. let i : Item = record { by = Client by; n = n; op = o; reply = reply_of o } in
      i ∷ []) leads.leader.number leads.leader.op

  end_is : end.Done (reply_of m.op) ≡ end_of_decision (decision l.leader path)
  end_is = ap (λ o. end.Done (reply_of o)) (sym leads.leader.op) ∙ sym (ap end_of_decision decided_so)

  module _ (up : (ends_in c by).up ≡ message.Lead m ∷ [])
      (committed : IsCommitted (sight_in w) by (settled_at by (ends_in c by)) d.entry d.file)
      (apart : IsFileApart d.entry.op d.file)
      (own : (n : ℕ × ℕ) (p : Part) → In n (own_parts s.me l) → slice_get l.leader.parts n.0 ≡ Some p → is_mine s p.file ≡ true)
      (splits : CommitSplits) (led : LedHolds then) where
    away : same l.leader.file (home_of l.leader.op) ≡ false
    away = ap₂ (λ o f. same f (home_of o)) leads.leader.op leads.leader.file ∙ apart.0

    parted : same l.leader.file (source_of l.leader.op) ≡ false
    parted = ap₂ (λ o f. same f (source_of o)) leads.leader.op leads.leader.file ∙ apart.1

    pub decided_then : decided_in then ≡ decided_in c ++ decided_for by (going sends es)
    decided_then = decided_is k skew greatest c s at h l there path decided_so splits away parted

    pub records_then : records_of_all then.servers (parcels_of then.in_flight) ≡ records_after_all records (staying sends es)
    records_then = records_are k skew greatest c s at h l there path decided_so splits away parted own

    held_then : held_seen then ≡ held_with (effects_in (decided_in c ++ decided_for by (going sends es)))
        (records_after_all records (staying sends es))
    held_then = held_is k skew greatest c s at h l there path decided_so splits away parted own

    pub split : IsSplit sends es
    split = record {
      decided = λ e i.
          let x : Decided = record { by = by; effect = e } in
          decided_again then led x (subst (In x) (sym decided_then)
          (In-behind x (decided_in c) (decided_for by (going sends es))
          (In-mapped (λ (y : Effect). let z : Decided = record { by = by; effect = y } in z) e (going sends es) i)));
      apart = λ a b i j files.
          let wrong : true ≡ false =
          sym (passing sends es a i) ∙ goes_same s.me l a b files ∙ not-true (sends b) (passing (λ x. not (sends x)) es b j) in
          absurd (cc wrong);
    }

    -- ## What holds

    -- as one server that has all would have committed
    first : WorldHolds greatest (after_commit sends s.txns by m w)
    first = commit_past_all greatest w by m d sends s.txns up leads.client.led committed (subst (IsSplit sends) effects_are split) view

    abbrev change : Row → Row
    change = at_home s (relock k skew greatest c s at h l there path decided_so)

    abbrev second : World
    second = with_locks change (after_commit sends s.txns by m w)

    second_holds : WorldHolds greatest second
    second_holds =
        relocked_holds change (home_relock s (relock k skew greatest c s at h l there path decided_so) (is_relock k skew greatest c s at h l there path decided_so))
        greatest (after_commit sends s.txns by m w) first

    told_same : (y : Session) → second.ends y ≡ told k skew greatest c s at h l there (decision l.leader path) y
    told_same y = ap (λ e. with_answer by (answer.Led e) (without_question by (ends_in c)) y) end_is

    pub commit_holds : WorldHolds greatest (world_of t then)
    commit_holds =
        alike_holds greatest (record second { ends = ends_in then }) (world_of t then) (record {
          rows = rows_are k skew greatest c s at h l there path decided_so;
          records = held_then
              ∙ ap (λ es. held_with (effects_in (decided_in c ++ decided_for by (going sends es)))
              (records_after_all records (staying sends es)))
              effects_are;
          stored = records_then ∙ ap (λ es. records_after_all records (staying sends es)) effects_are;
          skew = refl;
          given = λ j. count_set given_at c.servers k s.me s.given t (h.places.numbered k s at) j;
          reaps = λ j. count_set reaps_at c.servers k s.me s.reaps t (h.places.numbered k s at) j;
          journal = ap (λ is. c.journal ++ is) item_is;
          replied = ap (λ is. with_items is c.replied) item_is;
          ends = λ y. refl;
        }) view.0.clock (ends_hold k skew greatest c s at h l there (decision l.leader path) second told_same second_holds)

    -- ## What is decided

    -- what is led, as the session asked for it
    same_led : (to_lead greatest w by m up view.0).led ≡ d
    same_led =
        let asked = to_lead greatest w by m up view.0 in
        let both : Some asked.led ≡ Some d = sym asked.is ∙ leads.client.led in
        cc

    abbrev now : Sight
    now = sight_in w

    abbrev its : Settled
    its = settled_at by (ends_in c by)

    pub stands : LedStands s.skew greatest now by its d
    stands = subst (LedStands s.skew greatest now by its) same_led (led_stands greatest w by m up view.0)

    abbrev GoPast : List Effect → Type 0
    GoPast xs = AllApart (decided_in c) xs × ((f : Effect → Bool) → IsSplit f xs
        → held_with (effects_in (decided_in c ++ decided_for by (going f xs))) (records_after_all records (staying f xs))
        ≡ records_after_all held xs)

    pub go_past : GoPast es
    go_past = subst GoPast (sym effects_are) (subst (λ (x : TheLed). IsCommitted now by its x.entry x.file → GoPast (effects_by x)) same_led
        (λ q. (effects_past greatest w by m up view.0 view.1 q, one_step greatest w by m up view.0 view.1 q)) committed)

    pub held_so : held_seen then ≡ records_after_all held es
    held_so = held_then ∙ go_past.1 sends split

    led_so : IsLed held by d.entry.op d.file (reply_of d.entry.op)
    led_so = record {
      records = view.0.all.kept.sound.records;
      space = view.0.all.kept.sound.space;
      moves = committed.moves;
      named = committed.named;
      reply = committed.reply ∙ sym (led_reply d.entry.op d.entry.reply stands.leads);
    }

    its_fits : ArePut held es × AreBare held es
    its_fits =
        subst (λ xs. ArePut held xs × AreBare held xs) (sym effects_are) (each_fits held by d.entry.op d.file (reply_of d.entry.op) led_so)

    -- it was decided before, or is of this operation
    put : (x : Decided) → In x (decided_in then) → IsPut then x
    put x i = subst (λ n. IsPutIn (nodes_of n) x.effect) (sym held_so)
        (elim (In-append x (decided_in c) (decided_for by (going sends es)) (subst (In x) decided_then i)) as
        (λ _. IsPutIn (nodes_of (records_after_all held es)) x.effect) [
          | inl j ↦ put_past (nodes_of held) (nodes_of (records_after_all held es)) x.effect (place_past held x.effect es (go_past.0 x j))
              (all_put skew greatest c h s here x j)
          | inr j ↦
              let q = In-map (λ (y : Effect). let z : Decided = record { by = by; effect = y } in z) x (going sends es) j in
              subst (IsPutIn (nodes_of (records_after_all held es))) (sym (ap (λ (z : Decided). z.effect) q.1.1))
              (its_fits.0 q.0 (In-filter sends q.0 es q.1.0))
        ])

    abbrev later : RecordMap
    later = records_after_all records (staying sends es)

    abbrev more : List Item
    more = c.journal ++ led_item by m ∷ []

    abbrev Fits : Effect → Type 0
    Fits e = IsBare later e × IsOfFile more e

    old_fits : (x : Decided) → In x (decided_in c) → Fits x.effect
    old_fits x j =
        let q = stands_then (rows_in c) (rows_in c) records later (nodes_of held) (nodes_of (records_after_all held es)) c.journal more x
        (locks_stay x.by (rows_in c)) (place_past held x.effect es (go_past.0 x j))
        (going_past records x.effect (staying sends es) (λ e n. go_past.0 x j e (In-filter (λ y. not (sends y)) e es n)))
        (made_more c.journal (led_item by m)) (view.1.all.stand x j) in
        (q.bare, q.file)

    -- a file that goes is as it was in what all hold together
    module _ (f : List ℕ) (i : In (RemoveNode f) (going sends es)) where
      among : In (RemoveNode f) es
      among = In-filter sends (RemoveNode f) es i

      same_node : node_of (get later f) ≡ node_of (get held f)
      same_node =
          going_past records (RemoveNode f) (staying sends es) (λ e j. split.apart (RemoveNode f) e i j)
          ∙ sym (going_past records (RemoveNode f) (effects_in (decided_in c)) (λ e j.
          let q = In-map effect_of e (decided_in c) j in
          subst (IsApart (RemoveNode f)) (sym q.1.1)
          (beside (q.0).effect f (view.1.all.stand q.0 q.1.0).decided (go_past.0 q.0 q.1.0 (RemoveNode f) among))))

      kind_is : kind_of (node_of (get held f)) ≡ Some d.kind
      kind_is =
          ap (λ x. kind_of (node_of (get held x))) (sym (goes_file d.entry.op d.file f (subst (In (RemoveNode f)) effects_are among)))
          ∙ kind_there held by d (stands.right committed.stand)

      removed_fits : Fits (RemoveNode f)
      removed_fits =
          let bare = its_fits.1 f among in
          let node : node_of (get later f) ≡ get (nodes_of held) f = same_node ∙ sym (node_there held f) in (
            (ap children_of node ∙ bare.0, ap handles_of node ∙ bare.1),
            made_more c.journal (led_item by m) f (ap is_some (view.0.all.kept.made f d.kind kind_is)),
          )

    new_fits : (e : Effect) → In e (going sends es) → Fits e
    new_fits (RemoveNode f) i = removed_fits f i
    new_fits (SetChild a b z) i = (tt, tt)
    new_fits (SetParent a b z) i = (tt, tt)
    new_fits (NewNode a b z n) i = (tt, tt)
    new_fits (AddHandle a b z n) i = (tt, tt)
    new_fits (RemoveHandle a b z) i = (tt, tt)
    new_fits (SetInfo a b z) i = (tt, tt)

    fits_then : (x : Decided) → In x (decided_in then)
        → IsBare (records_of_all then.servers (parcels_of then.in_flight)) x.effect
        × IsOfFile then.journal x.effect
    fits_then x i =
        subst (λ n. IsBare n x.effect × IsOfFile then.journal x.effect) (sym records_then)
        (subst (λ is. IsBare later x.effect × IsOfFile (c.journal ++ is) x.effect) (sym item_is)
        (elim (In-append x (decided_in c) (decided_for by (going sends es)) (subst (In x) decided_then i)) as (λ _. Fits x.effect) [
          | inl j ↦ old_fits x j
          | inr j ↦
              let q = In-map (λ (y : Effect). let z : Decided = record { by = by; effect = y } in z) x (going sends es) j in
              subst Fits (sym (ap (λ (z : Decided). z.effect) q.1.1)) (new_fits q.0 q.1.0)
        ]))

    stays : (x : Decided) → In x (decided_in then) → StaysDecided then x
    stays x i = record { put = put x i; bare = (fits_then x i).0; file = (fits_then x i).1; owed = decided_owed then x i }

    commit_fits : DecidedFits (world_of t then)
    commit_fits = fits_again then t led
        (subst AreRecords (sym records_then) (after_all_kept records (staying sends es) view.1.all.records)) stays

    pub commit_stands : WorldStands greatest (world_of t then)
    commit_stands = (commit_holds, commit_fits)
