-- The server that has all is asked to lead an operation.
use Rattle.std.proofs.Common.{◌≡◌, ℕ, not, Bool, true, false, List, [], ◌∷◌, ◌++◌, append-nil, refl, sym, ap, ◌∙◌, subst, inl, inr}
use Rattle.std.specs.Prelude.{Some}
use Rattle.std.specs.Cmp.{nat_eq_equiv}
use Rattle.fs_ident.specs.In.{In}
use Rattle.fs_ident.specs.declared.actor.Session.{Session}
use Rattle.fs_ident.proofs.Booleans.{joined}
use Rattle.fs_ident.proofs.Standing.{In-append, In-filter, In-map, In-mapped, none_any}
use Rattle.fs_field.specs.declared.effect.Effect.{Effect}
use Rattle.fs_model.specs.declared.op.Op.{Op}
use Rattle.fs_model.specs.declared.op.Op.TheVariants as op
use Rattle.fs_model.specs.declared.reply.Reply.{Reply}
use Rattle.fs_msg.specs.declared.answer.Answer.TheVariants.{Led}
use Rattle.fs_msg.specs.declared.client_msg.ClientMsg.TheVariants.{Lead}
use Rattle.fs_msg.specs.declared.item.Item.{Item}
use Rattle.fs_msg.specs.declared.lead.Lead.{Lead as ToLead}
use Rattle.fs_record.specs.Applied.{records_after_all}
use Rattle.fs_record.specs.LedEffects.{led_effects}
use Rattle.fs_record.specs.Records.{RecordMap, nodes_of}
use Rattle.fs_record.specs.ValueOf.{value_of}
use Rattle.fs_record.proofs.AllApplied.{after_all_kept}
use Rattle.fs_record.specs.declared.led_end.LedEnd.{LedEnd}
use Rattle.fs_record.specs.declared.led_end.LedEnd.TheVariants as end
use Rattle.fs_record.specs.declared.led_end.Why.TheVariants as why
use Rattle.fs_server.specs.Leads.{led_item, reply_of}
use Rattle.fs_server.specs.Ships.{item_of}
use Rattle.fs_server.specs.declared.state.Server.{Server}
use Rattle.fs_txn.specs.Decided.{going, held_with, staying}
use Rattle.fs_txn.specs.Grants.{Decided, effects_in}
use Rattle.fs_txn.proofs.Past.{split_past}
use Rattle.fs_view.specs.Gone.{known_with}
use Rattle.fs_client.specs.Answers.{answer_fits}
use Rattle.fs_client.specs.Led.{can_end_with, end_fits, is_led, lead_of}
use Rattle.fs_client.specs.declared.exchange.Exchange.{Exchange}
use Rattle.fs_client.specs.declared.exchange.Exchange.TheVariants.{Asks, Renews, Releases, Ships, Leads}
use Rattle.fs_client.specs.declared.led.Led.{Led as TheLed}
use Rattle.fs_client.specs.declared.state.Client.{Client}
use Rattle.fs_serial.specs.Commits.{IsCommitted, with_commit, with_led}
use Rattle.fs_serial.specs.Decided.{CommitGoesPast, DecidedFits, DecidedStands, IsSplit, StandsIn, after_commit, decided_for}
use Rattle.fs_serial.specs.Exchange.{IsQuestion, due, IsToBeLed, server_of_question}
use Rattle.fs_serial.specs.Fresh.{reserved_by}
use Rattle.fs_serial.specs.Led.{IsLeadAnswer, LedFits, LedStands}
use Rattle.fs_serial.specs.Parts.{SessionFits, SessionHolds, with_client, with_replies}
use Rattle.fs_serial.specs.Settled.{Lease, Settled, lease_after, led_done, led_ended, led_freed, led_over, settled_now, told}
use Rattle.fs_view.specs.ViewLease.{makes}
use Rattle.fs_serial.specs.Sight.{Sight, seen, sight_beside}
use Rattle.fs_serial.specs.World.{GoesOn, HasNumber, World, WorldHolds, settled_at, sight_in, with_answer, without_question}
use Rattle.fs_serial.proofs.DecidedEffects.CommitPast.{commit_apart}
use Rattle.fs_serial.proofs.LedOperations.Committed.{commit_keeps_parts, committed_reserved, led_births}
use Rattle.fs_serial.proofs.LedOperations.Committing.{led_reply}
use Rattle.fs_serial.proofs.Lists.Counting.{given_by}
use Rattle.fs_serial.proofs.OneServer.LeaseChanges.{carried_alike, goes_restored}
use Rattle.fs_serial.proofs.DecidedEffects.FewerDirectories.{MakeNone, fewer_each, fewer_then}
use Rattle.fs_serial.proofs.OtherSessions.Gone.{made_more}
use Rattle.fs_serial.proofs.DecidedEffects.GrantsPast.{all_decided, gone_there}
use Rattle.fs_serial.proofs.LedOperations.MovedItems.{moved_parts}
use Rattle.fs_serial.proofs.OtherSessions.Older.{later_itself}
use Rattle.fs_serial.proofs.DecidedEffects.Owing.{answered_owed, fits_then, led_owed, others_in}
use Rattle.fs_serial.proofs.ClientMessages.SessionStates.{settled_none}
use Rattle.fs_serial.proofs.ClientMessages.Sending.{asked, goes_of, world_answered}
use Rattle.fs_serial.proofs.Grants.Claims.{NoneAnew, none_anew}
use Rattle.fs_serial.proofs.DecidedEffects.StandPast.{AllApart}
use Rattle.fs_serial.proofs.OtherSessions.Together.{each_session, fewer_reserved}
use Rattle.fs_serial.proofs.DecidedEffects.Underway.{PlaceStays, are_apart, going_past, locks_stay, place_past, stands_then}

can_end : (o : Op) (r : Reply) → is_led o r ≡ true → can_end_with o (reply_of o) ≡ true
can_end (op.Delete dir name) r h = refl
can_end (op.Rename sdir sname ddir dname) r h = refl
can_end o r h = absurd (cc)

-- ## Effects that stay, and that go

-- none goes
abbrev pub none_sent : Effect → Bool
none_sent e = false

none_go : (es : List Effect) → going none_sent es ≡ []
none_go [] = refl
none_go (e ∷ es) = none_go es

all_stay : (es : List Effect) → staying none_sent es ≡ es
all_stay [] = refl
all_stay (e ∷ es) = ap (λ xs. e ∷ xs) (all_stay es)

none_split : (es : List Effect) → IsSplit none_sent es
none_split es = record {
  decided = λ d i. absurd (subst (In d) (none_go es) i);
  apart = λ d e i j. absurd (subst (In d) (none_go es) i);
}

pub effects_of_sent : (by : Session) (es : List Effect) → effects_in (decided_for by es) ≡ es
effects_of_sent by [] = refl
effects_of_sent by (e ∷ es) = ap (λ xs. e ∷ xs) (effects_of_sent by es)

effects_sent : (by : Session) (ds : List Decided) (es : List Effect) → effects_in (ds ++ decided_for by es) ≡ effects_in ds ++ es
effects_sent by [] es = effects_of_sent by es
effects_sent by (d ∷ ds) es = ap (λ xs. d.effect ∷ xs) (effects_sent by ds es)

module _ (greatest : ℕ) (w : World) (by : Session) (m : ToLead) (up : (w.ends by).up ≡ Lead m ∷ []) (h : WorldHolds greatest w) where
  abbrev s : Server
  s = w.server

  abbrev c : Client
  c = (w.ends by).client

  abbrev base : Session → Settled
  base x = settled_at x (w.ends x)

  -- what it is asked to lead is led
  pub to_lead : IsToBeLed c.led m
  to_lead = (h.exchanges by).leads m (subst (λ ms. In (Lead m) ms) (sym up) (inl refl))

  abbrev l : TheLed
  l = to_lead.led

  pub led_is : (base by).led ≡ Some l
  led_is = ap (λ (x : Settled). x.led) (settled_none by (w.ends by).down (settled_now c) (asked greatest w s w.journal by (Lead m) (Led (end.Again why.Changed)) up h).silent) ∙ to_lead.is

  pub led_stands : LedStands s.skew greatest (sight_in w) by (base by) l
  led_stands = subst (LedFits s.skew greatest (sight_in w) by (base by)) led_is (h.all.fitting by).led

  -- its end fits
  pub end_fits_there : (e : LedEnd) → end_fits (Some l) e ≡ true → (x : Exchange) → c.exchange ≡ Some x → IsQuestion x (Lead m) → answer_fits (server_of_question x) x (Led e) c ≡ true
  end_fits_there e f (Leads to) is q = joined _ _ (nat_eq_equiv.refl to) (ap (λ o. end_fits o e) to_lead.is ∙ f)
  end_fits_there e f (Asks to items fresh) is q = absurd (cc)
  end_fits_there e f (Renews to numbers) is q = absurd q
  end_fits_there e f (Releases to numbers) is q = absurd q
  end_fits_there e f (Ships to count) is q = absurd q

  pub ended_is : (e : LedEnd) → told by (Led e) (base by) ≡ led_over by l e (base by)
  ended_is e = ap (λ o. led_ended by o e (base by)) led_is

  pub goes : GoesOn s.skew greatest (sight_in w) w.replied w.ends base
  goes = goes_of greatest w h

  -- ## It is put off or aborted

  freed_goes : GoesOn s.skew greatest (sight_in w) w.replied w.ends (with_client by (led_freed (base by)) base)
  freed_goes = record {
    all = record {
      servers = goes.all.servers;
      kept = goes.all.kept;
      sessions = each_session (λ x d. SessionHolds s.skew greatest (sight_in w) x (w.replied x) d) by (led_freed (base by)) base
          (let q = goes.all.sessions by in record { backed = q.backed; telling = q.telling; pending = q.pending; numbers = q.numbers; replies = q.replies })
          (λ x other. goes.all.sessions x);
      fitting = each_session (λ x d. SessionFits s.skew greatest (sight_in w) x d) by (led_freed (base by)) base
          (let q = goes.all.fitting by in record { given = q.given; distinct = q.distinct; matching = q.matching; fresh = q.fresh; lives = q.lives; held = q.held; backed = q.backed; entries = q.entries; once = q.once; refused = q.refused; led = tt })
          (λ x other. goes.all.fitting x);
      reserved = fewer_reserved (reserved_by base) (reserved_by (with_client by (led_freed (base by)) base)) (sight_in w).stored (sight_in w).journal
          (each_session (λ x (d : Settled). NoneAnew (base x) d) by (led_freed (base by)) base (none_anew (base by)) (λ x other. none_anew (base x))) goes.all.reserved;
    };
    carried = carried_alike s.skew greatest (sight_in w) w.ends base by (led_freed (base by)) (λ l i. record { lease = l; held = i; number = refl }) (λ l i. record { lease = l; held = i; number = refl }) goes.carried;
  }

  -- so many transactions were begun then
  pub world_freed : (txns : ℕ) (e : LedEnd) → end_fits (Some l) e ≡ true → led_over by l e (base by) ≡ led_freed (base by)
      → WorldHolds greatest (record { server = record s { txns = txns }; counts = w.counts; decided = w.decided; journal = w.journal; replied = w.replied; ends = with_answer by (Led e) (without_question by w.ends) })
  world_freed txns e fits freed =
      let t : Server = record s { txns = txns } in
      world_answered greatest w t w.journal by (Lead m) (Led e) up h w.decided w.replied refl h.clock (later_itself (given_by w.counts s) s.rows)
      (subst (λ d. GoesOn s.skew greatest (sight_in w) w.replied w.ends (with_client by d base)) (sym (ended_is e ∙ freed)) freed_goes)
      refl (end_fits_there e fits) (λ ends x q. absurd (cc))

  pub freed_fits : (txns : ℕ) (e : LedEnd) → DecidedFits w → DecidedFits (record { server = record s { txns = txns }; counts = w.counts; decided = w.decided; journal = w.journal; replied = w.replied; ends = with_answer by (Led e) (without_question by w.ends) })
  freed_fits txns e f = fits_then w (record s { txns = txns }) w.journal w.replied (with_answer by (Led e) (without_question by w.ends)) (record { records = f.all.records; stand = f.all.stand }) (answered_owed by (Led e) [] w.ends) f

  -- ## It is admitted

  module _ (f : DecidedFits w) (committed : IsCommitted (sight_in w) by (base by) l.entry l.file) where
    abbrev there : Server
    there = seen w.decided s

    abbrev now : Sight
    now = sight_in w

    abbrev after : Sight
    after = with_commit by l.file l.entry now

    abbrev told_then : Session → List Item
    told_then = with_replies by (w.replied by ++ item_of by l.entry ∷ []) w.replied

    abbrev then : Settled
    then = with_led by l.file l.entry (base by)

    numbers_then : (x : Lease) → In x then.leases → HasNumber (base by).leases x.no
    numbers_then x i = let q = In-map (lease_after by (led_effects l.entry.op l.file l.entry.reply)) x (base by).leases i in record { lease = q.0; held = q.1.0; number = ap (λ (y : Lease). y.no) (sym q.1.1) }

    numbers_still : (x : Lease) → In x (base by).leases → HasNumber then.leases x.no
    numbers_still x i = let f = lease_after by (led_effects l.entry.op l.file l.entry.reply) in record { lease = f x; held = In-mapped f x (base by).leases i; number = refl }

    commit_goes : GoesOn s.skew greatest after told_then w.ends (with_client by then base)
    commit_goes =
        let q = carried_alike s.skew greatest now w.ends base by then numbers_then numbers_still goes.carried in
        record {
          all = commit_keeps_parts s.skew greatest now w.replied base by l.entry l.file goes.all committed;
          carried = record { returns = q.returns; renewals = q.renewals; later = q.later };
        }

    same_reply : reply_of l.entry.op ≡ l.entry.reply
    same_reply = led_reply l.entry.op l.entry.reply led_stands.leads

    told_led : told by (Led (end.Done (reply_of l.entry.op))) (base by) ≡ then
    told_led = ended_is (end.Done (reply_of l.entry.op)) ∙ ap (λ r. led_done by (led_effects l.entry.op l.file r) (base by)) same_reply

    -- its effects go past what is decided for others
    past : AllApart w.decided (led_effects l.entry.op l.file l.entry.reply)
    past d i e j =
        let q = f.all.stand d i in
        let a : IsLeadAnswer (value_of now.records by) l = led_stands.right committed.stand in
        let p = moved_parts (known_with (value_of now.records by)) l.entry.op (l.file, l.kind) a.moved in
        let there_in : In (Lead m) (w.ends by).up = subst (λ ms. In (Lead m) ms) (sym up) (inl refl) in
        commit_apart there.records s.rows by d.by l.entry.uses goes.all.servers.apart (others_in greatest w by (Lead m) there_in h f d i) committed.stand d.effect q.decided q.guarded (gone_there w.decided s w.journal f.all d i)
        l.entry.op l.entry.reply l.file (record { records = goes.all.kept.sound.records; space = goes.all.kept.sound.space; moves = committed.moves; named = committed.named; reply = committed.reply })
        led_stands.leads a.answer.reply p.0 a.answer.covered e j

    abbrev effects : List Effect
    effects = led_effects l.entry.op l.file (reply_of l.entry.op)

    pub effects_past : AllApart w.decided effects
    effects_past = subst (λ r. AllApart w.decided (led_effects l.entry.op l.file r)) (sym same_reply) past

    -- some of them are applied, and the others are decided: one step of what all hold together
    pub one_step : (sends : Effect → Bool) → IsSplit sends effects → held_with (effects_in (w.decided ++ decided_for by (going sends effects))) (records_after_all s.records (staying sends effects)) ≡ records_after_all there.records effects
    one_step sends split =
        ap (λ es. held_with es (records_after_all s.records (staying sends effects))) (effects_sent by w.decided (going sends effects))
        ∙ split_past s.records (effects_in w.decided) effects sends f.all.records (all_decided w.decided s w.journal f.all) split.decided
        (are_apart w.decided (staying sends effects) (λ d i e j. effects_past d i e (In-filter (λ x. not (sends x)) e effects j))) split.apart

    -- none of them makes a file
    births : (sends : Effect → Bool) → MakeNone (staying sends effects)
    births sends = fewer_each (staying sends effects) (λ e i dir.
        none_any (makes dir) effects (led_births l.entry.op l.file (reply_of l.entry.op) dir) e (In-filter (λ x. not (sends x)) e effects i))

    pub world_led : (sends : Effect → Bool) (txns : ℕ) → IsSplit sends (led_effects m.op m.file (reply_of m.op)) → WorldHolds greatest (after_commit sends txns by m w)
    world_led sends txns =
        let e = end.Done (reply_of l.entry.op) in
        let item : Item = led_item by (lead_of l) in
        let replied : Session → List Item = with_replies by (w.replied by ++ item ∷ []) w.replied in
        let stored : RecordMap = records_after_all s.records (staying sends effects) in
        let commit_there : GoesOn s.skew greatest (record after { stored = stored }) told_then w.ends (with_client by then base) =
        goes_restored s.skew greatest after stored told_then w.ends (with_client by then base)
        (committed_reserved s.skew greatest now w.replied base by l.entry l.file goes.all committed stored (fewer_then s.records (staying sends effects) (births sends)))
        commit_goes in
        let goes_there : GoesOn s.skew greatest (sight_beside stored w.counts (record s { txns = txns; records = records_after_all there.records effects }) (w.journal ++ item ∷ [])) replied w.ends (with_client by (told by (Led e) (base by)) base) =
        subst (λ d. GoesOn s.skew greatest (sight_beside stored w.counts (record s { txns = txns; records = records_after_all there.records effects }) (w.journal ++ item ∷ [])) replied w.ends (with_client by d base)) (sym told_led)
        (subst (λ r. let x : Item = record (item_of by l.entry) { reply = r } in GoesOn s.skew greatest (sight_beside stored w.counts (record s { txns = txns; records = records_after_all there.records (led_effects l.entry.op l.file r) }) (w.journal ++ x ∷ [])) (with_replies by (w.replied by ++ x ∷ []) w.replied) w.ends (with_client by then base)) (sym same_reply) commit_there) in
        subst (λ (n : ToLead). IsSplit sends (led_effects n.op n.file (reply_of n.op)) → WorldHolds greatest (after_commit sends txns by n w)) (sym to_lead.told)
        (λ split. world_answered greatest w (record s { txns = txns; records = stored }) (w.journal ++ item ∷ []) by (Lead m) (Led e) up h (w.decided ++ decided_for by (going sends effects)) replied refl h.clock (later_itself (given_by w.counts s) s.rows)
        (subst (λ r. GoesOn s.skew greatest (sight_beside stored w.counts (record s { txns = txns; records = r }) (w.journal ++ item ∷ [])) replied w.ends (with_client by (told by (Led e) (base by)) base)) (sym (one_step sends split)) goes_there)
        refl (end_fits_there e (can_end l.entry.op l.entry.reply led_stands.leads)) (λ ends x q. absurd (cc)))

    -- ## What is decided then

    abbrev item_then : Item
    item_then = led_item by (lead_of l)

    -- what was decided before
    old_stands : (sends : Effect → Bool) → IsSplit sends effects → (d : Decided) → In d w.decided → DecidedStands s.rows (records_after_all s.records (staying sends effects)) (nodes_of (held_with (effects_in (w.decided ++ decided_for by (going sends effects))) (records_after_all s.records (staying sends effects)))) (w.journal ++ item_then ∷ []) d
    old_stands sends split d i =
        let then : RecordMap = records_after_all s.records (staying sends effects) in
        let held : RecordMap = held_with (effects_in (w.decided ++ decided_for by (going sends effects))) then in
        stands_then s.rows s.rows s.records then (nodes_of there.records) (nodes_of held) w.journal (w.journal ++ item_then ∷ []) d (locks_stay d.by s.rows)
        (subst (λ (x : RecordMap). PlaceStays (nodes_of there.records) (nodes_of x) d.effect) (sym (one_step sends split)) (place_past there.records d.effect effects (effects_past d i)))
        (going_past s.records d.effect (staying sends effects) (λ e j. effects_past d i e (In-filter (λ x. not (sends x)) e effects j)))
        (made_more w.journal item_then) (f.all.stand d i)

    -- what it sends stands where it is guarded, and what goes was made, and has nothing in it
    pub commit_fits : (sends : Effect → Bool) (txns : ℕ) → IsSplit sends (led_effects m.op m.file (reply_of m.op)) → ((d : Decided) → In d (decided_for by (going sends (led_effects m.op m.file (reply_of m.op)))) → StandsIn (after_commit sends txns by m w) d) → DecidedFits (after_commit sends txns by m w)
    commit_fits sends txns =
        subst (λ (n : ToLead). IsSplit sends (led_effects n.op n.file (reply_of n.op)) → ((d : Decided) → In d (decided_for by (going sends (led_effects n.op n.file (reply_of n.op)))) → StandsIn (after_commit sends txns by n w) d) → DecidedFits (after_commit sends txns by n w)) (sym to_lead.told)
        (λ split new. record {
          all = record {
            records = after_all_kept s.records (staying sends effects) f.all.records;
            stand = λ d i. elim (In-append d w.decided (decided_for by (going sends effects)) i) as (λ _. StandsIn (after_commit sends txns by (lead_of l) w) d) [
              | inl j ↦ old_stands sends split d j
              | inr j ↦ new d j
            ];
          };
          owed = λ d i e. elim (In-append d w.decided (decided_for by (going sends effects)) i) as (λ _. ⊥) [
            | inl j ↦ f.owed d j (answered_owed by (Led (end.Done (reply_of l.entry.op))) [] w.ends d.by e)
            | inr j ↦ led_owed by (Led (end.Done (reply_of l.entry.op))) w.ends refl (let q = In-map (λ x. let y : Decided = record { by = by; effect = x } in y) d (going sends effects) j in subst (λ (x : Session). due (with_answer by (Led (end.Done (reply_of l.entry.op))) (without_question by w.ends) x).down ≡ []) (ap (λ (y : Decided). y.by) q.1.1) e)
          ];
        })

    -- where all are applied
    pub world_led_whole : (txns : ℕ)
        → WorldHolds greatest (record { server = record s { txns = txns; records = records_after_all s.records (led_effects m.op m.file (reply_of m.op)) }; counts = w.counts; decided = w.decided; journal = w.journal ++ led_item by m ∷ []; replied = with_replies by (w.replied by ++ led_item by m ∷ []) w.replied; ends = with_answer by (Led (end.Done (reply_of m.op))) (without_question by w.ends) })
    world_led_whole txns =
        let es : List Effect = led_effects m.op m.file (reply_of m.op) in
        subst (λ ds. WorldHolds greatest (record { server = record s { txns = txns; records = records_after_all s.records es }; counts = w.counts; decided = ds; journal = w.journal ++ led_item by m ∷ []; replied = with_replies by (w.replied by ++ led_item by m ∷ []) w.replied; ends = with_answer by (Led (end.Done (reply_of m.op))) (without_question by w.ends) })) (append-nil w.decided)
        (subst (λ xs. WorldHolds greatest (record { server = record s { txns = txns; records = records_after_all s.records es }; counts = w.counts; decided = w.decided ++ decided_for by xs; journal = w.journal ++ led_item by m ∷ []; replied = with_replies by (w.replied by ++ led_item by m ∷ []) w.replied; ends = with_answer by (Led (end.Done (reply_of m.op))) (without_question by w.ends) })) (none_go es)
        (subst (λ xs. WorldHolds greatest (record { server = record s { txns = txns; records = records_after_all s.records xs }; counts = w.counts; decided = w.decided ++ decided_for by (going none_sent es); journal = w.journal ++ led_item by m ∷ []; replied = with_replies by (w.replied by ++ led_item by m ∷ []) w.replied; ends = with_answer by (Led (end.Done (reply_of m.op))) (without_question by w.ends) })) (all_stay es)
        (world_led none_sent txns (none_split es))))

-- said of whatever the client has led
pub commit_past_all : CommitGoesPast
commit_past_all greatest w by m l sends txns up led committed split h =
    let there = to_lead greatest w by m up h.0 in
    let same : Some l ≡ Some there.led = sym led ∙ there.is in
    let is : l ≡ there.led = cc in
    world_led greatest w by m up h.0 h.1 (subst (λ (x : TheLed). IsCommitted (sight_in w) by (settled_at by (w.ends by)) x.entry x.file) is committed) sends txns split
