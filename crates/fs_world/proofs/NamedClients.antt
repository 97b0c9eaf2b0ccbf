-- What a client sends is readable and goes to a server that there is; what it keeps of its log and its hints stays so.
use Rattle.std.proofs.Common.{◌≡◌, ◌∙◌, ◌<◌, ℕ, zero, suc, ◌+◌, ◌/◌, List, [], ◌∷◌, ◌++◌, Bool, true, false, cond, refl, sym, subst}
use Rattle.std.specs.Prelude.{Option, Some, None, IfSome, is_some, not, ◌&&◌, ◌==◌}
use Rattle.std.specs.List.{AllByRecursion, list_all}
use Rattle.fs_ident.specs.declared.actor.Session.{Session}
use Rattle.fs_ident.proofs.Booleans.{joined}
use Rattle.fs_field.specs.declared.asked.Need.{Need}
use Rattle.fs_field.specs.declared.asked.Need.TheVariants.{Lease, Fresh}
use Rattle.fs_map.specs.Map.{Owners}
use Rattle.fs_model.specs.Asking.{home_of, may_ask}
use Rattle.fs_model.specs.declared.op.Op.{Op}
use Rattle.fs_model.specs.declared.op.Op.TheVariants as op
use Rattle.fs_model.specs.declared.reply.Reply.{Reply}
use Rattle.fs_model.specs.declared.reply.Reply.TheVariants as reply
use Rattle.fs_model.specs.Step.{is_empty}
use Rattle.fs_record.specs.declared.led_end.LedEnd.{LedEnd}
use Rattle.fs_record.specs.declared.led_end.LedEnd.TheVariants as led_end
use Rattle.fs_record.specs.declared.led_end.Why.{Why}
use Rattle.fs_record.specs.declared.led_end.Why.TheVariants as why
use Rattle.fs_msg.specs.declared.act.Act.{Act}
use Rattle.fs_msg.specs.declared.act.Act.TheVariants as act
use Rattle.fs_msg.specs.declared.act.Busy.TheVariants as busy
use Rattle.fs_msg.specs.declared.answer.Answer.{Answer}
use Rattle.fs_msg.specs.declared.answer.Answer.TheVariants as answer_
use Rattle.fs_msg.specs.declared.client_msg.ClientMsg.{ClientMsg}
use Rattle.fs_msg.specs.declared.end.End.{End}
use Rattle.fs_msg.specs.declared.end.End.TheVariants as end
use Rattle.fs_msg.specs.declared.entry.Entry.{Entry}
use Rattle.fs_msg.specs.declared.msg.Msg.TheVariants as msg
use Rattle.fs_msg.specs.Readable.{is_readable, is_readable_entry}
use Rattle.fs_wire.specs.Readable.{is_readable_op}
use Rattle.fs_view.specs.declared.view_lease.ViewLease.{ViewLease}
use Rattle.fs_view.specs.ViewLease.{file_in}
use Rattle.fs_view.specs.View.{View, missing_in, reply_in}
use Rattle.fs_serial.specs.World.{is_called}
use Rattle.fs_serial.proofs.Replies.Answering.{AnswerEnds, answer_ends, as_entry, as_led, as_move, as_read, not_told, put_off}
use Rattle.fs_client.specs.declared.change.Change.{Change}
use Rattle.fs_client.specs.declared.change.Change.TheVariants as change
use Rattle.fs_client.specs.declared.led.Led.{Led}
use Rattle.fs_client.specs.declared.plan.Plan.{Plan}
use Rattle.fs_client.specs.declared.plan.Ready.{Ready}
use Rattle.fs_client.specs.declared.state.Client.{Client}
use Rattle.fs_client.specs.Acts.{act_on, act_plan, answer_with, answers, ask_for, asks, full_one, hinted, need_file, stays, unless_led}
use Rattle.fs_client.specs.Acts.{with_id, worth}
use Rattle.fs_client.specs.Answers.{answer_plan, ended_plan, fits, hear, hints_told, led_plan, strange, fitting_plan}
use Rattle.fs_client.specs.Client.{admitted_all, admitted_one, begun, changed, committed, first_client, with_hints}
use Rattle.fs_client.specs.Led.{hints_again}
use Rattle.fs_client.specs.Turns.{ending, entries_at, idle, release_some, renew_some, returned, ship_some, turn_free, turn_on, turn_plan}
use Rattle.fs_client.proofs.Keeping.{keeps}
use Rattle.fs_world.specs.Linked.{AreNamed, IsNamedAnswer, IsNamedEnd, IsNamedLed}
use Rattle.fs_world.specs.Readable.{LogReadable}
use Rattle.fs_world.proofs.NamedMaps.{named_first, named_hint, server_named}

-- ## What a client keeps

-- the operations of its log are readable, and its hints are of servers that there are
pub record IsFine (servers : ℕ) (c : Client) : Type 0 where
  pub log : LogReadable c
  pub hints : AreNamed servers c.hints

pub first_fine : (servers : ℕ) (s : Session) (term : ℕ) → 0 < servers → IsFine servers (first_client s term)
first_fine servers s term some = record { log = tt; hints = named_first servers some }

abbrev HasReadable : Entry → Type 0
HasReadable e = is_readable_op e.op ≡ true

-- an entry that joins the log has a readable operation
abbrev pub JoinsReadable : Change → Type 0
JoinsReadable (change.Reply entry effects) = is_readable_op entry.op ≡ true
JoinsReadable ch = Unit {0}

one_more : (e : Entry) (log : List Entry) → HasReadable e → AllByRecursion HasReadable log → AllByRecursion HasReadable (log ++ e ∷ [])
one_more e [] own h = (own, tt)
one_more e (x ∷ log) own h = (h.0, one_more e log own h.1)

one_admitted : (c : Client) (log : List Entry) → LogReadable c → AllByRecursion HasReadable log → LogReadable (admitted_one c log)
one_admitted c [] h k = h
one_admitted c (e ∷ log) h k = k.1

all_admitted : (k : ℕ) (c : Client) → LogReadable c → LogReadable (admitted_all k c)
all_admitted zero c h = h
all_admitted (suc k) c h = all_admitted k (admitted_one c c.log) (one_admitted c c.log h h)

changed_log : (ch : Change) (c : Client) → JoinsReadable ch → LogReadable c → LogReadable (changed ch c)
changed_log change.Nothing c own h = h
changed_log change.Read c own h = h
changed_log (change.Reply entry effects) c own h = one_more entry c.log own h
changed_log (change.Ask x) c own h = h
changed_log (change.Leave to numbers) c own h = h
changed_log (change.Grant leases full) c own h = h
changed_log (change.Renew ends) c own h = h
changed_log (change.Release numbers) c own h = h
changed_log (change.Admit count over) c own h = all_admitted count c h
changed_log (change.Lead to led) c own h = h
changed_log (change.LedDone effects) c own h = h
changed_log change.LedFreed c own h = h
changed_log (change.Recall number) c own h = h

hints_session : (o : Option Owners) (c : Client) → (with_hints o c).session ≡ c.session
hints_session None c = refl
hints_session (Some hints) c = refl

-- no event changes whose client it is
pub session_kept : (r : Ready) (c : Client) → (committed r c).session ≡ c.session
session_kept r c = hints_session r.hints (changed r.change (begun r.now c)) ∙ (keeps r.change (begun r.now c)).0

-- ## What a client plans

abbrev pub HintsNamed : ℕ → Option Owners → Type 0
HintsNamed servers o = IfSome o (AreNamed servers)

-- what is sent, if anything is
abbrev pub SendsFine : ℕ → Option (ℕ × ClientMsg) → Type 0
SendsFine servers o = IfSome o (λ x. (x.0 < servers) × (is_readable (msg.Client x.1) ≡ true))

pub record IsPlanned {N : Type 0} (servers : ℕ) (p : Plan N) : Type 0 where
  pub joins : JoinsReadable p.ready.change
  pub hints : HintsNamed servers p.ready.hints
  pub sends : SendsFine servers p.out.send

hinted_fine : (servers : ℕ) (o : Option Owners) (c : Client) → HintsNamed servers o → IsFine servers c → IsFine servers (with_hints o c)
hinted_fine servers None c own h = h
hinted_fine servers (Some hints) c own h = record { log = h.log; hints = own }

-- the client to which the plan is committed
pub committed_fine : {N : Type 0} (servers : ℕ) (p : Plan N) (c : Client) → IsPlanned servers p → IsFine servers c
    → IsFine servers (committed p.ready c)
committed_fine servers p c r h =
    let b = begun p.ready.now c in
    hinted_fine servers p.ready.hints (changed p.ready.change b) r.hints (record {
      log = changed_log p.ready.change b r.joins h.log;
      hints = subst (AreNamed servers) (sym (keeps p.ready.change b).1) h.hints;
    })

either_planned : {N : Type 0} (servers : ℕ) (b : Bool) (p q : Plan N) → IsPlanned servers p → IsPlanned servers q
    → IsPlanned servers (cond b p q)
either_planned servers true p q h g = h
either_planned servers false p q h g = g

module _ (servers : ℕ) (some : 0 < servers) where
  hinted_there : (c : Client) (id : List ℕ) → IsFine servers c → hinted c id < servers
  hinted_there c id h = server_named servers c.hints id some h.hints

  -- ## An operation

  op_readable : (v : View) (now : ℕ) (o : Op) (r : Reply) → may_ask o ≡ true → is_readable_op (with_id v now o r) ≡ true
  op_readable v now (op.Create dir name kind id) reply.Made h = refl
  op_readable v now (op.Create dir name kind id) r h = refl
  op_readable v now (op.OpenFile file x modes) r h = h
  op_readable v now (op.Reap file session) r h = absurd (cc)
  op_readable v now o r h = refl

  full_planned : (needs : List Need) (c : Client) → IsPlanned servers (full_one needs c)
  full_planned [] c = record { joins = tt; hints = tt; sends = tt }
  full_planned (Lease field kind ∷ needs) c = full_planned needs c
  full_planned (Fresh dir ∷ needs) c = record { joins = tt; hints = tt; sends = tt }

  ask_planned : (needs ns : List Need) (c : Client) → IsFine servers c → IsPlanned servers (ask_for needs ns c)
  ask_planned needs [] c h = full_planned needs c
  ask_planned needs (n ∷ ns) c h =
      either_planned servers (is_some c.exchange) (stays (act.Busy busy.Exchange) c) (asks (hinted c (need_file n)) (n ∷ ns) c)
      (record { joins = tt; hints = tt; sends = tt })
      (record { joins = tt; hints = tt; sends = (hinted_there c (need_file n) h, refl) })

  as_it_is : (o : Op) → may_ask o ≡ true → is_readable_op o ≡ true
  as_it_is (op.OpenFile file x modes) h = h
  as_it_is (op.Reap file session) h = absurd (cc)
  as_it_is o h = refl

  end_planned : (r : Reply) (o : Op) (c : Client) → may_ask o ≡ true → IsFine servers c → (p : Plan Act) → AnswerEnds o r c p
      → IsPlanned servers p
  end_planned r o c may h p (as_entry t) = record { joins = op_readable c.view c.last o r may; hints = tt; sends = tt }
  end_planned r o c may h p (as_read t n e) = record { joins = tt; hints = tt; sends = tt }
  end_planned r o c may h p (as_move t n e) = record { joins = tt; hints = tt; sends = tt }
  end_planned r o c may h p (as_led t l x e moved k) =
      record { joins = tt; hints = tt; sends = (hinted_there c (home_of o) h, as_it_is o may) }
  end_planned r o c may h p (put_off what) = record { joins = tt; hints = tt; sends = tt }
  end_planned r o c may h p not_told = record { joins = tt; hints = tt; sends = tt }

  answer_planned : (r : Option Reply) (o : Op) (c : Client) → may_ask o ≡ true → IsFine servers c → IsPlanned servers (answer_with r o c)
  answer_planned (Some r) o c may h = end_planned r o c may h (answers o r c) (answer_ends o r c)
  answer_planned None o c may h = ask_planned (missing_in c.view c.last o) (worth c.full (missing_in c.view c.last o)) c h

  unless_planned : (led : Option Led) (o : Op) (c : Client) → may_ask o ≡ true → IsFine servers c → IsPlanned servers (unless_led led o c)
  unless_planned (Some l) o c may h = record { joins = tt; hints = tt; sends = tt }
  unless_planned None o c may h = answer_planned (reply_in c.view c.last o) o c may h

  act_planned : (over : Option ℕ) (o : Op) (c : Client) → may_ask o ≡ true → IsFine servers c → IsPlanned servers (act_on over o c)
  act_planned (Some n) o c may h = record { joins = tt; hints = tt; sends = tt }
  act_planned None o c may h = unless_planned c.led o c may h

  pub act_fine : (c : Client) (now : ℕ) (o : Op) → is_called o ≡ true → IsFine servers c → IsPlanned servers (act_plan c now o)
  act_fine c now o called h = act_planned c.over o (begun now c) called (record { log = h.log; hints = h.hints })

  -- ## A turn

  log_passes : (c : Client) (to : ℕ) (log : List Entry) → AllByRecursion HasReadable log
      → list_all is_readable_entry (entries_at c to log) ≡ true
  log_passes c to [] h = refl
  log_passes c to (e ∷ log) h = either (hinted c (home_of e.op) == to) (log_passes c to log h.1)
    where
      either : (b : Bool) → list_all is_readable_entry (entries_at c to log) ≡ true
          → list_all is_readable_entry (cond b (e ∷ entries_at c to log) []) ≡ true
      either true rest = joined _ _ h.0 rest
      either false rest = refl

  ship_planned : (log : List Entry) (c : Client) → AllByRecursion HasReadable log → IsFine servers c → IsPlanned servers (ship_some log c)
  ship_planned [] c log h = record { joins = tt; hints = tt; sends = tt }
  ship_planned (e ∷ es) c log h =
      record { joins = tt; hints = tt; sends = (hinted_there c (home_of e.op) h, log_passes c (hinted c (home_of e.op)) (e ∷ es) log) }

  renew_planned : (ks : List ViewLease) (c : Client) → IsFine servers c → IsPlanned servers (renew_some ks c)
  renew_planned [] c h = record { joins = tt; hints = tt; sends = tt }
  renew_planned (k ∷ ks) c h = record { joins = tt; hints = tt; sends = (hinted_there c (file_in k.standing) h, refl) }

  release_planned : (ks : List ViewLease) (c : Client) → IsFine servers c → IsPlanned servers (release_some ks c)
  release_planned [] c h = renew_planned (ending (c.last + c.term / 2) c.view) c h
  release_planned (k ∷ ks) c h = record { joins = tt; hints = tt; sends = (hinted_there c (file_in k.standing) h, refl) }

  turn_planned : (c : Client) → IsFine servers c → IsPlanned servers (turn_on c)
  turn_planned c h =
      either_planned servers (is_some c.exchange) (idle c) (turn_free c) (record { joins = tt; hints = tt; sends = tt })
      (either_planned servers (not (is_empty c.log) && not (is_some c.over)) (ship_some c.log c) (release_some (returned c.view) c)
      (ship_planned c.log c h.log h) (release_planned (returned c.view) c h))

  pub turn_fine : (c : Client) (now : ℕ) → IsFine servers c → IsPlanned servers (turn_plan c now)
  turn_fine c now h = turn_planned (begun now c) (record { log = h.log; hints = h.hints })

  -- ## An answer

  told_hints : (e : End) (c : Client) → IsNamedEnd servers e → IsFine servers c → HintsNamed servers (hints_told e c.hints)
  told_hints end.All c named h = tt
  told_hints (end.Wait blocker) c named h = tt
  told_hints (end.Locked txn) c named h = tt
  told_hints (end.Moved prefix to) c named h = named_hint servers c.hints prefix to named h.hints
  told_hints (end.NoIds dir) c named h = tt
  told_hints (end.Ended n lease until now) c named h = tt

  why_hints : (w : Why) (c : Client) → IsNamedLed servers (led_end.Again w) → IsFine servers c → HintsNamed servers (hints_again w c.hints)
  why_hints (why.Moved prefix to) c named h = named_hint servers c.hints prefix to named h.hints
  why_hints w c named h = tt

  ended_planned : (l : Led) (e : LedEnd) (c : Client) → IsNamedLed servers e → IsFine servers c → IsPlanned servers (ended_plan l e c)
  ended_planned l (led_end.Done r) c named h = record { joins = tt; hints = tt; sends = tt }
  ended_planned l (led_end.Ended lease until now) c named h = record { joins = tt; hints = tt; sends = tt }
  ended_planned l (led_end.Again w) c named h = record { joins = tt; hints = why_hints w c named h; sends = tt }

  led_planned : (led : Option Led) (e : LedEnd) (c : Client) → IsNamedLed servers e → IsFine servers c
      → IsPlanned servers (led_plan led e c)
  led_planned None e c named h = record { joins = tt; hints = tt; sends = tt }
  led_planned (Some l) e c named h = ended_planned l e c named h

  told_planned : (a : Answer) (c : Client) → IsNamedAnswer servers a → IsFine servers c → IsPlanned servers (fitting_plan a c)
  told_planned (answer_.Granted gs fresh e) c named h = record { joins = tt; hints = told_hints e c named h; sends = tt }
  told_planned (answer_.Renewed rows e) c named h = record { joins = tt; hints = told_hints e c named h; sends = tt }
  told_planned (answer_.Released count e) c named h = record { joins = tt; hints = told_hints e c named h; sends = tt }
  told_planned (answer_.Shipped count e) c named h = record { joins = tt; hints = told_hints e c named h; sends = tt }
  told_planned (answer_.Led e) c named h = led_planned c.led e c named h
  told_planned (answer_.Recall number) c named h = record { joins = tt; hints = tt; sends = tt }

  hear_planned : (from : ℕ) (a : Answer) (c : Client) → IsNamedAnswer servers a → IsFine servers c → IsPlanned servers (hear from a c)
  hear_planned from a c named h = either_planned servers (fits from c.exchange a c) (fitting_plan a c) (strange c)
      (told_planned a c named h) (record { joins = tt; hints = tt; sends = tt })

  pub answer_fine : (c : Client) (now from : ℕ) (a : Answer) → IsNamedAnswer servers a → IsFine servers c
      → IsPlanned servers (answer_plan c now from a)
  answer_fine c now from a named h = hear_planned from a (begun now c) named (record { log = h.log; hints = h.hints })

ended_silent : (l : Led) (e : LedEnd) (c : Client) → (ended_plan l e c).out.send ≡ None
ended_silent l (led_end.Done r) c = refl
ended_silent l (led_end.Ended lease until now) c = refl
ended_silent l (led_end.Again w) c = refl

led_silent : (led : Option Led) (e : LedEnd) (c : Client) → (led_plan led e c).out.send ≡ None
led_silent None e c = refl
led_silent (Some l) e c = ended_silent l e c

-- a client answers no answer
told_silent : (a : Answer) (c : Client) → (fitting_plan a c).out.send ≡ None
told_silent (answer_.Granted gs fresh e) c = refl
told_silent (answer_.Renewed rows e) c = refl
told_silent (answer_.Released count e) c = refl
told_silent (answer_.Shipped count e) c = refl
told_silent (answer_.Led e) c = led_silent c.led e c
told_silent (answer_.Recall number) c = refl

pub answer_silent : (c : Client) (now from : ℕ) (a : Answer) → (answer_plan c now from a).out.send ≡ None
answer_silent c now from a = either (fits from (begun now c).exchange a (begun now c))
  where
    either : (b : Bool) → (cond b (fitting_plan a (begun now c)) (strange (begun now c))).out.send ≡ None
    either true = told_silent a (begun now c)
    either false = refl

ended_admits : (l : Led) (e : LedEnd) (c : Client) → (ended_plan l e c).out.admitted ≡ None
ended_admits l (led_end.Done r) c = refl
ended_admits l (led_end.Ended lease until now) c = refl
ended_admits l (led_end.Again w) c = refl

led_admits : (led : Option Led) (e : LedEnd) (c : Client) → (led_plan led e c).out.admitted ≡ None
led_admits None e c = refl
led_admits (Some l) e c = ended_admits l e c

-- nor does it admit anything at once
told_admits : (a : Answer) (c : Client) → (fitting_plan a c).out.admitted ≡ None
told_admits (answer_.Granted gs fresh e) c = refl
told_admits (answer_.Renewed rows e) c = refl
told_admits (answer_.Released count e) c = refl
told_admits (answer_.Shipped count e) c = refl
told_admits (answer_.Led e) c = led_admits c.led e c
told_admits (answer_.Recall number) c = refl

pub answer_admits : (c : Client) (now from : ℕ) (a : Answer) → (answer_plan c now from a).out.admitted ≡ None
answer_admits c now from a = either (fits from (begun now c).exchange a (begun now c))
  where
    either : (b : Bool) → (cond b (fitting_plan a (begun now c)) (strange (begun now c))).out.admitted ≡ None
    either true = told_admits a (begun now c)
    either false = refl
