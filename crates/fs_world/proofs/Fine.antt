-- What joins the journal of the servers form: items of sessions, each of which asks for an access where it opens.
use Rattle.std.proofs.Common.{◌≡◌, ℕ, ◌+◌, ◌/◌, Bool, true, false, not, ◌&&◌, List, [], ◌∷◌, ◌++◌, cond, refl, inl, inr}
use Rattle.std.specs.Prelude.{Option, Some, None, is_some}
use Rattle.std.specs.List.{AllByRecursion, list_all}
use Rattle.fs_ident.specs.In.{In}
use Rattle.fs_ident.specs.declared.actor.LeaseNo.{LeaseNo}
use Rattle.fs_ident.specs.declared.actor.Peer.{Peer}
use Rattle.fs_ident.specs.declared.actor.Session.{Session}
use Rattle.fs_field.specs.declared.asked.Need.{Need}
use Rattle.fs_field.specs.declared.asked.Need.TheVariants as need
use Rattle.fs_model.specs.Sound.{AsksAccess}
use Rattle.fs_model.specs.Step.{is_empty}
use Rattle.fs_model.specs.declared.op.Op.{Op}
use Rattle.fs_model.specs.declared.op.Op.TheVariants as op
use Rattle.fs_model.specs.declared.reply.Reply.{Reply}
use Rattle.fs_model.specs.declared.reply.Reply.TheVariants as reply
use Rattle.fs_record.specs.Effects.{tells_its_effects}
use Rattle.fs_record.specs.declared.led_end.LedEnd.{LedEnd}
use Rattle.fs_record.specs.declared.led_end.LedEnd.TheVariants as led_end
use Rattle.fs_view.specs.declared.view_lease.ViewLease.{ViewLease}
use Rattle.fs_view.specs.View.{View, missing_in, reply_in}
use Rattle.fs_msg.specs.declared.act.Act.{Act}
use Rattle.fs_msg.specs.declared.act.Act.TheVariants as act
use Rattle.fs_msg.specs.declared.act.Busy.TheVariants as busy
use Rattle.fs_msg.specs.declared.answer.Answer.{Answer}
use Rattle.fs_msg.specs.declared.answer.Answer.TheVariants.{Granted, Renewed, Released, Shipped, Recall, Led}
use Rattle.fs_msg.specs.declared.client_msg.ClientMsg.{ClientMsg}
use Rattle.fs_msg.specs.declared.client_msg.ClientMsg.TheVariants.{Ask, Renew, Release, Ship, Lead}
use Rattle.fs_msg.specs.declared.entry.Entry.{Entry}
use Rattle.fs_msg.specs.declared.item.Item.{Item}
use Rattle.fs_msg.specs.declared.lead.Lead.{Lead as ToLead}
use Rattle.fs_client.specs.Acts.{act_on, act_plan, answer_with, answers, ask_for, asks, full_one, hinted, need_file, stays, unless_led}
use Rattle.fs_client.specs.Acts.{with_id, worth}
use Rattle.fs_client.specs.Answers.{answer_plan, ended_plan, fits, hear, led_plan, strange, fitting_plan}
use Rattle.fs_client.specs.Client.{begun}
use Rattle.fs_client.specs.Turns.{ending, idle, release_some, renew_some, returned, ship_some, turn_free, turn_on, turn_plan}
use Rattle.fs_client.specs.declared.led.Led.{Led as TheLed}
use Rattle.fs_client.specs.declared.plan.Plan.{Plan}
use Rattle.fs_client.specs.declared.state.Client.{Client as ClientState}
use Rattle.fs_parcel.specs.declared.error.MoveError.{MoveError}
use Rattle.fs_record.specs.declared.parcel.Parcel.{Parcel}
use Rattle.fs_field.specs.declared.path.PathAnswer.{PathAnswer}
use Rattle.fs_field.specs.declared.vote.Vote.{Vote as AVote}
use Rattle.fs_msg.specs.declared.decide.Decide.{Decide as ToDecide}
use Rattle.fs_msg.specs.declared.done.Done.{Done as ToldDone}
use Rattle.fs_msg.specs.declared.msg.Msg.{Msg}
use Rattle.fs_msg.specs.declared.server_note.ServerNote.{ServerNote}
use Rattle.fs_msg.specs.declared.server_note.ServerNote.TheVariants as server_note
use Rattle.fs_msg.specs.declared.voted.Voted.{Voted}
use Rattle.fs_txn.specs.Deciding.{decision}
use Rattle.fs_txn.specs.Leading.{leading_of, without_done}
use Rattle.fs_txn.specs.declared.decision.Decision.{Decision}
use Rattle.fs_txn.specs.declared.decision.Decision.TheVariants.{Commit, Abort}
use Rattle.fs_txn.specs.declared.leader.Leader.{Leader}
use Rattle.fs_txn.specs.declared.leading.Ending.{Ending}
use Rattle.fs_txn.specs.declared.leading.Leading.{Leading}
use Rattle.fs_msg.specs.declared.prepare.Prepare.{Prepare as ToPrepare}
use Rattle.fs_msg.specs.declared.peer_msg.PeerMsg.{PeerMsg}
use Rattle.fs_msg.specs.declared.peer_msg.PeerMsg.TheVariants.{Parcel as OfParcel, Prepare, Vote, Decide, Done}
use Rattle.fs_server.proofs.Leading.{LeadEnds, begun as txn_begun, kept as path_kept, lead_ends, put_off as server_puts_off, unled}
use Rattle.fs_server.proofs.Leading.{wanted as path_wanted}
use Rattle.fs_server.specs.Begins.{Round, leader_with, round_of, txn_of}
use Rattle.fs_server.specs.Concludes.{admitted_of, goes_on, path_for}
use Rattle.fs_server.specs.Counts.{after_own_vote, asked_at, done_step, done_with, vote_step, with_vote}
use Rattle.fs_server.proofs.OneByOne.{each_entry, each_lapsed}
use Rattle.fs_server.specs.Leads.{is_led, lead_step}
use Rattle.fs_server.specs.Follows.{applies, is_prepared, recalls_for, vote_here, votes}
use Rattle.fs_server.specs.Moves.{fits_here, move_at, parcel_at, peer_step}
use Rattle.fs_server.specs.Reaps.{lapsed_in, reap_from, reap_item, turn_over}
use Rattle.fs_server.specs.Server.{Stepped, begun as server_begun, moved, strange as server_strange}
use Rattle.fs_server.specs.Ships.{item_of, ship_from, shipped}
use Rattle.fs_server.specs.Step.{message_step, step}
use Rattle.fs_server.specs.declared.event.ServerEvent.{ServerEvent}
use Rattle.fs_server.specs.declared.event.ServerEvent.TheVariants.{FromClient, FromPeer, Turn, Recall as TheRecall, Move}
use Rattle.fs_server.specs.declared.state.Server.{Server as ServerState}
use Rattle.fs_ident.proofs.Passing.{found}
use Rattle.fs_field.specs.Table.{same_txn}
use Rattle.fs_serial.specs.World.{is_called, pushed}
use Rattle.fs_world.proofs.LedEach.{each_done, each_goes, each_vote}
use Rattle.fs_serial.proofs.Moves.PathSteps.{each_message, refusal_here, refused}
use Rattle.fs_serial.proofs.Replies.Answering.{AnswerEnds, answer_ends, as_entry, as_led, as_move, as_read, not_told, put_off}

-- it asks for an access where it opens
pub record IsFine (i : Item) : Type 0 where
  pub asks : AsksAccess i.op

abbrev pub AllFine : List Item → Type 0
AllFine items = AllByRecursion IsFine items

pub fine_more : (is js : List Item) → AllFine is → AllFine js → AllFine (is ++ js)
fine_more [] js h g = g
fine_more (i ∷ is) js h g = (h.0, fine_more is js h.1 g)

-- what is admitted at once, if anything
abbrev pub MayBeFine : Option Item → Type 0
MayBeFine None = Unit {0}
MayBeFine (Some i) = IsFine i

pub fine_pushed : (o : Option Item) (is : List Item) → MayBeFine o → AllFine is → AllFine (pushed o is)
fine_pushed None is f h = h
fine_pushed (Some i) is f h = fine_more is (i ∷ []) h (f, tt)

-- ## What callers ask for

id_asks : (v : View) (now : ℕ) (o : Op) (r : Reply) → is_called o ≡ true → AsksAccess (with_id v now o r)
id_asks v now (op.Lookup dir name) r h = tt
id_asks v now (op.List dir) r h = tt
id_asks v now (op.Kind file) r h = tt
id_asks v now (op.Info file) r h = tt
id_asks v now (op.Create dir name kind id) reply.Made h = tt
id_asks v now (op.Create dir name kind id) r h = tt
id_asks v now (op.OpenFile file x modes) r h = h
id_asks v now (op.Close file x) r h = tt
id_asks v now (op.Set file x size stamp) r h = tt
id_asks v now (op.Delete dir name) r h = tt
id_asks v now (op.Rename sdir sname ddir dname) r h = tt
id_asks v now o r h = absurd (cc)

full_fine : (needs : List Need) (c : ClientState) → MayBeFine (full_one needs c).out.admitted
full_fine [] c = tt
full_fine (need.Lease field kind ∷ needs) c = full_fine needs c
full_fine (need.Fresh dir ∷ needs) c = tt

ask_fine : (needs some : List Need) (c : ClientState) → MayBeFine (ask_for needs some c).out.admitted
ask_fine needs [] c = full_fine needs c
ask_fine needs (n ∷ ns) c =
    elim (is_some c.exchange) as (λ b.
    MayBeFine (cond b (stays (act.Busy busy.Exchange) c) (asks (hinted c (need_file n)) (n ∷ ns) c)).out.admitted) [
      | true ↦ tt
      | false ↦ tt
    ]

end_fine : (o : Op) (r : Reply) (c : ClientState) (p : Plan Act) → AnswerEnds o r c p → is_called o ≡ true → MayBeFine p.out.admitted
end_fine o r c p (as_entry t) h = tt
end_fine o r c p (as_read t n e) h = record { asks = id_asks c.view c.last o r h }
end_fine o r c p (as_move t n e) h = record { asks = id_asks c.view c.last o r h }
end_fine o r c p (as_led t l x e moved k) h = tt
end_fine o r c p (put_off what) h = tt
end_fine o r c p not_told h = tt

answers_fine : (o : Op) (r : Reply) (c : ClientState) → is_called o ≡ true → MayBeFine (answers o r c).out.admitted
answers_fine o r c h = end_fine o r c (answers o r c) (answer_ends o r c) h

with_fine : (r : Option Reply) (o : Op) (c : ClientState) → is_called o ≡ true → MayBeFine (answer_with r o c).out.admitted
with_fine (Some r) o c h = answers_fine o r c h
with_fine None o c h = ask_fine (missing_in c.view c.last o) (worth c.full (missing_in c.view c.last o)) c

unless_fine : (led : Option TheLed) (o : Op) (c : ClientState) → is_called o ≡ true → MayBeFine (unless_led led o c).out.admitted
unless_fine (Some l) o c h = tt
unless_fine None o c h = with_fine (reply_in c.view c.last o) o c h

on_fine : (over : Option ℕ) (o : Op) (c : ClientState) → is_called o ≡ true → MayBeFine (act_on over o c).out.admitted
on_fine (Some n) o c h = tt
on_fine None o c h = unless_fine c.led o c h

pub act_fine : (c : ClientState) (now : ℕ) (o : Op) → is_called o ≡ true → MayBeFine (act_plan c now o).out.admitted
act_fine c now o h = let b : ClientState = begun now c in on_fine b.over o b h

-- ## Turns and answers

renew_fine : (ks : List ViewLease) (c : ClientState) → MayBeFine (renew_some ks c).out.admitted
renew_fine [] c = tt
renew_fine (k ∷ ks) c = tt

release_fine : (ks : List ViewLease) (c : ClientState) → MayBeFine (release_some ks c).out.admitted
release_fine [] c = renew_fine (ending (c.last + c.term / 2) c.view) c
release_fine (k ∷ ks) c = tt

ship_fine : (es : List Entry) (c : ClientState) → MayBeFine (ship_some es c).out.admitted
ship_fine [] c = tt
ship_fine (e ∷ es) c = tt

free_fine : (c : ClientState) → MayBeFine (turn_free c).out.admitted
free_fine c = elim (not (is_empty c.log) && not (is_some c.over)) as (λ b.
    MayBeFine (cond b (ship_some c.log c) (release_some (returned c.view) c)).out.admitted) [
      | true ↦ ship_fine c.log c
      | false ↦ release_fine (returned c.view) c
    ]

turned_fine : (c : ClientState) → MayBeFine (turn_on c).out.admitted
turned_fine c =
    elim (is_some c.exchange) as (λ b. MayBeFine (cond b (idle c) (turn_free c)).out.admitted) [ true ↦ tt | false ↦ free_fine c ]

pub turn_fine : (c : ClientState) (now : ℕ) → MayBeFine (turn_plan c now).out.admitted
turn_fine c now = turned_fine (begun now c)

ended_fine : (l : TheLed) (e : LedEnd) (c : ClientState) → MayBeFine (ended_plan l e c).out.admitted
ended_fine l (led_end.Done r) c = tt
ended_fine l (led_end.Ended lease until now) c = tt
ended_fine l (led_end.Again w) c = tt

led_fine : (led : Option TheLed) (e : LedEnd) (c : ClientState) → MayBeFine (led_plan led e c).out.admitted
led_fine None e c = tt
led_fine (Some l) e c = ended_fine l e c

told_fine : (a : Answer) (c : ClientState) → MayBeFine (fitting_plan a c).out.admitted
told_fine (Granted gs fresh e) c = tt
told_fine (Renewed rows e) c = tt
told_fine (Released count e) c = tt
told_fine (Shipped count e) c = tt
told_fine (Led e) c = led_fine c.led e c
told_fine (Recall number) c = tt

heard_fine : (from : ℕ) (a : Answer) (c : ClientState) → MayBeFine (hear from a c).out.admitted
heard_fine from a c = elim (fits from c.exchange a c) as (λ b. MayBeFine (cond b (fitting_plan a c) (strange c)).out.admitted) [
  | true ↦
      told_fine a c
  | false ↦ tt
]

pub answer_fine : (c : ClientState) (now from : ℕ) (a : Answer) → MayBeFine (answer_plan c now from a).out.admitted
answer_fine c now from a = heard_fine from a (begun now c)

-- ## Entries that are handed in

abbrev pub EntriesAsk : List Entry → Type 0
EntriesAsk es = (e : Entry) → In e es → AsksAccess e.op

pub ships_fine : (by : Session) (es : List Entry) (s : ServerState) (admitted : List Item) → EntriesAsk es → AllFine admitted
    → AllFine (ship_from by es s admitted).admitted
ships_fine by = each_entry by (λ es s admitted x. EntriesAsk es → AllFine admitted → AllFine x.admitted)
    (λ s admitted a h. h)
    (λ e es s admitted x mine here more a h. more (λ y i. a y (inr i)) (fine_more admitted (item_of by e ∷ []) h (
      record {
        asks =
            a e (inl refl);
      },
      tt,
    )))
    (λ e es s admitted at gaps why a h. h)

abbrev pub MessageAsks : ClientMsg → Type 0
MessageAsks (Ship entries) = EntriesAsk entries
MessageAsks m = Unit {0}

-- ## What the server leads

-- it opens nothing
led_asks : (o : Op) → is_led o ≡ true → AsksAccess o
led_asks (op.OpenFile file x modes) h = absurd (cc)
led_asks o h = tt

abbrev pub LeadersAsk : List Leading → Type 0
LeadersAsk leading = (l : Leading) → In l leading → AsksAccess l.leader.op

decided_fine : (d : Decision) (l : Leader) → AsksAccess l.op → AllFine (admitted_of d l)
decided_fine (Commit r effects) l h = (record { asks = h }, tt)
decided_fine (Abort e) l h = tt

abbrev AdmitsFine : Stepped → Type 0
AdmitsFine x = AllFine x.out.admitted

goes_fine : (n : ServerNote) (l : Leading) (path : Option PathAnswer) (sent : List (Peer × Msg)) (s : ServerState) → AsksAccess l.leader.op
    → AdmitsFine (goes_on n l path sent s)
goes_fine n l path sent s h = each_goes AdmitsFine n l path sent s (decided_fine (decision l.leader path) l.leader h) tt

vote_fine : (m : Voted) (s : ServerState) → LeadersAsk s.leading → AdmitsFine (vote_step m s)
vote_fine m s led = each_vote AdmitsFine m s tt
    (λ l p to f. tt)
    (λ l v f. goes_fine (server_note.Waits l.leader.txn) (with_vote m.number v l) (path_for l.leader.mode l.leader.op s) [] s (among l f))
    (λ l p f. let v : AVote = vote_here s l.leader.session p in
    goes_fine (server_note.Waits l.leader.txn) (with_vote m.number v (asked_at m.number s.me l)) (path_for l.leader.mode l.leader.op s)
    (recalls_for v s p) (after_own_vote l.leader.txn p v s) (among l f))
  where
    among : (l : Leading) → leading_of m.txn s.leading ≡ Some l → AsksAccess l.leader.op
    among l f = led l (found (λ (x : Leading). same_txn x.leader.txn m.txn) s.leading l f).0

left_fine : (x : Ending) (left : List (ℕ × ℕ)) (s : ServerState) → AdmitsFine (done_with x left s)
left_fine x [] s = tt
left_fine x (y ∷ ys) s = tt

done_fine : (m : ToldDone) (s : ServerState) → AdmitsFine (done_step m s)
done_fine m s = each_done AdmitsFine m s tt (λ x left f. left_fine (without_done m.number x) left s)

lead_fine : (by : Session) (m : ToLead) (s : ServerState) (x : Stepped) → LeadEnds by m s x → AllFine x.out.admitted
lead_fine by m s x (unled l) = tt
lead_fine by m s x (server_puts_off w l r) = tt
lead_fine by m s x (path_wanted top dir l o) = tt
lead_fine by m s x (path_kept file txn l o) = tt
lead_fine by m s x (txn_begun mode l b) =
    let g : Round = round_of mode by m s in
    goes_fine (server_note.Prepares (txn_of s)) (record { leader = leader_with mode (txn_of s) by m g.votes; at = g.at })
    (path_for mode m.op s) g.send g.server (led_asks m.op l)

-- ## Each message of a session

message_fine : (by : Session) (m : ClientMsg) (s : ServerState) → MessageAsks m → AllFine (message_step by m s).out.admitted
message_fine by (Ask items dir) s a = tt
message_fine by (Renew pairs) s a = tt
message_fine by (Release pairs) s a = tt
message_fine by (Lead m) s a = lead_fine by m s (lead_step by m s) (lead_ends by m s)
message_fine by (Ship entries) s a = elim (list_all (λ (e : Entry). tells_its_effects e.op) entries) as (λ b.
    AllFine (cond b (shipped by (ship_from by entries s [])) (server_strange s)).out.admitted) [
      | true ↦ ships_fine by entries s [] a tt
      | false ↦ tt
    ]

-- ## Other events

-- a reap opens nothing
reaps_fine : (xs : List (List ℕ × Session)) (s : ServerState) (admitted : List Item) (blockers : List LeaseNo) → AllFine admitted
    → AllFine (reap_from xs s admitted blockers).admitted
reaps_fine = each_lapsed (λ xs s admitted blockers r. AllFine admitted → AllFine r.admitted)
    (λ s admitted blockers h. h)
    (λ f x xs s admitted blockers r e more h. more (fine_more admitted (reap_item s.me (s.reaps + 1) f x ∷ []) h (
      record {
        asks =
            tt;
      },
      tt,
    )))
    (λ f x xs s admitted blockers r number e more h. more h)

turn_over_fine : (xs : List (List ℕ × Session)) (s : ServerState) → AllFine (turn_over xs s).out.admitted
turn_over_fine [] s = tt
turn_over_fine (x ∷ xs) s = reaps_fine (x ∷ xs) s [] [] tt

move_fine : (o : Option MoveError) (prefix : List ℕ) (to : ℕ) (s : ServerState) → AllFine (move_at o prefix to s).out.admitted
move_fine (Some why) prefix to s =
    refused (λ (x : Stepped). AllFine x.out.admitted) s (λ n ms paths asking given noted sent. tt) why prefix to
move_fine None prefix to s = tt

parcel_fine : (b : Bool) (p : Parcel) (s : ServerState) → AllFine (parcel_at b p s).out.admitted
parcel_fine true p s = tt
parcel_fine false p s = tt

prepare_fine : (b : Bool) (v : AVote) (from : ℕ) (m : ToPrepare) (s : ServerState)
    → AllFine (cond b (server_strange s) (votes v from m s)).out.admitted
prepare_fine true v from m s = tt
prepare_fine false v from m s = tt

decide_fine : (b : Bool) (from : ℕ) (m : ToDecide) (s : ServerState) → AllFine (cond b (applies from m s) (server_strange s)).out.admitted
decide_fine true from m s = tt
decide_fine false from m s = tt

peer_fine : (from : ℕ) (m : PeerMsg) (s : ServerState) → LeadersAsk s.leading → AllFine (peer_step from m s).out.admitted
peer_fine from (OfParcel p) s led = parcel_fine (fits_here p s) p s
peer_fine from (Prepare m) s led = prepare_fine (is_prepared m.txn m.number s.prepared) (vote_here s m.session m.part) from m s
peer_fine from (Vote m) s led = vote_fine m s led
peer_fine from (Decide m) s led = decide_fine (is_prepared m.txn m.number s.prepared) from m s
peer_fine from (Done m) s led = done_fine m s
peer_fine from m s led =
    each_message (λ (x : Stepped). AllFine x.out.admitted) s (λ n ms paths asking given noted sent. tt) from m tt

abbrev pub EventAsks : ServerEvent → Type 0
EventAsks (FromClient by m) = MessageAsks m
EventAsks e = Unit {0}

pub step_fine : (s : ServerState) (now : ℕ) (e : ServerEvent) → EventAsks e → LeadersAsk s.leading → AllFine (step s now e).out.admitted
step_fine s now (FromClient by m) a led = message_fine by m (server_begun now s) a
step_fine s now Turn a led = let b : ServerState = server_begun now s in turn_over_fine (lapsed_in b) b
step_fine s now (TheRecall field) a led = tt
step_fine s now (FromPeer from m) a led = peer_fine from m (server_begun now s) led
step_fine s now (Move prefix to) a led =
    let b : ServerState = server_begun now s in
    move_fine (refusal_here prefix to b) prefix to b
