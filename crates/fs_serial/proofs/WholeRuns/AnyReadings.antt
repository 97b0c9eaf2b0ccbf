-- What holds whatever the clocks show. Clocks matter for what is admitted at once: a session
-- whose lease has lost its row may read what is no longer so. Nothing else rests on such an item, so that another one may stand in
-- its place, which is right and makes no file.
use Rattle.std.proofs.Common.{◌≡◌, ℕ, ◌≤◌, max, true, false, List, [], ◌∷◌, ◌++◌, cond, refl, ap, sym, ◌∙◌, subst, arith}
use Rattle.std.specs.Prelude.{◌≢◌, Option, Some, None, is_some, option_map, slice_get}
use Rattle.fs_ident.specs.declared.actor.Session.{Session}
use Rattle.fs_ident.specs.declared.kind.Kind.{Kind}
use Rattle.fs_field.specs.declared.asked.Need.{Need}
use Rattle.fs_field.specs.declared.asked.Need.TheVariants as need
use Rattle.fs_model.specs.declared.op.Op.{Op}
use Rattle.fs_model.specs.declared.op.Op.TheVariants as op
use Rattle.fs_model.specs.declared.reply.Reply.{Reply}
use Rattle.fs_msg.specs.declared.act.Act.{Act}
use Rattle.fs_msg.specs.declared.act.Act.TheVariants as act
use Rattle.fs_msg.specs.declared.act.Busy.TheVariants as busy
use Rattle.fs_msg.specs.declared.answer.Answer.{Answer}
use Rattle.fs_msg.specs.declared.client_note.ClientNote.TheVariants as client_note
use Rattle.fs_msg.specs.declared.item.Item.{Item}
use Rattle.fs_record.specs.Effects.{tells_its_effects}
use Rattle.fs_record.specs.Records.{nodes_of}
use Rattle.fs_record.specs.declared.parcel.Parcel.{Parcel}
use Rattle.fs_client.specs.Acts.{act_on, act_plan, answer_with, answers, ask_for, asks, full_one, hinted, need_file, stays, unless_led}
use Rattle.fs_client.specs.Acts.{with_id, worth}
use Rattle.fs_client.specs.Answers.{answer_plan}
use Rattle.fs_client.specs.Client.{begun}
use Rattle.fs_client.specs.Turns.{turn_plan}
use Rattle.fs_client.specs.declared.led.Led.{Led}
use Rattle.fs_client.specs.declared.plan.Plan.{Plan}
use Rattle.fs_client.specs.declared.state.Client.{Client}
use Rattle.fs_server.specs.Step.{step}
use Rattle.fs_server.specs.declared.event.ServerEvent.{ServerEvent}
use Rattle.fs_server.specs.declared.event.ServerEvent.TheVariants.{FromClient, FromPeer, Turn, Recall, Move}
use Rattle.fs_server.specs.declared.state.Server.{Server}
use Rattle.fs_view.specs.View.{View, missing_in, reply_in}
use Rattle.fs_serial.specs.Cluster.{replies_after, CanCome, ClientEvent, Cluster, Does, Hears, IsThere, Turns, after_client}
use Rattle.fs_serial.specs.Cluster.{after_server, after_server_at, first_cluster}
use Rattle.fs_serial.specs.Fresh.{IsMade, made_by, made_in, or_else, root_kind}
use Rattle.fs_serial.specs.Places.{IsHome, IsSent, PlacesHold}
use Rattle.fs_serial.specs.Runs.{CanRun, Dated, IsOrderly, greatest_in, run}
use Rattle.fs_serial.specs.Serial.{AreSound}
use Rattle.fs_serial.specs.World.{pushed, told_by, with_told}
use Rattle.fs_serial.specs.Whole.{ClusterStands}
use Rattle.fs_serial.proofs.DecidedEffects.HeldSeen.{held_same, held_seen}
use Rattle.fs_serial.proofs.Replies.Answering.{AnswerEnds, answer_ends, as_entry, as_led, as_move, as_read, not_told, put_off}
use Rattle.fs_serial.proofs.Transactions.ClientsStand.{answer_known, hears_stands, plain_stands, plainly, turn_stands}
use Rattle.fs_serial.proofs.Paths.ClientsKeep.{clients_keep_paths, plan_keeps}
use Rattle.fs_serial.proofs.Paths.KeptClients.{client_kept, few_one, plan_kept}
use Rattle.fs_serial.proofs.Transactions.ClientsWait.{client_waits}
use Rattle.fs_serial.proofs.WholeRuns.ClusterClients.{some_server}
use Rattle.fs_serial.proofs.Lists.Journals.{made_in-append, or_assoc, or_none}
use Rattle.fs_serial.proofs.WholeRuns.ClusterRuns.{first_all, stands_later}
use Rattle.fs_serial.proofs.WholeRuns.ClusterSteps.{server_keeps}
use Rattle.fs_serial.proofs.WholeRuns.EventsKeep.{EventsKeep, runs_keep}
use Rattle.fs_serial.proofs.Replies.Read.{no_kind, plain_read, unmade_read}

-- ## Items that make the same files

made_all : (xs more : List Item) (id : List ℕ) → made_in (xs ++ more) id ≡ or_else (made_in xs id) (made_in more id)
made_all [] more id = refl
made_all (x ∷ xs) more id = ap (or_else (made_by x.op x.reply id)) (made_all xs more id)
    ∙ or_assoc (made_by x.op x.reply id) (made_in xs id) (made_in more id)

same_behind : (xs ys more : List Item) (id : List ℕ) → made_in xs id ≡ made_in ys id → made_in (xs ++ more) id ≡ made_in (ys ++ more) id
same_behind xs ys more id e = made_all xs more id ∙ ap (λ (k : Option Kind). or_else k (made_in more id)) e ∙ sym (made_all ys more id)

same_pushed : (o : Option Item) (xs ys : List Item) (id : List ℕ) → made_in xs id ≡ made_in ys id
    → made_in (pushed o xs) id ≡ made_in (pushed o ys) id
same_pushed None xs ys id e = e
same_pushed (Some i) xs ys id e = same_behind xs ys (i ∷ []) id e

makes_none : (xs : List Item) (i : Item) (id : List ℕ) → made_by i.op i.reply id ≡ None → made_in (xs ++ i ∷ []) id ≡ made_in xs id
makes_none xs i id e = made_in-append xs i id ∙ ap (or_else (made_in xs id)) e ∙ or_none (made_in xs id)

-- what is admitted, if anything, makes no file
abbrev MakesNone : Option Item → Type 0
MakesNone None = Unit {0}
MakesNone (Some i) = (id : List ℕ) → made_by i.op i.reply id ≡ None

same_read : (put : Item → Item) → ((i : Item) (id : List ℕ) → made_by (put i).op (put i).reply id ≡ None) → (o : Option Item)
    → MakesNone o → (xs ys : List Item) (id : List ℕ) → made_in xs id ≡ made_in ys id
    → made_in (pushed (option_map put o) xs) id ≡ made_in (pushed o ys) id
same_read put silent None h xs ys id e = e
same_read put silent (Some i) h xs ys id e = makes_none xs (put i) id (silent i id) ∙ e ∙ sym (makes_none ys i id (h id))

-- ## What a client admits at once makes no file

full_none : (needs : List Need) (c : Client) → MakesNone (full_one needs c).out.admitted
full_none [] c = tt
full_none (need.Lease field kind ∷ needs) c = full_none needs c
full_none (need.Fresh dir ∷ needs) c = tt

ask_none : (needs some : List Need) (c : Client) → MakesNone (ask_for needs some c).out.admitted
ask_none needs [] c = full_none needs c
ask_none needs (n ∷ ns) c = elim (is_some c.exchange) as
    (λ b. MakesNone (cond b (stays (act.Busy busy.Exchange) c) (asks (hinted c (need_file n)) (n ∷ ns) c)).out.admitted)
    [ true ↦ tt | false ↦ tt ]

-- nor does a delete or a rename
unmade_move : (v : View) (now : ℕ) (o : Op) (r : Reply) (id : List ℕ) → tells_its_effects o ≡ false
    → made_by (with_id v now o r) r id ≡ None
unmade_move v now (op.Create dir name kind new) r id h = absurd (cc)
unmade_move v now o r id h = refl

each_none : (o : Op) (r : Reply) (c : Client) (p : Plan Act) → AnswerEnds o r c p → MakesNone p.out.admitted
each_none o r c p (as_entry t) = tt
each_none o r c p (as_read t n e) = λ id. no_kind (made_by (with_id c.view c.last o r) r id)
    (unmade_read (with_id c.view c.last o r) r id n)
each_none o r c p (as_move t n e) = λ id. unmade_move c.view c.last o r id t
each_none o r c p (as_led t l x e moved k) = tt
each_none o r c p (put_off what) = tt
each_none o r c p not_told = tt

answers_none : (o : Op) (r : Reply) (c : Client) → MakesNone (answers o r c).out.admitted
answers_none o r c = each_none o r c (answers o r c) (answer_ends o r c)

with_none : (r : Option Reply) (o : Op) (c : Client) → MakesNone (answer_with r o c).out.admitted
with_none (Some r) o c = answers_none o r c
with_none None o c = ask_none (missing_in c.view c.last o) (worth c.full (missing_in c.view c.last o)) c

unless_none : (led : Option Led) (o : Op) (c : Client) → MakesNone (unless_led led o c).out.admitted
unless_none (Some l) o c = tt
unless_none None o c = with_none (reply_in c.view c.last o) o c

on_none : (over : Option ℕ) (o : Op) (c : Client) → MakesNone (act_on over o c).out.admitted
on_none (Some n) o c = tt
on_none None o c = unless_none c.led o c

act_none : (c : Client) (now : ℕ) (o : Op) → MakesNone (act_plan c now o).out.admitted
act_none c now o = on_none c.over o (begun now c)

-- ## What holds

abbrev pub told_as : List Item → (Session → List Item) → Cluster → Cluster
told_as journal replied c = record { servers = c.servers; in_flight = c.in_flight; journal = journal; replied = replied; lines = c.lines }

-- all parts, but of another journal, which makes the same files
pub record HoldsAnyhow (skew greatest : ℕ) (c : Cluster) : Type 0 where
  pub journal : List Item
  pub replied : Session → List Item
  pub same : (id : List ℕ) → made_in journal id ≡ made_in c.journal id
  pub whole : ClusterStands skew greatest (told_as journal replied c)

pub anyhow_later : (skew greatest later : ℕ) (c : Cluster) → greatest ≤ later → HoldsAnyhow skew greatest c → HoldsAnyhow skew later c
anyhow_later skew greatest later c rises h = record {
  journal = h.journal;
  replied = h.replied;
  same = h.same;
  whole = stands_later skew greatest later (told_as h.journal h.replied c) rises h.whole;
}

pub first_anyhow : (servers skew term greatest : ℕ) → 1 ≤ servers → HoldsAnyhow skew greatest (first_cluster servers skew term)
first_anyhow servers skew term greatest some = record {
  journal = [];
  replied = λ x. [];
  same = λ id. refl;
  whole = first_all servers skew term greatest some;
}

-- ## A server's events

there_too : (k : ℕ) (e : ServerEvent) (journal : List Item) (replied : Session → List Item) (c : Cluster) → IsThere k e c
    → IsThere k e (told_as journal replied c)
there_too k (FromClient by m) journal replied c there = there
there_too k (FromPeer from m) journal replied c there = there
there_too k Turn journal replied c there = tt
there_too k (Recall field) journal replied c there = tt
there_too k (Move prefix to) journal replied c there = there

pub server_anyhow : (skew greatest now k : ℕ) (e : ServerEvent) (s : Server) (c : Cluster)
    → slice_get c.servers k ≡ Some s → max s.last now ≤ greatest → IsThere k e c → HoldsAnyhow skew greatest c
    → HoldsAnyhow skew greatest (after_server now k e c)
server_anyhow skew greatest now k e s c at before there h =
    let d = told_as h.journal h.replied c in
    let kept : ClusterStands skew greatest (after_server now k e d) = server_keeps skew greatest now k e s d at before
    (there_too k e h.journal h.replied c there) h.whole in
    let more = (step s now e).out.admitted in
    subst (λ (o : Option Server). HoldsAnyhow skew greatest (after_server_at o now k e c)) (sym at) (record {
      journal = h.journal ++ more;
      replied = replies_after e more h.replied;
      same = λ id. same_behind h.journal c.journal more id (h.same id);
      whole = subst (λ (o : Option Server). ClusterStands skew greatest (after_server_at o now k e d)) at kept;
    })

-- ## A client's events

come_too : (by : Session) (e : ClientEvent) (journal : List Item) (replied : Session → List Item) (c : Cluster) → CanCome by e c
    → CanCome by e (told_as journal replied c)
come_too by (Does o) journal replied c can = can
come_too by Turns journal replied c can = tt
come_too by (Hears from a) journal replied c can = can

pub client_anyhow : (skew greatest now : ℕ) (c : Cluster) (by : Session) → HoldsAnyhow skew greatest c → (e : ClientEvent)
    → CanCome by e c → HoldsAnyhow skew greatest (after_client by now e c)
client_anyhow skew greatest now c by h (Does o) can =
    let d = told_as h.journal h.replied c in
    let p = plainly skew greatest d by h.whole.holds now o in
    record {
      journal = pushed p.out.admitted h.journal;
      replied = with_told by (told_by by p.ready.change p.out.admitted) h.replied;
      same = λ id. same_read (λ i. plain_read (nodes_of (held_seen c)) by (c.lines by).client.next) (λ i j. refl)
          (act_plan (c.lines by).client now o).out.admitted (act_none (c.lines by).client now o) h.journal c.journal id (h.same id);
      whole = record {
        holds = plain_stands skew greatest d by h.whole.holds now o can;
        paths = plan_keeps by (c.lines by).down p d h.whole.paths;
        kept = plan_kept skew greatest now d by h.whole.holds h.whole.kept (c.lines by).down p
            (client_waits by d (few_one skew greatest now d by h.whole.holds h.whole.kept) now (Does o) can);
      };
    }
client_anyhow skew greatest now c by h Turns can =
    let d = told_as h.journal h.replied c in
    let p = turn_plan (c.lines by).client now in
    record {
      journal = pushed p.out.admitted h.journal;
      replied = with_told by (told_by by p.ready.change p.out.admitted) h.replied;
      same = λ id. same_pushed p.out.admitted h.journal c.journal id (h.same id);
      whole = record {
        holds = turn_stands skew greatest d by h.whole.holds now;
        paths = clients_keep_paths by now Turns d h.whole.paths;
        kept = client_kept skew greatest now d by h.whole.holds h.whole.kept Turns tt;
      };
    }
client_anyhow skew greatest now c by h (Hears from a) can =
    let d = told_as h.journal h.replied c in
    let p = answer_plan (c.lines by).client now from a in
    record {
      journal = pushed p.out.admitted h.journal;
      replied = with_told by (told_by by p.ready.change p.out.admitted) h.replied;
      same = λ id. same_pushed p.out.admitted h.journal c.journal id (h.same id);
      whole =
          let too = come_too by (Hears from a) h.journal h.replied c can in
          record {
            holds = hears_stands skew greatest d by h.whole.holds from a too now;
            paths = clients_keep_paths by now (Hears from a) d h.whole.paths;
            kept = client_kept skew greatest now d by h.whole.holds h.whole.kept (Hears from a) too;
          };
    }

pub client_plain_anyhow : (skew greatest now from : ℕ) (a : Answer) (by : Session) (c : Cluster) → CanCome by (Hears from a) c
    → HoldsAnyhow skew greatest c → (answer_plan (c.lines by).client now from a).out.note ≢ client_note.Strange
client_plain_anyhow skew greatest now from a by c can h = answer_known skew greatest (told_as h.journal h.replied c) by h.whole.holds from a
    (come_too by (Hears from a) h.journal h.replied c can) now

-- ## What comes of it

module _ (skew greatest : ℕ) (c : Cluster) (h : HoldsAnyhow skew greatest c) where
  made_too : (id : List ℕ) → IsMade h.journal id → IsMade c.journal id
  made_too id m = subst (λ (k : Option Kind). is_some (or_else (root_kind id) k) ≡ true) (h.same id) m

  home_too : (s : Server) → IsHome h.journal s → IsHome c.journal s
  home_too s p = record {
    map = p.map;
    listed = λ place i. made_too place (p.listed place i);
    rows = p.rows;
    records = p.records;
    ordered = p.ordered;
  }

  sent_too : (a : Parcel) → IsSent h.journal a → IsSent c.journal a
  sent_too a p = record {
    formed = p.formed;
    given = p.given;
    listed = λ place i. made_too place (p.listed place i);
    each = p.each;
    ordered = p.ordered;
    unlocked = p.unlocked;
  }

  pub anyhow_places : PlacesHold c
  anyhow_places =
      let p = h.whole.holds.places in
      record {
        one = p.one;
        homes = λ s i. home_too s (p.homes s i);
        sent = λ a i. sent_too a (p.sent a i);
        goes = p.goes;
        ordered = p.ordered;
        numbered = p.numbered;
        named = p.named;
      }

  pub anyhow_orderly : IsOrderly c
  anyhow_orderly =
      let q = some_server (told_as h.journal h.replied c) h.whole.holds.places in
      let all = (h.whole.holds.parts q.0 q.1).0.all in
      record { places = anyhow_places; apart = all.servers.apart; sound = subst AreSound (sym (held_same (told_as h.journal h.replied c) h.whole.holds.led)) all.kept.sound }

-- ## Runs

-- every event comes in time
abbrev anyhow_keep : ℕ → EventsKeep
anyhow_keep skew = record {
  Holds = HoldsAnyhow skew;
  Within = λ greatest now. Unit {0};
  later = anyhow_later skew;
  clock = λ greatest s c i h. (h.whole.holds.parts s i).0.clock;
  server = λ greatest now k e s c at clock within there h.
      server_anyhow skew (max greatest now) now k e s c at (omega (arith, clock)) there
      (anyhow_later skew greatest (max greatest now) c (omega arith) h);
  client = λ greatest now c by h e can within.
      anyhow_later skew greatest (max greatest now) (after_client by now e c) (omega arith)
      (client_anyhow skew greatest now c by h e can);
  Comes = λ greatest es c. CanRun es c;
  next = λ greatest e es c r. (r.0, tt, r.1);
}

pub all_orderly : (servers skew term : ℕ) (es : List Dated) → 1 ≤ servers → CanRun es (first_cluster servers skew term)
    → IsOrderly (run es (first_cluster servers skew term))
all_orderly servers skew term es some r =
    anyhow_orderly skew (greatest_in 0 es) (run es (first_cluster servers skew term))
    (runs_keep (anyhow_keep skew) 0 es (first_cluster servers skew term) (first_anyhow servers skew term 0 some) r)
