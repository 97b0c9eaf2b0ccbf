-- The reply that is on its way of what a server led.
use Rattle.std.proofs.Common.{◌≡◌, ◌∙◌, ℕ, zero, suc, ◌==◌, Bool, true, false, List, [], ◌∷◌, ◌++◌, append-nil, append_assoc, cond, refl}
use Rattle.std.proofs.Common.{ap, sym}
use Rattle.std.specs.Prelude.{Option, Some, None}
use Rattle.std.specs.List.{find}
use Rattle.fs_ident.specs.declared.actor.Peer.{Peer}
use Rattle.fs_ident.specs.declared.actor.Peer.TheVariants.{Client as OfSession, Server as OfServer}
use Rattle.fs_ident.specs.declared.actor.Session.{Session}
use Rattle.fs_ident.proofs.Same.{one_session}
use Rattle.fs_msg.specs.declared.answer.Answer.{Answer}
use Rattle.fs_msg.specs.declared.answer.Answer.TheVariants.{Granted, Renewed, Released, Shipped, Recall, Led as Ended}
use Rattle.fs_msg.specs.declared.client_msg.ClientMsg.{ClientMsg}
use Rattle.fs_msg.specs.declared.msg.Msg.{Msg}
use Rattle.fs_msg.specs.declared.msg.Msg.TheVariants as msg
use Rattle.fs_client.specs.Client.{admitted_all, admitted_one, begun, changed, committed, with_hints}
use Rattle.fs_client.specs.declared.change.Change.{Change}
use Rattle.fs_client.specs.declared.change.Change.TheVariants as change
use Rattle.fs_client.specs.declared.led.Led.{Led}
use Rattle.fs_client.specs.declared.plan.Ready.{Ready}
use Rattle.fs_client.specs.declared.state.Client.{Client}
use Rattle.fs_msg.specs.declared.entry.Entry.{Entry}
use Rattle.fs_serial.specs.Cluster.{Lines, is_with, with_answer, with_sent, without_first, without_question}
use Rattle.fs_serial.specs.Exchange.{due}
use Rattle.fs_serial.proofs.Lists.Traffic.{messages}
use Rattle.fs_server.specs.declared.event.ServerEvent.{ServerEvent}
use Rattle.fs_server.specs.declared.event.ServerEvent.TheVariants.{FromClient, FromPeer, Turn, Recall as TheRecall, Move}
use Rattle.fs_world.specs.Coming.{item_with, items_with}

-- where nothing is led, nothing comes
pub none_comes : (x : Session) (ms : List Answer) → items_with x None ms ≡ []
none_comes x [] = refl
none_comes x (m ∷ ms) = none_comes x ms

pub more_come : (x : Session) (led : Option Led) (ms more : List Answer)
    → items_with x led (ms ++ more) ≡ items_with x led ms ++ items_with x led more
more_come x led [] more = refl
more_come x led (m ∷ ms) more = ap (λ is. item_with x led m ++ is) (more_come x led ms more)
    ∙ sym (append_assoc (item_with x led m) (items_with x led ms) (items_with x led more))

-- nor where no answer is due
pub quiet_comes : (x : Session) (led : Option Led) (ms : List Answer) → due ms ≡ [] → items_with x led ms ≡ []
quiet_comes x None ms e = none_comes x ms
quiet_comes x (Some l) [] e = refl
quiet_comes x (Some l) (Recall n ∷ ms) e = quiet_comes x (Some l) ms e
quiet_comes x (Some l) (Granted gs fresh t ∷ ms) e = absurd (cc)
quiet_comes x (Some l) (Renewed ends t ∷ ms) e = absurd (cc)
quiet_comes x (Some l) (Released count t ∷ ms) e = absurd (cc)
quiet_comes x (Some l) (Shipped count t ∷ ms) e = absurd (cc)
quiet_comes x (Some l) (Ended t ∷ ms) e = absurd (cc)

one_then : (x : Session) (l : Led) (b a : Answer) (ms : List Answer) → b ∷ due ms ≡ a ∷ []
    → item_with x (Some l) b ++ items_with x (Some l) ms ≡ item_with x (Some l) a
one_then x l b a ms e =
    let same : b ≡ a = cc in
    let rest : due ms ≡ [] = cc in
    ap (λ is. item_with x (Some l) b ++ is) (quiet_comes x (Some l) ms rest) ∙ append-nil (item_with x (Some l) b)
    ∙ ap (item_with x (Some l)) same

-- the one that is due brings it
pub one_comes : (x : Session) (l : Led) (ms : List Answer) (a : Answer) → due ms ≡ a ∷ []
    → items_with x (Some l) ms ≡ item_with x (Some l) a
one_comes x l [] a e = absurd (cc)
one_comes x l (Recall n ∷ ms) a e = one_comes x l ms a e
one_comes x l (Granted gs fresh t ∷ ms) a e = one_then x l (Granted gs fresh t) a ms e
one_comes x l (Renewed ends t ∷ ms) a e = one_then x l (Renewed ends t) a ms e
one_comes x l (Released count t ∷ ms) a e = one_then x l (Released count t) a ms e
one_comes x l (Shipped count t ∷ ms) a e = one_then x l (Shipped count t) a ms e
one_comes x l (Ended t ∷ ms) a e = one_then x l (Ended t) a ms e

-- what brings nothing comes, and the same is on its way
pub heard_comes : (x : Session) (led : Option Led) (k : ℕ) (a : Answer) (ms : List (ℕ × Answer)) → find (is_with k) ms ≡ Some (k, a)
    → item_with x led a ≡ [] → items_with x led (messages (without_first (is_with k) ms)) ≡ items_with x led (messages ms)
heard_comes x led k a [] f e = refl
heard_comes x led k a (m ∷ ms) f e = elim (is_with k m) as (λ b. cond b (Some m) (find (is_with k) ms) ≡ Some (k, a)
    → items_with x led (messages (cond b ms (m ∷ without_first (is_with k) ms))) ≡ item_with x led m.1 ++ items_with x led (messages ms)) [
      | true ↦ λ g. let same : m ≡ (k, a) = cc in
          ap (λ is. is ++ items_with x led (messages ms)) (sym (ap (λ (n : ℕ × Answer). item_with x led n.1) same ∙ e))
      | false ↦ λ g. ap (λ is. item_with x led m.1 ++ is) (heard_comes x led k a ms g e)
    ] f

-- ## What a server sends

abbrev pub answers_to : ℕ → Session → List (Peer × Msg) → List (ℕ × Answer)
answers_to k x [] = []
answers_to k x ((OfSession to, msg.Answer a) ∷ rest) = cond (to.0 == x.0) ((k, a) ∷ []) [] ++ answers_to k x rest
answers_to k x (m ∷ rest) = answers_to k x rest

abbrev pub with_more : List (ℕ × Answer) → Lines → Lines
with_more more l = record l { down = l.down ++ more }

more_again : (l : Lines) (a b : List (ℕ × Answer)) → with_more b (with_more a l) ≡ with_more (a ++ b) l
more_again l a b = ap (λ d. let m : Lines = record l { down = d } in m) (append_assoc l.down a b)

none_more : (l : Lines) → with_more [] l ≡ l
none_more l = ap (λ d. let m : Lines = record l { down = d } in m) (append-nil l.down)

answer_line : (k : ℕ) (a : Answer) (l : Lines) (b : Bool)
    → cond b (record l { down = l.down ++ (k, a) ∷ [] }) l ≡ with_more (cond b ((k, a) ∷ []) []) l
answer_line k a l true = refl
answer_line k a l false = sym (none_more l)

pub sent_line : (k : ℕ) (send : List (Peer × Msg)) (lines : Session → Lines) (x : Session)
    → with_sent k send lines x ≡ with_more (answers_to k x send) (lines x)
sent_line k [] lines x = sym (none_more (lines x))
sent_line k ((OfSession to, msg.Answer a) ∷ rest) lines x =
    sent_line k rest (with_answer k to a lines) x ∙ ap (with_more (answers_to k x rest)) (answer_line k a (lines x) (to.0 == x.0))
    ∙ more_again (lines x) (cond (to.0 == x.0) ((k, a) ∷ []) []) (answers_to k x rest)
sent_line k ((OfSession to, msg.Client m) ∷ rest) lines x = sent_line k rest lines x
sent_line k ((OfSession to, msg.Peer m) ∷ rest) lines x = sent_line k rest lines x
sent_line k ((OfServer to, m) ∷ rest) lines x = sent_line k rest lines x

-- the client and the answers stay where a question is taken
taken_at : (k : ℕ) (by x : Session) (lines : Session → Lines) (b : Bool) → (by.0 == x.0) ≡ b
    → (up : List (ℕ × ClientMsg)) × (cond b (record (lines by) { up = without_first (is_with k) (lines by).up })
    (lines x) ≡ record (lines x) { up = up })
taken_at k by x lines true e = (
  without_first (is_with k) (lines x).up,
  ap (λ (y : Session). let l : Lines =
      record (lines y) { up = without_first (is_with k) (lines y).up } in l) (one_session by x e),
)
taken_at k by x lines false e = ((lines x).up, refl)

pub taken_line : (k : ℕ) (e : ServerEvent) (lines : Session → Lines) (x : Session)
    → (up : List (ℕ × ClientMsg)) × (without_question k e lines x ≡ record (lines x) { up = up })
taken_line k (FromClient by m) lines x = taken_at k by x lines (by.0 == x.0) refl
taken_line k (FromPeer from m) lines x = ((lines x).up, refl)
taken_line k Turn lines x = ((lines x).up, refl)
taken_line k (TheRecall field) lines x = ((lines x).up, refl)
taken_line k (Move prefix to) lines x = ((lines x).up, refl)

-- ## What is led then

abbrev pub led_after : Change → Option Led → Option Led
led_after (change.Lead to l) led = Some l
led_after (change.LedDone effects) led = None
led_after change.LedFreed led = None
led_after ch led = led

admitted_led : (count : ℕ) (c : Client) → (admitted_all count c).led ≡ c.led
admitted_led zero c = refl
admitted_led (suc k) c = admitted_led k (admitted_one c c.log) ∙ one c.log
  where
    one : (es : List Entry) → (admitted_one c es).led ≡ c.led
    one [] = refl
    one (e ∷ es) = refl

led_changed : (ch : Change) (c : Client) → (changed ch c).led ≡ led_after ch c.led
led_changed change.Nothing c = refl
led_changed change.Read c = refl
led_changed (change.Reply entry effects) c = refl
led_changed (change.Ask x) c = refl
led_changed (change.Leave to numbers) c = refl
led_changed (change.Grant leases full) c = refl
led_changed (change.Renew ends) c = refl
led_changed (change.Release numbers) c = refl
led_changed (change.Admit count over) c = admitted_led count c
led_changed (change.Lead to l) c = refl
led_changed (change.LedDone effects) c = refl
led_changed change.LedFreed c = refl
led_changed (change.Recall number) c = refl

pub led_then : (r : Ready) (c : Client) → (committed r c).led ≡ led_after r.change c.led
led_then r c = elim r.hints as (λ o. (with_hints o (changed r.change (begun r.now c))).led ≡ led_after r.change c.led) [
  | None ↦ led_changed r.change (begun r.now c)
  | Some hints ↦ led_changed r.change (begun r.now c)
]
