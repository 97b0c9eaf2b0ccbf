-- Messages with their servers' numbers, and without.
use mathlib.Core.Path.{fun_ext}
use Rattle.std.proofs.Common.{◌≡◌, ℕ, ◌==◌, Bool, true, false, List, [], ◌∷◌, ◌++◌, cond, map, refl, ap, ◌∙◌}
use Rattle.std.specs.Prelude.{Option, Some, None}
use Rattle.std.specs.List.{find}
use Rattle.fs_ident.specs.declared.actor.Peer.{Peer}
use Rattle.fs_ident.specs.declared.actor.Peer.TheVariants.{Client as OfSession, Server as OfServer}
use Rattle.fs_ident.specs.declared.actor.Session.{Session}
use Rattle.fs_ident.proofs.Passing.{found}
use Rattle.fs_ident.proofs.Standing.{In-mapped}
use Rattle.fs_ident.proofs.Same.{one_session}
use Rattle.fs_msg.specs.declared.answer.Answer.{Answer}
use Rattle.fs_msg.specs.declared.client_msg.ClientMsg.{ClientMsg}
use Rattle.fs_msg.specs.declared.msg.Msg.{Msg}
use Rattle.fs_msg.specs.declared.msg.Msg.TheVariants as msg
use Rattle.fs_server.specs.declared.event.ServerEvent.{ServerEvent}
use Rattle.fs_server.specs.declared.event.ServerEvent.TheVariants as event
use Rattle.fs_client.specs.declared.state.Client.{Client}
use Rattle.fs_serial.specs.Cluster.{Cluster, InFlight, IsThere, Lines, in_flight_from, is_with, with_answer, with_lines, with_sent, without_first, without_question}
use Rattle.fs_serial.specs.Exchange.{OneExchange}
use Rattle.fs_serial.specs.World.{Ends, message_in, pushed, with_ends}
use Rattle.fs_serial.specs.World as world
use Rattle.fs_serial.specs.Owed.{ends_of}
use Rattle.fs_serial.proofs.OneServer.ServerEvents.{one_up}

abbrev pub messages : {X : Type 0} → List (ℕ × X) → List X
messages {X = X} ms = map (λ (m : ℕ × X). m.1) ms

pub messages_append : {X : Type 0} (a b : List (ℕ × X)) → messages (a ++ b) ≡ messages a ++ messages b
messages_append [] b = refl
messages_append (m ∷ a) b = ap (λ ms. m.1 ∷ ms) (messages_append a b)

-- ## The first of a server

-- it stands between these, and they are left
pub record IsTaken {X : Type 0} (is : X → Bool) (xs : List X) (x : X) : Type 0 where
  pub front : List X
  pub back : List X
  pub whole : xs ≡ front ++ x ∷ back
  pub left : without_first is xs ≡ front ++ back

pub taken_first : {X : Type 0} (is : X → Bool) (xs : List X) (x : X) → find is xs ≡ Some x → IsTaken is xs x
taken_first is [] x e = absurd (cc)
taken_first is (y ∷ ys) x e =
    let rest = taken_first is ys x in
    elim (is y) as (λ b. is y ≡ b → cond b (Some y) (find is ys) ≡ Some x → IsTaken is (y ∷ ys) x) [
      | true ↦ λ t q. let same : y ≡ x = cc in record { front = []; back = ys; whole = ap (λ z. z ∷ ys) same; left = ap (λ b. cond b ys (y ∷ without_first is ys)) t }
      | false ↦ λ t q. let r = rest q in record {
        front = y ∷ r.front;
        back = r.back;
        whole = ap (λ zs. y ∷ zs) r.whole;
        left = ap (λ b. cond b ys (y ∷ without_first is ys)) t ∙ ap (λ zs. y ∷ zs) r.left;
      }
    ] refl e

-- ## The question that is on its way

-- it alone is, and then none is
pub record IsAlone (k : ℕ) (waiting : List (ℕ × ClientMsg)) (m : ClientMsg) : Type 0 where
  pub only : waiting ≡ (k, m) ∷ []
  pub left : without_first (is_with k) waiting ≡ []

pub alone : (up : List (ℕ × ClientMsg)) (k : ℕ) (m : ClientMsg) → messages up ≡ m ∷ [] → find (is_with k) up ≡ Some (k, m) → IsAlone k up m
alone [] k m e f = absurd (cc)
alone (u ∷ []) k m e f =
    elim (is_with k u) as (λ b. is_with k u ≡ b → cond b (Some u) None ≡ Some (k, m) → IsAlone k (u ∷ []) m) [
      | true ↦ λ t q. let same : u ≡ (k, m) = cc in record { only = ap (λ z. z ∷ []) same; left = ap (λ b. cond b [] (u ∷ [])) t }
      | false ↦ λ t q. absurd (cc)
    ] refl f
alone (u ∷ v ∷ us) k m e f = absurd (cc)

pub one_question : (l : Lines) (k : ℕ) (m : ClientMsg) → find (is_with k) l.up ≡ Some (k, m) → OneExchange l.client l.client.exchange (messages l.up) (ends_of l).down → IsAlone k l.up m
one_question l k m f one = alone l.up k m (one_up l.client l.client.exchange (messages l.up) (ends_of l).down m (In-mapped (λ (x : ℕ × ClientMsg). x.1) (k, m) l.up (found (is_with k) l.up (k, m) f).0) one) f

-- ## Both ends of the lines, as a server's events change them

abbrev answered : ℕ → Answer → Lines → Lines
answered k a l = record l { down = l.down ++ (k, a) ∷ [] }

ends_answered : (k : ℕ) (to : Session) (a : Answer) (lines : Session → Lines) (x : Session) → ends_of (with_answer k to a lines x) ≡ world.with_answer to a (λ y. ends_of (lines y)) x
ends_answered k to a lines x = elim (to.0 == x.0) as (λ b. ends_of (cond b (answered k a (lines x)) (lines x)) ≡ cond b (record (ends_of (lines x)) { down = (ends_of (lines x)).down ++ a ∷ [] }) (ends_of (lines x))) [
  | true ↦ ap (λ d. let e : Ends = record { client = (lines x).client; up = messages (lines x).up; down = d } in e) (messages_append (lines x).down ((k, a) ∷ []))
  | false ↦ refl
]

pub ends_sent : (k : ℕ) (ms : List (Peer × Msg)) (lines : Session → Lines) (x : Session) → ends_of (with_sent k ms lines x) ≡ world.with_sent ms (λ y. ends_of (lines y)) x
ends_sent k [] lines x = refl
ends_sent k ((OfSession to, msg.Answer a) ∷ rest) lines x =
    ends_sent k rest (with_answer k to a lines) x ∙ ap (λ (ends : Session → Ends). world.with_sent rest ends x) (fun_ext (λ y. ends_answered k to a lines y))
ends_sent k (m ∷ rest) lines x = ends_sent k rest lines x

ends_asked : (k : ℕ) (by : Session) (m : ClientMsg) (lines : Session → Lines) → IsAlone k (lines by).up m → (x : Session) → ends_of (without_question k (event.FromClient by m) lines x) ≡ world.without_question by (λ y. ends_of (lines y)) x
ends_asked k by m lines one x =
    let l : Lines = record (lines by) { up = without_first (is_with k) (lines by).up } in
    elim (by.0 == x.0) as (λ b. (by.0 == x.0) ≡ b → ends_of (cond b l (lines x)) ≡ cond b (record (ends_of (lines x)) { up = [] }) (ends_of (lines x))) [
      | true ↦ λ t. ap (λ up. let e : Ends = record { client = (lines by).client; up = messages up; down = messages (lines by).down } in e) one.left
          ∙ ap (λ y. let e : Ends = record { client = (lines y).client; up = []; down = messages (lines y).down } in e) (one_session by x t)
      | false ↦ λ t. refl
    ] refl

-- every event of a server, where a question that it takes is alone
pub ends_taken : (k : ℕ) (e : ServerEvent) (c : Cluster) → IsThere k e c → ((x : Session) → OneExchange (c.lines x).client (c.lines x).client.exchange (messages (c.lines x).up) (messages (c.lines x).down)) → (x : Session) → ends_of (without_question k e c.lines x) ≡ world.without_taken e (λ y. ends_of (c.lines y)) x
ends_taken k (event.FromClient by m) c there one x = ends_asked k by m c.lines (one_question (c.lines by) k m there (one by)) x
ends_taken k e c there one x = refl

-- ## And as a client's do

messages_pushed : (o : Option (ℕ × ClientMsg)) (up : List (ℕ × ClientMsg)) → messages (pushed o up) ≡ pushed (message_in o) (messages up)
messages_pushed None up = refl
messages_pushed (Some m) up = messages_append up (m ∷ [])

pub ends_planned : (by : Session) (c : Client) (sent : Option (ℕ × ClientMsg)) (rest : List (ℕ × Answer)) (lines : Session → Lines) (x : Session) →
    ends_of (with_lines by (record { client = c; up = pushed sent (lines by).up; down = rest }) lines x) ≡ with_ends by (record { client = c; up = pushed (message_in sent) (messages (lines by).up); down = messages rest }) (λ y. ends_of (lines y)) x
ends_planned by c sent rest lines x = elim (by.0 == x.0) as (λ b. ends_of (cond b (record { client = c; up = pushed sent (lines by).up; down = rest }) (lines x)) ≡ cond b (record { client = c; up = pushed (message_in sent) (messages (lines by).up); down = messages rest }) (ends_of (lines x))) [
  | true ↦ ap (λ up. let e : Ends = record { client = c; up = up; down = messages rest } in e) (messages_pushed sent (lines by).up)
  | false ↦ refl
]

-- ## What servers send to each other

-- of two lists
pub sent_append : (k : ℕ) (xs ys : List (Peer × Msg)) → in_flight_from k (xs ++ ys) ≡ in_flight_from k xs ++ in_flight_from k ys
sent_append k [] ys = refl
sent_append k ((OfServer to, msg.Peer m) ∷ xs) ys =
    ap (λ fs. (let f : InFlight = record { from = k; to = to; message = m } in f) ∷ fs) (sent_append k xs ys)
sent_append k ((OfServer to, msg.Client m) ∷ xs) ys = sent_append k xs ys
sent_append k ((OfServer to, msg.Answer m) ∷ xs) ys = sent_append k xs ys
sent_append k ((OfSession to, m) ∷ xs) ys = sent_append k xs ys
