-- An event of several messages: where a packet joins one at most it is the event of that one, and what it has spent stays spent.
use Rattle.std.proofs.Common.{◌≡◌, ◌==◌, ℕ, ◌<◌, ◌≤◌, Bool, true, false, List, [], ◌∷◌, length, map, take, Option, Some, None, cond, refl, ap, sym, arith}
use Rattle.fs_ident.specs.declared.actor.Peer.{Peer}
use Rattle.fs_ident.specs.declared.actor.Peer.TheVariants.{Client, Server}
use Rattle.fs_ident.specs.declared.actor.Session.{Session}
use Rattle.fs_frag.specs.declared.joined.Joined.{Joined}
use Rattle.fs_msg.specs.declared.answer.Answer.{Answer}
use Rattle.fs_msg.specs.declared.core_error.Counter.{Counter}
use Rattle.fs_msg.specs.declared.item.Item.{Item}
use Rattle.fs_msg.specs.declared.msg.Msg.{Msg}
use Rattle.fs_msg.specs.declared.msg.Msg.TheVariants as msg
use Rattle.fs_msg.specs.declared.note.Note.{Note}
use Rattle.fs_msg.specs.declared.note.Note.TheVariants as note
use Rattle.fs_client.specs.declared.state.Client.{Client as ClientCore}
use Rattle.fs_server.specs.Ships.{item_of}
use Rattle.fs_server.specs.Step.{spent_by, step}
use Rattle.fs_server.specs.declared.event.ServerEvent.{ServerEvent}
use Rattle.fs_server.specs.declared.state.Server.{Server as Core}
use Rattle.fs_window.specs.Post.{Accepted, Links, post_accepted}
use Rattle.fs_window.specs.declared.heard.Heard.{Heard}
use Rattle.fs_window.specs.declared.packet.Packet.{Packet}
use Rattle.fs_actor.specs.Actor.{ClientSide, ServerSide, client_hears, client_noted, first_spent, is_full_down, is_full_up, server_accepts, server_hears, server_told}
use Rattle.fs_actor.specs.Comes.{client_comes, client_took}
use Rattle.fs_actor.specs.Finished.{finished, shipped_count}
use Rattle.fs_actor.specs.Hearing.{answer_from, answer_of, event_of, heard_in, message_in, quiet_note}
use Rattle.fs_actor.specs.Laws.{client_alone, server_alone}
use Rattle.fs_actor.specs.Several.{ClientRun, ServerRun, client_begins, client_hears_each, client_hears_one, client_replies, client_takes_all, client_told_all, first_of, server_begins, server_hears_each, server_hears_one, server_replies, server_takes_all, server_told_all, unjoined_notes}

-- what a packet gave, with this joined
abbrev given : ℕ → List Joined → Heard
given fresh js = record { fresh = fresh; joined = js }

abbrev giving : Links → ℕ → List Joined → Accepted
giving links fresh js = record { links = links; heard = given fresh js }

-- of several each has its own note
several_noted : (js : List Joined) (h : Heard) → 1 < length js → unjoined_notes js h ≡ []
several_noted [] h several = absurd (omega arith)
several_noted (j ∷ js) h several = refl

-- ## A client

-- a packet that completed no message finishes nothing
quiet_finished : (s : Session) (c : ClientCore) (h : Heard) → [] ≡ finished s c None (quiet_note h)
quiet_finished s c h = go (h.fresh == 0)
  where
    go : (b : Bool) → [] ≡ finished s c None (cond b note.None note.Part)
    go true = refl
    go false = refl

client_one : (s : Session) (now : ℕ) (from : Peer) (heard : Option Peer) (links : Links) (fresh : ℕ) (js : List Joined) (c : ClientCore) → length js ≤ 1
    → client_takes_all s now from heard (giving links fresh js) c ≡ client_alone s c (client_took now from heard (given fresh js) (record { client = c; post = links }))
client_one s now (Server k) heard links fresh [] c few =
    ap (λ (items : List Item). record (client_replies heard (client_begins c links (quiet_note (given fresh []) ∷ []))) { finished = items }) (quiet_finished s c (given fresh []))
client_one s now (Client by) heard links fresh [] c few =
    ap (λ (items : List Item). record (client_replies heard (client_begins c links (quiet_note (given fresh []) ∷ []))) { finished = items }) (quiet_finished s c (given fresh []))
client_one s now (Server k) heard links fresh (j ∷ []) c few = go (message_in j)
  where
    go : (m : Option Msg) → client_replies heard (client_hears_one s now (answer_from (Server k) m) (client_begins c links []))
        ≡ client_alone s c (client_hears now k heard (given fresh (j ∷ [])) (answer_of m) (record { client = c; post = links }))
    go None = refl
    go (Some (msg.Client m)) = refl
    go (Some (msg.Answer a)) = refl
    go (Some (msg.Peer m)) = refl
client_one s now (Client by) heard links fresh (j ∷ []) c few = refl
client_one s now from heard links fresh (j ∷ i ∷ js) c few = absurd (omega arith)

-- what a packet gave that joined one message at most
pub client_of_one : (s : Session) (now : ℕ) (from : Peer) (heard : Option Peer) (links : Links) (h : Heard) (c : ClientCore) → length h.joined ≤ 1
    → client_takes_all s now from heard (record { links = links; heard = h }) c ≡ client_alone s c (client_took now from heard h (record { client = c; post = links }))
client_of_one s now from heard links h c few = client_one s now from heard links h.fresh h.joined c few

pub client_as_one : (s : Session) (now : ℕ) (from : Peer) (p : Packet) (x : ClientSide) → length (post_accepted x.post from p).heard.joined ≤ 1
    → client_told_all s now from p x ≡ client_alone s x.client (client_comes now from p x)
client_as_one s now from p x few =
    let a = post_accepted x.post from p in
    client_of_one s now from (heard_in from p) a.links a.heard x.client few

-- what one gave that joined several
pub client_of_several : (s : Session) (now : ℕ) (from : Peer) (heard : Option Peer) (links : Links) (h : Heard) (c : ClientCore) → 1 < length h.joined
    → client_takes_all s now from heard (record { links = links; heard = h }) c ≡ client_replies heard (client_hears_each s now from h.joined (client_begins c links []))
client_of_several s now from heard links h c several =
    ap (λ (ns : List Note). client_replies heard (client_hears_each s now from h.joined (client_begins c links ns))) (several_noted h.joined h several)

-- what is spent by one message is spent by all
pub client_spent : (s : Session) (now : ℕ) (from : Peer) (js : List Joined) (x : ClientRun) (counter : Counter) → x.spent ≡ Some counter → (client_hears_each s now from js x).spent ≡ Some counter
client_spent s now from [] x counter e = e
client_spent s now from (j ∷ js) x counter e = client_spent s now from js (client_hears_one s now (answer_from from (message_in j)) x) counter (one (answer_from from (message_in j)))
  where
    one : (o : Option (ℕ × Answer)) → (client_hears_one s now o x).spent ≡ Some counter
    one None = e
    one (Some a) = ap (λ (spent : Option Counter). first_of spent (client_hears_one s now (Some a) (record x { spent = None })).spent) e

-- ## A server

server_one : (now : ℕ) (from : Peer) (heard : Option Peer) (links : Links) (fresh : ℕ) (js : List Joined) (s : Core) → length js ≤ 1 → server_takes_all now from heard (giving links fresh js) s ≡ server_alone (server_accepts now from heard (giving links fresh js) s)
server_one now (Client by) heard links fresh [] s few = refl
server_one now (Server j) heard links fresh [] s few = refl
server_one now from heard links fresh (j ∷ []) s few = go (event_of from (message_in j))
  where
    go : (o : Option ServerEvent) → server_replies heard (server_hears_one now o (server_begins s links [])) ≡ server_alone (server_hears now heard (given fresh (j ∷ [])) o (record { server = s; post = links }))
    go None = refl
    go (Some e) = refl
server_one now from heard links fresh (j ∷ i ∷ js) s few = absurd (omega arith)

-- what a packet gave that joined one message at most
pub server_of_one : (now : ℕ) (from : Peer) (heard : Option Peer) (links : Links) (h : Heard) (s : Core) → length h.joined ≤ 1
    → server_takes_all now from heard (record { links = links; heard = h }) s ≡ server_alone (server_accepts now from heard (record { links = links; heard = h }) s)
server_of_one now from heard links h s few = server_one now from heard links h.fresh h.joined s few

pub server_as_one : (now : ℕ) (from : Peer) (p : Packet) (x : ServerSide) → length (post_accepted x.post from p).heard.joined ≤ 1 → server_told_all now from p x ≡ server_alone (server_told now from p x)
server_as_one now from p x few =
    let a = post_accepted x.post from p in
    server_of_one now from (heard_in from p) a.links a.heard x.server few

-- what one gave that joined several
pub server_of_several : (now : ℕ) (from : Peer) (heard : Option Peer) (links : Links) (h : Heard) (s : Core) → 1 < length h.joined
    → server_takes_all now from heard (record { links = links; heard = h }) s ≡ server_replies heard (server_hears_each now from h.joined (server_begins s links []))
server_of_several now from heard links h s several =
    ap (λ (ns : List Note). server_replies heard (server_hears_each now from h.joined (server_begins s links ns))) (several_noted h.joined h several)

-- what is spent by one message is spent by all
pub server_spent : (now : ℕ) (from : Peer) (js : List Joined) (x : ServerRun) (counter : Counter) → x.spent ≡ Some counter → (server_hears_each now from js x).spent ≡ Some counter
server_spent now from [] x counter e = e
server_spent now from (j ∷ js) x counter e = server_spent now from js (server_hears_one now (event_of from (message_in j)) x) counter (one (event_of from (message_in j)))
  where
    one : (o : Option ServerEvent) → (server_hears_one now o x).spent ≡ Some counter
    one None = e
    one (Some a) = ap (λ (spent : Option Counter). first_of spent (server_hears_one now (Some a) (record x { spent = None })).spent) e
