-- Session order: each actor's items have the numbers 1, 2, 3 .., and the replies that were told are theirs.
use Rattle.std.specs.Prelude.{◌≡◌, ℕ, ◌+◌, Bool, false, ◌==◌, List, [], ◌∷◌, ◌++◌, Option, Some, None, filter, if◌then◌else◌}
use Rattle.fs_ident.specs.declared.actor.Session.{Session}
use Rattle.fs_ident.specs.declared.actor.Peer.{Peer}
use Rattle.fs_ident.specs.declared.actor.Peer.TheVariants.{Server, Client}
use Rattle.fs_ident.specs.In.{In}
use Rattle.fs_model.specs.declared.op.Op.{Op}
use Rattle.fs_model.specs.declared.op.Op.TheVariants as op
use Rattle.fs_model.specs.declared.reply.Reply.{Reply}
use Rattle.fs_msg.specs.declared.act.Act.TheVariants.{Leading, Replied, ReadNow}
use Rattle.fs_msg.specs.declared.client_note.ClientNote.TheVariants.{Led}
use Rattle.fs_msg.specs.declared.item.Item.{Item}
use Rattle.fs_msg.specs.declared.note.Note.{Note}
use Rattle.fs_msg.specs.declared.note.Note.TheVariants as note
use Rattle.fs_schedule.specs.declared.event.Event.{Event}
use Rattle.fs_schedule.specs.declared.event.What.{What}
use Rattle.fs_schedule.specs.declared.event.What.TheVariants.{Do, Tell}
use Rattle.fs_schedule.specs.declared.outcome.Outcome.{Outcome}

-- ## The items of one actor

abbrev pub same_actor : Peer → Peer → Bool
same_actor (Server j) (Server k) = j == k
same_actor (Client s) (Client t) = s.0 == t.0
same_actor _ _ = false

abbrev pub items_of : Peer → List Item → List Item
items_of who items = filter (λ i. same_actor who i.by) items

-- the numbers are k, k + 1, k + 2 ..
abbrev pub AreNumberedFrom : ℕ → List Item → Type 0
AreNumberedFrom k [] = Unit {0}
AreNumberedFrom k (i ∷ is) = (i.n ≡ k) × AreNumberedFrom (k + 1) is

-- ## What sessions were told

-- a reply that a session was given, with the number of its operation and the operation as it was asked
pub record ReplyGiven : Type 0 where
  pub session : Session
  pub n : ℕ
  pub asked : Op
  pub reply : Reply

-- the replies among the notes on the session's operation
abbrev pub replies_in : Session → Op → List Note → List ReplyGiven
replies_in s o [] = []
replies_in s o (note.Answered n r ∷ ns) = record { session = s; n = n; asked = o; reply = r } ∷ replies_in s o ns
replies_in s o (note.Act (Replied n r) ∷ ns) = record { session = s; n = n; asked = o; reply = r } ∷ replies_in s o ns
replies_in s o (note.Act (ReadNow n r) ∷ ns) = record { session = s; n = n; asked = o; reply = r } ∷ replies_in s o ns
replies_in s o (_ ∷ ns) = replies_in s o ns

-- of each session the newest operation that a server was asked to lead for it
abbrev pub Leads : Type 0
Leads = Session → Option Op

abbrev pub with_lead : Session → Op → Leads → Leads
with_lead s o leads x = if s.0 == x.0 then Some o else leads x

-- as the notes on the session's operation tell
abbrev pub leads_in : Session → Op → List Note → Leads → Leads
leads_in s o [] leads = leads
leads_in s o (note.Act (Leading n to) ∷ ns) leads = leads_in s o ns (with_lead s o leads)
leads_in s o (_ ∷ ns) leads = leads_in s o ns leads

-- the reply that is told with the end of what was led
abbrev pub reply_given : Note → Option (ℕ × Reply)
reply_given (note.Client (Led n r)) = Some (n, r)
reply_given n = None

abbrev pub told_with : Session → Op → Option (ℕ × Reply) → List ReplyGiven
told_with s o None = []
told_with s o (Some x) = record { session = s; n = x.0; asked = o; reply = x.1 } ∷ []

-- those among the session's notes, where it was that operation
abbrev pub ended_in : Session → Option Op → List Note → List ReplyGiven
ended_in s (Some o) (n ∷ ns) = told_with s o (reply_given n) ++ ended_in s (Some o) ns
ended_in s o notes = []

-- what the notes tell: to an operation at once, or later with an answer
abbrev pub told_at : What → Option Peer → List Note → Leads → List ReplyGiven
told_at (Do s o) who notes leads = replies_in s o notes
told_at (Tell number) (Some (Client s)) notes leads = ended_in s (leads s) notes
told_at what who notes leads = []

abbrev pub leads_at : What → List Note → Leads → Leads
leads_at (Do s o) notes leads = leads_in s o notes leads
leads_at what notes leads = leads

-- what sessions were told so far, in order
pub record Tale : Type 0 where
  pub told : List ReplyGiven
  pub leads : Leads

abbrev pub first_tale : Tale
first_tale = record { told = []; leads = λ x. None }

abbrev pub after : What → Outcome → Tale → Tale
after what o t = record { told = t.told ++ told_at what o.who o.notes t.leads; leads = leads_at what o.notes t.leads }

-- with the outcomes of these events
abbrev pub tale_of : Tale → List Event → List Outcome → Tale
tale_of t (e ∷ es) (o ∷ os) = tale_of (after e.what o t) es os
tale_of t es os = t

-- what the outcomes of the events told, in order
abbrev pub replies_given : List Event → List Outcome → List ReplyGiven
replies_given es os = (tale_of first_tale es os).told

-- ## The journal against what was told

-- the same operation, but that a create may have been given an identifier
abbrev pub SameButId : Op → Op → Type 0
SameButId (op.Create dir name kind id) done = (given : Option (List ℕ)) × (done ≡ op.Create dir name kind given)
SameButId o done = o ≡ done

-- the item has the session and the number of what was told
pub record HasNumberOf (i : Item) (t : ReplyGiven) : Type 0 where
  pub by : i.by ≡ Client t.session
  pub n : i.n ≡ t.n

-- the item has the operation and the reply of what was told
pub record Agrees (i : Item) (t : ReplyGiven) : Type 0 where
  pub op : SameButId t.asked i.op
  pub reply : i.reply ≡ t.reply

-- what was told to the session, in order
abbrev pub told_to : Session → List ReplyGiven → List ReplyGiven
told_to s told = filter (λ (t : ReplyGiven). s.0 == t.session.0) told

-- the items are what was told, one for one
abbrev pub AreAsTold : List Item → List ReplyGiven → Type 0
AreAsTold [] [] = Unit {0}
AreAsTold (i ∷ is) (t ∷ ts) = HasNumberOf i t × Agrees i t × AreAsTold is ts
AreAsTold is ts = ⊥

-- each actor's items are numbered from 1, and where one has the number of what was told it agrees
pub record IsInSessionOrder (journal : List Item) (told : List ReplyGiven) : Type 0 where
  pub numbered : (who : Peer) → AreNumberedFrom 1 (items_of who journal)
  pub agreeing : (t : ReplyGiven) (i : Item) → In t told → In i journal → HasNumberOf i t → Agrees i t

-- the journal has what was told
abbrev pub IsAdmitted : List Item → ReplyGiven → Type 0
IsAdmitted journal t = (i : Item) × In i journal × HasNumberOf i t × Agrees i t

abbrev pub AllAdmitted : List Item → List ReplyGiven → Type 0
AllAdmitted journal told = (t : ReplyGiven) → In t told → IsAdmitted journal t
