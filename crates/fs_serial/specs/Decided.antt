-- What holds of effects that are decided, while they are on their way to the servers of their files.
use Rattle.std.specs.Prelude.{◌≡◌, ◌==◌, ℕ, Bool, true, false, List, [], ◌∷◌, ◌++◌, map, Some}
use Rattle.fs_ident.specs.In.{In}
use Rattle.fs_ident.specs.declared.actor.Session.{Session}
use Rattle.fs_field.specs.declared.effect.Effect.{Effect}
use Rattle.fs_field.specs.declared.effect.Effect.TheVariants.{RemoveNode}
use Rattle.fs_field.specs.declared.row.Row.{Row}
use Rattle.fs_model.specs.Namespace.{NodeMap}
use Rattle.fs_msg.specs.declared.answer.Answer.TheVariants.{Led}
use Rattle.fs_msg.specs.declared.client_msg.ClientMsg.TheVariants as message
use Rattle.fs_msg.specs.declared.item.Item.{Item}
use Rattle.fs_msg.specs.declared.lead.Lead.{Lead}
use Rattle.fs_record.specs.Applied.{records_after_all}
use Rattle.fs_record.specs.LedEffects.{led_effects}
use Rattle.fs_record.specs.Records.{AreRecords, RecordMap, nodes_of}
use Rattle.fs_record.specs.declared.led_end.LedEnd.TheVariants as end
use Rattle.fs_server.specs.Leads.{led_item, reply_of}
use Rattle.fs_server.specs.declared.event.ServerEvent.{ServerEvent}
use Rattle.fs_server.specs.declared.state.Server.{Server}
use Rattle.fs_client.specs.declared.led.Led.{Led as TheLed}
use Rattle.fs_txn.specs.Decided.{AreApart, AreDecided, IsApart, IsDecided, going, staying}
use Rattle.fs_txn.specs.Grants.{Decided, IsBare, effects_in}
use Rattle.fs_txn.specs.Guards.{IsGuarded}
use Rattle.fs_serial.specs.Commits.{IsCommitted}
use Rattle.fs_serial.specs.Exchange.{due, is_recall}
use Rattle.fs_serial.specs.Fresh.{IsMade}
use Rattle.fs_serial.specs.Sight.{seen}
use Rattle.fs_serial.specs.Parts.{with_replies}
use Rattle.fs_serial.specs.World.{CanCome, ClientEvent, IsOther, IsThere, World, WorldHolds, after_begun, after_client, settled_at, sight_in, with_answer, without_question}
use Rattle.fs_serial.specs.World.ClientEvent.{Hears}

-- a file that goes was made; a directory that goes still gives identifiers, which come to nothing
abbrev pub IsOfFile : List Item → Effect → Type 0
IsOfFile journal (RemoveNode file) = IsMade journal file
IsOfFile journal e = Unit {0}

-- a decided effect, where these rows and records stand and all servers hold these nodes together
pub record DecidedStands (rows : List Row) (m : RecordMap) (held : NodeMap) (journal : List Item) (d : Decided) : Type 0 where
  -- it is of a kind that is decided for another server
  pub decided : IsDecided d.effect
  -- locked rows of its session guard it
  pub guarded : IsGuarded rows held d.by d.effect
  -- a file that goes has nothing in it, and nobody has it open
  pub bare : IsBare m d.effect
  -- and it was made
  pub file : IsOfFile journal d.effect

-- all of them, at a server that has all rows and records
pub record AllDecidedStand (decided : List Decided) (s : Server) (journal : List Item) : Type 0 where
  -- the records are in order, as those are that all hold together
  pub records : AreRecords s.records
  pub stand : (d : Decided) → In d decided → DecidedStands s.rows s.records (nodes_of (seen decided s).records) journal d

-- all of them, in a world
pub record DecidedFits (w : World) : Type 0 where
  pub all : AllDecidedStand w.decided w.server w.journal
  -- the session of each is owed an answer, so it asks for nothing
  pub owed : (d : Decided) → In d w.decided → due (w.ends d.by).down ≡ [] → ⊥

-- one of them, in a world
abbrev pub StandsIn : World → Decided → Type 0
StandsIn w d = DecidedStands w.server.rows w.server.records (nodes_of (seen w.decided w.server).records) w.journal d

-- ## A commit that applies some of its effects, and sends the others

-- what it sends is of a kind that is decided for others, and changes other things than what it applies
pub record IsSplit (goes : Effect → Bool) (es : List Effect) : Type 0 where
  pub decided : AreDecided (going goes es)
  pub apart : AreApart (going goes es) (staying goes es)

abbrev pub decided_for : Session → List Effect → List Decided
decided_for by es = map (λ e. let d : Decided = record { by = by; effect = e } in d) es

-- the world after a server that has all was told to lead and committed: it applies some effects, and the others are decided
abbrev pub after_commit : (Effect → Bool) → ℕ → Session → Lead → World → World
after_commit goes txns by m w =
    let es : List Effect = led_effects m.op m.file (reply_of m.op) in
    record {
      server = record (w.server) { txns = txns; records = records_after_all w.server.records (staying goes es) };
      counts = w.counts;
      decided = w.decided ++ decided_for by (going goes es);
      journal = w.journal ++ led_item by m ∷ [];
      replied = with_replies by (w.replied by ++ led_item by m ∷ []) w.replied;
      ends = with_answer by (Led (end.Done (reply_of m.op))) (without_question by w.ends);
    }

-- ## A part that applies what was decided for it

-- what was decided for one session and stays changes other things than what is applied
abbrev pub IsOwnApart : List Decided → List Decided → Type 0
IsOwnApart stays its = (d e : Decided) → In d stays → In e its → (d.by.0 == e.by.0) ≡ true → IsApart d.effect e.effect

-- the world then
abbrev pub after_decide : List Decided → List Decided → List Decided → World → World
after_decide front its back w = record {
  server = record (w.server) { records = records_after_all w.server.records (effects_in its) };
  counts = w.counts;
  decided = front ++ back;
  journal = w.journal;
  replied = w.replied;
  ends = w.ends;
}

-- ## A client's events

-- an answer comes to a session for which nothing is decided; a lease is asked back at any time
abbrev pub IsBehind : World → Session → ClientEvent → Type 0
IsBehind w by (Hears from a rest) = is_recall a ≡ false → (d : Decided) → In d w.decided → (d.by.0 == by.0) ≡ false
IsBehind w by e = Unit {0}

-- ## Together

-- all that holds between events, with what is decided
abbrev pub WorldStands : ℕ → World → Type 0
WorldStands greatest w = WorldHolds greatest w × DecidedFits w

-- ## Laws

-- a server's event, but a question to lead, keeps all of it
abbrev pub EventGoesPast : Type 0
EventGoesPast =
    (greatest : ℕ) (w : World) (e : ServerEvent) → DecidedFits w → IsThere e w.ends → IsOther e
    → WorldHolds greatest w → WorldStands greatest (after_begun e w)

-- a client's event keeps what is decided
abbrev pub ClientGoesPast : Type 0
ClientGoesPast =
    (now : ℕ) (w : World) (by : Session) (e : ClientEvent) → CanCome by e w.ends → IsBehind w by e
    → DecidedFits w → DecidedFits (after_client by now e w)

-- a delete or a rename that is led commits where its rows stand, whichever of its effects are applied and whichever are sent
abbrev pub CommitGoesPast : Type 0
CommitGoesPast =
    (greatest : ℕ) (w : World) (by : Session) (m : Lead) (l : TheLed) (sends : Effect → Bool) (txns : ℕ)
    → (w.ends by).up ≡ message.Lead m ∷ [] → (w.ends by).client.led ≡ Some l
    → IsCommitted (sight_in w) by (settled_at by (w.ends by)) l.entry l.file
    → IsSplit sends (led_effects m.op m.file (reply_of m.op)) → WorldStands greatest w
    → WorldHolds greatest (after_commit sends txns by m w)

-- a part that applies what was decided for it leaves what all hold together as it was
abbrev pub DecideKeepsAll : Type 0
DecideKeepsAll =
    (greatest : ℕ) (w : World) (front its back : List Decided) → w.decided ≡ front ++ (its ++ back)
    → IsOwnApart (front ++ back) its → WorldStands greatest w
    → ((sight_in (after_decide front its back w)).records ≡ (sight_in w).records) × WorldStands greatest (after_decide front its back w)
