-- What a server refuses.
use Rattle.std.specs.Prelude.{◌≡◌, ℕ, max, List, [], ◌∷◌, ◌++◌, length, map, Some}
use Rattle.fs_ident.specs.declared.actor.Session.{Session}
use Rattle.fs_field.specs.declared.row.Row.{Row}
use Rattle.fs_field.specs.declared.used.Use.{Use}
use Rattle.fs_msg.specs.declared.client_msg.ClientMsg.TheVariants.{Ship}
use Rattle.fs_msg.specs.declared.end.End.{End}
use Rattle.fs_msg.specs.declared.end.End.TheVariants as end
use Rattle.fs_msg.specs.declared.entry.Entry.{Entry}
use Rattle.fs_msg.specs.declared.server_note.ServerNote.{ServerNote}
use Rattle.fs_msg.specs.declared.server_note.ServerNote.TheVariants as note
use Rattle.fs_server.specs.Ships.{first_gone}
use Rattle.fs_server.specs.Step.{step}
use Rattle.fs_server.specs.declared.event.ServerEvent.TheVariants.{FromClient}
use Rattle.fs_server.specs.declared.state.Server.{Server}
use Rattle.fs_serial.specs.Cluster.{Cluster, after_step, parcels_of}
use Rattle.fs_serial.specs.Joined.{rows_of_all}
use Rattle.fs_serial.specs.Steps.{HadEnded}

-- of the entries that the session handed in, so many were admitted and then this one was refused: of the leases that it used the
-- first without its row had ended at the reading; what is said is its number, that lease with its end, and the reading; and those
-- that are held back are all that stand behind it
pub record IsRefused (rows : List Row) (by : Session) (now : ℕ) (entries : List Entry) (count : ℕ) (at : End) (gaps : List ℕ) : Type 0 where
  pub front : List Entry
  pub entry : Entry
  pub behind : List Entry
  pub used : Use
  pub handed_in : entries ≡ front ++ entry ∷ behind
  pub admitted : count ≡ length front
  pub said : at ≡ end.Ended entry.n used.no used.until now
  pub held_back : gaps ≡ map (λ (x : Entry). x.n) behind
  pub first : first_gone rows by entry.uses ≡ Some used
  pub had : HadEnded rows now entry used

-- how the answer to these entries ends, where these are all rows at the reading: with a refused one so, and else none is held back
abbrev pub IsFairEnd : List Row → Session → ℕ → List Entry → ℕ → End → List ℕ → Type 0
IsFairEnd rows by now entries count (end.Ended n lease until at) gaps =
    IsRefused rows by now entries count (end.Ended n lease until at) gaps
IsFairEnd rows by now entries count e gaps = gaps ≡ []

abbrev pub IsFairNote : List Row → Session → ℕ → List Entry → ServerNote → Type 0
IsFairNote rows by now entries (note.Admits count e gaps) = IsFairEnd rows by now entries count e gaps
IsFairNote rows by now entries n = Unit {0}

-- all rows of the servers and of the parcels on their way
abbrev pub rows_in : Cluster → List Row
rows_in c = rows_of_all c.servers (parcels_of c.in_flight)

-- what the server notes of the log is fair, with the rows that stand then, at the greater of the reading and its last one
abbrev pub IsFairStep : ℕ → ℕ → Session → List Entry → Server → Cluster → Type 0
IsFairStep now k by entries s c =
    IsFairNote (rows_in (after_step k (FromClient by (Ship entries)) (step s now (FromClient by (Ship entries))) c)) by
    (max s.last now) entries
    (step s now (FromClient by (Ship entries))).out.note
