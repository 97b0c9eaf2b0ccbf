-- When a kind of step happens.
use Rattle.std.specs.Prelude.{◌≡◌, ◌≢◌, ℕ, ◌+◌, ◌≤◌, true, false, List, [], ◌∷◌, length, map, Some, None}
use Rattle.std.specs.List.{AllByRecursion}
use Rattle.fs_ident.specs.declared.actor.Session.{Session}
use Rattle.fs_ident.specs.In.{In}
use Rattle.fs_field.specs.declared.row.Row.{Row}
use Rattle.fs_field.specs.declared.used.Use.{Use}
use Rattle.fs_client.specs.declared.state.Client.{Client}
use Rattle.fs_model.specs.Asking.{may_ask}
use Rattle.fs_model.specs.Namespace.{NodeMap}
use Rattle.fs_model.specs.Sound.{is_change}
use Rattle.fs_model.specs.declared.op.Op.{Op}
use Rattle.fs_model.specs.declared.reply.Reply.{Reply}
use Rattle.fs_msg.specs.Journal.{IsSerialRun}
use Rattle.fs_msg.specs.declared.answer.Answer.{Answer}
use Rattle.fs_msg.specs.declared.entry.Entry.{Entry}
use Rattle.fs_record.specs.Effects.{tells_its_effects}
use Rattle.fs_server.specs.Ships.{first_gone, item_of}
use Rattle.fs_server.specs.declared.state.Server.{Server}
use Rattle.fs_view.specs.View.{reply_in}
use Rattle.fs_serial.specs.Exchange.{admitted_in}
use Rattle.fs_serial.specs.Settled.{Settled}

-- the entry stands first in the log of a session that is not over, and the server finds a row for each of its uses
pub record IsAdmitted (s : Server) (by : Session) (d : Settled) (e : Entry) : Type 0 where
  pub rest : List Entry
  pub log : d.log ≡ e ∷ rest
  pub going : d.over ≡ None
  pub found : first_gone s.rows by e.uses ≡ None

-- the client, for which nothing is led, knows the reply to a plain operation, and no more of its log is acknowledged than there is
pub record IsReplied (c : Client) (down : List Answer) (o : Op) (r : Reply) : Type 0 where
  pub plain : tells_its_effects o ≡ true
  pub asked : may_ask o ≡ true
  pub reply : reply_in c.view c.last o ≡ Some r
  pub few : admitted_in down ≤ length c.log
  pub unled : c.led ≡ None

-- the reply changes nothing, no entry waits, and no clock is ahead of the client's by more than the skew
pub record IsReadNow (skew greatest : ℕ) (c : Client) (r : Reply) : Type 0 where
  pub read : is_change r ≡ false
  pub empty : c.log ≡ []
  pub within : greatest ≤ c.last + skew

-- the entry used the lease, its row is gone, and at the reading it had ended
pub record HadEnded (rows : List Row) (now : ℕ) (e : Entry) (u : Use) : Type 0 where
  pub used : In u e.uses
  pub gone : (r : Row) → In r rows → r.no ≢ u.no
  pub ended : u.until ≤ now

-- the rows of all leases that the entries used stand
abbrev pub AllStand : List Row → Session → List Entry → Type 0
AllStand rows by entries = AllByRecursion (λ (e : Entry). first_gone rows by e.uses ≡ None) entries

-- the entries' replies are the namespace's, one after another from these nodes on
abbrev pub AreRepliesFrom : NodeMap → Session → List Entry → Type 0
AreRepliesFrom nodes by entries = (last : NodeMap) × IsSerialRun nodes (map (item_of by) entries) last
