-- A delete or a rename that the server leads for a session.
use Rattle.std.specs.Prelude.{ℕ, Bool, true, false, not, ◌&&◌, List, [], ◌∷◌, Option, Some, None, is_some, if◌then◌else◌}
use Rattle.std.specs.FinMap.{get}
use Rattle.std.specs.List.{flat_map}
use Rattle.fs_ident.specs.Ident.{same}
use Rattle.fs_ident.specs.declared.actor.Peer.TheVariants.{Client}
use Rattle.fs_ident.specs.declared.actor.Session.{Session}
use Rattle.fs_field.specs.declared.used.Part.{Part}
use Rattle.fs_field.specs.declared.used.Use.{Use}
use Rattle.fs_map.specs.Map.{longest}
use Rattle.fs_model.specs.Asking.{home_of}
use Rattle.fs_ident.specs.declared.kind.Kind.{Kind}
use Rattle.fs_ident.specs.declared.kind.Kind.TheVariants.{File, Dir}
use Rattle.fs_model.specs.declared.op.Op.{Op}
use Rattle.fs_model.specs.declared.op.Op.TheVariants as op
use Rattle.fs_msg.specs.declared.answer.Answer.TheVariants as answer
use Rattle.fs_msg.specs.declared.item.Item.{Item}
use Rattle.fs_msg.specs.declared.lead.Lead.{Lead}
use Rattle.fs_msg.specs.declared.server_note.ServerNote.TheVariants as note
use Rattle.fs_record.specs.declared.led_end.LedEnd.TheVariants as end
use Rattle.fs_record.specs.declared.led_end.Why.{Why}
use Rattle.fs_record.specs.declared.led_end.Why.TheVariants as why
pub use Rattle.fs_txn.specs.Deciding.{reply_of}
use Rattle.fs_txn.specs.Deciding.{has_file}
use Rattle.fs_field.specs.declared.path.PathAnswer.{PathAnswer}
use Rattle.fs_field.specs.declared.path.PathAnswer.TheVariants as path
pub use Rattle.fs_server.specs.Begins.{parts_in, txn_of}
use Rattle.fs_txn.specs.declared.mode.Mode2.{Mode2}
use Rattle.fs_txn.specs.declared.mode.Mode2.TheVariants.{Plain, Freeze, Check}
use Rattle.fs_server.specs.Begins.{begins}
use Rattle.fs_server.specs.PathsHere.{asks_up, path_here, with_asking}
use Rattle.fs_server.specs.Server.{Stepped, is_mine, strange, to_session}
use Rattle.fs_server.specs.declared.state.Server.{Server}

-- deletes and renames are led
abbrev pub is_led : Op → Bool
is_led (op.Delete dir name) = true
is_led (op.Rename sdir sname ddir dname) = true
is_led o = false

-- ## What it asks of whom

-- the leases of the parts, in their order
abbrev pub uses_of : List Part → List Use
uses_of parts = flat_map (λ (p : Part). p.uses) parts

-- ## Why it is not led now

-- the file is said to be where the entry tells
abbrev pub moved_why : Option (List ℕ × ℕ) → Why
moved_why None = why.Moved [] 0
moved_why (Some e) = why.Moved e.0 e.1

-- where its file is a directory the operation stands on a path: that of another directory, which has its record here, into which it comes
abbrev pub stands_on_path : Server → Op → Bool
stands_on_path s (op.Rename sdir sname ddir dname) = not (same sdir ddir) && is_some (get s.records ddir)
stands_on_path s o = false

abbrev pub takes_path : Server → Op → Kind → Bool
takes_path s o File = false
takes_path s o Dir = stands_on_path s o

-- its home is with another server
abbrev pub lead_refusal : Server → Lead → Option Why
lead_refusal s m = if is_mine s (home_of m.op) then None else Some (moved_why (longest s.map (home_of m.op)))

-- nothing is admitted and nothing changes
abbrev pub refuses : Session → Why → Server → Stepped
refuses by w s = record {
  server = s;
  out = record {
    note = note.Refuses w;
    send = to_session by (answer.Led (end.Again w)) ∷ [];
    admitted = [];
  };
}

-- ## What comes of it

-- the operation as it is admitted
abbrev pub led_item : Session → Lead → Item
led_item by m = record { by = Client by; n = m.n; op = m.op; reply = reply_of m.op }

-- a directory that goes is kept where it is until all is decided
abbrev pub mode_of : Op → Kind → Mode2
mode_of (op.Delete dir name) Dir = Freeze
mode_of o kind = Plain

-- a directory that comes into another one is kept there too; where it is on the path of that one it would come below itself, which is
-- looked at again when all have voted
abbrev pub mode_over : List (List ℕ) → List ℕ → Mode2
mode_over files file = if has_file files file then Check else Freeze

-- a path lease is wanted: the session is told so, and it is asked for
abbrev pub wants_path : Session → List ℕ → List ℕ → Server → Stepped
wants_path by top dir s = record {
  server = with_asking top s;
  out = record {
    note = note.Refuses (why.Wanted top);
    send = to_session by (answer.Led (end.Again (why.Wanted top))) ∷ asks_up top dir s;
    admitted = [];
  };
}

-- by the path of the directory into which it comes
abbrev pub leads_over : PathAnswer → Session → Lead → Server → Stepped
leads_over (path.Path files) by m s = begins (mode_over files m.file) by m s
leads_over (path.Wanted top dir) by m s = wants_path by top dir s
leads_over (path.Frozen file txn) by m s = refuses by (why.Frozen file txn) s

abbrev pub leads_here : Session → Lead → Server → Stepped
leads_here by m s = if takes_path s m.op m.kind then leads_over (path_here s (home_of m.op)) by m s else begins (mode_of m.op m.kind) by m s

abbrev pub leads_unless : Option Why → Session → Lead → Server → Stepped
leads_unless None by m s = leads_here by m s
leads_unless (Some w) by m s = refuses by w s

-- the session asks the server to lead an operation
abbrev pub lead_step : Session → Lead → Server → Stepped
lead_step by m s = if is_led m.op then leads_unless (lead_refusal s m) by m s else strange s
