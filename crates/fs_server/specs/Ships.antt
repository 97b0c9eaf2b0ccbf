-- A log that is handed in.
use Rattle.std.specs.Prelude.{ℕ, Bool, not, List, [], ◌∷◌, ◌++◌, length, map, Option, Some, None, if◌then◌else◌}
use Rattle.std.specs.List.{find, list_all, list_any}
use Rattle.fs_ident.specs.declared.actor.Session.{Session}
use Rattle.fs_ident.specs.declared.actor.Peer.TheVariants.{Client}
use Rattle.fs_field.specs.declared.row.Row.{Row}
use Rattle.fs_field.specs.declared.used.Use.{Use}
use Rattle.fs_field.specs.Table.{is_lease}
use Rattle.fs_record.specs.Applied.{records_after_all}
use Rattle.fs_record.specs.Effects.{effects_of, tells_its_effects}
use Rattle.fs_msg.specs.declared.answer.Answer.TheVariants as reply
use Rattle.fs_msg.specs.declared.end.End.{End}
use Rattle.fs_msg.specs.declared.end.End.TheVariants as end
use Rattle.fs_msg.specs.declared.entry.Entry.{Entry}
use Rattle.fs_msg.specs.declared.item.Item.{Item}
use Rattle.fs_model.specs.Asking.{home_of}
use Rattle.fs_msg.specs.declared.server_note.ServerNote.TheVariants as note
use Rattle.fs_server.specs.declared.state.Server.{Server}
use Rattle.fs_server.specs.Server.{Stepped, is_mine, moved, to_session, strange}

-- the row of the lease that the entry used stands
abbrev pub has_row : List Row → Session → Use → Bool
has_row rows by u = list_any (is_lease u.no by u.field u.kind) rows

-- the first use without its row
abbrev pub first_gone : List Row → Session → List Use → Option Use
first_gone rows by uses = find (λ u. not (has_row rows by u)) uses

abbrev pub item_of : Session → Entry → Item
item_of by e = record { by = Client by; n = e.n; op = e.op; reply = e.reply }

-- the entry is admitted
abbrev pub with_entry : Session → Entry → Server → Server
with_entry by e s = record s { records = records_after_all s.records (effects_of by e.op e.reply) }

-- the server and the answer so far
pub record Shipping : Type 0 where
  pub server : Server
  pub admitted : List Item
  pub end : End
  -- the numbers of the entries behind a refused one
  pub gaps : List ℕ

-- the entries in order, up to the first that is handed in at the wrong server, or that used a lease whose row is gone
abbrev pub ship_from : Session → List Entry → Server → List Item → Shipping
ship_from by [] s admitted = record { server = s; admitted = admitted; end = end.All; gaps = [] }
ship_from by (e ∷ es) s admitted =
    if is_mine s (home_of e.op) then
    elim (first_gone s.rows by e.uses) as (λ _. Shipping) [
      | None ↦ ship_from by es (with_entry by e s) (admitted ++ item_of by e ∷ [])
      | Some u ↦ record { server = s; admitted = admitted; end = end.Ended e.n u.no u.until s.last; gaps = map (λ (x : Entry). x.n) es }
    ]
    else record { server = s; admitted = admitted; end = moved s (home_of e.op); gaps = [] }

abbrev pub shipped : Session → Shipping → Stepped
shipped by x = record {
  server = x.server;
  out = record {
    note = note.Admits (length x.admitted) x.end x.gaps;
    send = to_session by (reply.Shipped (length x.admitted) x.end) ∷ [];
    admitted = x.admitted;
  };
}

abbrev pub ship_step : Session → List Entry → Server → Stepped
ship_step by entries s =
    if list_all (λ (e : Entry). tells_its_effects e.op) entries then shipped by (ship_from by entries s []) else strange s
