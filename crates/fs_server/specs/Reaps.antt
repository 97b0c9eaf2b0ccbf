-- A turn: sessions that let go of the lease on their handles lose these.
use Rattle.std.specs.Prelude.{ℕ, ◌+◌, ◌==◌, ◌&&◌, Bool, not, List, [], ◌∷◌, ◌++◌, map, filter, length, Some, None}
use Rattle.std.specs.List.{find, list_any}
use Rattle.std.specs.FinMap.{keys}
use Rattle.fs_ident.specs.Ordered.{put_before}
use Rattle.fs_ident.specs.declared.actor.LeaseNo.{LeaseNo}
use Rattle.fs_ident.specs.declared.actor.Session.{Session}
use Rattle.fs_ident.specs.declared.actor.Peer.{Peer}
use Rattle.fs_ident.specs.declared.actor.Peer.TheVariants.{Server as OfServer}
use Rattle.fs_field.specs.Field.{same_field}
use Rattle.fs_field.specs.Table.{has_no, no_before}
use Rattle.fs_field.specs.declared.field.Field.TheVariants.{Own}
use Rattle.fs_field.specs.declared.row.Row.{Row}
use Rattle.fs_model.specs.declared.op.Op.TheVariants as op
use Rattle.fs_model.specs.declared.reply.Reply.TheVariants as reply
use Rattle.fs_moderows.specs.Answer.{reap_blocker}
use Rattle.fs_msg.specs.declared.item.Item.{Item}
use Rattle.fs_msg.specs.declared.msg.Msg.{Msg}
use Rattle.fs_msg.specs.declared.server_note.ServerNote.TheVariants as note
use Rattle.fs_record.specs.Applied.{records_after_all}
use Rattle.fs_record.specs.Effects.{reap_effects}
use Rattle.fs_record.specs.ValueOf.{selves_in}
use Rattle.fs_server.specs.Asks.{recall_of}
use Rattle.fs_server.specs.Server.{Stepped, only_noted}
use Rattle.fs_server.specs.declared.state.Server.{Server}

-- ## Who let go

-- the session has a lease on its handles on the file
abbrev pub has_own : List Row → List ℕ → Session → Bool
has_own rows file by = list_any (λ (r : Row). same_field r.field (Own file) && (r.session.0 == by.0)) rows

-- the sessions with handles on the file and no lease on them
abbrev pub lapsed_on : Server → List ℕ → List (List ℕ × Session)
lapsed_on s file = map (λ e. (file, e.0)) (filter (λ e. not (has_own s.rows file e.0)) (selves_in s.records file))

abbrev pub lapsed_among : Server → List (List ℕ) → List (List ℕ × Session)
lapsed_among s [] = []
lapsed_among s (file ∷ files) = lapsed_on s file ++ lapsed_among s files

-- on all files of the server, in order of file, and then of session
abbrev pub lapsed_in : Server → List (List ℕ × Session)
lapsed_in s = lapsed_among s (keys s.records)

-- ## Reaps

abbrev pub reap_item : ℕ → ℕ → List ℕ → Session → Item
reap_item me n file by = record { by = OfServer me; n = n; op = op.Reap file by; reply = reply.Reaped }

-- the session has no handle on the file any more; the reap has the next number
abbrev pub with_reap : List ℕ → Session → Server → Server
with_reap file by s = record s { reaps = s.reaps + 1; records = records_after_all s.records (reap_effects s.records file by) }

-- the server and what came of it so far; the leases in the way, in order of number
pub record Reaping : Type 0 where
  pub server : Server
  pub admitted : List Item
  pub blockers : List LeaseNo

-- a lease more in the way, behind those with its number
abbrev pub with_blocker : LeaseNo → List LeaseNo → List LeaseNo
with_blocker number blockers = put_before (no_before number) number blockers

-- each in order: it loses its handles, unless a row keeps it from that
abbrev pub reap_from : List (List ℕ × Session) → Server → List Item → List LeaseNo → Reaping
reap_from [] s admitted blockers = record { server = s; admitted = admitted; blockers = blockers }
reap_from (x ∷ xs) s admitted blockers =
    elim (reap_blocker (selves_in s.records x.0) s.rows x.1 x.0) as (λ _. Reaping) [
      | None ↦ reap_from xs (with_reap x.0 x.1 s) (admitted ++ reap_item s.me (s.reaps + 1) x.0 x.1 ∷ []) blockers
      | Some number ↦ reap_from xs s admitted (with_blocker number blockers)
    ]

-- each lease that is in the way is asked back from its session
abbrev pub recalls_for : List Row → List LeaseNo → List (Peer × Msg)
recalls_for rows [] = []
recalls_for rows (n ∷ ns) = recall_of n (find (has_no n) rows) ++ recalls_for rows ns

abbrev pub reaped : Reaping → Stepped
reaped x = record {
  server = x.server;
  out = record {
    note = note.Reaps (length x.admitted);
    send = recalls_for x.server.rows x.blockers;
    admitted = x.admitted;
  };
}

abbrev pub turn_over : List (List ℕ × Session) → Server → Stepped
turn_over [] s = only_noted note.Idle s
turn_over (x ∷ xs) s = reaped (reap_from (x ∷ xs) s [] [])

abbrev pub turn_step : Server → Stepped
turn_step s = turn_over (lapsed_in s) s
