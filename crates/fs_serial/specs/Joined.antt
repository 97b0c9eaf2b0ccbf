-- What servers hold together, with the parcels on their way between them.
use Rattle.std.specs.Prelude.{ℕ, List, [], ◌∷◌, Option, Some, None}
use Rattle.std.specs.FinMap.{empty, entries, get, insert}
use Rattle.std.specs.List.{flat_map}
use Rattle.fs_ident.specs.Ordered.{Keyed}
use Rattle.fs_field.specs.declared.effect.Effect.{Effect}
use Rattle.fs_field.specs.declared.row.Row.{Row}
use Rattle.fs_model.specs.Namespace.{NodeMap}
use Rattle.fs_msg.specs.declared.peer_msg.PeerMsg.{PeerMsg}
use Rattle.fs_msg.specs.declared.peer_msg.PeerMsg.TheVariants.{Decide}
use Rattle.fs_record.specs.Moving.{with_records}
use Rattle.fs_record.specs.Records.{RecordMap}
use Rattle.fs_record.specs.declared.parcel.Parcel.{Parcel}
use Rattle.fs_record.specs.declared.record.Record.{Record}
use Rattle.fs_rows.specs.Granted.{with_rows}
use Rattle.fs_server.specs.declared.state.Server.{Server}
use Rattle.fs_serial.specs.declared.in_flight.InFlight.{InFlight}

-- ## Records

abbrev pub with_all_of : List Server → RecordMap → RecordMap
with_all_of [] m = m
with_all_of (s ∷ ss) m = with_all_of ss (with_records (entries s.records) m)

abbrev pub with_parcels : List Parcel → RecordMap → RecordMap
with_parcels [] m = m
with_parcels (p ∷ ps) m = with_parcels ps (with_records p.records m)

-- the records of all servers, and of the parcels
abbrev pub records_of_all : List Server → List Parcel → RecordMap
records_of_all servers parcels = with_parcels parcels (with_all_of servers empty)

-- ## What is decided and on its way

-- the effects that a message tells a part to apply
abbrev pub effects_by : PeerMsg → List Effect
effects_by (Decide m) = m.effects
effects_by m = []

-- and all messages on their way, in order
abbrev pub effects_on_way : List InFlight → List Effect
effects_on_way in_flight = flat_map (λ (f : InFlight). effects_by f.message) in_flight

-- ## Rows, in order of number

abbrev pub with_rows_of : List Server → List Row → List Row
with_rows_of [] rows = rows
with_rows_of (s ∷ ss) rows = with_rows_of ss (with_rows s.rows rows)

abbrev pub with_rows_in : List Parcel → List Row → List Row
with_rows_in [] rows = rows
with_rows_in (p ∷ ps) rows = with_rows_in ps (with_rows p.rows rows)

abbrev pub rows_of_all : List Server → List Parcel → List Row
rows_of_all servers parcels = with_rows_in parcels (with_rows_of servers [])

-- ## The namespace, file by file

-- the file has the node of its record, if it has one
abbrev pub with_node : List ℕ → Option Record → NodeMap → NodeMap
with_node file None m = m
with_node file (Some r) m = insert m file r.node

-- so has each of the files, one after another
abbrev pub with_nodes : RecordMap → List (List ℕ) → NodeMap → NodeMap
with_nodes records [] m = m
with_nodes records (f ∷ fs) m = with_nodes records fs (with_node f (get records f) m)

-- so has each of these files its own
abbrev pub with_nodes_in : Keyed Record → NodeMap → NodeMap
with_nodes_in [] m = m
with_nodes_in (e ∷ es) m = with_nodes_in es (insert m e.0 e.1.node)
