use Rattle.std.proofs.Common.{◌≡◌, take}
use Rattle.std.specs.FinMap.{empty}
use Rattle.fs_record.specs.Records.{nodes_of}
use Rattle.fs_serial.specs.Joined.{with_all_of, with_parcels}
use Rattle.fs_serial.proofs.space.held.Given as goal

-- it has the nodes of the servers so far
abbrev pub invariant-loop-server : goal.invariant-loop-server
invariant-loop-server l = nodes_of l.all ≡ nodes_of (with_all_of (take l.server-index l.server-items) empty)

-- and of the parcels so far
abbrev pub invariant-loop-parcel : goal.invariant-loop-parcel
invariant-loop-parcel l = nodes_of l.all ≡ nodes_of (with_parcels (take l.parcel-index l.parcel-items) (with_all_of l.servers empty))
