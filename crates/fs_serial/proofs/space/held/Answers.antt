use Rattle.std.proofs.Common.{List, subst}
use Rattle.std.specs.FinMap.{empty}
use Rattle.fs_ident.specs.In.{In}
use Rattle.fs_ident.specs.Ordered.{Keyed}
use Rattle.fs_record.specs.declared.parcel.Parcel.{Parcel as TheParcel}
use Rattle.fs_record.specs.Records.{nodes_of}
use Rattle.fs_record.specs.declared.record.Record.{Record}
use Rattle.fs_serial.specs.Joined.{with_all_of}
use Rattle.fs_serial.proofs.Places.Joining.{more_parcels, more_servers, read_In}
use Rattle.fs_serial.proofs.space.held.Goals as goal

pub loop-server-preserved : goal.loop-server-preserved
loop-server-preserved c =
    more_servers c.as_slice-server-items.result.now c.loop-server.server-index c.server-item.result (nodes_of c.loop-server.all)
    (nodes_of c.take_records.new.all) c.records.result.now c.loop-server-test.true c.server-item.is c.records.ensures.records
    c.loop-server.invariant c.in_ok-take_records.ensures

pub take_all-requires : goal.take_all-requires
take_all-requires c = λ e i. c.requires c.parcel-item.result
    (subst (λ (ps : List TheParcel). In c.parcel-item.result ps) c.as_slice-parcel-items.ensures
    (read_In c.as_slice-parcel-items.result.now c.loop-parcel.parcel-index c.parcel-item.result c.loop-parcel-test.true c.parcel-item.is))
    e (subst (λ (rs : Keyed Record). In e rs) c.as_slice.ensures i)

pub loop-parcel-preserved : goal.loop-parcel-preserved
loop-parcel-preserved c =
    more_parcels c.as_slice-parcel-items.result.now c.loop-parcel.parcel-index c.parcel-item.result
    (with_all_of c.args.servers.now empty) (nodes_of c.loop-parcel.all) (nodes_of c.take_all.new.all) c.as_slice.result.now
    c.loop-parcel-test.true c.parcel-item.is c.as_slice.ensures c.loop-parcel.invariant c.in_ok-take_all.ensures
