use Rattle.std.proofs.Common.{sym}
use Rattle.fs_record.specs.declared.parcel.Parcel.{Parcel}
use Rattle.fs_server.specs.declared.state.Server.{Server}
use Rattle.fs_server.proofs.Moving.{goes_piece, handed_over, left_ready, moved_over, packed_here, told_over}
use Rattle.fs_server.proofs.moves.hands_over.Goals as goal

pub returns-clause-step : goal.returns-clause-step
returns-clause-step c =
    let s : Server = c.args.at.now in
    let p : Parcel = c.in_ok-parcel.parcel in
    let whole = packed_here c.args.prefix.now c.records.result.now c.tables.result.0.now c.tables.result.1.now c.rows.result.now c.map.result.now c.me.result p s c.records.ensures c.tables.ensures.rows c.rows.ensures c.map.ensures c.me.ensures c.in_ok-parcel.ensures in
    sym (told_over c.args.prefix.now c.in_ok-copy.field-0 c.args.to p _ c.in_ok-only.field-0 c.new.result s (handed_over c.args.prefix.now c.args.to p c.in_ok-piece.piece c.in_ok-moved.moved s whole c.in_ok-piece.ensures) c.in_ok-copy.ensures c.in_ok-only.ensures whole c.new.ensures)

pub returns-clause-can : goal.returns-clause-can
returns-clause-can c =
    let s : Server = c.args.at.now in
    let p : Parcel = c.in_ok-parcel.parcel in
    let whole = packed_here c.args.prefix.now c.records.result.now c.tables.result.0.now c.tables.result.1.now c.rows.result.now c.map.result.now c.me.result p s c.records.ensures c.tables.ensures.rows c.rows.ensures c.map.ensures c.me.ensures c.in_ok-parcel.ensures in
    record {
      change = (goes_piece c.args.prefix.now p c.in_ok-piece.piece s c.requires.mine whole c.in_ok-piece.ensures, moved_over c.args.prefix.now p c.in_ok-piece.piece c.in_ok-moved.moved s whole c.in_ok-piece.ensures c.in_ok-moved.ensures);
      ready = left_ready c.args.to c.in_ok-piece.piece c.in_ok-moved.moved s c.requires.ready;
    }
