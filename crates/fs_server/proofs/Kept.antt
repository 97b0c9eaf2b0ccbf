-- What keeps a server one, and its rows in order.
use Rattle.std.proofs.Common.{◌≡◌, ℕ, ◌<◌, ◌^◌, false, List, map}
use Rattle.std.specs.List.{list_any}
use Rattle.fs_ident.specs.declared.actor.LeaseNo.{LeaseNo}
use Rattle.fs_ident.specs.In.{In}
use Rattle.fs_map.specs.Map.{Owners}
use Rattle.fs_field.specs.declared.row.Row.{Row}
use Rattle.fs_field.specs.Conflict.{plain_conflict}
use Rattle.fs_field.specs.Table.{has_no, renewed_row, with_row}
use Rattle.fs_field.proofs.Leases.{SameLease, NoPlainConflict-map, NoPlainConflict-with_row}
use Rattle.fs_field.proofs.Order.{ordered_map, ordered_put}
use Rattle.fs_rows.specs.Given.{AreGiven}
use Rattle.fs_moderows.proofs.Tables.{TellsSame, renewed_tells}
use Rattle.fs_path.specs.Tables.{PathTables}
use Rattle.fs_record.specs.Records.{RecordMap}
use Rattle.fs_txn.specs.declared.ready.Ready.{Ready}
use Rattle.fs_server.specs.Rows.{AreRows}
use Rattle.fs_server.specs.declared.state.Server.{Server}
use Rattle.fs_server.specs.Grants.{IsReady}

same_lease : (a b : Row) → TellsSame a b → SameLease a b
same_lease a b s = record { number = s.number; session = s.session; field = s.field; kind = s.kind }

-- rows of the same leases stay in order
pub leased_rows : (f : Row → Row) → ((r : Row) → SameLease r (f r)) → (rows : List Row) → AreRows rows → AreRows (map f rows)
leased_rows f same rows t = record {
  ordered = ordered_map f (λ r. (same r).number) rows t.ordered;
  free = NoPlainConflict-map f same rows t.free;
}

pub mapped_rows : (f : Row → Row) → ((r : Row) → TellsSame r (f r)) → (rows : List Row) → AreRows rows → AreRows (map f rows)
mapped_rows f same rows t = leased_rows f (λ r. same_lease r (f r) (same r)) rows t

pub renewed_in_order : (number : LeaseNo) (until : ℕ) (rows : List Row) → AreRows rows → AreRows (map (renewed_row number until) rows)
renewed_in_order number until rows t = mapped_rows (renewed_row number until) (renewed_tells number until) rows t

-- one more row, whose number is new and which conflicts plainly with none
pub put_rows : (row : Row) (rows : List Row) → list_any (has_no row.no) rows ≡ false → ((x : Row) → In x rows → plain_conflict row x ≡ false) → AreRows rows → AreRows (with_row row rows)
put_rows row rows new free t = record {
  ordered = ordered_put row rows new t.ordered;
  free = NoPlainConflict-with_row row rows free t.free;
}

-- the server with other rows, each with a number that it gave, other records and another map
pub with_others : (s : Server) (rows : List Row) (records : RecordMap) (map : Owners) → IsReady s → AreGiven s.me s.given rows → AreRows rows → IsReady (record s { rows = rows; records = records; map = map })
with_others s rows records map r n t = record {
  server = record { few = r.server.few; skew = r.server.skew; term = r.server.term; last = r.server.last; given = r.server.given; reaps = r.server.reaps; txns = r.server.txns; paths = r.server.paths; numbers = n; whole = r.server.whole };
  table = t;
}

-- the server with other records, other rows, each with a number that it gave, and other parts that wait
pub with_parts : (s : Server) (records : RecordMap) (rows : List Row) (prepared : List Ready) → IsReady s → AreGiven s.me s.given rows → AreRows rows → IsReady (record s { records = records; rows = rows; prepared = prepared })
with_parts s records rows prepared r n t = record {
  server = record { few = r.server.few; skew = r.server.skew; term = r.server.term; last = r.server.last; given = r.server.given; reaps = r.server.reaps; txns = r.server.txns; paths = r.server.paths; numbers = n; whole = r.server.whole };
  table = t;
}

-- the server with other path leases, other files of which the path was asked for, and so many that it gave out
pub with_paths : (s : Server) (paths : PathTables) (asking : List (List ℕ)) (given : ℕ) → given < 2 ^ 64 → IsReady s → IsReady (record s { paths = paths; asking = asking; paths_given = given })
with_paths s paths asking given few r = record {
  server = record { few = r.server.few; skew = r.server.skew; term = r.server.term; last = r.server.last; given = r.server.given; reaps = r.server.reaps; txns = r.server.txns; paths = few; numbers = r.server.numbers; whole = r.server.whole };
  table = r.table;
}

-- the server with other path leases alone
pub with_tables : (s : Server) (paths : PathTables) → IsReady s → IsReady (record s { paths = paths })
with_tables s paths r = with_paths s paths s.asking s.paths_given r.server.paths r
