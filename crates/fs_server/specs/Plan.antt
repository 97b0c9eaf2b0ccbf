-- What an event changes, once it is read what it comes to.
use Rattle.std.specs.Prelude.{◌≡◌, ℕ, ◌+◌, ◌<◌, ◌≤◌, ◌^◌, true, List, length, Option, Some, None, IfSome, if◌then◌else◌}
use Rattle.std.specs.List.{list_all}
use Rattle.std.specs.FinMap.{get}
use Rattle.fs_ident.specs.declared.limits.TheConstants.{LATEST}
use Rattle.fs_msg.specs.declared.limits.TheConstants.{LONGEST, SERVERS}
use Rattle.fs_map.specs.Lists.{map_after_take}
use Rattle.fs_map.specs.Map.{IsPiece}
use Rattle.fs_rows.specs.Given.{AreGiven}
use Rattle.fs_rows.specs.Granted.{with_rows}
use Rattle.fs_rows.specs.Moving.{rows_left}
use Rattle.fs_record.specs.Applied.{records_after_all, is_undoable, takes_away}
use Rattle.fs_record.specs.Fresh.{records_after_gift}
use Rattle.fs_parcel.specs.Parcel.{fits}
use Rattle.fs_record.specs.Moving.{AreNumbersLeft, records_given, records_left}
use Rattle.fs_record.specs.Records.{RecordMap, next_of}
use Rattle.fs_server.specs.declared.change.Change.{Change}
use Rattle.fs_server.specs.declared.change.Change.TheVariants.{Nothing, Grant, Renew, Free, Admit, Reap, Lead, Done, Prepare, Decide, Leave, Install, Paths}
use Rattle.fs_server.specs.declared.change.Then.{Then}
use Rattle.fs_server.specs.declared.change.Then.TheVariants.{Waits, Ends}
use Rattle.fs_server.specs.declared.path_change.PathChange.{PathChange}
use Rattle.fs_server.specs.declared.path_change.PathChange.TheVariants.{Ask, Stop, Give, Keep, Recall, Back, AskBack}
use Rattle.fs_server.specs.declared.plan.Plan.{Plan}
use Rattle.fs_server.specs.declared.state.Server.{Server}
use Rattle.fs_server.specs.Server.{begun}
use Rattle.fs_ident.specs.declared.actor.TxnNo.{TxnNo}
use Rattle.fs_txn.specs.Leading.{AreWhole, ending_of, with_ending, with_leading, without_done, without_leading}
use Rattle.fs_txn.specs.Locks.{rows_unlocked}
use Rattle.fs_txn.specs.Preparing.{rows_locked}
use Rattle.fs_txn.specs.Ready.{rows_left_by, without_prepared}
use Rattle.fs_txn.specs.declared.leading.Ending.{Ending}
use Rattle.fs_server.specs.Counts.{done_with}
use Rattle.fs_server.specs.Follows.{paths_freed, paths_left_by, with_part}
use Rattle.fs_path.specs.Tables.{with_all_frozen}
use Rattle.fs_server.specs.Moves.{installed}
use Rattle.fs_server.specs.Pairs.{renewed_rows, released_rows}
use Rattle.fs_server.specs.PathSteps.{lease_to, with_asking, with_held_path, with_path, without_asking, without_paths_in}
use Rattle.fs_path.specs.Returns.{after_recalled, after_released}
pub use Rattle.fs_server.specs.Rows.{AreRows, is_shaped}

-- ## Changes, without a test

-- the directory gave that number to a new file
abbrev pub after_gift : Option (List ℕ × ℕ) → RecordMap → RecordMap
after_gift None m = m
after_gift (Some g) m = records_after_gift m g.0 (Some g.1)

-- what becomes of a transaction that goes on
abbrev pub changed_then : Then → TxnNo → Server → Server
changed_then (Waits l) txn s = record s { leading = with_leading l s.leading }
changed_then (Ends effects removals x keeps) txn s = record s {
  records = records_after_all (records_after_all s.records effects) removals;
  rows = if keeps then s.rows else rows_unlocked txn s.rows;
  leading = without_leading txn s.leading;
  ending = with_ending x s.ending;
  paths = paths_freed txn s.paths;
}

abbrev pub done_change : Option Ending → ℕ → Server → Server
done_change None number s = s
done_change (Some x) number s = (done_with (without_done number x) (without_done number x).awaits s).server

-- what becomes of path leases
abbrev pub changed_paths : PathChange → Server → Server
changed_paths (Ask file) s = with_asking file s
changed_paths (Stop file) s = without_asking file s
changed_paths (Give to file above) s = with_path (lease_to to file above s) s
changed_paths (Keep from number file path) s =
    with_held_path (record { no = number; peer = from; file = file; path = path }) (without_asking file s)
changed_paths (Recall number) s = record s { paths = after_recalled number s.paths }
changed_paths (Back number) s = record s { paths = after_released number s.paths }
changed_paths (AskBack prefix) s = without_paths_in prefix s

abbrev pub changed : Change → Server → Server
changed Nothing s = s
changed (Grant rows gift) s = record s { given = s.given + length rows; rows = with_rows rows s.rows; records = after_gift gift s.records }
changed (Renew until numbers) s = record s { rows = renewed_rows until numbers s.rows }
changed (Free numbers) s = record s { rows = released_rows numbers s.rows }
changed (Admit effects) s = record s { records = records_after_all s.records effects }
changed (Reap count effects) s = record s { reaps = s.reaps + count; records = records_after_all s.records effects }
changed (Lead begins txn uses files rest) s = changed_then rest txn (record s {
  txns = if begins then s.txns + 1 else s.txns;
  rows = rows_locked txn uses s.rows;
  paths = record s.paths { frozen = with_all_frozen txn files s.paths.frozen };
})
changed (Done txn number) s = done_change (ending_of txn s.ending) number s
changed (Prepare x) s = with_part x s
changed (Decide txn number effects removals) s = record s {
  records = records_after_all (records_after_all s.records effects) removals;
  rows = rows_left_by txn (without_prepared txn number s.prepared) s.rows;
  prepared = without_prepared txn number s.prepared;
  paths = paths_left_by txn (without_prepared txn number s.prepared) s.paths;
}
changed (Leave to piece moved) s = record s {
  records = records_left piece.prefix piece.given s.records;
  rows = rows_left piece.prefix piece.given s.rows;
  map = map_after_take s.map to piece.prefix piece.given;
}
changed (Install p) s = installed p s
changed (Paths ch) s = changed_paths ch s

-- the server after the plan: the rows that are over are dropped first
abbrev pub committed : Plan → Server → Server
committed p s = changed p.change (begun p.now s)

-- ## What every server is

-- its readings and terms are in their ranges, each row of its own has a number that it gave, and what it leads has all parts
pub record IsServer (s : Server) : Type 0 where
  pub few : s.me < SERVERS
  pub skew : s.skew ≤ LONGEST
  pub term : s.term ≤ LONGEST
  pub last : s.last ≤ LATEST
  pub given : s.given < 2 ^ 64
  pub reaps : s.reaps < 2 ^ 64
  pub txns : s.txns < 2 ^ 64
  pub paths : s.paths_given < 2 ^ 64
  pub numbers : AreGiven s.me s.given s.rows
  pub whole : AreWhole s.leading

-- ## Which plans can be committed

-- the directory gave the number to no file before: it is no less than the next one
abbrev pub IsNewGift : Option (List ℕ × ℕ) → RecordMap → Type 0
IsNewGift gift m = IfSome gift (λ g. next_of (get m g.0) ≤ g.1)

-- the effects of a transaction that ends can be taken back where memory runs out, but for removals, which come behind them and want none
abbrev pub CanEnd : Then → Type 0
CanEnd (Waits l) = Unit {0}
CanEnd (Ends effects removals x keeps) = (list_all is_undoable effects ≡ true) × (list_all takes_away removals ≡ true)

-- a number is given for the first time; the effects of a log can be taken back where memory runs out, and those of a led
-- operation and of a decision but for removals, which come behind them and want none; what goes is a piece, and the
-- records are those that it gives; a parcel fits
abbrev pub CanChange : Change → Server → Type 0
CanChange (Grant rows gift) s = IsNewGift gift s.records
CanChange (Admit effects) s = list_all is_undoable effects ≡ true
CanChange (Reap count effects) s = list_all is_undoable effects ≡ true
CanChange (Lead begins txn uses files rest) s = CanEnd rest
CanChange (Decide txn number effects removals) s = (list_all is_undoable effects ≡ true) × (list_all takes_away removals ≡ true)
CanChange (Leave to piece moved) s = IsPiece piece.prefix piece.given × (moved ≡ records_given piece.prefix piece.given s.records)
CanChange (Install p) s = (fits s.records s.rows s.map s.me p ≡ true) × AreNumbersLeft p.records
CanChange ch s = Unit {0}

-- what it leads to is a server, with rows in order
pub record CanCommit (p : Plan) (s : Server) : Type 0 where
  pub change : CanChange p.change (begun p.now s)
  pub server : IsServer (committed p s)
  pub table : AreRows (committed p s).rows
