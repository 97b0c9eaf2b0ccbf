-- What holds where identifiers are said of records as they are stored holds of what all hold together: fewer directories stand in these.
use Rattle.std.proofs.Common.{ℕ, List}
use Rattle.fs_ident.specs.declared.actor.Session.{Session}
use Rattle.fs_msg.specs.declared.item.Item.{Item}
use Rattle.fs_server.specs.declared.state.Server.{Server}
use Rattle.fs_txn.specs.Grants.{Decided, effects_in}
use Rattle.fs_serial.specs.Decided.{AllDecidedStand}
use Rattle.fs_serial.specs.Fresh.{FreshReserved, Reserved, reserved_by}
use Rattle.fs_serial.specs.Parts.{AllHold}
use Rattle.fs_serial.specs.Settled.{Settled}
use Rattle.fs_serial.specs.Sight.{Counts, seen, sight_of, sight_with}
use Rattle.fs_serial.specs.World.{Ends, GoesOn, first_ends}
use Rattle.fs_serial.proofs.DecidedEffects.FewerDirectories.{fewer_held, reserved_there}
use Rattle.fs_serial.proofs.DecidedEffects.GrantsPast.{all_decided}
use Rattle.fs_serial.proofs.OneServer.LeaseChanges.{all_restored, goes_restored}

module _ (ds : List Decided) (s : Server) (journal : List Item) (all : AllDecidedStand ds s journal) where
  pub reserved_seen : (reserved : Reserved) → FreshReserved reserved s.records journal → FreshReserved reserved (seen ds s).records journal
  reserved_seen reserved f = reserved_there reserved s.records (seen ds s).records journal (fewer_held s.records (effects_in ds) (all_decided ds s journal all)) f

  module _ (o : Counts) (skew greatest : ℕ) (replied : Session → List Item) (clients : Session → Settled) where
    pub all_seen : AllHold skew greatest (sight_with o ds s journal) replied clients → AllHold skew greatest (sight_of o (seen ds s) journal) replied clients
    all_seen h = all_restored skew greatest (sight_with o ds s journal) (seen ds s).records replied (first_ends 0) clients (reserved_seen (reserved_by clients) h.reserved) h

    pub goes_seen : (ends : Session → Ends) → GoesOn skew greatest (sight_with o ds s journal) replied ends clients → GoesOn skew greatest (sight_of o (seen ds s) journal) replied ends clients
    goes_seen ends h = goes_restored skew greatest (sight_with o ds s journal) (seen ds s).records replied ends clients (reserved_seen (reserved_by clients) h.all.reserved) h
