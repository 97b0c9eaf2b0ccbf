-- A server decides a transaction that it leads.
use Rattle.std.specs.Prelude.{◌≡◌, ℕ, List, [], ◌++◌, Option, Some, slice_get, slice_set}
use Rattle.fs_ident.specs.declared.actor.Session.{Session}
use Rattle.fs_ident.specs.declared.kind.Kind.TheVariants.{Dir}
use Rattle.fs_field.specs.declared.path.PathAnswer.{PathAnswer}
use Rattle.fs_field.specs.declared.path.PathAnswer.TheVariants.{Path}
use Rattle.fs_model.specs.Ancestors.{is_on_chain}
use Rattle.fs_model.specs.Asking.{home_of}
use Rattle.fs_msg.specs.declared.item.Item.{Item}
use Rattle.fs_record.specs.Records.{nodes_of}
use Rattle.fs_server.specs.Concludes.{concludes, path_for}
use Rattle.fs_server.specs.Server.{Stepped}
use Rattle.fs_server.specs.declared.event.ServerEvent.{ServerEvent}
use Rattle.fs_server.specs.declared.state.Server.{Server}
use Rattle.fs_txn.specs.Deciding.{has_file}
use Rattle.fs_txn.specs.declared.leading.Leading.{Leading}
use Rattle.fs_serial.specs.Cluster.{Cluster, in_flight_from, replies_after, with_items, with_sent}
use Rattle.fs_serial.specs.Fresh.{made}
use Rattle.fs_serial.specs.Runs.{held_by}

-- what is admitted in the event is told to its sessions
abbrev pub TellsItems : ServerEvent → Type 0
TellsItems e = (items : List Item) (replied : Session → List Item) → replies_after e items replied ≡ with_items items replied

-- a server decides a transaction of which all parts have voted, by this path
abbrev pub after_concluded : ℕ → Leading → Option PathAnswer → Server → Cluster → Cluster
after_concluded k l path s c =
    let x : Stepped = concludes l path [] s in
    record {
      servers = slice_set c.servers k x.server;
      in_flight = c.in_flight ++ in_flight_from k x.out.send;
      journal = c.journal ++ x.out.admitted;
      replied = with_items x.out.admitted c.replied;
      lines = with_sent k x.out.send c.lines;
    }

-- where the home is a directory, the path tells whether the file is on the chain of that one
abbrev pub TellsCycles : Cluster → Leading → Option PathAnswer → Type 0
TellsCycles c l path =
    made c.journal (home_of l.leader.op) ≡ Some Dir → (files : List (List ℕ)) → path ≡ Some (Path files)
    → has_file files l.leader.file ≡ is_on_chain (nodes_of (held_by c)) l.leader.file (home_of l.leader.op)

-- so do the paths of all servers, as they find them
abbrev pub PathsTell : Cluster → Type 0
PathsTell c = (k : ℕ) (s : Server) (l : Leading) → slice_get c.servers k ≡ Some s → TellsCycles c l (path_for l.leader.mode l.leader.op s)
