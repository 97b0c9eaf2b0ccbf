-- A server that leaves what it has of paths as it is and tells other servers nothing leaves paths alone, where each directory that was made
-- stays where it is.
use Rattle.std.proofs.Common.{◌≡◌, ◌∙◌, ℕ, true, List, [], ◌++◌, append-nil, refl, ap, ap₂, subst, inl}
use Rattle.std.specs.Prelude.{Some, is_some, slice_get}
use Rattle.std.specs.List.{filter}
use Rattle.fs_ident.specs.In.{In}
use Rattle.fs_ident.specs.declared.kind.Kind.TheVariants.{Dir}
use Rattle.fs_ident.proofs.Standing.{In-got}
use Rattle.fs_msg.specs.declared.item.Item.{Item}
use Rattle.fs_path.specs.Tables.{PathTables, frozen_for}
use Rattle.fs_server.specs.Server.{Stepped}
use Rattle.fs_server.specs.declared.event.ServerEvent.{ServerEvent}
use Rattle.fs_server.specs.declared.state.Server.{Server}
use Rattle.fs_serial.specs.Cluster.{Cluster, InFlight, after_step, in_flight_from, parcels_of, without_arrived}
use Rattle.fs_serial.specs.Fresh.{made}
use Rattle.fs_serial.specs.Joined.{effects_on_way}
use Rattle.fs_serial.specs.Paths.{IsOnPath, LeavesPaths, PathsHold, has_path}
use Rattle.fs_serial.proofs.Lists.Journals.{made_kept}
use Rattle.fs_serial.proofs.Paths.FilesStay.{SameOnWay, StaysThere, at_itself, at_then, file_stays}

-- ## What was made stays made

-- what is on a path was made a directory
pub made_on_path : (c : Cluster) (f : List ℕ) → PathsHold c → IsOnPath c.servers f → made c.journal f ≡ Some Dir
made_on_path c f h on = (h.truth on.server on.here on.lease on.issued).dirs f on.among

-- ## One server

-- it has the same of paths, and each directory that was made stays where it is
pub record LeavesFiles (journal : List Item) (s t : Server) : Type 0 where
  pub me : t.me ≡ s.me
  pub paths : t.paths ≡ s.paths
  pub given : t.paths_given ≡ s.paths_given
  pub files : (f : List ℕ) → made journal f ≡ Some Dir → StaysThere f s.records t.records

pub leaves_itself : (journal : List Item) (s : Server) → LeavesFiles journal s s
leaves_itself journal s = record { me = refl; paths = refl; given = refl; files = λ f m. at_itself _ }

pub leaves_then : (journal : List Item) (a b c : Server) → LeavesFiles journal a b → LeavesFiles journal b c → LeavesFiles journal a c
leaves_then journal a b c p q = record {
  me = q.me ∙ p.me;
  paths = q.paths ∙ p.paths;
  given = q.given ∙ p.given;
  files = λ f m. at_then _ _ _ (p.files f m) (q.files f m);
}

-- ## Its step

-- on no message of another server
module _ (c : Cluster) (k : ℕ) (e : ServerEvent) (s : Server) (x : Stepped) (h : PathsHold c) (at : slice_get c.servers k ≡ Some s)
    (none : (fs : List InFlight) → without_arrived k e fs ≡ fs) (quiet : in_flight_from k x.out.send ≡ [])
    (leaves : LeavesFiles c.journal s x.server) where
  abbrev later : Cluster
  later = after_step k e x c

  same_messages : later.in_flight ≡ c.in_flight
  same_messages = ap₂ (λ (a b : List InFlight). a ++ b) (none c.in_flight) quiet ∙ append-nil c.in_flight

  same_on_way : SameOnWay c later
  same_on_way = record { parcels = ap parcels_of same_messages; effects = ap effects_on_way same_messages }

  pub quiet_leaves : LeavesPaths k e s x c later
  quiet_leaves = record {
    me = leaves.me;
    issued = ap (λ (t : PathTables). t.issued) leaves.paths;
    held = ap (λ (t : PathTables). t.held) leaves.paths;
    kept = λ f is. inl (subst (λ (t : PathTables). is_some (frozen_for f t.frozen) ≡ true) leaves.paths is);
    given = leaves.given;
    sent = λ f i. absurd (subst (In f) quiet i);
    taken = λ number. ap (filter (λ (f : InFlight). has_path number f.message)) (none c.in_flight);
    journal = λ f m. made_kept c.journal x.out.admitted f Dir m;
    up = λ f on. (file_stays c k e s x f at same_on_way (leaves.files f (made_on_path c f h on))).dir;
    here = λ l f i m. (leaves.files f ((h.truth s (In-got c.servers k s at) l i).dirs f m)).there;
  }
