-- A session asks for an operation to be led that waits for a path: it is put off, and the path is asked for. All that holds stays.
use Rattle.std.proofs.Common.{◌≡◌, ℕ, true, false, List, [], ◌∷◌, ◌++◌, append-nil, cond, length, refl, sym, ap, ◌∙◌, subst, inl, inr}
use Rattle.std.specs.Prelude.{Some, slice_get}
use Rattle.fs_ident.specs.In.{In}
use Rattle.fs_ident.specs.declared.actor.PathNo.{PathNo}
use Rattle.fs_ident.specs.declared.actor.Peer.{Peer}
use Rattle.fs_ident.specs.declared.actor.Session.{Session}
use Rattle.fs_ident.specs.declared.kind.Kind.TheVariants.{Dir}
use Rattle.fs_ident.proofs.Standing.{In-got}
use Rattle.fs_map.specs.Map.{server_of}
use Rattle.fs_msg.specs.declared.client_msg.ClientMsg.TheVariants.{Lead}
use Rattle.fs_msg.specs.declared.item.Item.{Item}
use Rattle.fs_msg.specs.declared.lead.Lead.{Lead as ToLead}
use Rattle.fs_msg.specs.declared.msg.Msg.{Msg}
use Rattle.fs_msg.specs.declared.peer_msg.PeerMsg.TheVariants.{PathAsk}
use Rattle.fs_msg.specs.declared.server_note.ServerNote.TheVariants as note
use Rattle.fs_record.specs.declared.led_end.Why.TheVariants.{Wanted}
use Rattle.fs_server.specs.Follows.{to_server}
use Rattle.fs_server.specs.Leads.{refuses, wants_path}
use Rattle.fs_server.specs.PathSteps.{dir_here}
use Rattle.fs_server.specs.PathsHere.{asks_nobody, asks_up, with_asking}
use Rattle.fs_server.specs.Server.{Stepped}
use Rattle.fs_server.specs.declared.event.ServerEvent.{ServerEvent}
use Rattle.fs_server.specs.declared.event.ServerEvent.TheVariants.{FromClient, Turn}
use Rattle.fs_server.specs.declared.state.Server.{Server}
use Rattle.fs_serial.specs.Cluster.{Cluster, InFlight, IsThere, after_step, in_flight_from}
use Rattle.fs_serial.specs.Fresh.{made}
use Rattle.fs_serial.specs.KeptFiles.{FilesKept}
use Rattle.fs_serial.specs.Paths.{PathsHold, SaysPath, has_path}
use Rattle.fs_serial.specs.Runs.{held_by, records_in}
use Rattle.fs_serial.specs.Seen.{ClusterHolds}
use Rattle.fs_serial.proofs.Lists.SetAt.{get_here, set_twice}
use Rattle.fs_serial.proofs.Moves.PathPeers.{up_named}
use Rattle.fs_serial.proofs.Moves.PathSteps.{ArePathSends, path_stepped, up_sent}
use Rattle.fs_serial.proofs.Paths.EventsLeave.{put_off_leaves}
use Rattle.fs_serial.proofs.Paths.KeptBegun.{put_off_kept}
use Rattle.fs_serial.proofs.Paths.KeptOthers.{stepped_kept}
use Rattle.fs_serial.proofs.Paths.KeptPlaces.{left_alike}
use Rattle.fs_serial.proofs.Lists.Journals.{made_kept}
use Rattle.fs_serial.proofs.Paths.SameSpace.{same_space}
use Rattle.fs_serial.proofs.Paths.Together.{others_keep}
use Rattle.fs_serial.proofs.Transactions.LeavesLed.{quiet_leaves}
use Rattle.fs_serial.proofs.Transactions.OtherEvents.{sends_same, sends_stand}
use Rattle.fs_serial.proofs.Transactions.PutOff.{put_off_keeps}

module _ (skew greatest k : ℕ) (c : Cluster) (s : Server) (at : slice_get c.servers k ≡ Some s) (h : ClusterHolds skew greatest c)
    (by : Session) (m : ToLead) (comes : IsThere k (FromClient by (Lead m)) c) (top dir : List ℕ) where
  abbrev e : ServerEvent
  e = FromClient by (Lead m)

  -- ## It is put off, and then the path is asked for

  abbrev first : Cluster
  first = after_step k e (refuses by (Wanted top) s) c

  abbrev asks : List (Peer × Msg)
  asks = asks_up top dir s

  abbrev asked : Stepped
  asked = path_stepped note.PathNone asks s.paths (with_asking top s).asking s.paths_given s

  abbrev then : Cluster
  then = after_step k Turn asked first

  abbrev after : Cluster
  after = after_step k e (wants_path by top dir s) c

  now : slice_get first.servers k ≡ Some s
  now = get_here c.servers k s s at

  sent : ArePathSends asks
  sent = up_sent top dir s

  abbrev cluster : List Server → List InFlight → List Item → Cluster
  cluster ss fs is = record { servers = ss; in_flight = fs; journal = is; replied = after.replied; lines = after.lines }

  same : then ≡ after
  same =
      ap (λ ss. cluster ss then.in_flight then.journal) (set_twice c.servers k s asked.server)
      ∙ ap (λ fs. cluster after.servers (fs ++ in_flight_from k asks) then.journal) (append-nil c.in_flight)
      ∙ ap (λ is. cluster after.servers after.in_flight is) (append-nil (c.journal ++ []))

  -- ## All that holds of the cluster

  holds_first : ClusterHolds skew greatest first
  holds_first = put_off_keeps skew greatest k c s at h by m comes (Wanted top)

  here : In s first.servers
  here = In-got first.servers k s now

  holds_then : ClusterHolds skew greatest then
  holds_then = sends_stand skew greatest k first s now holds_first note.PathNone asks s.paths (with_asking top s).asking s.paths_given tt sent
      (up_named (length first.servers) s (holds_first.places.named s here) (holds_first.peers s here) top dir) (holds_first.peers s here)

  pub wanted_keeps : ClusterHolds skew greatest after
  wanted_keeps = subst (ClusterHolds skew greatest) same holds_then

  -- ## The files that servers keep

  pub wanted_kept : FilesKept c → FilesKept after
  wanted_kept f =
      let f_first : FilesKept first = put_off_kept skew greatest k c s at h f by m comes (Wanted top) in
      subst FilesKept same
      (stepped_kept skew greatest k first s now holds_first f_first Turn asked
      (quiet_leaves k s first Turn note.PathNone asks s.paths (with_asking top s).asking s.paths_given sent refl) refl
      (λ d i. left_alike (records_in first) (records_in then) d.effect
      (sends_same skew greatest k first s now holds_first note.PathNone asks s.paths (with_asking top s).asking s.paths_given sent).1))

  -- ## All that holds of paths, where the path of a directory is asked for

  module _ (p : PathsHold c) (is_dir : made c.journal top ≡ Some Dir) where
    made_then : (f : List ℕ) → made first.journal f ≡ Some Dir → made then.journal f ≡ Some Dir
    made_then f = made_kept first.journal [] f Dir

    says : (f : InFlight) → In f (in_flight_from k asks)
        → SaysPath then f.from f.to f.message × ((number : PathNo) → has_path number f.message ≡ false)
    says f i = elim (asks_nobody top dir s) as
        (λ b. In f (in_flight_from k (cond b [] (to_server (server_of s.map dir) (PathAsk top dir) ∷ [])))
        → SaysPath then f.from f.to f.message × ((number : PathNo) → has_path number f.message ≡ false)) [
          | true ↦ λ z. absurd z
          | false ↦ λ z. elim z as (λ _. SaysPath then f.from f.to f.message × ((number : PathNo) → has_path number f.message ≡ false)) [
            | inl q ↦ subst (λ (g : InFlight). SaysPath then g.from g.to g.message × ((number : PathNo) → has_path number g.message ≡ false))
                (sym q) (made_then top (made_kept c.journal [] top Dir is_dir), λ number. refl)
            | inr z ↦ absurd z
          ]
        ] i

    pub wanted_keeps_paths : PathsHold after
    wanted_keeps_paths =
        let p_first : PathsHold first = others_keep c k e s (refuses by (Wanted top) s) p at (put_off_leaves c k s p at by m (Wanted top)) in
        let space : held_by then ≡ held_by first =
        same_space first k Turn s asked now (record { parcels = refl; effects = refl }) (record { records = refl; admitted = refl; sent = sent }) in
        subst PathsHold same
        (others_keep first k Turn s asked p_first now (record {
          me = refl;
          issued = refl;
          held = refl;
          kept = λ f z. inl z;
          given = refl;
          sent = says;
          taken = λ number. refl;
          journal = made_then;
          up = λ f on. ap (λ n. dir_here n f) space;
          here = λ l f i j. refl;
        }))
