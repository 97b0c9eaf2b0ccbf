-- Messages of path leases go to peers of some kind, and can be sent; and the leases of a server that takes one, or asks paths back,
-- are with such peers then.
use Rattle.std.proofs.Common.{◌≡◌, ℕ, ◌<◌, ◌==◌, Bool, true, false, not, List, [], ◌∷◌, ◌++◌, cond, refl, sym, ap, ◌∙◌, subst, inl, inr}
use Rattle.std.specs.Prelude.{Option, Some, None, option_map, unwrap_or, ◌||◌}
use Rattle.std.specs.List.{filter, find}
use Rattle.fs_ident.specs.In.{In}
use Rattle.fs_ident.specs.declared.actor.PathNo.{PathNo}
use Rattle.fs_ident.specs.declared.actor.Peer.{Peer}
use Rattle.fs_ident.specs.declared.actor.TxnNo.{TxnNo}
use Rattle.fs_ident.proofs.Passing.{found}
use Rattle.fs_ident.proofs.Standing.{In-filter, In-map, In-put}
use Rattle.fs_field.specs.declared.path.PathAnswer.{PathAnswer}
use Rattle.fs_field.specs.declared.path.PathAnswer.TheVariants as answer
use Rattle.fs_field.specs.declared.used.Part.{Part}
use Rattle.fs_field.specs.declared.vote.Vote.{Vote}
use Rattle.fs_field.specs.declared.vote.Vote.TheVariants.{Yes, Ended, Moved, PathsOut}
use Rattle.fs_map.specs.Map.{Owners, longest, server_of}
use Rattle.fs_msg.specs.declared.msg.Msg.{Msg}
use Rattle.fs_msg.specs.declared.peer_msg.PeerMsg.{PeerMsg}
use Rattle.fs_msg.specs.declared.peer_msg.PeerMsg.TheVariants as peer
use Rattle.fs_msg.specs.declared.refusal.Refusal.TheVariants as refusal
use Rattle.fs_msg.specs.declared.server_note.ServerNote.{ServerNote}
use Rattle.fs_msg.specs.declared.server_note.ServerNote.TheVariants as note
use Rattle.fs_parcel.specs.declared.error.MoveError.{MoveError}
use Rattle.fs_parcel.specs.declared.error.MoveError.TheVariants as move
use Rattle.fs_path.specs.Leases.{PathLease, goes_over, has_no, named_to_peer, path_before}
use Rattle.fs_path.specs.Returns.{after_recalled, asked_back, first_down, give_back, goes_back, held_after, is_asked_in, is_into, is_of}
use Rattle.fs_path.specs.Returns.{recalled_as, recalls, releases, rests_on_asked, without_no}
use Rattle.fs_path.specs.Tables.{PathTables, frozen_for, holds, is_leaving, issued_to, lease_of}
use Rattle.fs_path.specs.declared.having.Having.{Having}
use Rattle.fs_path.specs.declared.having.Having.TheVariants.{Held}
use Rattle.fs_record.specs.declared.led_end.Why.{Why}
use Rattle.fs_record.specs.declared.led_end.Why.TheVariants as why
use Rattle.fs_server.specs.Follows.{path_recalls, recalls_for, recalls_over, to_server}
use Rattle.fs_server.specs.Leads.{moved_why}
use Rattle.fs_server.specs.Moves.{move_at, peer_step}
use Rattle.fs_server.specs.PathSteps.{answers_path, asks_back_in, asks_up, denies, dir_here, fails_path, goes_down, has_child}
use Rattle.fs_server.specs.PathSteps.{is_asking, is_out_to, is_same_dir, keeps_path, last_dir, lease_to, moved_path, path_ask_step}
use Rattle.fs_server.specs.PathSteps.{path_grant_step, path_here, path_no_step, path_recall_step, path_release_step, path_releases}
use Rattle.fs_server.specs.PathSteps.{sends, unless_kept, without_asking}
use Rattle.fs_server.specs.Server.{Stepped, is_mine, strange}
use Rattle.fs_server.specs.declared.state.Server.{Server}
use Rattle.fs_serial.specs.PathLaws.{IsPathMessage}
use Rattle.fs_serial.specs.Places.{MessageNames, WhyNames}
use Rattle.fs_serial.proofs.Moves.KeptPaths.{AreBetween}
use Rattle.fs_serial.proofs.Paths.Counting.{asked_lease}

-- where a map says that something is elsewhere, it names a server that there is if it names none but such
why_names : (servers : ℕ) (owners : Owners) (id : List ℕ) → server_of owners id < servers
    → WhyNames servers (moved_why (longest owners id))
why_names servers owners id h = elim (longest owners id) as
    (λ o. unwrap_or (option_map (λ e. e.1) o) 0 < servers → WhyNames servers (moved_why o)) [
      | None ↦ λ g. g
      | Some e ↦ λ g. g
    ] h

-- a message of path leases that names none but so many servers can be sent to any such peer, and messages one behind the other
pub record CanBeSent (servers : ℕ) (IsPeer : ℕ → Type 0) (AreSent : List (Peer × Msg) → Type 0) : Type 0 where
  pub none : AreSent []
  pub both : (a b : List (Peer × Msg)) → AreSent a → AreSent b → AreSent (a ++ b)
  pub one : (to : ℕ) (m : PeerMsg) → IsPeer to → IsPathMessage m → MessageNames servers m → AreSent (to_server to m ∷ [])

-- what is sent can be, and the leases are with such peers
pub record GoBetween (IsPeer : ℕ → Type 0) (AreSent : List (Peer × Msg) → Type 0) (x : Stepped) : Type 0 where
  pub words : AreSent x.out.send
  pub peers : AreBetween IsPeer x.server.paths

module _ (servers : ℕ) (IsPeer : ℕ → Type 0) (AreSent : List (Peer × Msg) → Type 0) (can : CanBeSent servers IsPeer AreSent) where
  -- ## Leases that are asked back and go back

  -- the numbers go to such peers
  abbrev GoToPeers : List (ℕ × PathNo) → Type 0
  GoToPeers xs = (x : ℕ × PathNo) → In x xs → IsPeer x.0

  recalls_go : (xs : List (ℕ × PathNo)) → GoToPeers xs → AreSent (path_recalls xs)
  recalls_go [] peers = can.none
  recalls_go (x ∷ xs) peers =
      can.both (to_server x.0 (peer.PathRecall x.1) ∷ []) (path_recalls xs)
      (can.one x.0 (peer.PathRecall x.1) (peers x (inl refl)) tt tt) (recalls_go xs (λ y i. peers y (inr i)))

  releases_go : (xs : List (ℕ × PathNo)) → GoToPeers xs → AreSent (path_releases xs)
  releases_go [] peers = can.none
  releases_go (x ∷ xs) peers =
      can.both (to_server x.0 (peer.PathRelease x.1) ∷ []) (path_releases xs)
      (can.one x.0 (peer.PathRelease x.1) (peers x (inl refl)) tt tt) (releases_go xs (λ y i. peers y (inr i)))

  module _ (t : PathTables) (peers : AreBetween IsPeer t) where
    issued_peers : (test : PathLease → Bool) → GoToPeers (recalls test t.issued)
    issued_peers test x i =
        let m = In-map named_to_peer x (filter test t.issued) i in
        subst IsPeer (sym (ap (λ (y : ℕ × PathNo). y.0) m.1.1)) (peers.0 m.0 (In-filter test m.0 t.issued m.1.0))

    held_peers : (asked : Having → Bool) (issued : List PathLease) → GoToPeers (releases asked issued t.held)
    held_peers asked issued x i =
        let m = In-map (λ (h : Having). named_to_peer (lease_of h)) x (filter (goes_back asked issued) t.held) i in
        subst IsPeer (sym (ap (λ (y : ℕ × PathNo). y.0) m.1.1))
        (peers.1 m.0 (In-filter (goes_back asked issued) m.0 t.held m.1.0))

    kept_peers : (asked : Having → Bool) (issued : List PathLease) (h : Having) → In h (held_after asked issued t.held)
        → IsPeer (lease_of h).peer
    kept_peers asked issued h i =
        let m = In-map (asked_back asked) h (filter (λ g. not (goes_back asked issued g)) t.held) i in
        let its : lease_of h ≡ lease_of m.0 = ap lease_of m.1.1 ∙ asked_lease asked m.0 in
        subst (λ (l : PathLease). IsPeer l.peer) (sym its)
        (peers.1 m.0 (In-filter (λ g. not (goes_back asked issued g)) m.0 t.held m.1.0))

  -- ## Every step

  abbrev Goes : Stepped → Type 0
  Goes x = GoBetween IsPeer AreSent x

  either : (b : Bool) (x y : Stepped) → Goes x → Goes y → Goes (cond b x y)
  either true x y p q = p
  either false x y p q = q

  -- where path leases are in the way of a part
  over_go : (o : Option (List ℕ)) (s : Server) → AreBetween IsPeer s.paths → AreSent (recalls_over s o)
  over_go None s peers = can.none
  over_go (Some file) s peers = recalls_go (recalls (goes_over file) s.paths.issued) (issued_peers s.paths peers (goes_over file))

  pub recalls_for_go : (v : Vote) (p : Part) (s : Server) → AreBetween IsPeer s.paths → AreSent (recalls_for v s p)
  recalls_for_go (PathsOut lease) p s peers = over_go p.freeze s peers
  recalls_for_go Yes p s peers = can.none
  recalls_for_go (Ended lease until now) p s peers = can.none
  recalls_for_go (Moved prefix to) p s peers = can.none

  -- the server's map names none but so many servers, and those among them that are another are such peers
  module _ (s : Server) (named : (id : List ℕ) → server_of s.map id < servers)
      (other : (to : ℕ) → to < servers → (to == s.me) ≡ false → IsPeer to) (peers : AreBetween IsPeer s.paths) where
    odd : Goes (strange s)
    odd = record { words = can.none; peers = peers }

    -- a path is asked for

    pub up_goes : (file dir : List ℕ) → AreSent (asks_up file dir s)
    up_goes file dir = at (is_asking file s) (is_mine s dir) refl
      where
        at : (asking mine : Bool) → is_mine s dir ≡ mine
            → AreSent (cond (asking || mine) [] (to_server (server_of s.map dir) (peer.PathAsk file dir) ∷ []))
        at true mine e = can.none
        at false true e = can.none
        at false false e =
            can.one (server_of s.map dir) (peer.PathAsk file dir) (other (server_of s.map dir) (named dir) e) tt tt

    module _ (from : ℕ) (is_peer : IsPeer from) where
      denied : (file : List ℕ) (w : Why) → WhyNames servers w → Goes (denies from file w s)
      denied file w names = record { words = can.one from (peer.PathNo file w) is_peer tt names; peers = peers }

      answered : (file : List ℕ) (a : PathAnswer) → Goes (answers_path from file a s)
      answered file (answer.Wanted top dir) = record {
        words = can.both (to_server from (peer.PathNo file (why.Wanted top)) ∷ []) (asks_up top dir s)
            (can.one from (peer.PathNo file (why.Wanted top)) is_peer tt tt) (up_goes top dir);
        peers = peers;
      }
      answered file (answer.Frozen f txn) = denied file (why.Frozen f txn) tt
      answered file (answer.Path above) =
          let l : PathLease = lease_to from file above s in
          record {
            words = can.one from (peer.PathGrant l.no file l.path) is_peer tt tt;
            peers = (
              λ x i. elim (In-put (λ (y : PathLease). path_before l.no y.no) x l s.paths.issued i) as (λ _. IsPeer x.peer) [
                | inl e ↦ subst (λ (y : PathLease). IsPeer y.peer) (sym e) is_peer
                | inr j ↦ peers.0 x j
              ],
              peers.1,
            );
          }

      kept : (file dir : List ℕ) (o : Option TxnNo) → Goes (unless_kept from file dir o s)
      kept file dir (Some txn) = denied file (why.Frozen file txn) tt
      kept file dir None = answered file (path_here s dir)

      asked : (file dir : List ℕ) → Goes (path_ask_step from file dir s)
      asked file dir =
          either (is_mine s dir) _ _
          (either (has_child s.records dir file) _ _ (kept file dir (frozen_for file s.paths.frozen)) (denied file why.NoChild tt))
          (denied file (moved_why (longest s.map dir)) (why_names servers s.map dir (named dir)))

      -- a path comes

      keeps : (b : Bool) (number : PathNo) (file : List ℕ) (path : List (List ℕ))
          → Goes (keeps_path b from number file path (without_asking file s))
      keeps true number file path =
          let l : PathLease = record { no = number; peer = from; file = file; path = path } in
          record {
            words = can.none;
            peers = (
              peers.0,
              λ h i. elim (In-put (λ (y : Having). path_before number (lease_of y).no) h (Held l) s.paths.held i) as
                  (λ _. IsPeer (lease_of h).peer) [
                    | inl e ↦ subst (λ (y : Having). IsPeer (lease_of y).peer) (sym e) is_peer
                    | inr j ↦ peers.1 h j
                  ],
            );
          }
      keeps false number file path = record { words = can.one from (peer.PathRelease number) is_peer tt tt; peers = peers }

      came : (number : PathNo) (file : List ℕ) (path : List (List ℕ)) → Goes (path_grant_step from number file path s)
      came number file path =
          either (holds number s.paths.held) _ _ odd (keeps (is_same_dir (dir_here s.records file) (last_dir path)) number file path)

    -- a path is denied

    failed : (file : List ℕ) (w : Why) → Goes (fails_path file w s)
    failed file w = record { words = can.none; peers = peers }

    sought : (file : List ℕ) (w : Why) (to : ℕ) (o : Option (List ℕ)) → to < servers → Goes (moved_path file w to o s)
    sought file w to None below = failed file w
    sought file w to (Some dir) below = at (to == s.me) refl
      where
        at : (b : Bool) → (to == s.me) ≡ b
            → Goes (cond b (fails_path file w s) (sends (note.PathSeeks file to) (to_server to (peer.PathAsk file dir) ∷ []) s))
        at true e = failed file w
        at false e = record { words = can.one to (peer.PathAsk file dir) (other to below e) tt tt; peers = peers }

    none : (file : List ℕ) (w : Why) → WhyNames servers w → Goes (path_no_step file w s)
    none file (why.Moved prefix to) below = sought file (why.Moved prefix to) to (dir_here s.records file) below
    none file w names = failed file w

    -- paths go back

    module _ (number : PathNo) where
      abbrev left : Server
      left = record s { paths = after_recalled number s.paths }

      abbrev resting : List (ℕ × PathNo)
      resting = recalls (rests_on_asked (is_of number) s.paths.held) s.paths.issued

      left_peers : AreBetween IsPeer left.paths
      left_peers = (peers.0, kept_peers s.paths peers (is_of number) s.paths.issued)

      first_goes : (to : ℕ) → IsPeer to → (xs : List (ℕ × PathNo)) → GoToPeers xs → Goes (goes_down number (first_down to xs) left)
      first_goes to there [] each = record { words = can.one to (peer.PathRelease number) there tt tt; peers = left_peers }
      first_goes to there (x ∷ xs) each = record { words = recalls_go (x ∷ xs) each; peers = left_peers }

      down_goes : (o : Option Having) → find (is_of number) s.paths.held ≡ o
          → Goes (goes_down number (recalled_as (option_map (λ h. (lease_of h).peer) o) resting) left)
      down_goes None e = record { words = can.none; peers = left_peers }
      down_goes (Some h) e =
          first_goes (lease_of h).peer (peers.1 h (found (is_of number) s.paths.held h e).0) resting
          (issued_peers s.paths peers (rests_on_asked (is_of number) s.paths.held))

      down : Goes (path_recall_step number s)
      down = down_goes (find (is_of number) s.paths.held) refl

    back : (from : ℕ) (number : PathNo) → Goes (path_release_step from number s)
    back from number =
        let issued : List PathLease = without_no number s.paths.issued in
        either (is_out_to from (issued_to number s.paths.issued)) _ _
        (record {
          words = releases_go (releases is_leaving issued s.paths.held) (held_peers s.paths peers is_leaving issued);
          peers = (
            λ l i. peers.0 l (In-filter (λ (y : PathLease). not (has_no number y)) l s.paths.issued i),
            kept_peers s.paths peers is_leaving issued,
          );
        }) odd

    pub message_goes : (from : ℕ) (m : PeerMsg) → IsPeer from → MessageNames servers m → IsPathMessage m → Goes (peer_step from m s)
    message_goes from (peer.PathAsk file dir) is_peer names is = asked from is_peer file dir
    message_goes from (peer.PathGrant number file path) is_peer names is = came from is_peer number file path
    message_goes from (peer.PathNo file w) is_peer names is = none file w names
    message_goes from (peer.PathRecall number) is_peer names is = down number
    message_goes from (peer.PathRelease number) is_peer names is = back from number
    message_goes from m is_peer names is = absurd is

    asks_back_goes : (prefix : List ℕ) (n : ServerNote) → Goes (asks_back_in prefix n s)
    asks_back_goes prefix n =
        let b = give_back s.map s.me prefix s.paths in
        record {
          words = can.both (path_recalls b.recalls) (path_releases b.releases)
              (recalls_go b.recalls (issued_peers s.paths peers (is_asked_in s.map s.me prefix s.paths.held)))
              (releases_go b.releases (held_peers s.paths peers (is_into s.map s.me prefix) s.paths.issued));
          peers = (peers.0, kept_peers s.paths peers (is_into s.map s.me prefix) s.paths.issued);
        }

    pub refused_goes : (why : MoveError) (prefix : List ℕ) (to : ℕ) → Goes (move_at (Some why) prefix to s)
    refused_goes (move.Paths number) prefix to = asks_back_goes prefix (note.Stays (refusal.Paths number))
    refused_goes why prefix to = record { words = can.none; peers = peers }
