-- A server that takes a message of path leases, or hands nothing over since paths go over it or for another cause, is quiet: it changes
-- what it has of paths alone, and tells other servers of paths alone.
use Rattle.std.proofs.Common.{◌≡◌, ℕ, ◌==◌, Bool, true, false, List, [], ◌∷◌, ◌++◌, cond, refl, sym, ap, subst, inl, inr}
use Rattle.std.specs.Prelude.{Option, Some, None, option_map}
use Rattle.std.specs.List.{filter_map}
use Rattle.fs_ident.specs.In.{In}
use Rattle.fs_ident.specs.declared.actor.PathNo.{PathNo}
use Rattle.fs_ident.specs.declared.actor.Peer.{Peer}
use Rattle.fs_ident.specs.declared.actor.Peer.TheVariants.{Client as OfSession, Server as OfServer}
use Rattle.fs_ident.specs.declared.actor.Session.{Session}
use Rattle.fs_ident.specs.declared.actor.TxnNo.{TxnNo}
use Rattle.fs_field.specs.declared.path.PathAnswer.{PathAnswer}
use Rattle.fs_field.specs.declared.path.PathAnswer.TheVariants as found
use Rattle.fs_map.specs.Map.{longest, server_of}
use Rattle.fs_msg.specs.declared.msg.Msg.{Msg}
use Rattle.fs_msg.specs.declared.msg.Msg.TheVariants as msg
use Rattle.fs_msg.specs.declared.peer_msg.PeerMsg.{PeerMsg}
use Rattle.fs_msg.specs.declared.peer_msg.PeerMsg.TheVariants as peer
use Rattle.fs_msg.specs.declared.refusal.Refusal.TheVariants as refusal
use Rattle.fs_msg.specs.declared.server_note.ServerNote.{ServerNote}
use Rattle.fs_msg.specs.declared.server_note.ServerNote.TheVariants as note
use Rattle.fs_parcel.specs.Parcel.{move_refusal}
use Rattle.fs_parcel.specs.declared.error.MoveError.{MoveError}
use Rattle.fs_parcel.specs.declared.error.MoveError.TheVariants as move
use Rattle.fs_path.specs.Returns.{after_give_back, after_recalled, after_released, give_back, recalled, releases}
use Rattle.fs_path.specs.Returns.{without_no}
use Rattle.fs_path.specs.Tables.{PathTables, first_in, frozen_for, holds, is_leaving, issued_to}
use Rattle.fs_path.specs.declared.recalled.Recalled.{Recalled}
use Rattle.fs_path.specs.declared.recalled.Recalled.TheVariants.{Release, Down, Unheld}
use Rattle.fs_record.specs.declared.led_end.Why.{Why}
use Rattle.fs_record.specs.declared.led_end.Why.TheVariants as why
use Rattle.fs_server.specs.Follows.{to_server}
use Rattle.fs_server.specs.Leads.{moved_why}
use Rattle.fs_server.specs.Moves.{move_at, peer_step, refusal_of}
use Rattle.fs_server.specs.PathSteps.{answers_path, asks_back_in, asks_nobody, asks_up, denies, dir_here, fails_path, gives_path, goes_down, has_child}
use Rattle.fs_server.specs.PathSteps.{is_out_to, is_same_dir, keeps_path, last_dir, moved_path, path_ask_step}
use Rattle.fs_server.specs.PathSteps.{path_grant_step, path_here, path_no_step, path_recalls, path_release_step}
use Rattle.fs_server.specs.PathSteps.{path_releases, sends, unless_kept, with_asking, without_asking}
use Rattle.fs_server.specs.Server.{Stepped, is_mine, strange}
use Rattle.fs_server.specs.declared.state.Server.{Server}
use Rattle.fs_serial.specs.Cluster.{InFlight, in_flight_from, parcel_in, parcels_of}
use Rattle.fs_serial.specs.PathLaws.{IsPathMessage}
use Rattle.fs_serial.specs.Words.{telling_of, told_in, told_with, word_in}
use Rattle.fs_serial.specs.World.{Ends}
use Rattle.fs_serial.specs.World as world

-- ## What is noted and sent

-- it is noted of paths, that what was to go stays, or that what came is strange
abbrev pub IsPathNote : ServerNote → Type 0
IsPathNote (note.PathDenies w) = Unit {0}
IsPathNote (note.PathGrants number) = Unit {0}
IsPathNote (note.PathHolds number) = Unit {0}
IsPathNote (note.PathDrops number) = Unit {0}
IsPathNote (note.PathFails w) = Unit {0}
IsPathNote (note.PathSeeks file to) = Unit {0}
IsPathNote (note.PathFrees number) = Unit {0}
IsPathNote (note.PathDown number count) = Unit {0}
IsPathNote note.PathNone = Unit {0}
IsPathNote (note.PathBack number) = Unit {0}
IsPathNote (note.Stays why) = Unit {0}
IsPathNote note.Strange = Unit {0}
IsPathNote n = ⊥

-- it goes to a server, and is a message of path leases
abbrev pub IsPathSend : Peer × Msg → Type 0
IsPathSend (OfServer to, msg.Peer m) = IsPathMessage m
IsPathSend x = ⊥

abbrev pub ArePathSends : List (Peer × Msg) → Type 0
ArePathSends [] = Unit {0}
ArePathSends (x ∷ rest) = IsPathSend x × ArePathSends rest

pub recalls_sent : (leases : List (ℕ × PathNo)) → ArePathSends (path_recalls leases)
recalls_sent [] = tt
recalls_sent (x ∷ rest) = (tt, recalls_sent rest)

releases_sent : (leases : List (ℕ × PathNo)) → ArePathSends (path_releases leases)
releases_sent [] = tt
releases_sent (x ∷ rest) = (tt, releases_sent rest)

both_sent : (a b : List (Peer × Msg)) → ArePathSends a → ArePathSends b → ArePathSends (a ++ b)
both_sent [] b p q = q
both_sent (x ∷ rest) b p q = (p.0, both_sent rest b p.1 q)

pub up_sent : (file dir : List ℕ) (s : Server) → ArePathSends (asks_up file dir s)
up_sent file dir s = elim (asks_nobody file dir s) as
    (λ b. ArePathSends (cond b [] (to_server (server_of s.map dir) (peer.PathAsk file dir) ∷ []))) [
      | true ↦ tt
      | false ↦ (tt, tt)
    ]

-- ## Every such step

-- what the server has of paths is this then
abbrev pub path_stepped : ServerNote → List (Peer × Msg) → PathTables → List (List ℕ) → ℕ → Server → Stepped
path_stepped n ms paths asking given s = sends n ms (record s { paths = paths; asking = asking; paths_given = given })

module _ (P : Stepped → Type 0) (s : Server)
    (each : (n : ServerNote) (ms : List (Peer × Msg)) (paths : PathTables) (asking : List (List ℕ)) (given : ℕ) → IsPathNote n
    → ArePathSends ms → P (path_stepped n ms paths asking given s)) where
  either : (b : Bool) (x y : Stepped) → P x → P y → P (cond b x y)
  either true x y p q = p
  either false x y p q = q

  odd : P (strange s)
  odd = each note.Strange [] s.paths s.asking s.paths_given tt tt

  -- a path is asked for

  denied : (from : ℕ) (file : List ℕ) (w : Why) → P (denies from file w s)
  denied from file w = each (note.PathDenies w) (to_server from (peer.PathNo file w) ∷ []) s.paths s.asking s.paths_given tt (tt, tt)

  answered : (from : ℕ) (file : List ℕ) (a : PathAnswer) → P (answers_path from file a s)
  answered from file (found.Wanted top dir) =
      each (note.PathDenies (why.Wanted top)) (to_server from (peer.PathNo file (why.Wanted top)) ∷ asks_up top dir s) s.paths
      (with_asking top s).asking s.paths_given tt (tt, up_sent top dir s)
  answered from file (found.Frozen f txn) = denied from file (why.Frozen f txn)
  answered from file (found.Path above) =
      let x : Stepped = gives_path from file above s in each x.out.note x.out.send x.server.paths s.asking x.server.paths_given tt (tt, tt)

  kept : (from : ℕ) (file dir : List ℕ) (o : Option TxnNo) → P (unless_kept from file dir o s)
  kept from file dir (Some txn) = denied from file (why.Frozen file txn)
  kept from file dir None = answered from file (path_here s dir)

  asked : (from : ℕ) (file dir : List ℕ) → P (path_ask_step from file dir s)
  asked from file dir =
      either (is_mine s dir) _ _
      (either (has_child s.records dir file) _ _ (kept from file dir (frozen_for file s.paths.frozen)) (denied from file why.NoChild))
      (denied from file (moved_why (longest s.map dir)))

  -- a path comes, or is denied

  keeps : (b : Bool) (from : ℕ) (number : PathNo) (file : List ℕ) (path : List (List ℕ))
      → P (keeps_path b from number file path (without_asking file s))
  keeps true from number file path =
      let x : Stepped = keeps_path true from number file path (without_asking file s) in
      each x.out.note x.out.send x.server.paths x.server.asking s.paths_given tt tt
  keeps false from number file path =
      let x : Stepped = keeps_path false from number file path (without_asking file s) in
      each x.out.note x.out.send s.paths x.server.asking s.paths_given tt (tt, tt)

  came : (from : ℕ) (number : PathNo) (file : List ℕ) (path : List (List ℕ)) → P (path_grant_step from number file path s)
  came from number file path =
      either (holds number s.paths.held) _ _ odd (keeps (is_same_dir (dir_here s.records file) (last_dir path)) from number file path)

  failed : (file : List ℕ) (w : Why) → P (fails_path file w s)
  failed file w = each (note.PathFails w) [] s.paths (without_asking file s).asking s.paths_given tt tt

  sought : (file : List ℕ) (w : Why) (to : ℕ) (o : Option (List ℕ)) → P (moved_path file w to o s)
  sought file w to None = failed file w
  sought file w to (Some dir) =
      either (to == s.me) _ _ (failed file w)
      (each (note.PathSeeks file to) (to_server to (peer.PathAsk file dir) ∷ []) s.paths s.asking s.paths_given tt (tt, tt))

  none : (file : List ℕ) (w : Why) → P (path_no_step file w s)
  none file (why.Moved prefix to) = sought file (why.Moved prefix to) to (dir_here s.records file)
  none file w = failed file w

  -- paths go back

  down : (number : PathNo) (r : Recalled) → P (goes_down number r (record s { paths = after_recalled number s.paths }))
  down number (Release to) =
      each (note.PathFrees number) (to_server to (peer.PathRelease number) ∷ []) (after_recalled number s.paths) s.asking s.paths_given
      tt (tt, tt)
  down number (Down leases) =
      let x : Stepped = goes_down number (Down leases) s in
      each x.out.note (path_recalls leases) (after_recalled number s.paths) s.asking s.paths_given tt (recalls_sent leases)
  down number Unheld = each note.PathNone [] (after_recalled number s.paths) s.asking s.paths_given tt tt

  back : (from : ℕ) (number : PathNo) → P (path_release_step from number s)
  back from number =
      let leases = releases is_leaving (without_no number s.paths.issued) s.paths.held in
      either (is_out_to from (issued_to number s.paths.issued)) _ _
      (each (note.PathBack number) (path_releases leases) (after_released number s.paths) s.asking s.paths_given tt (releases_sent leases))
      odd

  pub each_message : (from : ℕ) (m : PeerMsg) → IsPathMessage m → P (peer_step from m s)
  each_message from (peer.PathAsk file dir) is = asked from file dir
  each_message from (peer.PathGrant number file path) is = came from number file path
  each_message from (peer.PathNo file w) is = none file w
  each_message from (peer.PathRecall number) is = down number (recalled number s.paths)
  each_message from (peer.PathRelease number) is = back from number
  each_message from m is = absurd is

  asked_back : (prefix : List ℕ) (number : PathNo) → P (asks_back_in prefix (note.Stays (refusal.Paths number)) s)
  asked_back prefix number =
      let b = give_back s.map s.me prefix s.paths in
      each (note.Stays (refusal.Paths number)) (path_recalls b.recalls ++ path_releases b.releases)
      (after_give_back s.map s.me prefix s.paths) s.asking s.paths_given tt
      (both_sent (path_recalls b.recalls) (path_releases b.releases) (recalls_sent b.recalls) (releases_sent b.releases))

  pub refused : (why : MoveError) (prefix : List ℕ) (to : ℕ) → P (move_at (Some why) prefix to s)
  refused (move.Paths number) prefix to = asked_back prefix number
  refused why prefix to = each (note.Stays (refusal_of why)) [] s.paths s.asking s.paths_given tt tt

-- why what is below the prefix does not go to that server, if it does not
abbrev pub refusal_here : List ℕ → ℕ → Server → Option MoveError
refusal_here prefix to s = move_refusal s.records s.rows s.map s.me prefix to (first_in s.map s.me prefix s.paths)

-- ## What is sent

pub sent_path : (ms : List (Peer × Msg)) → ArePathSends ms → (x : Peer × Msg) → In x ms → IsPathSend x
sent_path [] are x i = absurd i
sent_path (y ∷ rest) are x (inl e) = subst IsPathSend (sym e) are.0
sent_path (y ∷ rest) are x (inr i) = sent_path rest are.1 x i

-- no session is told anything
pub none_told : (ms : List (Peer × Msg)) → ArePathSends ms → (ends : Session → Ends) → world.with_sent ms ends ≡ ends
none_told [] are ends = refl
none_told ((OfServer to, msg.Peer m) ∷ rest) are ends = none_told rest are.1 ends
none_told ((OfServer to, msg.Answer a) ∷ rest) are ends = absurd are.0
none_told ((OfServer to, msg.Client a) ∷ rest) are ends = absurd are.0
none_told ((OfSession to, m) ∷ rest) are ends = absurd are.0

-- what messages of path leases do not bring is on its way in none of them
pub none_brought : {Y : Type 0} (k : ℕ) (brought : InFlight → Option Y) → ((f : InFlight) → IsPathMessage f.message → brought f ≡ None)
    → (ms : List (Peer × Msg)) → ArePathSends ms → filter_map brought (in_flight_from k ms) ≡ []
none_brought k brought off [] are = refl
none_brought k brought off ((OfServer to, msg.Peer m) ∷ rest) are =
    rw (off (record { from = k; to = to; message = m }) are.0) (none_brought k brought off rest are.1)
none_brought k brought off ((OfServer to, msg.Answer a) ∷ rest) are = absurd are.0
none_brought k brought off ((OfServer to, msg.Client a) ∷ rest) are = absurd are.0
none_brought k brought off ((OfSession to, m) ∷ rest) are = absurd are.0

pub no_parcel : (m : PeerMsg) → IsPathMessage m → parcel_in m ≡ None
no_parcel (peer.Parcel p) is = absurd is
no_parcel m is = refl

pub no_word : (m : PeerMsg) → IsPathMessage m → word_in m ≡ None
no_word (peer.Prepare m) is = absurd is
no_word (peer.Vote m) is = absurd is
no_word (peer.Decide m) is = absurd is
no_word (peer.Done m) is = absurd is
no_word m is = refl

-- no parcel
pub none_handed : (k : ℕ) (ms : List (Peer × Msg)) → ArePathSends ms → parcels_of (in_flight_from k ms) ≡ []
none_handed k ms are = none_brought k (λ (f : InFlight). parcel_in f.message) (λ f is. no_parcel f.message is) ms are

-- and no word of a transaction
pub none_worded : (k : ℕ) (ms : List (Peer × Msg)) → ArePathSends ms → telling_of (in_flight_from k ms) ≡ []
none_worded k ms are = none_brought k told_in (λ f is. ap (option_map (told_with f.from f.to)) (no_word f.message is)) ms are
