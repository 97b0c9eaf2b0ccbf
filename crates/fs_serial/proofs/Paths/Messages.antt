-- Every path message, and every other kind of step, keeps what is told of path leases; and no path message is strange.
use Rattle.std.proofs.Common.{◌≡◌, ◌==◌, ℕ, Bool, true, false, List, [], ◌∷◌, length, refl, ap, sym, ◌∙◌, cond, arith}
use Rattle.std.specs.Prelude.{Option, Some, None, slice_get}
use Rattle.fs_ident.specs.declared.actor.PathNo.{PathNo}
use Rattle.fs_ident.specs.declared.actor.TxnNo.{TxnNo}
use Rattle.fs_field.specs.declared.path.PathAnswer.{PathAnswer}
use Rattle.fs_field.specs.declared.path.PathAnswer.TheVariants as answer
use Rattle.fs_map.specs.Map.{longest}
use Rattle.fs_msg.specs.declared.peer_msg.PeerMsg.{PeerMsg}
use Rattle.fs_msg.specs.declared.peer_msg.PeerMsg.TheVariants.{PathAsk, PathGrant, PathNo as Denied, PathRecall, PathRelease}
use Rattle.fs_msg.specs.declared.server_note.ServerNote.TheVariants as note
use Rattle.fs_path.specs.Returns.{after_recalled, recalled}
use Rattle.fs_path.specs.Tables.{frozen_for}
use Rattle.fs_path.specs.declared.recalled.Recalled.{Recalled}
use Rattle.fs_path.specs.declared.recalled.Recalled.TheVariants.{Release, Down, Unheld}
use Rattle.fs_record.specs.declared.led_end.Why.{Why}
use Rattle.fs_record.specs.declared.led_end.Why.TheVariants as why
use Rattle.fs_server.specs.Follows.{to_server}
use Rattle.fs_server.specs.Leads.{moved_why}
use Rattle.fs_server.specs.PathSteps.{answers_path, denies, dir_here, fails_path, goes_down, has_child, keeps_path, moved_path, path_ask_step, path_here, path_no_step, sends, unless_kept, without_asking}
use Rattle.fs_server.specs.Server.{Stepped, is_mine}
use Rattle.fs_server.specs.declared.event.ServerEvent.{ServerEvent}
use Rattle.fs_server.specs.declared.event.ServerEvent.TheVariants.{FromPeer}
use Rattle.fs_server.specs.declared.state.Server.{Server}
use Rattle.fs_serial.specs.Cluster.{Cluster, InFlight, IsThere, after_step, in_flight_from, without_arrived}
use Rattle.fs_serial.specs.PathLaws.{IsPathMessage, NoPathIsStrange, after_path}
use Rattle.fs_serial.specs.Paths.{LeavesPaths, has_path}
use Rattle.fs_serial.proofs.Lists.Counted.{how_many, none_passes}
use Rattle.fs_serial.proofs.Paths.Asked.{AsksOfDirectories, ask_kept}
use Rattle.fs_serial.proofs.Paths.AskedBack.{recall_kept}
use Rattle.fs_serial.proofs.Paths.Came.{grant_kept, is_come}
use Rattle.fs_serial.proofs.Paths.CameBack.{is_back, release_kept}
use Rattle.fs_serial.proofs.Paths.Counting.{on_way}
use Rattle.fs_serial.proofs.Paths.Denied.{asks_on, denied_kept}
use Rattle.fs_serial.proofs.Paths.Tokens.{TokensKept, tokens_of}

-- whatever message on paths comes, where only the paths of directories are asked for farther up
pub message_kept : (c : Cluster) (k from : ℕ) (s : Server) (m : PeerMsg) → TokensKept c → slice_get c.servers k ≡ Some s → IsThere k (FromPeer from m) c
    → IsPathMessage m → ((file dir : List ℕ) → m ≡ PathAsk file dir → AsksOfDirectories c s file dir) → TokensKept (after_path k from m s c)
message_kept c k from s (PathAsk file dir) t at there is dirs = ask_kept c k from s file dir t at there (dirs file dir refl)
message_kept c k from s (PathGrant number file path) t at there is dirs = grant_kept c k from s number file path t at there
message_kept c k from s (Denied file w) t at there is dirs = denied_kept c k from s file w t at there
message_kept c k from s (PathRecall number) t at there is dirs = recall_kept c k from s number t at there
message_kept c k from s (PathRelease number) t at there is dirs = release_kept c k from s number t at there
message_kept c k from s m t at there is dirs = absurd is

-- ## None is strange

abbrev IsNoted : Stepped → Type 0
IsNoted x = x.out.note ≡ note.Strange → ⊥

module _ (from : ℕ) (s : Server) (file : List ℕ) where
  answer_noted : (p : PathAnswer) → IsNoted (answers_path from file p s)
  answer_noted (answer.Wanted top above) e = absurd (cc e)
  answer_noted (answer.Frozen g txn) e = absurd (cc e)
  answer_noted (answer.Path path) e = absurd (cc e)

  kept_noted : (dir : List ℕ) (o : Option TxnNo) → IsNoted (unless_kept from file dir o s)
  kept_noted dir (Some txn) e = absurd (cc e)
  kept_noted dir None e = answer_noted (path_here s dir) e

  child_noted : (dir : List ℕ) (b : Bool) → IsNoted (cond b (unless_kept from file dir (frozen_for file s.paths.frozen) s) (denies from file why.NoChild s))
  child_noted dir true e = kept_noted dir (frozen_for file s.paths.frozen) e
  child_noted dir false e = absurd (cc e)

  ask_noted : (dir : List ℕ) → IsNoted (path_ask_step from file dir s)
  ask_noted dir = by (is_mine s dir)
    where
      by : (b : Bool) → IsNoted (cond b
          (cond (has_child s.records dir file) (unless_kept from file dir (frozen_for file s.paths.frozen) s) (denies from file why.NoChild s))
          (denies from file (moved_why (longest s.map dir)) s))
      by true e = child_noted dir (has_child s.records dir file) e
      by false e = absurd (cc e)

  seeks_noted : (w : Why) (to : ℕ) (d : Option (List ℕ)) → IsNoted (moved_path file w to d s)
  seeks_noted w to None e = absurd (cc e)
  seeks_noted w to (Some dir) e = by (to == s.me) e
    where
      by : (b : Bool)
          → IsNoted (cond b (fails_path file w s) (sends (note.PathSeeks file to) (to_server to (PathAsk file dir) ∷ []) s))
      by true q = absurd (cc q)
      by false q = absurd (cc q)

  no_noted : (w : Why) → IsNoted (path_no_step file w s)
  no_noted (why.Moved prefix to) e = seeks_noted (why.Moved prefix to) to (dir_here s.records file) e
  no_noted w e = absurd (cc e)

keeps_noted : (b : Bool) (from : ℕ) (number : PathNo) (file : List ℕ) (path : List (List ℕ)) (s : Server) → IsNoted (keeps_path b from number file path s)
keeps_noted true from number file path s e = absurd (cc e)
keeps_noted false from number file path s e = absurd (cc e)

down_noted : (number : PathNo) (r : Recalled) (s : Server) → IsNoted (goes_down number r s)
down_noted number (Release to) s e = absurd (cc e)
down_noted number (Down leases) s e = absurd (cc e)
down_noted number Unheld s e = absurd (cc e)

pub none_strange : NoPathIsStrange
none_strange c k from s (PathAsk file dir) h at there is e = ask_noted from s file dir e
none_strange c k from s (PathGrant number file path) h at there is e =
    keeps_noted _ from number file path (without_asking file s) (ap (λ (x : Stepped). x.out.note) (sym (is_come c k from s number file path (tokens_of c h) at there)) ∙ e)
none_strange c k from s (Denied file w) h at there is e = no_noted from s file w e
none_strange c k from s (PathRecall number) h at there is e = down_noted number (recalled number s.paths) (record s { paths = after_recalled number s.paths }) e
none_strange c k from s (PathRelease number) h at there is e =
    let n = ap (λ (x : Stepped). x.out.note) (sym (is_back c k from s number (tokens_of c h) at there)) ∙ e in absurd (cc n)
none_strange c k from s m h at there is e = absurd is

-- ## Every other kind of step

pub others_kept : (c : Cluster) (k : ℕ) (e : ServerEvent) (s : Server) (x : Stepped) → TokensKept c → slice_get c.servers k ≡ Some s
    → LeavesPaths k e s x c (after_step k e x c) → TokensKept (after_step k e x c)
others_kept c k e s x t at l = asks_on c k e s x t at (record {
  me = l.me;
  issued = l.issued;
  held = l.held;
  given = l.given;
  journal = l.journal;
  sent = λ f i. (l.sent f i).0;
  brings = λ n.
      let before = how_many (λ (f : InFlight). has_path n f.message) c.in_flight in
      let left = how_many (λ (f : InFlight). has_path n f.message) (without_arrived k e c.in_flight) in
      let same = ap length (l.taken n) in
      let none : on_way n (in_flight_from k x.out.send) ≡ 0 =
      none_passes (λ (f : InFlight). has_path n f.message) (in_flight_from k x.out.send) (λ f i. (l.sent f i).1 n) in
      omega (arith, before, left, same, none);
})
