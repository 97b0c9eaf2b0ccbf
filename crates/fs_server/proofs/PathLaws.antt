-- What comes of it that a path is asked for, given or denied.
use Rattle.std.proofs.Common.{◌≡◌, ◌∙◌, ℕ, ◌≤◌, ◌==◌, Bool, true, false, not, List, [], ◌∷◌, ◌++◌, refl, ap, sym, cond, inl, inr, length, arith}
use Rattle.std.specs.Prelude.{◌||◌, Option, Some, None}
use Rattle.std.specs.List.{filter, list_any}
use Rattle.std.proofs.lemmas.List.Folds.{list_any-append}
use Rattle.fs_field.specs.declared.path.PathAnswer.{PathAnswer}
use Rattle.fs_field.specs.declared.path.PathAnswer.TheVariants as found
use Rattle.fs_ident.specs.Ident.{same}
use Rattle.fs_ident.specs.In.{In}
use Rattle.fs_ident.specs.declared.actor.PathNo.{PathNo}
use Rattle.fs_ident.specs.declared.actor.TxnNo.{TxnNo}
use Rattle.fs_ident.proofs.Same.{same_self}
use Rattle.fs_ident.proofs.Standing.{In-put_here}
use Rattle.fs_map.specs.Map.{longest, server_of}
use Rattle.fs_msg.specs.declared.msg.Msg.TheVariants as msg
use Rattle.fs_msg.specs.declared.peer_msg.PeerMsg.{PeerMsg}
use Rattle.fs_msg.specs.declared.peer_msg.PeerMsg.TheVariants as peer
use Rattle.fs_msg.specs.declared.server_note.ServerNote.TheVariants as note
use Rattle.fs_path.specs.Leases.{path_before}
use Rattle.fs_path.specs.Tables.{frozen_for, holds}
use Rattle.fs_record.specs.declared.led_end.Why.{Why}
use Rattle.fs_record.specs.declared.led_end.Why.TheVariants as why
use Rattle.fs_server.specs.Follows.{to_server}
use Rattle.fs_server.specs.Laws.{CanBeGiven, IsAskedFirst, IsGivenOut, IsSentOn}
use Rattle.fs_server.specs.Leads.{moved_why}
use Rattle.fs_server.specs.PathSteps.{answers_path, asks_nobody, asks_up, denies, dir_here, fails_path, has_child, is_asking, is_same_dir, keeps_path, last_dir, lease_to}
use Rattle.fs_server.specs.PathSteps.{moved_path, path_ask_step, path_grant_step, path_here, path_no_step, path_number, seeks_path, unless_kept, sends, with_asking, without_asking}
use Rattle.fs_server.specs.Server.{Stepped, is_mine, strange}
use Rattle.fs_server.specs.declared.state.Server.{Server}

-- ## A path that is given out

module _ (from : ℕ) (file dir : List ℕ) (s : Server) (number : PathNo) where
  -- by the answer for the path of the directory
  out_by : (a : PathAnswer) → path_here s dir ≡ a → (answers_path from file a s).out.note ≡ note.PathGrants number → IsGivenOut from file dir number s (answers_path from file a s)
  out_by (found.Wanted top up) known e = absurd (cc e)
  out_by (found.Frozen f txn) known e = absurd (cc e)
  out_by (found.Path above) known e =
      let q : path_number s ≡ number = cc e in
      record {
        above = above;
        lease = lease_to from file above s;
        known = known;
        next = sym q;
        is = ap (λ n. record { no = n; peer = from; file = file; path = above ++ file ∷ [] }) q;
        sent = ap (λ n. to_server from (peer.PathGrant n file (above ++ file ∷ [])) ∷ []) q;
        issued = In-put_here (λ x. path_before (path_number s) x.no) (lease_to from file above s) s.paths.issued;
        rest = refl;
      }

  -- whoever keeps the file
  kept_by : (o : Option TxnNo) → (unless_kept from file dir o s).out.note ≡ note.PathGrants number → (o ≡ None) × IsGivenOut from file dir number s (unless_kept from file dir o s)
  kept_by (Some txn) e = absurd (cc e)
  kept_by None e = (refl, out_by (path_here s dir) refl e)

  -- whether it is a child, of a directory that is here
  child_by : (b : Bool) → (cond b (unless_kept from file dir (frozen_for file s.paths.frozen) s) (denies from file why.NoChild s)).out.note ≡ note.PathGrants number
      → (b ≡ true) × (frozen_for file s.paths.frozen ≡ None) × IsGivenOut from file dir number s (cond b (unless_kept from file dir (frozen_for file s.paths.frozen) s) (denies from file why.NoChild s))
  child_by false e = absurd (cc e)
  child_by true e = let q = kept_by (frozen_for file s.paths.frozen) e in (refl, q.0, q.1)

  mine_by : (b : Bool) → (c : Bool) → (cond b (cond c (unless_kept from file dir (frozen_for file s.paths.frozen) s) (denies from file why.NoChild s)) (denies from file (moved_why (longest s.map dir)) s)).out.note ≡ note.PathGrants number
      → (b ≡ true) × (c ≡ true) × (frozen_for file s.paths.frozen ≡ None)
      × IsGivenOut from file dir number s (cond b (cond c (unless_kept from file dir (frozen_for file s.paths.frozen) s) (denies from file why.NoChild s)) (denies from file (moved_why (longest s.map dir)) s))
  mine_by false c e = absurd (cc e)
  mine_by true c e = let q = child_by c e in (refl, q.0, q.1, q.2)

  pub given_as_known : (path_ask_step from file dir s).out.note ≡ note.PathGrants number → IsGivenOut from file dir number s (path_ask_step from file dir s)
  given_as_known e = (mine_by (is_mine s dir) (has_child s.records dir file) e).3

  pub given_to_child : (path_ask_step from file dir s).out.note ≡ note.PathGrants number → CanBeGiven file dir s
  given_to_child e = let q = mine_by (is_mine s dir) (has_child s.records dir file) e in record { mine = q.0; child = q.1; free = q.2 }

-- ## Questions for a path

-- the same message to a server
pub told_same : (a b : ℕ) (m n : PeerMsg) → to_server a m ≡ to_server b n → m ≡ n
told_same a b m n e = let q : msg.Peer m ≡ msg.Peer n = ap (λ p. p.1) e in cc q

-- a path is denied, or given out: none is asked for
none_asked : (a b : ℕ) (file f up : List ℕ) (w : Why) → In (to_server a (peer.PathAsk f up)) (to_server b (peer.PathNo file w) ∷ []) → ⊥
none_asked a b file f up w (inl e) = absurd (cc (told_same a b (peer.PathAsk f up) (peer.PathNo file w) e))
none_asked a b file f up w (inr h) = h

stands : (file : List ℕ) (s : Server) → is_asking file (with_asking file s) ≡ true
stands file s = by (is_asking file s) refl
  where
    by : (b : Bool) → is_asking file s ≡ b → list_any (λ f. same f file) (cond b s.asking (s.asking ++ file ∷ [])) ≡ true
    by true e = e
    by false e = list_any-append (λ f. same f file) s.asking (file ∷ []) ∙ ap (λ b. b || (same file file || false)) e ∙ ap (λ b. b || false) (same_self file)

nothing_left : (a b : Bool) → (a || b) ≡ false → a ≡ false
nothing_left true b e = absurd (cc e)
nothing_left false b e = refl

-- one that is sent stands, and none did
pub up_first : (a : ℕ) (top dir f up : List ℕ) (s : Server) → In (to_server a (peer.PathAsk f up)) (asks_up top dir s) → IsAskedFirst f s (with_asking top s)
up_first a top dir f up s h = by (asks_nobody top dir s) refl h
  where
    by : (b : Bool) → asks_nobody top dir s ≡ b → In (to_server a (peer.PathAsk f up)) (cond b [] (to_server (server_of s.map dir) (peer.PathAsk top dir) ∷ [])) → IsAskedFirst f s (with_asking top s)
    by true e h = absurd h
    by false e (inr h) = absurd h
    by false e (inl q) =
        let same_file : top ≡ f = cc (told_same a (server_of s.map dir) (peer.PathAsk f up) (peer.PathAsk top dir) q) in
        record { before = ap (λ x. is_asking x s) (sym same_file) ∙ nothing_left (is_asking top s) (is_mine s dir) e; stands = ap (λ x. is_asking x (with_asking top s)) (sym same_file) ∙ stands top s }

module _ (a from : ℕ) (file dir f up : List ℕ) (s : Server) where
  first_by : (x : PathAnswer) → In (to_server a (peer.PathAsk f up)) (answers_path from file x s).out.send → IsAskedFirst f s (answers_path from file x s).server
  first_by (found.Wanted top d) (inl e) = absurd (cc (told_same a from (peer.PathAsk f up) (peer.PathNo file (why.Wanted top)) e))
  first_by (found.Wanted top d) (inr h) = up_first a top d f up s h
  first_by (found.Frozen k txn) h = absurd (none_asked a from file f up (why.Frozen k txn) h)
  first_by (found.Path above) (inl e) = absurd (cc (told_same a from (peer.PathAsk f up) (peer.PathGrant (path_number s) file (above ++ file ∷ [])) e))
  first_by (found.Path above) (inr h) = absurd h

  first_kept : (o : Option TxnNo) → In (to_server a (peer.PathAsk f up)) (unless_kept from file dir o s).out.send → IsAskedFirst f s (unless_kept from file dir o s).server
  first_kept (Some txn) h = absurd (none_asked a from file f up (why.Frozen file txn) h)
  first_kept None h = first_by (path_here s dir) h

  first_in_step : (b c : Bool) → In (to_server a (peer.PathAsk f up)) (cond b (cond c (unless_kept from file dir (frozen_for file s.paths.frozen) s) (denies from file why.NoChild s)) (denies from file (moved_why (longest s.map dir)) s)).out.send
      → IsAskedFirst f s (cond b (cond c (unless_kept from file dir (frozen_for file s.paths.frozen) s) (denies from file why.NoChild s)) (denies from file (moved_why (longest s.map dir)) s)).server
  first_in_step false c h = absurd (none_asked a from file f up (moved_why (longest s.map dir)) h)
  first_in_step true false h = absurd (none_asked a from file f up why.NoChild h)
  first_in_step true true h = first_kept (frozen_for file s.paths.frozen) h

  pub asked_first : In (to_server a (peer.PathAsk f up)) (path_ask_step from file dir s).out.send → IsAskedFirst f s (path_ask_step from file dir s).server
  asked_first h = first_in_step (is_mine s dir) (has_child s.records dir file) h

-- one question at most goes up
pub asked_once : (file dir : List ℕ) (s : Server) → length (asks_up file dir s) ≤ 1
asked_once file dir s = by (asks_nobody file dir s)
  where
    by : (b : Bool) → length (cond b [] (to_server (server_of s.map dir) (peer.PathAsk file dir) ∷ [])) ≤ 1
    by true = omega arith
    by false = omega arith

-- ## Answers

over : (file : List ℕ) (files : List (List ℕ)) → list_any (λ f. same f file) (filter (λ f. not (same f file)) files) ≡ false
over file [] = refl
over file (x ∷ xs) = by (same x file) refl (over file xs)
  where
    by : (b : Bool) → same x file ≡ b → list_any (λ f. same f file) (filter (λ f. not (same f file)) xs) ≡ false
        → list_any (λ f. same f file) (cond (not b) (x ∷ filter (λ f. not (same f file)) xs) (filter (λ f. not (same f file)) xs)) ≡ false
    by true e rest = rest
    by false e rest = ap (λ b. b || list_any (λ f. same f file) (filter (λ f. not (same f file)) xs)) e ∙ rest

-- a path that comes ends the question
pub ended_by_path : (from : ℕ) (number : PathNo) (file : List ℕ) (path : List (List ℕ)) (s : Server) → holds number s.paths.held ≡ false → is_asking file (path_grant_step from number file path s).server ≡ false
ended_by_path from number file path s new =
    ap (λ b. is_asking file (cond b (strange s) (keeps_path (is_same_dir (dir_here s.records file) (last_dir path)) from number file path (without_asking file s))).server) new
    ∙ by (is_same_dir (dir_here s.records file) (last_dir path))
  where
    by : (b : Bool) → is_asking file (keeps_path b from number file path (without_asking file s)).server ≡ false
    by true = over file s.asking
    by false = over file s.asking

-- a question that is sent on is the one that stands, and where none is sent on it ends
record IsAnswered (a : ℕ) (file f up : List ℕ) (s : Server) (after : Stepped) : Type 0 where
  pub on : In (to_server a (peer.PathAsk f up)) after.out.send → IsSentOn f file s after.server
  pub ends : after.out.send ≡ [] → is_asking file after.server ≡ false

module _ (a : ℕ) (file f up : List ℕ) (s : Server) where
  by_fail : (w : Why) → IsAnswered a file f up s (fails_path file w s)
  by_fail w = record { on = λ h. absurd h; ends = λ e. over file s.asking }

  by_server : (w : Why) (to : ℕ) (dir : List ℕ) → IsAnswered a file f up s (seeks_path file w to dir s)
  by_server w to dir = at (to == s.me)
    where
      at : (b : Bool) → IsAnswered a file f up s (cond b (fails_path file w s) (sends (note.PathSeeks file to) (to_server to (peer.PathAsk file dir) ∷ []) s))
      at true = by_fail w
      at false = record { on = sent; ends = λ e. absurd (cc e) }
        where
          sent : In (to_server a (peer.PathAsk f up)) (to_server to (peer.PathAsk file dir) ∷ []) → IsSentOn f file s s
          sent (inl q) = let e : file ≡ f = cc (told_same a to (peer.PathAsk f up) (peer.PathAsk file dir) q) in record { same = sym e; rest = refl }
          sent (inr h) = absurd h

  by_dir : (w : Why) (to : ℕ) (o : Option (List ℕ)) → IsAnswered a file f up s (moved_path file w to o s)
  by_dir w to (Some dir) = by_server w to dir
  by_dir w to None = by_fail w

  answered : (w : Why) → IsAnswered a file f up s (path_no_step file w s)
  answered (why.Moved prefix to) = by_dir (why.Moved prefix to) to (dir_here s.records file)
  answered (why.Wanted x) = by_fail (why.Wanted x)
  answered (why.Frozen x txn) = by_fail (why.Frozen x txn)
  answered (why.PathsOut x) = by_fail (why.PathsOut x)
  answered why.Changed = by_fail why.Changed
  answered why.NoChild = by_fail why.NoChild

  pub sent_on : (w : Why) → In (to_server a (peer.PathAsk f up)) (path_no_step file w s).out.send → IsSentOn f file s (path_no_step file w s).server
  sent_on w h = (answered w).on h

  pub ended_by_answer : (w : Why) → (path_no_step file w s).out.send ≡ [] → is_asking file (path_no_step file w s).server ≡ false
  ended_by_answer w e = (answered w).ends e
