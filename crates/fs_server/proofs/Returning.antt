-- Path leases that are asked back and go back.
use Rattle.std.proofs.Common.{◌≡◌, ◌∙◌, ℕ, ◌==◌, Bool, true, false, not, ◌&&◌, ◌||◌, List, [], ◌∷◌, refl, ap, sym, subst, cond, inl, inr}
use Rattle.std.specs.Prelude.{Option, Some, None}
use Rattle.std.specs.List.{filter}
use Rattle.fs_ident.specs.In.{In}
use Rattle.fs_ident.specs.declared.actor.PathNo.{PathNo}
use Rattle.fs_ident.specs.declared.actor.Peer.{Peer}
use Rattle.fs_ident.proofs.Standing.{In-append, In-behind, In-filter, In-front, In-map, In-mapped}
use Rattle.fs_field.specs.declared.path.PathAnswer.{PathAnswer}
use Rattle.fs_field.specs.declared.path.PathAnswer.TheVariants as found
use Rattle.fs_ident.specs.declared.actor.TxnNo.{TxnNo}
use Rattle.fs_map.specs.Map.{longest}
use Rattle.fs_msg.specs.declared.msg.Msg.{Msg}
use Rattle.fs_msg.specs.declared.peer_msg.PeerMsg.{PeerMsg}
use Rattle.fs_msg.specs.declared.peer_msg.PeerMsg.TheVariants as peer
use Rattle.fs_msg.specs.declared.refusal.Refusal.TheVariants as refusal
use Rattle.fs_msg.specs.declared.server_note.ServerNote.TheVariants as note
use Rattle.fs_path.specs.Leases.{PathLease, goes_into, named_to_peer}
use Rattle.fs_path.specs.Returns.{after_recalled, give_back, goes_back, is_asked_in, is_into, is_needed, recalled, rests_on_asked}
use Rattle.fs_path.specs.Tables.{frozen_for, holds, issued_to, lease_of}
use Rattle.fs_path.specs.declared.having.Having.{Having}
use Rattle.fs_path.specs.declared.recalled.Recalled.{Recalled}
use Rattle.fs_path.specs.declared.recalled.Recalled.TheVariants.{Release, Down, Unheld}
use Rattle.fs_record.specs.declared.led_end.Why.{Why}
use Rattle.fs_record.specs.declared.led_end.Why.TheVariants as why
use Rattle.fs_server.specs.Follows.{to_server}
use Rattle.fs_server.specs.Leads.{moved_why}
use Rattle.fs_server.specs.Moves.{move_at, move_step, peer_step}
use Rattle.fs_server.specs.PathSteps.{answers_path, asks_back_in, denies, dir_here, fails_path, goes_down, has_child, is_out_to, is_same_dir, keeps_path, last_dir, moved_path, path_ask_step, path_back, path_grant_step, path_here, path_no_step, path_recall_step, path_recalls, path_release_step, path_releases, returns_sent, sends, unless_kept, without_asking}
use Rattle.fs_server.specs.ReturnLaws.{IsAskedBack, IsGivenBack, IsReturn, KeepsFiles, StaysForPaths, is_of_paths}
use Rattle.fs_server.specs.Server.{Stepped, is_mine, strange}
use Rattle.fs_server.specs.declared.state.Server.{Server}

-- ## A move that paths refuse

refused_so : (prefix : List ℕ) (to : ℕ) (number : PathNo) (s : Server) → StaysForPaths prefix to number s
    → move_step prefix to s ≡ asks_back_in prefix (note.Stays (refusal.Paths number)) s
refused_so prefix to number s e = ap (λ o. move_at o prefix to s) e

-- what passes a test and stands in a list stands among those that pass
passes : {X : Type 0} (test : X → Bool) (x : X) (xs : List X) → In x xs → test x ≡ true → In x (filter test xs)
passes test x [] i e = absurd i
passes test x (y ∷ ys) (inl q) e = subst (λ b. In x (cond b (y ∷ filter test ys) (filter test ys))) (sym (ap test (sym q) ∙ e)) (inl q)
passes test x (y ∷ ys) (inr i) e = by (test y) (passes test x ys i e)
  where
    by : (b : Bool) → In x (filter test ys) → In x (cond b (y ∷ filter test ys) (filter test ys))
    by true j = inr j
    by false j = j

-- whoever stands among those that pass does so
passed : {X : Type 0} (test : X → Bool) (x : X) (xs : List X) → In x (filter test xs) → test x ≡ true
passed test x [] i = absurd i
passed test x (y ∷ ys) i = by (test y) refl (passed test x ys) i
  where
    by : (b : Bool) → test y ≡ b → (In x (filter test ys) → test x ≡ true) → In x (cond b (y ∷ filter test ys) (filter test ys)) → test x ≡ true
    by true e rest (inl q) = ap test q ∙ e
    by true e rest (inr j) = rest j
    by false e rest j = rest j

or_first : (a b : Bool) → a ≡ true → (a || b) ≡ true
or_first true b e = refl
or_first false b e = absurd (cc)

and_not : (a b : Bool) → a ≡ true → b ≡ false → (a && not b) ≡ true
and_not true false e f = refl
and_not true true e f = absurd (cc)
and_not false b e f = absurd (cc)

-- the messages for these leases
abbrev recall_to : ℕ × PathNo → Peer × Msg
recall_to x = to_server x.0 (peer.PathRecall x.1)

abbrev release_to : ℕ × PathNo → Peer × Msg
release_to x = to_server x.0 (peer.PathRelease x.1)

-- the lease that was given out is asked back, the one from another server goes back
abbrev is_asked : List ℕ → Server → PathLease → Bool
is_asked prefix s l = is_asked_in s.map s.me prefix s.paths.held l

abbrev is_back : List ℕ → Server → Having → Bool
is_back prefix s h = goes_back (is_into s.map s.me prefix) s.paths.issued h

abbrev told_of : Having → ℕ × PathNo
told_of h = named_to_peer (lease_of h)

module _ (prefix : List ℕ) (to : ℕ) (number : PathNo) (s : Server) (e : StaysForPaths prefix to number s) where
  pub paths_noted : (move_step prefix to s).out.note ≡ note.Stays (refusal.Paths number)
  paths_noted = ap (λ (x : Stepped). x.out.note) (refused_so prefix to number s e)

  sent_so : (move_step prefix to s).out.send ≡ returns_sent (give_back s.map s.me prefix s.paths)
  sent_so = ap (λ (x : Stepped). x.out.send) (refused_so prefix to number s e)

  abbrev asked : List (ℕ × PathNo)
  asked = (give_back s.map s.me prefix s.paths).recalls

  abbrev back : List (ℕ × PathNo)
  back = (give_back s.map s.me prefix s.paths).releases

  pub paths_asked_back : (l : PathLease) → In l s.paths.issued → goes_into s.map s.me prefix l ≡ true → IsAskedBack l (move_step prefix to s).out.send
  paths_asked_back l i over = subst (λ send. IsAskedBack l send) (sym sent_so)
      (In-front (recall_to (named_to_peer l)) (path_recalls asked) (path_releases back)
      (In-mapped recall_to (named_to_peer l) asked
      (In-mapped named_to_peer l (filter (is_asked prefix s) s.paths.issued)
      (passes (is_asked prefix s) l s.paths.issued i
      (or_first (goes_into s.map s.me prefix l) (rests_on_asked (is_into s.map s.me prefix) s.paths.held l) over)))))

  pub paths_given_back : (h : Having) → In h s.paths.held → goes_into s.map s.me prefix (lease_of h) ≡ true → is_needed s.paths.issued h ≡ false
      → IsGivenBack (lease_of h) (move_step prefix to s).out.send
  paths_given_back h i over free = subst (λ send. IsGivenBack (lease_of h) send) (sym sent_so)
      (In-behind (release_to (told_of h)) (path_recalls asked) (path_releases back)
      (In-mapped release_to (told_of h) back
      (In-mapped told_of h (filter (is_back prefix s) s.paths.held)
      (passes (is_back prefix s) h s.paths.held i
      (and_not (goes_into s.map s.me prefix (lease_of h)) (is_needed s.paths.issued h) over free)))))

  pub paths_only : (m : Peer × Msg) → In m (move_step prefix to s).out.send → IsReturn prefix m s
  paths_only m i = elim (In-append m (path_recalls asked) (path_releases back) (subst (λ send. In m send) sent_so i)) [
    | inl j ↦
        let x = In-map recall_to m asked j in
        let l = In-map named_to_peer x.0 (filter (is_asked prefix s) s.paths.issued) x.1.0 in
        inl (l.0, In-filter (is_asked prefix s) l.0 s.paths.issued l.1.0, passed (is_asked prefix s) l.0 s.paths.issued l.1.0, x.1.1 ∙ ap recall_to l.1.1)
    | inr j ↦
        let x = In-map release_to m back j in
        let h = In-map told_of x.0 (filter (is_back prefix s) s.paths.held) x.1.0 in
        inr (h.0, In-filter (is_back prefix s) h.0 s.paths.held h.1.0, passed (is_back prefix s) h.0 s.paths.held h.1.0, x.1.1 ∙ ap release_to h.1.1)
  ]

  pub paths_keep : KeepsFiles s (move_step prefix to s).server
  paths_keep = subst (λ (x : Stepped). KeepsFiles s x.server) (sym (refused_so prefix to number s e)) (refl, refl, refl)

-- ## Messages about paths

-- the step changes no file
abbrev Keeps : Server → Stepped → Type 0
Keeps s x = KeepsFiles s x.server

module _ (from : ℕ) (s : Server) where
  answer_keeps : (file : List ℕ) (a : PathAnswer) → Keeps s (answers_path from file a s)
  answer_keeps file (found.Wanted top dir) = (refl, refl, refl)
  answer_keeps file (found.Frozen f txn) = (refl, refl, refl)
  answer_keeps file (found.Path above) = (refl, refl, refl)

  free_keeps : (file dir : List ℕ) (o : Option TxnNo) → Keeps s (unless_kept from file dir o s)
  free_keeps file dir (Some txn) = (refl, refl, refl)
  free_keeps file dir None = answer_keeps file (path_here s dir)

  child_keeps : (file dir : List ℕ) (b : Bool) → Keeps s (cond b (unless_kept from file dir (frozen_for file s.paths.frozen) s) (denies from file why.NoChild s))
  child_keeps file dir true = free_keeps file dir (frozen_for file s.paths.frozen)
  child_keeps file dir false = (refl, refl, refl)

  ask_keeps : (file dir : List ℕ) → Keeps s (path_ask_step from file dir s)
  ask_keeps file dir = at (is_mine s dir)
    where
      at : (b : Bool) → Keeps s (cond b (cond (has_child s.records dir file) (unless_kept from file dir (frozen_for file s.paths.frozen) s) (denies from file why.NoChild s)) (denies from file (moved_why (longest s.map dir)) s))
      at true = child_keeps file dir (has_child s.records dir file)
      at false = (refl, refl, refl)

  kept_keeps : (number : PathNo) (file : List ℕ) (path : List (List ℕ)) (b : Bool) → Keeps s (keeps_path b from number file path (without_asking file s))
  kept_keeps number file path true = (refl, refl, refl)
  kept_keeps number file path false = (refl, refl, refl)

  grant_keeps : (number : PathNo) (file : List ℕ) (path : List (List ℕ)) → Keeps s (path_grant_step from number file path s)
  grant_keeps number file path = at (holds number s.paths.held)
    where
      at : (b : Bool) → Keeps s (cond b (strange s) (keeps_path (is_same_dir (dir_here s.records file) (last_dir path)) from number file path (without_asking file s)))
      at true = (refl, refl, refl)
      at false = kept_keeps number file path (is_same_dir (dir_here s.records file) (last_dir path))

  moved_keeps : (file prefix : List ℕ) (to : ℕ) (o : Option (List ℕ)) → Keeps s (moved_path file (why.Moved prefix to) to o s)
  moved_keeps file prefix to (Some dir) = at (to == s.me)
    where
      at : (b : Bool) → Keeps s (cond b (fails_path file (why.Moved prefix to) s) (sends (note.PathSeeks file to) (to_server to (peer.PathAsk file dir) ∷ []) s))
      at true = (refl, refl, refl)
      at false = (refl, refl, refl)
  moved_keeps file prefix to None = (refl, refl, refl)

  no_keeps : (file : List ℕ) (w : Why) → Keeps s (path_no_step file w s)
  no_keeps file (why.Moved prefix to) = moved_keeps file prefix to (dir_here s.records file)
  no_keeps file w = (refl, refl, refl)

  down_keeps : (number : PathNo) (r : Recalled) (t : Server) → KeepsFiles s t → Keeps s (goes_down number r t)
  down_keeps number (Release to) t k = k
  down_keeps number (Down leases) t k = k
  down_keeps number Unheld t k = k

  recall_keeps : (number : PathNo) → Keeps s (path_recall_step number s)
  recall_keeps number = down_keeps number (recalled number s.paths) (record s { paths = after_recalled number s.paths }) (refl, refl, refl)

  release_keeps : (number : PathNo) → Keeps s (path_release_step from number s)
  release_keeps number = at (is_out_to from (issued_to number s.paths.issued))
    where
      at : (b : Bool) → Keeps s (cond b (path_back number s) (strange s))
      at true = (refl, refl, refl)
      at false = (refl, refl, refl)

-- of a message about path leases no file comes to another value
pub message_keeps : (from : ℕ) (m : PeerMsg) (s : Server) → is_of_paths m ≡ true → KeepsFiles s (peer_step from m s).server
message_keeps from (peer.PathAsk file dir) s e = ask_keeps from s file dir
message_keeps from (peer.PathGrant number file path) s e = grant_keeps from s number file path
message_keeps from (peer.PathNo file w) s e = no_keeps from s file w
message_keeps from (peer.PathRecall number) s e = recall_keeps from s number
message_keeps from (peer.PathRelease number) s e = release_keeps from s number
message_keeps from m s e = absurd (cc)
