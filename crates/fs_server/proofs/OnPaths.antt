-- What is decided by the path of the directory into which another one comes.
use Rattle.std.proofs.Common.{◌≡◌, ◌==◌, ◌&&◌, ℕ, Bool, true, false, List, [], ◌∷◌, refl, ap, ap₂, sym, ◌∙◌, subst, cond, inl, inr}
use Rattle.std.specs.Prelude.{Option, Some, None, is_some, slice_get}
use Rattle.std.specs.FinMap.{get}
use Rattle.fs_ident.specs.In.{In}
use Rattle.fs_ident.specs.declared.actor.Peer.{Peer}
use Rattle.fs_ident.specs.declared.actor.Session.{Session}
use Rattle.fs_field.specs.declared.path.PathAnswer.{PathAnswer}
use Rattle.fs_field.specs.declared.path.PathAnswer.TheVariants.{Path, Wanted, Frozen}
use Rattle.fs_field.specs.declared.used.Part.{Part}
use Rattle.fs_field.specs.declared.vote.Vote.{Vote}
use Rattle.fs_field.specs.declared.vote.Vote.TheVariants as vote
use Rattle.fs_ident.specs.declared.actor.TxnNo.{TxnNo}
use Rattle.fs_map.specs.Map.{server_of}
use Rattle.fs_model.specs.Asking.{home_of}
use Rattle.fs_model.specs.declared.op.Op.{Op}
use Rattle.fs_msg.specs.declared.item.Item.{Item}
use Rattle.fs_msg.specs.declared.lead.Lead.{Lead}
use Rattle.fs_msg.specs.declared.msg.Msg.{Msg}
use Rattle.fs_msg.specs.declared.server_note.ServerNote.{ServerNote}
use Rattle.fs_msg.specs.declared.server_note.ServerNote.TheVariants as note
use Rattle.fs_msg.specs.declared.voted.Voted.{Voted}
use Rattle.fs_record.specs.declared.led_end.LedEnd.{LedEnd}
use Rattle.fs_record.specs.declared.led_end.Why.TheVariants as why
use Rattle.fs_txn.specs.Deciding.{agreed, by_files, by_path, commit, decision, end_of_place, first_end, has_file, needs_path, or_else}
use Rattle.fs_txn.specs.Deciding.{reply_of, unless_ended}
use Rattle.fs_txn.specs.Leading.{leading_of}
use Rattle.fs_txn.specs.Votes.{Votes, awaits, is_full}
use Rattle.fs_txn.specs.declared.leader.Leader.{Leader}
use Rattle.fs_txn.specs.declared.leading.Leading.{Leading}
use Rattle.fs_txn.specs.declared.mode.Mode2.{Mode2}
use Rattle.fs_txn.specs.declared.mode.Mode2.TheVariants.{Plain, Freeze, Check}
use Rattle.fs_server.specs.Begins.{Round, begins, leader_with, round_of, txn_of}
use Rattle.fs_server.specs.Concludes.{admitted_of, concludes, end_note, end_of_decision, goes_on, path_for, waits}
use Rattle.fs_server.specs.Counts.{after_own_vote, asked_at, comes_home, counts, counts_own, seeks, sent_on, vote_of, vote_step}
use Rattle.fs_server.specs.Counts.{voted, with_vote}
use Rattle.fs_server.specs.Follows.{recalls_for, vote_here}
use Rattle.fs_server.specs.LeadingLaws.{AreYes, IsAdmittedBy, IsKnown, IsOnPath, StandsOnPath, cycle, renamed}
use Rattle.fs_server.specs.PathsHere.{path_here}
use Rattle.fs_server.specs.Server.{is_mine, strange}
use Rattle.fs_server.specs.declared.state.Server.{Server}

-- ## What is admitted

-- by whether the file is on the path
admitted_by_files : (l : Leader) (o : Op) (s : Server) (files : List (List ℕ)) (mode : Mode2) (b : Bool) (x : Item)
    → is_some (get s.records (home_of o)) ≡ true → path_here s (home_of o) ≡ Path files → has_file files l.file ≡ b
    → needs_path mode o ≡ true
    → In x (admitted_of (by_files l mode b) l) → IsAdmittedBy mode o l.file s x.reply
admitted_by_files l o s files Plain b x h k f n i = absurd (cc n)
admitted_by_files l o s files Check true x h k f n (inl e) = subst (IsAdmittedBy Check o l.file s) (sym (ap (λ (y : Item). y.reply) e))
    (cycle refl (record { files = files; known = record { here = h; known = k }; has = f }))
admitted_by_files l o s files Check true x h k f n (inr i) = absurd i
admitted_by_files l o s files Check false x h k f n i = absurd i
admitted_by_files l o s files Freeze true x h k f n i = absurd i
admitted_by_files l o s files Freeze false x h k f n (inl e) = subst (IsAdmittedBy Freeze o l.file s) (sym (ap (λ (y : Item). y.reply) e))
    (renamed refl (record { files = files; known = record { here = h; known = k }; has = f }))
admitted_by_files l o s files Freeze false x h k f n (inr i) = absurd i

abbrev IsLedBy : Leader → Server → Item → Type 0
IsLedBy l s x = IsAdmittedBy l.mode l.op l.file s x.reply

-- by the path
module _ (l : Leader) (s : Server) (x : Item) (n : needs_path l.mode l.op ≡ true) where
  admitted_by_path : is_some (get s.records (home_of l.op)) ≡ true → (p : PathAnswer) → path_here s (home_of l.op) ≡ p
      → In x (admitted_of (by_path l (Some p)) l) → IsLedBy l s x
  admitted_by_path h (Path files) k i = admitted_by_files l l.op s files l.mode (has_file files l.file) x h k refl n i
  admitted_by_path h (Wanted top dir) k i = absurd i
  admitted_by_path h (Frozen file txn) k i = absurd i

  admitted_there : (a b : Bool) → needs_path l.mode l.op ≡ a → is_some (get s.records (home_of l.op)) ≡ b
      → In x (admitted_of (by_path l (cond (a && b) (Some (path_here s (home_of l.op))) None)) l) → IsLedBy l s x
  admitted_there false b m h i = absurd (cc (sym n ∙ m))
  admitted_there true false m h i = absurd i
  admitted_there true true m h i = admitted_by_path h (path_here s (home_of l.op)) refl i

  admitted_agreed : In x (admitted_of (agreed l (path_for l.mode l.op s)) l) → IsLedBy l s x
  admitted_agreed i = admitted_there (needs_path l.mode l.op) (is_some (get s.records (home_of l.op))) refl refl
      (subst (λ (b : Bool). In x (admitted_of (cond b (by_path l (path_for l.mode l.op s)) (commit l (reply_of l.op))) l)) n i)

  admitted_decided : In x (admitted_of (decision l (path_for l.mode l.op s)) l) → IsLedBy l s x
  admitted_decided = at (first_end l.votes)
    where
      at : (o : Option LedEnd) → In x (admitted_of (unless_ended o (agreed l (path_for l.mode l.op s))) l) → IsLedBy l s x
      at None i = admitted_agreed i
      at (Some e) i = absurd i

-- where it goes on
goes_by_path : (n : ServerNote) (l : Leading) (sent : List (Peer × Msg)) (s t : Server) (x : Item)
    → needs_path l.leader.mode l.leader.op ≡ true → In x (goes_on n l (path_for l.leader.mode l.leader.op s) sent t).out.admitted → IsLedBy l.leader s x
goes_by_path n l sent s t x needs = at (is_full l.leader.votes)
  where
    at : (b : Bool) → In x (cond b (concludes l (path_for l.leader.mode l.leader.op s) sent t) (waits n l sent t)).out.admitted
        → IsLedBy l.leader s x
    at true i = admitted_decided l.leader s x needs i
    at false i = absurd i

pub begun_by_path : (mode : Mode2) (by : Session) (m : Lead) (s : Server) (x : Item) → needs_path mode m.op ≡ true
    → In x (begins mode by m s).out.admitted → IsAdmittedBy mode m.op m.file s x.reply
begun_by_path mode by m s x needs i =
    let r : Round = round_of mode by m s in
    goes_by_path (note.Prepares (txn_of s)) (record { leader = leader_with mode (txn_of s) by m r.votes; at = r.at }) r.send s r.server x
    needs i

pub voted_by_path : (m : Voted) (l : Leading) (s : Server) (x : Item) → leading_of m.txn s.leading ≡ Some l
    → needs_path l.leader.mode l.leader.op ≡ true → In x (vote_step m s).out.admitted
    → IsLedBy l.leader s x
voted_by_path m l s x f needs i = at (subst (λ (o : Option Leading). In x (vote_of o m s).out.admitted) f i)
  where
    counted : (v : Vote) → In x (counts m.number v l s).out.admitted → IsLedBy l.leader s x
    counted v i = goes_by_path (note.Waits l.leader.txn) (with_vote m.number v l) [] s s x needs i

    home : (p : Part) (b : Bool) → In x (cond b (counts_own m.number p (vote_here s l.leader.session p) l s)
        (seeks m.number (server_of s.map p.file) p l s)).out.admitted → IsLedBy l.leader s x
    home p true i = let v : Vote = vote_here s l.leader.session p in goes_by_path (note.Waits l.leader.txn)
        (with_vote m.number v (asked_at m.number s.me l)) (recalls_for v s p) s (after_own_vote l.leader.txn p v s) x needs i
    home p false i = absurd i

    sent : (to : ℕ) (o : Option Part) → In x (sent_on m.number to o l s).out.admitted → IsLedBy l.leader s x
    sent to None i = absurd i
    sent to (Some p) i = by (to == s.me) i
      where
        by : (b : Bool) → In x (cond b (comes_home m.number p l s) (seeks m.number to p l s)).out.admitted → IsLedBy l.leader s x
        by true i = home p (is_mine s p.file) i
        by false i = absurd i

    told : (v : Vote) → In x (voted m.number v l s).out.admitted → IsLedBy l.leader s x
    told vote.Yes i = counted vote.Yes i
    told (vote.Ended lease until now) i = counted (vote.Ended lease until now) i
    told (vote.Moved prefix to) i = sent to (slice_get l.leader.parts m.number) i
    told (vote.PathsOut lease) i = counted (vote.PathsOut lease) i

    at : In x (vote_of (Some l) m s).out.admitted → IsLedBy l.leader s x
    at i = by (awaits l.leader m.number) i
      where
        by : (b : Bool) → In x (cond b (voted m.number m.vote l s) (strange s)).out.admitted → IsLedBy l.leader s x
        by true i = told m.vote i
        by false i = absurd i

-- ## What is not decided

none_ended : (votes : Votes) → AreYes votes → first_end votes ≡ None
none_ended [] y = refl
none_ended (v ∷ vs) y =
    ap (λ (v : Option Vote). or_else (end_of_place v) (first_end vs)) (y v (inl refl)) ∙ none_ended vs (λ x i. y x (inr i))

module _ (l : Leading) (sent : List (Peer × Msg)) (s t : Server) (on : StandsOnPath l.leader) where
  abbrev note_by : Option PathAnswer → ServerNote
  note_by p = end_note l.leader.txn (end_of_decision (by_path l.leader p))

  -- by this path, or none
  noted_by : (p : Option PathAnswer) → path_for l.leader.mode l.leader.op s ≡ p
      → (concludes l (path_for l.leader.mode l.leader.op s) sent t).out.note ≡ note_by p
  noted_by p h =
      ap (λ (o : Option LedEnd). end_note l.leader.txn (end_of_decision (unless_ended o
      (agreed l.leader (path_for l.leader.mode l.leader.op s)))))
      (none_ended l.leader.votes on.yes)
      ∙ ap (λ (b : Bool). end_note l.leader.txn (end_of_decision (cond b (by_path l.leader (path_for l.leader.mode l.leader.op s))
      (commit l.leader (reply_of l.leader.op))))) on.needs
      ∙ ap note_by h

  taken : (p : PathAnswer) → IsKnown p l.leader.op s → path_for l.leader.mode l.leader.op s ≡ Some p
  taken p k =
      ap₂ (λ a b. cond (a && b) (Some (path_here s (home_of l.leader.op))) None) on.needs k.here ∙ ap Some k.known

  pub wanted_again : (top dir : List ℕ) → IsKnown (Wanted top dir) l.leader.op s
      → (concludes l (path_for l.leader.mode l.leader.op s) sent t).out.note ≡ note.Aborts l.leader.txn (why.Wanted top)
  wanted_again top dir k = noted_by (Some (Wanted top dir)) (taken (Wanted top dir) k)

  pub frozen_again : (file : List ℕ) (txn : TxnNo) → IsKnown (Frozen file txn) l.leader.op s
      → (concludes l (path_for l.leader.mode l.leader.op s) sent t).out.note ≡ note.Aborts l.leader.txn (why.Frozen file txn)
  frozen_again file txn k = noted_by (Some (Frozen file txn)) (taken (Frozen file txn) k)

  pub gone_again : is_some (get s.records (home_of l.leader.op)) ≡ false
      → (concludes l (path_for l.leader.mode l.leader.op s) sent t).out.note ≡ note.Aborts l.leader.txn why.Changed
  gone_again h = noted_by None (ap₂ (λ a b. cond (a && b) (Some (path_here s (home_of l.leader.op))) None) on.needs h)

  -- by its mode, and whether the file is there
  noted_so : (b : Bool) → IsOnPath b l.leader.op l.leader.file s → (mode : Mode2) → l.leader.mode ≡ mode
      → (concludes l (path_for l.leader.mode l.leader.op s) sent t).out.note
      ≡ end_note l.leader.txn (end_of_decision (by_files l.leader mode b))
  noted_so b k mode e =
      noted_by (Some (Path k.files)) (taken (Path k.files) k.known)
      ∙ ap₂ (λ (mode : Mode2) (b : Bool). end_note l.leader.txn (end_of_decision (by_files l.leader mode b))) e k.has

  pub came_again : l.leader.mode ≡ Freeze → IsOnPath true l.leader.op l.leader.file s
      → (concludes l (path_for l.leader.mode l.leader.op s) sent t).out.note ≡ note.Aborts l.leader.txn why.Changed
  came_again e k = noted_so true k Freeze e

  pub left_again : l.leader.mode ≡ Check → IsOnPath false l.leader.op l.leader.file s
      → (concludes l (path_for l.leader.mode l.leader.op s) sent t).out.note ≡ note.Aborts l.leader.txn why.Changed
  left_again e k = noted_so false k Check e
