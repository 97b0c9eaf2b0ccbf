-- Files that parts of a leader's own keep until it is decided.
use Rattle.std.proofs.Common.{◌≡◌, ◌+◌, ℕ, Bool, true, false, List, [], ◌∷◌, cond, refl, ap, sym, ◌∙◌, subst, inl, inr}
use Rattle.std.specs.Prelude.{Option, Some, None}
use Rattle.fs_ident.specs.In.{In}
use Rattle.fs_ident.specs.Ordered.{put_before}
use Rattle.fs_ident.specs.declared.actor.Session.{Session}
use Rattle.fs_ident.specs.declared.actor.TxnNo.{TxnNo}
use Rattle.fs_ident.proofs.Standing.{In-put_here}
use Rattle.fs_field.specs.declared.used.Part.{Part}
use Rattle.fs_field.specs.declared.vote.Vote.{Vote}
use Rattle.fs_field.specs.declared.vote.Vote.TheVariants.{Yes, Ended, Moved, PathsOut}
use Rattle.fs_map.specs.Map.{server_of}
use Rattle.fs_msg.specs.declared.lead.Lead.{Lead}
use Rattle.fs_msg.specs.declared.server_note.ServerNote.TheVariants as note
use Rattle.fs_path.specs.Leases.{comes_before}
use Rattle.fs_path.specs.Tables.{PathTables}
use Rattle.fs_txn.specs.Votes.{is_full}
use Rattle.fs_txn.specs.declared.leading.Leading.{Leading}
use Rattle.fs_txn.specs.declared.mode.Mode2.{Mode2}
use Rattle.fs_server.specs.Begins.{Round, asked_part, begins, first_round, leader_with, own_part, part_round, parts_in, round_of, rounds, txn_of}
use Rattle.fs_server.specs.Concludes.{path_for}
use Rattle.fs_server.specs.Counts.{after_own_vote, asked_at, counts_own, paths_voted, with_vote}
use Rattle.fs_server.specs.Follows.{paths_kept, recalls_for, vote_here}
use Rattle.fs_server.specs.Gathered.{files_voted, uses_voted}
use Rattle.fs_server.specs.Server.{Stepped, is_mine}
use Rattle.fs_server.specs.declared.state.Server.{Server}
use Rattle.fs_server.proofs.Concluding.{goes_waiting}
use Rattle.fs_server.proofs.Counting.{keeps_voted}
use Rattle.fs_server.proofs.Gathering.{first_gathered, vote_kept}

-- ## What is kept stays so

still_put : {X : Type 0} (test : X → Bool) (x new : X) (ys : List X) → In x ys → In x (put_before test new ys)
still_put test x new [] i = absurd i
still_put test x new (y ∷ ys) i = by (test y) i (still_put test x new ys)
  where
    by : (b : Bool) → In x (y ∷ ys) → (In x ys → In x (put_before test new ys)) → In x (cond b (new ∷ y ∷ ys) (y ∷ put_before test new ys))
    by true i rest = inr i
    by false (inl e) rest = inl e
    by false (inr j) rest = inr (rest j)

pub voted_still : (v : Vote) (txn : TxnNo) (o : Option (List ℕ)) (t : PathTables) (x : List ℕ × TxnNo) → In x t.frozen
    → In x (paths_voted v txn o t).frozen
voted_still Yes txn None t x i = i
voted_still Yes txn (Some file) t x i =
    still_put (λ (y : List ℕ × TxnNo). comes_before (txn.server, txn.count) (y.1.server, y.1.count)) x (file, txn) t.frozen i
voted_still (Ended lease until now) txn o t x i = i
voted_still (Moved prefix to) txn o t x i = i
voted_still (PathsOut lease) txn o t x i = i

part_still : (txn : TxnNo) (number : ℕ) (by : Session) (p : Part) (r : Round) (x : List ℕ × TxnNo) → In x r.server.paths.frozen
    → In x (part_round txn number by p r).server.paths.frozen
part_still txn number by p r x i = at (is_mine r.server p.file)
  where
    at : (b : Bool) → In x (cond b (own_part txn p (vote_here r.server by p) r)
        (asked_part txn number by p (server_of r.server.map p.file) r)).server.paths.frozen
    at true = voted_still (vote_here r.server by p) txn p.freeze r.server.paths x i
    at false = i

rounds_still : (txn : TxnNo) (number : ℕ) (by : Session) (ps : List Part) (r : Round) (x : List ℕ × TxnNo) → In x r.server.paths.frozen
    → In x (rounds txn number by ps r).server.paths.frozen
rounds_still txn number by [] r x i = i
rounds_still txn number by (p ∷ ps) r x i =
    rounds_still txn (number + 1) by ps (part_round txn number by p r) x (part_still txn number by p r x i)

-- ## No part changes what another is voted

same_mine : (txn : TxnNo) (number : ℕ) (by : Session) (q : Part) (r : Round) (file : List ℕ)
    → is_mine (part_round txn number by q r).server file ≡ is_mine r.server file
same_mine txn number by q r file = at (is_mine r.server q.file)
  where
    at : (b : Bool) → is_mine (cond b (own_part txn q (vote_here r.server by q) r)
        (asked_part txn number by q (server_of r.server.map q.file) r)).server file ≡ is_mine r.server file
    at true = refl
    at false = refl

same_vote : (txn : TxnNo) (number : ℕ) (by : Session) (q : Part) (r : Round) (p : Part)
    → vote_here (part_round txn number by q r).server by p ≡ vote_here r.server by p
same_vote txn number by q r p = at (is_mine r.server q.file)
  where
    at : (b : Bool) → vote_here (cond b (own_part txn q (vote_here r.server by q) r)
        (asked_part txn number by q (server_of r.server.map q.file) r)).server by p ≡ vote_here r.server by p
    at true =
        let v : Vote = vote_here r.server by q in
        ap (λ (s : Server). vote_here s by p) (sym (keeps_voted v txn q r.server))
        ∙ vote_kept false txn (uses_voted v q.uses) (files_voted v q.freeze) r.server by p
    at false = refl

-- ## A part that says Yes

pub named_kept : (txn : TxnNo) (o : Option (List ℕ)) (file : List ℕ) (t : PathTables) → o ≡ Some file
    → In (file, txn) (paths_kept txn o t).frozen
named_kept txn o file t f = subst (λ (y : Option (List ℕ)). In (file, txn) (paths_kept txn y t).frozen) (sym f)
    (In-put_here (λ (y : List ℕ × TxnNo). comes_before (txn.server, txn.count) (y.1.server, y.1.count)) (file, txn) t.frozen)

part_keeps : (txn : TxnNo) (number : ℕ) (by : Session) (p : Part) (r : Round) (file : List ℕ) → is_mine r.server p.file ≡ true
    → vote_here r.server by p ≡ Yes → p.freeze ≡ Some file → In (file, txn) (part_round txn number by p r).server.paths.frozen
part_keeps txn number by p r file m v f = subst (λ (z : Round). In (file, txn) z.server.paths.frozen)
    (sym (ap (λ b. cond b (own_part txn p (vote_here r.server by p) r) (asked_part txn number by p (server_of r.server.map p.file) r)) m
    ∙ ap (λ v. own_part txn p v r) v))
    (named_kept txn p.freeze file r.server.paths f)

rounds_keep : (txn : TxnNo) (number : ℕ) (by : Session) (ps : List Part) (r : Round) (p : Part) (file : List ℕ) → In p ps
    → is_mine r.server p.file ≡ true → vote_here r.server by p ≡ Yes → p.freeze ≡ Some file
    → In (file, txn) (rounds txn number by ps r).server.paths.frozen
rounds_keep txn number by [] r p file i m v f = absurd i
rounds_keep txn number by (q ∷ qs) r p file (inl e) m v f =
    rounds_still txn (number + 1) by qs (part_round txn number by q r) (file, txn)
    (subst (λ (z : Part). In (file, txn) (part_round txn number by z r).server.paths.frozen) e (part_keeps txn number by p r file m v f))
rounds_keep txn number by (q ∷ qs) r p file (inr i) m v f =
    rounds_keep txn (number + 1) by qs (part_round txn number by q r) p file i (same_mine txn number by q r p.file ∙ m)
    (same_vote txn number by q r p ∙ v) f

-- ## While votes are awaited

pub begun_keeps : (mode : Mode2) (by : Session) (m : Lead) (s : Server) (p : Part) (file : List ℕ) → In p (parts_in mode m)
    → is_mine s p.file ≡ true → vote_here s by p ≡ Yes → p.freeze ≡ Some file → is_full (round_of mode by m s).votes ≡ false
    → In (file, txn_of s) (begins mode by m s).server.paths.frozen
begun_keeps mode by m s p file i mine v f waiting =
    let r : Round = round_of mode by m s in
    let l : Leading = record { leader = leader_with mode (txn_of s) by m r.votes; at = r.at } in
    subst (λ (x : Stepped). In (file, txn_of s) x.server.paths.frozen) (goes_waiting (note.Prepares (txn_of s)) l (path_for mode m.op s) r.send r.server waiting)
    (rounds_keep (txn_of s) 0 by (parts_in mode m) (first_round s) p file i mine
    (ap (λ (x : Round). vote_here x.server by p) (sym (first_gathered (txn_of s) s)) ∙ vote_kept true (txn_of s) [] [] s by p ∙ v) f)

pub counted_keeps : (number : ℕ) (p : Part) (file : List ℕ) (l : Leading) (s : Server) → p.freeze ≡ Some file
    → is_full (with_vote number Yes l).leader.votes ≡ false → In (file, l.leader.txn) (counts_own number p Yes l s).server.paths.frozen
counted_keeps number p file l s f waiting =
    subst (λ (x : Stepped). In (file, l.leader.txn) x.server.paths.frozen)
    (goes_waiting (note.Waits l.leader.txn) (with_vote number Yes (asked_at number s.me l)) (path_for l.leader.mode l.leader.op s) (recalls_for Yes s p)
    (after_own_vote l.leader.txn p Yes s) waiting)
    (named_kept l.leader.txn p.freeze file s.paths f)
