-- What is so of the steps of a server that leads: said of each way in which they end.
use Rattle.std.proofs.Common.{◌≡◌, ◌==◌, ℕ, true, false, List, cond, refl}
use Rattle.std.specs.Prelude.{Option, Some, None, slice_get}
use Rattle.fs_ident.specs.declared.actor.Peer.{Peer}
use Rattle.fs_field.specs.declared.path.PathAnswer.{PathAnswer}
use Rattle.fs_field.specs.declared.used.Part.{Part}
use Rattle.fs_field.specs.declared.vote.Vote.{Vote}
use Rattle.fs_field.specs.declared.vote.Vote.TheVariants.{Yes, Ended, Moved, PathsOut}
use Rattle.fs_map.specs.Map.{server_of}
use Rattle.fs_msg.specs.declared.done.Done.{Done}
use Rattle.fs_msg.specs.declared.msg.Msg.{Msg}
use Rattle.fs_msg.specs.declared.server_note.ServerNote.{ServerNote}
use Rattle.fs_msg.specs.declared.voted.Voted.{Voted}
use Rattle.fs_txn.specs.Leading.{awaits_done, ending_of, leading_of, without_done}
use Rattle.fs_txn.specs.Votes.{awaits, is_full}
use Rattle.fs_txn.specs.declared.leading.Ending.{Ending}
use Rattle.fs_txn.specs.declared.leading.Leading.{Leading}
use Rattle.fs_server.specs.Concludes.{concludes, goes_on, waits}
use Rattle.fs_server.specs.Counts.{comes_home, counts, counts_own, done_of, done_step, done_with, seeks, sent_on, vote_of, vote_step, voted}
use Rattle.fs_server.specs.Follows.{vote_here}
use Rattle.fs_server.specs.Server.{Stepped, is_mine, strange}
use Rattle.fs_server.specs.declared.state.Server.{Server}

-- it is decided, or waits
pub each_goes : (P : Stepped → Type 0) (n : ServerNote) (l : Leading) (path : Option PathAnswer) (sent : List (Peer × Msg)) (s : Server)
    → P (concludes l path sent s) → P (waits n l sent s) → P (goes_on n l path sent s)
each_goes P n l path sent s h g = elim (is_full l.leader.votes) as (λ b. P (cond b (concludes l path sent s) (waits n l sent s))) [
  | true ↦ h
  | false ↦ g
]

-- a vote: nobody awaits it; the part is asked for elsewhere; or it is counted, or the server's own in its place
module _ (P : Stepped → Type 0) (m : Voted) (s : Server) (other : P (strange s))
    (sought : (l : Leading) (p : Part) (to : ℕ) → leading_of m.txn s.leading ≡ Some l → P (seeks m.number to p l s))
    (counted : (l : Leading) (v : Vote) → leading_of m.txn s.leading ≡ Some l → P (counts m.number v l s))
    (own : (l : Leading) (p : Part) → leading_of m.txn s.leading ≡ Some l
    → P (counts_own m.number p (vote_here s l.leader.session p) l s)) where
  home : (l : Leading) (p : Part) → leading_of m.txn s.leading ≡ Some l → P (comes_home m.number p l s)
  home l p f = elim (is_mine s p.file) as
      (λ b. P (cond b (counts_own m.number p (vote_here s l.leader.session p) l s) (seeks m.number (server_of s.map p.file) p l s))) [
        | true ↦ own l p f
        | false ↦ sought l p (server_of s.map p.file) f
      ]

  moved_on : (l : Leading) (to : ℕ) (o : Option Part) → leading_of m.txn s.leading ≡ Some l → P (sent_on m.number to o l s)
  moved_on l to None f = other
  moved_on l to (Some p) f = elim (to == s.me) as (λ b. P (cond b (comes_home m.number p l s) (seeks m.number to p l s))) [
    | true ↦ home l p f
    | false ↦ sought l p to f
  ]

  heard : (l : Leading) (v : Vote) → leading_of m.txn s.leading ≡ Some l → P (voted m.number v l s)
  heard l Yes f = counted l Yes f
  heard l (Ended lease until now) f = counted l (Ended lease until now) f
  heard l (Moved prefix to) f = moved_on l to (slice_get l.leader.parts m.number) f
  heard l (PathsOut lease) f = counted l (PathsOut lease) f

  of_one : (o : Option Leading) → leading_of m.txn s.leading ≡ o → P (vote_of o m s)
  of_one None f = other
  of_one (Some l) f = elim (awaits l.leader m.number) as (λ b. P (cond b (voted m.number m.vote l s) (strange s))) [
    | true ↦ heard l m.vote f
    | false ↦ other
  ]

  pub each_vote : P (vote_step m s)
  each_vote = of_one (leading_of m.txn s.leading) refl

-- what is done: nobody awaits it, or this is left
module _ (P : Stepped → Type 0) (m : Done) (s : Server) (other : P (strange s))
    (done : (x : Ending) (left : List (ℕ × ℕ)) → ending_of m.txn s.ending ≡ Some x → P (done_with (without_done m.number x) left s)) where
  of_ending : (o : Option Ending) → ending_of m.txn s.ending ≡ o → P (done_of o m s)
  of_ending None f = other
  of_ending (Some x) f = elim (awaits_done m.number x.awaits) as
      (λ b. P (cond b (done_with (without_done m.number x) (without_done m.number x).awaits s) (strange s))) [
        | true ↦ done x (without_done m.number x).awaits f
        | false ↦ other
      ]

  pub each_done : P (done_step m s)
  each_done = of_ending (ending_of m.txn s.ending) refl
