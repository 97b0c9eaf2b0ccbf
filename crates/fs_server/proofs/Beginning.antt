-- A transaction begins.
use Rattle.std.proofs.Common.{◌≡◌, ◌+◌, ℕ, Bool, true, false, List, [], ◌∷◌, cond, length, refl, ap, sym, ◌∙◌, subst, arith, length-append}
use Rattle.std.specs.Prelude.{Option, Some, None}
use Rattle.fs_ident.specs.declared.actor.Session.{Session}
use Rattle.fs_ident.specs.declared.actor.TxnNo.{TxnNo}
use Rattle.fs_field.specs.declared.used.Part.{Part}
use Rattle.fs_field.specs.declared.path.PathAnswer.{PathAnswer}
use Rattle.fs_map.specs.Map.{server_of}
use Rattle.fs_msg.specs.declared.core_error.Counter.TheVariants.{Transactions}
use Rattle.fs_msg.specs.declared.lead.Lead.{Lead}
use Rattle.fs_msg.specs.declared.server_note.ServerNote.TheVariants as note
use Rattle.fs_txn.specs.Leading.{IsWholeLeader}
use Rattle.fs_txn.specs.Numbers.{next_txn}
use Rattle.fs_txn.specs.Votes.{is_full}
use Rattle.fs_txn.specs.declared.leading.Leading.{Leading}
use Rattle.fs_txn.specs.declared.mode.Mode2.{Mode2}
use Rattle.fs_server.specs.Begins.{Round, asked_part, begins, begun_with, first_round, leader_with}
use Rattle.fs_server.specs.Begins.{own_part, part_round, parts_in, round_of, rounds, txn_of}
use Rattle.fs_server.specs.Concludes.{concludes, goes_on, path_for, waits}
use Rattle.fs_server.specs.Follows.{vote_here}
use Rattle.fs_server.specs.Gathered.{CanGoOn, gathered_by, keeping}
use Rattle.fs_server.specs.Grants.{IsReady}
use Rattle.fs_server.specs.Server.{is_mine}
use Rattle.fs_server.specs.Step.{counter_over}
use Rattle.fs_server.specs.declared.begins.Gathered.{Gathered}
use Rattle.fs_server.specs.declared.state.Server.{Server}
use Rattle.fs_server.proofs.Leading.{few_more, is_next, spent_at, txns_over}

-- ## A place for each part

-- the round has so many more votes, each with a server
record HasMore (n : ℕ) (old new : Round) : Type 0 where
  votes : length new.votes ≡ length old.votes + n
  at : length new.at ≡ length old.at + n

one_place : (txn : TxnNo) (number : ℕ) (by : Session) (p : Part) (r : Round) → HasMore 1 r (part_round txn number by p r)
one_place txn number by p r = at (is_mine r.server p.file)
  where
    at : (b : Bool) → HasMore 1 r (cond b (own_part txn p (vote_here r.server by p) r)
        (asked_part txn number by p (server_of r.server.map p.file) r))
    at true = record { votes = length-append r.votes (Some (vote_here r.server by p) ∷ []); at = length-append r.at (r.server.me ∷ []) }
    at false = record { votes = length-append r.votes (None ∷ []); at = length-append r.at (server_of r.server.map p.file ∷ []) }

all_places : (txn : TxnNo) (number : ℕ) (by : Session) (ps : List Part) (r : Round) → HasMore (length ps) r (rounds txn number by ps r)
all_places txn number by [] r = record { votes = omega arith; at = omega arith }
all_places txn number by (p ∷ ps) r =
    let one : HasMore 1 r (part_round txn number by p r) = one_place txn number by p r in
    let rest : HasMore (length ps) (part_round txn number by p r)
    (rounds txn (number + 1) by ps (part_round txn number by p r)) = all_places txn (number + 1) by ps (part_round txn number by p r) in
    record { votes = omega arith; at = omega arith }

-- ## The transaction goes on

module _ (mode : Mode2) (by : Session) (m : Lead) (s : Server) (txn : TxnNo) (g : Gathered) (l : Leading)
    (next : next_txn s.me s.txns ≡ Some txn) (gathered : gathered_by g txn s ≡ rounds txn 0 by (parts_in mode m) (first_round s))
    (its : l.leader ≡ leader_with mode txn by m g.votes) (at : l.at ≡ g.at) where
  pub begun_so : goes_on (note.Prepares txn) l (path_for l.leader.mode l.leader.op s) g.send (keeping true l.leader.txn g.uses g.files s) ≡ begins mode by m s
  begun_so =
      (λ i. goes_on (note.Prepares txn) (record { leader = its i; at = at i }) (path_for (its i).mode (its i).op s) g.send (keeping true (its i).txn g.uses g.files s))
      ∙ ap (λ (r : Round). begun_with mode by m txn r (path_for mode m.op s)) gathered
      ∙ ap (λ t. begun_with mode by m t (rounds t 0 by (parts_in mode m) (first_round s)) (path_for mode m.op s)) (is_next s txn next)

  whole_so : IsWholeLeader (record { leader = leader_with mode txn by m g.votes; at = g.at }) m.uses
  whole_so =
      let many : HasMore (length (parts_in mode m)) (first_round s) (gathered_by g txn s) = subst
      (HasMore (length (parts_in mode m)) (first_round s)) (sym gathered) (all_places txn 0 by (parts_in mode m) (first_round s)) in
      record { parts = refl; asked = many.at ∙ none (length (parts_in mode m)); votes = many.votes ∙ none (length (parts_in mode m)) }
    where
      none : (n : ℕ) → 0 + n ≡ n
      none n = omega arith

  pub begun_can : CanGoOn true l s
  begun_can = record {
    uses = m.uses;
    whole = subst (λ (x : Leading). IsWholeLeader x m.uses) (sym (λ i. record { leader = its i; at = at i })) whole_so;
    few = λ h. few_more s txn next;
  }

-- ## No number is left

counter_kept : (txn : TxnNo) (number : ℕ) (by : Session) (ps : List Part) (r : Round)
    → counter_over (rounds txn number by ps r).server ≡ counter_over r.server
counter_kept txn number by [] r = refl
counter_kept txn number by (p ∷ ps) r = counter_kept txn (number + 1) by ps (part_round txn number by p r) ∙ at (is_mine r.server p.file)
  where
    at : (b : Bool) → counter_over (cond b (own_part txn p (vote_here r.server by p) r)
        (asked_part txn number by p (server_of r.server.map p.file) r)).server ≡ counter_over r.server
    at true = refl
    at false = refl

counter_same : (mode : Mode2) (by : Session) (m : Lead) (txn : TxnNo) (r : Round) (path : Option PathAnswer)
    → counter_over (begun_with mode by m txn r path).server ≡ counter_over r.server
counter_same mode by m txn r path = at (is_full r.votes)
  where
    at : (b : Bool) → counter_over (cond b (concludes (record { leader = leader_with mode txn by m r.votes; at = r.at }) path r.send r.server)
        (waits (note.Prepares txn) (record { leader = leader_with mode txn by m r.votes; at = r.at }) r.send r.server)).server
        ≡ counter_over r.server
    at true = refl
    at false = refl

pub begun_spent : (mode : Mode2) (by : Session) (m : Lead) (s : Server) → IsReady s → next_txn s.me s.txns ≡ None
    → counter_over (begins mode by m s).server ≡ Some Transactions
begun_spent mode by m s r h =
    counter_same mode by m (txn_of s) (round_of mode by m s) (path_for mode m.op s)
    ∙ counter_kept (txn_of s) 0 by (parts_in mode m) (first_round s)
    ∙ txns_over s.given s.reaps s.txns _ r.server.given r.server.reaps (spent_at s h)
