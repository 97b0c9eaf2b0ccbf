-- What the laws of a server say.
use Rattle.std.specs.Prelude.{◌≡◌, ◌⊎◌, ℕ, ◌+◌, Bool, true, false, List, [], ◌∷◌, ◌++◌, map, Option, Some, None, is_some, if◌then◌else◌}
use Rattle.std.specs.List.{flat_map, list_all}
use Rattle.fs_ident.specs.Ident.{child}
use Rattle.fs_ident.specs.declared.actor.Peer.{Peer}
use Rattle.fs_ident.specs.In.{In}
use Rattle.fs_ident.specs.declared.actor.PathNo.{PathNo}
use Rattle.fs_ident.specs.declared.actor.Session.{Session}
use Rattle.fs_field.specs.declared.asked.Asked.{Asked}
use Rattle.fs_field.specs.declared.asked.Asked.TheVariants.{Granted, Wait, Locked}
use Rattle.fs_field.specs.declared.field.Field.{Field}
use Rattle.fs_field.specs.declared.field.Field.TheVariants.{Life}
use Rattle.fs_field.specs.declared.lease_kind.LeaseKind.{LeaseKind}
use Rattle.fs_field.specs.declared.lease_kind.LeaseKind.TheVariants.{Exclusive}
use Rattle.fs_field.specs.Field.{file_of}
use Rattle.fs_field.specs.declared.effect.Effect.{Effect}
use Rattle.fs_field.specs.declared.path.PathAnswer.{PathAnswer}
use Rattle.fs_field.specs.declared.path.PathAnswer.TheVariants as found
use Rattle.fs_field.specs.declared.used.Part.{Part}
use Rattle.fs_field.specs.declared.vote.Vote.TheVariants.{PathsOut}
use Rattle.fs_model.specs.Asking.{home_of}
use Rattle.fs_msg.specs.declared.answer.Answer.TheVariants as answer
use Rattle.fs_msg.specs.declared.answer.Grant.{Grant}
use Rattle.fs_msg.specs.declared.end.End.{End}
use Rattle.fs_msg.specs.declared.end.End.TheVariants as end
use Rattle.fs_msg.specs.declared.lead.Lead.{Lead}
use Rattle.fs_msg.specs.declared.msg.Msg.{Msg}
use Rattle.fs_msg.specs.declared.peer_msg.PeerMsg.TheVariants as peer
use Rattle.fs_msg.specs.declared.prepare.Prepare.{Prepare}
use Rattle.fs_path.specs.Leases.{PathLease, goes_over}
use Rattle.fs_path.specs.Returns.{recalls}
use Rattle.fs_path.specs.Tables.{frozen_for, through}
use Rattle.fs_record.specs.Applied.{records_after_all}
use Rattle.fs_txn.specs.Votes.{Votes}
use Rattle.fs_txn.specs.declared.decision.Decision.{Decision}
use Rattle.fs_txn.specs.declared.decision.Decision.TheVariants.{Commit, Abort}
use Rattle.fs_txn.specs.declared.mode.Mode2.{Mode2}
use Rattle.fs_server.specs.Asks.{Asking, answer_to, kind_for}
use Rattle.fs_server.specs.Begins.{leader_with, parts_in, txn_of}
use Rattle.fs_server.specs.Concludes.{admitted_of, end_note, end_of_decision}
use Rattle.fs_server.specs.Follows.{path_recalls, paths_freed, recalls_for, to_server, vote_here}
use Rattle.fs_server.specs.Leads.{mode_of, mode_over, takes_path}
use Rattle.fs_server.specs.PathSteps.{has_child, is_asking, path_here, path_number, with_path}
use Rattle.fs_server.specs.Server.{Stepped, is_mine, moved, to_session}
use Rattle.fs_server.specs.declared.state.Server.{Server}

-- ## The items of a question

abbrev pub end_by : Asked → Option End
end_by (Granted promise) = None
end_by (Wait blocker) = Some (end.Wait blocker)
end_by (Locked txn) = Some (end.Locked txn)

-- why the session cannot have the item, if it cannot: its file is elsewhere, a transaction keeps it, or a row stands in the way
abbrev pub hindrance : Session → Server → Field × LeaseKind → Option End
hindrance by s x = if is_mine s (file_of x.0) then end_by (answer_to by x.0 (kind_for x.0 x.1) s) else Some (moved s (file_of x.0))

-- the items up to the first that it cannot have, with the kinds that are given
abbrev pub free_items : Session → Server → List (Field × LeaseKind) → List (Field × LeaseKind)
free_items by s [] = []
free_items by s (x ∷ xs) = if is_some (hindrance by s x) then [] else (x.0, kind_for x.0 x.1) ∷ free_items by s xs

abbrev pub end_after : Option End → End → End
end_after (Some e) rest = e
end_after None rest = rest

-- why it cannot have the first of these
abbrev pub items_end : Session → Server → List (Field × LeaseKind) → End
items_end by s [] = end.All
items_end by s (x ∷ xs) = end_after (hindrance by s x) (items_end by s xs)

-- the field and the kind of a lease that is told
abbrev pub item_in : Grant → Field × LeaseKind
item_in g = (g.field, g.kind)

-- an identifier of the directory comes behind these, with the lease on its life
pub record FreshGiven (dir : List ℕ) (items : List (Field × LeaseKind)) (a : Asking) : Type 0 where
  pub number : ℕ
  pub given : a.fresh ≡ Some (child dir number)
  pub grants : map item_in a.grants ≡ items ++ (Life (child dir number), Exclusive) ∷ []
  pub all : a.end ≡ end.All

-- it comes, or the directory has no number left
abbrev pub FreshComes : List ℕ → List (Field × LeaseKind) → Asking → Type 0
FreshComes dir items a = FreshGiven dir items a ⊎ (a.end ≡ end.NoIds dir)

-- ## An operation that is led

-- it is led here by what is known of that path, of the directory into which it comes
pub record StandsOver (p : PathAnswer) (m : Lead) (s : Server) : Type 0 where
  pub here : is_mine s (home_of m.op) ≡ true
  pub takes : takes_path s m.op m.kind ≡ true
  pub known : path_here s (home_of m.op) ≡ p

-- the mode in which it begins here: by that path, where it stands on one
pub data BeginsIn (m : Lead) (s : Server) : Mode2 → Type 0 where
  without_path : is_mine s (home_of m.op) ≡ true → takes_path s m.op m.kind ≡ false → BeginsIn m s (mode_of m.op m.kind)
  over : (files : List (List ℕ)) → StandsOver (found.Path files) m s → BeginsIn m s (mode_over files m.file)

-- ## All its parts are here

-- the server manages the file of each part
abbrev pub has_all : Server → List Part → Bool
has_all s parts = list_all (λ (p : Part). is_mine s p.file) parts

-- the votes of this server on all parts
abbrev pub votes_here : Mode2 → Session → Lead → Server → Votes
votes_here mode by m s = map (λ (p : Part). Some (vote_here s by p)) (parts_in mode m)

-- the path leases that are in the way of parts are asked back, of one part after the other
abbrev pub recalls_here : Mode2 → Session → Lead → Server → List (Peer × Msg)
recalls_here mode by m s = flat_map (λ (p : Part). recalls_for (vote_here s by p) s p) (parts_in mode m)

-- the effects of all parts, in their order
abbrev pub all_effects : Decision → List Effect
all_effects (Commit r effects) = flat_map (λ (es : List Effect). es) effects
all_effects (Abort e) = []

-- the transaction ends as the leader decides, all its parts are here, and it keeps no file any more
abbrev pub concluded : Decision → Mode2 → Session → Lead → Server → Stepped
concluded d mode by m s = record {
  server = record s {
    txns = s.txns + 1;
    records = records_after_all s.records (all_effects d);
    paths = paths_freed (txn_of s) s.paths;
  };
  out = record {
    note = end_note (txn_of s) (end_of_decision d);
    send = recalls_here mode by m s ++ to_session by (answer.Led (end_of_decision d)) ∷ [];
    admitted = admitted_of d (leader_with mode (txn_of s) by m (votes_here mode by m s));
  };
}

-- ## A part over whose file paths go

-- paths that were given out go over the file that the part names: the vote names the least of their leases, and behind it all of them are
-- asked back, in order; the server is as it was
pub record AreAskedBack (from : ℕ) (m : Prepare) (number : PathNo) (s : Server) (after : Stepped) : Type 0 where
  pub file : List ℕ
  pub named : m.part.freeze ≡ Some file
  pub least : through file s.paths.issued ≡ Some number
  pub sent : after.out.send
      ≡ to_server from (peer.Vote (record { txn = m.txn; number = m.number; vote = PathsOut number }))
      ∷ path_recalls (recalls (goes_over file) s.paths.issued)
  pub rest : after.server ≡ s

-- ## A path that is given out

-- another server asks for the path of a child of the directory, which is managed here, and no transaction keeps the file
pub record CanBeGiven (file dir : List ℕ) (s : Server) : Type 0 where
  pub mine : is_mine s dir ≡ true
  pub child : has_child s.records dir file ≡ true
  pub free : frozen_for file s.paths.frozen ≡ None

-- the path of the directory is known, and with the file behind it goes to who asked, under the number, which is the next one; but for that
-- lease among those given out, and the count of numbers, the server is as it was
pub record IsGivenOut (from : ℕ) (file dir : List ℕ) (number : PathNo) (s : Server) (after : Stepped) : Type 0 where
  pub above : List (List ℕ)
  pub lease : PathLease
  pub known : path_here s dir ≡ found.Path above
  pub next : number ≡ path_number s
  pub is : lease ≡ record { no = number; peer = from; file = file; path = above ++ file ∷ [] }
  pub sent : after.out.send ≡ to_server from (peer.PathGrant number file lease.path) ∷ []
  pub issued : In lease after.server.paths.issued
  pub rest : after.server ≡ with_path lease s

-- ## Questions for paths

-- no question for the path of the file stood, and one does
pub record IsAskedFirst (file : List ℕ) (s after : Server) : Type 0 where
  pub before : is_asking file s ≡ false
  pub stands : is_asking file after ≡ true

-- the question is for the path of that file, and all is as it was
pub record IsSentOn (asked file : List ℕ) (s after : Server) : Type 0 where
  pub same : asked ≡ file
  pub rest : after ≡ s
