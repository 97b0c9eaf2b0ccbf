-- The votes that a leader has counted: for each part its vote, or an empty place.
use Rattle.std.specs.Prelude.{ℕ, Bool, true, false, not, ◌==◌, ◌&&◌, nat_lt, List, [], ◌∷◌, length, Option, Some, None, is_some, map, slice_get, slice_set, if◌then◌else◌}
use Rattle.std.specs.List.{filter, list_all}
use Rattle.fs_field.specs.declared.used.Part.{Part}
use Rattle.fs_field.specs.declared.vote.Vote.{Vote}
use Rattle.fs_field.specs.declared.vote.Vote.TheVariants.{Moved}
use Rattle.fs_txn.specs.declared.leader.Leader.{Leader}
use Rattle.fs_txn.specs.declared.tally.Tally.{Tally}
use Rattle.fs_txn.specs.declared.tally.Tally.TheVariants.{Waiting, Seek, Full}

abbrev pub Votes : Type 0
Votes = List (Option Vote)

-- no vote at all
abbrev pub no_votes : List Part → Votes
no_votes parts = map (λ p. None) parts

-- there is such a place, and it is empty
abbrev pub is_empty_place : Option (Option Vote) → Bool
is_empty_place None = false
is_empty_place (Some vote) = not (is_some vote)

-- the vote of the part is awaited
abbrev pub awaits : Leader → ℕ → Bool
awaits l part = nat_lt part (length l.parts) && is_empty_place (slice_get l.votes part)

-- every part has voted
abbrev pub is_full : Votes → Bool
is_full votes = list_all is_some votes

-- the votes with that of the part; where the file is at another server the place stays empty
abbrev pub votes_after : Votes → ℕ → Vote → Votes
votes_after votes part (Moved prefix to) = votes
votes_after votes part vote = slice_set votes part (Some vote)

-- the vote says that the file is at another server
abbrev pub is_moved : Vote → Bool
is_moved (Moved prefix to) = true
is_moved vote = false

-- the leader after the vote of a part
abbrev pub after_vote : ℕ → Vote → Leader → Leader
after_vote part vote l = record l { votes = votes_after l.votes part vote }

-- what is left to do after the vote: another server is asked, or votes are awaited, or none is
abbrev pub tally : ℕ → Vote → Votes → Tally
tally part (Moved prefix to) votes = Seek part to
tally part vote votes = if is_full votes then Full else Waiting

-- ## Votes, one after another

-- the leader after the votes, each with the number of its part
abbrev pub after_votes : List (ℕ × Vote) → Leader → Leader
after_votes [] l = l
after_votes (x ∷ xs) l = after_votes xs (after_vote x.0 x.1 l)

-- each is awaited when it comes
abbrev pub are_awaited : List (ℕ × Vote) → Leader → Bool
are_awaited [] l = true
are_awaited (x ∷ xs) l = awaits l x.0 && are_awaited xs (after_vote x.0 x.1 l)

-- those of the part that are counted
abbrev pub counted_of : ℕ → List (ℕ × Vote) → List (ℕ × Vote)
counted_of part votes = filter (λ (x : ℕ × Vote). (x.0 == part) && not (is_moved x.1)) votes
