-- What was done to links, undone.
use Rattle.std.specs.Prelude.{ℕ, ◌+◌, ◌^◌, Bool, ◌&&◌, not, nat_le, nat_lt, if◌then◌else◌, List, [], ◌∷◌, ◌++◌, length, take, drop, Option, Some, None}
use Rattle.std.specs.FinMap.Entries.{find, put, where_key}
use Rattle.fs_ident.specs.declared.actor.Peer.{Peer}
use Rattle.fs_frag.specs.Joined.{held_before}
use Rattle.fs_window.specs.declared.link.Before.{Before}
use Rattle.fs_window.specs.declared.link.Link.{Link}
use Rattle.fs_window.specs.declared.queue.Change.{Change}
use Rattle.fs_window.specs.declared.undo.Step.{Step}
use Rattle.fs_window.specs.declared.was.Was.{Was}
use Rattle.fs_window.specs.LinkEnd.{LinkEnd, pushed_count}
use Rattle.fs_window.specs.Peers.{peer_cmp, same_peer, ByPeer}
use Rattle.fs_window.specs.Post.{Links}

-- a queue once values have gone from a place on, and others have come in their place
abbrev pub changed : {X : Type 0} → Change X → List X → List X
changed c xs = take c.at xs ++ (c.more ++ drop (c.at + c.count) xs)

-- an end with these numbers, and with its queues changed so
abbrev pub with_changes : LinkEnd → ℕ → ℕ → ℕ → Change (List ℕ) → Change (Option (List ℕ)) → LinkEnd
with_changes l acked sent got waiting kept = record {
  width = l.width;
  acked = acked;
  sent = sent;
  waiting = changed waiting l.waiting;
  got = got;
  kept = changed kept l.kept;
}

abbrev pub with_was : Was → LinkEnd → LinkEnd
with_was was l = with_changes l was.acked was.sent was.got was.waiting was.kept

-- whether an end of this width can be so
abbrev pub can_be : LinkEnd → Bool
can_be l = nat_le l.acked (pushed_count l) && nat_le l.sent (pushed_count l) && nat_lt (pushed_count l) (2 ^ 64)
    && nat_lt (length l.waiting) (2 ^ 63) && nat_lt (length l.kept) l.width

-- an end as it was; what cannot be is not taken
abbrev pub end_before : Was → LinkEnd → LinkEnd
end_before was l = if can_be (with_was was l) then with_was was l else l

-- a link as it was
abbrev pub link_before : Before → Link → Link
link_before b l = record { window = end_before b.window l.window; joiner = held_before b.joiner l.joiner }

-- the links as they were before that of an actor changed or was made, where there is one now
abbrev pub restored_from : Option Link → ByPeer Link → Peer → Option Before → ByPeer Link
restored_from None ends peer before = ends
restored_from (Some l) ends peer None = where_key peer_cmp (λ other. not (same_peer peer other)) ends
restored_from (Some l) ends peer (Some b) = put peer_cmp peer (link_before b l) ends

abbrev pub restored : ByPeer Link → Step → ByPeer Link
restored ends x = restored_from (find peer_cmp x.peer ends) ends x.peer x.before

-- the links as they were before these steps, of which the last is undone first
abbrev pub ends_undone : List Step → ByPeer Link → ByPeer Link
ends_undone [] ends = ends
ends_undone (x ∷ xs) ends = restored (ends_undone xs ends) x

abbrev pub undone : List Step → Links → Links
undone steps s = record s { ends = ends_undone steps s.ends }
