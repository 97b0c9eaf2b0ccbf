-- The two ends of a link, over every schedule.
use Rattle.std.specs.Prelude.{◌≡◌, ℕ, ◌+◌, ◌^◌, ◌≤◌, Bool, true, false, List, [], ◌∷◌, ◌++◌, Option, Some, None, slice_get, length, nat_le}
use Rattle.fs_window.specs.declared.packet.Packet.{Packet}
use Rattle.fs_window.specs.LinkEnd.{LinkEnd, new_link_end, pushed_count, after_pushes, given_by, after_accept, due_of, after_due}

-- one end, with all that happened there
pub record End : Type 0 where
  pub link : LinkEnd
  -- every segment that was pushed
  pub pushed : List (List ℕ)
  -- every segment that was given
  pub given : List (List ℕ)
  -- every packet that was made
  pub made : List Packet

-- what may happen at an end: segments are pushed, packets are made, or one of those that the other end made comes.
-- A packet that never comes is lost, one that comes twice is repeated, and any may come before an older one
pub data Event : Type 0 where
  Push : List (List ℕ) → Event
  Due : Bool → Bool → Event
  Accept : ℕ → Event

-- segments are pushed, unless numbers are wanting
abbrev pub pushed_on : Bool → End → List (List ℕ) → End
pushed_on true e ss = e
pushed_on false e ss = record { link = after_pushes e.link ss; pushed = e.pushed ++ ss; given = e.given; made = e.made }

-- the packets that are due are made
abbrev pub made_on : End → Bool → Bool → End
made_on e again heard = record { link = after_due e.link; pushed = e.pushed; given = e.given; made = e.made ++ due_of e.link again heard }

-- a packet comes, if there is one
abbrev pub accepted_on : End → Option Packet → End
accepted_on e None = e
accepted_on e (Some p) = record {
  link = after_accept e.link p;
  pushed = e.pushed;
  given = e.given ++ given_by e.link p.body;
  made = e.made;
}

-- an event at one end, with the other end beside it
abbrev pub happens_at : Event → End → End → End
happens_at (Push ss) here there = pushed_on (nat_le (2 ^ 64) (pushed_count here.link + length ss)) here ss
happens_at (Due again heard) here there = made_on here again heard
happens_at (Accept which) here there = accepted_on here (slice_get there.made which)

-- both ends
pub record Ends : Type 0 where
  pub left : End
  pub right : End

-- an event at the left end, or at the right one
abbrev pub happens : Ends → Bool × Event → Ends
happens w (true, e) = record { left = happens_at e w.left w.right; right = w.right }
happens w (false, e) = record { left = w.left; right = happens_at e w.right w.left }

-- a whole schedule
abbrev pub run : List (Bool × Event) → Ends → Ends
run [] w = w
run (e ∷ es) w = run es (happens w e)

-- a new end, of this width
abbrev pub new_end : ℕ → End
new_end width = record { link = new_link_end width; pushed = []; given = []; made = [] }

-- two new ends
abbrev pub new_ends : ℕ → ℕ → Ends
new_ends left right = record { left = new_end left; right = new_end right }

-- one list is the beginning of another
abbrev pub IsPrefixOf : List (List ℕ) → List (List ℕ) → Type 0
IsPrefixOf xs ys = (rest : List (List ℕ)) × (xs ++ rest ≡ ys)

-- one direction of a link is kept: what was given is the beginning of what was pushed, nothing counts as
-- acknowledged that was not given, and both ends count rightly
pub record IsDeliveredPrefix (from to : End) : Type 0 where
  pub given : IsPrefixOf to.given from.pushed
  pub acked : from.link.acked ≤ length to.given
  pub pushed : pushed_count from.link ≡ length from.pushed
  pub got : to.link.got ≡ length to.given
