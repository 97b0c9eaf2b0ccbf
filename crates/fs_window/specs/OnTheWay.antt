-- One direction of a link: what was pushed at one end and is on its way to the other.
use Rattle.std.specs.Prelude.{◌≡◌, ℕ, suc, ◌+◌, ◌-◌, ◌^◌, ◌<◌, ◌≤◌, min, List, ◌++◌, drop, length, map, Option, Some, None, slice_get}
use Rattle.fs_ident.specs.In.{In}
use Rattle.fs_frag.specs.Coming.{IsComing}
use Rattle.fs_frag.specs.declared.joined.Joined.TheVariants.{Whole}
use Rattle.fs_frag.specs.Segment.{IsSegment}
use Rattle.fs_window.specs.declared.link.Link.{Link}
use Rattle.fs_window.specs.declared.packet.Packet.{Packet}
use Rattle.fs_window.specs.LinkEnd.{LinkEnd, pushed_count}
use Rattle.fs_window.specs.Post.{link_accepted, heard_on}

-- the segments that were pushed at one end and not given at the other yet
abbrev pub on_the_way : LinkEnd → LinkEnd → List (List ℕ)
on_the_way from to = drop (to.got - min from.acked from.sent) from.waiting

-- each segment that is kept is the one on its way at its place, behind the next one
abbrev pub AreOnTheWay : List (Option (List ℕ)) → List (List ℕ) → Type 0
AreOnTheWay kept way = (i : ℕ) (s : List ℕ) → slice_get kept i ≡ Some (Some s) → slice_get way (suc i) ≡ Some s

-- the two ends fit
pub record IsDirection (from to : LinkEnd) : Type 0 where
  pub few : pushed_count from < 2 ^ 64
  pub sent : from.sent ≤ pushed_count from
  -- nothing counts as acknowledged that was not given, and nothing was given that was not pushed
  pub acked : from.acked ≤ to.got
  pub got : to.got ≤ pushed_count from
  pub kept : AreOnTheWay to.kept (on_the_way from to)

-- the segment of a body was pushed; if it was not given yet, it is on its way at its number
abbrev pub IsBodyOf : LinkEnd → LinkEnd → Option (ℕ × List ℕ) → Type 0
IsBodyOf from to None = Unit {0}
IsBodyOf from to (Some b) = (b.0 < pushed_count from) × (to.got ≤ b.0 → slice_get (on_the_way from to) (b.0 - to.got) ≡ Some b.1)

-- a packet that one end made for the other
pub record IsPacketOf (from to : LinkEnd) (p : Packet) : Type 0 where
  pub ack : p.ack ≤ from.got
  pub body : IsBodyOf from to p.body

-- these segments were pushed at one end, and these were given at the other
pub record HasGiven (from to : LinkEnd) (pushed given : List (List ℕ)) : Type 0 where
  pub direction : IsDirection from to
  pub count : to.got ≡ length given
  pub all : given ++ on_the_way from to ≡ pushed

-- these messages were pushed at one end and did not come whole at the other yet
pub record Carries (from to : Link) (messages : List (List ℕ)) : Type 0 where
  pub segments : (s : List ℕ) → In s from.window.waiting → IsSegment s
  pub direction : IsDirection from.window to.window
  pub coming : IsComing to.joiner (on_the_way from.window to.window) messages

-- a packet comes where these messages are on their way
pub record HasHeard (from to : Link) (p : Packet) (messages : List (List ℕ)) : Type 0 where
  -- the first of them come whole, in order, and nothing else
  pub whole : List (List ℕ)
  pub joined : (heard_on to p).joined ≡ map Whole whole
  -- the others are still on their way
  pub rest : List (List ℕ)
  pub all : whole ++ rest ≡ messages
  pub carries : Carries from (link_accepted to p) rest
  -- the number of segments given is that of the fresh ones
  pub count : (link_accepted to p).window.got ≡ to.window.got + (heard_on to p).fresh
