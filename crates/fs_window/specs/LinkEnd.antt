-- One end of a link: what it sends, and what it takes from the other end. Segments are numbered from 0.
use Rattle.std.specs.Prelude.{◌≡◌, ℕ, zero, suc, ◌+◌, ◌-◌, ◌^◌, ◌<◌, ◌≤◌, min, max, Bool, false, is_some, ◌&&◌, List, [], ◌∷◌, ◌++◌, length, take, drop, Option, Some, None, nat_le, nat_lt, ◌==◌, if◌then◌else◌}
use Rattle.fs_window.specs.declared.packet.Packet.{Packet}

-- what an end knows
pub record LinkEnd : Type 0 where
  -- how many segments may be on their way, counted from the first that is not acknowledged, or not given
  pub width : ℕ
  -- the greatest acknowledgement that was taken: the other end has the segments below it
  pub acked : ℕ
  -- how many segments were sent
  pub sent : ℕ
  -- the segments that are not both sent and acknowledged, in order
  pub waiting : List (List ℕ)
  -- how many segments were given here
  pub got : ℕ
  -- the segments that came before their turn, each at its place: first the number behind the next one, then the one behind that.
  -- `None` is a hole
  pub kept : List (Option (List ℕ))

-- a new end
abbrev pub new_link_end : ℕ → LinkEnd
new_link_end width = record { width = width; acked = 0; sent = 0; waiting = []; got = 0; kept = [] }

-- how many segments were pushed
abbrev pub pushed_count : LinkEnd → ℕ
pushed_count l = min l.acked l.sent + length l.waiting

-- what holds of every end
pub record IsLinkEnd (l : LinkEnd) : Type 0 where
  pub wide : 1 ≤ l.width
  pub narrow : l.width ≤ 64
  pub acked : l.acked ≤ pushed_count l
  pub sent : l.sent ≤ pushed_count l
  pub few : pushed_count l < 2 ^ 64
  pub kept : length l.kept < l.width

-- an end of which one segment is on its way at a time: it keeps none
pub record IsNarrow (l : LinkEnd) : Type 0 where
  pub width : l.width ≡ 1
  pub kept : l.kept ≡ []

-- with more segments to send
abbrev pub after_pushes : LinkEnd → List (List ℕ) → LinkEnd
after_pushes l ss = record { width = l.width; acked = l.acked; sent = l.sent; waiting = l.waiting ++ ss; got = l.got; kept = l.kept }

-- with one more segment to send
abbrev pub after_push : LinkEnd → List ℕ → LinkEnd
after_push l s = after_pushes l (s ∷ [])

-- with these two numbers: a segment that is sent and acknowledged is let go
abbrev pub moved : LinkEnd → ℕ → ℕ → LinkEnd
moved l acked sent = record {
  width = l.width;
  acked = acked;
  sent = sent;
  waiting = drop (min acked sent - min l.acked l.sent) l.waiting;
  got = l.got;
  kept = l.kept;
}

-- the greatest acknowledgement once another one has come; one above the number pushed is not taken
abbrev pub acked_after : LinkEnd → ℕ → ℕ
acked_after l ack = if nat_le ack (pushed_count l) then max l.acked ack else l.acked

-- the segments up to the first hole
abbrev pub without_hole : List (Option (List ℕ)) → List (List ℕ)
without_hole [] = []
without_hole (None ∷ slots) = []
without_hole (Some s ∷ slots) = s ∷ without_hole slots

-- the segments that a body gives: the one whose number is next, and those kept that then follow without a hole
abbrev pub given_by : LinkEnd → Option (ℕ × List ℕ) → List (List ℕ)
given_by l None = []
given_by l (Some b) = if b.0 == l.got then b.1 ∷ without_hole l.kept else []

-- a hole takes the segment; one that is there stays
abbrev pub filled : Option (List ℕ) → List ℕ → Option (List ℕ)
filled None s = Some s
filled (Some t) s = Some t

-- with a segment at a place where there is none yet
abbrev pub with_kept : ℕ → List ℕ → List (Option (List ℕ)) → List (Option (List ℕ))
with_kept zero s [] = Some s ∷ []
with_kept zero s (slot ∷ slots) = filled slot s ∷ slots
with_kept (suc n) s [] = None ∷ with_kept n s []
with_kept (suc n) s (slot ∷ slots) = slot ∷ with_kept n s slots

-- whether the first of these places has a segment
abbrev pub leads : List (Option (List ℕ)) → Bool
leads [] = false
leads (slot ∷ slots) = is_some slot

-- whether a segment stands at the place
abbrev pub is_filled : ℕ → List (Option (List ℕ)) → Bool
is_filled place slots = leads (drop place slots)

-- whether a segment of this number is kept: it comes before its turn, and the width reaches it
abbrev pub is_early : LinkEnd → ℕ → Bool
is_early l number = nat_lt l.got number && nat_lt number (l.got + l.width)

-- what is kept once a body has come that gives nothing
abbrev pub kept_by : LinkEnd → Option (ℕ × List ℕ) → List (Option (List ℕ))
kept_by l None = l.kept
kept_by l (Some b) = if is_early l b.0 then with_kept (b.0 - l.got - 1) b.1 l.kept else l.kept

-- how many were given, with so many more; the count stands still at the greatest number
abbrev pub got_after : ℕ → ℕ → ℕ
got_after got more = min (got + more) (2 ^ 64 - 1)

-- with these kept
abbrev pub with_slots : LinkEnd → List (Option (List ℕ)) → LinkEnd
with_slots l slots = record l { kept = slots }

-- once so many were given: their places are let go
abbrev pub with_given : LinkEnd → ℕ → LinkEnd
with_given l n = record l { got = got_after l.got n; kept = drop n l.kept }

-- the end once a packet has come
abbrev pub after_accept : LinkEnd → Packet → LinkEnd
after_accept l p = with_given (with_slots (moved l (acked_after l p.ack) l.sent) (kept_by l p.body)) (length (given_by l p.body))

-- packets with these segments, numbered from n on
abbrev pub packets_from : ℕ → ℕ → List (List ℕ) → List Packet
packets_from ack n [] = []
packets_from ack n (s ∷ ss) = record { ack = ack; body = Some (n, s) } ∷ packets_from ack (n + 1) ss

-- the segments not sent yet whose numbers are below the acknowledged one and the width
abbrev pub unsent : LinkEnd → List (List ℕ)
unsent l = take (l.acked + l.width - l.sent) (drop (l.sent - l.acked) l.waiting)

-- the segments that were sent and are not acknowledged
abbrev pub unacked : LinkEnd → List (List ℕ)
unacked l = take (l.sent - l.acked) l.waiting

-- new segments first, then those sent before, if they are to go again
abbrev pub with_bodies : LinkEnd → Bool → List Packet
with_bodies l again = packets_from l.got l.sent (unsent l) ++ (if again then packets_from l.got l.acked (unacked l) else [])

-- an acknowledgement alone, where a packet with a body came and no other packet goes
abbrev pub or_alone : ℕ → Bool → List Packet → List Packet
or_alone got heard [] = if heard then record { ack = got; body = None } ∷ [] else []
or_alone got heard (p ∷ ps) = p ∷ ps

-- what goes to the other end
abbrev pub due_of : LinkEnd → Bool → Bool → List Packet
due_of l again heard = or_alone l.got heard (with_bodies l again)

-- the end once that is sent
abbrev pub after_due : LinkEnd → LinkEnd
after_due l = moved l l.acked (l.sent + length (unsent l))
