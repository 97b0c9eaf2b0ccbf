-- What was pushed and given, and what messages a link carries, from event to event.
use Rattle.std.proofs.Common.{◌≡◌, ℕ, ◌+◌, ◌-◌, ◌^◌, ◌<◌, ◌≤◌, min, Bool, List, [], ◌∷◌, ◌++◌, length, Option, Some, None, refl, sym, ap, subst, ◌∙◌, append_assoc, arith}
use Rattle.std.proofs.lemmas.List.{length-append}
use Rattle.fs_ident.specs.In.{In}
use Rattle.fs_ident.proofs.Standing.{In-both}
use Rattle.fs_frag.specs.Coming.{IsComing}
use Rattle.fs_frag.specs.Cut.{cut_of}
use Rattle.fs_frag.specs.Joined.{answers, messages_of}
use Rattle.fs_frag.specs.Segment.{IsSegment}
use Rattle.fs_frag.proofs.Pieces.{cut_in}
use Rattle.fs_frag.proofs.StillComing.{coming_none, coming_more, coming_now}
use Rattle.fs_window.specs.declared.link.Link.{Link}
use Rattle.fs_window.specs.declared.packet.Packet.{Packet}
use Rattle.fs_window.specs.Ends.{IsPrefixOf}
use Rattle.fs_window.specs.LinkEnd.{LinkEnd, new_link_end, pushed_count, after_pushes, acked_after, unsent, given_by, after_accept, due_of, after_due}
use Rattle.fs_window.specs.OnTheWay.{on_the_way, IsDirection, IsBodyOf, IsPacketOf, HasGiven, Carries, HasHeard}
use Rattle.fs_window.specs.Packet.{IsBody, IsPacket}
use Rattle.fs_window.specs.Post.{new_link, link_pushed, link_accepted, link_sent, given_on}
use Rattle.fs_window.proofs.Lists.{in_dropped}
use Rattle.fs_window.proofs.OneStep.{BodyIs, made_packet, made_waits, new_direction, pushed_direction, pushed_way, pushed_body, sent_direction, sent_way, sent_body, back_direction, back_way, back_body, given, told_direction, told_way, told_body}

-- ---- segments

pub given_new : (a b : ℕ) → HasGiven (new_link_end a) (new_link_end b) [] []
given_new a b = record { direction = new_direction a b; count = refl; all = refl }

pub given_prefix : (from to : LinkEnd) (pushed gave : List (List ℕ)) → HasGiven from to pushed gave → IsPrefixOf gave pushed
given_prefix from to pushed gave h = (on_the_way from to, h.all)

pub given_pushed : (from to : LinkEnd) (pushed gave ss : List (List ℕ)) → pushed_count from + length ss < 2 ^ 64 → HasGiven from to pushed gave → HasGiven (after_pushes from ss) to (pushed ++ ss) gave
given_pushed from to pushed gave ss room h = record {
  direction = pushed_direction from to ss room h.direction;
  count = h.count;
  all = ap (λ (w : List (List ℕ)). gave ++ w) (pushed_way from to ss h.direction) ∙ sym (append_assoc gave (on_the_way from to) ss) ∙ ap (λ (x : List (List ℕ)). x ++ ss) h.all;
}

pub given_sent : (from to : LinkEnd) (pushed gave : List (List ℕ)) → HasGiven from to pushed gave → HasGiven (after_due from) to pushed gave
given_sent from to pushed gave h = record {
  direction = sent_direction from to h.direction;
  count = h.count;
  all = ap (λ (w : List (List ℕ)). gave ++ w) (sent_way from to h.direction) ∙ h.all;
}

pub given_back : (from to : LinkEnd) (pushed gave : List (List ℕ)) (p : Packet) → p.ack ≤ to.got → HasGiven from to pushed gave → HasGiven (after_accept from p) to pushed gave
given_back from to pushed gave p fits h = record {
  direction = back_direction from to p fits h.direction;
  count = h.count;
  all = ap (λ (w : List (List ℕ)). gave ++ w) (back_way from to p fits h.direction) ∙ h.all;
}

pub given_told : (from to : LinkEnd) (pushed gave : List (List ℕ)) (p : Packet) → IsBodyOf from to p.body → HasGiven from to pushed gave → HasGiven from (after_accept to p) pushed (gave ++ given_by to p.body)
given_told from to pushed gave p b h =
    let gs = given_by to p.body in
    record {
      direction = told_direction from to p b h.direction;
      count = omega (arith, (given from to p.body h.direction b).count, h.count, length-append gave gs);
      all = append_assoc gave gs (on_the_way from (after_accept to p)) ∙ ap (λ (w : List (List ℕ)). gave ++ w) (sym (told_way from to p b h.direction)) ∙ h.all;
    }

-- what the other end pushes and sends changes nothing
pub given_other_pushed : (from to : LinkEnd) (pushed gave ss : List (List ℕ)) → HasGiven from to pushed gave → HasGiven from (after_pushes to ss) pushed gave
given_other_pushed from to pushed gave ss h = record { direction = other h.direction; count = h.count; all = h.all }
  where
    other : IsDirection from to → IsDirection from (after_pushes to ss)
    other d = record { few = d.few; sent = d.sent; acked = d.acked; got = d.got; kept = d.kept }

pub given_other_sent : (from to : LinkEnd) (pushed gave : List (List ℕ)) → HasGiven from to pushed gave → HasGiven from (after_due to) pushed gave
given_other_sent from to pushed gave h = record { direction = other h.direction; count = h.count; all = h.all }
  where
    other : IsDirection from to → IsDirection from (after_due to)
    other d = record { few = d.few; sent = d.sent; acked = d.acked; got = d.got; kept = d.kept }

-- ---- packets

pub packet_pushed : (from to : LinkEnd) (ss : List (List ℕ)) (p : Packet) → IsDirection from to → IsPacketOf from to p → IsPacketOf (after_pushes from ss) to p
packet_pushed from to ss p h q = record { ack = q.ack; body = pushed_body from to ss p.body h q.body }

pub packet_sent : (from to : LinkEnd) (p : Packet) → IsDirection from to → IsPacketOf from to p → IsPacketOf (after_due from) to p
packet_sent from to p h q = record { ack = q.ack; body = sent_body from to p.body h q.body }

-- a packet comes at this end, from the other
pub packet_back : (from to : LinkEnd) (came p : Packet) → IsDirection from to → IsDirection to from → IsPacketOf to from came → IsPacketOf from to p → IsPacketOf (after_accept from came) to p
packet_back from to came p h back c q =
    let g = (given to from came.body back c.body).count in
    record { ack = omega (arith, q.ack); body = back_body from to came p.body c.ack h q.body }

-- a packet of this end comes at the other
pub packet_told : (from to : LinkEnd) (came p : Packet) → IsDirection from to → IsPacketOf from to came → IsPacketOf from to p → IsPacketOf from (after_accept to came) p
packet_told from to came p h c q = record { ack = q.ack; body = told_body from to came p.body c.body h q.body }

-- what the other end pushes and sends changes nothing
pub packet_other_pushed : (from to : LinkEnd) (ss : List (List ℕ)) (p : Packet) → IsPacketOf from to p → IsPacketOf from (after_pushes to ss) p
packet_other_pushed from to ss p q = record { ack = q.ack; body = q.body }

pub packet_other_sent : (from to : LinkEnd) (p : Packet) → IsPacketOf from to p → IsPacketOf from (after_due to) p
packet_other_sent from to p q = record { ack = q.ack; body = q.body }

-- ---- messages

along : (held : List ℕ) (new old ms : List (List ℕ)) → new ≡ old → IsComing held old ms → IsComing held new ms
along held new old ms e h = subst (λ (w : List (List ℕ)). IsComing held w ms) (sym e) h

pub carries_new : (a b : ℕ) → Carries (new_link a) (new_link b) []
carries_new a b = record { segments = λ s i. absurd i; direction = new_direction a b; coming = coming_none }

pub carries_pushed : (from to : Link) (ms : List (List ℕ)) (m : List ℕ) → length m < 2 ^ 64 → pushed_count from.window + length (cut_of m) < 2 ^ 64 → Carries from to ms → Carries (link_pushed from m) to (ms ++ m ∷ [])
carries_pushed from to ms m lt room h = record {
  segments = λ s i. In-both s from.window.waiting (cut_of m) (IsSegment s) (h.segments s) (cut_in m s) i;
  direction = pushed_direction from.window to.window (cut_of m) room h.direction;
  coming = along to.joiner (on_the_way (after_pushes from.window (cut_of m)) to.window) (on_the_way from.window to.window ++ cut_of m) (ms ++ m ∷ [])
      (pushed_way from.window to.window (cut_of m) h.direction) (coming_more to.joiner (on_the_way from.window to.window) ms m lt h.coming);
}

pub carries_sent : (from to : Link) (ms : List (List ℕ)) → Carries from to ms → Carries (link_sent from) to ms
carries_sent from to ms h = record {
  segments = λ s i. h.segments s (in_dropped (min from.window.acked (from.window.sent + length (unsent from.window)) - min from.window.acked from.window.sent) from.window.waiting s i);
  direction = sent_direction from.window to.window h.direction;
  coming = along to.joiner (on_the_way (after_due from.window) to.window) (on_the_way from.window to.window) ms (sent_way from.window to.window h.direction) h.coming;
}

pub carries_back : (from to : Link) (ms : List (List ℕ)) (p : Packet) → p.ack ≤ to.window.got → Carries from to ms → Carries (link_accepted from p) to ms
carries_back from to ms p fits h = record {
  segments = λ s i. h.segments s (in_dropped (min (acked_after from.window p.ack) from.window.sent - min from.window.acked from.window.sent) from.window.waiting s i);
  direction = back_direction from.window to.window p fits h.direction;
  coming = along to.joiner (on_the_way (after_accept from.window p) to.window) (on_the_way from.window to.window) ms (back_way from.window to.window p fits h.direction) h.coming;
}

pub carries_told : (from to : Link) (ms : List (List ℕ)) (p : Packet) → IsBodyOf from.window to.window p.body → Carries from to ms → HasHeard from to p ms
carries_told from to ms p b h =
    let gs = given_on to p in
    let later = on_the_way from.window (after_accept to.window p) in
    let way = told_way from.window to.window p b h.direction in
    let come = coming_now to.joiner gs later ms (along to.joiner (gs ++ later) (on_the_way from.window to.window) ms (sym way) h.coming) in
    record {
      whole = messages_of (answers to.joiner gs);
      joined = come.joined;
      rest = come.rest;
      all = come.messages_now;
      carries = record { segments = h.segments; direction = told_direction from.window to.window p b h.direction; coming = come.coming };
      count = (given from.window to.window p.body h.direction b).count;
    }

pub carries_other_pushed : (from to : Link) (ms : List (List ℕ)) (m : List ℕ) → Carries from to ms → Carries from (link_pushed to m) ms
carries_other_pushed from to ms m h = record { segments = h.segments; direction = other h.direction; coming = h.coming }
  where
    other : IsDirection from.window to.window → IsDirection from.window (after_pushes to.window (cut_of m))
    other d = record { few = d.few; sent = d.sent; acked = d.acked; got = d.got; kept = d.kept }

pub carries_other_sent : (from to : Link) (ms : List (List ℕ)) → Carries from to ms → Carries from (link_sent to) ms
carries_other_sent from to ms h = record { segments = h.segments; direction = other h.direction; coming = h.coming }
  where
    other : IsDirection from.window to.window → IsDirection from.window (after_due to.window)
    other d = record { few = d.few; sent = d.sent; acked = d.acked; got = d.got; kept = d.kept }

-- ---- what is made can be written down

body_fits : (from to : LinkEnd) (body : Option (ℕ × List ℕ)) → IsDirection from to → ((s : List ℕ) → In s from.waiting → IsSegment s) → IsBodyOf from to body → BodyIs (λ s. In s from.waiting) body → IsBody body
body_fits from to None d f b w = tt
body_fits from to (Some x) d f b w = (
  (let low = b.0 in let few = d.few in omega arith),
  f x.1 w,
)

pub made_fits : (from to : Link) (ms back : List (List ℕ)) (again heard : Bool) (p : Packet) → Carries from to ms → Carries to from back → In p (due_of from.window again heard) → IsPacket p
made_fits from to ms back again heard p h k i =
    let q = made_packet from.window to.window again heard p h.direction i in
    let d = k.direction in
    let a = q.ack in
    let g = d.got in
    let few = d.few in
    record { ack = omega arith; body = body_fits from.window to.window p.body h.direction h.segments q.body (made_waits from.window again heard p i) }
