-- The links of two actors with each other: what is pushed, what goes out, and what comes.
use Rattle.std.proofs.Common.{◌≡◌, ℕ, ◌+◌, ◌<◌, ◌^◌, Bool, List, [], ◌∷◌, ◌++◌, length, map, Some, sym, ap, subst, ◌∙◌}
use Rattle.std.specs.List.{AllByRecursion}
use Rattle.std.proofs.lemmas.List.{map-append}
use Rattle.fs_ident.specs.In.{In}
use Rattle.fs_ident.specs.declared.actor.Peer.{Peer}
use Rattle.fs_ident.proofs.Standing.{In-both}
use Rattle.fs_frag.specs.Cut.{cut_of}
use Rattle.fs_frag.specs.declared.joined.Joined.{Joined}
use Rattle.fs_frag.specs.declared.joined.Joined.TheVariants.{Whole}
use Rattle.fs_window.specs.declared.link.Link.{Link}
use Rattle.fs_window.specs.declared.packet.Packet.{Packet}
use Rattle.fs_window.specs.declared.sent.Sent.{Sent}
use Rattle.fs_window.specs.LinkEnd.{due_of, pushed_count}
use Rattle.fs_window.specs.OnTheWay.{Carries, HasHeard, IsPacketOf}
use Rattle.fs_window.specs.Packet.{packet_text}
use Rattle.fs_window.specs.Post.{heard_on, link_accepted, link_pushed, link_sent, new_link}
use Rattle.fs_window.specs.Reading.{packet_at}
use Rattle.fs_window.proofs.Carried.{carries_new, carries_pushed, carries_sent, carries_told, carries_back, carries_other_pushed}
use Rattle.fs_window.proofs.Carried.{carries_other_sent, made_fits, packet_pushed, packet_sent, packet_told, packet_back}
use Rattle.fs_window.proofs.Carried.{packet_other_pushed, packet_other_sent}
use Rattle.fs_window.proofs.Lists.{some_is}
use Rattle.fs_window.proofs.OneStep.{made_packet}
use Rattle.fs_window.proofs.ReadBack.{written}
use Rattle.fs_msg.specs.Ranges.{FitsMessage}
use Rattle.fs_msg.specs.Spelling.{message}
use Rattle.fs_msg.specs.declared.msg.Msg.{Msg}
use Rattle.fs_world.specs.Served.{link_width}
use Rattle.fs_world.specs.Within.{IsInRange}
use Rattle.fs_world.specs.Linked.{AreFirstOf, IsPair, IsSentOver, IsWay}

-- both directions: these messages go out, and those come back
pub record BothWays (a b : Peer) (here there : Link) (out back : List Msg) (packets : List Sent) : Type 0 where
  pub going : IsPair a b here there out packets
  pub coming : IsPair b a there here back packets

-- no packet goes from the one to the other
abbrev pub GoesElsewhere : Peer → Peer → List Sent → Type 0
GoesElsewhere a b packets = (x : Sent) → In x packets → x.from ≡ a → x.to ≡ b → ⊥

-- two new links
pub both_new : (a b : Peer) (packets : List Sent) → GoesElsewhere a b packets → GoesElsewhere b a packets
    → BothWays a b (new_link link_width) (new_link link_width) [] [] packets
both_new a b packets g k = record {
  going = record { way = record { carries = carries_new link_width link_width; fits = tt }; packets = λ x i e f. absurd (g x i e f) };
  coming = record { way = record { carries = carries_new link_width link_width; fits = tt }; packets = λ x i e f. absurd (k x i e f) };
}

-- packets go out elsewhere
pub pair_elsewhere : (a b : Peer) (from to : Link) (messages : List Msg) (packets more : List Sent) → GoesElsewhere a b more
    → IsPair a b from to messages packets → IsPair a b from to messages (packets ++ more)
pair_elsewhere a b from to messages packets more g h = record {
  way = h.way;
  packets = λ x i e f. In-both x packets more (IsSentOver from to x.bytes) (λ j. h.packets x j e f) (λ j. absurd (g x j e f)) i;
}

-- ## A message is pushed

fits_more : (ms : List Msg) (m : Msg) → AllByRecursion IsInRange ms → IsInRange m → AllByRecursion IsInRange (ms ++ m ∷ [])
fits_more [] m h f = (f, tt)
fits_more (x ∷ xs) m h f = (h.0, fits_more xs m h.1 f)

pub both_pushed : (a b : Peer) (here there : Link) (out back : List Msg) (packets : List Sent) (m : Msg) → FitsMessage m
    → length (message m) < 2 ^ 64 → pushed_count here.window + length (cut_of (message m)) < 2 ^ 64
    → BothWays a b here there out back packets → BothWays a b (link_pushed here (message m)) there (out ++ m ∷ []) back packets
both_pushed a b here there out back packets m fits short room h = record {
  going = record {
    way = record {
      carries = subst (λ (ms : List (List ℕ)). Carries (link_pushed here (message m)) there ms) (sym (map-append message out (m ∷ [])))
          (carries_pushed here there (map message out) (message m) short room h.going.way.carries);
      fits = fits_more out m h.going.way.fits (record { short = short; fits = fits });
    };
    packets = λ x i e f. going (h.going.packets x i e f);
  };
  coming = record {
    way = record {
      carries = carries_other_pushed there here (map message back) (message m) h.coming.way.carries;
      fits =
          h.coming.way.fits;
    };
    packets = λ x i e f. coming (h.coming.packets x i e f);
  };
}
  where
    going : {bytes : List ℕ} → IsSentOver here there bytes → IsSentOver (link_pushed here (message m)) there bytes
    going q = record {
      packet = q.packet;
      spelled = q.spelled;
      text = q.text;
      of =
          packet_pushed here.window there.window (cut_of (message m)) q.packet h.going.way.carries.direction q.of;
    }

    coming : {bytes : List ℕ} → IsSentOver there here bytes → IsSentOver there (link_pushed here (message m)) bytes
    coming q = record {
      packet = q.packet;
      spelled = q.spelled;
      text = q.text;
      of =
          packet_other_pushed there.window here.window (cut_of (message m)) q.packet q.of;
    }

-- ## What is due goes out

-- the bytes are those of a packet that is due
pub record IsDue (here : Link) (bytes : List ℕ) : Type 0 where
  pub again : Bool
  pub heard : Bool
  pub packet : Packet
  pub due : In packet (due_of here.window again heard)
  pub text : bytes ≡ packet_text packet

pub both_due : (a b : Peer) (here there : Link) (out back : List Msg) (packets more : List Sent)
    → ((x : Sent) → In x more → x.from ≡ a → x.to ≡ b → IsDue here x.bytes) → GoesElsewhere b a more
    → BothWays a b here there out back packets → BothWays a b (link_sent here) there out back (packets ++ more)
both_due a b here there out back packets more due elsewhere h = record {
  going = record {
    way = record { carries = carries_sent here there (map message out) h.going.way.carries; fits = h.going.way.fits };
    packets = λ x i e f. In-both x packets more (IsSentOver (link_sent here) there x.bytes) (λ j. going (h.going.packets x j e f))
        (λ j. made (due x j e f)) i;
  };
  coming = record {
    way = record { carries = carries_other_sent there here (map message back) h.coming.way.carries; fits = h.coming.way.fits };
    packets = λ x i e f. In-both x packets more (IsSentOver there (link_sent here) x.bytes) (λ j. coming (h.coming.packets x j e f))
        (λ j. absurd (elsewhere x j e f)) i;
  };
}
  where
    going : {bytes : List ℕ} → IsSentOver here there bytes → IsSentOver (link_sent here) there bytes
    going q = record {
      packet = q.packet;
      spelled = q.spelled;
      text = q.text;
      of =
          packet_sent here.window there.window q.packet h.going.way.carries.direction q.of;
    }

    coming : {bytes : List ℕ} → IsSentOver there here bytes → IsSentOver there (link_sent here) bytes
    coming q = record {
      packet = q.packet;
      spelled = q.spelled;
      text = q.text;
      of =
          packet_other_sent there.window here.window q.packet q.of;
    }

    made : {bytes : List ℕ} → IsDue here bytes → IsSentOver (link_sent here) there bytes
    made q = record {
      packet = q.packet;
      spelled =
          made_fits here there (map message out) (map message back) q.again q.heard q.packet h.going.way.carries h.coming.way.carries q.due;
      text = q.text;
      of = packet_sent here.window there.window q.packet h.going.way.carries.direction
          (made_packet here.window there.window q.again q.heard q.packet h.going.way.carries.direction q.due);
    }

-- ## A packet comes

-- the packet that was sent is the one that is read
pub read_of : (from to : Link) (bytes : List ℕ) (p : Packet) → packet_at bytes ≡ Some p → IsSentOver from to bytes
    → IsPacketOf from.window to.window p
read_of from to bytes p e h = subst (λ (q : Packet). IsPacketOf from.window to.window q)
    (some_is h.packet p (sym (written h.packet h.spelled) ∙ ap packet_at (sym h.text) ∙ e)) h.of

-- the messages that are left where so many of them were joined
abbrev pub rest_of : {X : Type 0} → List Joined → List X → List X
rest_of [] ms = ms
rest_of (j ∷ js) [] = []
rest_of (j ∷ js) (m ∷ ms) = rest_of js ms

-- where these come whole
record AreFirst (joined : List Joined) (others : List (List ℕ)) (messages : List Msg) : Type 0 where
  rest : others ≡ map message (rest_of joined messages)
  first : AreFirstOf joined messages
  fits : AllByRecursion IsInRange (rest_of joined messages)

parted : (joined : List Joined) (whole rest : List (List ℕ)) (ms : List Msg) → joined ≡ map Whole whole → whole ++ rest ≡ map message ms
    → AllByRecursion IsInRange ms → AreFirst joined rest ms
parted [] [] rest ms e all fits = record { rest = all; first = tt; fits = fits }
parted [] (w ∷ ws) rest ms e all fits = absurd (cc)
parted (j ∷ js) [] rest ms e all fits = absurd (cc)
parted (j ∷ js) (w ∷ ws) rest [] e all fits = absurd (cc)
parted (j ∷ js) (w ∷ ws) rest (m ∷ ms) e all fits =
    let is : j ≡ Whole w = cc in
    let same : w ≡ message m = cc in
    let others : js ≡ map Whole ws = cc in
    let left : ws ++ rest ≡ map message ms = cc in
    let later = parted js ws rest ms others left fits.1 in
    record { rest = later.rest; first = ((is ∙ ap Whole same, fits.0.fits), later.first); fits = later.fits }

heard_first : (from to : Link) (ms : List Msg) (p : Packet) → IsPacketOf from.window to.window p → IsWay from to ms
    → (rest : List (List ℕ)) × (AreFirst (heard_on to p).joined rest ms × Carries from (link_accepted to p) rest)
heard_first from to ms p q h =
    let t : HasHeard from to p (map message ms) = carries_told from to (map message ms) p q.body h.carries in
    (t.rest, (parted (heard_on to p).joined t.whole t.rest ms t.joined t.all h.fits, t.carries))

-- what it completes are the first messages on their way
pub first_joined : (from to : Link) (messages : List Msg) (p : Packet) → IsPacketOf from.window to.window p → IsWay from to messages
    → AreFirstOf (heard_on to p).joined messages
first_joined from to messages p q h = (heard_first from to messages p q h).1.0.first

pub both_accepted : (a b : Peer) (here there : Link) (out back : List Msg) (packets : List Sent) (p : Packet)
    → IsPacketOf there.window here.window p → BothWays a b here there out back packets
    → BothWays a b (link_accepted here p) there out (rest_of (heard_on here p).joined back) packets
both_accepted a b here there out back packets p q h =
    let t = heard_first there here back p q h.coming.way in
    record {
      going = record {
        way = record { carries = carries_back here there (map message out) p q.ack h.going.way.carries; fits = h.going.way.fits };
        packets = λ x i e f. going (h.going.packets x i e f);
      };
      coming = record {
        way = record {
          carries = subst (λ (ms : List (List ℕ)). Carries there (link_accepted here p) ms) t.1.0.rest t.1.1;
          fits =
              t.1.0.fits;
        };
        packets = λ x i e f. coming (h.coming.packets x i e f);
      };
    }
  where
    going : {bytes : List ℕ} → IsSentOver here there bytes → IsSentOver (link_accepted here p) there bytes
    going r = record {
      packet = r.packet;
      spelled = r.spelled;
      text = r.text;
      of =
          packet_back here.window there.window p r.packet h.going.way.carries.direction h.coming.way.carries.direction q r.of;
    }

    coming : {bytes : List ℕ} → IsSentOver there here bytes → IsSentOver there (link_accepted here p) bytes
    coming r = record {
      packet = r.packet;
      spelled = r.spelled;
      text = r.text;
      of =
          packet_told there.window here.window p r.packet h.coming.way.carries.direction q r.of;
    }
