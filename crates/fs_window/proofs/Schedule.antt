-- Both directions of a link are kept by every schedule.
use Rattle.std.proofs.Common.{◌≡◌, ℕ, ◌+◌, ◌^◌, ◌-◌, min, Bool, true, false, leb, length, List, [], ◌∷◌, Option, Some, None, refl, sym, ap, ◌∙◌, arith}
use Rattle.std.specs.Prelude.{slice_get}
use Rattle.std.proofs.lemmas.Bool.{leb-false}
use Rattle.std.proofs.lemmas.List.{length-append, length-drop}
use Rattle.fs_ident.specs.In.{In}
use Rattle.fs_ident.proofs.Standing.{In-both, In-got}
use Rattle.fs_window.specs.declared.packet.Packet.{Packet}
use Rattle.fs_window.specs.LinkEnd.{pushed_count, due_of}
use Rattle.fs_window.specs.Ends.{End, Event, Push, Due, Accept, pushed_on, made_on, accepted_on, happens_at, Ends, happens, run, new_end, new_ends, IsDeliveredPrefix}
use Rattle.fs_window.specs.OnTheWay.{on_the_way, IsPacketOf, HasGiven}
use Rattle.fs_window.proofs.OneStep.{made_packet}
use Rattle.fs_window.proofs.Carried.{given_new, given_pushed, given_sent, given_told, given_back, given_other_pushed, given_other_sent, packet_pushed, packet_sent, packet_told, packet_back, packet_other_pushed, packet_other_sent}

-- one direction of a link is sound: so are its segments, and every packet that was made
pub record IsSound (from to : End) : Type 0 where
  pub segments : HasGiven from.link to.link from.pushed to.given
  pub packets : (p : Packet) → In p from.made → IsPacketOf from.link to.link p

pub kept : (from to : End) → IsSound from to → IsDeliveredPrefix from to
kept from to h =
    let s = h.segments in
    let d = s.direction in
    let len : length to.given + length (on_the_way from.link to.link) ≡ length from.pushed = sym (length-append to.given (on_the_way from.link to.link)) ∙ ap (λ (x : List (List ℕ)). length x) s.all in
    let left = length-drop (to.link.got - min from.link.acked from.link.sent) from.link.waiting in
    record {
      given = (on_the_way from.link to.link, s.all);
      acked = omega (arith, d.acked, s.count);
      pushed = omega (arith, d.acked, d.got, s.count);
      got = s.count;
    }

-- both directions, with the end here first
record AreSound (here there : End) : Type 0 where
  out : IsSound here there
  back : IsSound there here

push_step : (here there : End) (ss : List (List ℕ)) (b : Bool) → leb (2 ^ 64) (pushed_count here.link + length ss) ≡ b → AreSound here there → AreSound (pushed_on b here ss) there
push_step here there ss true e h = h
push_step here there ss false e h =
    let room = leb-false _ _ e in
    record {
      out = record {
        segments = given_pushed here.link there.link here.pushed there.given ss (omega (arith, room)) h.out.segments;
        packets = λ p i. packet_pushed here.link there.link ss p h.out.segments.direction (h.out.packets p i);
      };
      back = record {
        segments = given_other_pushed there.link here.link there.pushed here.given ss h.back.segments;
        packets = λ p i. packet_other_pushed there.link here.link ss p (h.back.packets p i);
      };
    }

due_step : (here there : End) (again heard : Bool) → AreSound here there → AreSound (made_on here again heard) there
due_step here there again heard h =
    let d = h.out.segments.direction in
    record {
      out = record {
        segments = given_sent here.link there.link here.pushed there.given h.out.segments;
        packets = λ p i. packet_sent here.link there.link p d
            (In-both p here.made (due_of here.link again heard) (IsPacketOf here.link there.link p) (h.out.packets p) (made_packet here.link there.link again heard p d) i);
      };
      back = record {
        segments = given_other_sent there.link here.link there.pushed here.given h.back.segments;
        packets = λ p i. packet_other_sent there.link here.link p (h.back.packets p i);
      };
    }

accept_step : (here there : End) (o : Option Packet) → ((p : Packet) → o ≡ Some p → In p there.made) → AreSound here there → AreSound (accepted_on here o) there
accept_step here there None made h = h
accept_step here there (Some p) made h =
    let came = h.back.packets p (made p refl) in
    let out = h.out.segments.direction in
    let back = h.back.segments.direction in
    record {
      out = record {
        segments = given_back here.link there.link here.pushed there.given p came.ack h.out.segments;
        packets = λ q i. packet_back here.link there.link p q out back came (h.out.packets q i);
      };
      back = record {
        segments = given_told there.link here.link there.pushed here.given p came.body h.back.segments;
        packets = λ q i. packet_told there.link here.link p q back came (h.back.packets q i);
      };
    }

-- an event at an end
step : (e : Event) (here there : End) → AreSound here there → AreSound (happens_at e here there) there
step (Push ss) here there h = push_step here there ss (leb (2 ^ 64) (pushed_count here.link + length ss)) refl h
step (Due again heard) here there h = due_step here there again heard h
step (Accept which) here there h = accept_step here there (slice_get there.made which) (λ p e. In-got there.made which p e) h

turned : (here there : End) → AreSound here there → AreSound there here
turned here there h = record { out = h.back; back = h.out }

both_step : (e : Bool × Event) (w : Ends) → AreSound w.left w.right → AreSound (happens w e).left (happens w e).right
both_step (true, e) w h = step e w.left w.right h
both_step (false, e) w h = turned (happens_at e w.right w.left) w.left (step e w.right w.left (turned w.left w.right h))

run_sound : (es : List (Bool × Event)) (w : Ends) → AreSound w.left w.right → AreSound (run es w).left (run es w).right
run_sound [] w h = h
run_sound (e ∷ es) w h = run_sound es (happens w e) (both_step e w h)

new_sound : (a b : ℕ) → IsSound (new_end a) (new_end b)
new_sound a b = record { segments = given_new a b; packets = λ p i. absurd i }

always_sound : (left right : ℕ) (es : List (Bool × Event)) → AreSound (run es (new_ends left right)).left (run es (new_ends left right)).right
always_sound left right es = run_sound es (new_ends left right) (record { out = new_sound left right; back = new_sound right left })

pub to_the_right : (left right : ℕ) (es : List (Bool × Event)) → IsDeliveredPrefix (run es (new_ends left right)).left (run es (new_ends left right)).right
to_the_right left right es = kept _ _ (always_sound left right es).out

pub to_the_left : (left right : ℕ) (es : List (Bool × Event)) → IsDeliveredPrefix (run es (new_ends left right)).right (run es (new_ends left right)).left
to_the_left left right es = kept _ _ (always_sound left right es).back
