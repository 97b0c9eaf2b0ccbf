-- What one event does to one direction of a link.
use Rattle.std.proofs.Common.{◌≡◌, ℕ, zero, suc, ◌+◌, ◌-◌, ◌^◌, ◌<◌, ◌≤◌, min, max, Bool, true, false, cond, eqb, leb, List, [], ◌∷◌, ◌++◌, length, take, drop, Option, Some, None, refl, sym, ap, subst, ◌∙◌, inl, inr, arith}
use Rattle.std.specs.Prelude.{slice_get}
use Rattle.std.proofs.lemmas.Bool.{cases_lt, eqb-true, ltb-true}
use Rattle.std.proofs.lemmas.List.{length-append, length-drop, length-take, drop-append-le, drop-drop}
use Rattle.fs_ident.specs.In.{In}
use Rattle.fs_ident.proofs.Booleans.{first}
use Rattle.fs_ident.proofs.Standing.{In-both}
use Rattle.fs_window.specs.declared.packet.Packet.{Packet}
use Rattle.fs_window.specs.LinkEnd.{LinkEnd, new_link_end, pushed_count, after_pushes, moved, acked_after, without_hole, given_by, with_kept, is_early, kept_by, got_after, after_accept, packets_from, unsent, unacked, with_bodies, or_alone, due_of, after_due}
use Rattle.fs_window.specs.OnTheWay.{on_the_way, AreOnTheWay, IsDirection, IsBodyOf, IsPacketOf}
use Rattle.fs_window.proofs.Slots.{front_of, got_kept}
use Rattle.fs_window.proofs.Lists.{none_of, some_of, some_is, get_more, get_drop, get_past, get_behind, drop_next, in_dropped, in_taken}

-- ---- new ends

pub new_direction : (a b : ℕ) → IsDirection (new_link_end a) (new_link_end b)
new_direction a b = record { few = omega arith; sent = omega arith; acked = omega arith; got = omega arith; kept = λ i s e. absurd (none_kept s e) }
  where
    none_kept : (s : List ℕ) → none_of ≡ some_of (some_of s) → ⊥
    none_kept s e = cc

-- ---- segments are pushed

-- they are on their way behind the others
pub pushed_way : (from to : LinkEnd) (ss : List (List ℕ)) → IsDirection from to → on_the_way (after_pushes from ss) to ≡ on_the_way from to ++ ss
pushed_way from to ss h = drop-append-le (to.got - min from.acked from.sent) from.waiting ss (omega (arith, h.got))

pub pushed_direction : (from to : LinkEnd) (ss : List (List ℕ)) → pushed_count from + length ss < 2 ^ 64 → IsDirection from to → IsDirection (after_pushes from ss) to
pushed_direction from to ss room h =
    let len = length-append from.waiting ss in
    record {
      few = omega arith;
      sent = omega (arith, h.sent);
      acked = h.acked;
      got = omega (arith, h.got);
      kept = λ i s e. ap (λ (w : List (List ℕ)). slice_get w (suc i)) (pushed_way from to ss h) ∙ get_more (on_the_way from to) ss (suc i) s (h.kept i s e);
    }

pub pushed_body : (from to : LinkEnd) (ss : List (List ℕ)) (body : Option (ℕ × List ℕ)) → IsDirection from to → IsBodyOf from to body → IsBodyOf (after_pushes from ss) to body
pushed_body from to ss None h b = tt
pushed_body from to ss (Some x) h b = (
  (let low = b.0 in omega (arith, length-append from.waiting ss)),
  λ le. ap (λ (w : List (List ℕ)). slice_get w (x.0 - to.got)) (pushed_way from to ss h) ∙ get_more (on_the_way from to) ss (x.0 - to.got) x.1 (b.1 le),
)

-- ---- numbers rise, and what is sent and acknowledged is let go

-- both numbers rise, as far as they may
record AreNext (from to : LinkEnd) (acked sent : ℕ) : Type 0 where
  acked_rises : from.acked ≤ acked
  sent_rises : from.sent ≤ sent
  acked_fits : acked ≤ to.got
  sent_fits : sent ≤ pushed_count from

moved_count : (from to : LinkEnd) (acked sent : ℕ) → IsDirection from to → AreNext from to acked sent → pushed_count (moved from acked sent) ≡ pushed_count from
moved_count from to acked sent h n =
    let len = length-drop (min acked sent - min from.acked from.sent) from.waiting in
    let a = n.acked_rises in
    let b = n.sent_rises in
    let d = n.sent_fits in
    let e = h.sent in
    omega arith

-- what is on its way stays
moved_way : (from to : LinkEnd) (acked sent : ℕ) → IsDirection from to → AreNext from to acked sent → on_the_way (moved from acked sent) to ≡ on_the_way from to
moved_way from to acked sent h n =
    let a = n.acked_rises in
    let b = n.sent_rises in
    let d = n.acked_fits in
    let old = min from.acked from.sent in
    let new = min acked sent in
    let sum : (new - old) + (to.got - new) ≡ to.got - old = omega arith in
    drop-drop (to.got - new) (new - old) from.waiting ∙ ap (λ (k : ℕ). drop k from.waiting) sum

moved_direction : (from to : LinkEnd) (acked sent : ℕ) → IsDirection from to → AreNext from to acked sent → IsDirection (moved from acked sent) to
moved_direction from to acked sent h n =
    let same = moved_count from to acked sent h n in
    record {
      few = omega (arith, h.few, same);
      sent = omega (arith, n.sent_fits, same);
      acked = n.acked_fits;
      got = omega (arith, h.got, same);
      kept = λ i s e. ap (λ (w : List (List ℕ)). slice_get w (suc i)) (moved_way from to acked sent h n) ∙ h.kept i s e;
    }

-- the same for an end that differs in what it was given
same_body : (from to after : LinkEnd) (body : Option (ℕ × List ℕ)) → pushed_count after ≡ pushed_count from → on_the_way after to ≡ on_the_way from to → IsBodyOf from to body → IsBodyOf after to body
same_body from to after None e w b = tt
same_body from to after (Some x) e w b = (
  (let low = b.0 in omega arith),
  λ le. ap (λ (y : List (List ℕ)). slice_get y (x.0 - to.got)) w ∙ b.1 le,
)

-- ---- packets are made

few_unsent : (from to : LinkEnd) → IsDirection from to → from.sent + length (unsent from) ≤ pushed_count from
few_unsent from to h =
    let s = h.sent in
    omega (arith, length-take (from.acked + from.width - from.sent) (drop (from.sent - from.acked) from.waiting), length-drop (from.sent - from.acked) from.waiting)

sent_next : (from to : LinkEnd) → IsDirection from to → AreNext from to from.acked (from.sent + length (unsent from))
sent_next from to h = record { acked_rises = omega arith; sent_rises = omega arith; acked_fits = h.acked; sent_fits = few_unsent from to h }

pub sent_direction : (from to : LinkEnd) → IsDirection from to → IsDirection (after_due from) to
sent_direction from to h = moved_direction from to from.acked (from.sent + length (unsent from)) h (sent_next from to h)

pub sent_way : (from to : LinkEnd) → IsDirection from to → on_the_way (after_due from) to ≡ on_the_way from to
sent_way from to h = moved_way from to from.acked (from.sent + length (unsent from)) h (sent_next from to h)

pub sent_body : (from to : LinkEnd) (body : Option (ℕ × List ℕ)) → IsDirection from to → IsBodyOf from to body → IsBodyOf (after_due from) to body
sent_body from to body h b = same_body from to (after_due from) body (moved_count from to from.acked (from.sent + length (unsent from)) h (sent_next from to h)) (sent_way from to h) b

-- a segment that waits is on its way
waiting_body : (from to : LinkEnd) (n : ℕ) (s : List ℕ) → IsDirection from to → n < pushed_count from → slice_get from.waiting (n - min from.acked from.sent) ≡ Some s → IsBodyOf from to (Some (n, s))
waiting_body from to n s h low e = (
  low,
  λ le.
      let a = h.acked in
      let old = min from.acked from.sent in
      let sum : (to.got - old) + (n - to.got) ≡ n - old = omega arith in
      get_past from.waiting (to.got - old) (n - to.got) ∙ ap (λ (k : ℕ). slice_get from.waiting k) sum ∙ e,
)

-- packets with segments that wait from the place of their numbers on
bodies_from : (from to : LinkEnd) (ack n k : ℕ) (ws : List (List ℕ)) → IsDirection from to → min from.acked from.sent ≤ n → drop (n - min from.acked from.sent) from.waiting ≡ ws
    → (p : Packet) → In p (packets_from ack n (take k ws)) → (p.ack ≡ ack) × IsBodyOf from to p.body
bodies_from from to ack n zero ws h low e p i = absurd i
bodies_from from to ack n (suc k) [] h low e p i = absurd i
bodies_from from to ack n (suc k) (w ∷ ws) h low e p i =
    let old = min from.acked from.sent in
    let here : slice_get from.waiting (n - old) ≡ Some w = get_drop from.waiting (n - old) w ws e in
    let len : length from.waiting - (n - old) ≡ suc (length ws) = sym (length-drop (n - old) from.waiting) ∙ ap (λ (x : List (List ℕ)). length x) e in
    let next : (n - old) + 1 ≡ (n + 1) - old = omega arith in
    let first : IsBodyOf from to (Some (n, w)) = waiting_body from to n w h (omega arith) here in
    elim i [
      | inl q ↦ (ap (λ (x : Packet). x.ack) q, subst (λ (x : Packet). IsBodyOf from to x.body) (sym q) first)
      | inr j ↦ bodies_from from to ack (n + 1) k ws h (omega arith) (ap (λ (x : ℕ). drop x from.waiting) (sym next) ∙ drop_next from.waiting (n - old) w ws e) p j
    ]

in_due : (l : LinkEnd) (again heard : Bool) (p : Packet) (P : Packet → Type 0) → ((q : Packet) → In q (packets_from l.got l.sent (unsent l)) → P q) → ((q : Packet) → In q (packets_from l.got l.acked (unacked l)) → P q)
    → P (record { ack = l.got; body = None }) → In p (due_of l again heard) → P p
in_due l again heard p P new old alone i = either (with_bodies l again) heard (λ j. In-both p (packets_from l.got l.sent (unsent l)) (cond again (packets_from l.got l.acked (unacked l)) []) (P p) (new p) (chosen again) j) i
  where
    chosen : (b : Bool) → In p (cond b (packets_from l.got l.acked (unacked l)) []) → P p
    chosen true j = old p j
    chosen false j = absurd j

    either : (ps : List Packet) (b : Bool) → (In p ps → P p) → In p (or_alone l.got b ps) → P p
    either [] true f j = elim j [
      | inl e ↦ subst P (sym e) alone
      | inr k ↦ absurd k
    ]
    either [] false f j = absurd j
    either (q ∷ ps) b f j = f j

-- what an end makes
pub made_packet : (from to : LinkEnd) (again heard : Bool) (p : Packet) → IsDirection from to → In p (due_of from again heard) → IsPacketOf from to p
made_packet from to again heard p h i = in_due from again heard p (λ (q : Packet). IsPacketOf from to q) new old (record { ack = omega arith; body = tt }) i
  where
    packet : (q : Packet) → (q.ack ≡ from.got) × IsBodyOf from to q.body → IsPacketOf from to q
    packet q b = record { ack = omega (arith, b.0); body = b.1 }

    new : (q : Packet) → In q (packets_from from.got from.sent (unsent from)) → IsPacketOf from to q
    new q j =
        let back : from.sent - min from.acked from.sent ≡ from.sent - from.acked = omega arith in
        packet q (bodies_from from to from.got from.sent (from.acked + from.width - from.sent) (drop (from.sent - from.acked) from.waiting) h (omega arith) (ap (λ (k : ℕ). drop k from.waiting) back) q j)

    old : (q : Packet) → In q (packets_from from.got from.acked (unacked from)) → IsPacketOf from to q
    old q j =
        elim (cases_lt from.sent from.acked) [
          | inl lt ↦ (let none : from.sent - from.acked ≡ 0 = omega arith in
              absurd (subst (λ (k : ℕ). In q (packets_from from.got from.acked (take k from.waiting))) none j))
          | inr le ↦ (let first : from.acked - min from.acked from.sent ≡ 0 = omega arith in
              packet q (bodies_from from to from.got from.acked (from.sent - from.acked) from.waiting h (omega arith) (ap (λ (k : ℕ). drop k from.waiting) first) q j))
        ]

-- what is said of the segment of a body, if there is one
abbrev pub BodyIs : (List ℕ → Type 0) → Option (ℕ × List ℕ) → Type 0
BodyIs P None = Unit {0}
BodyIs P (Some b) = P b.1

bodies_are : (P : List ℕ → Type 0) (ack n : ℕ) (ss : List (List ℕ)) → ((s : List ℕ) → In s ss → P s) → (p : Packet) → In p (packets_from ack n ss) → BodyIs P p.body
bodies_are P ack n [] f p i = absurd i
bodies_are P ack n (s ∷ ss) f p i = elim i [
  | inl e ↦ subst (λ (x : Packet). BodyIs P x.body) (sym e) (f s (inl refl))
  | inr j ↦ bodies_are P ack (n + 1) ss (λ t k. f t (inr k)) p j
]

-- what an end makes has segments that wait there
pub made_waits : (l : LinkEnd) (again heard : Bool) (p : Packet) → In p (due_of l again heard) → BodyIs (λ s. In s l.waiting) p.body
made_waits l again heard p i =
    in_due l again heard p (λ (q : Packet). BodyIs (λ s. In s l.waiting) q.body)
    (bodies_are (λ s. In s l.waiting) l.got l.sent (unsent l) (λ s k. in_dropped (l.sent - l.acked) l.waiting s (in_taken (l.acked + l.width - l.sent) (drop (l.sent - l.acked) l.waiting) s k)))
    (bodies_are (λ s. In s l.waiting) l.got l.acked (unacked l) (λ s k. in_taken (l.sent - l.acked) l.waiting s k))
    tt i

-- ---- a packet of the other end comes back

acked_within : (l : LinkEnd) (ack got : ℕ) → l.acked ≤ got → ack ≤ got → acked_after l ack ≤ got
acked_within l ack got h k = go (leb ack (pushed_count l))
  where
    go : (b : Bool) → cond b (max l.acked ack) l.acked ≤ got
    go true = omega arith
    go false = h

acked_rises : (l : LinkEnd) (ack : ℕ) → l.acked ≤ acked_after l ack
acked_rises l ack = go (leb ack (pushed_count l))
  where
    go : (b : Bool) → l.acked ≤ cond b (max l.acked ack) l.acked
    go true = omega arith
    go false = omega arith

told_next : (from to : LinkEnd) (p : Packet) → p.ack ≤ to.got → IsDirection from to → AreNext from to (acked_after from p.ack) from.sent
told_next from to p fits h = record { acked_rises = acked_rises from p.ack; sent_rises = omega arith; acked_fits = acked_within from p.ack to.got h.acked fits; sent_fits = h.sent }

pub back_direction : (from to : LinkEnd) (p : Packet) → p.ack ≤ to.got → IsDirection from to → IsDirection (after_accept from p) to
back_direction from to p fits h =
    let d = moved_direction from to (acked_after from p.ack) from.sent h (told_next from to p fits h) in
    record { few = d.few; sent = d.sent; acked = d.acked; got = d.got; kept = d.kept }

pub back_way : (from to : LinkEnd) (p : Packet) → p.ack ≤ to.got → IsDirection from to → on_the_way (after_accept from p) to ≡ on_the_way from to
back_way from to p fits h = moved_way from to (acked_after from p.ack) from.sent h (told_next from to p fits h)

pub back_body : (from to : LinkEnd) (p : Packet) (body : Option (ℕ × List ℕ)) → p.ack ≤ to.got → IsDirection from to → IsBodyOf from to body → IsBodyOf (after_accept from p) to body
back_body from to p body fits h b = same_body from to (after_accept from p) body (moved_count from to (acked_after from p.ack) from.sent h (told_next from to p fits h)) (back_way from to p fits h) b

-- ---- a packet of this end comes at the other

-- what a body gives begins what is on its way
pub record IsGiven (from to : LinkEnd) (gs : List (List ℕ)) : Type 0 where
  pub count : got_after to.got (length gs) ≡ to.got + length gs
  pub few : to.got + length gs ≤ pushed_count from
  pub way : on_the_way from to ≡ gs ++ drop (to.got + length gs - min from.acked from.sent) from.waiting

is_given : (from to : LinkEnd) (gs : List (List ℕ)) → IsDirection from to → on_the_way from to ≡ gs ++ drop (to.got + length gs - min from.acked from.sent) from.waiting → IsGiven from to gs
is_given from to gs h way =
    let old = min from.acked from.sent in
    let rest = drop (to.got + length gs - old) from.waiting in
    let a = h.acked in
    let g = h.got in
    let f = h.few in
    let left = length-drop (to.got - old) from.waiting in
    let len : length (on_the_way from to) ≡ length gs + length rest = ap (λ (x : List (List ℕ)). length x) way ∙ length-append gs rest in
    record { count = omega arith; few = omega arith; way = way }

given_none : (from to : LinkEnd) → IsDirection from to → IsGiven from to []
given_none from to h =
    let same : to.got - min from.acked from.sent ≡ to.got + 0 - min from.acked from.sent = omega arith in
    is_given from to [] h (ap (λ (k : ℕ). drop k from.waiting) same)

-- the next one, and those kept that follow
given_some : (from to : LinkEnd) (s : List ℕ) → IsDirection from to → slice_get (on_the_way from to) 0 ≡ Some s → IsGiven from to (s ∷ without_hole to.kept)
given_some from to s h e =
    let a = h.acked in
    let old = min from.acked from.sent in
    let way = on_the_way from to in
    let next = without_hole to.kept in
    let sum : length next + (1 + (to.got - old)) ≡ to.got + length (s ∷ next) - old = omega arith in
    let head : way ≡ s ∷ drop 1 way = split way e in
    let tail : drop 1 way ≡ next ++ drop (length next) (drop 1 way) = front_of to.kept (drop 1 way) (λ i t k. ap (λ (w : List (List ℕ)). slice_get w (suc i)) (sym head) ∙ h.kept i t k) in
    let rest : drop (length next) (drop 1 way) ≡ drop (to.got + length (s ∷ next) - old) from.waiting =
    ap (λ (x : List (List ℕ)). drop (length next) x) (drop-drop 1 (to.got - old) from.waiting) ∙ drop-drop (length next) ((to.got - old) + 1) from.waiting ∙ ap (λ (k : ℕ). drop k from.waiting) (omega (arith, sum)) in
    is_given from to (s ∷ next) h (head ∙ ap (λ (x : List (List ℕ)). s ∷ x) (tail ∙ ap (λ (x : List (List ℕ)). next ++ x) rest))
  where
    split : (xs : List (List ℕ)) → slice_get xs 0 ≡ Some s → xs ≡ s ∷ drop 1 xs
    split [] q = absurd cc
    split (x ∷ xs) q = ap (λ (y : List ℕ). y ∷ xs) (some_is x s q)

pub given : (from to : LinkEnd) (body : Option (ℕ × List ℕ)) → IsDirection from to → IsBodyOf from to body → IsGiven from to (given_by to body)
given from to None h b = given_none from to h
given from to (Some x) h b = go (eqb x.0 to.got) refl
  where
    go : (next : Bool) → eqb x.0 to.got ≡ next → IsGiven from to (cond next (x.1 ∷ without_hole to.kept) [])
    go true is =
        let same : x.0 ≡ to.got = eqb-true x.0 to.got is in
        let none : x.0 - to.got ≡ 0 = omega arith in
        given_some from to x.1 h (ap (λ (k : ℕ). slice_get (on_the_way from to) k) (sym none) ∙ b.1 (omega arith))
    go false is = given_none from to h

pub told_way : (from to : LinkEnd) (p : Packet) → IsBodyOf from to p.body → IsDirection from to → on_the_way from to ≡ given_by to p.body ++ on_the_way from (after_accept to p)
told_way from to p b h =
    let g = given from to p.body h b in
    g.way ∙ ap (λ (n : ℕ). given_by to p.body ++ drop (n - min from.acked from.sent) from.waiting) (sym g.count)

-- what is kept is on its way, with one more
kept_with : (from to : LinkEnd) (body : Option (ℕ × List ℕ)) → IsDirection from to → IsBodyOf from to body → AreOnTheWay (kept_by to body) (on_the_way from to)
kept_with from to None h b = h.kept
kept_with from to (Some x) h b = go (is_early to x.0) refl
  where
    go : (early : Bool) → is_early to x.0 ≡ early → AreOnTheWay (cond early (with_kept (x.0 - to.got - 1) x.1 to.kept) to.kept) (on_the_way from to)
    go true is = λ i s e.
        let lt : to.got < x.0 = ltb-true to.got x.0 (first _ _ is) in
        elim (got_kept to.kept (x.0 - to.got - 1) x.1 i s e) [
          | inl q ↦ (
              let at = q.0 in
              let place : suc i ≡ x.0 - to.got = omega arith in
              ap (λ (k : ℕ). slice_get (on_the_way from to) k) place ∙ b.1 (omega arith) ∙ ap (λ (t : List ℕ). some_of t) q.1
              )
          | inr k ↦ h.kept i s k
        ]
    go false is = h.kept

-- and still is behind those that were given
kept_behind_given : (gs way later : List (List ℕ)) (slots : List (Option (List ℕ))) → way ≡ gs ++ later → AreOnTheWay slots way → AreOnTheWay (drop (length gs) slots) later
kept_behind_given gs way later slots is h = λ i s e.
    let next : length gs + suc i ≡ suc (length gs + i) = omega arith in
    sym (get_behind gs later (suc i))
    ∙ ap (λ (k : ℕ). slice_get (gs ++ later) k) next
    ∙ ap (λ (w : List (List ℕ)). slice_get w (suc (length gs + i))) (sym is)
    ∙ h (length gs + i) s (sym (get_past slots (length gs) i) ∙ e)

pub told_direction : (from to : LinkEnd) (p : Packet) → IsBodyOf from to p.body → IsDirection from to → IsDirection from (after_accept to p)
told_direction from to p b h =
    let g = given from to p.body h b in
    let c = g.count in
    let a = h.acked in
    record {
      few = h.few;
      sent = h.sent;
      acked = omega arith;
      got = omega (arith, g.few);
      kept = kept_behind_given (given_by to p.body) (on_the_way from to) (on_the_way from (after_accept to p)) (kept_by to p.body) (told_way from to p b h) (kept_with from to p.body h b);
    }

pub told_body : (from to : LinkEnd) (p : Packet) (body : Option (ℕ × List ℕ)) → IsBodyOf from to p.body → IsDirection from to → IsBodyOf from to body → IsBodyOf from (after_accept to p) body
told_body from to p None b h q = tt
told_body from to p (Some x) b h q =
    let gs = given_by to p.body in
    let g = given from to p.body h b in
    let c = g.count in
    let way = told_way from to p b h in (
      q.0,
      λ le.
          let place : length gs + (x.0 - (after_accept to p).got) ≡ x.0 - to.got = omega arith in
          sym (get_behind gs (on_the_way from (after_accept to p)) (x.0 - (after_accept to p).got))
          ∙ ap (λ (k : ℕ). slice_get (gs ++ on_the_way from (after_accept to p)) k) place
          ∙ ap (λ (y : List (List ℕ)). slice_get y (x.0 - to.got)) (sym way)
          ∙ q.1 (omega arith),
    )
