-- What an end can be, and what it was.
use Rattle.std.proofs.Common.{◌≡◌, ℕ, ◌+◌, ◌-◌, ◌^◌, ◌<◌, ◌≤◌, min, Bool, true, false, cond, List, [], length, drop, Option, Some, None, refl, ap, ◌∙◌, arith}
use Rattle.std.specs.Prelude.{nat_lt}
use Rattle.std.proofs.lemmas.List.{length-drop}
use Rattle.fs_ident.proofs.Booleans.{first, second}
use Rattle.fs_window.specs.declared.packet.Packet.{Packet}
use Rattle.fs_window.specs.declared.queue.Change.{Change}
use Rattle.fs_window.specs.declared.was.Was.{Was}
use Rattle.fs_window.specs.LinkEnd.{LinkEnd, IsLinkEnd, pushed_count, given_by, with_kept, is_early, kept_by}
use Rattle.fs_window.specs.Undo.{changed, with_changes, with_was, can_be, end_before}
use Rattle.fs_window.proofs.Changes.{changed_length}
use Rattle.fs_window.proofs.Slots.{kept_length}

-- ---- what can be

pub can_hold : (l : LinkEnd) → IsLinkEnd l → length l.waiting < 2 ^ 63 → can_be l ≡ true
can_hold l h few = grind (arith, h.acked, h.sent, h.few, h.kept, few)

-- ---- what was

pub end_again : (was : Was) (now old : LinkEnd) → with_was was now ≡ old → can_be old ≡ true → end_before was now ≡ old
end_again was now old e h = ap (λ (l : LinkEnd). cond (can_be l) l now) e ∙ ap (λ (b : Bool). cond b old now) h

-- both queues are changed back
pub queues_again : (was : Was) (now old : LinkEnd) → now.width ≡ old.width → was.acked ≡ old.acked → was.sent ≡ old.sent → was.got ≡ old.got → changed was.waiting now.waiting ≡ old.waiting → changed was.kept now.kept ≡ old.kept → with_was was now ≡ old
queues_again was now old w a s g q k =
    ap (λ (n : ℕ). so n was.acked was.sent (changed was.waiting now.waiting) was.got (changed was.kept now.kept)) w
    ∙ ap (λ (n : ℕ). so old.width n was.sent (changed was.waiting now.waiting) was.got (changed was.kept now.kept)) a
    ∙ ap (λ (n : ℕ). so old.width old.acked n (changed was.waiting now.waiting) was.got (changed was.kept now.kept)) s
    ∙ ap (λ (ss : List (List ℕ)). so old.width old.acked old.sent ss was.got (changed was.kept now.kept)) q
    ∙ ap (λ (n : ℕ). so old.width old.acked old.sent old.waiting n (changed was.kept now.kept)) g
    ∙ ap (λ (slots : List (Option (List ℕ))). so old.width old.acked old.sent old.waiting old.got slots) k
  where
    so : ℕ → ℕ → ℕ → List (List ℕ) → ℕ → List (Option (List ℕ)) → LinkEnd
    so width acked sent waiting got kept = record { width = width; acked = acked; sent = sent; waiting = waiting; got = got; kept = kept }

-- ---- once a packet has come

-- what is kept once a packet has come is within the width
few_kept : (l : LinkEnd) (body : Option (ℕ × List ℕ)) → IsLinkEnd l → length (kept_by l body) < l.width
few_kept l None h = h.kept
few_kept l (Some b) h = go (is_early l b.0) refl
  where
    go : (early : Bool) → is_early l b.0 ≡ early → length (cond early (with_kept (b.0 - l.got - 1) b.1 l.kept) l.kept) < l.width
    go true e =
        let late = first (nat_lt l.got b.0) (nat_lt b.0 (l.got + l.width)) e in
        let near = second (nat_lt l.got b.0) (nat_lt b.0 (l.got + l.width)) e in
        let above : l.got < b.0 = grind (arith, late) in
        let below : b.0 < l.got + l.width = grind (arith, near) in
        omega (arith, kept_length l.kept (b.0 - l.got - 1) b.1, h.kept)
    go false e = h.kept

-- an end that takes a packet can be
pub taken_so : (l : LinkEnd) (p : Packet) (acked done got : ℕ) (slots : Change (Option (List ℕ))) → IsLinkEnd l → length l.waiting < 2 ^ 63 → l.acked ≤ acked → acked ≤ pushed_count l → done ≡ min acked l.sent - min l.acked l.sent
    → changed slots l.kept ≡ drop (length (given_by l p.body)) (kept_by l p.body) → can_be (with_changes l acked l.sent got (record { at = 0; count = done; more = [] }) slots) ≡ true
taken_so l p acked done got slots h few rises within count is =
    let left : length (changed (record { at = 0; count = done; more = [] }) l.waiting) ≡ length l.waiting - done = omega (arith, changed_length (record { at = 0; count = done; more = [] }) l.waiting) in
    let pushed : min acked l.sent + length (changed (record { at = 0; count = done; more = [] }) l.waiting) ≡ pushed_count l = omega (arith, left, count, h.sent) in
    let wait : length (changed (record { at = 0; count = done; more = [] }) l.waiting) < 2 ^ 63 = omega (arith, left, few) in
    let size : length (changed slots l.kept) ≡ length (kept_by l p.body) - length (given_by l p.body) = ap (λ (xs : List (Option (List ℕ))). length xs) is ∙ length-drop (length (given_by l p.body)) (kept_by l p.body) in
    let kept : length (changed slots l.kept) < l.width = omega (arith, size, few_kept l p.body h) in
    can_hold (with_changes l acked l.sent got (record { at = 0; count = done; more = [] }) slots)
    (record { wide = h.wide; narrow = h.narrow; acked = omega (arith, pushed); sent = omega (arith, pushed, h.sent); few = omega (arith, pushed, h.few); kept = kept })
    wait
