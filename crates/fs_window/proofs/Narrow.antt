-- Ends of which one segment is on its way at a time.
use Rattle.std.proofs.Common.{◌≡◌, ℕ, zero, suc, ◌+◌, ◌-◌, ◌≤◌, Bool, true, false, cond, eqb, List, [], ◌∷◌, length, drop, Option, Some, None, refl, ap, ◌∙◌, arith}
use Rattle.std.specs.Prelude.{nat_lt}
use Rattle.std.proofs.lemmas.Bool.{ltb-true}
use Rattle.fs_ident.proofs.Booleans.{both}
use Rattle.fs_window.specs.declared.packet.Packet.{Packet}
use Rattle.fs_window.specs.LinkEnd.{LinkEnd, IsNarrow, new_link_end, after_pushes, without_hole, given_by, with_kept, is_early, kept_by, after_accept, after_due}

pub narrow_new : IsNarrow (new_link_end 1)
narrow_new = record { width = refl; kept = refl }

pub narrow_pushed : (l : LinkEnd) (ss : List (List ℕ)) → IsNarrow l → IsNarrow (after_pushes l ss)
narrow_pushed l ss h = record { width = h.width; kept = h.kept }

pub narrow_sent : (l : LinkEnd) → IsNarrow l → IsNarrow (after_due l)
narrow_sent l h = record { width = h.width; kept = h.kept }

none_early : (l : LinkEnd) (n : ℕ) → IsNarrow l → is_early l n ≡ true → ⊥
none_early l n h e =
    let w = h.width in
    let tests = both (nat_lt l.got n) (nat_lt n (l.got + l.width)) e in
    let low = ltb-true l.got n tests.0 in
    let high = ltb-true n (l.got + l.width) tests.1 in
    absurd (omega arith)

none_kept : (l : LinkEnd) (body : Option (ℕ × List ℕ)) → IsNarrow l → kept_by l body ≡ []
none_kept l None h = h.kept
none_kept l (Some x) h = go (is_early l x.0) refl
  where
    go : (early : Bool) → is_early l x.0 ≡ early → cond early (with_kept (x.0 - l.got - 1) x.1 l.kept) l.kept ≡ []
    go true e = absurd (none_early l x.0 h e)
    go false e = h.kept

none_left : (n : ℕ) → drop {A = Option (List ℕ)} n [] ≡ []
none_left zero = refl
none_left (suc n) = refl

pub narrow_accepted : (l : LinkEnd) (p : Packet) → IsNarrow l → IsNarrow (after_accept l p)
narrow_accepted l p h = record {
  width = h.width;
  kept = ap (λ (slots : List (Option (List ℕ))). drop (length (given_by l p.body)) slots) (none_kept l p.body h) ∙ none_left (length (given_by l p.body));
}

-- a packet gives no more than its own segment
pub one_given : (l : LinkEnd) (body : Option (ℕ × List ℕ)) → IsNarrow l → length (given_by l body) ≤ 1
one_given l None h = omega arith
one_given l (Some x) h = go (eqb x.0 l.got)
  where
    alone : length (x.1 ∷ without_hole l.kept) ≡ 1
    alone = ap (λ (slots : List (Option (List ℕ))). length (x.1 ∷ without_hole slots)) h.kept

    go : (next : Bool) → length (cond next (x.1 ∷ without_hole l.kept) []) ≤ 1
    go true = omega (arith, alone)
    go false = omega arith
