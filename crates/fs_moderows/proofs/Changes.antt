-- Sessions that change what they tell by their rows.
use Rattle.std.proofs.Common.{◌≡◌, ◌==◌, not, ◌&&◌, ℕ, Bool, true, false, List, refl, ap, sym, ◌∙◌, arith}
use Rattle.std.specs.Prelude.{Some}
use Rattle.std.specs.Cmp.{nat_eq_equiv}
use Rattle.std.specs.List.{list_any}
use Rattle.std.proofs.lemmas.Bool.Decides.{nat_tests}
use Rattle.std.proofs.lemmas.Bool.{or_from, eqb-true, not-true}
use Rattle.fs_ident.specs.In.{In}
use Rattle.fs_ident.specs.declared.actor.Session.{Session}
use Rattle.fs_ident.proofs.Booleans.{both, joined, neither}
use Rattle.fs_ident.proofs.Standing.{none_any, any_In}
use Rattle.fs_modes.specs.declared.modes.Mode.{Mode}
use Rattle.fs_modes.specs.declared.modes.Modes.{Modes}
use Rattle.fs_modes.specs.Modes.{has}
use Rattle.fs_field.specs.declared.row.Row.{Row}
use Rattle.fs_field.specs.Conflict.{Selves, is_self, is_fixed, has_fixed, NoConflict}
use Rattle.fs_moderows.specs.Answer.{is_self_of_other, has_mode}
use Rattle.fs_moderows.specs.Kept.{others_have, others_may_have, KeptPromises, ChangesByRows}
use Rattle.fs_moderows.proofs.Witnesses.{In_any, In_none, turned, Witness, witness, witnessed}
use Rattle.fs_moderows.proofs.Free.{AreOnModes, free_goes, goes_free}
use Rattle.fs_moderows.proofs.Promises.{kept_holds, holds_kept, holds_still, others_are_fixed}

abbrev entry_of : Session → Mode → Session × Modes → Bool
entry_of s m e = (e.0.0 == s.0) && has e.1 m

-- an entry of a session that has the mode
has_entry : (rows : List Row) (selves changed : Selves) → ChangesByRows rows selves changed → (f : List ℕ) (m : Mode) (e : Session × Modes) → In e (selves f) → has e.1 m ≡ true → is_fixed rows f m e.0 ≡ true → (z : Session × Modes) × (In z (changed f) × (entry_of e.0 m z ≡ true))
has_entry rows selves changed c f m e i told fixed = any_In (entry_of e.0 m) (changed f) (c f m e.0 fixed ∙ In_any (entry_of e.0 m) (selves f) e i (joined (e.0.0 == e.0.0) (has e.1 m) (nat_eq_equiv.refl e.0.0) told))

-- a session that is fixed goes on to have the mode
still_fixed : (rows : List Row) (selves changed : Selves) → ChangesByRows rows selves changed → (f : List ℕ) (m : Mode) (x y : Session) → has_fixed selves rows f m x y ≡ true → has_fixed changed rows f m x y ≡ true
still_fixed rows selves changed c f m x y h =
    let w : Witness selves rows f m x y = witness selves rows f m x y h in
    let z : (z : Session × Modes) × (In z (changed f) × (entry_of w.entry.0 m z ≡ true)) = has_entry rows selves changed c f m w.entry w.listed w.told w.fixed in
    let q : ((z.0.0.0 == w.entry.0.0) ≡ true) × (has z.0.1 m ≡ true) = both (z.0.0.0 == w.entry.0.0) (has z.0.1 m) z.1.1 in
    witnessed changed rows f m x y (record {
      entry = z.0;
      listed = z.1.0;
      not_x = nat_eq_equiv.symm z.0.0.0 x.0 ∙ turned z.0.0.0 w.entry.0.0 x.0 q.0 w.not_x;
      not_y = nat_eq_equiv.symm z.0.0.0 y.0 ∙ turned z.0.0.0 w.entry.0.0 y.0 q.0 w.not_y;
      told = q.1;
      fixed = ap (λ k. not (list_any (λ (row : Row). is_self f m row.field && (row.session.0 == k)) rows)) (eqb-true z.0.0.0 w.entry.0.0 q.0) ∙ w.fixed;
    })

abbrev other_entry : Mode → Session → Session × Modes → Bool
other_entry m x e = not (e.0.0 == x.0) && has e.1 m

-- where no other has the mode and none can turn it on, none comes to have it
still_none : (rows : List Row) (selves changed : Selves) → ChangesByRows rows selves changed → (f : List ℕ) (m : Mode) (x : Session) → others_may_have (selves f) rows f m x ≡ false → others_may_have (changed f) rows f m x ≡ false
still_none rows selves changed c f m x may =
    let q : (others_have (selves f) m x ≡ false) × (list_any (is_self_of_other f m x) rows ≡ false) = neither (others_have (selves f) m x) (list_any (is_self_of_other f m x) rows) may in
    or_from (others_have (changed f) m x) (list_any (is_self_of_other f m x) rows) (In_none (other_entry m x) (changed f) (λ e i.
    elim (other_entry m x e) as (λ z. other_entry m x e ≡ z → z ≡ false) [
      | false ↦ λ z. refl
      | true ↦ λ z.
          let p : (not (e.0.0 == x.0) ≡ true) × (has e.1 m ≡ true) = both (not (e.0.0 == x.0)) (has e.1 m) z in
          let apart : (e.0.0 == x.0) ≡ false = not-true (e.0.0 == x.0) p.0 in
          let fixed : is_fixed rows f m e.0 ≡ true = others_are_fixed rows f m x e.0 (none_any (is_self_of_other f m x) rows q.1) apart in
          let before : has_mode (selves f) e.0 m ≡ true = sym (c f m e.0 fixed) ∙ In_any (entry_of e.0 m) (changed f) e i (joined (e.0.0 == e.0.0) (has e.1 m) (nat_eq_equiv.refl e.0.0) p.1) in
          let y : (y : Session × Modes) × (In y (selves f) × (entry_of e.0 m y ≡ true)) = any_In (entry_of e.0 m) (selves f) before in
          let s : ((y.0.0.0 == e.0.0) ≡ true) × (has y.0.1 m ≡ true) = both (y.0.0.0 == e.0.0) (has y.0.1 m) y.1.1 in
          let there : others_have (selves f) m x ≡ true = In_any (other_entry m x) (selves f) y.0 y.1.0 (joined (not (y.0.0.0 == x.0)) (has y.0.1 m) (ap not (nat_eq_equiv.symm y.0.0.0 x.0 ∙ turned y.0.0.0 e.0.0 x.0 s.0 apart)) s.1) in
          let wrong : true ≡ false = sym there ∙ q.0 in
          absurd (cc)
    ] refl)) q.1

pub changes_kept : (rows : List Row) (selves changed : Selves) → ChangesByRows rows selves changed → KeptPromises selves rows → KeptPromises changed rows
changes_kept rows selves changed c kept a i = holds_kept changed rows a.session a.field a.promise (λ h n fe.
    holds_still a.promise (has_fixed selves rows h n a.session a.session) (others_may_have (selves h) rows h n a.session) (has_fixed changed rows h n a.session a.session) (others_may_have (changed h) rows h n a.session)
    (λ pe hf. still_fixed rows selves changed c h n a.session a.session hf)
    (still_none rows selves changed c h n a.session)
    (kept_holds selves rows a.session a.field a.promise (kept a i) h n fe))

pub changes_free : (rows : List Row) (selves changed : Selves) → ChangesByRows rows selves changed → AreOnModes rows → NoConflict selves rows → NoConflict changed rows
changes_free rows selves changed c on free = goes_free changed rows on (λ a b i j d h n fe t.
    let q : (a.promise ≡ Some true) × (has_fixed selves rows h n a.session b.session ≡ true) = free_goes selves rows free a b i j d h n fe t in
    (q.0, still_fixed rows selves changed c h n a.session b.session q.1))
