-- Where each reader stops, in the words of its spelling alone.
use Rattle.std.proofs.Common.{◌≡◌, ℕ, suc, ◌+◌, ◌-◌, ◌<◌, ◌≤◌, inl, inr, Bool, true, false, List, [], ◌∷◌, ◌++◌, length, get_or, take, drop, Result, Ok, Err, refl, sym, ap, subst, ◌∙◌, append_assoc, arith, length-append}
use Rattle.std.proofs.Math.Seq.{take-append-add}
use Rattle.std.proofs.lemmas.Bool.{cases_lt}
use Rattle.std.proofs.lemmas.List.{append-nil, take_at, take-append-drop}
use Rattle.fs_wire.specs.declared.fault.Fault.{Fault}
use Rattle.fs_wire.specs.Readers.{Reader, stop}
use Rattle.fs_wire.specs.Ranges.{IsBytes}
use Rattle.fs_wire.specs.Places.{IsPrefix, IsProperPrefix, HasTagNext, StopsInPlace, AreApart}
use Rattle.fs_wire.proofs.Readers.{IsBytes-left, IsBytes-both}
use Rattle.fs_wire.proofs.Wires.{IsWire}

abbrev faulty : Bool → Fault
faulty tag = record { left = 0; tag = tag }

module _ {A : Type 0} {read : Reader A} {Fits : A → Type 0} {text : A → List ℕ} {tags : A → List Bool} (w : IsWire read Fits text tags) where
  abbrev done : A × List ℕ → Result (A × List ℕ) Fault
  done x = Ok x

  whole-again : (v : A) → Fits v → read (text v) ≡ Ok (v, [])
  whole-again v fits = ap (λ (z : List ℕ). read z) (sym (append-nil (text v))) ∙ (w.says v fits).again []

  -- a spelling goes on behind bytes that are none
  proper : (front more : List ℕ) (v : A) (tag : Bool) → Fits v → text v ≡ front ++ more → read front ≡ stop tag 0 → IsProperPrefix Fits text front
  proper front [] v tag fits e begins =
      let same : front ≡ text v = sym (e ∙ append-nil front) in
      let both : done (v, []) ≡ stop tag 0 = sym (whole-again v fits) ∙ ap (λ (z : List ℕ). read z) (sym same) ∙ begins in
      absurd cc
  proper front (b ∷ more) v tag fits e begins = record { whole = v; fits = fits; next = b; rest = more; begins = e }

  goes-on : (front : List ℕ) (tag : Bool) → IsBytes front → read front ≡ stop tag 0 → IsProperPrefix Fits text front
  goes-on front tag fits begins =
      let g = w.reads.goes_on front (record { left = 0; tag = tag }) fits begins refl in
      let t = w.reads.took (front ++ g.text) (g.value, []) (IsBytes-both front g.text fits g.text_fits) g.whole in
      let spelled : text g.value ≡ front ++ g.text = sym (t.parts ∙ append-nil t.text ∙ t.is.text_is) in
      proper front g.text g.value tag t.is.fits spelled begins

  tag-is : (s t : Bool) → stop {A = A × List ℕ} s 0 ≡ stop t 0 → s ≡ t
  tag-is s t e =
      let same : faulty s ≡ faulty t = cc in
      ap (λ (z : Fault). z.tag) same

  at-tag : (front : List ℕ) → IsBytes front → read front ≡ stop true 0 → HasTagNext Fits text tags front
  at-tag front fits begins =
      let p = goes-on front true fits begins in
      record {
        whole = p.whole;
        fits = p.fits;
        rest = p.next ∷ p.rest;
        begins = p.begins;
        tag = tag-is (get_or (tags p.whole) (length front) false) true (sym ((w.says p.whole p.fits).marks front p.next p.rest p.begins) ∙ begins);
      }

  marked-by : (front : List ℕ) (tag : Bool) → read front ≡ stop tag 0 → (v : A) → Fits v → (rest : List ℕ) → text v ≡ front ++ rest → get_or (tags v) (length front) false ≡ true → tag ≡ true
  marked-by front tag begins v fits [] e mark =
      let both : done (v, []) ≡ stop tag 0 = sym (whole-again v fits) ∙ ap (λ (z : List ℕ). read z) (e ∙ append-nil front) ∙ begins in
      absurd cc
  marked-by front tag begins v fits (b ∷ rest) e mark = tag-is tag (get_or (tags v) (length front) false) (sym begins ∙ (w.says v fits).marks front b rest e) ∙ mark

  -- no front passes the place where reading stops
  too-long : (bytes front rest : List ℕ) (tag : Bool) → bytes ≡ front ++ rest
      → ((b : ℕ) (others : List ℕ) → rest ≡ b ∷ others → (more : List ℕ) → read (front ++ b ∷ more) ≡ stop tag (length (b ∷ more)))
      → (k : ℕ) → k ≤ length bytes → length front < k → IsPrefix Fits text (take k bytes) → ⊥
  too-long bytes front [] tag parts past k le lt f = omega (arith, ap length parts, length-append front [])
  too-long bytes front (b ∷ others) tag parts past k le lt f =
      let j = k - length front - 1 in
      let count : k ≡ length front + suc j = omega arith in
      let taken : take k bytes ≡ front ++ b ∷ take j others = ap (λ (z : List ℕ). take k z) parts ∙ ap (λ (z : ℕ). take z (front ++ b ∷ others)) count ∙ take-append-add front (b ∷ others) (suc j) in
      let spelled : text f.whole ≡ front ++ b ∷ (take j others ++ f.rest) = f.begins ∙ ap (λ (z : List ℕ). z ++ f.rest) taken ∙ append_assoc front (b ∷ take j others) f.rest in
      let both : done (f.whole, []) ≡ stop tag (length (b ∷ (take j others ++ f.rest))) = sym (whole-again f.whole f.fits) ∙ ap (λ (z : List ℕ). read z) spelled ∙ past b others refl (take j others ++ f.rest) in
      absurd cc

  none-begins : (bytes : List ℕ) (f : Fault) → read bytes ≡ Err f → (k : ℕ) (v : A) → Fits v → take k bytes ≡ text v → ⊥
  none-begins bytes f e k v fits same =
      let parts : text v ++ drop k bytes ≡ bytes = ap (λ (z : List ℕ). z ++ drop k bytes) (sym same) ∙ take-append-drop k bytes in
      let both : done (v, drop k bytes) ≡ Err f = sym ((w.says v fits).again (drop k bytes)) ∙ ap (λ (z : List ℕ). read z) parts ∙ e in
      absurd cc

  pub stops_in_place : StopsInPlace read Fits text tags
  stops_in_place bytes f fits e =
      let s = w.reads.stopped bytes f fits e in
      let front_fits = IsBytes-left s.front s.rest (subst (λ (z : List ℕ). IsBytes z) s.parts fits) in
      let all = length-append s.front s.rest in
      let len = ap length s.parts in
      let at = length bytes - f.left in
      let place : length s.front ≡ at = omega (arith, all, len, s.left) in
      let taken : s.front ≡ take at bytes = sym (ap (λ (z : List ℕ). take at z) s.parts ∙ take_at s.front s.rest at place) in
      record {
        none = none-begins bytes f e;
        within = omega (arith, all, len, s.left);
        begins = subst (λ (z : List ℕ). IsProperPrefix Fits text z) taken (goes-on s.front f.tag front_fits s.begins);
        longest = λ k le p. elim (cases_lt (length s.front) k) [
          | inl lt ↦ absurd (too-long bytes s.front s.rest f.tag s.parts s.past k le lt p)
          | inr ge ↦ omega (arith, ge, place)
        ];
        tag = λ h. subst (λ (z : List ℕ). HasTagNext Fits text tags z) taken (at-tag s.front front_fits (subst (λ (z : Bool). read s.front ≡ stop z 0) h s.begins));
        other = λ t. let u = subst (λ (z : List ℕ). HasTagNext Fits text tags z) (sym taken) t in marked-by s.front f.tag s.begins u.whole u.fits u.rest u.begins u.tag;
      }

  same-done : (x y : A × List ℕ) → done x ≡ done y → x ≡ y
  same-done x y e = cc

  pub are_apart : AreApart Fits text
  are_apart v u rest fits fits' e =
      let both : (u, []) ≡ (v, rest) = same-done (u, []) (v, rest) (sym (whole-again u fits') ∙ ap (λ (z : List ℕ). read z) e ∙ (w.says v fits).again rest) in
      (sym (ap (λ (x : A × List ℕ). x.1) both), sym (ap (λ (x : A × List ℕ). x.0) both))
