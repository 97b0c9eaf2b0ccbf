-- What is used at a reading, where leases that are over are not seen.
use Rattle.std.proofs.Common.{◌≡◌, ℕ, Bool, true, List, sym, ap, ◌∙◌}
use Rattle.std.specs.Prelude.{Option, Result, Ok, Err, IfOk}
use Rattle.std.specs.List.{filter_map}
use Rattle.fs_field.specs.declared.asked.Need.{Need}
use Rattle.fs_field.specs.declared.field.Field.{Field}
use Rattle.fs_field.specs.declared.lease_kind.LeaseKind.{LeaseKind}
use Rattle.fs_field.specs.declared.used.Use.{Use}
use Rattle.fs_field.specs.declared.value.Value.{Value}
use Rattle.fs_view.specs.View.{View, are_distinct, can_pin_all, item_use, known_by, lapsed_at}
use Rattle.fs_view.specs.Walk.{Known}
use Rattle.fs_view.proofs.Counting.{pins_pass}
use Rattle.fs_view.proofs.Lapsed.{known_passes, used_pass}

pub known_at : {E : Type 0} (now : ℕ) (v : View) (field : Field) (kind : LeaseKind) (r : Result (Option Value) E) → IfOk r (λ x. x ≡ known_by v now field kind) → IfOk r (λ x. x ≡ known_by (lapsed_at now v) now field kind)
known_at now v field kind (Ok x) h = h ∙ sym (ap (λ (known : Known). known field kind) (known_passes now v))
known_at now v field kind (Err e) h = tt

pub uses_at : {E : Type 0} (now : ℕ) (v : View) (items : List Need) (r : Result (List Use) E) → IfOk r (λ uses. uses ≡ filter_map (item_use v now) items) → IfOk r (λ uses. uses ≡ filter_map (item_use (lapsed_at now v) now) items)
uses_at now v items (Ok uses) h = h ∙ sym (used_pass now v items)
uses_at now v items (Err e) h = tt

pub pinned_at : (now : ℕ) (v : View) (items : List Need) (uses : List Use) (b : Bool) → are_distinct v.leases ≡ true → uses ≡ filter_map (item_use (lapsed_at now v) now) items → b ≡ can_pin_all uses v.leases → b ≡ can_pin_all uses (lapsed_at now v).leases
pinned_at now v items uses b d e h =
    let same : uses ≡ filter_map (item_use v now) items = e ∙ used_pass now v items in
    h ∙ (ap (λ us. can_pin_all us v.leases) same ∙ (sym (pins_pass now v items d) ∙ ap (λ us. can_pin_all us (lapsed_at now v).leases) (sym same)))
