-- What is over at a reading serves for nothing at it: reads pass over it.
use Rattle.std.proofs.Common.{◌≡◌, ℕ, ◌&&◌, ◌||◌, Bool, true, false, not, List, [], ◌∷◌, refl, ap, cond, arith, sym, ◌∙◌}
use Rattle.std.specs.Prelude.{Option, Some, None, option_map, is_some}
use Rattle.std.specs.Option.{option_and_then}
use Rattle.std.specs.List.{find, filter, filter_map, list_any}
use Rattle.std.proofs.lemmas.Bool.Decides.{nat_tests}
use Rattle.std.proofs.lemmas.Bool.{and_right}
use Rattle.fs_field.specs.declared.asked.Need.{Need}
use Rattle.fs_field.specs.declared.asked.Need.TheVariants as need
use Rattle.fs_field.specs.declared.effect.Effect.{Effect}
use Rattle.fs_field.specs.declared.field.Field.{Field}
use Rattle.fs_field.specs.declared.field.Field.TheVariants.{Life}
use Rattle.fs_field.specs.declared.lease_kind.LeaseKind.{LeaseKind}
use Rattle.fs_field.specs.declared.lease_kind.LeaseKind.TheVariants.{Exclusive}
use Rattle.fs_field.specs.declared.used.Use.{Use}
use Rattle.fs_model.specs.declared.op.Op.{Op}
use Rattle.fs_view.specs.declared.view_lease.ViewLease.{ViewLease}
use Rattle.fs_view.specs.declared.view_lease.Standing.{Standing}
use Rattle.fs_view.specs.declared.view_lease.Standing.TheVariants.{Held, Pinned, Leaving}
use Rattle.fs_view.specs.ViewLease.{has_ended, is_better, is_live, is_pending, is_unused, offers, serves, use_in, file_in}
use Rattle.fs_view.specs.View.{View, lapsed_at, taken, taken_fresh, taken_from, offered, known_by, given_by, fresh, item_use, uses_in, walk_in, value_after_log}
use Rattle.fs_view.specs.Walk.{Known, Given, is_there, walk}

ended_serves : (now : ℕ) (field : Field) (kind : LeaseKind) (s : Standing) → has_ended now s ≡ true → serves now field kind s ≡ false
ended_serves now field kind (Held l) h = grind (arith, nat_tests)
ended_serves now field kind (Pinned u) h = absurd (cc)
ended_serves now field kind (Leaving l) h = absurd (cc)

ended_unused : (now : ℕ) (log : List (List Effect)) (s : Standing) → has_ended now s ≡ true → is_unused now log s ≡ false
ended_unused now log s h = ap (λ b. b && not (is_pending (file_in s) log)) (ended_serves now (Life (file_in s)) Exclusive s h)

taken_still : (now : ℕ) (field : Field) (kind : LeaseKind) (best : Option ViewLease) (ks : List ViewLease) → taken_from now field kind best (filter (is_live now) ks) ≡ taken_from now field kind best ks
taken_still now field kind best [] = refl
taken_still now field kind best (k ∷ ks) =
    elim (has_ended now k.standing) as (λ b. has_ended now k.standing ≡ b → taken_from now field kind best (cond (not b) (k ∷ filter (is_live now) ks) (filter (is_live now) ks)) ≡ taken_from now field kind (cond (serves now field kind k.standing && is_better k best) (Some k) best) ks) [
      | true ↦ λ e. taken_still now field kind best ks ∙ sym (ap (λ b. taken_from now field kind (cond (b && is_better k best) (Some k) best) ks) (ended_serves now field kind k.standing e))
      | false ↦ λ e. taken_still now field kind (cond (serves now field kind k.standing && is_better k best) (Some k) best) ks
    ] refl

found_still : (now : ℕ) (dir : List ℕ) (log : List (List Effect)) (ks : List ViewLease) → find (offers now dir log) (filter (is_live now) ks) ≡ find (offers now dir log) ks
found_still now dir log [] = refl
found_still now dir log (k ∷ ks) =
    elim (has_ended now k.standing) as (λ b. has_ended now k.standing ≡ b → find (offers now dir log) (cond (not b) (k ∷ filter (is_live now) ks) (filter (is_live now) ks)) ≡ cond (offers now dir log k) (Some k) (find (offers now dir log) ks)) [
      | true ↦ λ e. found_still now dir log ks ∙ sym (ap (λ b. cond b (Some k) (find (offers now dir log) ks)) (and_right _ (is_unused now log k.standing) (ended_unused now log k.standing e)))
      | false ↦ λ e. ap (cond (offers now dir log k) (Some k)) (found_still now dir log ks)
    ] refl

-- ## Reads

pub taken_passes : (now : ℕ) (v : View) (field : Field) (kind : LeaseKind) → taken (lapsed_at now v) now field kind ≡ taken v now field kind
unfolding taken
taken_passes now v field kind = taken_still now field kind None v.leases

pub offered_passes : (now : ℕ) (v : View) (dir : List ℕ) → offered (lapsed_at now v) now dir ≡ offered v now dir
unfolding offered
offered_passes now v dir = found_still now dir v.pending v.leases

known_at : (now : ℕ) (v : View) (field : Field) (kind : LeaseKind) → known_by (lapsed_at now v) now field kind ≡ known_by v now field kind
unfolding known_by
known_at now v field kind = ap (option_map (λ (k : ViewLease). value_after_log v.session field k.base v.pending)) (taken_passes now v field kind)

pub known_passes : (now : ℕ) (v : View) → known_by (lapsed_at now v) now ≡ known_by v now
known_passes now v = λ i field kind. known_at now v field kind i

pub given_passes : (now : ℕ) (v : View) → given_by (lapsed_at now v) now ≡ given_by v now
given_passes now v = λ i dir. is_some (offered_passes now v dir i)

pub fresh_passes : (now : ℕ) (v : View) (dir : List ℕ) → fresh (lapsed_at now v) now dir ≡ fresh v now dir
fresh_passes now v dir = ap (option_map (λ (k : ViewLease). file_in k.standing)) (offered_passes now v dir)

taken_fresh_passes : (now : ℕ) (v : View) (dir : List ℕ) → taken_fresh (lapsed_at now v) now dir ≡ taken_fresh v now dir
taken_fresh_passes now v dir =
    ap (option_and_then (λ (id : List ℕ). taken (lapsed_at now v) now (Life id) Exclusive)) (fresh_passes now v dir)
    ∙ (λ i. option_and_then (λ (id : List ℕ). taken_passes now v (Life id) Exclusive i) (fresh v now dir))

pub walk_passes : (now : ℕ) (v : View) (o : Op) → walk_in (lapsed_at now v) now o ≡ walk_in v now o
walk_passes now v o = ap (λ (known : Known). walk known (given_by (lapsed_at now v) now) o) (known_passes now v) ∙ ap (λ (given : Given). walk (known_by v now) given o) (given_passes now v)

item_use_passes : (now : ℕ) (v : View) (n : Need) → item_use (lapsed_at now v) now n ≡ item_use v now n
item_use_passes now v (need.Lease field kind) = ap (option_and_then (λ (k : ViewLease). use_in k.standing)) (taken_passes now v field kind)
item_use_passes now v (need.Fresh dir) = ap (option_and_then (λ (k : ViewLease). use_in k.standing)) (taken_fresh_passes now v dir)

pub item_uses_pass : (now : ℕ) (v : View) → item_use (lapsed_at now v) now ≡ item_use v now
item_uses_pass now v = λ i n. item_use_passes now v n i

pub uses_pass : (now : ℕ) (v : View) (o : Op) → uses_in (lapsed_at now v) now o ≡ uses_in v now o
uses_pass now v o = ap (λ (f : Need → Option Use). filter_map f (walk_in (lapsed_at now v) now o).items) (item_uses_pass now v) ∙ ap (λ w. filter_map (item_use v now) w.items) (walk_passes now v o)

pub absent_pass : (now : ℕ) (v : View) (items : List Need) → filter (λ need. not (is_there (known_by (lapsed_at now v) now) (given_by (lapsed_at now v) now) need)) items ≡ filter (λ need. not (is_there (known_by v now) (given_by v now) need)) items
absent_pass now v items =
    ap (λ (known : Known). filter (λ need. not (is_there known (given_by (lapsed_at now v) now) need)) items) (known_passes now v)
    ∙ ap (λ (given : Given). filter (λ need. not (is_there (known_by v now) given need)) items) (given_passes now v)

pub used_pass : (now : ℕ) (v : View) (items : List Need) → filter_map (item_use (lapsed_at now v) now) items ≡ filter_map (item_use v now) items
used_pass now v items = ap (λ (f : Need → Option Use). filter_map f items) (item_uses_pass now v)

-- ## Tests of the leases that are not over

pub any_live : (now : ℕ) (test : ViewLease → Bool) (ks : List ViewLease) → list_any test (filter (is_live now) ks) ≡ list_any (λ k. is_live now k && test k) ks
any_live now test [] = refl
any_live now test (k ∷ ks) = elim (is_live now k) as (λ b. list_any test (cond b (k ∷ filter (is_live now) ks) (filter (is_live now) ks)) ≡ ((b && test k) || list_any (λ j. is_live now j && test j) ks)) [
  | true ↦ ap (λ b. test k || b) (any_live now test ks)
  | false ↦ any_live now test ks
]

pub filter_live : (now : ℕ) (test : ViewLease → Bool) (ks : List ViewLease) → filter test (filter (is_live now) ks) ≡ filter (λ k. is_live now k && test k) ks
filter_live now test [] = refl
filter_live now test (k ∷ ks) = elim (is_live now k) as (λ b. filter test (cond b (k ∷ filter (is_live now) ks) (filter (is_live now) ks)) ≡ cond (b && test k) (k ∷ filter (λ j. is_live now j && test j) ks) (filter (λ j. is_live now j && test j) ks)) [
  | true ↦ ap (λ rest. cond (test k) (k ∷ rest) rest) (filter_live now test ks)
  | false ↦ filter_live now test ks
]
