-- Leases that are granted, one after another.
use Rattle.std.proofs.Common.{◌≡◌, ◌&&◌, true, false, not, List, [], ◌∷◌, ◌++◌, ap, map, sym, ◌∙◌, append_assoc}
use Rattle.std.specs.List.{list_any}
use Rattle.std.proofs.lemmas.Bool.{not-true}
use Rattle.fs_ident.proofs.Booleans.{both}
use Rattle.fs_field.specs.Value.{is_value_of}
use Rattle.fs_view.specs.declared.view_lease.ViewLease.{ViewLease}
use Rattle.fs_view.specs.declared.new_lease.NewLease.{NewLease}
use Rattle.fs_view.specs.ViewLease.{has_number}
use Rattle.fs_view.specs.View.{are_distinct, can_grant_all, kept_new}
use Rattle.fs_view.proofs.Places.{distinct_append}

-- what adding leases one after another keeps
pub record Adding (new : List NewLease) (leases all : List ViewLease) : Type 0 where
  pub fits : can_grant_all new leases ≡ true
  pub distinct : are_distinct leases ≡ true
  pub added : leases ++ map kept_new new ≡ all

-- the first has a number that no lease has
pub one_new : (x : NewLease) (rest new : List NewLease) (before : List ViewLease) → new ≡ x ∷ rest → can_grant_all new before ≡ true → list_any (has_number x.no) before ≡ false
one_new x rest new before e h =
    let q = both (is_value_of x.field x.value && not (list_any (has_number x.no) before)) (can_grant_all rest (before ++ kept_new x ∷ [])) (ap (λ xs. can_grant_all xs before) (sym e) ∙ h) in
    not-true (list_any (has_number x.no) before) (both (is_value_of x.field x.value) (not (list_any (has_number x.no) before)) q.0).1

pub one_added : (x : NewLease) (rest new : List NewLease) (k : ViewLease) (before after all : List ViewLease) → new ≡ x ∷ rest → k ≡ kept_new x → after ≡ before ++ k ∷ [] → Adding new before all → Adding rest after all
one_added x rest new k before after all e is put a =
    let h : can_grant_all (x ∷ rest) before ≡ true = ap (λ xs. can_grant_all xs before) (sym e) ∙ a.fits in
    let q : ((is_value_of x.field x.value && not (list_any (has_number x.no) before)) ≡ true) × (can_grant_all rest (before ++ kept_new x ∷ []) ≡ true) = both (is_value_of x.field x.value && not (list_any (has_number x.no) before)) (can_grant_all rest (before ++ kept_new x ∷ [])) h in
    let p : (is_value_of x.field x.value ≡ true) × (not (list_any (has_number x.no) before) ≡ true) = both (is_value_of x.field x.value) (not (list_any (has_number x.no) before)) q.0 in
    let there : after ≡ before ++ kept_new x ∷ [] = put ∙ ap (λ (j : ViewLease). before ++ j ∷ []) is in
    record {
      fits = ap (can_grant_all rest) there ∙ q.1;
      distinct = ap are_distinct there ∙ distinct_append before (kept_new x) (not-true (list_any (has_number x.no) before) p.1) a.distinct;
      added = ap (λ xs. xs ++ map kept_new rest) there ∙ (append_assoc before (kept_new x ∷ []) (map kept_new rest) ∙ (ap (λ xs. before ++ map kept_new xs) (sym e) ∙ a.added));
    }
