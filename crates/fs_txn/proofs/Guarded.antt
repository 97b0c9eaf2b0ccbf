-- Decided effects of two sessions are apart.
use Rattle.std.proofs.Common.{◌≡◌, ◌==◌, ◌&&◌, ℕ, Bool, true, false, List, [], refl, sym, ap, ap₂, ◌∙◌, not}
use Rattle.std.specs.Prelude.{◌||◌, Option, Some, None}
use Rattle.std.specs.FinMap.{get}
use Rattle.fs_ident.specs.declared.actor.Session.{Session}
use Rattle.std.proofs.lemmas.Bool.{eqb-true}
use Rattle.fs_ident.proofs.Same.{itself, same_self}
use Rattle.fs_field.specs.After.{changed_file}
use Rattle.fs_field.specs.Conflict.{NoPlainConflict, is_exclusive, meets, names_over, one_shared, plain_conflict}
use Rattle.fs_field.specs.declared.effect.Effect.{Effect}
use Rattle.fs_field.specs.declared.effect.Effect.TheVariants.{SetChild, SetParent, NewNode, RemoveNode, AddHandle, RemoveHandle, SetInfo}
use Rattle.fs_field.specs.declared.field.Field.{Field}
use Rattle.fs_field.specs.declared.field.Field.TheVariants.{Life, Child}
use Rattle.fs_field.specs.declared.lease_kind.LeaseKind.{LeaseKind}
use Rattle.fs_field.specs.declared.lease_kind.LeaseKind.TheVariants.{Shared, Exclusive}
use Rattle.fs_field.specs.declared.row.Row.{Row}
use Rattle.fs_model.specs.Namespace.{NodeMap}
use Rattle.fs_model.specs.Sound.{parent_of}
use Rattle.fs_txn.specs.Decided.{IsApart}
use Rattle.fs_txn.specs.Guards.{HasLocked, IsGuarded, is_enough}

first_meets : (a k l n m : Bool) → a ≡ true → k ≡ true → ((a && (k || l)) || ((n && l) || (m && k))) ≡ true
first_meets a k l n m h s = ap (λ x. (x && (k || l)) || ((n && l) || (m && k))) h ∙ ap (λ x. (x || l) || ((n && l) || (m && x))) s

pub enough_is : (k : LeaseKind) → is_enough Exclusive k ≡ true → is_exclusive k ≡ true
enough_is Shared h = absurd (cc h)
enough_is Exclusive h = refl

pub turned : (x y : ℕ) → (x == y) ≡ false → (y == x) ≡ false
turned x y h = by (y == x) refl
  where
    by : (b : Bool) → (y == x) ≡ b → b ≡ false
    by true e = let wrong : true ≡ false = sym (itself x) ∙ ap (λ z. x == z) (sym (eqb-true y x e)) ∙ h in absurd (cc wrong)
    by false e = refl

-- two rows of two sessions on one field, the first of them exclusive
module _ (rows : List Row) (x y : Session) (free : NoPlainConflict rows) (apart : (x.0 == y.0) ≡ false) where
  clash : (f g : Field) (k : LeaseKind) → HasLocked rows x f Exclusive → HasLocked rows y g k → f ≡ g → one_shared f f ≡ true → ⊥
  clash f g k a b e h =
      let no : plain_conflict a.row b.row ≡ false = free a.row b.row a.stands b.stands in
      let differ : (a.row.session.0 == b.row.session.0) ≡ false = ap (λ (s : Session). s.0 == b.row.session.0) a.session ∙ ap (λ (s : Session). x.0 == s.0) b.session ∙ apart in
      let met : meets a.row.field a.row.kind b.row.field b.row.kind ≡ true =
      ap (λ z. meets z a.row.kind b.row.field b.row.kind) a.field ∙ ap (λ z. meets f a.row.kind z b.row.kind) (b.field ∙ sym e)
      ∙ first_meets (one_shared f f) (is_exclusive a.row.kind) (is_exclusive b.row.kind) (names_over f f) (names_over f f) h (enough_is a.row.kind a.enough) in
      let yes_ : plain_conflict a.row b.row ≡ true = ap₂ (λ p q. not p && q) differ met in
      let wrong : true ≡ false = sym yes_ ∙ no in
      absurd (cc wrong)

child_itself : (d n : List ℕ) → one_shared (Child d n) (Child d n) ≡ true
child_itself d n = ap₂ (λ a b. a && b) (same_self d) (same_self n)

life_of : (rows : List Row) (held : NodeMap) (by : Session) (e : Effect) → IsGuarded rows held by e → (k : LeaseKind) × HasLocked rows by (Life (changed_file e)) k
life_of rows held by (SetChild d n to) g = (Shared, g.1)
life_of rows held by (SetParent f d n) g = (Shared, g.1)
life_of rows held by (RemoveNode f) g = (Exclusive, (g.1).0)
life_of rows held by (NewNode f k d n) g = absurd g
life_of rows held by (AddHandle f a b c) g = absurd g
life_of rows held by (RemoveHandle f a b) g = absurd g
life_of rows held by (SetInfo f a b) g = absurd g

dir_in : Option (List ℕ × List ℕ) → List ℕ
dir_in None = []
dir_in (Some p) = p.0

name_in : Option (List ℕ × List ℕ) → List ℕ
name_in None = []
name_in (Some p) = p.1

dir_is : (o p : List ℕ × List ℕ) → Some o ≡ Some p → o.0 ≡ p.0
unfolding dir_in
dir_is o p h = ap dir_in h

name_is : (o p : List ℕ × List ℕ) → Some o ≡ Some p → o.1 ≡ p.1
unfolding name_in
name_is o p h = ap name_in h

pub guarded_apart : (rows : List Row) (held : NodeMap) (x y : Session) (d e : Effect) → NoPlainConflict rows → (x.0 == y.0) ≡ false → IsGuarded rows held x d → IsGuarded rows held y e → IsApart d e
guarded_apart rows held x y (RemoveNode f) e free apart g k = λ s. let l = life_of rows held y e k in absurd (clash rows x y free apart (Life f) (Life (changed_file e)) l.0 (g.1).0 l.1 (ap Life s) (same_self f))
guarded_apart rows held x y (SetChild d n u) (RemoveNode f) free apart g k = λ s. absurd (clash rows y x free (turned x.0 y.0 apart) (Life f) (Life d) Shared (k.1).0 g.1 (ap Life (sym s)) (same_self f))
guarded_apart rows held x y (SetParent f d n) (RemoveNode h) free apart g k = λ s. absurd (clash rows y x free (turned x.0 y.0 apart) (Life h) (Life f) Shared (k.1).0 g.1 (ap Life (sym s)) (same_self h))
guarded_apart rows held x y (SetChild d n u) (SetChild e m w) free apart g k = λ s t. clash rows x y free apart (Child d n) (Child e m) Exclusive g.0 k.0 (ap₂ Child s t) (child_itself d n)
guarded_apart rows held x y (SetChild d n u) (SetParent f e m) free apart g k = λ s. tt
guarded_apart rows held x y (SetParent f d n) (SetChild e m w) free apart g k = λ s. tt
guarded_apart rows held x y (SetParent f d n) (SetParent h e m) free apart g k = λ s.
    let here : List ℕ × List ℕ = ((g.0).dir, (g.0).name) in
    let there : List ℕ × List ℕ = ((k.0).dir, (k.0).name) in
    let place : Some here ≡ Some there = sym (g.0).place ∙ ap (λ z. parent_of (get held z)) s ∙ (k.0).place in
    clash rows x y free apart (Child (g.0).dir (g.0).name) (Child (k.0).dir (k.0).name) Exclusive (g.0).row (k.0).row (ap₂ Child (dir_is here there place) (name_is here there place)) (child_itself (g.0).dir (g.0).name)
guarded_apart rows held x y (NewNode f z d n) e free apart g k = absurd g
guarded_apart rows held x y (AddHandle f a b c) e free apart g k = absurd g
guarded_apart rows held x y (RemoveHandle f a b) e free apart g k = absurd g
guarded_apart rows held x y (SetInfo f a b) e free apart g k = absurd g
guarded_apart rows held x y d (NewNode f z e m) free apart g k = absurd k
guarded_apart rows held x y d (AddHandle f a b c) free apart g k = absurd k
guarded_apart rows held x y d (RemoveHandle f a b) free apart g k = absurd k
guarded_apart rows held x y d (SetInfo f a b) free apart g k = absurd k
