-- What an effect on one node does to what the node tells.
use Rattle.std.proofs.Common.{◌≡◌, ℕ, List, [], ◌∷◌, Bool, true, false, refl, ap, sym, ◌∙◌, cond, arith}
use Rattle.std.specs.Prelude.{Some, None, not, ◌==◌, ◌&&◌, ◌||◌, nat_lt}
use Rattle.std.specs.List.{list_any}
use Rattle.std.specs.Ordering.{nat_cmp, eq_by_cmp, is_eq, is_lt}
use Rattle.std.specs.Cmp.{eq_by_cmp_equiv, alike_right}
use Rattle.std.specs.Cmp.Lexicographic.{slice_cmp, nat_list_cmp_total, nat_list_eq_equiv, texts_ties, same_text}
use Rattle.std.specs.FinMap.Entries.{below_all, by_order, find-put, find-where_key}
use Rattle.std.specs.declared.cmp.Ordering.{Ordering}
use Rattle.std.specs.declared.cmp.Ordering.TheVariants.{Less, Equal, Greater}
use Rattle.std.proofs.lemmas.Bool.Decides.{nat_tests}
use Rattle.fs_ident.specs.declared.actor.Session.{Session}
use Rattle.fs_ident.specs.Ident.{same}
use Rattle.fs_ident.specs.Ordered.{are_keys_in_order, put_before}
use Rattle.fs_field.specs.After.{is_before, is_above, with_name, without_name}
use Rattle.fs_field.specs.After as field
use Rattle.fs_model.specs.declared.node.Handle.{Handle}
use Rattle.fs_model.specs.Children.{Children, child_at, with_child, without_child, names_of}
use Rattle.fs_model.specs.Handles.{comes_before, is_before_all, handles_are_in_order, with_handle, without_handle}
use Rattle.fs_ident.proofs.Booleans.{first, second, joined, less}
use Rattle.fs_model.proofs.HandleOrder.{before_all_trans}
use Rattle.fs_record.specs.ValueOf.{own_of}

-- ## Names

abbrev cmp : List ℕ → List ℕ → Ordering
cmp = slice_cmp nat_cmp

-- the two tests of one name are one
pub tied : (a b : List ℕ) → eq_by_cmp (slice_cmp nat_cmp) a b ≡ same a b
tied a b = sym (texts_ties a b)

-- tied names are one
pub key_is : (a b : List ℕ) → eq_by_cmp (slice_cmp nat_cmp) a b ≡ true → a ≡ b
key_is a b e = same_text a b (sym e ∙ tied a b)

tied_back : (a b : List ℕ) → same b a ≡ is_eq (slice_cmp nat_cmp a b)
tied_back a b = nat_list_eq_equiv.symm b a ∙ texts_ties a b

none_above : (name : List ℕ) (cs : Children) → below_all (slice_cmp nat_cmp) name cs ≡ true → list_any (λ n. same n name) (names_of cs) ≡ false
none_above name [] h = refl
none_above name (c ∷ cs) h =
    let p : slice_cmp nat_cmp name c.0 ≡ Less = less _ (first _ _ h) in
    let q : same c.0 name ≡ false = tied_back name c.0 ∙ ap is_eq p in
    rw q (none_above name cs (second _ _ h))

below_less : (name other : List ℕ) (cs : Children) → slice_cmp nat_cmp name other ≡ Less → below_all (slice_cmp nat_cmp) other cs ≡ true → below_all (slice_cmp nat_cmp) name cs ≡ true
below_less name other [] p h = refl
below_less name other (c ∷ cs) p h =
    let q : slice_cmp nat_cmp name c.0 ≡ Less = nat_list_cmp_total.trans name other c.0 p (less _ (first _ _ h)) in
    joined _ _ (ap is_lt q) (below_less name other cs p (second _ _ h))

cons_out : (b : Bool) (x : List ℕ) (xs ys : List (List ℕ)) → x ∷ cond b xs ys ≡ cond b (x ∷ xs) (x ∷ ys)
cons_out true x xs ys = refl
cons_out false x xs ys = refl

pub names_put : (name id : List ℕ) (cs : Children) → are_keys_in_order cs ≡ true → names_of (with_child cs name id) ≡ with_name (names_of cs) name
names_put name id [] h = refl
names_put name id (c ∷ cs) h =
    elim (slice_cmp nat_cmp name c.0) as (λ r. slice_cmp nat_cmp name c.0 ≡ r → names_of (by_order r ((name, id) ∷ c ∷ cs) ((c.0, id) ∷ cs) (c ∷ with_child cs name id))
    ≡ cond (same c.0 name || list_any (λ n. same n name) (names_of cs)) (c.0 ∷ names_of cs) (cond (is_before name c.0) (name ∷ c.0 ∷ names_of cs) (c.0 ∷ put_before (is_before name) name (names_of cs)))) [
      | Less ↦ λ p.
          let q : same c.0 name ≡ false = tied_back name c.0 ∙ ap is_eq p in
          let l : is_before name c.0 ≡ true = ap is_lt p in
          rw (q, none_above name cs (below_less name c.0 cs p (first _ _ h)), l)
      | Equal ↦ λ p.
          let q : same c.0 name ≡ true = tied_back name c.0 ∙ ap is_eq p in
          rw q
      | Greater ↦ λ p.
          let q : same c.0 name ≡ false = tied_back name c.0 ∙ ap is_eq p in
          let l : is_before name c.0 ≡ false = ap is_lt p in
          rw (q, l) (ap (λ ns. c.0 ∷ ns) (names_put name id cs (second _ _ h)) ∙ cons_out (list_any (λ n. same n name) (names_of cs)) c.0 (names_of cs) (put_before (is_before name) name (names_of cs)))
    ] refl

pub names_less : (name : List ℕ) (cs : Children) → names_of (without_child cs name) ≡ without_name (names_of cs) name
names_less name [] = refl
names_less name (c ∷ cs) =
    let q : eq_by_cmp (slice_cmp nat_cmp) name c.0 ≡ same c.0 name = sym (tied_back name c.0) in
    rw q (elim (same c.0 name) as (λ b. names_of (cond (not b) (c ∷ without_child cs name) (without_child cs name)) ≡ cond (not b) (c.0 ∷ without_name (names_of cs) name) (without_name (names_of cs) name)) [
      | true ↦ names_less name cs
      | false ↦ ap (λ ns. c.0 ∷ ns) (names_less name cs)
    ])

pub child_put : (other name id : List ℕ) (cs : Children) → child_at (with_child cs name id) other ≡ cond (same other name) (Some id) (child_at cs other)
child_put other name id cs = find-put (slice_cmp nat_cmp) nat_list_cmp_total other name id cs ∙ ap (λ b. cond b (Some id) (child_at cs other)) (tied other name)

pub turned : {A : Type 0} (b : Bool) (x y : A) → cond (not b) x y ≡ cond b y x
turned true x y = refl
turned false x y = refl

pub child_less : (other name : List ℕ) (cs : Children) → child_at (without_child cs name) other ≡ cond (same other name) None (child_at cs other)
child_less other name cs =
    find-where_key (slice_cmp nat_cmp) (λ x. not (eq_by_cmp (slice_cmp nat_cmp) name x)) other (λ x t. ap (λ r. not (is_eq r)) (sym (alike_right nat_list_cmp_total other x name t))) cs
    ∙ turned (eq_by_cmp (slice_cmp nat_cmp) name other) _ _
    ∙ ap (λ b. cond b None (child_at cs other)) ((eq_by_cmp_equiv nat_list_cmp_total).symm name other ∙ tied other name)

-- ## Handles

-- the session's own handles without one of them
pub own_less : (s : Session) (h : ℕ) (hs : List Handle) → own_of s (without_handle hs s h) ≡ field.without_handle (own_of s hs) h
own_less s h [] = refl
own_less s h (x ∷ xs) =
    elim (x.session.0 == s.0) as (λ a. (x.session.0 == s.0) ≡ a → own_of s (cond (not (a && (x.h == h))) (x ∷ without_handle xs s h) (without_handle xs s h)) ≡ field.without_handle (cond a ((x.h, x.modes) ∷ own_of s xs) (own_of s xs)) h) [
      | true ↦ λ a. elim (x.h == h) as (λ b. own_of s (cond (not b) (x ∷ without_handle xs s h) (without_handle xs s h)) ≡ cond (not b) ((x.h, x.modes) ∷ field.without_handle (own_of s xs) h) (field.without_handle (own_of s xs) h)) [
        | true ↦ own_less s h xs
        | false ↦ rw a (ap (λ ys. (x.h, x.modes) ∷ ys) (own_less s h xs))
      ]
      | false ↦ λ a. rw a (own_less s h xs)
    ] refl

-- another session's handles are no others without one of this one
pub own_kept : (s session : Session) (h : ℕ) (hs : List Handle) → (session.0 == s.0) ≡ false → own_of s (without_handle hs session h) ≡ own_of s hs
own_kept s session h [] e = refl
own_kept s session h (x ∷ xs) e = grind (arith, nat_tests, own_kept s session h xs e)

above : (s : Session) (new x : Handle) → new.session.0 ≡ s.0 → (x.session.0 == s.0) ≡ true → comes_before new x ≡ true → nat_lt new.h x.h ≡ true
above s new x e a h = grind (arith, nat_tests)

not_above : (s : Session) (new x : Handle) → new.session.0 ≡ s.0 → (x.session.0 == s.0) ≡ true → comes_before new x ≡ false → nat_lt new.h x.h ≡ false
not_above s new x e a h = grind (arith, nat_tests)

-- a handle that comes before all is the first of its session's own
own_front : (s : Session) (new : Handle) (hs : List Handle) → new.session.0 ≡ s.0 → is_before_all new hs ≡ true → put_before (is_above new.h) (new.h, new.modes) (own_of s hs) ≡ (new.h, new.modes) ∷ own_of s hs
own_front s new [] e h = refl
own_front s new (x ∷ xs) e h =
    elim (x.session.0 == s.0) as (λ a. (x.session.0 == s.0) ≡ a → put_before (is_above new.h) (new.h, new.modes) (cond a ((x.h, x.modes) ∷ own_of s xs) (own_of s xs)) ≡ (new.h, new.modes) ∷ cond a ((x.h, x.modes) ∷ own_of s xs) (own_of s xs)) [
      | true ↦ λ a. let b : nat_lt new.h x.h ≡ true = above s new x e a (first _ _ h) in rw b
      | false ↦ λ a. own_front s new xs e (second _ _ h)
    ] refl

itself : (n : ℕ) (s : ℕ) → n ≡ s → (n == s) ≡ true
itself n s e = grind (arith, nat_tests)

pub own_more : (s : Session) (new : Handle) (hs : List Handle) → new.session.0 ≡ s.0 → handles_are_in_order hs ≡ true → own_of s (with_handle hs new) ≡ put_before (is_above new.h) (new.h, new.modes) (own_of s hs)
own_more s new [] e h = rw (itself new.session.0 s.0 e)
own_more s new (x ∷ xs) e h =
    elim (comes_before new x) as (λ b. comes_before new x ≡ b → own_of s (cond b (new ∷ x ∷ xs) (x ∷ with_handle xs new)) ≡ put_before (is_above new.h) (new.h, new.modes) (own_of s (x ∷ xs))) [
      | true ↦ λ b. rw (itself new.session.0 s.0 e) (sym (own_front s new (x ∷ xs) e (joined _ _ b (before_all_trans new x xs b (first _ _ h)))))
      | false ↦ λ b. elim (x.session.0 == s.0) as (λ a. (x.session.0 == s.0) ≡ a → cond a ((x.h, x.modes) ∷ own_of s (with_handle xs new)) (own_of s (with_handle xs new)) ≡ put_before (is_above new.h) (new.h, new.modes) (cond a ((x.h, x.modes) ∷ own_of s xs) (own_of s xs))) [
        | true ↦ λ a. rw (not_above s new x e a b) (ap (λ ys. (x.h, x.modes) ∷ ys) (own_more s new xs e (second _ _ h)))
        | false ↦ λ a. own_more s new xs e (second _ _ h)
      ] refl
    ] refl

pub own_same : (s : Session) (new : Handle) (hs : List Handle) → (new.session.0 == s.0) ≡ false → own_of s (with_handle hs new) ≡ own_of s hs
own_same s new [] e = rw e
own_same s new (x ∷ xs) e =
    elim (comes_before new x) as (λ b. own_of s (cond b (new ∷ x ∷ xs) (x ∷ with_handle xs new)) ≡ own_of s (x ∷ xs)) [
      | true ↦ rw e
      | false ↦ ap (λ ys. cond (x.session.0 == s.0) ((x.h, x.modes) ∷ ys) ys) (own_same s new xs e)
    ]
