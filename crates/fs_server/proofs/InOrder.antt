-- The items of a question are given in order, and an identifier behind them.
use Rattle.std.proofs.Common.{◌≡◌, ℕ, Bool, true, List, [], ◌∷◌, ◌++◌, map, cond, refl, ap, sym, ◌∙◌, subst, append_assoc, inl, inr}
use Rattle.std.proofs.lemmas.List.{append-nil, map-append}
use Rattle.std.specs.Prelude.{Option, Some, None, is_some}
use Rattle.fs_ident.specs.Ident.{child}
use Rattle.fs_ident.specs.declared.actor.Session.{Session}
use Rattle.fs_field.specs.declared.asked.Asked.{Asked}
use Rattle.fs_field.specs.declared.asked.Asked.TheVariants.{Granted}
use Rattle.fs_field.specs.declared.field.Field.{Field}
use Rattle.fs_field.specs.declared.field.Field.TheVariants.{Life}
use Rattle.fs_field.specs.declared.lease_kind.LeaseKind.{LeaseKind}
use Rattle.fs_field.specs.declared.lease_kind.LeaseKind.TheVariants.{Exclusive}
use Rattle.fs_field.specs.Field.{file_of}
use Rattle.fs_field.specs.Table.{borne_numbers}
use Rattle.fs_msg.specs.declared.answer.Grant.{Grant}
use Rattle.fs_msg.specs.declared.end.End.{End}
use Rattle.fs_msg.specs.declared.end.End.TheVariants as end
use Rattle.fs_record.specs.Fresh.{fresh_number, is_directory}
use Rattle.fs_server.specs.Asks.{Asking, ask_from, ask_fresh, asked_in, fresh_in, fresh_of, grant_of, kind_for}
use Rattle.fs_server.specs.Laws.{FreshComes, end_after, end_by, free_items, hindrance, item_in, items_end}
use Rattle.fs_server.specs.Server.{is_mine, moved}
use Rattle.fs_server.specs.declared.state.Server.{Server}
use Rattle.fs_server.proofs.Lending.{same_answers}
use Rattle.fs_server.proofs.OneByOne.{AskEnds, Items, answer_at, asks_leave, each_item, elsewhere, kept_off, waits, with_item}

-- ## What is given changes nothing for the items behind it

same_hindrance : (by : Session) (x y : Field × LeaseKind) (promise : Option Bool) (s : Server) → hindrance by (with_item by x promise s) y ≡ hindrance by s y
same_hindrance by x y promise s = ap (λ (a : Asked). cond (is_mine s (file_of y.0)) (end_by a) (Some (moved s (file_of y.0)))) (same_answers by x.0 (kind_for x.0 x.1) promise s y.0 (kind_for y.0 y.1))

same_items : (by : Session) (x : Field × LeaseKind) (promise : Option Bool) (s : Server) (ys : Items) → free_items by (with_item by x promise s) ys ≡ free_items by s ys
same_items by x promise s [] = refl
same_items by x promise s (y ∷ ys) =
    ap (λ (o : Option End). cond (is_some o) [] ((y.0, kind_for y.0 y.1) ∷ free_items by (with_item by x promise s) ys)) (same_hindrance by x y promise s)
    ∙ ap (λ (zs : Items). cond (is_some (hindrance by s y)) [] ((y.0, kind_for y.0 y.1) ∷ zs)) (same_items by x promise s ys)

same_end : (by : Session) (x : Field × LeaseKind) (promise : Option Bool) (s : Server) (ys : Items) → items_end by (with_item by x promise s) ys ≡ items_end by s ys
same_end by x promise s [] = refl
same_end by x promise s (y ∷ ys) =
    ap (λ (o : Option End). end_after o (items_end by (with_item by x promise s) ys)) (same_hindrance by x y promise s)
    ∙ ap (λ (e : End). end_after (hindrance by s y) e) (same_end by x promise s ys)

-- ## An item

free_here : (by : Session) (x : Field × LeaseKind) (s : Server) (promise : Option Bool) → is_mine s (file_of x.0) ≡ true → answer_at by x s ≡ Granted promise → hindrance by s x ≡ None
free_here by x s promise mine e =
    ap (λ (b : Bool). cond b (end_by (answer_at by x s)) (Some (moved s (file_of x.0)))) mine ∙ ap (λ (a : Asked). end_by a) e

hindered : (by : Session) (x : Field × LeaseKind) (s : Server) (at : End) → AskEnds by x s at → hindrance by s x ≡ Some at
hindered by x s at (waits n mine e) = ap (λ (b : Bool). cond b (end_by (answer_at by x s)) (Some (moved s (file_of x.0)))) mine ∙ ap (λ (a : Asked). end_by a) e
hindered by x s at (kept_off txn mine e) = ap (λ (b : Bool). cond b (end_by (answer_at by x s)) (Some (moved s (file_of x.0)))) mine ∙ ap (λ (a : Asked). end_by a) e
hindered by x s at (elsewhere mine) = ap (λ (b : Bool). cond b (end_by (answer_at by x s)) (Some (moved s (file_of x.0)))) mine

-- ## All items

-- what was given before, and the items of the question that are given
record InOrder (by : Session) (items : Items) (s : Server) (grants : List Grant) (a : Asking) : Type 0 where
  given : map item_in a.grants ≡ map item_in grants ++ free_items by s items
  end : a.end ≡ items_end by s items

in_order : (by : Session) (items : Items) (s : Server) (grants : List Grant) → InOrder by items s grants (ask_from by items s grants)
in_order by = each_item by (λ items s grants a. InOrder by items s grants a)
    (λ s grants. record { given = sym (append-nil (map item_in grants)); end = refl })
    (λ x xs s grants promise a mine e p.
    let free : hindrance by s x ≡ None = free_here by x s promise mine e in
    let item : Field × LeaseKind = (x.0, kind_for x.0 x.1) in
    record {
      given = p.given
          ∙ ap (λ (is : Items). is ++ free_items by (with_item by x promise s) xs) (map-append item_in grants (grant_of by x.0 (kind_for x.0 x.1) s ∷ []))
          ∙ append_assoc (map item_in grants) (item ∷ []) (free_items by (with_item by x promise s) xs)
          ∙ ap (λ (is : Items). map item_in grants ++ (item ∷ is)) (same_items by x promise s xs)
          ∙ ap (λ (o : Option End). map item_in grants ++ cond (is_some o) [] (item ∷ free_items by s xs)) (sym free);
      end = p.end ∙ same_end by x promise s xs ∙ ap (λ (o : Option End). end_after o (items_end by s xs)) (sym free);
    })
    (λ x xs s grants at why.
    let not_free : hindrance by s x ≡ Some at = hindered by x s at why in
    record {
      given = sym (append-nil (map item_in grants)) ∙ ap (λ (o : Option End). map item_in grants ++ cond (is_some o) [] ((x.0, kind_for x.0 x.1) ∷ free_items by s xs)) (sym not_free);
      end = ap (λ (o : Option End). end_after o (items_end by s xs)) (sym not_free);
    })

pub given_in_order : (by : Session) (items : Items) (s : Server) → map item_in (ask_from by items s []).grants ≡ free_items by s items
given_in_order by items s = (in_order by items s []).given

pub ends_in_order : (by : Session) (items : Items) (s : Server) → (ask_from by items s []).end ≡ items_end by s items
ends_in_order by items s = (in_order by items s []).end

-- ## The identifier

fresh_comes : (by : Session) (dir : List ℕ) (items : Items) (o : Option ℕ) (a : Asking) → map item_in a.grants ≡ items → FreshComes dir items (fresh_of by dir o a)
fresh_comes by dir items (Some k) a is = inl (record {
  number = k;
  given = refl;
  grants = map-append item_in a.grants (grant_of by (Life (child dir k)) Exclusive a.server ∷ []) ∙ ap (λ (is : Items). is ++ (Life (child dir k), Exclusive) ∷ []) is;
  all = refl;
})
fresh_comes by dir items None a is = inr refl

fresh_here : (by : Session) (dir : List ℕ) (items : Items) (a : Asking) → is_mine a.server dir ≡ true → is_directory a.server.records dir ≡ true → a.end ≡ end.All → map item_in a.grants ≡ items → FreshComes dir items (ask_fresh by (Some dir) a.end a)
fresh_here by dir items a mine lives all is =
    subst (λ (e : End). FreshComes dir items (ask_fresh by (Some dir) e a)) (sym all)
    (subst (λ (b : Bool). FreshComes dir items (cond b (fresh_in by dir (is_directory a.server.records dir) a) (record a { end = moved a.server dir }))) (sym mine)
    (subst (λ (b : Bool). FreshComes dir items (fresh_in by dir b a)) (sym lives)
    (fresh_comes by dir items (fresh_number a.server.records dir (borne_numbers dir a.server.rows)) a is)))

pub comes_behind : (by : Session) (items : Items) (dir : List ℕ) (s : Server) → items_end by s items ≡ end.All → is_mine s dir ≡ true → is_directory s.records dir ≡ true → FreshComes dir (free_items by s items) (asked_in by items (Some dir) s)
comes_behind by items dir s all mine lives =
    let a = ask_from by items s [] in
    let same = asks_leave by items s [] in
    fresh_here by dir (free_items by s items) a
    (subst (λ (t : Server). is_mine t dir ≡ true) (sym same) mine)
    (subst (λ (t : Server). is_directory t.records dir ≡ true) (sym same) lives)
    (ends_in_order by items s ∙ all)
    (given_in_order by items s)
