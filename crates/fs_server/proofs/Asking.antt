-- The items of a question, one after another.
use Rattle.std.proofs.Common.{◌≡◌, ℕ, ◌+◌, ◌<◌, ◌≤◌, ◌^◌, leb, Bool, true, List, [], ◌∷◌, length, drop, get_or, ap, sym, subst, ◌∙◌, arith}
use Rattle.std.specs.Prelude.{Option}
use Rattle.std.specs.List.{find, list_all}
use Rattle.std.proofs.lemmas.Bool.Decides.{nat_tests}
use Rattle.std.proofs.lemmas.List.{drop_more}
use Rattle.fs_ident.specs.declared.actor.LeaseNo.{LeaseNo}
use Rattle.fs_ident.specs.declared.actor.Session.{Session}
use Rattle.fs_ident.proofs.Booleans.{second}
use Rattle.fs_field.specs.declared.asked.Asked.TheVariants.{Granted, Wait}
use Rattle.fs_field.specs.declared.field.Field.{Field}
use Rattle.fs_field.specs.declared.lease_kind.LeaseKind.{LeaseKind}
use Rattle.fs_field.specs.declared.row.Row.{Row}
use Rattle.fs_field.specs.Field.{file_of}
use Rattle.fs_field.specs.Table.{has_no}
use Rattle.fs_msg.specs.declared.answer.Grant.{Grant}
use Rattle.fs_rows.specs.Granted.{with_rows}
use Rattle.fs_rows.proofs.Numbers.{given_new}
use Rattle.fs_moderows.specs.Answer.{given_row}
use Rattle.fs_server.specs.declared.state.Server.{Server}
use Rattle.fs_server.specs.Asks.{Asking, answer_to, ask_from, kind_for, recall_of, with_lease}
use Rattle.fs_server.specs.Grants.{IsLent, IsReady, with_leases}
use Rattle.fs_server.specs.Rows.{AreRows}
use Rattle.fs_server.specs.Server.{next_number, end_of, is_mine}
use Rattle.fs_server.proofs.Kept.{put_rows}
use Rattle.fs_server.proofs.OneByOne.{Items, answer_at, each_item, item_given, with_grant, with_item}
use Rattle.fs_server.proofs.Answered.{IsRowed, blocker_rowed, given_goes}

-- the rows stay in order where the lease is given
given_rows : (by : Session) (field : Field) (kind : LeaseKind) (promise : Option Bool) (s : Server) → IsReady s → answer_to by field (kind_for field kind) s ≡ Granted promise → AreRows (with_lease by field (kind_for field kind) promise s).rows
given_rows by field kind promise s r e =
    put_rows (given_row (next_number s) by field (kind_for field kind) (end_of s) promise) s.rows (given_new s.me s.given s.rows r.server.numbers) (given_goes by field kind promise s e) r.table

pub lendable : (by : Session) (field : Field) (asked kind : LeaseKind) (promise : Option Bool) (rows : List Row) (s : Server) → IsLent by rows s → kind ≡ kind_for field asked → answer_to by field kind s ≡ Granted promise → AreRows (with_lease by field kind promise (with_leases rows s)).rows
lendable by field asked kind promise rows s l is e =
    subst (λ k. AreRows (with_lease by field k promise (with_leases rows s)).rows) (sym is)
    (given_rows by field asked promise (with_leases rows s) l.ready (l.answers field (kind_for field asked) ∙ ap (λ k. answer_to by field k s) (sym is) ∙ e))

-- where all that are left pass, those behind the next do too
pub rest_passes : {X : Type 0} (test : X → Bool) (xs : List X) (i : ℕ) (d : X) → i < length xs → list_all test (drop i xs) ≡ true → list_all test (drop (i + 1) xs) ≡ true
rest_passes test xs i d h e = second (test (get_or xs i d)) (list_all test (drop (i + 1) xs)) (ap (list_all test) (sym (drop_more xs i d h)) ∙ e)

-- leases are only added
ask_given : (by : Session) (xs : Items) (s : Server) (grants : List Grant) → s.given ≤ (ask_from by xs s grants).server.given
ask_given by = each_item by (λ xs s grants a. s.given ≤ a.server.given) (λ s grants. omega arith) (λ x xs s grants promise a mine e p. one_more s.given a.server.given p) (λ x xs s grants at why. omega arith)
  where
    one_more : (a b : ℕ) → a + 1 ≤ b → a ≤ b
    one_more a b h = omega arith

granted_item : (by : Session) (x : Field × LeaseKind) (xs : Items) (s : Server) (grants : List Grant) (promise : Option Bool) → is_mine s (file_of x.0) ≡ true → answer_at by x s ≡ Granted promise → s.given + 1 ≤ (ask_from by (x ∷ xs) s grants).server.given
granted_item by x xs s grants promise mine e = subst (λ a. s.given + 1 ≤ a.server.given) (sym (item_given by x xs s grants promise mine e)) (ask_given by xs (with_item by x promise s) (with_grant by x s grants))

-- the next item would get a number above the greatest
pub spent_item : (by : Session) (items : List (Field × LeaseKind)) (i : ℕ) (x : Field × LeaseKind) (kind : LeaseKind) (rows : List Row) (grants : List Grant) (s : Server) (promise : Option Bool) → i < length items → x ≡ get_or items i x → kind ≡ kind_for x.0 x.1 → IsLent by rows s
    → is_mine s (file_of x.0) ≡ true
    → answer_to by x.0 kind s ≡ Granted promise
    → ask_from by (drop i items) (with_leases rows s) grants ≡ ask_from by items s []
    → (with_leases rows s).given + 1 ≡ 2 ^ 64
    → leb (2 ^ 64) (ask_from by items s []).server.given ≡ true
spent_item by items i x kind rows grants s promise h is of l mine e same full =
    let more : (with_leases rows s).given + 1 ≤ (ask_from by (x ∷ drop (i + 1) items) (with_leases rows s) grants).server.given =
    granted_item by x (drop (i + 1) items) (with_leases rows s) grants promise mine (l.answers x.0 (kind_for x.0 x.1) ∙ ap (λ k. answer_to by x.0 k s) (sym of) ∙ e) in
    let all : (ask_from by (x ∷ drop (i + 1) items) (with_leases rows s) grants).server.given ≡ (ask_from by items s []).server.given =
    ap (λ y. (ask_from by (y ∷ drop (i + 1) items) (with_leases rows s) grants).server.given) is
    ∙ ap (λ ys. (ask_from by ys (with_leases rows s) grants).server.given) (sym (drop_more items i x h)) ∙ ap (λ (a : Asking). a.server.given) same in
    grind (arith, nat_tests)

-- what stands in the way was there before
pub same_blocker : (by : Session) (field : Field) (kind : LeaseKind) (rows : List Row) (s : Server) (blocker : LeaseNo) → IsReady s → IsLent by rows s → answer_to by field kind s ≡ Wait blocker → recall_of blocker (find (has_no blocker) (with_rows rows s.rows)) ≡ recall_of blocker (find (has_no blocker) s.rows)
same_blocker by field kind rows s blocker r l e =
    let w : IsRowed blocker s.rows = blocker_rowed by field kind s blocker e in
    ap (recall_of blocker) (l.new blocker (λ here. subst (λ (n : LeaseNo). n.count ≤ s.given) w.2 (r.server.numbers w.0 w.1 (ap (λ (n : LeaseNo). n.server) w.2 ∙ here))))
