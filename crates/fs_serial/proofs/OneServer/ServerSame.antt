-- No question and no log changes the server's skew and its clock, or makes a row with an old number.
use Rattle.std.proofs.Common.{◌≡◌, ℕ, ◌+◌, Bool, true, false, List, [], cond, refl, ap, ◌∙◌, subst, inl, inr, sym}
use Rattle.std.specs.Prelude.{Option, Some, None}
use Rattle.fs_ident.specs.declared.actor.Session.{Session}
use Rattle.fs_field.specs.declared.field.Field.{Field}
use Rattle.fs_field.specs.declared.lease_kind.LeaseKind.{LeaseKind}
use Rattle.fs_field.specs.declared.row.Row.{Row}
use Rattle.fs_field.specs.Table.{borne_numbers, with_row}
use Rattle.fs_msg.specs.declared.answer.Grant.{Grant}
use Rattle.fs_msg.specs.declared.end.End.{End}
use Rattle.fs_msg.specs.declared.end.End.TheVariants as end
use Rattle.fs_msg.specs.declared.entry.Entry.{Entry}
use Rattle.fs_msg.specs.declared.item.Item.{Item}
use Rattle.fs_record.specs.Fresh.{fresh_number, is_directory}
use Rattle.fs_server.specs.Asks.{Asking, ask_from, ask_fresh, asked_in, fresh_for, fresh_in, fresh_of}
use Rattle.fs_server.specs.Server.{is_mine, moved, next_number}
use Rattle.fs_server.specs.Ships.{ship_from}
use Rattle.fs_server.specs.declared.state.Server.{Server}
use Rattle.fs_server.proofs.OneByOne.{Items, each_item, ships_leave, with_item}
use Rattle.fs_serial.specs.Relies.{Stood}
use Rattle.fs_serial.specs.Sight.{Counts, IsGiven, count_with}
use Rattle.fs_serial.proofs.Lists.Counting.{given_by, next_is_new, one_more_given}
use Rattle.fs_serial.proofs.Grants.Leased.{In-with_row}
use Rattle.fs_serial.proofs.OtherSessions.Older.{IsLater, later_again, later_itself, stood_here}

-- ## A row with the next number

row_later : (o : Counts) (s : Server) (row : Row) → row.no ≡ next_number s → IsLater (given_by o s) (count_with s.me (s.given + 1) o.given) s.rows (with_row row s.rows)
row_later o s row next = record {
  given = one_more_given o s;
  older = λ r i g. elim (In-with_row r row s.rows i) as (λ _. Stood s.rows r) [
    | inl e ↦ absurd (next_is_new o s (subst (λ n. IsGiven (given_by o s) n) (ap (λ (x : Row). x.no) e ∙ next) g))
    | inr j ↦ stood_here s.rows r j
  ];
}

-- ## What a question leaves

-- the clock and the skew stay, and no row with an old number is new
pub record IsAsBefore (s t : Server) : Type 0 where
  pub skew : t.skew ≡ s.skew
  pub last : t.last ≡ s.last
  pub later : (o : Counts) → IsLater (given_by o s) (given_by o t) s.rows t.rows

as_it_was : (s : Server) → IsAsBefore s s
as_it_was s = record { skew = refl; last = refl; later = λ o. later_itself (given_by o s) s.rows }

as_again : (s t u : Server) → IsAsBefore s t → IsAsBefore t u → IsAsBefore s u
as_again s t u p q = record {
  skew = q.skew ∙ p.skew;
  last = q.last ∙ p.last;
  later = λ o. later_again (given_by o s) (given_by o t) (given_by o u) s.rows t.rows u.rows (p.later o) (q.later o);
}

asks_same : (by : Session) (items : Items) (s : Server) (grants : List Grant) → IsAsBefore s (ask_from by items s grants).server
asks_same by = each_item by (λ items s grants a. IsAsBefore s a.server) (λ s grants. as_it_was s)
    (λ x xs s grants promise a mine e p. as_again s (with_item by x promise s) a.server (record { skew = refl; last = refl; later = λ o. row_later o s _ refl }) p)
    (λ x xs s grants at why. as_it_was s)

fresh_same : (by : Session) (dir : List ℕ) (k : Option ℕ) (a : Asking) → IsAsBefore a.server (fresh_of by dir k a).server
fresh_same by dir (Some k) a = record { skew = refl; last = refl; later = λ o. row_later o a.server _ refl }
fresh_same by dir None a = as_it_was a.server

in_same : (by : Session) (dir : List ℕ) (b : Bool) (a : Asking) → IsAsBefore a.server (fresh_in by dir b a).server
in_same by dir true a = fresh_same by dir (fresh_number a.server.records dir (borne_numbers dir a.server.rows)) a
in_same by dir false a = as_it_was a.server

for_same : (by : Session) (o : Option (List ℕ)) (a : Asking) → IsAsBefore a.server (fresh_for by o a).server
for_same by None a = as_it_was a.server
for_same by (Some dir) a = elim (is_mine a.server dir) as (λ b. IsAsBefore a.server (cond b (fresh_in by dir (is_directory a.server.records dir) a) (record a { end = moved a.server dir })).server) [
  | true ↦ in_same by dir (is_directory a.server.records dir) a
  | false ↦ as_it_was a.server
]

end_same : (by : Session) (o : Option (List ℕ)) (e : End) (a : Asking) → IsAsBefore a.server (ask_fresh by o e a).server
end_same by o end.All a = for_same by o a
end_same by o e a = as_it_was a.server

pub asked_same : (by : Session) (items : List (Field × LeaseKind)) (dir : Option (List ℕ)) (s : Server) → IsAsBefore s (asked_in by items dir s).server
asked_same by items dir s =
    let a = ask_from by items s [] in
    as_again s a.server (asked_in by items dir s).server (asks_same by items s []) (end_same by dir a.end a)

pub ships_same : (by : Session) (es : List Entry) (s : Server) (admitted : List Item) → IsAsBefore s (ship_from by es s admitted).server
ships_same by es s admitted = subst (IsAsBefore s) (sym (ships_leave by es s admitted)) (record { skew = refl; last = refl; later = λ o. later_itself (given_by o s) s.rows })
