-- The items of a question for leases, one after another.
use Rattle.std.proofs.Common.{◌≡◌, ◌==◌, ℕ, Bool, false, List, [], ◌∷◌, ◌++◌, map, append_assoc, sym, ap, ◌∙◌, subst, inl, inr}
use Rattle.std.specs.Prelude.{Option, None}
use Rattle.std.proofs.lemmas.List.{map-append}
use Rattle.fs_ident.specs.In.{In}
use Rattle.fs_ident.specs.declared.actor.Session.{Session}
use Rattle.fs_ident.proofs.Standing.{In-append, In-put_here}
use Rattle.fs_field.specs.declared.asked.Asked.TheVariants.{Granted}
use Rattle.fs_field.specs.declared.field.Field.{Field}
use Rattle.fs_field.specs.declared.lease_kind.LeaseKind.{LeaseKind}
use Rattle.fs_field.specs.declared.row.Row.{Row}
use Rattle.fs_field.specs.Table.{no_before}
use Rattle.fs_msg.specs.declared.answer.Grant.{Grant}
use Rattle.fs_msg.specs.declared.item.Item.{Item}
use Rattle.fs_moderows.specs.Answer.{given_row}
use Rattle.fs_server.specs.Asks.{answer_to, ask_from, grant_of, kind_for, with_lease}
use Rattle.fs_server.specs.Server.{next_number, end_of}
use Rattle.fs_server.specs.declared.state.Server.{Server}
use Rattle.fs_server.proofs.OneByOne.{Items, each_item}
use Rattle.fs_record.specs.ValueOf.{value_of}
use Rattle.fs_txn.specs.Grants.{Decided}
use Rattle.fs_serial.specs.Decided.{AllDecidedStand}
use Rattle.fs_serial.specs.Parts.{with_client}
use Rattle.fs_serial.specs.Settled.{Settled, granted, with_leases}
use Rattle.fs_serial.specs.Sight.{Counts, seen, sight_with}
use Rattle.fs_serial.specs.World.{Ends, GoesOn}
use Rattle.fs_serial.proofs.OtherSessions.ClientChanges.{goes_again}
use Rattle.fs_serial.proofs.Grants.GrantItem.{item_granted}
use Rattle.fs_serial.proofs.DecidedEffects.GrantsPast.{answers_alike, stand_leased, told_right}
use Rattle.fs_serial.proofs.Grants.Leased.{In-put_still}

-- the client with the leases that it is given so far
abbrev pub given_so_far : List Grant → Settled → Settled
given_so_far grants d = with_leases (map (granted None) grants) d

given_more : (grants : List Grant) (g : Grant) (d : Settled) → with_leases (granted None g ∷ []) (given_so_far grants d) ≡ given_so_far (grants ++ g ∷ []) d
given_more grants g d =
    ap (λ ls. let x : Settled = record d { leases = ls } in x) (append_assoc d.leases (map (granted None) grants) (granted None g ∷ []) ∙ ap (λ ls. d.leases ++ ls) (sym (map-append (granted None) grants (g ∷ []))))

-- each lease that is given has its row
abbrev pub GrantsHaveRows : List Row → List Grant → Type 0
GrantsHaveRows rows grants = (g : Grant) → In g grants → (r : Row) × In r rows × (r.field ≡ g.field)

module _ (o : Counts) (skew greatest : ℕ) (journal : List Item) (replied : Session → List Item) (ends : Session → Ends) (base : Session → Settled) (by : Session) (d : Settled) (ds : List Decided) (others : (x : Decided) → In x ds → (x.by.0 == by.0) ≡ false) where
  -- what holds after some of the items
  pub record IsAsking (s : Server) (grants : List Grant) : Type 0 where
    pub goes : GoesOn skew greatest (sight_with o ds s journal) replied ends (with_client by (given_so_far grants d) base)
    pub rows : GrantsHaveRows s.rows grants
    pub decided : AllDecidedStand ds s journal

  one_more : (s : Server) (grants : List Grant) (field : Field) (asked : LeaseKind) (promise : Option Bool) → answer_to by field (kind_for field asked) s ≡ Granted promise → IsAsking s grants → IsAsking (with_lease by field (kind_for field asked) promise s) (grants ++ grant_of by field (kind_for field asked) s ∷ [])
  one_more s grants field asked promise ok h =
      let kind = kind_for field asked in
      let t = with_lease by field kind promise s in
      let row = given_row (next_number s) by field kind (end_of s) promise in
      let g = grant_of by field kind s in
      record {
        goes = subst (λ (x : Settled). GoesOn skew greatest (sight_with o ds t journal) replied ends (with_client by x base)) (given_more grants g d)
            (goes_again skew greatest (sight_with o ds t journal) replied ends base by (given_so_far grants d) (with_leases (granted None g ∷ []))
            (item_granted o by field asked promise (seen ds s) journal s.records (value_of s.records by field) (told_right ds s journal h.decided by field kind promise others ok) skew greatest replied ends (with_client by (given_so_far grants d) base) (answers_alike ds s journal h.decided by field kind ∙ ok) h.goes));
        decided = stand_leased ds s journal h.decided by field kind promise;
        rows = λ x i. elim (In-append x grants (g ∷ []) i) as (λ _. (r : Row) × In r t.rows × (r.field ≡ x.field)) [
          | inl j ↦ let r = h.rows x j in (r.0, In-put_still (λ y. no_before row.no y.no) r.0 row s.rows r.1, r.2)
          | inr j ↦ elim j as (λ _. (r : Row) × In r t.rows × (r.field ≡ x.field)) [
            | inl e ↦ (row, In-put_here (λ y. no_before row.no y.no) row s.rows, ap (λ (y : Grant). y.field) (sym e))
            | inr z ↦ absurd z
          ]
        ];
      }

  -- all that were given, up to the first that could not be
  pub asked_still : (items : Items) (s : Server) (grants : List Grant) → IsAsking s grants → IsAsking (ask_from by items s grants).server (ask_from by items s grants).grants
  asked_still = each_item by (λ items s grants a. IsAsking s grants → IsAsking a.server a.grants) (λ s grants h. h) (λ x xs s grants promise a mine e p h. p (one_more s grants x.0 x.1 promise e h)) (λ x xs s grants at why h. h)
