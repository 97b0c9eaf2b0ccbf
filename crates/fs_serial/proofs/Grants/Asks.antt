-- The whole answer to a question for leases.
use Rattle.std.proofs.Common.{◌≡◌, ℕ, ◌≤◌, ◌==◌, ◌&&◌, Bool, true, false, List, [], ◌∷◌, ◌++◌, map, append-nil, cond, refl, sym, ap, ◌∙◌, subst, arith}
use Rattle.std.specs.Prelude.{Option, Some, None, option_map}
use Rattle.fs_ident.specs.Ident.{child}
use Rattle.fs_ident.specs.In.{In}
use Rattle.fs_ident.specs.declared.actor.Session.{Session}
use Rattle.fs_ident.proofs.Booleans.{joined}
use Rattle.fs_ident.proofs.Same.{same_self}
use Rattle.fs_field.specs.declared.field.Field.{Field}
use Rattle.fs_field.specs.declared.field.Field.TheVariants.{Life}
use Rattle.fs_field.specs.declared.lease_kind.LeaseKind.{LeaseKind}
use Rattle.fs_field.specs.declared.lease_kind.LeaseKind.TheVariants.{Exclusive}
use Rattle.fs_field.specs.Field.{same_field}
use Rattle.fs_field.specs.Value.{is_value_of}
use Rattle.fs_field.specs.Table.{borne_numbers, is_parent, no_before}
use Rattle.fs_msg.specs.declared.answer.Answer.TheVariants.{Granted}
use Rattle.fs_msg.specs.declared.end.End.{End}
use Rattle.fs_msg.specs.declared.end.End.TheVariants as end
use Rattle.fs_msg.specs.declared.item.Item.{Item}
use Rattle.fs_record.specs.Fresh.{fresh_number, is_directory, records_after_gift}
use Rattle.fs_record.specs.Records.{RecordMap}
use Rattle.fs_server.specs.Asks.{Asking, ask_from, ask_fresh, asked_in, fresh_for, fresh_in, fresh_of, grant_of, kind_for, with_fresh, with_lease}
use Rattle.fs_server.specs.Server.{is_mine, moved}
use Rattle.fs_server.specs.declared.state.Server.{Server}
use Rattle.fs_txn.specs.Grants.{Decided}
use Rattle.fs_client.specs.Answers.{fresh_fits, grants_fit}
use Rattle.fs_client.proofs.FitsSteps.{last_is}
use Rattle.fs_view.specs.declared.view_lease.ViewLease.{ViewLease}
use Rattle.fs_view.specs.declared.view_lease.Standing.{Standing}
use Rattle.fs_view.specs.declared.view_lease.Standing.TheVariants.{Held, Pinned, Leaving}
use Rattle.fs_view.specs.ViewLease.{is_leaving, lease_of, number_of}
use Rattle.fs_serial.specs.Decided.{AllDecidedStand}
use Rattle.fs_serial.specs.Laws.{IsGift, with_given}
use Rattle.fs_serial.specs.Parts.{with_client}
use Rattle.fs_serial.specs.Settled.{Lease, Settled, granted, lease_in, lease_with, told, with_leases}
use Rattle.fs_serial.specs.Sight.{Counts, Sight, seen, sight_beside, sight_with, IsGiven}
use Rattle.fs_serial.specs.World.{Ends, GoesOn}
use Rattle.fs_serial.proofs.OtherSessions.ClientChanges.{client_same, goes_again}
use Rattle.fs_serial.proofs.Grants.AskFits.{GrantsUpTo, IsGivenFor, KeptUpTo, given_for, new_number, value_is}
use Rattle.fs_serial.proofs.Grants.AskLoop.{IsAsking, asked_still, given_so_far}
use Rattle.fs_serial.proofs.Lists.Children.{parent_child}
use Rattle.fs_serial.proofs.Lists.Counting.{count_here, given_by}
use Rattle.fs_serial.proofs.Grants.Gift.{gift_goes, number_free, told_with}
use Rattle.fs_serial.proofs.Grants.GrantItem.{with_value}
use Rattle.fs_serial.proofs.DecidedEffects.GrantsPast.{gifted_alike, giver_made, life_alike, sound_gifted, stand_gifted}
use Rattle.fs_serial.proofs.Replies.Knowing.{In-filter_map}
use Rattle.fs_serial.proofs.Grants.Leased.{In-put_still}
use Rattle.fs_serial.proofs.Grants.OneLease.{same_field_self}

-- each lease that a client has, one that goes back too, has a number that was given
pub kept_given : (o : Counts) (skew greatest : ℕ) (s : Server) (journal : List Item) (replied : Session → List Item) (ends : Session → Ends) (clients : Session → Settled) (by : Session) → (stored : RecordMap) → GoesOn skew greatest (sight_beside stored o s journal) replied ends clients → (k : ViewLease) → In k (ends by).client.view.leases → IsGiven (given_by o s) (number_of k.standing)
kept_given o skew greatest s journal replied ends clients by stored h k i = at_standing k.standing refl
  where
    lease_given : (l : Lease) → lease_in k ≡ Some l → IsGiven (given_by o s) l.no
    lease_given l e =
        let q = h.carried.later by l (In-filter_map lease_in k l (ends by).client.view.leases i e) in
        subst (λ n. IsGiven (given_by o s) n) q.number ((h.all.fitting by).given q.lease q.held)

    at_standing : (st : Standing) → k.standing ≡ st → IsGiven (given_by o s) (number_of k.standing)
    at_standing (Held l) e = subst (λ (x : Standing). IsGiven (given_by o s) (number_of x)) (sym e) (lease_given (lease_with k l) (ap (λ x. option_map (lease_with k) (lease_of x)) e))
    at_standing (Pinned u) e = subst (λ (x : Standing). IsGiven (given_by o s) (number_of x)) (sym e) (lease_given (lease_with k u.lease) (ap (λ x. option_map (lease_with k) (lease_of x)) e))
    at_standing (Leaving l) e = (h.carried.returns by k i (ap is_leaving e)).fits.known

-- so none that the server gave has a number above
kept_up_to : (o : Counts) (s : Server) (kept : List ViewLease) → ((k : ViewLease) → In k kept → IsGiven (given_by o s) (number_of k.standing)) → KeptUpTo s.me s.given kept
kept_up_to o s kept given k i at =
    let here = count_here s.me s.given o.given in
    let g : (number_of k.standing).count ≤ given_by o s s.me = subst (λ n. (number_of k.standing).count ≤ given_by o s n) at (given k i) in
    omega arith

module _ (o : Counts) (skew greatest : ℕ) (journal : List Item) (replied : Session → List Item) (ends : Session → Ends) (base : Session → Settled) (by : Session) (items : List (Field × LeaseKind)) (dir : Option (List ℕ)) (s : Server) (ds : List Decided) (others : (x : Decided) → In x ds → (x.by.0 == by.0) ≡ false) (underway : AllDecidedStand ds s journal) (h : GoesOn skew greatest (sight_with o ds s journal) replied ends base) (kinds : (x : Field × LeaseKind) → In x items → kind_for x.0 x.1 ≡ x.1) where
  abbrev kept : List ViewLease
  kept = (ends by).client.view.leases

  -- the question is answered
  pub record IsAnswer (a : Asking) : Type 0 where
    pub goes : GoesOn skew greatest (sight_with o ds a.server journal) replied ends (with_client by (told by (Granted a.grants a.fresh a.end) (base by)) base)
    pub decided : AllDecidedStand ds a.server journal
    pub fits : (fresh_fits dir a.fresh && grants_fit items a.fresh kept a.grants) ≡ true

  abbrev a : Asking
  a = ask_from by items s []

  none_so_far : base by ≡ given_so_far [] (base by)
  none_so_far = ap (λ ls. let x : Settled = record (base by) { leases = ls } in x) (sym (append-nil (base by).leases))

  asking : IsAsking o skew greatest journal replied ends base by (base by) ds others a.server a.grants
  asking = asked_still o skew greatest journal replied ends base by (base by) ds others items s [] (record {
    goes = subst (λ c. GoesOn skew greatest (sight_with o ds s journal) replied ends c) (sym (client_same by base) ∙ ap (λ d. with_client by d base) none_so_far) h;
    rows = λ g i. absurd i;
    decided = underway;
  })

  fitting : IsGivenFor by kept items [] s.me s.given a
  fitting = given_for by kept items s [] kinds (kept_up_to o s kept (kept_given o skew greatest (seen ds s) journal replied ends base by s.records h)) (λ g i. absurd i)

  -- without an identifier
  bare : (e : End) → IsAnswer (record a { end = e })
  bare e = record {
    goes = subst (λ fresh. GoesOn skew greatest (sight_with o ds a.server journal) replied ends (with_client by (with_leases (map (granted fresh) a.grants) (base by)) base)) (sym fitting.none) asking.goes;
    decided = asking.decided;
    fits = subst (λ fresh. (fresh_fits dir fresh && grants_fit items fresh kept a.grants) ≡ true) (sym fitting.none) (ap (grants_fit items None kept) fitting.split ∙ fitting.some);
  }

  -- with one
  given : (d : List ℕ) (k : ℕ) → dir ≡ Some d → a.end ≡ end.All → IsGift d k a.server → IsAnswer (with_fresh by d k a)
  given d k asked all gift =
      let t : Sight = sight_with o ds (with_fresh by d k a).server journal in
      let there : Asking = record a { server = seen ds a.server } in
      let c = given_so_far a.grants (base by) in
      let g = grant_of by (Life (child d k)) Exclusive a.server in
      let up = fitting.rises in
      let then = with_lease by (Life (child d k)) Exclusive None a.server in
      let goes_there : GoesOn skew greatest t replied ends (with_client by (with_given by d k there.server (with_client by c base by)) (with_client by c base)) =
      subst (λ m. GoesOn skew greatest (sight_beside (records_after_gift a.server.records d (Some k)) o (record then { records = m }) journal) replied ends (with_client by (with_given by d k there.server (with_client by c base by)) (with_client by c base)))
      (gifted_alike ds a.server journal asking.decided d k gift)
      (gift_goes o by d k there journal a.server.records gift.0 gift.1 (giver_made ds a.server journal asking.decided d k gift asking.goes.all.kept.made)
      (sound_gifted ds a.server journal asking.decided d k gift) skew greatest replied (with_client by c base) ends asking.goes) in
      let given_alike : with_given by d k there.server c ≡ with_given by d k a.server c =
      ap (λ v. with_leases (granted (Some (child d k)) (with_value v g) ∷ []) c) (life_alike ds a.server journal asking.decided d k gift by) in
      let goes = goes_again skew greatest t replied ends base by c (with_given by d k there.server) goes_there in
      let of_item = joined (same_field (Life (child d k)) (Life (child d k)) && true) (is_value_of (Life (child d k)) g.value) (joined _ _ (same_field_self (Life (child d k))) refl) (value_is by a.server.records (Life (child d k))) in
      let new = new_number kept fitting.new s.me a.server.given g fitting.here (λ x i at. let q = kept_up_to o s kept (kept_given o skew greatest (seen ds s) journal replied ends base by s.records h) x i at in omega arith) (subst (GrantsUpTo a.server.given) fitting.split fitting.numbers) (omega arith) in
      record {
        goes = subst (λ (x : Settled). GoesOn skew greatest t replied ends (with_client by x base)) (given_alike ∙ sym (told_with o by d k a journal a.server.records (number_free d k a.server gift) (base by) end.All asking.rows)) goes;
        decided = let q = stand_gifted ds a.server journal asking.decided d k gift (with_fresh by d k a).server.rows (λ x r j own l. record { row = r; stands = In-put_still (λ x. no_before _ x.no) r _ a.server.rows j; session = refl; field = refl; kind = refl; lock = l }) in record { records = q.records; stand = q.stand };
        fits = joined _ _
            (ap (λ x. fresh_fits x (Some (child d k))) asked ∙ ap (is_parent d) (parent_child d k) ∙ same_self d)
            (ap (λ gs. grants_fit items (Some (child d k)) kept (gs ++ g ∷ [])) fitting.split ∙ last_is items (child d k) kept fitting.new g ∙ joined _ _ fitting.some (joined _ _ of_item new));
      }

  of_number : (d : List ℕ) (k : Option ℕ) → dir ≡ Some d → a.end ≡ end.All → is_directory a.server.records d ≡ true → fresh_number a.server.records d (borne_numbers d a.server.rows) ≡ k → IsAnswer (fresh_of by d k a)
  of_number d (Some k) asked all here e = given d k asked all (here, e)
  of_number d None asked all here e = bare (end.NoIds d)

  in_directory : (d : List ℕ) (b : Bool) → dir ≡ Some d → a.end ≡ end.All → is_directory a.server.records d ≡ b → IsAnswer (fresh_in by d b a)
  in_directory d true asked all e = of_number d (fresh_number a.server.records d (borne_numbers d a.server.rows)) asked all e refl
  in_directory d false asked all e = bare a.end

  for_all : (asked : Option (List ℕ)) → dir ≡ asked → a.end ≡ end.All → IsAnswer (fresh_for by asked a)
  for_all None e all = bare a.end
  for_all (Some d) e all = elim (is_mine a.server d) as (λ b. IsAnswer (cond b (fresh_in by d (is_directory a.server.records d) a) (record a { end = moved a.server d }))) [
    | true ↦ in_directory d (is_directory a.server.records d) e all refl
    | false ↦ bare (moved a.server d)
  ]

  at_end : (e : End) → a.end ≡ e → IsAnswer (ask_fresh by dir e a)
  at_end end.All all = for_all dir refl all
  at_end e q = bare a.end

  pub answered_right : IsAnswer (asked_in by items dir s)
  answered_right = at_end a.end refl
