-- The parts of a transaction that said Yes at its leader, by their votes and by whom they were asked of.
use Rattle.std.proofs.Common.{◌≡◌, ◌==◌, ◌+◌, ◌⊎◌, ℕ, zero, suc, Bool, true, false, List, [], ◌∷◌, ◌++◌, length, refl, sym, ap, ap₂, ◌∙◌, subst, cond, inl, inr, arith}
use Rattle.std.specs.Prelude.{Option, Some, None, slice_get}
use Rattle.std.specs.List.{flat_map}
use Rattle.std.proofs.lemmas.Bool.{eqb-true, eqb-false}
use Rattle.fs_ident.specs.In.{In}
use Rattle.fs_ident.specs.declared.actor.Session.{Session}
use Rattle.fs_ident.specs.declared.actor.TxnNo.{TxnNo}
use Rattle.fs_ident.proofs.Same.{itself}
use Rattle.fs_ident.proofs.Standing.{In-behind, In-both, In-filter, In-front}
use Rattle.fs_field.specs.Table.{same_txn}
use Rattle.fs_field.specs.declared.vote.Vote.{Vote}
use Rattle.fs_field.specs.declared.vote.Vote.TheVariants.{Yes, Ended, Moved, PathsOut}
use Rattle.fs_parcel.proofs.Both.{passing}
use Rattle.fs_txn.specs.Leading.{said_by, said_yes, with_leading, yes_from, yes_parts}
use Rattle.fs_txn.specs.Locks.{Agreed}
use Rattle.fs_txn.specs.Votes.{Votes}
use Rattle.fs_txn.specs.declared.leading.Leading.{Leading}
use Rattle.fs_txn.proofs.Keys.{kept_in}
use Rattle.fs_serial.proofs.Transactions.Tables.{In_all, In_some, in_with_leading, leading_kept, leading_there, said_its, said_so}

-- ## By their places

yes_said : (v : Option Vote) → said_yes v ≡ true → v ≡ Some Yes
yes_said None h = absurd (cc h)
yes_said (Some Yes) h = refl
yes_said (Some (Ended n u w)) h = absurd (cc h)
yes_said (Some (Moved p t)) h = absurd (cc h)
yes_said (Some (PathsOut n)) h = absurd (cc h)

yes_in : (n : ℕ) (vs : Votes) (ks : List ℕ) (i at : ℕ) → slice_get vs i ≡ Some (Some Yes) → slice_get ks i ≡ Some at
    → In (n + i, at) (yes_from n vs ks)
yes_in n [] ks i at v a = absurd (cc v)
yes_in n (v ∷ vs) [] i at e a = absurd (cc a)
yes_in n (v ∷ vs) (k ∷ ks) zero at e a =
    let is : v ≡ Some Yes = cc in
    let place : k ≡ at = cc in
    let number : n + 0 ≡ n = omega arith in
    subst (λ b. In (n + 0, at) (cond b ((n, k) ∷ yes_from (n + 1) vs ks) (yes_from (n + 1) vs ks))) (sym (ap said_yes is))
    (inl (ap₂ (λ (x y : ℕ). (x, y)) number (sym place)))
yes_in n (v ∷ vs) (k ∷ ks) (suc i) at e a =
    let next : (n + 1) + i ≡ n + suc i = omega arith in
    let rest : In (n + suc i, at) (yes_from (n + 1) vs ks) =
    subst (λ j. In (j, at) (yes_from (n + 1) vs ks)) next (yes_in (n + 1) vs ks i at e a) in
    elim (said_yes v) as
    (λ b. In (n + suc i, at) (cond b ((n, k) ∷ yes_from (n + 1) vs ks) (yes_from (n + 1) vs ks))) [ true ↦ inr rest | false ↦ rest ]

record IsYes (n : ℕ) (vs : Votes) (ks : List ℕ) (x : ℕ × ℕ) : Type 0 where
  pub place : ℕ
  pub number : x.0 ≡ n + place
  pub vote : slice_get vs place ≡ Some (Some Yes)
  pub asked : slice_get ks place ≡ Some x.1

yes_out : (n : ℕ) (vs : Votes) (ks : List ℕ) (x : ℕ × ℕ) → In x (yes_from n vs ks) → IsYes n vs ks x
yes_out n [] ks x i = absurd i
yes_out n (v ∷ vs) [] x i = absurd i
yes_out n (v ∷ vs) (k ∷ ks) x i = by (said_yes v) refl (yes_out (n + 1) vs ks x) i
  where
    later : IsYes (n + 1) vs ks x → IsYes n (v ∷ vs) (k ∷ ks) x
    later q =
        let next : (n + 1) + q.place ≡ n + suc q.place = omega arith in
        record { place = suc q.place; number = q.number ∙ next; vote = q.vote; asked = q.asked }

    by : (b : Bool) → said_yes v ≡ b → (In x (yes_from (n + 1) vs ks) → IsYes (n + 1) vs ks x)
        → In x (cond b ((n, k) ∷ yes_from (n + 1) vs ks) (yes_from (n + 1) vs ks)) → IsYes n (v ∷ vs) (k ∷ ks) x
    by true t rest (inl e) =
        let number : n ≡ n + 0 = omega arith in
        record {
          place = 0;
          number = ap (λ (y : ℕ × ℕ). y.0) e ∙ number;
          vote = ap Some (yes_said v t);
          asked =
              ap (λ (y : ℕ × ℕ). Some y.1) (sym e);
        }
    by true t rest (inr j) = later (rest j)
    by false t rest j = later (rest j)

-- ## A part that said Yes here

pub record IsSaidHere (me : ℕ) (l : Leading) (y : Agreed) : Type 0 where
  pub txn : y.key.txn ≡ l.leader.txn
  pub session : y.wanted.session ≡ l.leader.session
  pub part : slice_get l.leader.parts y.key.part ≡ Some y.wanted.part
  pub vote : slice_get l.leader.votes y.key.part ≡ Some (Some Yes)
  pub asked : slice_get l.at y.key.part ≡ Some me

pub is_said_here : (me : ℕ) (l : Leading) (y : Agreed) → In y (said_by me l) → IsSaidHere me l y
is_said_here me l y i =
    let q = said_its me l y i in
    let x = yes_out 0 l.leader.votes l.at (y.key.part, q.at)
    (In-filter (λ (x : ℕ × ℕ). x.1 == me) (y.key.part, q.at) (yes_parts l) q.own) in
    let place : x.place ≡ y.key.part = let e : 0 + x.place ≡ x.place = omega arith in sym (x.number ∙ e) in
    let here : q.at ≡ me = eqb-true q.at me (passing (λ (x : ℕ × ℕ). x.1 == me) (yes_parts l) (y.key.part, q.at) q.own) in
    record {
      txn = q.txn;
      session = q.session;
      part = q.part;
      vote = subst (λ n. slice_get l.leader.votes n ≡ Some (Some Yes)) place x.vote;
      asked = subst (λ n. slice_get l.at n ≡ Some q.at) place x.asked ∙ ap Some here;
    }

pub said_in : (me : ℕ) (l : Leading) (y : Agreed) → IsSaidHere me l y → In y (said_by me l)
said_in me l y q =
    let number : 0 + y.key.part ≡ y.key.part = omega arith in
    let among : In (y.key.part, me) (yes_parts l) =
    subst (λ n. In (n, me) (yes_parts l)) number (yes_in 0 l.leader.votes l.at y.key.part me q.vote q.asked) in
    subst (λ (z : Agreed). In z (said_by me l))
    (ap₂ (λ (t : TxnNo) (by : Session). let z : Agreed =
    record { key = record { txn = t; part = y.key.part }; wanted = record { session = by; part = y.wanted.part } } in z) (sym q.txn)
    (sym q.session))
    (said_so me l y.key.part me y.wanted.part (kept_in (λ (x : ℕ × ℕ). x.1 == me) (y.key.part, me) (yes_parts l) among (itself me)) q.part)

-- ## Among all

-- the part is of this transaction, or of one of the others
pub said_then : (me : ℕ) (l : Leading) (xs : List Leading) (y : Agreed) → In y (flat_map (said_by me) (with_leading l xs))
    → In y (said_by me l) ⊎ In y (flat_map (said_by me) xs)
said_then me l xs y i =
    let q = In_some (said_by me) y (with_leading l xs) i in
    elim (in_with_leading l xs q.0 q.1.0) as (λ _. In y (said_by me l) ⊎ In y (flat_map (said_by me) xs)) [
      | inl e ↦ inl (subst (λ z. In y (said_by me z)) e q.1.1)
      | inr j ↦ inr (In_all (said_by me) y q.0 xs j.0 q.1.1)
    ]

pub said_new : (me : ℕ) (l : Leading) (xs : List Leading) (y : Agreed) → In y (said_by me l)
    → In y (flat_map (said_by me) (with_leading l xs))
said_new me l xs y i = In_all (said_by me) y l (with_leading l xs) (leading_there l xs) i

-- what was said before is of the transaction as it was, or is said still
pub said_before : (me : ℕ) (l old : Leading) (xs : List Leading) (y : Agreed)
    → ((z : Leading) → In z xs → same_txn z.leader.txn l.leader.txn ≡ true → z ≡ old)
    → In y (flat_map (said_by me) xs) → In y (said_by me old) ⊎ In y (flat_map (said_by me) (with_leading l xs))
said_before me l old xs y one i =
    let q = In_some (said_by me) y xs i in
    elim (same_txn (q.0).leader.txn l.leader.txn) as
    (λ b. same_txn (q.0).leader.txn l.leader.txn ≡ b → In y (said_by me old) ⊎ In y (flat_map (said_by me) (with_leading l xs))) [
      | true ↦ λ e. inl (subst (λ z. In y (said_by me z)) (one q.0 q.1.0 e) q.1.1)
      | false ↦ λ e. inr (In_all (said_by me) y q.0 (with_leading l xs) (leading_kept l xs q.0 q.1.0 e) q.1.1)
    ] refl

-- ## One place among the votes

-- nothing but the part of that number changes
pub record ChangesOne (l : Leading) (number : ℕ) (votes : Votes) (places : List ℕ) : Type 0 where
  pub all_votes : length votes ≡ length l.leader.votes
  pub all_places : length places ≡ length l.at
  pub other_votes : (i : ℕ) → (number ≡ i → ⊥) → slice_get votes i ≡ slice_get l.leader.votes i
  pub other_places : (i : ℕ) → (number ≡ i → ⊥) → slice_get places i ≡ slice_get l.at i

module _ (me : ℕ) (waiting : List Agreed) (xs : List Leading) (l : Leading) (number : ℕ) (votes : Votes) (places : List ℕ)
    (keeps : ChangesOne l number votes places) (empty : slice_get l.leader.votes number ≡ Some None) (among : In l xs)
    (only_it : (z : Leading) → In z xs → same_txn z.leader.txn l.leader.txn ≡ true → z ≡ l) where
  abbrev new : Leading
  new = record l { leader = record l.leader { votes = votes }; at = places }

  abbrev before : List Agreed
  before = waiting ++ flat_map (said_by me) xs

  abbrev after : List Agreed
  after = waiting ++ flat_map (said_by me) (with_leading new xs)

  -- a part that said Yes before is another one
  other_part : (y : Agreed) → In y (said_by me l) → IsSaidHere me new y
  other_part y i =
      let q = is_said_here me l y i in
      let off : number ≡ y.key.part → ⊥ = λ e.
      let wrong : Some None ≡ Some (Some Yes) = sym empty ∙ ap (slice_get l.leader.votes) e ∙ q.vote in
      absurd (cc wrong) in
      record {
        txn = q.txn;
        session = q.session;
        part = q.part;
        vote = keeps.other_votes y.key.part off ∙ q.vote;
        asked = keeps.other_places y.key.part off ∙ q.asked;
      }

  pub still_said : (y : Agreed) → In y before → In y after
  still_said y i = In-both y waiting (flat_map (said_by me) xs) (In y after)
      (λ j. In-front y waiting (flat_map (said_by me) (with_leading new xs)) j)
      (λ j. In-behind y waiting (flat_map (said_by me) (with_leading new xs))
      (elim (said_before me new l xs y only_it j) as (λ _. In y (flat_map (said_by me) (with_leading new xs))) [
        | inl r ↦ said_new me new xs y (said_in me new y (other_part y r))
        | inr r ↦ r
      ]))
      i

  -- any that says so now is the part that voted
  pub again_said : (y : Agreed) → In y after → In y before ⊎ ((number ≡ y.key.part) × IsSaidHere me new y)
  again_said y i =
      In-both y waiting (flat_map (said_by me) (with_leading new xs)) (In y before ⊎ ((number ≡ y.key.part) × IsSaidHere me new y))
      (λ j. inl (In-front y waiting (flat_map (said_by me) xs) j))
      (λ j. elim (said_then me new xs y j) as (λ _. In y before ⊎ ((number ≡ y.key.part) × IsSaidHere me new y)) [
        | inl r ↦ of_new (number == y.key.part) refl (is_said_here me new y r)
        | inr r ↦ inl (In-behind y waiting (flat_map (said_by me) xs) r)
      ])
      i
    where
      of_new : (b : Bool) → (number == y.key.part) ≡ b → IsSaidHere me new y → In y before ⊎ ((number ≡ y.key.part) × IsSaidHere me new y)
      of_new true e q = inr (eqb-true number y.key.part e, q)
      of_new false e q =
          let off : number ≡ y.key.part → ⊥ = eqb-false number y.key.part e in
          let old : IsSaidHere me l y = record {
            txn = q.txn;
            session = q.session;
            part = q.part;
            vote = sym (keeps.other_votes y.key.part off) ∙ q.vote;
            asked = sym (keeps.other_places y.key.part off) ∙ q.asked;
          } in
          inl (In-behind y waiting (flat_map (said_by me) xs) (In_all (said_by me) y l xs among (said_in me l y old)))
