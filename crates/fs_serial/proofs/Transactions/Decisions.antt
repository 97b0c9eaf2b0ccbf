-- Whom a leader tells its decision: each part that said Yes at another server, once.
use Rattle.std.proofs.Common.{◌≡◌, ◌==◌, ℕ, ◌+◌, ◌<◌, zero, suc, Bool, true, false, not, List, [], ◌∷◌, ◌++◌, map, refl, sym, ap, ◌∙◌, subst, cond, arith}
use Rattle.std.specs.Prelude.{Option, Some, None, slice_get}
use Rattle.std.specs.List.{filter}
use Rattle.std.proofs.lemmas.Bool.{eqb-true}
use Rattle.fs_ident.specs.declared.actor.Peer.{Peer}
use Rattle.fs_ident.specs.declared.actor.Session.{Session}
use Rattle.fs_ident.specs.declared.actor.TxnNo.{TxnNo}
use Rattle.fs_ident.proofs.Same.{itself}
use Rattle.fs_field.specs.Table.{same_txn}
use Rattle.fs_field.specs.declared.vote.Vote.{Vote}
use Rattle.fs_field.specs.declared.vote.Vote.TheVariants.{Yes, Ended, Moved, PathsOut}
use Rattle.fs_msg.specs.declared.msg.Msg.{Msg}
use Rattle.fs_record.specs.declared.led_end.LedEnd.{LedEnd}
use Rattle.fs_server.specs.Concludes.{ends_now, tells}
use Rattle.fs_server.specs.LeadingLaws.{of_number}
use Rattle.fs_txn.specs.Deciding.{told_effects}
use Rattle.fs_txn.specs.Leading.{awaited_stage, elsewhere, said_yes, yes_from}
use Rattle.fs_txn.specs.Stages.{Key, Stage, Told, told_of}
use Rattle.fs_txn.specs.Stages.Stage.{Unknown, Awaited}
use Rattle.fs_txn.specs.Stages.Word.{Decide}
use Rattle.fs_txn.specs.Votes.{Votes}
use Rattle.fs_txn.specs.declared.decision.Decision.{Decision}
use Rattle.fs_txn.specs.declared.leading.Leading.{Leading}
use Rattle.fs_serial.specs.Cluster.{in_flight_from}
use Rattle.fs_serial.specs.Words.{key_of, telling_of}

-- ## The parts that are told

abbrev off : ℕ → List (ℕ × ℕ) → List (ℕ × ℕ)
off me xs = filter (λ (x : ℕ × ℕ). not (x.1 == me)) xs

-- what is told of the part of this number, for its vote and whom it was asked of
pub data IsTold (me n : ℕ) (out : List (ℕ × ℕ)) (vote : Option (Option Vote)) (asked : Option ℕ) : Type 0 where
  told : (at : ℕ) → of_number n out ≡ (n, at) ∷ [] → vote ≡ Some (Some Yes) → asked ≡ Some at → (at == me) ≡ false
      → IsTold me n out vote asked
  untold : of_number n out ≡ [] → ((at : ℕ) → vote ≡ Some (Some Yes) → asked ≡ Some at → (at == me) ≡ true) → IsTold me n out vote asked

-- one more pair in front
front : (me n i at : ℕ) (b : Bool) (xs : List (ℕ × ℕ))
    → of_number n (off me (cond b ((i, at) ∷ xs) xs)) ≡ cond (b)
    (cond (not (at == me)) (cond (i == n) ((i, at) ∷ of_number n (off me xs)) (of_number n (off me xs))) (of_number n (off me xs)))
    (of_number n (off me xs))
front me n i at false xs = refl
front me n i at true xs = elim (not (at == me)) as
    (λ c. of_number n (cond c ((i, at) ∷ off me xs) (off me xs)) ≡ cond c
    (cond (i == n) ((i, at) ∷ of_number n (off me xs)) (of_number n (off me xs))) (of_number n (off me xs))) [ true ↦ refl | false ↦ refl ]

passed_over : (me n i at : ℕ) (b : Bool) (xs : List (ℕ × ℕ)) → (i == n) ≡ false
    → of_number n (off me (cond b ((i, at) ∷ xs) xs)) ≡ of_number n (off me xs)
passed_over me n i at b xs h =
    front me n i at b xs
    ∙ ap (λ f. cond b (cond (not (at == me)) (cond f ((i, at) ∷ of_number n (off me xs)) (of_number n (off me xs)))
    (of_number n (off me xs))) (of_number n (off me xs))) h
    ∙ elim b as (λ b. cond b (cond (not (at == me)) (of_number n (off me xs)) (of_number n (off me xs)))
    (of_number n (off me xs)) ≡ of_number n (off me xs)) [
      | true ↦ elim (not (at == me)) as
          (λ c. cond c (of_number n (off me xs)) (of_number n (off me xs)) ≡ of_number n (off me xs)) [ true ↦ refl | false ↦ refl ]
      | false ↦ refl
    ]

not_that : (i n : ℕ) → n < i → (i == n) ≡ false
not_that i n h = by (i == n) refl
  where
    by : (b : Bool) → (i == n) ≡ b → b ≡ false
    by true e = let same : i ≡ n = eqb-true i n e in absurd (omega (arith, h, same))
    by false e = refl

none_before : (me n i : ℕ) (votes : Votes) (at : List ℕ) → n < i → of_number n (off me (yes_from i votes at)) ≡ []
none_before me n i [] at h = refl
none_before me n i (v ∷ vs) [] h = refl
none_before me n i (v ∷ vs) (k ∷ ks) h =
    passed_over me n i k (said_yes v) (yes_from (i + 1) vs ks) (not_that i n h)
    ∙ none_before me n (i + 1) vs ks (omega (arith, h))

pub yes_said : (v : Option Vote) → said_yes v ≡ true → v ≡ Some Yes
yes_said None h = absurd (cc h)
yes_said (Some Yes) h = refl
yes_said (Some (Ended n u w)) h = absurd (cc h)
yes_said (Some (Moved p t)) h = absurd (cc h)
yes_said (Some (PathsOut n)) h = absurd (cc h)

-- it is the first of these
first_told : (me n i k : ℕ) (v : Option Vote) (vs : Votes) (ks : List ℕ) → n ≡ i
    → IsTold me n (off me (yes_from i (v ∷ vs) (k ∷ ks))) (Some v) (Some k)
first_told me n i k v vs ks e =
    subst (λ m. IsTold me m (off me (yes_from i (v ∷ vs) (k ∷ ks))) (Some v) (Some k)) (sym e) (by (said_yes v) (k == me) refl refl)
  where
    rest : of_number i (off me (yes_from (i + 1) vs ks)) ≡ []
    rest = none_before me i (i + 1) vs ks (omega arith)

    is : (b c : Bool) → said_yes v ≡ b → (k == me) ≡ c
        → of_number i (off me (yes_from i (v ∷ vs) (k ∷ ks))) ≡ cond b (cond (not c) ((i, k) ∷ []) []) []
    is b c p q =
        front me i i k (said_yes v) (yes_from (i + 1) vs ks)
        ∙ ap (λ xs. cond (said_yes v) (cond (not (k == me)) (cond (i == i) ((i, k) ∷ xs) xs) xs) xs) rest
        ∙ ap (λ f. cond (said_yes v) (cond (not (k == me)) (cond f ((i, k) ∷ []) []) []) []) (itself i)
        ∙ ap (λ f. cond f (cond (not (k == me)) ((i, k) ∷ []) []) []) p
        ∙ ap (λ f. cond b (cond (not f) ((i, k) ∷ []) []) []) q

    by : (b c : Bool) → said_yes v ≡ b → (k == me) ≡ c → IsTold me i (off me (yes_from i (v ∷ vs) (k ∷ ks))) (Some v) (Some k)
    by true false p q = told k (is true false p q) (ap Some (yes_said v p)) refl q
    by true true p q = untold (is true true p q) (λ at g h. let same : k ≡ at = cc in ap (λ x. x == me) (sym same) ∙ q)
    by false c p q = untold (is false c p q) (λ at g h.
        let same : v ≡ Some Yes = cc in
        let wrong : true ≡ false = ap said_yes (sym same) ∙ p in
        absurd (cc wrong))

each_told : (me n i m : ℕ) (votes : Votes) (at : List ℕ) → n ≡ i + m
    → IsTold me n (off me (yes_from i votes at)) (slice_get votes m) (slice_get at m)
each_told me n i m [] at e = untold refl (λ at g h. absurd (cc g))
each_told me n i m (v ∷ vs) [] e = untold refl (λ at g h. absurd (cc h))
each_told me n i zero (v ∷ vs) (k ∷ ks) e = first_told me n i k v vs ks (omega (arith, e))
each_told me n i (suc m) (v ∷ vs) (k ∷ ks) e = same (each_told me n (i + 1) m vs ks (omega (arith, e)))
  where
    eq : of_number n (off me (yes_from i (v ∷ vs) (k ∷ ks))) ≡ of_number n (off me (yes_from (i + 1) vs ks))
    eq = passed_over me n i k (said_yes v) (yes_from (i + 1) vs ks) (by (i == n) refl)
      where
        by : (b : Bool) → (i == n) ≡ b → b ≡ false
        by true t = let q : i ≡ n = eqb-true i n t in absurd (omega (arith, e, q))
        by false t = refl

    same : IsTold me n (off me (yes_from (i + 1) vs ks)) (slice_get vs m) (slice_get ks m)
        → IsTold me n (off me (yes_from i (v ∷ vs) (k ∷ ks))) (slice_get vs m) (slice_get ks m)
    same (told at q y a f) = told at (eq ∙ q) y a f
    same (untold q f) = untold (eq ∙ q) f

pub is_told : (me n : ℕ) (l : Leading) → IsTold me n (elsewhere me l) (slice_get l.leader.votes n) (slice_get l.at n)
is_told me n l = each_told me n 0 n l.leader.votes l.at (omega arith)

-- ## Where the parts that are told stand

abbrev pub first_awaited : List (ℕ × ℕ) → Stage
first_awaited [] = Unknown
first_awaited (x ∷ xs) = Awaited x.1

pub awaited_first : (n : ℕ) (xs : List (ℕ × ℕ)) → awaited_stage n xs ≡ first_awaited (of_number n xs)
awaited_first n [] = refl
awaited_first n (x ∷ xs) = elim (x.0 == n) as
    (λ b. cond b (Awaited x.1) (awaited_stage n xs) ≡ first_awaited (cond b (x ∷ of_number n xs) (of_number n xs))) [
      | true ↦ refl
      | false ↦ awaited_first n xs
    ]

-- ## What is sent

abbrev pub decision_word : ℕ → TxnNo → Decision → ℕ × ℕ → Told
decision_word k txn d x = record { from = k; to = x.1; key = key_of txn x.0; word = Decide (told_effects d x.0) }

nothing_now : (k : ℕ) (out : List (ℕ × ℕ)) (by : Session) (e : LedEnd) → telling_of (in_flight_from k (ends_now out by e)) ≡ []
nothing_now k [] by e = refl
nothing_now k (x ∷ xs) by e = refl

words_then : (k : ℕ) (txn : TxnNo) (d : Decision) (out : List (ℕ × ℕ)) (more : List (Peer × Msg))
    → telling_of (in_flight_from k (tells txn d out ++ more)) ≡ map (decision_word k txn d) out ++ telling_of (in_flight_from k more)
words_then k txn d [] more = refl
words_then k txn d (x ∷ xs) more = ap (λ ws. decision_word k txn d x ∷ ws) (words_then k txn d xs more)

pub decision_words : (k : ℕ) (txn : TxnNo) (d : Decision) (out : List (ℕ × ℕ)) (by : Session) (e : LedEnd)
    → telling_of (in_flight_from k (tells txn d out ++ ends_now out by e)) ≡ map (decision_word k txn d) out
decision_words k txn d out by e =
    words_then k txn d out (ends_now out by e) ∙ ap (λ ws. map (decision_word k txn d) out ++ ws) (nothing_now k out by e)
    ∙ nil (map (decision_word k txn d) out)
  where
    nil : (xs : List Told) → (xs ++ []) ≡ xs
    nil [] = refl
    nil (x ∷ xs) = ap (λ ys. x ∷ ys) (nil xs)

-- those of one part
pub words_of : (k : ℕ) (txn : TxnNo) (d : Decision) (key : Key) (out : List (ℕ × ℕ)) → same_txn txn key.txn ≡ true
    → told_of key (map (decision_word k txn d) out) ≡ map (decision_word k txn d) (of_number key.part out)
words_of k txn d key [] h = refl
words_of k txn d key (x ∷ xs) h =
    let rest : told_of key (map (decision_word k txn d) xs) ≡ map (decision_word k txn d) (of_number key.part xs) =
    words_of k txn d key xs h in
    rw (h, rest) (elim (x.0 == key.part) as
    (λ b. cond b (decision_word k txn d x ∷ map (decision_word k txn d) (of_number key.part xs))
    (map (decision_word k txn d) (of_number key.part xs)) ≡ map (decision_word k txn d)
    (cond b (x ∷ of_number key.part xs) (of_number key.part xs))) [ true ↦ refl | false ↦ refl ])

pub none_of_words : (k : ℕ) (txn : TxnNo) (d : Decision) (key : Key) (out : List (ℕ × ℕ)) → same_txn txn key.txn ≡ false
    → told_of key (map (decision_word k txn d) out) ≡ []
none_of_words k txn d key [] h = refl
none_of_words k txn d key (x ∷ xs) h = let rest : told_of key (map (decision_word k txn d) xs) ≡ [] =
    none_of_words k txn d key xs h in rw (h, rest) refl
