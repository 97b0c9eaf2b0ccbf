-- Each word of a part that is sent or comes keeps where all parts stand.
use mathlib.Core.Path.{fun_ext}
use Rattle.std.proofs.Common.{◌≡◌, ◌==◌, ℕ, Bool, true, false, List, [], ◌∷◌, ◌++◌, refl, sym, ap, ◌∙◌, subst, inl, inr, cond}
use Rattle.std.specs.Prelude.{◌≢◌, Option, Some, None}
use Rattle.std.proofs.lemmas.Bool.{eqb-true, eqb-false}
use Rattle.fs_ident.specs.In.{In}
use Rattle.fs_ident.proofs.Same.{itself}
use Rattle.fs_field.specs.declared.effect.Effect.{Effect}
use Rattle.fs_field.specs.declared.vote.Vote.{Vote}
use Rattle.fs_field.specs.declared.vote.Vote.TheVariants.{Yes, Ended, Moved, PathsOut}
use Rattle.fs_txn.specs.Stages.{Desks, IsAlone, IsAsking, IsHeldAt, IsNowhere, IsStage, IsVoted, Key, Stage, StagesHold, Told, Wanted, is_between, is_of, is_yes, same_key, stage_of, told_of, word_from, word_to}
use Rattle.fs_txn.specs.Stages.IsAsking.{coming, refused, granted}
use Rattle.fs_txn.specs.Stages.IsEnding.{decided, done}
use Rattle.fs_txn.specs.Stages.Stage.{Unknown, Asked, Counted, Awaited}
use Rattle.fs_txn.specs.Stages.Word.{Prepare, Voted, Decide, Done}
use Rattle.fs_txn.specs.Telling.{AskKeeps, DecideFindsPart, DecideKeeps, DoneKeeps, DropKeeps, IsFirst, OwnKeeps, PrepareKeeps, SeekKeeps, TellKeeps, VotedKeeps, after_ask, after_decide, after_done, after_drop, after_own, after_prepare, after_tell, after_voted, taken, with_key, with_prepared}
use Rattle.fs_txn.proofs.Keys.{alone_taken, found, kept_in, key_is, key_itself, other_push, other_taken, other_word, told_push}

-- ## One part

each_key : (P : Key → Type 0) (key : Key) → P key → ((other : Key) → same_key other key ≡ false → P other) → (k : Key) → P k
each_key P key own others k = elim (same_key k key) as (λ b. same_key k key ≡ b → P k) [
  | true ↦ λ t. subst P (sym (key_is k key t)) own
  | false ↦ λ t. others k t
] refl

here : {X : Type 0} (key : Key) (x : X) (f : Key → X) → with_key key x f key ≡ x
here key x f = ap (λ b. cond b x (f key)) (key_itself key)

there : {X : Type 0} (key other : Key) (x : X) (f : Key → X) → same_key other key ≡ false → with_key key x f other ≡ f other
there key other x f h = ap (λ b. cond b x (f other)) h

prepared_there : (at : ℕ) (key other : Key) (x : Option Wanted) (f : ℕ → Key → Option Wanted) → same_key other key ≡ false → (k : ℕ) → with_prepared at key x f k other ≡ f k other
prepared_there at key other x f h k = elim (k == at) as (λ b. cond b (with_key key x (f k)) (f k) other ≡ f k other) [ true ↦ there key other x (f k) h | false ↦ refl ]

prepared_here : (at : ℕ) (key : Key) (x : Option Wanted) (f : ℕ → Key → Option Wanted) → with_prepared at key x f at key ≡ x
prepared_here at key x f = ap (λ b. cond b (with_key key x (f at)) (f at) key) (itself at) ∙ here key x (f at)

prepared_off : (at : ℕ) (key : Key) (x : Option Wanted) (f : ℕ → Key → Option Wanted) (k : ℕ) → k ≢ at → with_prepared at key x f k key ≡ f k key
prepared_off at key x f k h = ap (λ b. cond b (with_key key x (f k)) (f k) key) (off (k == at) refl) where
  off : (b : Bool) → (k == at) ≡ b → b ≡ false
  off true t = absurd (h (eqb-true k at t))
  off false t = refl

-- where a part stands
abbrev pub Stands : Desks → Key → Type 0
Stands d key = IsStage key (d.parts key) (d.stages key) (λ k. d.prepared k key) (told_of key d.telling)

-- a part of which nothing changed stands where it stood
pub record IsSame (d e : Desks) (key : Key) : Type 0 where
  pub parts : e.parts key ≡ d.parts key
  pub stages : e.stages key ≡ d.stages key
  pub prepared : (k : ℕ) → e.prepared k key ≡ d.prepared k key
  pub told : told_of key e.telling ≡ told_of key d.telling

stays : (d e : Desks) (key : Key) → IsSame d e key → Stands d key → Stands e key
stays d e key q h =
    let same : (f g : ℕ → Option Wanted) → ((k : ℕ) → f k ≡ g k) → f ≡ g = λ f g r. fun_ext r in
    subst (λ x. IsStage key x (e.stages key) (λ k. e.prepared k key) (told_of key e.telling)) (sym q.parts)
    (subst (λ x. IsStage key (d.parts key) x (λ k. e.prepared k key) (told_of key e.telling)) (sym q.stages)
    (subst (λ x. IsStage key (d.parts key) (d.stages key) x (told_of key e.telling)) (same (λ k. d.prepared k key) (λ k. e.prepared k key) (λ k. sym (q.prepared k)))
    (subst (λ x. IsStage key (d.parts key) (d.stages key) (λ k. d.prepared k key) x) (sym q.told) h)))

-- one part changed
one_changes : (d e : Desks) (key : Key) → StagesHold d → Stands e key → ((other : Key) → same_key other key ≡ false → IsSame d e other) → StagesHold e
one_changes d e key h own same = each_key (Stands e) key own (λ other off. stays d e other (same other off) (h other))

-- a word of the part came
module _ (d : Desks) (key : Key) (m : Told) (its : m.key ≡ key) (h : StagesHold d) (first : IsFirst m d.telling) where
  mine : is_of key m ≡ true
  mine = ap (λ k. same_key k key) its ∙ key_itself key

  pub among : In m (told_of key d.telling)
  among = kept_in (is_of key) m d.telling (found (is_between m.from m.to) m d.telling first) mine

  pub none_left : (only : Told) → told_of key d.telling ≡ only ∷ [] → (m ≡ only) × (told_of key (taken m d.telling) ≡ [])
  none_left only e = (
    elim (subst (In m) e among) as (λ _. m ≡ only) [ inl q ↦ q | inr z ↦ absurd z ],
    alone_taken (is_between m.from m.to) (is_of key) m only d.telling first mine e,
  )

  pub not_none : told_of key d.telling ≡ [] → ⊥
  not_none e = subst (In m) e among

  pub others_stay : (other : Key) → same_key other key ≡ false → told_of other (taken m d.telling) ≡ told_of other d.telling
  others_stay other off = other_taken (is_between m.from m.to) (is_of other) m d.telling first (other_word key other m its off)

-- the part stands there, where its stage is that one
abbrev At : Desks → Key → Stage → Type 0
At d key s = IsStage key (d.parts key) s (λ k. d.prepared k key) (told_of key d.telling)

yes_is : (v : Vote) → is_yes v ≡ true → v ≡ Yes
yes_is Yes h = refl
yes_is (Ended n u w) h = absurd (cc h)
yes_is (Moved p t) h = absurd (cc h)
yes_is (PathsOut n) h = absurd (cc h)

-- ## A server is asked

module _ (d : Desks) (key : Key) (at : ℕ) (wanted : Wanted) (v : Vote) (h : StagesHold d) (first : IsFirst (word_to key at (Prepare wanted)) d.telling) where
  abbrev ask : Told
  ask = word_to key at (Prepare wanted)

  abbrev after : Desks
  after = after_prepare key at wanted v d

  own_told : told_of key (taken ask d.telling) ≡ [] → told_of key after.telling ≡ word_from key at (Voted v) ∷ []
  own_told e = told_push key (word_from key at (Voted v)) (taken ask d.telling) refl ∙ ap (λ xs. xs ++ word_from key at (Voted v) ∷ []) e

  by_vote : (p : ℕ) → IsNowhere (λ k. d.prepared k key) → at ≡ p → wanted ≡ d.parts key → told_of key (taken ask d.telling) ≡ [] → (b : Bool) → is_yes v ≡ b
      → IsAsking key p (d.parts key) (λ k. (cond b (with_prepared at key (Some wanted) d.prepared) d.prepared) k key) (told_of key after.telling)
  by_vote p none same is left true e = granted (own_told left ∙ ap (λ x. word_from key x (Voted v) ∷ []) same ∙ ap (λ w. word_from key p (Voted w) ∷ []) (yes_is v e)) (record {
    here = subst (λ x. with_prepared at key (Some wanted) d.prepared x key ≡ Some (d.parts key)) same (prepared_here at key (Some wanted) d.prepared ∙ ap Some is);
    others = λ k n. prepared_off at key (Some wanted) d.prepared k (λ t. n (t ∙ same)) ∙ none k;
  })
  by_vote p none same is left false e = refused v e (own_told left ∙ ap (λ x. word_from key x (Voted v) ∷ []) same) none

  answered : (p : ℕ) → (p == key.txn.server) ≡ false → told_of key d.telling ≡ word_to key p (Prepare (d.parts key)) ∷ [] → IsNowhere (λ k. d.prepared k key) → At after key (Asked p)
  answered p off e none =
      let q = none_left d key ask refl h first (word_to key p (Prepare (d.parts key))) e in
      let same : at ≡ p = ap (λ (x : Told). x.to) q.0 in
      let word : Prepare wanted ≡ Prepare (d.parts key) = ap (λ (x : Told). x.word) q.0 in
      let is : wanted ≡ d.parts key = cc in
      (off, by_vote p none same is q.1 (is_yes v) refl)

  own : (s : Stage) → At d key s → At after key s
  own Unknown i = absurd (not_none d key ask refl h first i.0)
  own (Counted p w) i = absurd (not_none d key ask refl h first i.0)
  own (Asked p) i = elim i.1 as (λ _. At after key (Asked p)) [
    | coming e none ↦ answered p i.0 e none
    | refused w against e none ↦ let q : Prepare wanted ≡ Voted w = ap (λ (x : Told). x.word) (none_left d key ask refl h first _ e).0 in absurd (cc)
    | granted e alone ↦ let q : Prepare wanted ≡ Voted Yes = ap (λ (x : Told). x.word) (none_left d key ask refl h first _ e).0 in absurd (cc)
  ]
  own (Awaited p) i = elim i.1 as (λ _. At after key (Awaited p)) [
    | decided c e alone ↦ let q : Prepare wanted ≡ Decide c = ap (λ (x : Told). x.word) (none_left d key ask refl h first _ e).0 in absurd (cc)
    | done e none ↦ let q : Prepare wanted ≡ Done = ap (λ (x : Told). x.word) (none_left d key ask refl h first _ e).0 in absurd (cc)
  ]

  prepared_others : (other : Key) → same_key other key ≡ false → (b : Bool) → (k : ℕ) → (cond b (with_prepared at key (Some wanted) d.prepared) d.prepared) k other ≡ d.prepared k other
  prepared_others other off true k = prepared_there at key other (Some wanted) d.prepared off k
  prepared_others other off false k = refl

  pub prepare_kept : StagesHold after
  prepare_kept = one_changes d after key h (own (d.stages key) (h key)) (λ other off. record {
    parts = refl;
    stages = refl;
    prepared = prepared_others other off (is_yes v);
    told = other_push key other (word_from key at (Voted v)) (taken ask d.telling) refl off ∙ others_stay d key ask refl h first other off;
  })

pub prepares : PrepareKeeps
prepares d key at wanted v h first = prepare_kept d key at wanted v h first

-- ## A leader is told a vote

-- a vote that is not Yes is counted, or nobody is asked any more
no_stands : (d : Desks) (key : Key) (at : ℕ) (v : Vote) → is_yes v ≡ false → told_of key d.telling ≡ [] → IsNowhere (λ k. d.prepared k key) → At d key (stage_of at v)
no_stands d key at Yes against none away = absurd (cc against)
no_stands d key at (Ended n u w) against none away = (none, away)
no_stands d key at (Moved p t) against none away = (none, away)
no_stands d key at (PathsOut n) against none away = (none, away)

module _ (d : Desks) (key : Key) (at : ℕ) (v : Vote) (h : StagesHold d) (first : IsFirst (word_from key at (Voted v)) d.telling) where
  abbrev vote : Told
  vote = word_from key at (Voted v)

  abbrev now : Desks
  now = after_voted key at v d

  voted_no : (p : ℕ) (w : Vote) → is_yes w ≡ false → vote ≡ word_from key p (Voted w) → told_of key now.telling ≡ [] → IsNowhere (λ k. d.prepared k key) → At now key (stage_of at v)
  voted_no p w against same none away =
      let word : Voted v ≡ Voted w = ap (λ (x : Told). x.word) same in
      let is : v ≡ w = cc in
      no_stands now key at v (ap is_yes is ∙ against) none away

  voted_yes : (p : ℕ) → (p == key.txn.server) ≡ false → vote ≡ word_from key p (Voted Yes) → told_of key now.telling ≡ [] → IsAlone (λ k. d.prepared k key) p (d.parts key) → At now key (stage_of at v)
  voted_yes p off same none alone =
      let word : Voted v ≡ Voted Yes = ap (λ (x : Told). x.word) same in
      let is : v ≡ Yes = cc in
      let from : at ≡ p = ap (λ (x : Told). x.from) same in
      let stands : At now key (Counted at Yes) = (none, subst (λ b. IsHeldAt b at (d.parts key) (λ k. d.prepared k key)) (sym (ap (λ x. x == key.txn.server) from ∙ off)) (subst (λ x. IsAlone (λ k. d.prepared k key) x (d.parts key)) (sym from) alone)) in
      subst (λ b. At now key (stage_of at b)) (sym is) stands

  vote_at : (s : Stage) → At d key s → At now key (stage_of at v)
  vote_at Unknown i = absurd (not_none d key vote refl h first i.0)
  vote_at (Counted p w) i = absurd (not_none d key vote refl h first i.0)
  vote_at (Asked p) i = elim i.1 as (λ _. At now key (stage_of at v)) [
    | coming e none ↦ let q : Voted v ≡ Prepare (d.parts key) = ap (λ (x : Told). x.word) (none_left d key vote refl h first _ e).0 in absurd (cc)
    | refused w against e none ↦ let q = none_left d key vote refl h first _ e in voted_no p w against q.0 q.1 none
    | granted e alone ↦ let q = none_left d key vote refl h first _ e in voted_yes p i.0 q.0 q.1 alone
  ]
  vote_at (Awaited p) i = elim i.1 as (λ _. At now key (stage_of at v)) [
    | decided c e alone ↦ let q : Voted v ≡ Decide c = ap (λ (x : Told). x.word) (none_left d key vote refl h first _ e).0 in absurd (cc)
    | done e none ↦ let q : Voted v ≡ Done = ap (λ (x : Told). x.word) (none_left d key vote refl h first _ e).0 in absurd (cc)
  ]

  pub vote_kept : StagesHold now
  vote_kept = one_changes d now key h (subst (At now key) (sym (here key (stage_of at v) d.stages)) (vote_at (d.stages key) (h key))) (λ other off. record {
    parts = refl;
    stages = there key other (stage_of at v) d.stages off;
    prepared = λ k. refl;
    told = others_stay d key vote refl h first other off;
  })

pub voteds : VotedKeeps
voteds d key at v h first = vote_kept d key at v h first

-- ## A server is told the decision

module _ (d : Desks) (key : Key) (at : ℕ) (effects : List Effect) (h : StagesHold d) (first : IsFirst (word_to key at (Decide effects)) d.telling) where
  abbrev decision : Told
  decision = word_to key at (Decide effects)

  abbrev then_all : Desks
  then_all = after_decide key at effects d

  applied : (p : ℕ) (c : List Effect) → (p == key.txn.server) ≡ false → decision ≡ word_to key p (Decide c) → told_of key (taken decision d.telling) ≡ [] → IsAlone (λ k. d.prepared k key) p (d.parts key) → At then_all key (Awaited p)
  applied p c off same none alone =
      let to : at ≡ p = ap (λ (x : Told). x.to) same in (
        off,
        done
            (told_push key (word_from key at Done) (taken decision d.telling) refl ∙ ap (λ xs. xs ++ word_from key at Done ∷ []) none ∙ ap (λ x. word_from key x Done ∷ []) to)
            (λ k. elim (k == at) as (λ b. (k == at) ≡ b → with_prepared at key None d.prepared k key ≡ None) [
              | true ↦ λ t. subst (λ x. with_prepared at key None d.prepared x key ≡ None) (sym (eqb-true k at t)) (prepared_here at key None d.prepared)
              | false ↦ λ t. prepared_off at key None d.prepared k (eqb-false k at t) ∙ alone.others k (λ e. eqb-false k at t (e ∙ sym to))
            ] refl),
      )

  decide_at : (s : Stage) → At d key s → At then_all key s
  decide_at Unknown i = absurd (not_none d key decision refl h first i.0)
  decide_at (Counted p w) i = absurd (not_none d key decision refl h first i.0)
  decide_at (Asked p) i = elim i.1 as (λ _. At then_all key (Asked p)) [
    | coming e none ↦ let q : Decide effects ≡ Prepare (d.parts key) = ap (λ (x : Told). x.word) (none_left d key decision refl h first _ e).0 in absurd (cc)
    | refused w against e none ↦ let q : Decide effects ≡ Voted w = ap (λ (x : Told). x.word) (none_left d key decision refl h first _ e).0 in absurd (cc)
    | granted e alone ↦ let q : Decide effects ≡ Voted Yes = ap (λ (x : Told). x.word) (none_left d key decision refl h first _ e).0 in absurd (cc)
  ]
  decide_at (Awaited p) i = elim i.1 as (λ _. At then_all key (Awaited p)) [
    | decided c e alone ↦ let q = none_left d key decision refl h first _ e in applied p c i.0 q.0 q.1 alone
    | done e none ↦ let q : Decide effects ≡ Done = ap (λ (x : Told). x.word) (none_left d key decision refl h first _ e).0 in absurd (cc)
  ]

  pub decide_kept : StagesHold then_all
  decide_kept = one_changes d then_all key h (decide_at (d.stages key) (h key)) (λ other off. record {
    parts = refl;
    stages = refl;
    prepared = prepared_there at key other None d.prepared off;
    told = other_push key other (word_from key at Done) (taken decision d.telling) refl off ∙ others_stay d key decision refl h first other off;
  })

pub decides : DecideKeeps
decides d key at effects h first = decide_kept d key at effects h first

-- ## A leader is told that it was done

module _ (d : Desks) (key : Key) (at : ℕ) (h : StagesHold d) (first : IsFirst (word_from key at Done) d.telling) where
  abbrev word : Told
  word = word_from key at Done

  abbrev last : Desks
  last = after_done key at d

  done_at : (s : Stage) → At d key s → At last key Unknown
  done_at Unknown i = absurd (not_none d key word refl h first i.0)
  done_at (Counted p w) i = absurd (not_none d key word refl h first i.0)
  done_at (Asked p) i = elim i.1 as (λ _. At last key Unknown) [
    | coming e none ↦ let q : Done ≡ Prepare (d.parts key) = ap (λ (x : Told). x.word) (none_left d key word refl h first _ e).0 in absurd (cc)
    | refused w against e none ↦ let q : Done ≡ Voted w = ap (λ (x : Told). x.word) (none_left d key word refl h first _ e).0 in absurd (cc)
    | granted e alone ↦ let q : Done ≡ Voted Yes = ap (λ (x : Told). x.word) (none_left d key word refl h first _ e).0 in absurd (cc)
  ]
  done_at (Awaited p) i = elim i.1 as (λ _. At last key Unknown) [
    | decided c e alone ↦ let q : Done ≡ Decide c = ap (λ (x : Told). x.word) (none_left d key word refl h first _ e).0 in absurd (cc)
    | done e none ↦ ((none_left d key word refl h first _ e).1, none)
  ]

  pub done_kept : StagesHold last
  done_kept = one_changes d last key h (subst (At last key) (sym (here key Unknown d.stages)) (done_at (d.stages key) (h key))) (λ other off. record {
    parts = refl;
    stages = there key other Unknown d.stages off;
    prepared = λ k. refl;
    told = others_stay d key word refl h first other off;
  })

pub dones : DoneKeeps
dones d key at h first = done_kept d key at h first

-- ## A leader tells its decision

pub tells : TellKeeps
tells d key at effects h voted off =
    let e : Desks = after_tell key at effects d in
    let was : At d key (Counted at Yes) = subst (At d key) voted (h key) in
    let alone : IsAlone (λ k. d.prepared k key) at (d.parts key) = subst (λ b. IsHeldAt b at (d.parts key) (λ k. d.prepared k key)) off was.1 in
    let told : told_of key e.telling ≡ word_to key at (Decide effects) ∷ [] = told_push key (word_to key at (Decide effects)) d.telling refl ∙ ap (λ xs. xs ++ word_to key at (Decide effects) ∷ []) was.0 in
    let own : At e key (Awaited at) = (off, decided effects told alone) in
    one_changes d e key h (subst (At e key) (sym (here key (Awaited at) d.stages)) own) (λ other apart. record {
      parts = refl;
      stages = there key other (Awaited at) d.stages apart;
      prepared = λ k. refl;
      told = other_push key other (word_to key at (Decide effects)) d.telling refl apart;
    })

-- ## Who is told a decision has the part

module _ (d : Desks) (key : Key) (at : ℕ) (effects : List Effect) (i : In (word_to key at (Decide effects)) d.telling) where
  told_so : In (word_to key at (Decide effects)) (told_of key d.telling)
  told_so = kept_in (is_of key) (word_to key at (Decide effects)) d.telling i (key_itself key)

  only_that : (m : Told) → told_of key d.telling ≡ m ∷ [] → word_to key at (Decide effects) ≡ m
  only_that m e = elim (subst (In (word_to key at (Decide effects))) e told_so) as (λ _. word_to key at (Decide effects) ≡ m) [ inl q ↦ q | inr z ↦ absurd z ]

  found_at : (s : Stage) → At d key s → d.prepared at key ≡ Some (d.parts key)
  found_at Unknown j = absurd (subst (In (word_to key at (Decide effects))) j.0 told_so)
  found_at (Counted p w) j = absurd (subst (In (word_to key at (Decide effects))) j.0 told_so)
  found_at (Asked p) j = elim j.1 as (λ _. d.prepared at key ≡ Some (d.parts key)) [
    | coming e none ↦ let q : Decide effects ≡ Prepare (d.parts key) = ap (λ (x : Told). x.word) (only_that _ e) in absurd (cc)
    | refused w against e none ↦ let q : Decide effects ≡ Voted w = ap (λ (x : Told). x.word) (only_that _ e) in absurd (cc)
    | granted e alone ↦ let q : Decide effects ≡ Voted Yes = ap (λ (x : Told). x.word) (only_that _ e) in absurd (cc)
  ]
  found_at (Awaited p) j = elim j.1 as (λ _. d.prepared at key ≡ Some (d.parts key)) [
    | decided c e alone ↦ subst (λ x. d.prepared x key ≡ Some (d.parts key)) (sym (ap (λ (x : Told). x.to) (only_that _ e))) alone.here
    | done e none ↦ let q : Decide effects ≡ Done = ap (λ (x : Told). x.word) (only_that _ e) in absurd (cc)
  ]

pub finds : DecideFindsPart
finds d key at effects h i = found_at d key at effects i (d.stages key) (h key)

-- ## A leader asks

pub asks : AskKeeps
asks d key at wanted h unknown apart =
    let e : Desks = after_ask key at wanted d in
    let was : At d key Unknown = subst (At d key) unknown (h key) in
    let told : told_of key e.telling ≡ word_to key at (Prepare wanted) ∷ [] = told_push key (word_to key at (Prepare wanted)) d.telling refl ∙ ap (λ xs. xs ++ word_to key at (Prepare wanted) ∷ []) was.0 in
    let own : IsStage key wanted (Asked at) (λ k. e.prepared k key) (told_of key e.telling) = (apart, coming told was.1) in
    one_changes d e key h
    (subst (λ x. IsStage key x (e.stages key) (λ k. e.prepared k key) (told_of key e.telling)) (sym (here key wanted d.parts))
    (subst (λ x. IsStage key wanted x (λ k. e.prepared k key) (told_of key e.telling)) (sym (here key (Asked at) d.stages)) own))
    (λ other off. record {
      parts = there key other wanted d.parts off;
      stages = there key other (Asked at) d.stages off;
      prepared = λ k. refl;
      told = other_push key other (word_to key at (Prepare wanted)) d.telling refl off;
    })

pub seeks : SeekKeeps
seeks d key at prefix to h first apart = asks (after_voted key at (Moved prefix to) d) key to (d.parts key) (voteds d key at (Moved prefix to) h first) (here key Unknown d.stages) apart

-- ## A leader votes on a part of its own

own_stands : (key : Key) (wanted : Wanted) (v : Vote) (prepared : ℕ → Option Wanted) → IsNowhere prepared → IsStage key wanted (stage_of key.txn.server v) prepared []
own_stands key wanted Yes prepared away = (refl, subst (λ b. IsHeldAt b key.txn.server wanted prepared) (sym (itself key.txn.server)) away)
own_stands key wanted (Ended n u w) prepared away = (refl, away)
own_stands key wanted (Moved p t) prepared away = (refl, away)
own_stands key wanted (PathsOut n) prepared away = (refl, away)

pub owns : OwnKeeps
owns d key wanted v h unknown =
    let e : Desks = after_own key wanted v d in
    let was : At d key Unknown = subst (At d key) unknown (h key) in
    let own : IsStage key wanted (stage_of key.txn.server v) (λ k. e.prepared k key) (told_of key e.telling) = subst (IsStage key wanted (stage_of key.txn.server v) (λ k. d.prepared k key)) (sym was.0) (own_stands key wanted v (λ k. d.prepared k key) was.1) in
    one_changes d e key h
    (subst (λ x. IsStage key x (e.stages key) (λ k. e.prepared k key) (told_of key e.telling)) (sym (here key wanted d.parts))
    (subst (λ x. IsStage key wanted x (λ k. e.prepared k key) (told_of key e.telling)) (sym (here key (stage_of key.txn.server v) d.stages)) own))
    (λ other off. record {
      parts = there key other wanted d.parts off;
      stages = there key other (stage_of key.txn.server v) d.stages off;
      prepared = λ k. refl;
      told = refl;
    })

-- ## A part is over with the decision

pub drops : DropKeeps
drops d key at v h voted own_part =
    let e : Desks = after_drop key d in
    let was : At d key (Counted at v) = subst (At d key) voted (h key) in
    let away : IsNowhere (λ k. d.prepared k key) = over (is_yes v) was.1 own_part in
    one_changes d e key h (subst (At e key) (sym (here key Unknown d.stages)) (was.0, away)) (λ other off. record {
      parts = refl;
      stages = there key other Unknown d.stages off;
      prepared = λ k. refl;
      told = refl;
    })
  where
    over : (b : Bool) → IsVoted b key at (d.parts key) (λ k. d.prepared k key) → (b ≡ true → (at == key.txn.server) ≡ true) → IsNowhere (λ k. d.prepared k key)
    over true i o = subst (λ b. IsHeldAt b at (d.parts key) (λ k. d.prepared k key)) (o refl) i
    over false i o = i
