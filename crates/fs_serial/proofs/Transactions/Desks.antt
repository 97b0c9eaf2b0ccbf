-- Where all parts of transactions stand after a step of one server: the words on their way, and each server's tables.
use mathlib.Core.Path.{fun_ext}
use Rattle.std.proofs.Common.{◌≡◌, ◌==◌, ◌≤◌, ℕ, Bool, true, false, List, [], ◌∷◌, ◌++◌, refl, sym, ap, ◌∙◌, subst, inl, inr, cond, arith}
use Rattle.std.specs.Prelude.{◌≢◌, Option, Some, None, option_map, slice_get, slice_set}
use Rattle.std.specs.List.{cons_option, find}
use Rattle.std.proofs.lemmas.Bool.{eqb-true, eqb-false}
use Rattle.std.proofs.lemmas.List.Elements.{filter_map-append}
use Rattle.fs_ident.specs.Ident.{same}
use Rattle.fs_ident.specs.In.{In}
use Rattle.fs_ident.specs.declared.actor.Session.{Session}
use Rattle.fs_ident.specs.declared.actor.TxnNo.{TxnNo}
use Rattle.fs_ident.proofs.Booleans.{joined}
use Rattle.fs_ident.proofs.Same.{itself}
use Rattle.fs_field.specs.declared.effect.Effect.{Effect}
use Rattle.fs_field.specs.declared.effect.Effect.TheVariants as effect
use Rattle.fs_field.specs.declared.field.Field.{Field}
use Rattle.fs_field.specs.declared.field.Field.TheVariants.{Child}
use Rattle.fs_field.specs.declared.lease_kind.LeaseKind.{LeaseKind}
use Rattle.fs_field.specs.declared.lease_kind.LeaseKind.TheVariants.{Exclusive}
use Rattle.fs_field.specs.declared.row.Row.{Row}
use Rattle.fs_field.specs.declared.vote.Vote.{Vote}
use Rattle.fs_field.specs.declared.vote.Vote.TheVariants.{Yes}
use Rattle.fs_msg.specs.declared.peer_msg.PeerMsg.{PeerMsg}
use Rattle.fs_server.specs.declared.state.Server.{Server}
use Rattle.fs_txn.specs.Leading.{ending_of, leading_of, stage_in}
use Rattle.fs_txn.specs.Ready.{is_part}
use Rattle.fs_txn.specs.Stages.{Desks, IsAlone, IsHeldAt, IsNowhere, IsStage, IsVoted, Key, Stage, StagesHold, Told, Wanted, Word, is_between, is_of, is_yes, same_key, told_of, word_from, word_to}
use Rattle.fs_txn.specs.Stages.IsAsking.{coming, refused, granted}
use Rattle.fs_txn.specs.Stages.IsEnding.{decided, done}
use Rattle.fs_txn.specs.Stages.Stage.{Unknown, Asked, Counted, Awaited}
use Rattle.fs_txn.specs.Stages.Word.{Prepare, Voted, Decide, Done}
use Rattle.fs_txn.specs.Telling.{IsFirst, taken, with_key, with_prepared, without_first}
use Rattle.fs_txn.specs.declared.leading.Ending.{Ending}
use Rattle.fs_txn.specs.declared.leading.Leading.{Leading}
use Rattle.fs_txn.proofs.Keys.{key_is, key_itself, kept_in}
use Rattle.fs_serial.specs.Cluster.{InFlight, Lines}
use Rattle.fs_serial.specs.Cluster as cluster
use Rattle.fs_serial.specs.Leading.{HasLockFor, IsEnded, IsLeading, IsLedBy, IsPlaced, IsToldOf}
use Rattle.fs_serial.specs.Words.{ended_in, ending_at, leading_at, led_in, prepared_in, ready_at, rows_at, stage_of_key, telling_of, told_in, told_with, wanted_of, word_in}
use Rattle.fs_serial.proofs.Lists.SetAt.{In_set, get_here, get_other}

-- ## Words on their way

pub telling_append : (fs gs : List InFlight) → telling_of (fs ++ gs) ≡ telling_of fs ++ telling_of gs
telling_append fs gs = filter_map-append told_in fs gs

-- the word that comes is the first between the two servers, and the others are left
pub record IsHeard (from k : ℕ) (in_flight : List InFlight) (m : Told) : Type 0 where
  pub first : find (is_between from k) (telling_of in_flight) ≡ Some m
  pub left : telling_of (cluster.without_first (cluster.is_between from k) in_flight)
      ≡ without_first (is_between from k) (telling_of in_flight)

told_between : (from k : ℕ) (f : InFlight) (m : Told) → told_in f ≡ Some m → is_between from k m ≡ cluster.is_between from k f
told_between from k f m e =
    elim (word_in f.message) as (λ o. option_map (told_with f.from f.to) o ≡ Some m → is_between from k m ≡ cluster.is_between from k f) [
      | None ↦ λ q. absurd (cc)
      | Some w ↦ λ q. let same : told_with f.from f.to w ≡ m = cc in ap (is_between from k) (sym same)
    ] e

is_heard : (from k : ℕ) (m : PeerMsg) (w : Key × Word) → word_in m ≡ Some w
    → told_in (record { from = from; to = k; message = m }) ≡ Some (told_with from k w)
is_heard from k m w e = ap (option_map (told_with from k)) e

pub heard : (from k : ℕ) (m : PeerMsg) (w : Key × Word) (in_flight : List InFlight) → word_in m ≡ Some w
    → find (cluster.is_between from k) in_flight ≡ Some (record { from = from; to = k; message = m })
    → IsHeard from k in_flight (told_with from k w)
heard from k m w [] said f = absurd (cc)
heard from k m w (x ∷ xs) said f = at (cluster.is_between from k x) refl f (told_in x) refl (λ g. heard from k m w xs said g)
  where
    at : (b : Bool) → cluster.is_between from k x ≡ b → cond b (Some x) (find (cluster.is_between from k) xs) ≡ Some
        (record { from = from; to = k; message = m })
        → (o : Option Told) → told_in x ≡ o →
        (find (cluster.is_between from k) xs ≡ Some (record { from = from; to = k; message = m })
        → IsHeard from k xs (told_with from k w)) → IsHeard from k (x ∷ xs) (told_with from k w)
    at true t g o e rest =
        let is : x ≡ (let f : InFlight = record { from = from; to = k; message = m } in f) = cc in
        let told : told_in x ≡ Some (told_with from k w) = ap told_in is ∙ is_heard from k m w said in
        let between : is_between from k (told_with from k w) ≡ true = joined _ _ (itself from) (itself k) in
        record {
          first = ap (λ o. find (is_between from k) (cons_option o (telling_of xs))) told
              ∙ ap (λ b. cond b (Some (told_with from k w)) (find (is_between from k) (telling_of xs))) between;
          left = ap (λ b. telling_of (cond b xs (x ∷ cluster.without_first (cluster.is_between from k) xs))) t
              ∙ sym (ap (λ o. without_first (is_between from k) (cons_option o (telling_of xs))) told
              ∙ ap (λ b. cond b (telling_of xs) (told_with from k w ∷ without_first (is_between from k) (telling_of xs))) between);
        }
    at false t g None e rest =
        let r = rest g in
        record {
          first = ap (λ o. find (is_between from k) (cons_option o (telling_of xs))) e ∙ r.first;
          left = ap (λ b. telling_of (cond b xs (x ∷ cluster.without_first (cluster.is_between from k) xs))) t
              ∙ ap (λ o. cons_option o (telling_of (cluster.without_first (cluster.is_between from k) xs))) e
              ∙ r.left ∙ sym (ap (λ o. without_first (is_between from k) (cons_option o (telling_of xs))) e);
        }
    at false t g (Some y) e rest =
        let r = rest g in
        let off : is_between from k y ≡ false = told_between from k x y e ∙ t in
        record {
          first = ap (λ o. find (is_between from k) (cons_option o (telling_of xs))) e
              ∙ ap (λ b. cond b (Some y) (find (is_between from k) (telling_of xs))) off ∙ r.first;
          left = ap (λ b. telling_of (cond b xs (x ∷ cluster.without_first (cluster.is_between from k) xs))) t
              ∙ ap (λ o. cons_option o (telling_of (cluster.without_first (cluster.is_between from k) xs))) e
              ∙ ap (λ ys. y ∷ ys) r.left
              ∙ sym (ap (λ o. without_first (is_between from k) (cons_option o (telling_of xs))) e
              ∙ ap (λ b. cond b (telling_of xs) (y ∷ without_first (is_between from k) (telling_of xs))) off);
        }

-- the same, where it is known which word it is
pub record IsTakenWord (from k : ℕ) (in_flight : List InFlight) (m : Told) : Type 0 where
  pub first : IsFirst m (telling_of in_flight)
  pub left : telling_of (cluster.without_first (cluster.is_between from k) in_flight) ≡ taken m (telling_of in_flight)

pub heard_as : (from k : ℕ) (m : PeerMsg) (w : Key × Word) (in_flight : List InFlight) (x : Told) → word_in m ≡ Some w
    → find (cluster.is_between from k) in_flight ≡ Some (record { from = from; to = k; message = m }) → told_with from k w ≡ x
    → IsTakenWord from k in_flight x
heard_as from k m w in_flight x said f is =
    let h = heard from k m w in_flight said f in
    record {
      first = subst (λ y. IsFirst y (telling_of in_flight)) is h.first;
      left = subst
          (λ y. telling_of (cluster.without_first (cluster.is_between from k) in_flight) ≡ taken y (telling_of in_flight)) is h.left;
    }

-- a message that is no word leaves all words
pub not_heard : (is : InFlight → Bool) (in_flight : List InFlight) (f : InFlight) → find is in_flight ≡ Some f → word_in f.message ≡ None
    → telling_of (cluster.without_first is in_flight) ≡ telling_of in_flight
not_heard is [] f g e = refl
not_heard is (x ∷ xs) f g e =
    elim (is x) as
    (λ b. cond b (Some x) (find is xs) ≡ Some f → telling_of (cond b xs (x ∷ cluster.without_first is xs)) ≡ telling_of (x ∷ xs)) [
      | true ↦ λ q. let same : x ≡ f = cc in
          sym (ap (λ o. cons_option o (telling_of xs)) (ap told_in same ∙ ap (option_map (told_with f.from f.to)) e))
      | false ↦ λ q. ap (cons_option (told_in x)) (not_heard is xs f q e)
    ] g

pub taken_In : (m z : Told) (telling : List Told) → In z (taken m telling) → In z telling
taken_In m z telling i = of (is_between m.from m.to) telling i
  where
    of : (is : Told → Bool) (xs : List Told) → In z (without_first is xs) → In z xs
    of is [] j = absurd j
    of is (x ∷ xs) j = elim (is x) as (λ b. In z (cond b xs (x ∷ without_first is xs)) → In z (x ∷ xs)) [
      | true ↦ λ l. inr l
      | false ↦ λ l. elim l as (λ _. In z (x ∷ xs)) [ inl e ↦ inl e | inr r ↦ inr (of is xs r) ]
    ] j

-- ## A server that took a step

pub other_server : (key own : Key) (k : ℕ) → (own.txn.server == k) ≡ true → (key.txn.server == k) ≡ false → same_key key own ≡ false
other_server key own k mine off = elim (same_key key own) as (λ c. same_key key own ≡ c → c ≡ false) [
  | true ↦ λ e. let wrong : true ≡ false = sym mine ∙ ap (λ (z : Key). z.txn.server == k) (sym (key_is key own e)) ∙ off in absurd (cc)
  | false ↦ λ e. refl
] refl

-- what holds of each that was there and of the new one holds of each that is there
pub each_after : (P : Server → Type 0) (ss : List Server) (k : ℕ) (t : Server) → ((z : Server) → In z ss → P z) → P t → (z : Server)
    → In z (slice_set ss k t) → P z
each_after P ss k t old new z i = elim (In_set ss k t z i) as (λ _. P z) [ inl e ↦ subst P (sym e) new | inr j ↦ old z j ]

module _ (ss : List Server) (k : ℕ) (s t : Server) (at : slice_get ss k ≡ Some s) where
  pub was_at : (j : ℕ) → (j == k) ≡ true → slice_get ss j ≡ Some s
  was_at j e = ap (slice_get ss) (eqb-true j k e) ∙ at

  pub is_at : (j : ℕ) → (j == k) ≡ true → slice_get (slice_set ss k t) j ≡ Some t
  is_at j e = ap (slice_get (slice_set ss k t)) (eqb-true j k e) ∙ get_here ss k s t at

  pub is_still : (j : ℕ) → (j == k) ≡ false → slice_get (slice_set ss k t) j ≡ slice_get ss j
  is_still j e = get_other ss k j t (λ q. eqb-false j k e (sym q))

  -- of which something stays
  pub same_at : {X : Type 0} (f : Option Server → X) → f (Some t) ≡ f (Some s) → (j : ℕ)
      → f (slice_get (slice_set ss k t) j) ≡ f (slice_get ss j)
  same_at f e j = elim (j == k) as (λ b. (j == k) ≡ b → f (slice_get (slice_set ss k t) j) ≡ f (slice_get ss j)) [
    | true ↦ λ q. ap f (is_at j q) ∙ e ∙ sym (ap f (was_at j q))
    | false ↦ λ q. ap f (is_still j q)
  ] refl

  pub led_set : t.leading ≡ s.leading → (txn : TxnNo) → led_in (slice_set ss k t) txn ≡ led_in ss txn
  led_set e txn = same_at (λ o. leading_of txn (leading_at o)) (ap (leading_of txn) e) txn.server

  pub ended_set : t.ending ≡ s.ending → (txn : TxnNo) → ended_in (slice_set ss k t) txn ≡ ended_in ss txn
  ended_set e txn = same_at (λ o. ending_of txn (ending_at o)) (ap (ending_of txn) e) txn.server

  pub prepared_set : t.prepared ≡ s.prepared → (j : ℕ) (key : Key) → prepared_in (slice_set ss k t) j key ≡ prepared_in ss j key
  prepared_set e j key =
      same_at (λ o. option_map wanted_of (find (is_part key.txn key.part) (ready_at o)))
      (ap (λ xs. option_map wanted_of (find (is_part key.txn key.part) xs)) e) j

  -- where its tables of leaders stay, all stages do
  pub stage_set : t.leading ≡ s.leading → t.ending ≡ s.ending → (key : Key) → stage_of_key (slice_set ss k t) key ≡ stage_of_key ss key
  stage_set l e key =
      ap (λ o. stage_in key.part o (ended_in (slice_set ss k t) key.txn)) (led_set l key.txn)
      ∙ ap (stage_in key.part (led_in ss key.txn)) (ended_set e key.txn)

  -- the stage of a part of its own transactions
  abbrev pub stage_at : Server → Key → Stage
  stage_at z key = stage_in key.part (leading_of key.txn z.leading) (ending_of key.txn z.ending)

  pub stage_is : (key : Key) → (key.txn.server == k) ≡ true → stage_of_key (slice_set ss k t) key ≡ stage_at t key
  stage_is key e =
      ap (λ o. stage_in key.part (leading_of key.txn (leading_at o)) (ending_of key.txn (ending_at o))) (is_at key.txn.server e)

  pub stage_was : (key : Key) → (key.txn.server == k) ≡ true → stage_of_key ss key ≡ stage_at s key
  stage_was key e =
      ap (λ o. stage_in key.part (leading_of key.txn (leading_at o)) (ending_of key.txn (ending_at o))) (was_at key.txn.server e)

  pub stage_still : (key : Key) → (key.txn.server == k) ≡ false → stage_of_key (slice_set ss k t) key ≡ stage_of_key ss key
  stage_still key e =
      ap (λ o. stage_in key.part (leading_of key.txn (leading_at o)) (ending_of key.txn (ending_at o))) (is_still key.txn.server e)

  -- the stage of one part of its own changes
  pub stage_one : (own : Key) (x : Stage) → (own.txn.server == k) ≡ true
      → ((key : Key) → (key.txn.server == k) ≡ true → stage_at t key ≡ with_key own x (stage_at s) key)
      → (key : Key) → stage_of_key (slice_set ss k t) key ≡ with_key own x (stage_of_key ss) key
  stage_one own x mine h key =
      elim (key.txn.server == k) as
      (λ b. (key.txn.server == k) ≡ b → stage_of_key (slice_set ss k t) key ≡ with_key own x (stage_of_key ss) key) [
        | true ↦ λ q. stage_is key q ∙ h key q ∙ ap (λ y. cond (same_key key own) x y) (sym (stage_was key q))
        | false ↦ λ q. stage_still key q ∙ sym (ap (λ b. cond b x (stage_of_key ss key)) (other_server key own k mine q))
      ] refl

  -- the part of one transaction that it has ready changes
  pub prepared_one : (own : Key) (x : Option Wanted)
      → ((key : Key) → option_map wanted_of (find (is_part key.txn key.part) t.prepared) ≡ with_key own x
      (λ y. option_map wanted_of (find (is_part y.txn y.part) s.prepared)) key)
      → (j : ℕ) (key : Key) → prepared_in (slice_set ss k t) j key ≡ with_prepared k own x (prepared_in ss) j key
  prepared_one own x h j key =
      elim (j == k) as
      (λ b. (j == k) ≡ b → prepared_in (slice_set ss k t) j key ≡ (cond b (with_key own x (prepared_in ss j)) (prepared_in ss j)) key) [
        | true ↦ λ q. ap (λ o. option_map wanted_of (find (is_part key.txn key.part) (ready_at o))) (is_at j q) ∙ h key
            ∙ ap (λ y. cond (same_key key own) x y)
            (sym (ap (λ o. option_map wanted_of (find (is_part key.txn key.part) (ready_at o))) (was_at j q)))
        | false ↦ λ q. ap (λ o. option_map wanted_of (find (is_part key.txn key.part) (ready_at o))) (is_still j q)
      ] refl

-- ## Desks in which the same stands

pub record AreAlike (d e : Desks) : Type 0 where
  pub parts : (key : Key) → e.parts key ≡ d.parts key
  pub stages : (key : Key) → e.stages key ≡ d.stages key
  pub prepared : (k : ℕ) (key : Key) → e.prepared k key ≡ d.prepared k key
  pub telling : e.telling ≡ d.telling

pub stand_alike : (d e : Desks) → AreAlike d e → StagesHold d → StagesHold e
stand_alike d e q h key =
    let ready : (λ k. d.prepared k key) ≡ (λ k. e.prepared k key) = fun_ext (λ k. sym (q.prepared k key)) in
    subst (λ x. IsStage key x (e.stages key) (λ k. e.prepared k key) (told_of key e.telling)) (sym (q.parts key))
    (subst (λ x. IsStage key (d.parts key) x (λ k. e.prepared k key) (told_of key e.telling)) (sym (q.stages key))
    (subst (λ x. IsStage key (d.parts key) (d.stages key) x (told_of key e.telling)) ready
    (subst (λ x. IsStage key (d.parts key) (d.stages key) (λ k. d.prepared k key) (told_of key x)) (sym q.telling) (h key))))

apart_from : (p k : ℕ) → (p == k) ≡ false → k ≢ p
apart_from p k e q = eqb-false p k e (sym q)

-- the leader itself keeps none of its parts ready
pub not_at_home : (key : Key) (w : Wanted) (st : Stage) (prepared : ℕ → Option Wanted) (words : List Told)
    → IsStage key w st prepared words → prepared key.txn.server ≡ None
not_at_home key w Unknown prepared words i = i.1 key.txn.server
not_at_home key w (Asked p) prepared words i = elim i.1 as (λ _. prepared key.txn.server ≡ None) [
  | coming e none ↦ none key.txn.server
  | refused v against e none ↦ none key.txn.server
  | granted e alone ↦ alone.others key.txn.server (apart_from p key.txn.server i.0)
]
not_at_home key w (Counted p v) prepared words i = by (is_yes v) i.1
  where
    held : (b : Bool) → (p == key.txn.server) ≡ b → IsHeldAt b p w prepared → prepared key.txn.server ≡ None
    held true e none = none key.txn.server
    held false e alone = alone.others key.txn.server (apart_from p key.txn.server e)

    by : (b : Bool) → IsVoted b key p w prepared → prepared key.txn.server ≡ None
    by false none = none key.txn.server
    by true h = held (p == key.txn.server) refl h
not_at_home key w (Awaited p) prepared words i = elim i.1 as (λ _. prepared key.txn.server ≡ None) [
  | decided es e alone ↦ alone.others key.txn.server (apart_from p key.txn.server i.0)
  | done e none ↦ none key.txn.server
]

-- no two parts of a transaction are on one file
abbrev pub FilesApart : (Key → Wanted) → (Key → Stage) → Type 0
FilesApart parts stages =
    (a b : Key) → a.txn ≡ b.txn → (a.part == b.part) ≡ false → stages a ≢ Unknown → stages b ≢ Unknown
    → same (parts a).part.file (parts b).part.file ≡ false

-- where nobody is asked anew
pub files_still : (parts : Key → Wanted) (stages then : Key → Stage) → ((key : Key) → then key ≢ Unknown → stages key ≢ Unknown)
    → FilesApart parts stages → FilesApart parts then
files_still parts stages then older h a b one two p q = h a b one two (older a p) (older b q)

-- ## What a word says of where its part stands

pub record IsPreparingWord (d : Desks) (key : Key) (m : Told) : Type 0 where
  pub at : ℕ
  pub stage : d.stages key ≡ Asked at
  pub elsewhere : (at == key.txn.server) ≡ false
  pub is : m ≡ word_to key at (Prepare (d.parts key))
  pub nowhere : IsNowhere (λ k. d.prepared k key)

pub record IsVotedWord (d : Desks) (key : Key) (m : Told) (vote : Vote) : Type 0 where
  pub at : ℕ
  pub stage : d.stages key ≡ Asked at
  pub elsewhere : (at == key.txn.server) ≡ false
  pub is : m ≡ word_from key at (Voted vote)

pub record IsDecidingWord (d : Desks) (key : Key) (m : Told) : Type 0 where
  pub at : ℕ
  pub effects : List Effect
  pub stage : d.stages key ≡ Awaited at
  pub elsewhere : (at == key.txn.server) ≡ false
  pub is : m ≡ word_to key at (Decide effects)
  pub ready : IsAlone (λ k. d.prepared k key) at (d.parts key)

pub record IsDoneWord (d : Desks) (key : Key) (m : Told) : Type 0 where
  pub at : ℕ
  pub stage : d.stages key ≡ Awaited at
  pub elsewhere : (at == key.txn.server) ≡ false
  pub is : m ≡ word_from key at Done
  pub nowhere : IsNowhere (λ k. d.prepared k key)

-- a word of the part is one of these
pub data IsOneOf (d : Desks) (key : Key) (m : Told) : Type 0 where
  preparing : IsPreparingWord d key m → IsOneOf d key m
  voting : (vote : Vote) → IsVotedWord d key m vote → IsOneOf d key m
  deciding : IsDecidingWord d key m → IsOneOf d key m
  ending : IsDoneWord d key m → IsOneOf d key m

module _ (d : Desks) (key : Key) (m : Told) (its : m.key ≡ key) (h : StagesHold d) (there : In m d.telling) where
  among : In m (told_of key d.telling)
  among = kept_in (is_of key) m d.telling there (ap (λ k. same_key k key) its ∙ key_itself key)

  not_none : told_of key d.telling ≡ [] → ⊥
  not_none e = subst (In m) e among

  only_it : (w : Told) → told_of key d.telling ≡ w ∷ [] → m ≡ w
  only_it w e = elim (subst (In m) e among) as (λ _. m ≡ w) [ inl q ↦ q | inr z ↦ absurd z ]

  stage_of_word : (s : Stage) → d.stages key ≡ s → IsStage key (d.parts key) s (λ k. d.prepared k key) (told_of key d.telling)
      → IsOneOf d key m
  stage_of_word Unknown e i = absurd (not_none i.0)
  stage_of_word (Counted p w) e i = absurd (not_none i.0)
  stage_of_word (Asked p) e i = elim i.1 as (λ _. IsOneOf d key m) [
    | coming q none ↦ preparing (record { at = p; stage = e; elsewhere = i.0; is = only_it _ q; nowhere = none })
    | refused w against q none ↦ voting w (record { at = p; stage = e; elsewhere = i.0; is = only_it _ q })
    | granted q alone ↦ voting Yes (record { at = p; stage = e; elsewhere = i.0; is = only_it _ q })
  ]
  stage_of_word (Awaited p) e i = elim i.1 as (λ _. IsOneOf d key m) [
    | decided es q alone ↦ deciding (record { at = p; effects = es; stage = e; elsewhere = i.0; is = only_it _ q; ready = alone })
    | done q none ↦ ending (record { at = p; stage = e; elsewhere = i.0; is = only_it _ q; nowhere = none })
  ]

  one_of : IsOneOf d key m
  one_of = stage_of_word (d.stages key) refl (h key)

  pub preparing_word : (w : Wanted) → m.word ≡ Prepare w → IsPreparingWord d key m
  preparing_word w e = elim one_of as (λ _. IsPreparingWord d key m) [
    | preparing q ↦ q
    | voting v q ↦ let wrong : Prepare w ≡ Voted v = sym e ∙ ap (λ (x : Told). x.word) q.is in absurd (cc)
    | deciding q ↦ let wrong : Prepare w ≡ Decide q.effects = sym e ∙ ap (λ (x : Told). x.word) q.is in absurd (cc)
    | ending q ↦ let wrong : Prepare w ≡ Done = sym e ∙ ap (λ (x : Told). x.word) q.is in absurd (cc)
  ]

  pub voted_word : (v : Vote) → m.word ≡ Voted v → IsVotedWord d key m v
  voted_word v e = elim one_of as (λ _. IsVotedWord d key m v) [
    | preparing q ↦ let wrong : Voted v ≡ Prepare (d.parts key) = sym e ∙ ap (λ (x : Told). x.word) q.is in absurd (cc)
    | voting w q ↦
        let words : Voted w ≡ Voted v = sym (ap (λ (x : Told). x.word) q.is) ∙ e in
        let votes : w ≡ v = cc in
        record { at = q.at; stage = q.stage; elsewhere = q.elsewhere; is = q.is ∙ ap (λ u. word_from key q.at (Voted u)) votes }
    | deciding q ↦ let wrong : Voted v ≡ Decide q.effects = sym e ∙ ap (λ (x : Told). x.word) q.is in absurd (cc)
    | ending q ↦ let wrong : Voted v ≡ Done = sym e ∙ ap (λ (x : Told). x.word) q.is in absurd (cc)
  ]

  pub deciding_word : (es : List Effect) → m.word ≡ Decide es → IsDecidingWord d key m
  deciding_word es e = elim one_of as (λ _. IsDecidingWord d key m) [
    | preparing q ↦ let wrong : Decide es ≡ Prepare (d.parts key) = sym e ∙ ap (λ (x : Told). x.word) q.is in absurd (cc)
    | voting v q ↦ let wrong : Decide es ≡ Voted v = sym e ∙ ap (λ (x : Told). x.word) q.is in absurd (cc)
    | deciding q ↦ q
    | ending q ↦ let wrong : Decide es ≡ Done = sym e ∙ ap (λ (x : Told). x.word) q.is in absurd (cc)
  ]

  pub done_word : m.word ≡ Done → IsDoneWord d key m
  done_word e = elim one_of as (λ _. IsDoneWord d key m) [
    | preparing q ↦ let wrong : Done ≡ Prepare (d.parts key) = sym e ∙ ap (λ (x : Told). x.word) q.is in absurd (cc)
    | voting v q ↦ let wrong : Done ≡ Voted v = sym e ∙ ap (λ (x : Told). x.word) q.is in absurd (cc)
    | deciding q ↦ let wrong : Done ≡ Decide q.effects = sym e ∙ ap (λ (x : Told). x.word) q.is in absurd (cc)
    | ending q ↦ q
  ]

-- ## What holds of a transaction at its leader

module _ (lines : Session → Lines) (s t : Server) (parts : Key → Wanted) (me : t.me ≡ s.me) (txns : s.txns ≤ t.txns) where
  pub leading_then : (l : Leading) → leading_of l.leader.txn t.leading ≡ Some l → ending_of l.leader.txn t.ending ≡ None
      → IsLeading lines s parts l → IsLeading lines t parts l
  leading_then l one only h = record {
    own = h.own ∙ sym me;
    begun = let was : l.leader.txn.count ≤ s.txns = h.begun in omega arith;
    one = one;
    only = only;
    votes = h.votes;
    asked = h.asked;
    home = h.home ∙ ap Some (sym me);
    wanted = h.wanted;
    led = h.led;
    client = subst (λ n. IsLedBy lines l.leader.session n h.led) (sym me) h.client;
    leader = h.leader;
    plain = h.plain;
  }

  pub ended_then : (x : Ending) → ending_of x.txn t.ending ≡ Some x → leading_of x.txn t.leading ≡ None → IsEnded lines s parts x
      → IsEnded lines t parts x
  ended_then x one only h = record {
    own = h.own ∙ sym me;
    begun = let was : x.txn.count ≤ s.txns = h.begun in omega arith;
    one = one;
    only = only;
    waits = h.waits;
    awaited = λ n i. let q = h.awaited n i in (subst (λ z. (n.1 == z) ≡ false) (sym me) q.0, q.1);
    led = h.led;
    client = subst (λ n. IsLedBy lines x.session n h.led) (sym me) h.client;
    fits = h.fits;
  }

  -- where its tables stay
  pub leading_still : t.leading ≡ s.leading → t.ending ≡ s.ending → (l : Leading) → IsLeading lines s parts l → IsLeading lines t parts l
  leading_still leads ends l h = leading_then l (ap (leading_of l.leader.txn) leads ∙ h.one) (ap (ending_of l.leader.txn) ends ∙ h.only) h

  pub ended_still : t.leading ≡ s.leading → t.ending ≡ s.ending → (x : Ending) → IsEnded lines s parts x → IsEnded lines t parts x
  ended_still leads ends x h = ended_then x (ap (ending_of x.txn) ends ∙ h.one) (ap (leading_of x.txn) leads ∙ h.only) h

-- ## What a part was told

-- a lock stays where its row does
pub lock_then : (rows new : List Row) (txn : TxnNo) (by : Session) (on : Field) (wanted : LeaseKind)
    → ((r : Row) → In r rows → r.lock ≡ Some txn → In r new) → HasLockFor rows txn by on wanted → HasLockFor new txn by on wanted
lock_then rows new txn by on wanted stays h =
    record { row = h.row; stands = stays h.row h.stands h.lock; session = h.session; field = h.field; enough = h.enough; lock = h.lock }

pub placed_then : (rows new : List Row) (txn : TxnNo) (by : Session) (e : Effect) → ((r : Row) → In r rows → r.lock ≡ Some txn → In r new)
    → IsPlaced rows txn by e → IsPlaced new txn by e
placed_then rows new txn by (effect.SetParent file dir name) stays h = lock_then rows new txn by (Child dir name) Exclusive stays h
placed_then rows new txn by (effect.SetChild dir name to) stays h = tt
placed_then rows new txn by (effect.NewNode f x y z) stays h = tt
placed_then rows new txn by (effect.RemoveNode f) stays h = tt
placed_then rows new txn by (effect.AddHandle f x y z) stays h = tt
placed_then rows new txn by (effect.RemoveHandle f x y) stays h = tt
placed_then rows new txn by (effect.SetInfo f x y) stays h = tt

-- where the rows that the transaction locks at its leader stay
pub told_then : (ss : List Server) (k : ℕ) (s t : Server) → slice_get ss k ≡ Some s → (key : Key) (w : Wanted) (e : Effect)
    → ((key.txn.server == k) ≡ true → (r : Row) → In r s.rows → r.lock ≡ Some key.txn → In r t.rows)
    → IsToldOf ss key w e → IsToldOf (slice_set ss k t) key w e
told_then ss k s t at key w e stays h = record {
  decided = h.decided;
  file = h.file;
  covered = h.covered;
  placed =
      elim (key.txn.server == k) as
      (λ b. (key.txn.server == k) ≡ b → IsPlaced (rows_at (slice_get (slice_set ss k t) key.txn.server)) key.txn w.session e) [
        | true ↦ λ q. subst (λ o. IsPlaced (rows_at o) key.txn w.session e) (sym (is_at ss k s t at key.txn.server q))
            (placed_then s.rows t.rows key.txn w.session e (stays q)
            (subst (λ o. IsPlaced (rows_at o) key.txn w.session e) (was_at ss k s t at key.txn.server q) h.placed))
        | false ↦ λ q. subst (λ o. IsPlaced (rows_at o) key.txn w.session e) (sym (is_still ss k s t at key.txn.server q)) h.placed
      ] refl;
}
