-- Promises of what others tell, and what keeps them.
use Rattle.std.proofs.Common.{◌≡◌, ◌==◌, not, ◌&&◌, ℕ, Bool, true, false, List, refl, ap, sym, ◌∙◌, inl, inr, arith}
use Rattle.std.specs.Prelude.{Option, Some, None}
use Rattle.std.specs.Cmp.{nat_eq_equiv}
use Rattle.std.specs.List.{list_any}
use Rattle.std.proofs.lemmas.Bool.Decides.{nat_tests}
use Rattle.std.proofs.lemmas.Bool.{or_from, not-true, not-false}
use Rattle.fs_ident.specs.In.{In}
use Rattle.fs_ident.specs.declared.actor.Session.{Session}
use Rattle.fs_ident.proofs.Booleans.{both, neither, second_fails}
use Rattle.fs_ident.proofs.Standing.{In-put, none_any}
use Rattle.fs_ident.proofs.Same.{differs_too}
use Rattle.fs_modes.specs.declared.modes.Mode.{Mode}
use Rattle.fs_modes.specs.Modes.{has}
use Rattle.fs_field.specs.declared.field.Field.{Field}
use Rattle.fs_field.specs.declared.field.Field.TheVariants.{SelfW, Other}
use Rattle.fs_field.specs.declared.row.Row.{Row}
use Rattle.fs_field.specs.Conflict.{Selves, is_self, is_fixed, has_fixed, mode_conflict, NoConflict}
use Rattle.fs_field.specs.Table.{no_before, with_row}
use Rattle.fs_moderows.specs.Answer.{Opens, is_self_of_other, stands_against_self}
use Rattle.fs_moderows.specs.Kept.{others_have, others_may_have, holds_true, is_kept, KeptPromises}
use Rattle.fs_moderows.proofs.Tables.{TellsSame}
use Rattle.fs_moderows.proofs.Witnesses.{not_both, In_any, In_none, another, fixed_from, fixed_with, Covered, fixed_fewer, Witness, witness, witnessed, witness_stays, witness_beside, witness_past, witness_one}
use Rattle.fs_moderows.proofs.Free.{AreOnModes, Goes, goes_apart, goes_free, spare, Found, fixed_other}

-- what was told on a field that tells of others is true
abbrev pub Holds : Selves → List Row → Session → Field → Option Bool → Type 0
Holds selves rows x f p = (h : List ℕ) (n : Mode) → f ≡ Other h n → holds_true p (has_fixed selves rows h n x x) (others_may_have (selves h) rows h n x) ≡ true

pub kept_holds : (selves : Selves) (rows : List Row) (x : Session) (f : Field) (p : Option Bool) → is_kept selves rows x f p ≡ true → Holds selves rows x f p
kept_holds selves rows x f p k h n e = ap (λ z. is_kept selves rows x z p) (sym e) ∙ k

pub holds_kept : (selves : Selves) (rows : List Row) (x : Session) (f : Field) (p : Option Bool) → Holds selves rows x f p → is_kept selves rows x f p ≡ true
holds_kept selves rows x (Other h n) p k = k h n refl
holds_kept selves rows x f p k = refl

-- what holds goes on to hold where true is kept, and no other comes to have the mode or to be able to
pub holds_still : (p : Option Bool) (fixed may fixed_then may_then : Bool) → (p ≡ Some true → fixed ≡ true → fixed_then ≡ true) → (may ≡ false → may_then ≡ false) → holds_true p fixed may ≡ true → holds_true p fixed_then may_then ≡ true
holds_still (Some true) fixed may fixed_then may_then k l h = k refl h
holds_still (Some false) fixed may fixed_then may_then k l h = ap not (l (not-true may h))
holds_still None fixed may fixed_then may_then k l h = ap not (l (not-true may h))

-- a row that lets no other change what it tells leaves who can
pub may_with : (opens : Opens) (r : Row) (rows : List Row) (h : List ℕ) (n : Mode) (x : Session) → is_self_of_other h n x r ≡ false → others_may_have opens rows h n x ≡ false → others_may_have opens (with_row r rows) h n x ≡ false
may_with opens r rows h n x k m =
    let q : (others_have opens n x ≡ false) × (list_any (is_self_of_other h n x) rows ≡ false) = neither (others_have opens n x) (list_any (is_self_of_other h n x) rows) m in
    or_from (others_have opens n x) (list_any (is_self_of_other h n x) (with_row r rows)) q.0
    (In_none (is_self_of_other h n x) (with_row r rows) (λ z i. elim (In-put (λ y. no_before r.no y.no) z r rows i) [
      | inl e ↦ ap (is_self_of_other h n x) e ∙ k
      | inr j ↦ none_any (is_self_of_other h n x) rows q.1 z j
    ]))

may_fewer : (opens : Opens) (new old : List Row) → Covered new old → (h : List ℕ) (n : Mode) (x : Session) → others_may_have opens old h n x ≡ false → others_may_have opens new h n x ≡ false
may_fewer opens new old c h n x m =
    let q : (others_have opens n x ≡ false) × (list_any (is_self_of_other h n x) old ≡ false) = neither (others_have opens n x) (list_any (is_self_of_other h n x) old) m in
    or_from (others_have opens n x) (list_any (is_self_of_other h n x) new) q.0
    (In_none (is_self_of_other h n x) new (λ b i.
    let p : (a : Row) × (In a old × TellsSame a b) = c b i in
    ap (λ f. is_self h n f && not (b.session.0 == x.0)) p.1.1.field
    ∙ ap (λ (s : Session). is_self h n p.0.field && not (s.0 == x.0)) p.1.1.session
    ∙ none_any (is_self_of_other h n x) old q.1 p.0 p.1.0))

-- rows that go, and rows that tell the same, break no promise
pub fewer_kept : (selves : Selves) (new old : List Row) → Covered new old → KeptPromises selves old → KeptPromises selves new
fewer_kept selves new old c kept b i =
    let p : (a : Row) × (In a old × TellsSame a b) = c b i in
    ap (λ (s : Session). is_kept selves new s b.field b.promise) p.1.1.session
    ∙ ap (λ f. is_kept selves new p.0.session f b.promise) p.1.1.field
    ∙ ap (λ t. is_kept selves new p.0.session p.0.field t) p.1.1.promise
    ∙ holds_kept selves new p.0.session p.0.field p.0.promise (λ h n e.
    holds_still p.0.promise (has_fixed selves old h n p.0.session p.0.session) (others_may_have (selves h) old h n p.0.session) (has_fixed selves new h n p.0.session p.0.session) (others_may_have (selves h) new h n p.0.session)
    (λ t w. witness_stays selves old new h n p.0.session p.0.session (fixed_fewer new old c h n) w)
    (may_fewer (selves h) new old c h n p.0.session)
    (kept_holds selves old p.0.session p.0.field p.0.promise (kept p.0 p.1.0) h n e))

-- a row that was there before a session may change what it tells
still_holds : (selves : Selves) (rows : List Row) (r : Row) (f : List ℕ) (m : Mode) → r.field ≡ SelfW f m → (a : Row) → stands_against_self (selves f) rows r.session f m a ≡ false → Holds selves rows a.session a.field a.promise → Holds selves (with_row r rows) a.session a.field a.promise
still_holds selves rows r f m fe a none before h n e =
    let new : List Row = with_row r rows in
    elim (is_self h n r.field) as (λ z. is_self h n r.field ≡ z → holds_true a.promise (has_fixed selves (with_row r rows) h n a.session a.session) (others_may_have (selves h) (with_row r rows) h n a.session) ≡ true) [
      | false ↦ λ u. holds_still a.promise (has_fixed selves rows h n a.session a.session) (others_may_have (selves h) rows h n a.session) (has_fixed selves (with_row r rows) h n a.session a.session) (others_may_have (selves h) (with_row r rows) h n a.session)
          (λ t w. witness_stays selves rows (with_row r rows) h n a.session a.session (λ s k. fixed_with r rows h n s (λ v. let wrong : true ≡ false = sym v ∙ u in absurd (cc)) k) w)
          (may_with (selves h) r rows h n a.session (ap (λ b. b && not (r.session.0 == a.session.0)) u))
          (before h n e)
      | true ↦ λ u. elim (a.session.0 == r.session.0) as (λ z. (a.session.0 == r.session.0) ≡ z → holds_true a.promise (has_fixed selves (with_row r rows) h n a.session a.session) (others_may_have (selves h) (with_row r rows) h n a.session) ≡ true) [
        | true ↦ λ v. holds_still a.promise (has_fixed selves rows h n a.session a.session) (others_may_have (selves h) rows h n a.session) (has_fixed selves (with_row r rows) h n a.session a.session) (others_may_have (selves h) (with_row r rows) h n a.session)
            (λ t w. own_goes w v)
            (may_with (selves h) r rows h n a.session (not_both (is_self h n r.field) (not (r.session.0 == a.session.0)) (λ t. ap not (nat_eq_equiv.symm r.session.0 a.session.0 ∙ v))))
            (before h n e)
        | false ↦ λ v.
            let s : (a.promise ≡ Some true) × Witness selves rows h n a.session r.session = spare selves rows r.session f m a none h n e (ap (is_self h n) (sym fe) ∙ u) v in
            ap (λ p. holds_true p (has_fixed selves (with_row r rows) h n a.session a.session) (others_may_have (selves h) (with_row r rows) h n a.session)) s.0
            ∙ witnessed selves (with_row r rows) h n a.session a.session (witness_one selves (with_row r rows) h n a.session r.session (witness_beside selves rows r h n a.session s.1))
      ] refl
    ] refl where
      own_goes : has_fixed selves rows h n a.session a.session ≡ true → (a.session.0 == r.session.0) ≡ true → has_fixed selves (with_row r rows) h n a.session a.session ≡ true
      own_goes hf v =
          let w : Witness selves rows h n a.session a.session = witness selves rows h n a.session a.session hf in
          witnessed selves (with_row r rows) h n a.session a.session (record {
            entry = w.entry;
            listed = w.listed;
            not_x = w.not_x;
            not_y = w.not_y;
            told = w.told;
            fixed = fixed_with r rows h n w.entry.0 (λ u. another a.session.0 r.session.0 w.entry.0.0 v w.not_x) w.fixed;
          })

pub self_kept : (selves : Selves) (rows : List Row) (r : Row) (f : List ℕ) (m : Mode) → r.field ≡ SelfW f m → ((a : Row) → In a rows → stands_against_self (selves f) rows r.session f m a ≡ false) → KeptPromises selves rows → KeptPromises selves (with_row r rows)
self_kept selves rows r f m fe none kept a i = elim (In-put (λ z. no_before r.no z.no) a r rows i) [
  | inl q ↦
      ap (λ (z : Row). is_kept selves (with_row r rows) z.session z.field z.promise) q
      ∙ ap (λ z. is_kept selves (with_row r rows) r.session z r.promise) fe
  | inr k ↦ holds_kept selves (with_row r rows) a.session a.field a.promise (still_holds selves rows r f m fe a (none a k) (kept_holds selves rows a.session a.field a.promise (kept a k)))
]

-- where no row lets another change what it tells, the others are fixed
pub others_are_fixed : (rows : List Row) (f : List ℕ) (m : Mode) (x s : Session) → ((b : Row) → In b rows → is_self_of_other f m x b ≡ false) → (s.0 == x.0) ≡ false → is_fixed rows f m s ≡ true
others_are_fixed rows f m x s none apart = fixed_from rows f m s (λ b l t. differs_too b.session.0 x.0 s.0 (not-false (b.session.0 == x.0) (second_fails (is_self f m b.field) (not (b.session.0 == x.0)) t (none b l))) apart)

-- where no other is fixed and no row lets another change it, no other has the mode
none_has : (selves : Selves) (rows : List Row) (f : List ℕ) (m : Mode) (x : Session) → has_fixed selves rows f m x x ≡ false → ((b : Row) → In b rows → is_self_of_other f m x b ≡ false) → others_have (selves f) m x ≡ false
none_has selves rows f m x unfixed none = In_none (λ e. not (e.0.0 == x.0) && has e.1 m) (selves f) (λ e i.
    elim (not (e.0.0 == x.0) && has e.1 m) as (λ z. (not (e.0.0 == x.0) && has e.1 m) ≡ z → z ≡ false) [
      | false ↦ λ z. refl
      | true ↦ λ z.
          let q : (not (e.0.0 == x.0) ≡ true) × (has e.1 m ≡ true) = both (not (e.0.0 == x.0)) (has e.1 m) z in
          let apart : (e.0.0 == x.0) ≡ false = not-true (e.0.0 == x.0) q.0 in
          let there : has_fixed selves rows f m x x ≡ true = witnessed selves rows f m x x (record { entry = e; listed = i; not_x = apart; not_y = apart; told = q.1; fixed = others_are_fixed rows f m x e.0 none apart }) in
          let wrong : true ≡ false = sym there ∙ unfixed in
          absurd (cc)
    ] refl)

-- what is told at first holds
first_holds : (selves : Selves) (rows : List Row) (r : Row) (f : List ℕ) (m : Mode) → r.field ≡ Other f m → Found selves rows f m r.session r.promise → holds_true r.promise (has_fixed selves (with_row r rows) f m r.session r.session) (others_may_have (selves f) (with_row r rows) f m r.session) ≡ true
first_holds selves rows r f m fe found = elim found [
  | inl p ↦
      ap (λ t. holds_true t (has_fixed selves (with_row r rows) f m r.session r.session) (others_may_have (selves f) (with_row r rows) f m r.session)) p.0
      ∙ witness_stays selves rows (with_row r rows) f m r.session r.session (fixed_other r rows f m fe f m) p.1
  | inr p ↦
      ap (λ t. holds_true t (has_fixed selves (with_row r rows) f m r.session r.session) (others_may_have (selves f) (with_row r rows) f m r.session)) p.0
      ∙ ap not (may_with (selves f) r rows f m r.session
      (ap (λ z. is_self f m z && not (r.session.0 == r.session.0)) fe)
      (or_from (others_have (selves f) m r.session) (list_any (is_self_of_other f m r.session) rows) (none_has selves rows f m r.session p.1.0 p.1.1) (In_none (is_self_of_other f m r.session) rows p.1.1)))
]

pub other_kept : (selves : Selves) (rows : List Row) (r : Row) (f : List ℕ) (m : Mode) → r.field ≡ Other f m → Found selves rows f m r.session r.promise → KeptPromises selves rows → KeptPromises selves (with_row r rows)
other_kept selves rows r f m fe found kept a i = elim (In-put (λ z. no_before r.no z.no) a r rows i) [
  | inl q ↦
      ap (λ (z : Row). is_kept selves (with_row r rows) z.session z.field z.promise) q
      ∙ ap (λ z. is_kept selves (with_row r rows) r.session z r.promise) fe
      ∙ first_holds selves rows r f m fe found
  | inr k ↦ holds_kept selves (with_row r rows) a.session a.field a.promise (λ h n e.
      holds_still a.promise (has_fixed selves rows h n a.session a.session) (others_may_have (selves h) rows h n a.session) (has_fixed selves (with_row r rows) h n a.session a.session) (others_may_have (selves h) (with_row r rows) h n a.session)
      (λ t w. witness_stays selves rows (with_row r rows) h n a.session a.session (fixed_other r rows f m fe h n) w)
      (may_with (selves h) r rows h n a.session (ap (λ z. is_self h n z && not (r.session.0 == a.session.0)) fe))
      (kept_holds selves rows a.session a.field a.promise (kept a k) h n e))
]

-- a promise that is kept is what the others have
promise_by : (v fixed may have : Bool) → (fixed ≡ true → have ≡ true) → (may ≡ false → have ≡ false) → holds_true (Some v) fixed may ≡ true → v ≡ have
promise_by true fixed may have k l h = sym (k h)
promise_by false fixed may have k l h = sym (l (not-true may h))

pub promise_is : (selves : Selves) (rows : List Row) → KeptPromises selves rows → (a : Row) → In a rows → (f : List ℕ) (m : Mode) (v : Bool) → a.field ≡ Other f m → a.promise ≡ Some v → v ≡ others_have (selves f) m a.session
promise_is selves rows kept a i f m v fe pe =
    promise_by v (has_fixed selves rows f m a.session a.session) (others_may_have (selves f) rows f m a.session) (others_have (selves f) m a.session)
    (λ hf.
    let w : Witness selves rows f m a.session a.session = witness selves rows f m a.session a.session hf in
    In_any (λ e. not (e.0.0 == a.session.0) && has e.1 m) (selves f) w.entry w.listed (ap (λ b. not b && has w.entry.1 m) w.not_x ∙ w.told))
    (λ k. (neither (others_have (selves f) m a.session) (list_any (is_self_of_other f m a.session) rows) k).0)
    (ap (λ p. holds_true p (has_fixed selves rows f m a.session a.session) (others_may_have (selves f) rows f m a.session)) (sym pe) ∙ kept_holds selves rows a.session a.field a.promise (kept a i) f m fe)

goes_by : (p : Option Bool) (fixed may : Bool) → (may ≡ false → ⊥) → holds_true p fixed may ≡ true → (p ≡ Some true) × (fixed ≡ true)
goes_by (Some true) fixed may k h = (refl, h)
goes_by (Some false) fixed may k h = absurd (k (not-true may h))
goes_by None fixed may k h = absurd (k (not-true may h))

-- where another row lets its session change a mode, a row that tells of that mode tells of a third session
kept_goes : (selves : Selves) (rows : List Row) → KeptPromises selves rows → (a b : Row) → In a rows → In b rows → (a.session.0 == b.session.0) ≡ false → Goes selves rows a.session a.field a.promise b.session b.field
kept_goes selves rows kept a b i j d h n e t =
    let q : (a.promise ≡ Some true) × (has_fixed selves rows h n a.session a.session ≡ true) = goes_by a.promise (has_fixed selves rows h n a.session a.session) (others_may_have (selves h) rows h n a.session)
    (λ k.
    let none : is_self_of_other h n a.session b ≡ false = none_any (is_self_of_other h n a.session) rows (neither (others_have (selves h) n a.session) (list_any (is_self_of_other h n a.session) rows) k).1 b j in
    let one : (b.session.0 == a.session.0) ≡ true = not-false (b.session.0 == a.session.0) (second_fails (is_self h n b.field) (not (b.session.0 == a.session.0)) t none) in
    let wrong : true ≡ false = sym one ∙ nat_eq_equiv.symm b.session.0 a.session.0 ∙ d in
    absurd (cc))
    (kept_holds selves rows a.session a.field a.promise (kept a i) h n e) in
    (q.0, witnessed selves rows h n a.session b.session (witness_past selves rows h n a.session a.session b j t (witness selves rows h n a.session a.session q.1)))

-- rows whose promises are kept do not conflict over a mode, whatever other rows there are
pub kept_apart : (selves : Selves) (rows : List Row) → KeptPromises selves rows → (a b : Row) → In a rows → In b rows → mode_conflict selves rows a b ≡ false
kept_apart selves rows kept a b i j = goes_apart selves rows a b (kept_goes selves rows kept a b i j) (kept_goes selves rows kept b a j i)

pub kept_free : (selves : Selves) (rows : List Row) → AreOnModes rows → KeptPromises selves rows → NoConflict selves rows
kept_free selves rows on kept = goes_free selves rows on (kept_goes selves rows kept)
