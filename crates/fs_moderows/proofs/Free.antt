-- Rows on modes of which no two conflict.
use Rattle.std.proofs.Common.{◌≡◌, ◌==◌, not, ◌&&◌, ◌||◌, ◌⊎◌, ℕ, Bool, true, false, List, refl, ap, cond, sym, ◌∙◌, inl, inr}
use Rattle.std.specs.Prelude.{Option, Some, None}
use Rattle.std.specs.Cmp.{nat_eq_equiv}
use Rattle.std.specs.List.{find}
use Rattle.std.proofs.lemmas.Bool.{or_from, not-true, not-false}
use Rattle.fs_ident.specs.In.{In}
use Rattle.fs_ident.specs.declared.actor.Session.{Session}
use Rattle.fs_ident.specs.declared.actor.TxnNo.{TxnNo}
use Rattle.fs_ident.proofs.Booleans.{both, neither, second_fails}
use Rattle.fs_ident.proofs.Standing.{In-put, none_pass}
use Rattle.fs_modes.specs.declared.modes.Mode.{Mode}
use Rattle.fs_field.specs.declared.asked.Asked.TheVariants.{Granted}
use Rattle.fs_field.specs.declared.field.Field.{Field}
use Rattle.fs_field.specs.declared.field.Field.TheVariants.{Life, Child, Names, Info, Own, SelfW, Other}
use Rattle.fs_field.specs.declared.lease_kind.LeaseKind.{LeaseKind}
use Rattle.fs_field.specs.declared.row.Row.{Row}
use Rattle.fs_field.specs.Conflict.{Selves, meets, plain_conflict, is_self, is_fixed, has_fixed, can_fail, mode_meets, mode_conflict, conflicts, NoConflict}
use Rattle.fs_field.specs.Field.{tells_no_mode}
use Rattle.fs_field.specs.Table.{lock_on, no_before, with_row}
use Rattle.fs_moderows.specs.Answer.{unless_locked, waits_or, answer_self, answer_other, is_self_of_other, stands_against_self}
use Rattle.fs_moderows.proofs.Tables.{TellsSame}
use Rattle.fs_moderows.proofs.Witnesses.{not_both, turned, one_file, fixed_with, Covered, fixed_fewer, Witness, witness, witnessed, witness_stays, witness_beside, witness_past, witness_of}

-- every row is on what sessions tell of modes
abbrev pub AreOnModes : List Row → Type 0
AreOnModes rows = (row : Row) → In row rows → tells_no_mode row.field ≡ false

-- a lease on a mode goes with every other, whoever has a handle
pub meets_never : (f : Field) (k : LeaseKind) (g : Field) (l : LeaseKind) → tells_no_mode f ≡ false → meets f k g l ≡ false
meets_never (SelfW f m) k (Names g) l h = refl
meets_never (SelfW f m) k g l h = refl
meets_never (Other f m) k (Names g) l h = refl
meets_never (Other f m) k g l h = refl
meets_never f k g l h = absurd (cc)

pub meets_is : (selves : Selves) (rows : List Row) (x : Session) (f : List ℕ) (m : Mode) (p : Option Bool) (y : Session) (g : Field) → mode_meets selves rows x (Other f m) p y g ≡ (is_self f m g && can_fail p (has_fixed selves rows f m x y))
meets_is selves rows x f m p y (Life g) = refl
meets_is selves rows x f m p y (Child g n) = refl
meets_is selves rows x f m p y (Names g) = refl
meets_is selves rows x f m p y (Info g) = refl
meets_is selves rows x f m p y (Own g) = refl
meets_is selves rows x f m p y (SelfW g n) = refl
meets_is selves rows x f m p y (Other g n) = refl

cannot_fail : (p : Option Bool) (fixed : Bool) → can_fail p fixed ≡ false → (p ≡ Some true) × (fixed ≡ true)
cannot_fail (Some true) fixed h = (refl, not-false fixed h)
cannot_fail (Some false) fixed h = absurd (cc)
cannot_fail None fixed h = absurd (cc)

-- a lease on what others tell of a mode goes with one to change that where it tells that another has it, and a third
-- session has it and is fixed
abbrev pub Goes : Selves → List Row → Session → Field → Option Bool → Session → Field → Type 0
Goes selves rows x f p y g = (h : List ℕ) (n : Mode) → f ≡ Other h n → is_self h n g ≡ true → (p ≡ Some true) × (has_fixed selves rows h n x y ≡ true)

meets_not : (selves : Selves) (rows : List Row) (x : Session) (f : Field) (p : Option Bool) (y : Session) (g : Field) → Goes selves rows x f p y g → mode_meets selves rows x f p y g ≡ false
meets_not selves rows x (Other h n) p y g k =
    meets_is selves rows x h n p y g
    ∙ not_both (is_self h n g) (can_fail p (has_fixed selves rows h n x y)) (λ t.
    let q : (p ≡ Some true) × (has_fixed selves rows h n x y ≡ true) = k h n refl t in
    ap (λ z. can_fail z (has_fixed selves rows h n x y)) q.0 ∙ ap not q.1)
meets_not selves rows x f p y g k = refl

pub goes : (selves : Selves) (rows : List Row) (x : Session) (f : Field) (p : Option Bool) (y : Session) (g : Field) → mode_meets selves rows x f p y g ≡ false → Goes selves rows x f p y g
goes selves rows x f p y g m h n e t =
    cannot_fail p (has_fixed selves rows h n x y)
    (second_fails (is_self h n g) (can_fail p (has_fixed selves rows h n x y)) t
    (sym (meets_is selves rows x h n p y g) ∙ ap (λ z. mode_meets selves rows x z p y g) (sym e) ∙ m))

-- two rows of two sessions that do not conflict go together
pub apart_goes : (selves : Selves) (rows : List Row) (a b : Row) → conflicts selves rows a b ≡ false → (a.session.0 == b.session.0) ≡ false → Goes selves rows a.session a.field a.promise b.session b.field
apart_goes selves rows a b free d =
    let p : (plain_conflict a b ≡ false) × (mode_conflict selves rows a b ≡ false) = neither (plain_conflict a b) (mode_conflict selves rows a b) free in
    let q = neither (mode_meets selves rows a.session a.field a.promise b.session b.field) (mode_meets selves rows b.session b.field b.promise a.session a.field) (second_fails (not (a.session.0 == b.session.0)) (mode_meets selves rows a.session a.field a.promise b.session b.field || mode_meets selves rows b.session b.field b.promise a.session a.field) (ap not d) p.1) in
    goes selves rows a.session a.field a.promise b.session b.field q.0

pub free_goes : (selves : Selves) (rows : List Row) → NoConflict selves rows → (a b : Row) → In a rows → In b rows → (a.session.0 == b.session.0) ≡ false → Goes selves rows a.session a.field a.promise b.session b.field
free_goes selves rows free a b i j d = apart_goes selves rows a b (free a b i j) d

-- two rows that go together both ways do not conflict over a mode
pub goes_apart : (selves : Selves) (rows : List Row) (a b : Row) → ((a.session.0 == b.session.0) ≡ false → Goes selves rows a.session a.field a.promise b.session b.field) → ((b.session.0 == a.session.0) ≡ false → Goes selves rows b.session b.field b.promise a.session a.field) → mode_conflict selves rows a b ≡ false
goes_apart selves rows a b k l =
    not_both (not (a.session.0 == b.session.0)) (mode_meets selves rows a.session a.field a.promise b.session b.field || mode_meets selves rows b.session b.field b.promise a.session a.field) (λ d.
    let apart : (a.session.0 == b.session.0) ≡ false = not-true (a.session.0 == b.session.0) d in
    or_from (mode_meets selves rows a.session a.field a.promise b.session b.field) (mode_meets selves rows b.session b.field b.promise a.session a.field)
    (meets_not selves rows a.session a.field a.promise b.session b.field (k apart))
    (meets_not selves rows b.session b.field b.promise a.session a.field (l (nat_eq_equiv.symm b.session.0 a.session.0 ∙ apart))))

pub goes_free : (selves : Selves) (rows : List Row) → AreOnModes rows → ((a b : Row) → In a rows → In b rows → (a.session.0 == b.session.0) ≡ false → Goes selves rows a.session a.field a.promise b.session b.field) → NoConflict selves rows
goes_free selves rows on k a b i j =
    or_from (plain_conflict a b) (mode_conflict selves rows a b)
    (not_both (not (a.session.0 == b.session.0)) (meets a.field a.kind b.field b.kind) (λ d. meets_never a.field a.kind b.field b.kind (on a i)))
    (goes_apart selves rows a b (k a b i j) (k b a j i))

-- rows that go, and rows that tell the same, are no harm
pub fewer_free : (selves : Selves) (new old : List Row) → Covered new old → AreOnModes new → NoConflict selves old → NoConflict selves new
fewer_free selves new old c on free = goes_free selves new on (λ a b i j d h n e t.
    let p : (z : Row) × (In z old × TellsSame z a) = c a i in
    let q : (z : Row) × (In z old × TellsSame z b) = c b j in
    let apart : (p.0.session.0 == q.0.session.0) ≡ false = ap (λ (s : Session). s.0 == q.0.session.0) (sym p.1.1.session) ∙ ap (λ (s : Session). a.session.0 == s.0) (sym q.1.1.session) ∙ d in
    let before : (p.0.promise ≡ Some true) × (has_fixed selves old h n p.0.session q.0.session ≡ true) = free_goes selves old free p.0 q.0 p.1.0 q.1.0 apart h n (sym p.1.1.field ∙ e) (ap (is_self h n) (sym q.1.1.field) ∙ t) in (
      p.1.1.promise ∙ before.0,
      ap (λ (s : Session). has_fixed selves new h n s b.session) p.1.1.session
          ∙ ap (λ (s : Session). has_fixed selves new h n p.0.session s) q.1.1.session
          ∙ witness_stays selves old new h n p.0.session q.0.session (fixed_fewer new old c h n) before.1,
    ))

-- no row stands against a lease that is given
given_alone : (lock : Option TxnNo) (against : Option Row) (value told : Option Bool) → unless_locked lock (waits_or against value) ≡ Granted told → against ≡ None
given_alone (Some txn) against value told h = absurd (cc)
given_alone None (Some row) value told h = absurd (cc)
given_alone None None value told h = refl

pub none_against : (selves : Selves) (rows : List Row) (y : Session) (f : List ℕ) (m : Mode) (told : Option Bool) → answer_self (selves f) rows y f m ≡ Granted told → (a : Row) → In a rows → stands_against_self (selves f) rows y f m a ≡ false
none_against selves rows y f m told h = none_pass (stands_against_self (selves f) rows y f m) rows (given_alone (lock_on (SelfW f m) rows) (find (stands_against_self (selves f) rows y f m) rows) None told h)

-- where a row does not stand against it, another session keeps what the row tells
pub spare : (selves : Selves) (rows : List Row) (y : Session) (f : List ℕ) (m : Mode) (a : Row) → stands_against_self (selves f) rows y f m a ≡ false → (h : List ℕ) (n : Mode) → a.field ≡ Other h n → is_self h n (SelfW f m) ≡ true → (a.session.0 == y.0) ≡ false → (a.promise ≡ Some true) × Witness selves rows h n a.session y
spare selves rows y f m a none h n e t d =
    let q : (a.promise ≡ Some true) × (has_fixed (λ g. selves f) rows h n a.session y ≡ true) = goes (λ g. selves f) rows a.session a.field a.promise y (SelfW f m) (second_fails (not (a.session.0 == y.0)) (mode_meets (λ g. selves f) rows a.session a.field a.promise y (SelfW f m)) (ap not d) none) h n e t in
    (q.0, witness_of selves rows h f n a.session y (one_file h f n m t) (witness (λ g. selves f) rows h n a.session y q.1))

-- both rows were there before a session may change what it tells
still_goes : (selves : Selves) (rows : List Row) (r : Row) (f : List ℕ) (m : Mode) → r.field ≡ SelfW f m → (a b : Row) → In b rows → stands_against_self (selves f) rows r.session f m a ≡ false → (h : List ℕ) (n : Mode) → a.field ≡ Other h n → is_self h n b.field ≡ true → In b (with_row r rows) → has_fixed selves rows h n a.session b.session ≡ true → has_fixed selves (with_row r rows) h n a.session b.session ≡ true
still_goes selves rows r f m fe a b l none h n e t j hf =
    let w : Witness selves rows h n a.session b.session = witness selves rows h n a.session b.session hf in
    elim (is_self h n r.field && (r.session.0 == w.entry.0.0)) as (λ z. (is_self h n r.field && (r.session.0 == w.entry.0.0)) ≡ z → has_fixed selves (with_row r rows) h n a.session b.session ≡ true) [
      | true ↦ λ z.
          let q : (is_self h n r.field ≡ true) × ((r.session.0 == w.entry.0.0) ≡ true) = both (is_self h n r.field) (r.session.0 == w.entry.0.0) z in
          let apart : (a.session.0 == r.session.0) ≡ false = turned r.session.0 w.entry.0.0 a.session.0 q.1 w.not_x in
          let s : (a.promise ≡ Some true) × Witness selves rows h n a.session r.session = spare selves rows r.session f m a none h n e (ap (is_self h n) (sym fe) ∙ q.0) apart in
          witnessed selves (with_row r rows) h n a.session b.session (witness_past selves (with_row r rows) h n a.session r.session b j t (witness_beside selves rows r h n a.session s.1))
      | false ↦ λ z. witnessed selves (with_row r rows) h n a.session b.session (record {
        entry = w.entry;
        listed = w.listed;
        not_x = w.not_x;
        not_y = w.not_y;
        told = w.told;
        fixed = fixed_with r rows h n w.entry.0 (λ u. second_fails (is_self h n r.field) (r.session.0 == w.entry.0.0) u z) w.fixed;
      })
    ] refl

pub self_free : (selves : Selves) (rows : List Row) (r : Row) (f : List ℕ) (m : Mode) → r.field ≡ SelfW f m → ((a : Row) → In a rows → stands_against_self (selves f) rows r.session f m a ≡ false) → AreOnModes (with_row r rows) → NoConflict selves rows → NoConflict selves (with_row r rows)
self_free selves rows r f m fe none on free = goes_free selves (with_row r rows) on (λ a b i j d h n e t.
    elim (In-put (λ z. no_before r.no z.no) a r rows i) [
      | inl q ↦ let wrong : SelfW f m ≡ Other h n = sym fe ∙ ap (λ (z : Row). z.field) (sym q) ∙ e in absurd (cc)
      | inr k ↦ elim (In-put (λ z. no_before r.no z.no) b r rows j) [
        | inl q ↦
            let s : (a.promise ≡ Some true) × Witness selves rows h n a.session r.session = spare selves rows r.session f m a (none a k) h n e (ap (is_self h n) (sym fe) ∙ ap (λ (z : Row). is_self h n z.field) (sym q) ∙ t) (ap (λ (z : Row). a.session.0 == z.session.0) (sym q) ∙ d) in
            (s.0, ap (λ (z : Row). has_fixed selves (with_row r rows) h n a.session z.session) q ∙ witnessed selves (with_row r rows) h n a.session r.session (witness_beside selves rows r h n a.session s.1))
        | inr l ↦
            let before : (a.promise ≡ Some true) × (has_fixed selves rows h n a.session b.session ≡ true) = free_goes selves rows free a b k l d h n e t in
            (before.0, still_goes selves rows r f m fe a b l (none a k) h n e t j before.1)
      ]
    ])

-- what is told of the others is so: one has the mode and is fixed, or none is and no row lets another change it
abbrev pub Found : Selves → List Row → List ℕ → Mode → Session → Option Bool → Type 0
Found selves rows f m x told = ((told ≡ Some true) × (has_fixed selves rows f m x x ≡ true)) ⊎ ((told ≡ Some false) × ((has_fixed selves rows f m x x ≡ false) × ((b : Row) → In b rows → is_self_of_other f m x b ≡ false)))

found_by : (selves : Selves) (rows : List Row) (f : List ℕ) (m : Mode) (x : Session) (lock : Option TxnNo) (fixed : Bool) (against : Option Row) (told : Option Bool) → has_fixed selves rows f m x x ≡ fixed → find (is_self_of_other f m x) rows ≡ against → unless_locked lock (cond fixed (Granted (Some true)) (waits_or against (Some false))) ≡ Granted told → Found selves rows f m x told
found_by selves rows f m x (Some txn) fixed against told e g h = absurd (cc)
found_by selves rows f m x None true against told e g h = let v : Some true ≡ told = cc in inl (sym v, e)
found_by selves rows f m x None false (Some row) told e g h = absurd (cc)
found_by selves rows f m x None false None told e g h = let v : Some false ≡ told = cc in inr (sym v, (e, none_pass (is_self_of_other f m x) rows g))

pub found_other : (selves : Selves) (rows : List Row) (x : Session) (f : List ℕ) (m : Mode) (told : Option Bool) → answer_other (selves f) rows x f m ≡ Granted told → Found selves rows f m x told
found_other selves rows x f m told h = found_by selves rows f m x (lock_on (Other f m) rows) (has_fixed selves rows f m x x) (find (is_self_of_other f m x) rows) told refl refl h

-- a row on what others tell leaves who is fixed
pub fixed_other : (r : Row) (rows : List Row) (f : List ℕ) (m : Mode) → r.field ≡ Other f m → (h : List ℕ) (n : Mode) (s : Session) → is_fixed rows h n s ≡ true → is_fixed (with_row r rows) h n s ≡ true
fixed_other r rows f m fe h n s w = fixed_with r rows h n s (λ u. let wrong : false ≡ true = ap (is_self h n) (sym fe) ∙ u in absurd (cc)) w

-- the new row goes with one to change what it tells
new_goes : (selves : Selves) (rows : List Row) (r : Row) (f : List ℕ) (m : Mode) → r.field ≡ Other f m → Found selves rows f m r.session r.promise → (b : Row) → In b rows → (r.session.0 == b.session.0) ≡ false → is_self f m b.field ≡ true → (r.promise ≡ Some true) × (has_fixed selves (with_row r rows) f m r.session b.session ≡ true)
new_goes selves rows r f m fe found b l d t = elim found [
  | inl p ↦ (p.0, witness_stays selves rows (with_row r rows) f m r.session b.session (fixed_other r rows f m fe f m) (witnessed selves rows f m r.session b.session (witness_past selves rows f m r.session r.session b l t (witness selves rows f m r.session r.session p.1))))
  | inr p ↦
      let one : (b.session.0 == r.session.0) ≡ true = not-false (b.session.0 == r.session.0) (second_fails (is_self f m b.field) (not (b.session.0 == r.session.0)) t (p.1.1 b l)) in
      let wrong : true ≡ false = sym one ∙ nat_eq_equiv.symm b.session.0 r.session.0 ∙ d in
      absurd (cc)
]

pub other_free : (selves : Selves) (rows : List Row) (r : Row) (f : List ℕ) (m : Mode) → r.field ≡ Other f m → Found selves rows f m r.session r.promise → AreOnModes (with_row r rows) → NoConflict selves rows → NoConflict selves (with_row r rows)
other_free selves rows r f m fe found on free = goes_free selves (with_row r rows) on (λ a b i j d h n e t.
    elim (In-put (λ z. no_before r.no z.no) b r rows j) [
      | inl q ↦ let wrong : false ≡ true = ap (is_self h n) (sym fe) ∙ ap (λ (z : Row). is_self h n z.field) (sym q) ∙ t in absurd (cc)
      | inr l ↦ elim (In-put (λ z. no_before r.no z.no) a r rows i) [
        | inl q ↦
            let one : Other f m ≡ Other h n = sym fe ∙ ap (λ (z : Row). z.field) (sym q) ∙ e in
            let same_file : f ≡ h = cc in
            let same_mode : m ≡ n = cc in
            let here : is_self f m b.field ≡ true = ap (λ z. is_self z m b.field) same_file ∙ ap (λ z. is_self h z b.field) same_mode ∙ t in
            let p : (r.promise ≡ Some true) × (has_fixed selves (with_row r rows) f m r.session b.session ≡ true) = new_goes selves rows r f m fe found b l (ap (λ (z : Row). z.session.0 == b.session.0) (sym q) ∙ d) here in (
              ap (λ (z : Row). z.promise) q ∙ p.0,
              ap (λ (z : Row). has_fixed selves (with_row r rows) h n z.session b.session) q
                  ∙ ap (λ z. has_fixed selves (with_row r rows) z n r.session b.session) (sym same_file)
                  ∙ ap (λ z. has_fixed selves (with_row r rows) f z r.session b.session) (sym same_mode)
                  ∙ p.1,
            )
        | inr k ↦
            let before : (a.promise ≡ Some true) × (has_fixed selves rows h n a.session b.session ≡ true) = free_goes selves rows free a b k l d h n e t in
            (before.0, witness_stays selves rows (with_row r rows) h n a.session b.session (fixed_other r rows f m fe h n) before.1)
      ]
    ])
