-- What keeps a table of rows on modes one.
use Rattle.std.proofs.Common.{◌≡◌, ◌||◌, ℕ, Bool, true, false, List, [], ◌∷◌, refl, ap, cond, sym, ◌∙◌, map, inl, inr}
use Rattle.std.specs.Prelude.{Option, Some, None, is_some, option_map, Result, Ok, Err, IfOk, OnOk, OnErr}
use Rattle.std.specs.List.{filter, find, list_any}
use Rattle.fs_ident.specs.In.{In}
use Rattle.fs_ident.specs.declared.actor.LeaseNo.{LeaseNo}
use Rattle.fs_ident.specs.declared.actor.TxnNo.{TxnNo}
use Rattle.fs_ident.specs.declared.actor.Session.{Session}
use Rattle.fs_ident.specs.declared.memory.Memory.{Memory}
use Rattle.fs_ident.proofs.Standing.{In-filter, In-put, In-map}
use Rattle.fs_ident.proofs.Passing.{found}
use Rattle.fs_modes.specs.declared.modes.Mode.{Mode}
use Rattle.fs_field.specs.declared.asked.Asked.{Asked}
use Rattle.fs_field.specs.declared.asked.Asked.TheVariants.{Granted, Wait}
use Rattle.fs_field.specs.declared.field.Field.{Field}
use Rattle.fs_field.specs.declared.field.Field.TheVariants.{SelfW, Other}
use Rattle.fs_field.specs.declared.lease_kind.LeaseKind.{LeaseKind}
use Rattle.fs_field.specs.declared.lease_kind.LeaseKind.TheVariants.{Shared, Exclusive}
use Rattle.fs_field.specs.declared.row.Row.{Row}
use Rattle.fs_field.specs.Field.{tells_no_mode}
use Rattle.fs_field.specs.Table.{has_no, no_before, with_row, renewed_row, locked_row, unlocked_row, lock_on, is_unlocked, is_lock_of}
use Rattle.fs_field.proofs.Order.{ordered_filter, ordered_map, ordered_put, found_least}
use Rattle.fs_rows.specs.Granted.{with_rows}
use Rattle.fs_moderows.specs.Table.{is_of_mode, IsModeTable}
use Rattle.fs_moderows.specs.Answer.{Opens, unless_locked, waits_or, answer_self, answer_other, stands_against_self, is_self_of_other, has_fixed_other, given_row, rows_after, IsLeast}

-- the rows tell the same: only end and lock may differ
pub record TellsSame (a b : Row) : Type 0 where
  pub number : b.no ≡ a.no
  pub session : b.session ≡ a.session
  pub field : b.field ≡ a.field
  pub kind : b.kind ≡ a.kind
  pub promise : b.promise ≡ a.promise

pub tells_same_itself : (a : Row) → TellsSame a a
tells_same_itself a = record { number = refl; session = refl; field = refl; kind = refl; promise = refl }

ended_by : (b : Bool) (until : ℕ) (r : Row) → TellsSame r (cond b (record r { until = until }) r)
ended_by true until r = record { number = refl; session = refl; field = refl; kind = refl; promise = refl }
ended_by false until r = tells_same_itself r

kept_by : (b : Bool) (lock : Option TxnNo) (r : Row) → TellsSame r (cond b (record r { lock = lock }) r)
kept_by true lock r = record { number = refl; session = refl; field = refl; kind = refl; promise = refl }
kept_by false lock r = tells_same_itself r

-- a new end and a lock leave what the row tells
pub renewed_tells : (number : LeaseNo) (until : ℕ) (r : Row) → TellsSame r (renewed_row number until r)
renewed_tells number until r = ended_by _ until r

pub locked_tells : (number : LeaseNo) (txn : TxnNo) (r : Row) → TellsSame r (locked_row number txn r)
locked_tells number txn r = kept_by (is_unlocked number r) (Some txn) r

pub unlocked_tells : (txn : TxnNo) (r : Row) → TellsSame r (unlocked_row txn r)
unlocked_tells txn r = kept_by (is_lock_of txn r.lock) None r

pub filtered_table : (test : Row → Bool) (rows : List Row) → IsModeTable rows → IsModeTable (filter test rows)
filtered_table test rows t = record {
  ordered = ordered_filter test rows t.ordered;
  on_modes = λ row i. t.on_modes row (In-filter test row rows i);
}

pub mapped_table : (f : Row → Row) → ((r : Row) → TellsSame r (f r)) → (rows : List Row) → IsModeTable rows → IsModeTable (map f rows)
mapped_table f same rows t = record {
  ordered = ordered_map f (λ r. (same r).number) rows t.ordered;
  on_modes = λ row i.
      let q : (x : Row) × (In x rows × (row ≡ f x)) = In-map f row rows i in
      ap (λ (z : Row). tells_no_mode z.field) q.1.1 ∙ ap tells_no_mode (same q.0).field ∙ t.on_modes q.0 q.1.0;
}

pub renewed_table : (number : LeaseNo) (until : ℕ) (rows : List Row) → IsModeTable rows → IsModeTable (map (renewed_row number until) rows)
renewed_table number until rows t = mapped_table (renewed_row number until) (renewed_tells number until) rows t

pub locked_table : (number : LeaseNo) (txn : TxnNo) (rows : List Row) → IsModeTable rows → IsModeTable (map (locked_row number txn) rows)
locked_table number txn rows t = mapped_table (locked_row number txn) (locked_tells number txn) rows t

pub unlocked_table : (txn : TxnNo) (rows : List Row) → IsModeTable rows → IsModeTable (map (unlocked_row txn) rows)
unlocked_table txn rows t = mapped_table (unlocked_row txn) (unlocked_tells txn) rows t

-- one more row, whose number is new
pub put_table : (row : Row) (rows : List Row) → list_any (has_no row.no) rows ≡ false → tells_no_mode row.field ≡ false → IsModeTable rows → IsModeTable (with_row row rows)
put_table row rows new on t = record {
  ordered = ordered_put row rows new t.ordered;
  on_modes = λ x i. elim (In-put (λ r. no_before row.no r.no) x row rows i) [
    | inl e ↦ ap (λ (z : Row). tells_no_mode z.field) e ∙ on
    | inr j ↦ t.on_modes x j
  ];
}

-- a lease on what a session itself tells is given without a value, and one on what others tell with one
pub self_value : (lock : Option TxnNo) (against : Option Row) (told : Option Bool) → unless_locked lock (waits_or against None) ≡ Granted told → told ≡ None
self_value (Some txn) against told h = absurd (cc)
self_value None (Some row) told h = absurd (cc)
self_value None None told h = let e : None ≡ told = cc in sym e

other_value : (lock : Option TxnNo) (fixed : Bool) (against : Option Row) (told : Option Bool) → unless_locked lock (cond fixed (Granted (Some true)) (waits_or against (Some false))) ≡ Granted told → told ≡ Some fixed
other_value (Some txn) fixed against told h = absurd (cc)
other_value None true against told h = let e : Some true ≡ told = cc in sym e
other_value None false (Some row) told h = absurd (cc)
other_value None false None told h = let e : Some false ≡ told = cc in sym e

pub shape_self : (opens : Opens) (rows : List Row) (session : Session) (file : List ℕ) (m : Mode) (told : Option Bool) → answer_self opens rows session file m ≡ Granted told → is_of_mode (SelfW file m) Exclusive told ≡ true
shape_self opens rows session file m told h = ap (is_of_mode (SelfW file m) Exclusive) (self_value (lock_on (SelfW file m) rows) (find (stands_against_self opens rows session file m) rows) told h)

pub shape_other : (opens : Opens) (rows : List Row) (session : Session) (file : List ℕ) (m : Mode) (told : Option Bool) → answer_other opens rows session file m ≡ Granted told → is_of_mode (Other file m) Shared told ≡ true
shape_other opens rows session file m told h = ap (is_of_mode (Other file m) Shared) (other_value (lock_on (Other file m) rows) (has_fixed_other opens rows file m session) (find (is_self_of_other file m session) rows) told h)

-- the table stays one after an answer that may give a row on a mode
pub answered_table : (asked : Asked) (number : LeaseNo) (session : Session) (field : Field) (kind : LeaseKind) (until : ℕ) (rows : List Row) → tells_no_mode field ≡ false → list_any (has_no number) rows ≡ false → IsModeTable rows → IsModeTable (rows_after asked (given_row number session field kind until) rows)
answered_table (Granted told) number session field kind until rows on new t = put_table (given_row number session field kind until told) rows new on t
answered_table asked number session field kind until rows on new t = t

pub self_table : (opens : Opens) (number : LeaseNo) (session : Session) (file : List ℕ) (m : Mode) (until : ℕ) (rows : List Row) → list_any (has_no number) rows ≡ false → IsModeTable rows
    → IsModeTable (rows_after (answer_self opens rows session file m) (given_row number session (SelfW file m) Exclusive until) rows)
self_table opens number session file m until rows new t = answered_table (answer_self opens rows session file m) number session (SelfW file m) Exclusive until rows refl new t

pub other_table : (opens : Opens) (number : LeaseNo) (session : Session) (file : List ℕ) (m : Mode) (until : ℕ) (rows : List Row) → list_any (has_no number) rows ≡ false → IsModeTable rows
    → IsModeTable (rows_after (answer_other opens rows session file m) (given_row number session (Other file m) Shared until) rows)
other_table opens number session file m until rows new t = answered_table (answer_other opens rows session file m) number session (Other file m) Shared until rows refl new t

-- after a question, whatever it was answered
pub asked_table : (asked : Result Asked Memory) (answer : Asked) (row_with : Option Bool → Row) (old new : List Row) → IsModeTable old → IsModeTable (rows_after answer row_with old)
    → IfOk asked (λ a. a ≡ answer) → IfOk asked (λ a. new ≡ rows_after a row_with old) → OnErr asked (new ≡ old) → IsModeTable new
asked_table (Ok a) answer row_with old new t after p q r = let e : new ≡ rows_after answer row_with old = q ∙ ap (λ (a : Asked). rows_after a row_with old) p in rw e after
asked_table (Err m) answer row_with old new t after p q r = let e : new ≡ old = r in rw e t

-- the first that passes is the least
pub first_is_least : (test : Row → Bool) (rows : List Row) (row : Row) (number : LeaseNo) → IsModeTable rows → find test rows ≡ Some row → row.no ≡ number → IsLeast test rows number
first_is_least test rows row number t e same =
    let one : In row rows × (test row ≡ true) = found test rows row e in
    record {
      row = row;
      stands = one.0;
      passes = one.1;
      same = same;
      least = λ other i passes. elim (found_least test rows row t.ordered e other i passes) [
        | inl p ↦ inl p
        | inr p ↦ inr (ap (λ n. no_before n other.no) (sym same) ∙ p)
      ];
    }

waiting_self : (lock : Option TxnNo) (against : Option Row) (test : Row → Bool) (rows : List Row) (blocker : LeaseNo) → IsModeTable rows → find test rows ≡ against → unless_locked lock (waits_or against None) ≡ Wait blocker → IsLeast test rows blocker
waiting_self (Some txn) against test rows blocker t e h = absurd (cc)
waiting_self None None test rows blocker t e h = absurd (cc)
waiting_self None (Some row) test rows blocker t e h = let same : row.no ≡ blocker = cc in first_is_least test rows row blocker t e same

waiting_other : (lock : Option TxnNo) (fixed : Bool) (against : Option Row) (test : Row → Bool) (rows : List Row) (blocker : LeaseNo) → IsModeTable rows → find test rows ≡ against → unless_locked lock (cond fixed (Granted (Some true)) (waits_or against (Some false))) ≡ Wait blocker → IsLeast test rows blocker
waiting_other (Some txn) fixed against test rows blocker t e h = absurd (cc)
waiting_other None true against test rows blocker t e h = absurd (cc)
waiting_other None false None test rows blocker t e h = absurd (cc)
waiting_other None false (Some row) test rows blocker t e h = let same : row.no ≡ blocker = cc in first_is_least test rows row blocker t e same

pub self_least : (asked : Result Asked Memory) (opens : Opens) (rows : List Row) (session : Session) (file : List ℕ) (m : Mode) → IsModeTable rows → IfOk asked (λ a. a ≡ answer_self opens rows session file m) → (blocker : LeaseNo) → asked ≡ Ok (Wait blocker) → IsLeast (stands_against_self opens rows session file m) rows blocker
self_least (Ok a) opens rows session file m t p blocker h = let e : a ≡ Wait blocker = cc in waiting_self (lock_on (SelfW file m) rows) (find (stands_against_self opens rows session file m) rows) (stands_against_self opens rows session file m) rows blocker t refl (sym p ∙ e)
self_least (Err e) opens rows session file m t p blocker h = absurd (cc)

pub other_least : (asked : Result Asked Memory) (opens : Opens) (rows : List Row) (session : Session) (file : List ℕ) (m : Mode) → IsModeTable rows → IfOk asked (λ a. a ≡ answer_other opens rows session file m) → (blocker : LeaseNo) → asked ≡ Ok (Wait blocker) → IsLeast (is_self_of_other file m session) rows blocker
other_least (Ok a) opens rows session file m t p blocker h = let e : a ≡ Wait blocker = cc in waiting_other (lock_on (Other file m) rows) (has_fixed_other opens rows file m session) (find (is_self_of_other file m session) rows) (is_self_of_other file m session) rows blocker t refl (sym p ∙ e)
other_least (Err e) opens rows session file m t p blocker h = absurd (cc)

-- there is a row of the number where one is found
pub there_is_found : (number : LeaseNo) (rows : List Row) → list_any (has_no number) rows ≡ is_some (find (has_no number) rows)
there_is_found number [] = refl
there_is_found number (r ∷ rs) = either (has_no number r) (find (has_no number) rs) (list_any (has_no number) rs) (there_is_found number rs) where
  either : (b : Bool) (o : Option Row) (c : Bool) → c ≡ is_some o → (b || c) ≡ is_some (cond b (Some r) o)
  either true o c h = refl
  either false o c h = h

-- where the first that passes has a number, it is the least
pub numbered_least : (test : Row → Bool) (rows : List Row) (blocker : LeaseNo) → IsModeTable rows → option_map (λ (row : Row). row.no) (find test rows) ≡ Some blocker → IsLeast test rows blocker
numbered_least test rows blocker t h = by (find test rows) refl h where
  by : (first : Option Row) → find test rows ≡ first → option_map (λ (row : Row). row.no) first ≡ Some blocker → IsLeast test rows blocker
  by (Some row) e g = let same : row.no ≡ blocker = cc in first_is_least test rows row blocker t e same
  by None e g = absurd (cc)

-- after a grant, whether it had room or not
pub granted_table : (result : Result (Unit {0}) Memory) (old new left more : List Row) → OnOk result (new ≡ with_rows more left) → OnErr result (new ≡ old) → IsModeTable (with_rows more left) → IsModeTable old → IsModeTable new
granted_table (Ok u) old new left more p q t s = rw p t
granted_table (Err m) old new left more p q t s = rw q s
