-- What each call keeps.
use Rattle.std.proofs.Common.{◌≡◌, ℕ, Bool, false, List, refl, ap, ◌∙◌, inl, inr}
use Rattle.std.specs.Prelude.{Option}
use Rattle.fs_ident.specs.declared.actor.LeaseNo.{LeaseNo}
use Rattle.fs_ident.specs.declared.actor.Session.{Session}
use Rattle.fs_ident.proofs.Standing.{In-put}
use Rattle.fs_modes.specs.declared.modes.Mode.{Mode}
use Rattle.fs_field.specs.declared.asked.Asked.{Asked}
use Rattle.fs_field.specs.declared.asked.Asked.TheVariants.{Granted}
use Rattle.fs_field.specs.declared.field.Field.TheVariants.{SelfW, Other}
use Rattle.fs_field.specs.declared.lease_kind.LeaseKind.TheVariants.{Shared, Exclusive}
use Rattle.fs_field.specs.declared.row.Row.{Row}
use Rattle.fs_field.specs.Conflict.{Selves, NoConflict}
use Rattle.fs_field.specs.Field.{tells_no_mode}
use Rattle.fs_field.specs.Table.{no_before, with_row}
use Rattle.fs_moderows.specs.Table.{IsModeTable}
use Rattle.fs_moderows.specs.Answer.{answer_self, answer_other, given_row, rows_after}
use Rattle.fs_moderows.specs.Kept.{KeptPromises}
use Rattle.fs_moderows.proofs.Free.{AreOnModes, none_against, self_free, found_other, other_free}
use Rattle.fs_moderows.proofs.Promises.{self_kept, other_kept}

on_modes_with : (r : Row) (rows : List Row) → tells_no_mode r.field ≡ false → AreOnModes rows → AreOnModes (with_row r rows)
on_modes_with r rows new on x i = elim (In-put (λ z. no_before r.no z.no) x r rows i) [
  | inl e ↦ ap (λ (z : Row). tells_no_mode z.field) e ∙ new
  | inr j ↦ on x j
]

-- rows after an answer have what those before have, where one more row that is given keeps it
after : (P : List Row → Type 0) (asked : Asked) (row_with : Option Bool → Row) (rows : List Row) → ((told : Option Bool) → asked ≡ Granted told → P (with_row (row_with told) rows)) → P rows → P (rows_after asked row_with rows)
after P (Granted told) row_with rows given p = given told refl
after P asked row_with rows given p = p

pub self_stays_free : (selves : Selves) (rows : List Row) (number : LeaseNo) (y : Session) (f : List ℕ) (m : Mode) (until : ℕ) → IsModeTable rows → NoConflict selves rows → NoConflict selves (rows_after (answer_self (selves f) rows y f m) (given_row number y (SelfW f m) Exclusive until) rows)
self_stays_free selves rows number y f m until t free = after (NoConflict selves) (answer_self (selves f) rows y f m) (given_row number y (SelfW f m) Exclusive until) rows (λ told h. self_free selves rows (given_row number y (SelfW f m) Exclusive until told) f m refl (none_against selves rows y f m told h) (on_modes_with (given_row number y (SelfW f m) Exclusive until told) rows refl t.on_modes) free) free

pub self_stays_kept : (selves : Selves) (rows : List Row) (number : LeaseNo) (y : Session) (f : List ℕ) (m : Mode) (until : ℕ) → KeptPromises selves rows → KeptPromises selves (rows_after (answer_self (selves f) rows y f m) (given_row number y (SelfW f m) Exclusive until) rows)
self_stays_kept selves rows number y f m until kept = after (KeptPromises selves) (answer_self (selves f) rows y f m) (given_row number y (SelfW f m) Exclusive until) rows (λ told h. self_kept selves rows (given_row number y (SelfW f m) Exclusive until told) f m refl (none_against selves rows y f m told h) kept) kept

pub other_stays_free : (selves : Selves) (rows : List Row) (number : LeaseNo) (x : Session) (f : List ℕ) (m : Mode) (until : ℕ) → IsModeTable rows → NoConflict selves rows → NoConflict selves (rows_after (answer_other (selves f) rows x f m) (given_row number x (Other f m) Shared until) rows)
other_stays_free selves rows number x f m until t free = after (NoConflict selves) (answer_other (selves f) rows x f m) (given_row number x (Other f m) Shared until) rows (λ told h. other_free selves rows (given_row number x (Other f m) Shared until told) f m refl (found_other selves rows x f m told h) (on_modes_with (given_row number x (Other f m) Shared until told) rows refl t.on_modes) free) free

pub other_stays_kept : (selves : Selves) (rows : List Row) (number : LeaseNo) (x : Session) (f : List ℕ) (m : Mode) (until : ℕ) → KeptPromises selves rows → KeptPromises selves (rows_after (answer_other (selves f) rows x f m) (given_row number x (Other f m) Shared until) rows)
other_stays_kept selves rows number x f m until kept = after (KeptPromises selves) (answer_other (selves f) rows x f m) (given_row number x (Other f m) Shared until) rows (λ told h. other_kept selves rows (given_row number x (Other f m) Shared until told) f m refl (found_other selves rows x f m told h) kept) kept
