-- Changes of records, one after the other: what every call that changes them makes of them.
use Rattle.std.specs.Prelude.{ℕ, Bool, true, nat_le, ◌&&◌, List, [], ◌∷◌, Option, Some, None, option_map, is_some}
use Rattle.std.specs.List.{list_all}
use Rattle.std.specs.FinMap.{get, insert}
use Rattle.fs_ident.specs.Ordered.{Keyed}
use Rattle.fs_field.specs.declared.effect.Effect.{Effect}
use Rattle.fs_record.specs.declared.record.Record.{Record}
use Rattle.fs_record.specs.Records.{RecordMap, next_of}
use Rattle.fs_record.specs.Applied.{is_undoable, records_after, records_after_all}
use Rattle.fs_record.specs.Fresh.{fresh_number, records_after_gift}
use Rattle.fs_record.specs.Moving.{are_absent, records_left, records_without, with_records}

-- an effect or several together; a number that the directory chooses, of those not borne, or one that is chosen for it; a
-- record for a file; the records of these files, or of those that a piece gives, go; records come
pub data Change : Type 0 where
  apply : Effect → Change
  apply_all : List Effect → Change
  fresh : List ℕ → List ℕ → Change
  gift : List ℕ → ℕ → Change
  put : List ℕ → Record → Change
  leave : List (List ℕ) → Change
  split : List ℕ → Keyed Bool → Change
  join : Keyed Record → Change

abbrev pub after_change : RecordMap → Change → RecordMap
after_change m (apply e) = records_after m e
after_change m (apply_all es) = records_after_all m es
after_change m (fresh dir borne) = records_after_gift m dir (fresh_number m dir borne)
after_change m (gift dir k) = records_after_gift m dir (Some k)
after_change m (put file kept) = insert m file kept
after_change m (leave files) = records_without files m
after_change m (split prefix given) = records_left prefix given m
after_change m (join records) = with_records records m

-- the file's next number is no more than this
abbrev pub is_next_by : RecordMap → List ℕ → ℕ → Bool
is_next_by m file k = nat_le (next_of (get m file)) k

-- what the call asks of its caller
abbrev pub can_change : RecordMap → Change → Bool
can_change m (apply_all es) = list_all is_undoable es
can_change m (gift dir k) = is_next_by m dir k
can_change m (put file kept) = is_next_by m file kept.next
can_change m (join records) = are_absent m records
can_change m c = true

abbrev pub after_changes : RecordMap → List Change → RecordMap
after_changes m [] = m
after_changes m (c ∷ cs) = after_changes (after_change m c) cs

-- each may be called where it comes
abbrev pub can_each_change : RecordMap → List Change → Bool
can_each_change m [] = true
can_each_change m (c ∷ cs) = can_change m c && can_each_change (after_change m c) cs

-- the number that the change gives, and the directory below which it gives it
abbrev pub number_given : RecordMap → Change → Option (List ℕ × ℕ)
number_given m (fresh dir borne) = option_map (λ (k : ℕ). (dir, k)) (fresh_number m dir borne)
number_given m (gift dir k) = Some (dir, k)
number_given m c = None

-- the directory has a record all the while
abbrev pub has_record_throughout : List ℕ → RecordMap → List Change → Bool
has_record_throughout dir m [] = is_some (get m dir)
has_record_throughout dir m (c ∷ cs) = is_some (get m dir) && has_record_throughout dir (after_change m c) cs
