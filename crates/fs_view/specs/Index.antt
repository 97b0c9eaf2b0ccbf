-- What a client finds its leases by: their numbers, each at the place of its lease, and their numbers by field.
use Rattle.std.specs.Prelude.{◌≡◌, ℕ, nat_le, nat_lt, ◌&&◌, find, not, ◌++◌, ◌∷◌, Bool, true, false, List, [], Option, Some, None, map, if◌then◌else◌}
use Rattle.std.specs.declared.cmp.Ordering.{Ordering}
use Rattle.std.specs.BTreeMap.{BTreeMap, get}
use Rattle.std.specs.List.{filter, list_all}
use Rattle.fs_ident.specs.declared.actor.LeaseNo.{LeaseNo}
use Rattle.fs_field.specs.contracts.field.FieldOrd.TheImpl as fields
use Rattle.fs_field.specs.declared.field.Field.{Field}
use Rattle.fs_field.specs.declared.lease_kind.LeaseKind.{LeaseKind}
use Rattle.fs_field.specs.Field.{same_field}
use Rattle.fs_field.specs.Table.{same_no}
use Rattle.fs_view.specs.declared.change.Change.{Change}
use Rattle.fs_view.specs.declared.change.Change.TheVariants.{Leave, Renew}
use Rattle.fs_view.specs.declared.index.FieldIndex.{FieldIndex}
use Rattle.fs_view.specs.declared.view_lease.ViewLease.{ViewLease}
use Rattle.fs_view.specs.declared.view_lease.Standing.{Standing}
use Rattle.fs_view.specs.declared.view_lease.Standing.TheVariants.{Held, Pinned, Leaving}
use Rattle.fs_view.specs.declared.key.Key.{Key}
use Rattle.fs_view.specs.declared.leases.Leases.{Leases}
use Rattle.fs_view.specs.ViewLease.{has_number, is_better, number_of, serves}
use Rattle.fs_view.specs.View.{are_distinct}

-- ## By number

abbrev pub key_of : LeaseNo → Key
key_of number = record { server = number.server; count = number.count }

abbrev pub key_in : ViewLease → Key
key_in k = key_of (number_of k.standing)

-- ## By field

-- fields in order
abbrev pub field_cmp : Field → Field → Ordering
field_cmp = fields.ghosts.cmp

-- nothing is listed where there is no list
abbrev pub listed : Option (List LeaseNo) → List LeaseNo
listed None = []
listed (Some numbers) = numbers

-- the numbers that stand at the field
abbrev pub numbers_at : BTreeMap Field (List LeaseNo) → Field → List LeaseNo
numbers_at fields field = listed (get field_cmp fields field)

-- the numbers at this field change so, and those at others do not
abbrev pub ChangesAt : (List LeaseNo → List LeaseNo) → Field → BTreeMap Field (List LeaseNo) → BTreeMap Field (List LeaseNo) → Type 0
ChangesAt change field old new = (f : Field) → numbers_at new f ≡ if same_field field f then change (numbers_at old f) else numbers_at old f

-- one number more, and all but one
abbrev pub and_number : LeaseNo → List LeaseNo → List LeaseNo
and_number number numbers = numbers ++ number ∷ []

abbrev pub but_number : LeaseNo → List LeaseNo → List LeaseNo
but_number number numbers = filter (λ n. not (same_no n number)) numbers

-- an index that is whole became so by one number more
abbrev pub IsNoted : LeaseNo → Field → FieldIndex → FieldIndex → Type 0
IsNoted number field old new = new.whole ≡ true → (old.whole ≡ true) × ChangesAt (and_number number) field old.fields new.fields

-- the lease is on the field, and does not go back
abbrev pub is_on : Field → Standing → Bool
is_on field (Held l) = same_field l.field field
is_on field (Pinned u) = same_field u.lease.field field
is_on field (Leaving l) = false

-- the numbers of the leases on the field, in order of grant
abbrev pub numbers_on : Field → List ViewLease → List LeaseNo
numbers_on field ks = map (λ (k : ViewLease). number_of k.standing) (filter (λ (k : ViewLease). is_on field k.standing) ks)

-- where the index is whole, these stand at each field
abbrev pub IsIndexOf : FieldIndex → List ViewLease → Type 0
IsIndexOf index ks = index.whole ≡ true → (field : Field) → numbers_at index.fields field ≡ numbers_on field ks

-- a held lease that goes back, or is over, was taken off its field
abbrev pub IsTakenOff : Standing → FieldIndex → FieldIndex → Type 0
IsTakenOff (Held l) old new = (new.whole ≡ old.whole) × ChangesAt (but_number l.no) l.field old.fields new.fields
IsTakenOff s old new = new ≡ old

-- a lease that does not go back was added on its field
abbrev pub IsAdded : Standing → FieldIndex → FieldIndex → Type 0
IsAdded (Held l) old new = IsNoted l.no l.field old new
IsAdded (Pinned u) old new = IsNoted u.lease.no u.lease.field old new
IsAdded (Leaving l) old new = new ≡ old

abbrev pub IsChanged : Change → Standing → FieldIndex → FieldIndex → Type 0
IsChanged Leave s old new = IsTakenOff s old new
IsChanged change s old new = new ≡ old

-- the better one of the best so far and this lease, if there is one
abbrev pub better_of : ℕ → Field → LeaseKind → Option ViewLease → Option ViewLease → Option ViewLease
better_of now field kind best None = best
better_of now field kind best (Some k) = if serves now field kind k.standing && is_better k best then Some k else best

-- the lease that is taken of those of these numbers
abbrev pub taken_by : ℕ → Field → LeaseKind → List ViewLease → Option ViewLease → List LeaseNo → Option ViewLease
taken_by now field kind ks best [] = best
taken_by now field kind ks best (n ∷ ns) = taken_by now field kind ks (better_of now field kind best (find (has_number n) ks)) ns

-- ## By their ends

-- it ends no sooner, unless it goes back
abbrev pub ends_from : ℕ → Standing → Bool
ends_from least (Held l) = nat_le least l.until
ends_from least (Pinned u) = nat_le least u.lease.until
ends_from least (Leaving l) = true

abbrev pub end_no_sooner : ℕ → List ViewLease → Bool
end_no_sooner least ks = list_all (λ (k : ViewLease). ends_from least k.standing) ks

abbrev pub lesser : ℕ → ℕ → ℕ
lesser a b = if nat_lt a b then a else b

-- the lesser of this and the lease's end, unless it goes back
abbrev pub lesser_end : ℕ → Standing → ℕ
lesser_end least (Held l) = lesser least l.until
lesser_end least (Pinned u) = lesser least u.lease.until
lesser_end least (Leaving l) = least

-- a lease that has a new end may end sooner than the others
abbrev pub least_with : Change → ℕ → ℕ
least_with (Renew until) least = lesser least until
least_with change least = least

-- ## All of it

-- the leases, their numbers, those by field, and an end that none is over before
pub record AreFoundBy (ks : List ViewLease) (keys : List Key) (index : FieldIndex) (least : ℕ) : Type 0 where
  pub distinct : are_distinct ks ≡ true
  pub numbers : keys ≡ map key_in ks
  pub fields : IsIndexOf index ks
  pub ends : end_no_sooner least ks ≡ true

abbrev pub AreFound : Leases → Type 0
AreFound l = AreFoundBy l.kept.items l.numbers.keys l.index l.least
