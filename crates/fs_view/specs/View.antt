-- What a client knows: its leases in order of grant, each with the value that its field had, and what its log will do.
use Rattle.std.specs.Prelude.{ℕ, zero, suc, Bool, true, false, not, ◌&&◌, List, [], ◌∷◌, ◌++◌, Option, Some, None, is_some, map, filter, find, if◌then◌else◌, option_map}
use Rattle.std.specs.Option.{option_and_then, option_map_or}
use Rattle.std.specs.List.{list_any, filter_map}
use Rattle.fs_ident.specs.declared.actor.LeaseNo.{LeaseNo}
use Rattle.fs_ident.specs.declared.actor.Session.{Session}
use Rattle.fs_field.specs.declared.effect.Effect.{Effect}
use Rattle.fs_field.specs.declared.field.Field.{Field}
use Rattle.fs_field.specs.declared.field.Field.TheVariants.{Life}
use Rattle.fs_field.specs.declared.lease_kind.LeaseKind.{LeaseKind}
use Rattle.fs_field.specs.declared.lease_kind.LeaseKind.TheVariants.{Exclusive}
use Rattle.fs_field.specs.declared.used.Use.{Use}
use Rattle.fs_field.specs.declared.value.Value.{Value}
use Rattle.fs_field.specs.After.{value_after}
use Rattle.fs_field.specs.Value.{is_value_of}
use Rattle.fs_field.specs.Field.{file_of}
use Rattle.fs_field.specs.declared.asked.Need.{Need}
use Rattle.fs_field.specs.declared.asked.Need.TheVariants as need
use Rattle.fs_model.specs.declared.op.Op.{Op}
use Rattle.fs_model.specs.declared.op.Op.TheVariants as op
use Rattle.fs_model.specs.declared.reply.Reply.{Reply}
use Rattle.fs_view.specs.declared.view_lease.ViewLease.{ViewLease}
use Rattle.fs_view.specs.declared.new_lease.NewLease.{NewLease}
use Rattle.fs_view.specs.declared.view_lease.Standing.{Standing}
use Rattle.fs_view.specs.declared.view_lease.Standing.TheVariants.{Held, Pinned, Leaving}
use Rattle.fs_view.specs.ViewLease.{number_of, file_in, has_number, serves, is_better, use_in, makes, offers, takes_pin, is_held, is_leaving, is_live, pinned, unpinned, leaving, renewed, recalled_as}
use Rattle.fs_view.specs.declared.walk.Walk.{Walk}
use Rattle.fs_view.specs.Script.{Script}
use Rattle.fs_view.specs.Walk.{Known, Given, walk_along, walk, missing}

-- the view of a session
pub record View : Type 0 where
  pub session : Session
  -- in order of grant
  pub leases : List ViewLease
  -- what each entry of the log will do, in order
  pub pending : List (List Effect)

-- no two leases have one number
abbrev pub are_distinct : List ViewLease → Bool
are_distinct [] = true
are_distinct (k ∷ ks) = not (list_any (has_number (number_of k.standing)) ks) && are_distinct ks

-- ## What is known

-- the value, as the session sees it, after the effects, one after another
abbrev pub value_after_all : Session → Field → Value → List Effect → Value
value_after_all s field v [] = v
value_after_all s field v (e ∷ es) = value_after_all s field (value_after s field v e) es

-- and after those of all entries
abbrev pub value_after_log : Session → Field → Value → List (List Effect) → Value
value_after_log s field v [] = v
value_after_log s field v (es ∷ log) = value_after_log s field (value_after_all s field v es) log

-- the lease that is taken for the field: the best so far, or a better one behind it
abbrev pub taken_from : ℕ → Field → LeaseKind → Option ViewLease → List ViewLease → Option ViewLease
taken_from now field kind best [] = best
taken_from now field kind best (k ∷ ks) =
    taken_from now field kind (if serves now field kind k.standing && is_better k best then Some k else best) ks

unfoldable pub taken : View → ℕ → Field → LeaseKind → Option ViewLease
taken v now field kind = taken_from now field kind None v.leases

-- what the view makes known at the reading: the value at grant, after all that the session did since
unfoldable pub known_by : View → ℕ → Known
known_by v now field kind = option_map (λ (k : ViewLease). value_after_log v.session field k.base v.pending) (taken v now field kind)

-- ## Identifiers for new files

-- the first lease that offers an identifier below the directory
unfoldable pub offered : View → ℕ → List ℕ → Option ViewLease
offered v now dir = find (offers now dir v.pending) v.leases

abbrev pub fresh : View → ℕ → List ℕ → Option (List ℕ)
fresh v now dir = option_map (λ (k : ViewLease). file_in k.standing) (offered v now dir)

abbrev pub given_by : View → ℕ → Given
given_by v now dir = is_some (offered v now dir)

-- the lease that is used for it: the best on the life of that file
abbrev pub taken_fresh : View → ℕ → List ℕ → Option ViewLease
taken_fresh v now dir = option_and_then (λ (id : List ℕ). taken v now (Life id) Exclusive) (fresh v now dir)

-- ## Needs, uses and replies of the session

-- the walk along a part of the table
abbrev pub along : View → ℕ → Script → Walk
along v now script = walk_along (known_by v now) (given_by v now) script

abbrev pub walk_in : View → ℕ → Op → Walk
walk_in v now o = walk (known_by v now) (given_by v now) o

-- the operation without the identifier that a create names: what it needs is what it needs with none named
abbrev pub nameless : Op → Op
nameless (op.Create dir name kind id) = op.Create dir name kind None
nameless o = o

abbrev pub missing_in : View → ℕ → Op → List Need
missing_in v now o = missing (known_by v now) (given_by v now) o

abbrev pub reply_in : View → ℕ → Op → Option Reply
reply_in v now o = (walk_in v now o).reply

-- the lease that an item is answered from, as an entry names it
abbrev pub item_use : View → ℕ → Need → Option Use
item_use v now (need.Lease field kind) = option_and_then (λ (k : ViewLease). use_in k.standing) (taken v now field kind)
item_use v now (need.Fresh dir) = option_and_then (λ (k : ViewLease). use_in k.standing) (taken_fresh v now dir)

-- one use for each item
abbrev pub uses_in : View → ℕ → Op → List Use
uses_in v now o = filter_map (item_use v now) (walk_in v now o).items

-- ## Conditions

-- there is a lease of this number, and it stands so
abbrev pub stands : (Standing → Bool) → LeaseNo → List ViewLease → Bool
stands test number leases = option_map_or (λ (k : ViewLease). test k.standing) (find (has_number number) leases) false

-- it is held, or entries use it
abbrev pub is_in_hand : Standing → Bool
is_in_hand s = not (is_leaving s)

-- ## Steps

abbrev pub lapsed_at : ℕ → View → View
lapsed_at now v = record v { leases = filter (is_live now) v.leases }

abbrev pub with_grant : LeaseNo → Field → LeaseKind → ℕ → Value → Option (List ℕ) → View → View
with_grant number field kind until value below v =
    record v {
      leases = v.leases ++ record {
        standing = Held (record { no = number; field = field; kind = kind; until = until });
        base = value;
        recalled = false;
        below = below;
      } ∷ [];
    }

-- a lease that its server gave is held
abbrev pub kept_new : NewLease → ViewLease
kept_new l =
    record {
      standing = Held (record { no = l.no; field = l.field; kind = l.kind; until = l.until });
      base = l.value;
      recalled = false;
      below = l.below;
    }

abbrev pub with_new : NewLease → View → View
with_new l v = with_grant l.no l.field l.kind l.until l.value l.below v

-- each of the leases behind the others, in order
abbrev pub with_grants : List NewLease → View → View
with_grants [] v = v
with_grants (l ∷ ls) v = with_grants ls (with_new l v)

-- each has a value of its field, and a number that no lease has and none before it
abbrev pub can_grant_all : List NewLease → List ViewLease → Bool
can_grant_all [] leases = true
can_grant_all (l ∷ ls) leases =
    (is_value_of l.field l.value && not (list_any (has_number l.no) leases)) && can_grant_all ls (leases ++ kept_new l ∷ [])

-- the lease of this number is changed, and no other
abbrev pub at_number : LeaseNo → (ViewLease → ViewLease) → List ViewLease → List ViewLease
at_number number change leases = map (λ k. if has_number number k then change k else k) leases

abbrev pub pinned_at : LeaseNo → List ViewLease → List ViewLease
pinned_at number leases = at_number number (λ k. record k { standing = pinned k.standing }) leases

abbrev pub unpinned_at : LeaseNo → List ViewLease → List ViewLease
unpinned_at number leases = at_number number (λ k. record k { standing = unpinned k.standing }) leases

abbrev pub pinned_all : List Use → List ViewLease → List ViewLease
pinned_all [] leases = leases
pinned_all (u ∷ us) leases = pinned_all us (pinned_at u.no leases)

abbrev pub unpinned_all : List Use → List ViewLease → List ViewLease
unpinned_all [] leases = leases
unpinned_all (u ∷ us) leases = unpinned_all us (unpinned_at u.no leases)

-- one entry more can use each of them, one after another
abbrev pub can_pin_all : List Use → List ViewLease → Bool
can_pin_all [] leases = true
can_pin_all (u ∷ us) leases = stands takes_pin u.no leases && can_pin_all us (pinned_at u.no leases)

abbrev pub with_pins : List Use → View → View
with_pins uses v = record v { leases = pinned_all uses v.leases }

abbrev pub without_pins : List Use → View → View
without_pins uses v = record v { leases = unpinned_all uses v.leases }

-- one entry more, with these effects
abbrev pub with_entry : List Effect → View → View
with_entry effects v = record v { pending = v.pending ++ effects ∷ [] }

-- the effects are known to be admitted: the base value follows
abbrev pub base_after : Session → List Effect → Standing → Value → Value
base_after s effects (Held l) base = value_after_all s l.field base effects
base_after s effects (Pinned u) base = value_after_all s u.lease.field base effects
base_after s effects (Leaving l) base = base

-- one of the effects makes the file that the lease is on
abbrev pub is_made_in : List Effect → Standing → Bool
is_made_in effects (Held l) = list_any (makes (file_of l.field)) effects
is_made_in effects (Pinned u) = list_any (makes (file_of u.lease.field)) effects
is_made_in effects (Leaving l) = false

-- an identifier is no longer for a new file once that is made
abbrev pub below_after : List Effect → Standing → Option (List ℕ) → Option (List ℕ)
below_after effects s below = if is_made_in effects s then None else below

abbrev pub knowing : Session → List Effect → ViewLease → ViewLease
knowing s effects k = record k { base = base_after s effects k.standing k.base; below = below_after effects k.standing k.below }

abbrev pub with_admitted : List Effect → View → View
with_admitted effects v = record v { leases = map (knowing v.session effects) v.leases }

abbrev pub first_admitted : List (List Effect) → View → View
first_admitted [] v = v
first_admitted (es ∷ log) v = record { session = v.session; leases = map (knowing v.session es) v.leases; pending = log }

-- the first entry is known to be admitted
abbrev pub with_first_admitted : View → View
with_first_admitted v = first_admitted v.pending v

-- so many entries at the front, one after another
abbrev pub admitted_front : ℕ → View → View
admitted_front zero v = v
admitted_front (suc k) v = admitted_front k (with_first_admitted v)

-- its server asked for the lease
abbrev pub with_recall : LeaseNo → View → View
with_recall number v = record v { leases = at_number number (λ k. record k { recalled = recalled_as k.standing k.recalled }) v.leases }

abbrev pub with_leaving : LeaseNo → View → View
with_leaving number v = record v { leases = at_number number (λ k. record k { standing = leaving k.standing }) v.leases }

-- a lease that went back is given up
abbrev pub without_lease : LeaseNo → View → View
without_lease number v = record v { leases = filter (λ k. not (has_number number k)) v.leases }

-- a lease that no entry uses is given up
abbrev pub given_up : LeaseNo → View → View
given_up number v = if stands is_held number v.leases then without_lease number v else v

-- the lease has another end
abbrev pub with_end : LeaseNo → ℕ → View → View
with_end number until v = record v { leases = at_number number (λ k. record k { standing = renewed until k.standing }) v.leases }
