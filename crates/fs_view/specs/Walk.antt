-- One walk of the table of needs over what is known. Needs, what is missing, uses and the reply are all read off it.
use Rattle.std.specs.Prelude.{ℕ, Bool, true, false, not, List, [], ◌∷◌, Option, Some, None, is_some, filter}
use Rattle.fs_ident.specs.declared.actor.Session.{Session}
use Rattle.fs_field.specs.declared.asked.Need.{Need}
use Rattle.fs_field.specs.declared.asked.Need.TheVariants.{Lease, Fresh}
use Rattle.fs_field.specs.declared.field.Field.{Field}
use Rattle.fs_field.specs.declared.lease_kind.LeaseKind.{LeaseKind}
use Rattle.fs_field.specs.declared.value.Value.{Value}
use Rattle.fs_field.specs.Field.{file_of}
use Rattle.std.specs.FinMap.{get}
use Rattle.fs_model.specs.Namespace.{NodeMap}
use Rattle.fs_model.specs.declared.op.Op.{Op}
use Rattle.fs_record.specs.ValueOf.{value_at}
use Rattle.fs_view.specs.declared.walk.Walk.{Walk}
use Rattle.fs_view.specs.Script.{Script, answer, ask, give, script_of}

-- what is known: the value of a field, as far as leases of this kind or a stronger one make it known
abbrev pub Known : Type 0
Known = Field → LeaseKind → Option Value

-- the directories for whose new files an identifier is there
abbrev pub Given : Type 0
Given = List ℕ → Bool

-- an item before the others, which is there or missing
abbrev pub behind : Need → Bool → Walk → Walk
behind need true w = record { items = need ∷ w.items; reply = w.reply }
behind need false w = record { items = need ∷ w.items; reply = None }

abbrev pub walk_along : Known → Given → Script → Walk
walk_along known given (answer r) = record { items = []; reply = Some r }
walk_along known given (ask field kind go) =
    behind (Lease field kind) (is_some (known field kind)) (walk_along known given (go (known field kind)))
walk_along known given (give dir go) = behind (Fresh dir) (given dir) (walk_along known given go)

abbrev pub walk : Known → Given → Op → Walk
walk known given o = walk_along known given (script_of o)

-- the item is there
abbrev pub is_there : Known → Given → Need → Bool
is_there known given (Lease field kind) = is_some (known field kind)
is_there known given (Fresh dir) = given dir

-- the items that are not there
abbrev pub missing : Known → Given → Op → List Need
missing known given o = filter (λ need. not (is_there known given need)) (walk known given o).items

-- ## In a space every value is known, as a session sees it

abbrev pub known_in : NodeMap → Session → Known
known_in m s field kind = Some (value_at s field (get m (file_of field)))

abbrev pub always : Given
always dir = true
