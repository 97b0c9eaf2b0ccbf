-- What a server tells with a lease while effects that were decided are on their way to its records.
use Rattle.std.specs.Prelude.{◌≡◌, ◌==◌, ◌⊎◌, false, List, [], map, None}
use Rattle.std.specs.FinMap.{get}
use Rattle.fs_ident.specs.In.{In}
use Rattle.fs_ident.specs.declared.actor.Session.{Session}
use Rattle.fs_field.specs.declared.asked.Asked.TheVariants.{Granted}
use Rattle.fs_field.specs.declared.effect.Effect.{Effect}
use Rattle.fs_field.specs.declared.effect.Effect.TheVariants.{RemoveNode}
use Rattle.fs_field.specs.declared.field.Field.{Field}
use Rattle.fs_field.specs.declared.field.Field.TheVariants.{Info, SelfW, Other}
use Rattle.fs_field.specs.declared.lease_kind.LeaseKind.{LeaseKind}
use Rattle.fs_field.specs.declared.row.Row.{Row}
use Rattle.fs_model.specs.Namespace.{NodeMap}
use Rattle.fs_model.specs.Step.{children_of}
use Rattle.fs_record.specs.Records.{RecordMap, node_of}
use Rattle.fs_record.specs.ValueOf.{handles_of, value_of}
use Rattle.fs_rows.specs.Answer.{answer}
use Rattle.fs_txn.specs.Decided.{IsDecided, held_with}
use Rattle.fs_txn.specs.Guards.{IsGuarded}

-- an effect that was decided for a session
pub record Decided : Type 0 where
  pub by : Session
  pub effect : Effect

abbrev pub effects_in : List Decided → List Effect
effects_in decided = map (λ (d : Decided). d.effect) decided

-- it was decided for another session, whose locked rows guard it
pub record IsOfOther (rows : List Row) (held : NodeMap) (asks : Session) (d : Decided) : Type 0 where
  pub decided : IsDecided d.effect
  pub guarded : IsGuarded rows held d.by d.effect
  pub other : (d.by.0 == asks.0) ≡ false

-- a file that goes has no children and no handles
abbrev pub IsBare : RecordMap → Effect → Type 0
IsBare m (RemoveNode file) = (children_of (node_of (get m file)) ≡ []) × (handles_of (node_of (get m file)) ≡ [])
IsBare m e = Unit {0}

-- the rows allow the session such a lease; of a field on what sessions tell of modes nothing is asked
abbrev pub IsAllowed : List Row → Session → Field → LeaseKind → Type 0
IsAllowed rows asks (SelfW file mode) kind = Unit {0}
IsAllowed rows asks (Other file mode) kind = Unit {0}
IsAllowed rows asks field kind = answer rows asks field kind ≡ Granted None

-- size and stamp of a file that goes
abbrev pub IsLost : List Decided → Field → Type 0
IsLost decided (Info file) = (d : Decided) × (In d decided × (d.effect ≡ RemoveNode file))
IsLost decided field = ⊥

-- the value in the records is the one in what all servers hold together
abbrev pub GrantIsTrue : Type 0
GrantIsTrue =
    (rows : List Row) (held : NodeMap) (m : RecordMap) (decided : List Decided) (asks : Session) (field : Field) (kind : LeaseKind)
    → ((d : Decided) → In d decided → IsOfOther rows held asks d) → ((d : Decided) → In d decided → IsBare m d.effect)
    → IsAllowed rows asks field kind
    → IsLost decided field ⊎ (value_of (held_with (effects_in decided) m) asks field ≡ value_of m asks field)
