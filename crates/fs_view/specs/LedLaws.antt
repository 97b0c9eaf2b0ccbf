-- What laws say of a delete or a rename that gets its reply.
use Rattle.std.specs.Prelude.{◌≡◌, ◌⊎◌, ℕ, true, false, List, Some, None}
use Rattle.std.specs.FinMap.{get}
use Rattle.std.specs.List.{list_any}
use Rattle.fs_ident.specs.declared.actor.Session.{Session}
use Rattle.fs_field.specs.declared.field.Field.{Field}
use Rattle.fs_field.specs.declared.field.Field.TheVariants.{Info}
use Rattle.fs_field.specs.declared.lease_kind.LeaseKind.{LeaseKind}
use Rattle.fs_model.specs.Sound.{IsSound}
use Rattle.fs_model.specs.Step.{step}
use Rattle.fs_model.specs.declared.op.Op.{Op}
use Rattle.fs_model.specs.declared.reply.Reply.{Reply}
use Rattle.fs_record.specs.Applied.{records_after_all}
use Rattle.fs_record.specs.LedEffects.{led_effects, moves_or_removes, named_file}
use Rattle.fs_record.specs.Records.{AreRecords, RecordMap, node_of, nodes_of}
use Rattle.fs_record.specs.ValueOf.{value_of}
use Rattle.fs_view.specs.Laws.{item_meets}
use Rattle.fs_view.specs.View.{value_after_all}
use Rattle.fs_view.specs.Walk.{always, known_in, walk}

-- in what these records hold the operation moves or removes this file, and gets the reply
pub record IsLed (m : RecordMap) (by : Session) (o : Op) (file : List ℕ) (r : Reply) : Type 0 where
  pub records : AreRecords m
  pub space : IsSound (nodes_of m)
  pub moves : moves_or_removes o ≡ true
  pub named : named_file (nodes_of m) o ≡ Some file
  pub reply : (step (nodes_of m) by o).reply ≡ r

-- the records after it
abbrev pub after_led : RecordMap → Op → List ℕ → Reply → RecordMap
after_led m o file r = records_after_all m (led_effects o file r)

-- the field is size and stamp of a file that does not live
abbrev pub IsOfNone : RecordMap → Field → Type 0
IsOfNone m (Info file) = node_of (get m file) ≡ None
IsOfNone m field = ⊥

-- what any session sees then is what the effects make of what it saw
abbrev pub LedValuesFollow : Type 0
LedValuesFollow =
    (m : RecordMap) (by x : Session) (o : Op) (file : List ℕ) (r : Reply) (field : Field) → IsLed m by o file r
    → value_of (after_led m o file r) x field ≡ value_after_all x field (value_of m x field) (led_effects o file r)

-- of a field that no exclusive item of the operation meets it sees what it saw, but of size and stamp of a file that went
abbrev pub LedValuesStay : Type 0
LedValuesStay =
    (m : RecordMap) (by x : Session) (o : Op) (file : List ℕ) (r : Reply) (field : Field) (kind : LeaseKind) → IsLed m by o file r
    → list_any (item_meets field kind) (walk (known_in (nodes_of m) by) always o).items ≡ false
    → IsOfNone (after_led m o file r) field ⊎ (value_of (after_led m o file r) x field ≡ value_of m x field)
