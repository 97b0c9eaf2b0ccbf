-- What values tell of a file that is gone: its size and stamp are of no matter any more.
use Rattle.std.specs.Prelude.{◌≡◌, ◌⊎◌, ℕ, List, [], Some, None, true, false, is_some}
use Rattle.std.specs.List.{list_any}
use Rattle.fs_ident.specs.In.{In}
use Rattle.fs_ident.specs.declared.actor.Session.{Session}
use Rattle.fs_field.specs.declared.asked.Need.TheVariants.{Lease}
use Rattle.fs_field.specs.declared.field.Field.{Field}
use Rattle.fs_field.specs.declared.field.Field.TheVariants.{Life, Info, Own}
use Rattle.fs_field.specs.declared.lease_kind.LeaseKind.{LeaseKind}
use Rattle.fs_field.specs.declared.value.Value.{Value}
use Rattle.fs_field.specs.declared.value.Value.TheVariants as value
use Rattle.fs_model.specs.declared.op.Op.{Op}
use Rattle.fs_model.specs.declared.reply.Reply.{Reply}
use Rattle.fs_record.specs.Effects.{effects_of}
use Rattle.fs_view.specs.ViewLease.{makes}
use Rattle.fs_view.specs.View.{value_after_all}
use Rattle.fs_view.specs.Walk.{Given, Known, always, walk}

-- every field has its value
abbrev pub known_with : (Field → Value) → Known
known_with values field kind = Some (values field)

-- it does not live, and the session has no handle on it
pub record IsGone (file : List ℕ) (values : Field → Value) : Type 0 where
  pub life : values (Life file) ≡ value.Life None
  pub own : values (Own file) ≡ value.Own []

-- the field is size and stamp of such a file
abbrev pub IsUnread : (Field → Value) → Field → Type 0
IsUnread values (Info file) = IsGone file values
IsUnread values field = ⊥

-- no operation asks for them
abbrev pub GoneIsUnread : Type 0
GoneIsUnread =
    (values : Field → Value) (o : Op) (field : Field) (kind : LeaseKind) → IsUnread values field
    → In (Lease field kind) (walk (known_with values) always o).items → ⊥

-- whoever gets the reply that the values give, and does not make the file, leaves it gone
abbrev pub GoneStays : Type 0
GoneStays =
    (by : Session) (file : List ℕ) (values : Field → Value) (o : Op) (r : Reply) → IsGone file values
    → (walk (known_with values) always o).reply ≡ Some r → list_any (makes file) (effects_of by o r) ≡ false
    → IsGone file (λ field. value_after_all by field (values field) (effects_of by o r))

-- where a walk misses nothing, values that agree with what it knows but for such fields give the same walk
abbrev pub AlikeButGone : Type 0
AlikeButGone =
    (known : Known) (given : Given) (values : Field → Value) (o : Op) → is_some (walk known given o).reply ≡ true
    → ((field : Field) (kind : LeaseKind) → In (Lease field kind) (walk known given o).items
    → IsUnread values field ⊎ (Some (values field) ≡ known field kind))
    → walk (known_with values) always o ≡ walk known given o
