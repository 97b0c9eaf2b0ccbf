-- The values of fields.
use Rattle.std.specs.Prelude.{Bool, true, false}
use Rattle.fs_field.specs.declared.field.Field.{Field}
use Rattle.fs_field.specs.declared.field.Field.TheVariants.{Life, Child, Names, Info, Own, SelfW, Other}
use Rattle.fs_field.specs.declared.value.Value.{Value}
use Rattle.fs_field.specs.declared.value.Value.TheVariants as value

-- the value can be that of the field
abbrev pub is_value_of : Field → Value → Bool
is_value_of (Life a) (value.Life k) = true
is_value_of (Child a n) (value.Child c) = true
is_value_of (Names a) (value.Names ns) = true
is_value_of (Info a) (value.Info size stamp) = true
is_value_of (Own a) (value.Own hs) = true
is_value_of (SelfW a m) value.SelfW = true
is_value_of (Other a m) (value.Other held) = true
is_value_of field v = false
