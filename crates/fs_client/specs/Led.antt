-- Which operations a server leads, and how they end.
use Rattle.std.specs.Prelude.{ℕ, Bool, true, false, not, ◌&&◌, List, Option, Some, None, option_map}
use Rattle.std.specs.Option.{option_and_then}
use Rattle.fs_ident.specs.Ident.{same}
use Rattle.fs_ident.specs.declared.kind.Kind.{Kind}
use Rattle.fs_field.specs.declared.effect.Effect.{Effect}
use Rattle.fs_field.specs.declared.field.Field.TheVariants.{Life, Child}
use Rattle.fs_field.specs.declared.lease_kind.LeaseKind.{LeaseKind}
use Rattle.fs_field.specs.declared.lease_kind.LeaseKind.TheVariants.{Shared, Exclusive}
use Rattle.fs_field.specs.declared.value.Value.{Value}
use Rattle.fs_field.specs.declared.value.Value.TheVariants as value
use Rattle.fs_map.specs.Lists.{map_after_hint}
use Rattle.fs_map.specs.Map.{Owners}
use Rattle.fs_model.specs.declared.op.Op.{Op}
use Rattle.fs_model.specs.declared.op.Op.TheVariants as op
use Rattle.fs_model.specs.declared.reply.Reply.{Reply}
use Rattle.fs_model.specs.declared.reply.Reply.TheVariants as reply
use Rattle.fs_msg.specs.declared.lead.Lead.{Lead}
use Rattle.fs_record.specs.LedEffects.{led_effects}
use Rattle.fs_record.specs.declared.led_end.LedEnd.{LedEnd}
use Rattle.fs_record.specs.declared.led_end.LedEnd.TheVariants as end
use Rattle.fs_record.specs.declared.led_end.Why.{Why}
use Rattle.fs_record.specs.declared.led_end.Why.TheVariants as why
use Rattle.fs_view.specs.View.{View, without_pins}
use Rattle.fs_view.specs.Walk.{Known}
use Rattle.fs_client.specs.declared.led.Led.{Led}

-- the operation that gets this reply takes a file away, or moves it to another place
abbrev pub is_led : Op → Reply → Bool
is_led (op.Delete dir name) reply.Deleted = true
is_led (op.Rename sdir sname ddir dname) reply.Renamed = not (same sdir ddir && same sname dname)
is_led o r = false

-- its server can say that it is done with this reply; whether a directory would come into itself is told by no lease
abbrev pub can_end_with : Op → Reply → Bool
can_end_with (op.Delete dir name) reply.Deleted = true
can_end_with (op.Rename sdir sname ddir dname) reply.Renamed = true
can_end_with (op.Rename sdir sname ddir dname) reply.Cycle = true
can_end_with o r = false

-- ## What moves or goes

-- the file that has the name, where it is known that one has it
abbrev pub file_told : Option Value → Option (List ℕ)
file_told (Some (value.Child child)) = child
file_told v = None

-- what the file is, where it is known that it lives
abbrev pub kind_told : Option Value → Option Kind
kind_told (Some (value.Life kind)) = kind
kind_told v = None

-- the lease of the name that the operation asks for tells the file
abbrev pub file_known : Known → Op → Option (List ℕ)
file_known known (op.Delete dir name) = file_told (known (Child dir name) Exclusive)
file_known known (op.Rename sdir sname ddir dname) = file_told (known (Child sdir sname) Exclusive)
file_known known o = None

-- the lease on its life that the operation asks for
abbrev pub life_kind : Op → LeaseKind
life_kind (op.Delete dir name) = Exclusive
life_kind o = Shared

-- and that lease tells what it is
abbrev pub kind_known : Known → Op → List ℕ → Option Kind
kind_known known o file = kind_told (known (Life file) (life_kind o))

-- the file that moves or goes, and what it is
abbrev pub moved_known : Known → Op → Option (List ℕ × Kind)
moved_known known o = option_and_then (λ file. option_map (λ kind. (file, kind)) (kind_known known o file)) (file_known known o)

-- ## While it is led

-- as its server is asked to lead it
abbrev pub lead_of : Led → Lead
lead_of l = record { n = l.entry.n; op = l.entry.op; file = l.file; kind = l.kind; uses = l.entry.uses }

-- what it does where it ends with this reply
abbrev pub effects_of_led : Led → Reply → List Effect
effects_of_led l r = led_effects l.entry.op l.file r

-- the leases that it used are unpinned
abbrev pub without_led_pins : Option Led → View → View
without_led_pins None v = v
without_led_pins (Some l) v = without_pins l.entry.uses v

-- ## Its end

-- something is led, and can end so
abbrev pub end_fits : Option Led → LedEnd → Bool
end_fits None e = false
end_fits (Some l) (end.Done r) = can_end_with l.entry.op r
end_fits (Some l) e = true

-- another server is said to manage a file of it
abbrev pub hints_again : Why → Owners → Option Owners
hints_again (why.Moved prefix to) hints = Some (map_after_hint hints prefix to)
hints_again w hints = None
