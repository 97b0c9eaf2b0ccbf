-- What an effect does to the values of fields, as one session sees them.
use Rattle.std.specs.Prelude.{ℕ, Bool, false, not, nat_lt, ◌==◌, ◌&&◌, List, [], Option, Some, None, is_some, if◌then◌else◌}
use Rattle.std.specs.List.{list_any, filter}
use Rattle.std.specs.Ordering.{nat_cmp, is_lt}
use Rattle.std.specs.Cmp.Lexicographic.{slice_cmp}
use Rattle.fs_ident.specs.Ordered.{put_before}
use Rattle.fs_ident.specs.declared.kind.Kind.{Kind}
use Rattle.fs_ident.specs.declared.actor.Session.{Session}
use Rattle.fs_modes.specs.declared.modes.Modes.{Modes}
use Rattle.fs_field.specs.declared.field.Field.{Field}
use Rattle.fs_field.specs.declared.field.Field.TheVariants.{Life, Child, Names, Info, Own, SelfW, Other}
use Rattle.fs_field.specs.declared.value.Value.{Value}
use Rattle.fs_field.specs.declared.value.Value.TheVariants as value
use Rattle.fs_field.specs.declared.effect.Effect.{Effect}
use Rattle.fs_field.specs.declared.effect.Effect.TheVariants.{SetChild, SetParent, NewNode, RemoveNode, AddHandle, RemoveHandle, SetInfo}
use Rattle.fs_ident.specs.Ident.{same}

-- the file that the effect changes, and for a name its directory
abbrev pub changed_file : Effect → List ℕ
changed_file (SetChild dir name to) = dir
changed_file (SetParent file dir name) = file
changed_file (NewNode file kind dir name) = file
changed_file (RemoveNode file) = file
changed_file (AddHandle file session h modes) = file
changed_file (RemoveHandle file session h) = file
changed_file (SetInfo file size stamp) = file

-- a field of the file that begins anew with its life
abbrev pub touches_node : List ℕ → Field → Bool
touches_node file (Life f) = same f file
touches_node file (Child f n) = same f file
touches_node file (Names f) = same f file
touches_node file (Info f) = same f file
touches_node file (Own f) = same f file
touches_node file (SelfW f m) = false
touches_node file (Other f m) = false

-- the effect changes the field
abbrev pub touches : Effect → Field → Bool
touches (SetChild dir name to) (Child d n) = same d dir && same n name
touches (SetChild dir name to) (Names d) = same d dir
touches (NewNode file kind dir name) field = touches_node file field
touches (RemoveNode file) field = touches_node file field
touches (AddHandle file session h modes) (Own f) = same f file
touches (RemoveHandle file session h) (Own f) = same f file
touches (SetInfo file size stamp) (Info f) = same f file
touches e field = false

-- the first name comes before the second
abbrev pub is_before : List ℕ → List ℕ → Bool
is_before a b = is_lt (slice_cmp nat_cmp a b)

-- with the name, where it is not there before the first greater one
abbrev pub with_name : List (List ℕ) → List ℕ → List (List ℕ)
with_name names name = if list_any (λ n. same n name) names then names else put_before (is_before name) name names

-- without the name
abbrev pub without_name : List (List ℕ) → List ℕ → List (List ℕ)
without_name names name = filter (λ n. not (same n name)) names

abbrev pub Handles : Type 0
Handles = List (ℕ × Modes)

-- without the handle
abbrev pub without_handle : Handles → ℕ → Handles
without_handle handles h = filter (λ x. not (x.0 == h)) handles

-- the handle is above this one
abbrev pub is_above : ℕ → ℕ × Modes → Bool
is_above h x = nat_lt h x.0

-- with these modes under the handle, before the first greater one, and nothing else under it
abbrev pub with_handle : Handles → ℕ → Modes → Handles
with_handle handles h modes = put_before (is_above h) (h, modes) (without_handle handles h)

-- what the file is
abbrev pub life_after : List ℕ → Option Kind → Effect → Option Kind
life_after f life (NewNode file kind dir name) = if same f file then Some kind else life
life_after f life (RemoveNode file) = if same f file then None else life
life_after f life e = life

-- what the directory has under the name
abbrev pub child_after : List ℕ → List ℕ → Option (List ℕ) → Effect → Option (List ℕ)
child_after d n child (SetChild dir name to) = if same d dir && same n name then to else child
child_after d n child (NewNode file kind dir name) = if same d file then None else child
child_after d n child (RemoveNode file) = if same d file then None else child
child_after d n child e = child

-- the names of the directory
abbrev pub names_after : List ℕ → List (List ℕ) → Effect → List (List ℕ)
names_after d names (SetChild dir name to) =
    if same d dir then (if is_some to then with_name names name else without_name names name) else names
names_after d names (NewNode file kind dir name) = if same d file then [] else names
names_after d names (RemoveNode file) = if same d file then [] else names
names_after d names e = names

-- size and stamp
abbrev pub info_after : List ℕ → ℕ × ℕ → Effect → ℕ × ℕ
info_after f info (NewNode file kind dir name) = if same f file then (0, 0) else info
info_after f info (RemoveNode file) = if same f file then (0, 0) else info
info_after f info (SetInfo file size stamp) = if same f file then (size, stamp) else info
info_after f info e = info

-- the session's handles on the file
abbrev pub own_after : Session → List ℕ → Handles → Effect → Handles
own_after s f own (NewNode file kind dir name) = if same f file then [] else own
own_after s f own (RemoveNode file) = if same f file then [] else own
own_after s f own (AddHandle file session h modes) = if same f file && (session.0 == s.0) then with_handle own h modes else own
own_after s f own (RemoveHandle file session h) = if same f file && (session.0 == s.0) then without_handle own h else own
own_after s f own e = own

abbrev pub info_value : ℕ × ℕ → Value
info_value info = value.Info info.0 info.1

-- the value of the field, as the session sees it, after the effect; self and other values stay
abbrev pub value_after : Session → Field → Value → Effect → Value
value_after s (Life f) (value.Life life) e = value.Life (life_after f life e)
value_after s (Child d n) (value.Child child) e = value.Child (child_after d n child e)
value_after s (Names d) (value.Names names) e = value.Names (names_after d names e)
value_after s (Info f) (value.Info size stamp) e = info_value (info_after f (size, stamp) e)
value_after s (Own f) (value.Own own) e = value.Own (own_after s f own e)
value_after s field v e = v
