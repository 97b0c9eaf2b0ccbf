-- The items of modes, one after another, before a walk.
use Rattle.std.specs.Prelude.{ℕ, Bool, true, false, ◌||◌, List, [], ◌∷◌, Some, is_some}
use Rattle.fs_modes.specs.declared.modes.Mode.{Mode}
use Rattle.fs_field.specs.declared.asked.Need.TheVariants.{Lease}
use Rattle.fs_field.specs.declared.field.Field.TheVariants.{SelfW, Other}
use Rattle.fs_field.specs.declared.lease_kind.LeaseKind.TheVariants.{Shared, Exclusive}
use Rattle.fs_model.specs.declared.reply.Reply.{Reply}
use Rattle.fs_view.specs.declared.walk.Walk.{Walk}
use Rattle.fs_view.specs.Told.{is_other_told}
use Rattle.fs_view.specs.Walk.{Known, behind}

-- each of the modes as it is with the other sessions, and the walk, unless one of them has one
abbrev pub others_before : Known → Reply → List Mode → List ℕ → Bool → Walk → Walk
others_before known r [] file true rest = record { items = []; reply = Some r }
others_before known r [] file false rest = rest
others_before known r (m ∷ ms) file found rest =
    behind (Lease (Other file m) Shared) (is_some (known (Other file m) Shared))
    (others_before known r ms file (found || is_other_told (known (Other file m) Shared)) rest)

-- each of the modes as the session itself has it, and the walk
abbrev pub selves_before : Known → List Mode → List ℕ → Walk → Walk
selves_before known [] file rest = rest
selves_before known (m ∷ ms) file rest =
    behind (Lease (SelfW file m) Exclusive) (is_some (known (SelfW file m) Exclusive)) (selves_before known ms file rest)
