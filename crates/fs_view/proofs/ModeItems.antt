-- Items of modes along the table.
use Rattle.std.proofs.Common.{◌≡◌, ℕ, ◌||◌, Bool, true, false, List, [], ◌∷◌, refl, ap, ◌∙◌}
use Rattle.std.specs.Prelude.{is_some, Result, Ok, Err, IfOk}
use Rattle.fs_ident.specs.declared.memory.Memory.{Memory}
use Rattle.fs_view.specs.declared.walk.Walk.{Walk}
use Rattle.fs_modes.specs.declared.modes.Mode.{Mode}
use Rattle.fs_field.specs.declared.asked.Need.TheVariants.{Lease}
use Rattle.fs_field.specs.declared.field.Field.TheVariants.{SelfW, Other}
use Rattle.fs_field.specs.declared.lease_kind.LeaseKind.TheVariants.{Shared, Exclusive}
use Rattle.fs_model.specs.declared.reply.Reply.{Reply}
use Rattle.fs_view.specs.Told.{is_other_told}
use Rattle.fs_view.specs.Script.{Script, answer, ask_others, ask_selves}
use Rattle.fs_view.specs.Walk.{Known, Given, behind, walk_along}
use Rattle.fs_view.specs.Modes.{others_before, selves_before}

pub others_along : (known : Known) (given : Given) (r : Reply) (ms : List Mode) (file : List ℕ) (found : Bool) (go : Script) → others_before known r ms file found (walk_along known given go) ≡ walk_along known given (ask_others r ms file found go)
others_along known given r [] file true go = refl
others_along known given r [] file false go = refl
others_along known given r (m ∷ ms) file found go = ap (behind (Lease (Other file m) Shared) (is_some (known (Other file m) Shared))) (others_along known given r ms file (found || is_other_told (known (Other file m) Shared)) go)

pub selves_along : (known : Known) (given : Given) (ms : List Mode) (file : List ℕ) (r : Reply) → selves_before known ms file (walk_along known given (answer r)) ≡ walk_along known given (ask_selves ms file r)
selves_along known given [] file r = refl
selves_along known given (m ∷ ms) file r = ap (behind (Lease (SelfW file m) Exclusive) (is_some (known (SelfW file m) Exclusive))) (selves_along known given ms file r)

-- where a call may want memory
pub as_well : (r : Result Walk Memory) (a b : Walk) → a ≡ b → IfOk r (λ w. w ≡ a) → IfOk r (λ w. w ≡ b)
as_well (Ok w) a b e h = h ∙ e
as_well (Err m) a b e h = h
