-- What may happen in a run.
use Rattle.std.specs.Prelude.{◌≤◌, List}
use Rattle.std.specs.List.{AllByRecursion}
use Rattle.fs_ident.specs.declared.limits.TheConstants.{LATEST}
use Rattle.fs_schedule.specs.declared.event.Event.{Event}
use Rattle.fs_world.specs.World.{FitsWorld}
use Rattle.fs_world.specs.declared.form.Form.{Form}

-- each of the events may happen to the world
abbrev pub MayHappen : Form → List Event → Type 0
MayHappen w events = AllByRecursion (λ (e : Event). (e.reading ≤ LATEST) × FitsWorld w e.what) events
