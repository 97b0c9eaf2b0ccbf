-- How far a run has come that is not broken off.
use Rattle.std.specs.Prelude.{◌≡◌, ◌≤◌, ◌⊎◌, List, [], ◌∷◌, length, None}
use Rattle.fs_schedule.specs.declared.event.Event.{Event}
use Rattle.fs_schedule.specs.declared.limits.TheConstants.{PACKETS}
use Rattle.fs_world.specs.World.{packets_of, step}
use Rattle.fs_world.specs.declared.form.Form.{Form}

-- this world is the one before the events, or comes of the first of them, or of more, of which none breaks the run off
abbrev pub StandsIn : Form → List Event → Form → Type 0
StandsIn w [] now = now ≡ w
StandsIn w (e ∷ es) now =
    (now ≡ w) ⊎ (((step w e).spent ≡ None) × (length (packets_of (step w e).world) ≤ PACKETS)
    × StandsIn (step w e).world es now)
