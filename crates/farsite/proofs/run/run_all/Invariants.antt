use Rattle.std.proofs.Common.{◌≡◌, ◌+◌, drop}
use Rattle.fs_world.specs.Carried.{AllCarry}
use Rattle.fs_world.specs.Refusals.{NoneHas, is_link_strange}
use Rattle.fs_world.specs.World.{run_on, stop_in}
use Rattle.fs_world.specs.declared.form.Form.{Form}
use Rattle.farsite.specs.Fitting.{MayHappen}
use Rattle.farsite.specs.Stopping.{StandsIn}
use Rattle.farsite.proofs.run.run_all.Given as goal

abbrev pub invariant-loop-at : goal.invariant-loop-at
invariant-loop-at l = record {
  so_far : run_on (record { world = l.world; outcomes = l.outcomes }) (drop l.at l.events) ≡ run_on (record { world = l.initial.world; outcomes = l.initial.outcomes }) l.events;
  stop : stop_in l.world (l.at + 2) (drop l.at l.events) ≡ stop_in l.initial.world 2 l.events;
  fits : MayHappen l.world (drop l.at l.events);
  carried : AllCarry l.world (drop l.at l.events) → AllCarry l.initial.world l.events;
  stands : (now : Form) → StandsIn l.world (drop l.at l.events) now → StandsIn l.initial.world l.events now;
  known : NoneHas is_link_strange l.initial.outcomes → NoneHas is_link_strange l.outcomes;
}
