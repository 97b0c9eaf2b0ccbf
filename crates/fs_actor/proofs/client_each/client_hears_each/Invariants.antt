use Rattle.std.proofs.Common.{◌≡◌, drop}
use Rattle.fs_window.specs.Undo.{undone}
use Rattle.fs_actor.specs.Events.{client_so_far}
use Rattle.fs_actor.specs.Several.{client_hears_each}
use Rattle.fs_actor.proofs.client_each.client_hears_each.Given as goal

-- of what is left the same comes as of all, and what was pushed is undone so
abbrev pub invariant-loop-one : goal.invariant-loop-one
invariant-loop-one l = record {
  heard : client_hears_each l.s l.now l.from (drop l.one-index l.joined) (client_so_far l.heard l.client l.post) ≡ client_hears_each l.s l.now l.from l.joined (client_so_far l.fn.heard l.fn.client l.fn.post);
  undo : undone l.undo l.post ≡ undone l.fn.undo l.fn.post;
}
