use Rattle.std.proofs.Common.{◌≡◌, drop}
use Rattle.fs_window.specs.Undo.{undone}
use Rattle.fs_actor.specs.Events.{server_so_far}
use Rattle.fs_actor.specs.Several.{server_hears_each}
use Rattle.fs_actor.proofs.server_each.server_hears_each.Given as goal

-- of what is left the same comes as of all, and what was pushed is undone so
abbrev pub invariant-loop-one : goal.invariant-loop-one
invariant-loop-one l = record {
  heard : server_hears_each l.now l.from (drop l.one-index l.joined) (server_so_far l.heard l.server l.post) ≡ server_hears_each l.now l.from l.joined (server_so_far l.fn.heard l.fn.server l.fn.post);
  undo : undone l.undo l.post ≡ undone l.fn.undo l.fn.post;
}
