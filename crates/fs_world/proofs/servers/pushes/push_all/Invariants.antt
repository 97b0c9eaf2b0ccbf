use Rattle.std.proofs.Common.{◌≡◌, drop}
use Rattle.fs_window.specs.Undo.{undone}
use Rattle.fs_world.specs.Linked.{FitsDown}
use Rattle.fs_actor.specs.Actor.{is_full_down, with_pushed}
use Rattle.fs_world.proofs.servers.pushes.push_all.Given as goal

-- of the messages that are left the same comes as of all, and what was pushed is undone so
abbrev pub invariant-loop-sent : goal.invariant-loop-sent
invariant-loop-sent l = record {
  pushed : with_pushed (drop l.sent-index l.send) l.post ≡ with_pushed l.send l.fn.post;
  full : is_full_down (drop l.sent-index l.send) l.post ≡ is_full_down l.send l.fn.post;
  fits : FitsDown (drop l.sent-index l.send) → FitsDown l.send;
  undo : undone l.undo l.post ≡ undone l.fn.undo l.fn.post;
}
