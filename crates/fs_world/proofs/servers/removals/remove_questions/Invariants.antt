use Rattle.std.proofs.Common.{◌≡◌, drop}
use Rattle.fs_world.specs.Served.{sessions_without_each}
use Rattle.fs_world.proofs.servers.removals.remove_questions.Given as goal

-- as many go yet as are left
abbrev pub invariant-loop : goal.invariant-loop
invariant-loop l = sessions_without_each l.k l.from (drop l.index l.gone) l.sessions ≡ sessions_without_each l.k l.from l.gone l.fn.sessions
