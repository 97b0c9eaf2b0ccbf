use Rattle.fs_world.specs.Calls.{server_left}
use Rattle.fs_world.specs.Served.{server_found}
use Rattle.std.proofs.Common.{ap, ◌∙◌}
use Rattle.fs_frag.specs.declared.joined.Joined.{Joined}
use Rattle.std.specs.Prelude.{List}
use Rattle.fs_world.specs.Served.{flying_without_each, sessions_without_each}
use Rattle.fs_world.proofs.AtHearing.{gone_after}
use Rattle.fs_world.proofs.servers.server_receive.server_hears.Goals as goal

pub returns-clause-done : goal.returns-clause-done
returns-clause-done c =
    let a = c.args in
    let n = c.hears_all.new in
    let x = server_found a.core.now a.post.now a.sessions.now a.in_flight.now a.journal.now a.packets.now in
    let y = server_left c.in_ok-outcome.outcome n.core n.post n.sessions n.in_flight n.journal n.packets in
    let r = c.remove_joined in
    gone_after a.now a.k a.from a.replied a.heard.now x y r.new.sessions r.new.in_flight c.requires.apart c.in_ok-outcome.ensures.done
    (r.ensures.sessions ∙ ap (λ (js : List Joined). sessions_without_each a.k a.from js n.sessions) c.as_slice.ensures)
    (r.ensures.in_flight ∙ ap (λ (js : List Joined). flying_without_each a.k a.from js n.in_flight) c.as_slice.ensures)
