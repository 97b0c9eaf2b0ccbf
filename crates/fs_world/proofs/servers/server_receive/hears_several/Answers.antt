use Rattle.std.proofs.Common.{ap, ◌∙◌}
use Rattle.std.specs.Prelude.{Ok}
use Rattle.fs_server.specs.declared.state.Server.{Server as Core}
use Rattle.fs_world.specs.Calls.{server_left}
use Rattle.fs_world.specs.Served.{ServerStepped, server_found}
use Rattle.fs_world.proofs.AtHearing.{fits_alike, heard_each, run_alike, several_left}
use Rattle.fs_world.proofs.HeardCalls.{spends_so}
use Rattle.fs_world.proofs.servers.server_receive.hears_several.Goals as goal

pub returns-in-Ok-clause-done : goal.returns-in-Ok-clause-done
returns-in-Ok-clause-done c =
    let a = c.args in
    let n = c.replies.new in
    let x : ServerStepped = server_found a.core.now a.post.now a.sessions.now a.in_flight.now a.journal.now a.packets.now in
    let ran = run_alike a.now a.k a.from a.replied _ a.heard.now.joined _ x c.in-Ok.outcome n.core n.post n.sessions n.in_flight n.journal
    n.packets c.as_slice-joined.ensures c.in_ok-after.ensures c.in-Ok.ensures.done in
    ap (λ (y : Core). server_left c.in-Ok.outcome y n.post n.sessions n.in_flight n.journal n.packets) c.replace.ensures.after
    ∙ several_left a.now a.k a.from a.replied a.heard.now x c.in-Ok.outcome n.core n.post n.sessions n.in_flight n.journal n.packets
    c.requires.several ran

pub returns-in-Ok-clause-fits : goal.returns-in-Ok-clause-fits
returns-in-Ok-clause-fits c =
    let a = c.args in
    let n = c.replies.new in
    let x : ServerStepped = server_found a.core.now a.post.now a.sessions.now a.in_flight.now a.journal.now a.packets.now in
    let ran = run_alike a.now a.k a.from a.replied _ a.heard.now.joined _ x c.in-Ok.outcome n.core n.post n.sessions n.in_flight n.journal
    n.packets c.as_slice-joined.ensures c.in_ok-after.ensures c.in-Ok.ensures.done in
    (fits_alike a.now a.from _ a.heard.now.joined _ x c.as_slice-joined.ensures c.in_ok-after.ensures c.in-Ok.ensures.fits, ran.unspent)

pub returns-in-Ok-clause-spends : goal.returns-in-Ok-clause-spends
returns-in-Ok-clause-spends c =
    let a = c.args in
    let n = c.replies.new in
    let x : ServerStepped = server_found a.core.now a.post.now a.sessions.now a.in_flight.now a.journal.now a.packets.now in
    let ran = run_alike a.now a.k a.from a.replied _ a.heard.now.joined _ x c.in-Ok.outcome n.core n.post n.sessions n.in_flight n.journal
    n.packets c.as_slice-joined.ensures c.in_ok-after.ensures c.in-Ok.ensures.done in
    spends_so (Ok c.in-Ok.outcome) _ (λ counter e. absurd (cc))
    (ap (λ (y : ServerStepped). y.spent) (heard_each a.now a.k a.from a.replied a.heard.now x c.requires.several) ∙ ran.unspent)
