use Rattle.std.proofs.Common.{refl, sym, ◌∙◌}
use Rattle.fs_server.proofs.Counting.{done_can, done_so}
use Rattle.fs_server.specs.declared.change.Change.TheVariants as change
use Rattle.fs_server.specs.declared.decide.Decided.{Decided}
use Rattle.fs_server.proofs.counts.done_of.Goals as goal

pub returns-clause-step : goal.returns-clause-step
returns-clause-step c = done_so c.args.x.now c.args.m.now c.args.at.now c.in_ok-out.out c.requires.ending (sym c.awaits.ensures ∙ c.if-not-awaits.false) c.in_ok-out.ensures

pub returns-clause-can : goal.returns-clause-can
returns-clause-can c =
    let d : Decided = record { change = change.Done c.args.m.now.txn c.args.m.now.number; out = c.in_ok-out.out } in
    done_can c.args.m.now.txn c.args.m.now.number c.args.at.now d c.requires.ready refl
