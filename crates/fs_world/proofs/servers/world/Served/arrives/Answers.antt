use Rattle.std.specs.Prelude.{Some}
use Rattle.fs_world.specs.Served.{arrives}
use Rattle.fs_world.proofs.Arrivals.{all_stay, arrives_stays}
use Rattle.fs_world.proofs.servers.world.Served.arrives.Goals as goal

pub returns-in-Some-clause-kept : goal.returns-in-Some-clause-kept
returns-in-Some-clause-kept c =
    let w = c.args.self.now in
    let o = Some c.in-Some.p in
    all_stay c.comes.result w c.comes.new.self (arrives c.args.now c.args.from c.args.to o w)
    (arrives_stays c.args.now c.args.from c.args.to o w) c.comes.ensures.done
