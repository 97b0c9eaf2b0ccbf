use Rattle.std.proofs.Common.{◌<◌, length, arith}
use Rattle.fs_path.specs.Tables.{leaving}
use Rattle.fs_path.proofs.Placing.{put_back, same_there}
use Rattle.fs_path.proofs.giving.leave_at.Goals as goal

pub returns-clause-set : goal.returns-clause-set
returns-clause-set c = λ h e.
    let within : c.args.at < length c.args.held.now.items = omega (arith, c.requires, c.args.held.now.ok) in
    let taken = same_there c.args.held.now.items c.args.at c.remove.result h within c.remove.ensures.value e in
    let back = put_back c.args.held.now.items c.args.at (leaving h) within in
    cc (c.in-Ok.ensures.items, c.remove.ensures.items, c.leave-h.ensures, taken, back)
