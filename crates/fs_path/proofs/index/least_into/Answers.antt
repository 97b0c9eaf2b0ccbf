use Rattle.std.proofs.Common.{rules, ◌≡◌, ◌∙◌, ap}
use Rattle.fs_path.specs.Index.{least_from}
use Rattle.fs_path.proofs.Least.{least_there}
use Rattle.fs_path.proofs.index.least_into.Goals as goal

pub loop-entry-init : goal.loop-entry-init
loop-entry-init c =
    let owners = c.args.map.now in
    let all : c.into_iter-entry-iterator.result ≡ c.range-entry-items.result = search rules in
    ap (least_from owners c.args.me c.args.prefix.now) (all ∙ c.range-entry-items.ensures.between tt)
    ∙ least_there owners c.args.me c.args.prefix.now c.args.by_file.now c.range-entry-items.ensures.ordered
