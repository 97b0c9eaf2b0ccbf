use Rattle.std.proofs.Common.{subst, take}
use Rattle.fs_path.specs.Index.{AddsUnmet}
use Rattle.fs_path.specs.Walk.{is_among}
use Rattle.fs_path.proofs.ByFile.{adds_more}
use Rattle.fs_path.proofs.index.add_all.Goals as goal

pub loop-at-preserved : goal.loop-at-preserved
loop-at-preserved c =
    let added = subst (λ f. AddsUnmet c.args.name (is_among f (take c.loop-at.at c.args.files.now)) f c.loop-at.by_file c.add_unmet.new.by_file) c.index-files-at.is c.in_ok-add_unmet.ensures in
    adds_more c.args.name c.args.files.now c.loop-at.at c.index-files-at.result c.args.by_file.now c.loop-at.by_file c.add_unmet.new.by_file c.loop-at-test.true c.loop-at.invariant added
