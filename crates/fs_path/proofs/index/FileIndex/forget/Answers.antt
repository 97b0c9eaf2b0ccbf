use Rattle.std.proofs.Common.{subst, take}
use Rattle.fs_path.specs.Index.{ChangesAt, without_named}
use Rattle.fs_path.proofs.ByFile.{changes_more, gone_twice}
use Rattle.fs_path.proofs.Over.{forgets_rise}
use Rattle.fs_path.proofs.index.FileIndex.forget.Goals as goal

pub forget_at-requires : goal.forget_at-requires
forget_at-requires c = forgets_rise c.args.no (take c.loop-file.file-index c.args.files.now) c.args.self.now.files c.loop-file.self.files c.requires c.loop-file.invariant.files c.file-item.result

pub loop-file-preserved : goal.loop-file-preserved
loop-file-preserved c =
    let gone = subst (λ f. ChangesAt (without_named c.args.no) f c.loop-file.self.files c.forget_at.new.by_file) c.file-item.is c.forget_at.ensures in
    record {
      whole = c.loop-file.invariant.whole;
      files = changes_more (without_named c.args.no) (gone_twice c.args.no) c.args.files.now c.loop-file.file-index c.file-item.result c.args.self.now.files c.loop-file.self.files c.forget_at.new.by_file c.loop-file-test.true c.loop-file.invariant.files gone;
    }
