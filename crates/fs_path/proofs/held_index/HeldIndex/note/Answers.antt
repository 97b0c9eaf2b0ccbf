use Rattle.std.proofs.Common.{subst}
use Rattle.fs_path.specs.Index.{IsNoted}
use Rattle.fs_path.proofs.held_index.HeldIndex.note.Goals as goal

pub returns-clause-own : goal.returns-clause-own
returns-clause-own c = subst (λ files. IsNoted c.args.is_new c.args.name files c.args.self.now.own c.note.new.self) c.from_ref.ensures.value c.note.ensures
