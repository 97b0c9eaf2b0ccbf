use Rattle.std.proofs.Common.{subst, sym}
use Rattle.fs_path.specs.Asked.{asks}
use Rattle.fs_path.specs.Index.{IsHad}
use Rattle.fs_path.proofs.Own.{still_had}
use Rattle.fs_path.proofs.giving.give_back.Goals as goal

pub returns-clause-had : goal.returns-clause-had
returns-clause-had c = subst (λ hs. IsHad c.let_go.new.had hs) (sym c.leave_all.ensures) (still_had (asks c.args.asked.now) c.let_go.new.held.items c.let_go.new.had c.let_go.ensures.had)
