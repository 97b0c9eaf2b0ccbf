use Rattle.std.proofs.Common.{ap, sym, ◌∙◌}
use Rattle.fs_txn.specs.Leading.{leading_of}
use Rattle.fs_server.proofs.Counting.{whole_found}
use Rattle.fs_server.proofs.counts.vote.Goals as goal

pub vote_of-requires-clause-whole : goal.vote_of-requires-clause-whole
vote_of-requires-clause-whole c =
    whole_found c.args.m.now.txn c.in-Some.l.now c.args.at.now c.requires (ap (leading_of c.args.m.now.txn) (sym c.leading.ensures) ∙ sym c.in-Some.ensures)
