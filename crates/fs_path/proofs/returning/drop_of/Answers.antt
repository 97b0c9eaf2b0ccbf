use Rattle.std.proofs.Common.{◌∙◌}
use Rattle.fs_path.proofs.Freed.{gone_of, none_of}
use Rattle.fs_path.proofs.Own.{own_rises}
use Rattle.fs_path.proofs.returning.drop_of.Goals as goal

pub place_of_held-requires : goal.place_of_held-requires
place_of_held-requires c = rw c.deref.ensures.value (own_rises c.args.had.now.own c.args.held.now.items c.requires.had.0 c.requires.whole)

pub returns-in-Some-clause-held : goal.returns-in-Some-clause-held
returns-in-Some-clause-held c =
    c.drop_held.ensures.held
    ∙ gone_of c.args.no c.args.held.now.items c.in-Some.at (own_rises c.args.had.now.own c.args.held.now.items c.requires.had.0 c.requires.whole) (rw c.deref.ensures.value at c.in-Some.ensures)

pub returns-in-None-clause-held : goal.returns-in-None-clause-held
returns-in-None-clause-held c = none_of c.args.no c.args.held.now.items (rw c.deref.ensures.value at c.in-None.ensures)
