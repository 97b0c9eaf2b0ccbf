use Rattle.std.proofs.Common.{sym}
use Rattle.fs_map.proofs.Merging.{empty, only_old, only_new, lesser, alike, greater}
use Rattle.fs_map.proofs.change.next_place.Goals as goal

pub returns-in_default-clause-next : goal.returns-in_default-clause-next
returns-in_default-clause-next g c = only_new _ _ c.in-Some-split_first.n.now _ (empty _ c.in_default.ensures.cases) c.in-Some-split_first.ensures.cases.0 c.requires.new

pub returns-in_default-split_first-2-clause-next : goal.returns-in_default-split_first-2-clause-next
returns-in_default-split_first-2-clause-next g c = only_old _ _ c.in-Some.o.now _ c.in-Some.ensures.cases.0 (empty _ c.in_default-split_first-2.ensures.cases) c.requires.old

pub returns-in-Less-clause-next : goal.returns-in-Less-clause-next
returns-in-Less-clause-next g c = lesser _ _ c.in-Some.o.now _ c.in-Some-split_first-2.n.now _ c.in-Some.ensures.cases.0 c.in-Some-split_first-2.ensures.cases.0 c.requires.old c.requires.new (sym c.in-Less.ensures)

pub returns-in-Equal-clause-next : goal.returns-in-Equal-clause-next
returns-in-Equal-clause-next g c = alike _ _ c.in-Some.o.now _ c.in-Some-split_first-2.n.now _ c.in-Some.ensures.cases.0 c.in-Some-split_first-2.ensures.cases.0 c.requires.old c.requires.new (sym c.in-Equal.ensures)

pub returns-in-Greater-clause-next : goal.returns-in-Greater-clause-next
returns-in-Greater-clause-next g c = greater _ _ c.in-Some.o.now _ c.in-Some-split_first-2.n.now _ c.in-Some.ensures.cases.0 c.in-Some-split_first-2.ensures.cases.0 c.requires.old c.requires.new (sym c.in-Greater.ensures)
