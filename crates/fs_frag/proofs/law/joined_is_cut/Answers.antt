use Rattle.fs_frag.proofs.Joins.{joins_all, whole_and_once, joined_so_far, never_over}
use Rattle.fs_frag.proofs.Pieces.{cut_in}
use Rattle.fs_frag.proofs.law.joined_is_cut.Goals as goal

pub returns-clause-segments : goal.returns-clause-segments
returns-clause-segments c = cut_in

pub returns-clause-whole_and_once : goal.returns-clause-whole_and_once
returns-clause-whole_and_once c = whole_and_once

pub returns-clause-at_the_last : goal.returns-clause-at_the_last
returns-clause-at_the_last c = joins_all

pub returns-clause-so_far : goal.returns-clause-so_far
returns-clause-so_far c = joined_so_far

pub returns-clause-never_over : goal.returns-clause-never_over
returns-clause-never_over c = never_over
