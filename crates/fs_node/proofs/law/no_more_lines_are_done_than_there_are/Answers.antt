use Rattle.std.proofs.Common.{arith}
use Rattle.fs_node.proofs.Waiting.{lines_suffice}
use Rattle.fs_node.proofs.law.no_more_lines_are_done_than_there_are.Goals as goal

pub returns : goal.returns
returns c = record { first = λ s term peers script. omega arith; turns = lines_suffice }
