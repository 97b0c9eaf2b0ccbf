use Rattle.std.proofs.Common.{◌≡◌, drop}
use Rattle.fs_record.specs.Records.{nodes_of}
use Rattle.fs_serial.specs.Joined.{with_nodes_in}
use Rattle.fs_serial.proofs.space.take_all.Given as goal

-- with the nodes of the files that are left, it is as it will be
abbrev pub invariant-loop-entry : goal.invariant-loop-entry
invariant-loop-entry l = with_nodes_in (drop l.entry-index l.records) (nodes_of l.all) ≡ with_nodes_in l.records (nodes_of l.initial.all)
