use Rattle.std.proofs.Common.{◌≡◌, drop}
use Rattle.fs_record.specs.Records.{nodes_of}
use Rattle.fs_serial.specs.Joined.{with_nodes}
use Rattle.fs_serial.proofs.space.take_records.Given as goal

-- with the nodes of the files that are left, it is as it will be
abbrev pub invariant-loop-file : goal.invariant-loop-file
invariant-loop-file l =
    with_nodes l.records (drop l.file-index l.file-items) (nodes_of l.all) ≡ with_nodes l.records l.file-items (nodes_of l.initial.all)
