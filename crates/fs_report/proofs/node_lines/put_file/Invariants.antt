use Rattle.std.proofs.Common.{◌≡◌, ◌++◌, take}
use Rattle.std.specs.Prelude.{flat_map}
use Rattle.fs_report.specs.Report.{ended, handle_line}
use Rattle.fs_report.proofs.node_lines.put_file.Given as goal

abbrev pub invariant-loop-handle : goal.invariant-loop-handle
invariant-loop-handle l = l.out.items ≡ l.initial.out.items ++ flat_map (λ x. ended (handle_line l.id x)) (take l.handle-index l.handle-items)
