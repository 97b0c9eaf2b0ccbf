use Rattle.std.proofs.Common.{◌≡◌, ◌++◌, map, take}
use Rattle.serde_json.specs.Data.{string}
use Rattle.serde_json.specs.View.{view}
use Rattle.fs_report.specs.Report.{handle_line}
use Rattle.fs_report.proofs.space_values.add_file.Given as goal

abbrev pub invariant-loop-handle : goal.invariant-loop-handle
invariant-loop-handle l = map view l.values.items ≡ map view l.initial.values.items ++ map (λ x. string (handle_line l.id x)) (take l.handle-index l.handle-items)
