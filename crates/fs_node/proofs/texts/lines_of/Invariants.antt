use Rattle.std.proofs.Common.{◌≡◌, ◌++◌, take}
use Rattle.std.specs.Prelude.{flat_map}
use Rattle.fs_report.specs.Report.{item_text}
use Rattle.fs_node.proofs.texts.lines_of.Given as goal

abbrev pub invariant-loop-item : goal.invariant-loop-item
invariant-loop-item l = l.lines.items ≡ l.initial.lines.items ++ flat_map item_text (take l.item-index l.items)
