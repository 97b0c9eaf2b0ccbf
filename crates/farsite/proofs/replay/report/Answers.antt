use Rattle.std.proofs.Common.{◌∙◌, length}
use Rattle.std.specs.FinMap.{len}
use Rattle.fs_report.specs.Report.{outcomes_text, items_text, space_text}
use Rattle.farsite.proofs.Done.{parts_joined, last_line}
use Rattle.farsite.proofs.replay.report.Goals as goal

pub returns : goal.returns
returns c =
    parts_joined c.new-report.result.items _ _ _ _ _ _ _ _ c.new-report.ensures.items c.in_ok-write_outcomes.ensures c.in_ok-items.ensures c.in_ok-space_lines.ensures.ok c.in_ok-done_line.ensures.ok
    ∙ last_line (outcomes_text 1 c.args.outcomes.now) (items_text 1 c.args.journal.now) (space_text c.args.space.now) c.len-events.result c.len-admitted.result c.len-nodes.result
    (length c.args.outcomes.now) (length c.args.journal.now) (len c.args.space.now) c.len-events.ensures c.len-admitted.ensures c.len-nodes.ensures
