use Rattle.std.proofs.Common.{sym, ◌∙◌}
use Rattle.fs_schedule.specs.Faults.{IsOutside, PassesLimit}
use Rattle.fs_schedule.proofs.ScriptLaws.{whole_fault, whole_fits, whole_script}
use Rattle.fs_schedule.proofs.scripts.read_script.Goals as goal

pub returns-else-is_empty-clause-ok : goal.returns-else-is_empty-clause-ok
returns-else-is_empty-clause-ok c = whole_script c.args.client c.args.servers c.args.bytes.now c.read_lines.result (sym c.is_empty.ensures ∙ c.if-is_empty.false) c.read_lines.ensures.ok

pub returns-else-is_empty-clause-fits : goal.returns-else-is_empty-clause-fits
returns-else-is_empty-clause-fits c = whole_fits c.args.client c.args.servers c.args.bytes.now c.read_lines.result c.read_lines.ensures.ok

pub returns-else-is_empty-clause-bad_line : goal.returns-else-is_empty-clause-bad_line
returns-else-is_empty-clause-bad_line c = λ line h. whole_fault c.args.client c.args.servers c.args.bytes.now IsOutside line (sym c.is_empty.ensures ∙ c.if-is_empty.false) (c.read_lines.ensures.bad_line line h)

pub returns-else-is_empty-clause-limit : goal.returns-else-is_empty-clause-limit
returns-else-is_empty-clause-limit c = λ which at h. whole_fault c.args.client c.args.servers c.args.bytes.now (PassesLimit which) at (sym c.is_empty.ensures ∙ c.if-is_empty.false) (c.read_lines.ensures.limit which at h)
