use Rattle.std.proofs.Common.{sym, ◌∙◌}
use Rattle.fs_view.proofs.leases.taken.Goals as goal

pub taken_by-requires-clause-numbers : goal.taken_by-requires-clause-numbers
taken_by-requires-clause-numbers c = c.on.ensures ∙ c.requires.fields (sym c.is_whole.ensures ∙ c.if-is_whole.true) c.args.field.now
