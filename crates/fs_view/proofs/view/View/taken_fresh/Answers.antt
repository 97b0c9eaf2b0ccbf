use Rattle.std.proofs.Common.{◌∙◌}
use Rattle.fs_view.proofs.Offering.{taken_for_none, taken_off_field, taken_on_field}
use Rattle.fs_view.proofs.view.View.taken_fresh.Goals as goal

pub returns-in-None : goal.returns-in-None
returns-in-None c = taken_for_none c.args.self.now c.args.now c.args.dir.now c.in-None.ensures

pub returns-in-None-field : goal.returns-in-None-field
returns-in-None-field c = taken_off_field c.args.self.now c.args.now c.args.dir.now c.in-Some.kept.now c.in-Some.ensures c.in-None-field.ensures

pub returns-in-Some-field : goal.returns-in-Some-field
returns-in-Some-field c = c.taken.ensures ∙ taken_on_field c.args.self.now c.args.now c.args.dir.now c.in-Some.kept.now c.in-Some-field.field.now c.in-Some.ensures c.in-Some-field.ensures
