use Rattle.std.specs.Prelude.{Some}
use Rattle.std.proofs.Common.{◌∙◌, ap}
use Rattle.fs_ident.specs.Maps.{map_of}
use Rattle.fs_model.specs.Ways.{file_at, with_up}
use Rattle.fs_model.proofs.WaysUp.{placed_with_up, files_with_up, true_with_up}
use Rattle.fs_model.proofs.ways.Ways.learn.Goals as goal

pub invariant_of-self : goal.invariant_of-self
invariant_of-self c = placed_with_up (map_of c.self.inside.places) c.self.inside.ways c.set_up.new.ways c.args.at (Some c.args.up) c.set_up.ensures c.self.invariant

pub returns-clause-files : goal.returns-clause-files
returns-clause-files c j = ap (λ ways. file_at ways j) c.set_up.ensures ∙ files_with_up c.self.inside.ways c.args.at (Some c.args.up) j ∙ ap (λ ways. file_at ways j) c.self.view_is

pub returns-clause-so : goal.returns-clause-so
returns-clause-so c = true_with_up c.args.self.now c.set_up.new.ways c.args.at c.args.up (c.set_up.ensures ∙ ap (λ ways. with_up ways c.args.at (Some c.args.up)) c.self.view_is) c.requires.at c.requires.up
