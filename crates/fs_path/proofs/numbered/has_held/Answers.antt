use Rattle.fs_path.specs.Index.{is_numbered, no_of_held}
use Rattle.fs_path.proofs.Rising.{placed_any}
use Rattle.fs_path.proofs.numbered.has_held.Goals as goal

pub returns-in-Some : goal.returns-in-Some
returns-in-Some c = placed_any (is_numbered no_of_held c.args.no) c.args.held.now _ c.in-Some.ensures

pub returns-in-None : goal.returns-in-None
returns-in-None c = placed_any (is_numbered no_of_held c.args.no) c.args.held.now _ c.in-None.ensures
