use Rattle.std.proofs.Common.{sym, subst}
use Rattle.fs_model.specs.Namespace.{IsSpace}
use Rattle.fs_ident.specs.Maps.{map_of}
use Rattle.fs_ident.proofs.MapsOf.{map_of_empty}
use Rattle.fs_model.proofs.Spaces.{IsSpace-empty}
use Rattle.fs_model.proofs.WaysUp.{nothing_known}
use Rattle.fs_model.proofs.space.Space.empty.Goals as goal

pub invariant_of-result : goal.invariant_of-result
invariant_of-result c = (subst IsSpace (sym (map_of_empty c.new.result c.new.ensures.empty)) IsSpace-empty, nothing_known (map_of c.new.result) c.new-2.result c.new-2.ensures)

pub returns : goal.returns
returns c = map_of_empty c.new.result c.new.ensures.empty
