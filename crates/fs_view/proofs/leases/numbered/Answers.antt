use Rattle.std.proofs.Common.{sym, ◌∙◌}
use Rattle.fs_view.specs.ViewLease.{has_number}
use Rattle.fs_view.proofs.Finding.{none_found}
use Rattle.fs_view.proofs.Places.{found_there}
use Rattle.fs_view.proofs.leases.numbered.Goals as goal

pub returns-in-None : goal.returns-in-None
returns-in-None c = sym (none_found (has_number c.args.no) c.args.leases.now.kept.items (sym c.place.ensures.same ∙ c.in-None.is))

pub returns-in-Some : goal.returns-in-Some
returns-in-Some c = sym (found_there c.args.no c.args.leases.now.kept.items c.in-Some.at c.index.result.now (sym c.place.ensures.same ∙ c.in-Some.is) c.index.ensures)
