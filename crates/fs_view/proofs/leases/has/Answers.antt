use Rattle.std.proofs.Common.{ap, ◌∙◌, is_some}
use Rattle.fs_view.specs.ViewLease.{has_number}
use Rattle.fs_view.proofs.Finding.{has_place}
use Rattle.fs_view.proofs.leases.has.Goals as goal

pub returns : goal.returns
returns c = c.is_some.ensures ∙ ap is_some c.place.ensures.same ∙ has_place (has_number c.args.no) c.args.leases.now.kept.items
