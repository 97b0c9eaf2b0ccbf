use Rattle.std.proofs.Common.{ap, ◌∙◌}
use Rattle.std.specs.List.{list_any}
use Rattle.fs_view.specs.ViewLease.{has_number}
use Rattle.fs_client.specs.declared.state.Client.{Client}
use Rattle.fs_client.proofs.at_reading.AtReading.has.Goals as goal

pub returns : goal.returns
returns c = c.has_at.ensures ∙ ap (λ (x : Client). list_any (has_number c.args.no) x.view.leases) c.self.view_is
