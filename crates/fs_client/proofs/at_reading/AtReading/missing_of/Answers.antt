use Rattle.std.proofs.Common.{not, sym, ap, ◌∙◌}
use Rattle.std.specs.List.{filter}
use Rattle.fs_view.specs.View.{known_by, given_by}
use Rattle.fs_view.specs.Walk.{is_there}
use Rattle.fs_view.proofs.Lapsed.{absent_pass}
use Rattle.fs_client.specs.declared.state.Client.{Client}
use Rattle.fs_client.proofs.at_reading.AtReading.missing_of.Goals as goal

pub returns : goal.returns
returns c =
    c.missing_of.ensures ∙ (sym (absent_pass c.self.inside.reading c.self.inside.client.now.view c.args.items) ∙ ap (λ (x : Client). filter (λ need. not (is_there (known_by x.view x.last) (given_by x.view x.last) need)) c.args.items) c.self.view_is)
