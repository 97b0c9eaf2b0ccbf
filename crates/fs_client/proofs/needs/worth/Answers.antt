use Rattle.std.proofs.Common.{not, rules, ap, ◌∙◌}
use Rattle.std.specs.List.{filter}
use Rattle.std.proofs.lemmas.Fn.{filter_same}
use Rattle.fs_client.specs.Acts.{is_futile}
use Rattle.fs_client.proofs.needs.worth.Goals as goal

pub returns : goal.returns
returns c = c.from_vec.ensures ∙ (filter_same _ _ _ (λ x b f' k. search rules) _ _ c.retain.ensures.filtered ∙ ap (filter (λ n. not (is_futile c.args.full.now n))) c.into_vec-needs.ensures)
