use Rattle.std.proofs.Common.{rules}
use Rattle.std.proofs.lemmas.Fn.{filter_same}
use Rattle.fs_field.specs.Table.{is_live}
use Rattle.fs_rows.proofs.grants.keep_live.Goals as goal

pub returns-clause-live : goal.returns-clause-live
returns-clause-live c = filter_same _ (is_live c.args.now c.args.skew) _ (λ x b f k. search rules) _ _ c.retain.ensures.filtered
