use Rattle.std.proofs.Common.{◌≡◌, ◌++◌, ap, ◌∙◌, arith}
use Rattle.std.proofs.lemmas.Grind.{common_steps}
use Rattle.fs_field.specs.Table.{borne_numbers}
use Rattle.fs_record.specs.Fresh.{is_borne}
use Rattle.fs_server.proofs.Giving.{same_borne}
use Rattle.fs_server.proofs.fresh.borne.Goals as goal

pub returns : goal.returns
returns c k =
    let whole : c.loop-k.told ≡ c.in_ok-told.told ++ borne_numbers c.args.dir.now c.args.lent.now.rows = grind (arith, common_steps) in
    ap (λ told. is_borne told k) whole
    ∙ same_borne c.args.dir.now c.in_ok-told.told c.args.lent.now.rows c.args.at.now.rows k (λ j. c.in_ok-told.ensures j ∙ ap (λ rows. is_borne (borne_numbers c.args.dir.now rows) j) c.rows.ensures)
