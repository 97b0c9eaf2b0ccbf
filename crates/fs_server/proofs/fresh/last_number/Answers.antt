use Rattle.std.proofs.Common.{◌≡◌, [], ◌∷◌, ◌++◌, ap, sym, ◌∙◌}
use Rattle.fs_field.specs.Table.{last_number}
use Rattle.fs_server.proofs.Ends.{last_number-append}
use Rattle.fs_server.proofs.fresh.last_number.Goals as goal

pub returns-in-Some : goal.returns-in-Some
returns-in-Some c =
    let whole : c.args.id.now ≡ c.in-Some.field-0-1.now ++ c.in-Some.k.now ∷ [] = sym c.numbers.ensures.same ∙ c.in-Some.ensures.cases.0 in
    sym (ap last_number whole ∙ last_number-append c.in-Some.field-0-1.now c.in-Some.k.now)
