use Rattle.std.proofs.Common.{rules, ◌≡◌, ◌∙◌, ◌++◌, ℕ, List, ap}
use Rattle.std.specs.List.{filter}
use Rattle.fs_field.specs.declared.row.Row.{Row}
use Rattle.fs_field.specs.Table.{is_live}
use Rattle.fs_rows.specs.Borne.{numbers_from}
use Rattle.fs_rows.proofs.Below.{told_from}
use Rattle.fs_rows.proofs.borne.numbers_below.Goals as goal

pub loop-entry-init : goal.loop-entry-init
loop-entry-init c =
    let dir : List ℕ = c.args.dir.now in
    let live : List Row = filter (is_live c.args.now c.args.skew) c.args.rows.now in
    let all : c.into_iter-entry-iterator.result ≡ c.range-entry-items.result = search rules in
    ap (λ (told : List ℕ). told ++ numbers_from dir live c.into_iter-entry-iterator.result) c.new-told.ensures
    ∙ ap (numbers_from dir live) (all ∙ c.range-entry-items.ensures.between tt)
    ∙ told_from dir live c.args.files.now c.range-entry-items.ensures.ordered
