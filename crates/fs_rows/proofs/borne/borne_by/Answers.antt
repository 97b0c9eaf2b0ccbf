use Rattle.std.proofs.Common.{◌==◌, ◌∙◌, ℕ, List, ap}
use Rattle.std.specs.List.{filter, list_any}
use Rattle.std.specs.BTreeMap.{BTreeMap}
use Rattle.std.specs.FinMap.{entries}
use Rattle.fs_ident.specs.Maps.{map_of}
use Rattle.fs_field.specs.declared.row.Row.{Row}
use Rattle.fs_field.specs.Table.{is_live}
use Rattle.fs_rows.specs.declared.index.OnFile.{OnFile}
use Rattle.fs_rows.specs.Borne.{numbers_below}
use Rattle.fs_rows.proofs.Below.{told_below, told_ok}
use Rattle.fs_rows.proofs.borne.borne_by.Goals as goal

pub returns : goal.returns
returns c =
    let live : List Row = filter (is_live c.args.now c.args.skew) c.args.rows.now in
    told_ok c.numbers_below.result _ _ c.numbers_below.ensures (λ k.
    ap (λ (files : BTreeMap (List ℕ) OnFile). list_any (λ b. b == k) (numbers_below c.args.dir.now live (entries (map_of files)))) c.files.ensures
    ∙ told_below c.args.index.now c.args.rows.now (is_live c.args.now c.args.skew) c.requires.ordered c.requires.whole c.requires.index c.args.dir.now k)
