use Rattle.std.proofs.Common.{◌≡◌, ap, map, sym, ◌∙◌}
use Rattle.std.specs.Prelude.{flat_map}
use Rattle.std.specs.FinMap.{get}
use Rattle.std.proofs.lemmas.List.{take_all}
use Rattle.serde_json.specs.Data.{string}
use Rattle.fs_report.specs.Report.{file_lines}
use Rattle.fs_report.proofs.Lines.{map_in}
use Rattle.fs_report.proofs.space_values.space_values.Goals as goal

pub returns : goal.returns
returns c =
    c.loop-id.invariant
    ∙ ap (flat_map (λ id. map string (file_lines id (get c.args.s.now id)))) (take_all c.loop-id.id-index c.as_slice-id-items.result.now c.loop-id-test.false ∙ c.as_slice-id-items.ensures ∙ c.in_ok-files.ensures)
    ∙ sym (map_in string (λ id. file_lines id (get c.args.s.now id)) _)
