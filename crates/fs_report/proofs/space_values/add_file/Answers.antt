use Rattle.std.proofs.Common.{◌≡◌, ℕ, List, [], ◌∷◌, ◌++◌, ap, map, ◌∙◌}
use Rattle.serde_json.specs.Data.{string}
use Rattle.serde_json.specs.View.{view}
use Rattle.fs_report.proofs.Lines.{values_stand}
use Rattle.fs_report.proofs.space_values.add_file.Goals as goal

pub returns : goal.returns
returns c =
    values_stand c.args.id.now c.args.node.now c.as_slice-handle-items.result.now (map view c.args.values.now.items) (map view c.add_text.new.values.items) (map view c.loop-handle.values.items) c.loop-handle.handle-index
    c.as_slice-handle-items.ensures (c.in_ok-add_text.ensures ∙ ap (λ (b : List ℕ). map view c.args.values.now.items ++ string b ∷ []) c.in_ok-line.ensures) c.loop-handle.invariant c.loop-handle-test.false
