use Rattle.std.proofs.Common.{◌≡◌, ◌++◌, drop}
use Rattle.std.specs.Prelude.{flat_map}
use Rattle.farsite.specs.Generated.{refused_by}
use Rattle.farsite.proofs.generated.add_refused.Given as goal

abbrev pub invariant-loop-note : goal.invariant-loop-note
invariant-loop-note l = l.numbers.items ++ flat_map refused_by (drop l.note-index l.notes) ≡ l.initial.numbers.items ++ flat_map refused_by l.notes
