use Rattle.std.proofs.Common.{◌≡◌, ◌-◌, true, Some}
use Rattle.std.specs.Prelude.{is_some}
use Rattle.std.specs.FinMap as map
use Rattle.fs_model.specs.Ancestors.{is_on_chain}
use Rattle.fs_model.specs.Ways.{file_at, AreSole, AreTrue}
use Rattle.fs_ident.specs.Maps.{map_of}
use Rattle.fs_model.proofs.Chains.{reaches_from}
use Rattle.fs_model.proofs.chain.is_on_chain.Given as goal

abbrev pub invariant-loop-step : goal.invariant-loop-step
invariant-loop-step l =
    (is_on_chain (map_of l.nodes) l.file l.dir ≡ reaches_from (map.len (map_of l.nodes) - l.step) (map_of l.nodes) l.file (file_at l.ways l.at))
    × (is_some (file_at l.ways l.at) ≡ true)
    × (file_at l.ways l.goal ≡ Some l.file)
    × AreSole l.ways
    × AreTrue (map_of l.nodes) l.ways
