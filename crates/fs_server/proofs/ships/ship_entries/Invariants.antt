use Rattle.std.proofs.Common.{◌≡◌, true, [], drop}
use Rattle.std.specs.List.{list_all}
use Rattle.fs_msg.specs.declared.entry.Entry.{Entry}
use Rattle.fs_record.specs.Applied.{is_undoable}
use Rattle.fs_record.specs.Effects.{tells_its_effects}
use Rattle.fs_server.specs.declared.change.Change.TheVariants.{Admit}
use Rattle.fs_server.specs.Plan.{changed}
use Rattle.fs_server.specs.Ships.{ship_from}
use Rattle.fs_server.proofs.ships.ship_entries.Given as goal

abbrev pub invariant-loop-i : goal.invariant-loop-i
invariant-loop-i l = record {
  shipped : ship_from l.by (drop l.i l.entries) (changed (Admit l.taken.effects) l.at) l.taken.admitted ≡ ship_from l.by l.entries l.at [];
  undoable : list_all is_undoable l.taken.effects ≡ true;
  tell : list_all (λ (e : Entry). tells_its_effects e.op) (drop l.i l.entries) ≡ true;
}
