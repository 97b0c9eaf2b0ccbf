use Rattle.std.proofs.Common.{◌≡◌, ◌++◌, true, take, flat_map}
use Rattle.std.specs.List.{AllByRecursion, list_all}
use Rattle.fs_wire.proofs.lists.put_each.Given as goal

abbrev pub invariant-loop-x : goal.invariant-loop-x
invariant-loop-x g l = record {
  text : l.out.items ≡ l.initial.out.items ++ flat_map g.T.Wire.text (take l.x-index l.items);
  fits : list_all g.T.Wire.readable (take l.x-index l.items) ≡ true → AllByRecursion g.T.Wire.fits (take l.x-index l.items);
}
