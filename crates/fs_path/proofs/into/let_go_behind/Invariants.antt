use Rattle.std.proofs.Common.{◌≡◌, ◌≤◌, ◌-◌, List, take, drop, length, true, vec_len}
use Rattle.fs_path.specs.Index.{AreRisingAt}
use Rattle.fs_path.specs.Into.{AreSomeOf, HasLeases, without_those}
use Rattle.fs_path.specs.Leases.{PathLease}
use Rattle.fs_path.proofs.into.let_go_behind.Given as goal

abbrev pub invariant-loop-held : goal.invariant-loop-held
invariant-loop-held l = record {
  within : l.front ≤ length l.held.items;
  held : l.held.items ≡ take (length l.held.items) l.fn.held.items;
  own : l.had.own.whole ≡ true → AreRisingAt l.had.own.files;
  via : l.had.via.whole ≡ true → AreRisingAt l.had.via.files;
  had : (ls : List PathLease) → AreSomeOf (drop l.front l.fn.held.items) ls → HasLeases l.fn.had ls → HasLeases l.had (without_those (drop (length l.held.items) l.fn.held.items) ls);
}

abbrev pub decreases-loop-held : goal.decreases-loop-held
decreases-loop-held l = vec_len l.held - l.front
