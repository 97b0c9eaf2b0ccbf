use Rattle.std.proofs.Common.{◌≡◌, drop}
use Rattle.std.specs.List.{list_all}
use Rattle.fs_map.specs.Lists.{tells_anew}
use Rattle.fs_map.proofs.piece.tell_anew.Given as goal

-- what is left answers for all
abbrev pub invariant-loop-place : goal.invariant-loop-place
invariant-loop-place l = list_all (tells_anew l.top l.given) (drop l.place-index l.given) ≡ list_all (tells_anew l.top l.given) l.given
