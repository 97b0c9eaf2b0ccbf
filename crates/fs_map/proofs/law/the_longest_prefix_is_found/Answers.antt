use Rattle.std.proofs.Common.{[], refl}
use Rattle.fs_map.proofs.Longest.{longest_below}
use Rattle.fs_map.proofs.law.the_longest_prefix_is_found.Goals as goal

pub returns-clause-map : goal.returns-clause-map
returns-clause-map c owners id m = longest_below [] owners id m refl

pub returns-clause-piece : goal.returns-clause-piece
returns-clause-piece c prefix id given p t = longest_below prefix given id p t
