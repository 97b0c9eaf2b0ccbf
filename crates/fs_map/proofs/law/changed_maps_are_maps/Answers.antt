use Rattle.fs_map.proofs.Owned.{taken_map, piece_piece}
use Rattle.fs_map.proofs.law.changed_maps_are_maps.Goals as goal

pub returns-clause-taken : goal.returns-clause-taken
returns-clause-taken c owners me prefix given m p = taken_map owners me prefix given p

pub returns-clause-given : goal.returns-clause-given
returns-clause-given c owners me prefix m mine = piece_piece owners me prefix mine
