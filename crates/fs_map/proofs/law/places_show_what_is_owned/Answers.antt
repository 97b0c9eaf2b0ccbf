use Rattle.fs_map.proofs.Owned.{shown}
use Rattle.fs_map.proofs.law.places_show_what_is_owned.Goals as goal

pub returns : goal.returns
returns c owners me prefix given m p none = shown owners me prefix given m p none
