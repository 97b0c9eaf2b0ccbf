use Rattle.std.proofs.Common.{◌∙◌, sym}
use Rattle.fs_ident.proofs.MapsOf.{map_of_len}
use Rattle.fs_model.proofs.lookups.count.Goals as goal

pub returns : goal.returns
returns c = c.len.ensures.len ∙ sym (map_of_len _ c.len.ensures.ordered)
