use Rattle.std.proofs.Common.{◌∙◌, sym}
use Rattle.fs_window.proofs.Settled.{others_unheard}
use Rattle.fs_window.proofs.touched.has_heard.Goals as goal

pub returns-in-Ok : goal.returns-in-Ok
returns-in-Ok c = λ has i e found none.
    rw c.in-Some.is (others_unheard c.args.links.now c.args.places.now c.in-Some.peer c.in-Ok.at c.requires c.in-Ok.ensures.found (sym c.has_place.ensures ∙ has) i e found none)
