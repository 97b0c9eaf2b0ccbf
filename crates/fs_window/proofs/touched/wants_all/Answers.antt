use Rattle.std.proofs.Common.{ℕ, List, ap, ◌∙◌}
use Rattle.fs_window.specs.Touched.{has_place}
use Rattle.fs_window.proofs.Settled.{rest_silent, affirmed}
use Rattle.fs_window.proofs.touched.wants_all.Goals as goal

pub returns : goal.returns
returns c = λ me h.
    rw c.if-turn.false
    (rest_silent me c.args.heard c.args.touched.now.places c.args.links.now
    (λ i e found none. c.has_heard.ensures (affirmed c.has_heard.result h) i e found (ap (λ (ps : List ℕ). has_place i ps) c.as_slice.ensures ∙ none))
    (c.requires.settled c.if-touched.false))
