use Rattle.std.proofs.Common.{◌≡◌, ◌&&◌, ◌||◌, ap, ◌∙◌}
use Rattle.std.proofs.Math.Bool.{and_comm, or_comm}
use Rattle.fs_modes.specs.Modes.{opposing, is_denied}
use Rattle.fs_modes.specs.declared.modes.Modes.{Modes}
use Rattle.fs_modes.proofs.law.conflicts_are_mutual.Goals as goal

-- an access that is denied is, with both exchanged, a denial that meets an access
exchanged : (a b : Modes) → is_denied a b ≡ is_denied (opposing b) (opposing a)
exchanged a b =
    ap (λ x. (x || (a.acc_w && b.deny_w)) || (a.acc_d && b.deny_d)) (and_comm a.acc_r b.deny_r)
    ∙ ap (λ x. ((b.deny_r && a.acc_r) || x) || (a.acc_d && b.deny_d)) (and_comm a.acc_w b.deny_w)
    ∙ ap (λ x. ((b.deny_r && a.acc_r) || (b.deny_w && a.acc_w)) || x) (and_comm a.acc_d b.deny_d)

pub returns-clause-opposed : goal.returns-clause-opposed
returns-clause-opposed c a b =
    ap (λ x. x || is_denied b a) (exchanged a b)
    ∙ ap (λ x. is_denied (opposing b) (opposing a) || x) (exchanged b a)
    ∙ or_comm (is_denied (opposing b) (opposing a)) (is_denied (opposing a) (opposing b))
