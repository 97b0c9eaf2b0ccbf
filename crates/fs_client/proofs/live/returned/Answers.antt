use Rattle.std.proofs.Common.{map, sym, ap, ◌∙◌}
use Rattle.fs_view.specs.declared.view_lease.ViewLease.{ViewLease}
use Rattle.fs_view.proofs.Lapsed.{filter_live}
use Rattle.fs_client.specs.Live.{is_returned}
use Rattle.fs_client.specs.Turns.{has_to_go, pair_of}
use Rattle.fs_client.proofs.Chosen.{chosen_end}
use Rattle.fs_client.proofs.live.returned.Goals as goal

pub returns : goal.returns
returns c =
    chosen_end (is_returned c.args.reading) c.args.leases.now c.loop-kept.kept-index c.loop-kept.pairs _ c.loop-kept-test.false c.loop-kept.invariant
    ∙ ap (map pair_of) (sym (filter_live c.args.reading (λ (k : ViewLease). has_to_go k.recalled k.standing) c.args.leases.now))
