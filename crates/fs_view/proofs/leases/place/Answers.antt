use Rattle.std.proofs.Common.{sym, ap, ◌∙◌}
use Rattle.std.specs.List.{position}
use Rattle.fs_view.specs.Index.{key_of}
use Rattle.fs_view.proofs.Finding.{keyed, same_key, within_some}
use Rattle.fs_view.proofs.leases.place.Goals as goal

pub returns-clause-same : goal.returns-clause-same
returns-clause-same c =
    c.get_index_of.ensures.index
    ∙ ap (λ k. position (same_key k) c.args.leases.now.numbers.keys) c.of.ensures
    ∙ ap (position (same_key (key_of c.args.no))) c.requires.numbers
    ∙ keyed c.args.no c.args.leases.now.kept.items

pub returns-clause-within : goal.returns-clause-within
returns-clause-within c = within_some _ c.args.leases.now.kept.items c.get_index_of.result (returns-clause-same c)
