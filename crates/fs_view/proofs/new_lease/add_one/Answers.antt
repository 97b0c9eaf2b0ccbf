use Rattle.std.proofs.Common.{ap, ◌++◌, ◌∷◌, [], ◌∙◌}
use Rattle.indexmap.specs.IndexSet.{insert_key}
use Rattle.fs_view.specs.Index.{key_of}
use Rattle.fs_view.specs.View.{kept_new}
use Rattle.fs_view.proofs.Finding.{same_key}
use Rattle.fs_view.proofs.Found.{found_added}
use Rattle.fs_view.proofs.new_lease.add_one.Goals as goal

pub returns-clause-found : goal.returns-clause-found
returns-clause-found c =
    let items = c.in-Ok-push.ensures.items ∙ ap (λ k. c.args.leases.now.kept.items ++ k ∷ []) c.kept.ensures in
    let keys = c.in-Ok.ensures.keys ∙ ap (λ k. insert_key same_key c.args.leases.now.numbers.keys k) c.of.ensures in
    found_added c.args.lease c.args.leases.now.kept.items _ c.args.leases.now.numbers.keys _ c.args.leases.now.index _ c.args.leases.now.least _ c.requires.new keys c.add.ensures c.lesser-leases.ensures items c.requires.found
