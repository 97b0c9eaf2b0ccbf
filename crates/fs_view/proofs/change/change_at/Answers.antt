use Rattle.std.proofs.Common.{◌≡◌, true, sym, ap, ◌∙◌}
use Rattle.fs_view.specs.ViewLease.{has_number}
use Rattle.fs_view.specs.Change.{changed, fits}
use Rattle.fs_view.proofs.Places.{none_at, none_changed, found_there, changed_there, fits_there}
use Rattle.fs_view.proofs.Found.{found_changed}
use Rattle.fs_view.proofs.change.change_at.Goals as goal

pub returns-in_default-clause-changed : goal.returns-in_default-clause-changed
returns-in_default-clause-changed c =
    sym (none_changed c.args.no (changed c.args.change) c.args.leases.now.kept.items (none_at (has_number c.args.no) c.args.leases.now.kept.items (sym c.place.ensures.same ∙ c.in_default.is)))

pub changed-kept-requires : goal.changed-kept-requires
changed-kept-requires c =
    let there = sym c.place.ensures.same ∙ c.in-Some.is in
    fits_there (λ k. fits c.args.change k.standing ≡ true) _ c.remove.result (found_there c.args.no c.args.leases.now.kept.items c.in-Some.at c.remove.result there c.remove.ensures.value) c.requires.fits

pub returns-clause-changed : goal.returns-clause-changed
returns-clause-changed c =
    let there = sym c.place.ensures.same ∙ c.in-Some.is in
    let e = changed_there c.args.no (changed c.args.change) c.args.leases.now.kept.items c.in-Some.at c.remove.result there c.requires.found.distinct c.remove.ensures.value in
    let put = c.in-Ok.ensures.items in
    cc (e, put, c.remove.ensures.items, c.changed-kept.ensures)

pub returns-clause-found : goal.returns-clause-found
returns-clause-found c =
    let there = sym c.place.ensures.same ∙ c.in-Some.is in
    found_changed c.args.no c.args.change c.args.leases.now.kept.items _ _ c.args.leases.now.index _ c.args.leases.now.least _ c.in-Some.at c.index.result.now there c.index.ensures c.note_change.ensures c.least_with-leases.ensures (returns-clause-changed c) c.requires.found
