use Rattle.std.proofs.Common.{◌≡◌, true, not, refl, sym, ap, ◌∙◌}
use Rattle.std.specs.List.{position}
use Rattle.fs_view.specs.ViewLease.{has_number, is_leaving}
use Rattle.fs_view.proofs.Places.{none_at, none_removed, removed_there, found_there, fits_there}
use Rattle.fs_view.proofs.Finding.{within}
use Rattle.fs_view.proofs.Found.{found_gone, leaving_free, leaving_off}
use Rattle.fs_view.proofs.change.release.Goals as goal

pub returns-in_default : goal.returns-in_default
returns-in_default c =
    let none = sym c.place.ensures.same ∙ c.in_default.is in
    record {
      others = sym (none_removed c.args.no c.args.leases.now.kept.items (none_at (has_number c.args.no) c.args.leases.now.kept.items none));
      found = c.requires.found;
    }

pub returns-in-Some : goal.returns-in-Some
returns-in-Some c =
    let there = sym c.place.ensures.same ∙ c.in-Some.is in
    let leaving = fits_there (λ k. is_leaving k.standing ≡ true) _ c.remove.result (found_there c.args.no c.args.leases.now.kept.items c.in-Some.at c.remove.result there c.remove.ensures.value) c.requires.leaving in
    record {
      others = c.remove.ensures.items ∙ removed_there c.args.no c.args.leases.now.kept.items c.in-Some.at there c.requires.found.distinct;
      found = found_gone c.args.leases.now.kept.items _ c.args.leases.now.numbers.keys _ c.args.leases.now.index _ c.args.leases.now.least c.in-Some.at c.remove.result (within (has_number c.args.no) c.args.leases.now.kept.items c.in-Some.at there) c.remove.ensures.value
          (leaving_free c.remove.result.standing leaving) (leaving_off c.remove.result.standing c.args.leases.now.index leaving) c.remove.ensures.items c.shift_remove_index.ensures.keys c.requires.found;
    }

pub released-requires : goal.released-requires
released-requires c =
    let there = sym c.place.ensures.same ∙ c.in-Some.is in
    fits_there (λ k. is_leaving k.standing ≡ true) _ c.remove.result (found_there c.args.no c.args.leases.now.kept.items c.in-Some.at c.remove.result there c.remove.ensures.value) c.requires.leaving
