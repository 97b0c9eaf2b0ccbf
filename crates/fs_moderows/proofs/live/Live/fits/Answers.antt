use Rattle.std.proofs.Common.{◌≡◌, ◌&&◌, true, false, ap, sym, ◌∙◌}
use Rattle.fs_rows.specs.Granted.{with_rows}
use Rattle.fs_rows.specs.Moving.{fits as fit_plainly}
use Rattle.fs_moderows.specs.Moving.{selves_listed}
use Rattle.fs_moderows.proofs.Apart.{all_free_over_modes, fits_apart}
use Rattle.fs_moderows.proofs.live.Live.fits.Goals as goal

pub returns-then-fits : goal.returns-then-fits
returns-then-fits c =
    let fit : fit_plainly c.args.self.now c.args.rows.now ≡ true = ap (λ rows. fit_plainly rows c.args.rows.now) (sym c.kept.ensures) ∙ sym c.fits.ensures ∙ c.if-fits.true in
    c.are_apart.ensures
    ∙ ap (λ rows. all_free_over_modes (selves_listed c.args.selves.now) rows c.as_slice-came.result.now) c.of.ensures
    ∙ ap (λ came. all_free_over_modes (selves_listed c.args.selves.now) (with_rows came c.args.self.now) came) c.as_slice-came.ensures
    ∙ ap (λ b. b && all_free_over_modes (selves_listed c.args.selves.now) (with_rows c.args.rows.now c.args.self.now) c.args.rows.now) (sym fit)
    ∙ fits_apart (selves_listed c.args.selves.now) c.args.self.now c.args.rows.now

pub returns-else-fits : goal.returns-else-fits
returns-else-fits c =
    let unfit : fit_plainly c.args.self.now c.args.rows.now ≡ false = ap (λ rows. fit_plainly rows c.args.rows.now) (sym c.kept.ensures) ∙ sym c.fits.ensures ∙ c.if-fits.false in
    c.if-fits.false
    ∙ ap (λ b. b && all_free_over_modes (selves_listed c.args.selves.now) (with_rows c.args.rows.now c.args.self.now) c.args.rows.now) (sym unfit)
    ∙ fits_apart (selves_listed c.args.selves.now) c.args.self.now c.args.rows.now
