use Rattle.std.proofs.Common.{◌≡◌, ◌&&◌, ap, sym, ◌∙◌}
use Rattle.fs_moderows.specs.Moving.{selves_listed}
use Rattle.fs_moderows.specs.Moving as on_modes
use Rattle.fs_rows.specs.Moving as off_modes
use Rattle.fs_parcel.specs.Parcel.{selves_of_records}
use Rattle.fs_parcel.specs.Rows.{rows_off_modes, rows_on_modes}
use Rattle.fs_parcel.proofs.Fitted.{by_tables}
use Rattle.fs_parcel.proofs.OneList.{both_rows}
use Rattle.fs_parcel.proofs.fitting.rows_fit.Goals as goal

pub returns : goal.returns
returns c =
    let plain = c.args.rows.now in
    let modes = c.args.modes.now in
    let p = c.args.p.now in
    let parts = c.in_ok-parts.parts in
    let selves = c.in_ok-selves.selves in
    let is_plain : parts.plain ≡ rows_off_modes p.rows = c.in_ok-parts.ensures.plain ∙ ap rows_off_modes c.in_ok-copy.ensures in
    let is_modes : parts.modes ≡ rows_on_modes p.rows = c.in_ok-parts.ensures.modes ∙ ap rows_on_modes c.in_ok-copy.ensures in
    let told : selves ≡ selves_of_records p.records = c.in_ok-selves.ensures ∙ ap selves_of_records c.as_slice.ensures in
    c.go_beside.ensures
    ∙ ap (λ more. off_modes.fits plain more && on_modes.fits (selves_listed selves) modes parts.modes) is_plain
    ∙ ap (λ more. off_modes.fits plain (rows_off_modes p.rows) && on_modes.fits (selves_listed selves) modes more) is_modes
    ∙ ap (λ s. off_modes.fits plain (rows_off_modes p.rows) && on_modes.fits (selves_listed s) modes (rows_on_modes p.rows)) told
    ∙ by_tables plain modes p (c.requires.plain, (c.requires.modes, both_rows plain modes c.requires.plain c.requires.modes c.requires.numbers)) (sym c.are_new.ensures ∙ c.if-not-are_new.false)
