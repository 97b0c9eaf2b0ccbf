use Rattle.std.proofs.Common.{ap, sym, ◌∙◌}
use Rattle.std.specs.List.{find}
use Rattle.std.specs.Option.{option_copied}
use Rattle.fs_ident.specs.Ident.{same}
use Rattle.fs_moderows.proofs.Apart.{listed_by, listed_first}
use Rattle.fs_moderows.proofs.fitting.opens_on.Goals as goal

pub returns-in-Some : goal.returns-in-Some
returns-in-Some c = c.as_slice-in-Some.ensures ∙ sym (listed_first c.args.selves.now c.args.file.now ∙ ap listed_by (ap (λ es. find (λ e. same e.0 c.args.file.now) es) (sym c.as_slice.ensures) ∙ sym c.first_on.ensures ∙ ap option_copied c.in-Some.is))

pub returns-in-None : goal.returns-in-None
returns-in-None c = sym (listed_first c.args.selves.now c.args.file.now ∙ ap listed_by (ap (λ es. find (λ e. same e.0 c.args.file.now) es) (sym c.as_slice.ensures) ∙ sym c.first_on.ensures ∙ ap option_copied c.in-None.is))
