use Rattle.std.proofs.Common.{sym, ◌∙◌, ap}
use Rattle.std.specs.Prelude.{Err}
use Rattle.fs_ident.specs.declared.error.IdError.{IdError}
use Rattle.fs_schedule.specs.Reading.{word_of}
use Rattle.fs_schedule.proofs.Asked.{bare_one}
use Rattle.fs_schedule.proofs.operand.id_at.Goals as goal

pub returns-in-Err-BadText : goal.returns-in-Err-BadText
returns-in-Err-BadText c = λ o id valid e.
    let bad = c.in-Err-BadText.ensures.bad c.in-Err-BadText.field-0-0 (ap (λ (x : IdError). Err x) c.in-Err-BadText.field-0-is) in
    bad.0 id valid (bare_one _ _ (sym (ap word_of c.in-Bare.is) ∙ e))
