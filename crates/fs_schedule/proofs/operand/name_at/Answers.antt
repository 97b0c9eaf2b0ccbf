use Rattle.std.proofs.Common.{sym, ◌∙◌, ap, ◌≡◌, refl, subst}
use Rattle.std.specs.Prelude.{Err}
use Rattle.fs_ident.specs.Name.{IsName, name_fault}
use Rattle.fs_ident.specs.declared.error.IdError.{IdError}
use Rattle.fs_schedule.specs.Reading.{word_of}
use Rattle.fs_schedule.proofs.Asked.{quoted_one}
use Rattle.fs_schedule.proofs.operand.name_at.Goals as goal

pub returns-in-Err-Memory-clause-outside : goal.returns-in-Err-Memory-clause-outside
returns-in-Err-Memory-clause-outside c = λ none.
    let no : IsName c.in-Quoted.bytes.now → ⊥ = λ is. none c.in-Quoted.bytes.now is (ap word_of c.in-Quoted.is) in
    let bad = (c.in-Err-Memory.ensures.bad (name_fault c.in-Quoted.bytes.now)).1 (no, refl) in
    let wanting = c.in-Err-Memory.field-0-is in
    absurd (cc)

pub returns-in-Err-BadName-clause-read : goal.returns-in-Err-BadName-clause-read
returns-in-Err-BadName-clause-read c = λ o name valid e.
    let bad = (c.in-Err-BadName.ensures.bad c.in-Err-BadName.field-0-0).0 (ap (λ (x : IdError). Err x) c.in-Err-BadName.field-0-is) in
    let same : c.in-Quoted.bytes.now ≡ name = quoted_one _ _ (sym (ap word_of c.in-Quoted.is) ∙ e) in
    bad.0 (subst IsName (sym same) valid)
