use Rattle.std.proofs.Common.{◌≡◌, ◌<◌, ◌^◌, ℕ, List, refl, sym, ◌∙◌, subst, ap, arith}
use Rattle.std.specs.Prelude.{Ok}
use Rattle.std.specs.Fmt.{decimal}
use Rattle.std.specs.Str.{IsUtf8}
use Rattle.std.specs.Str.Parse.{IsNumeral, digits_value, without_leading_plus}
use Rattle.std.proofs.lemmas.Fmt.{parse-decimal, IsAscii-decimal}
use Rattle.std.proofs.lemmas.Str.{IsUtf8-from_ascii}
use Rattle.fs_schedule.specs.Reading.{begins_well}
use Rattle.fs_schedule.proofs.Digits.{decimal_begins_well, well_is_decimal}
use Rattle.fs_schedule.proofs.Refusals.{no_error}
use Rattle.fs_schedule.proofs.number.number_of.Goals as goal

pub returns-then-not-begins_well : goal.returns-then-not-begins_well
returns-then-not-begins_well c = (refl, λ n b e. no_error (sym c.if-not-begins_well.true ∙ c.begins_well.ensures ∙ ap begins_well e ∙ decimal_begins_well n b))

pub returns-in_default : goal.returns-in_default
returns-in_default c = (refl, λ n b e. c.in_default.ensures.cases.0 (subst IsUtf8 (sym e) (IsUtf8-from_ascii (decimal n) (IsAscii-decimal n b))))

pub returns-in_default-parse : goal.returns-in_default-parse
returns-in_default-parse c = (
  refl,
  λ n b e.
      let r : c.parse.result ≡ Ok n = parse-decimal 64 n c.in-Ok.text.now c.parse.result b b (c.in-Ok.ensures.cases.0 ∙ e) c.parse.ensures.value.0 in c.in_default-parse.not-Ok n r,
)

pub returns : goal.returns
returns c =
    let read = c.in-Ok-parse.ensures.value.0 in
    let text : c.in-Ok.text.now ≡ c.args.digits.now = c.in-Ok.ensures.cases.0 in
    let P : List ℕ → Type 0 = λ xs. (IsNumeral 10 (without_leading_plus xs) × (digits_value 10 (without_leading_plus xs) < 2 ^ 64)) × (c.in-Ok-parse.n ≡ digits_value 10 (without_leading_plus xs)) in
    let is : P c.args.digits.now = subst P text read in
    (omega (arith, is.1, is.0.1), sym (ap decimal is.1 ∙ well_is_decimal c.args.digits.now (sym c.begins_well.ensures ∙ c.if-not-begins_well.false) is.0.0 is.0.1))
