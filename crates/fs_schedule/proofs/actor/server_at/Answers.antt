use Rattle.std.proofs.Common.{◌≡◌, ◌∷◌, refl, sym, ◌∙◌, ap, arith}
use Rattle.std.specs.Fmt.{decimal}
use Rattle.fs_schedule.specs.Spelling.{servers_in}
use Rattle.fs_schedule.specs.Reading.{word_of}
use Rattle.fs_schedule.proofs.Asked.{bare_one, not_below}
use Rattle.fs_schedule.proofs.actor.server_at.Goals as goal

pub returns-then-from-k : goal.returns-then-from-k
returns-then-from-k c = (
  refl,
  λ n is e.
      let number = c.in_ok-k.ensures in
      let text : c.in-Bare.text.now ≡ 115 ∷ c.in-Some.digits.now = c.in-Some.ensures.found in
      let word : c.in-Bare.text.now ≡ 115 ∷ decimal n = bare_one _ _ (sym (ap word_of c.in-Bare.is) ∙ e) in
      let digits : c.in-Some.digits.now ≡ decimal n = cc in
      not_below (servers_in c.args.head) c.in_ok-k.k n (omega (arith, c.if-from-k.true, c.from.ensures, c.servers_in.ensures)) number.0 is (sym number.1 ∙ digits),
)
