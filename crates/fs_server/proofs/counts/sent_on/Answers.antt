use Rattle.std.proofs.Common.{◌≡◌, true, false, slice_get, length, refl, ap, sym, ◌∙◌, subst}
use Rattle.std.specs.Prelude.{IfOk}
use Rattle.std.proofs.lemmas.Bool.{eq-eqb, ltb-true}
use Rattle.std.proofs.lemmas.Option.{slice_get_read}
use Rattle.fs_server.specs.Decided.{stepped_by}
use Rattle.fs_server.specs.Server.{Stepped}
use Rattle.fs_server.proofs.Counting.{not_equal, sent_so}
use Rattle.fs_server.proofs.counts.sent_on.Goals as goal

pub returns-in-Some-clause-step : goal.returns-in-Some-clause-step
returns-in-Some-clause-step c =
    subst (λ (y : Stepped). IfOk c.comes_home.result (λ d. stepped_by d c.args.at.now ≡ y))
    (sym (sent_so c.args.number c.args.to c.in-Some.part.now c.args.l.now c.args.at.now true
    (ap (λ ps. slice_get ps c.args.number) (sym c.as_slice.ensures)
    ∙ slice_get_read c.as_slice.result.now (length c.as_slice.result.now) c.args.number c.in-Some.part.now refl (ltb-true c.args.number (length c.as_slice.result.now) (sym c.in-Some.ensures.lookup.0)) c.in-Some.ensures.lookup.1)
    (eq-eqb c.args.to c.args.at.now.me (c.if-to-me.true ∙ c.me.ensures))))
    c.comes_home.ensures.step

pub returns-in-Some-2-clause-step : goal.returns-in-Some-2-clause-step
returns-in-Some-2-clause-step c =
    subst (λ (y : Stepped). IfOk c.seeks.result (λ d. stepped_by d c.args.at.now ≡ y))
    (sym (sent_so c.args.number c.args.to c.in-Some.part.now c.args.l.now c.args.at.now false
    (ap (λ ps. slice_get ps c.args.number) (sym c.as_slice.ensures)
    ∙ slice_get_read c.as_slice.result.now (length c.as_slice.result.now) c.args.number c.in-Some.part.now refl (ltb-true c.args.number (length c.as_slice.result.now) (sym c.in-Some.ensures.lookup.0)) c.in-Some.ensures.lookup.1)
    (not_equal c.args.to c.args.at.now.me (λ e. c.if-to-me.false (e ∙ sym c.me.ensures)))))
    c.seeks.ensures.step
