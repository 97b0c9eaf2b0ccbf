use Rattle.std.proofs.Common.{◌≡◌, ℕ, ◌+◌, List, drop, ap, sym, subst, subst₂, ◌∙◌, Err, arith, rules}
use Rattle.std.proofs.lemmas.Result.{err_from_is_err_and}
use Rattle.fs_msg.specs.declared.core_error.CoreError.TheVariants as errors
use Rattle.fs_ident.specs.declared.actor.Session.{Session}
use Rattle.fs_modes.specs.declared.modes.Modes.{Modes}
use Rattle.fs_field.specs.declared.field.Field.TheVariants.{Own}
use Rattle.fs_record.specs.ValueOf.{selves_in}
use Rattle.fs_server.specs.declared.state.Server.{Server}
use Rattle.fs_server.proofs.Losing.{IsLosing, has_own_asked, losing_first, losing_here, losing_past, losing_more, losing_spent}
use Rattle.fs_server.proofs.reaps.lose_on.Goals as goal
use Rattle.fs_server.proofs.reaps.lose_on.Goals.{then-not-has_on+in_ok-lose, else-not-has_on}

pub loop-session-init : goal.loop-session-init
loop-session-init c =
    let listed : c.as_slice-session-items.result.now ≡ selves_in c.args.at.now.records c.args.file.now = search rules in
    let told : c.in_ok-selves.selves ≡ selves_in c.args.at.now.records c.args.file.now = search rules in (
      subst (λ es. IsLosing c.args.at.now c.args.file.now c.args.lost.now es c.args.lost.now c.in_ok-selves.selves) (sym listed) (losing_first c.args.at.now c.args.file.now c.args.lost.now c.in_ok-selves.selves c.requires.valid c.requires.still c.requires.can told),
      ap Own c.in_ok-copy.ensures,
    )

pub loop-session-preserved : goal.loop-session-preserved
loop-session-preserved c =
    let s : Server = c.args.at.now in
    let f : List ℕ = c.args.file.now in
    let rest : List (Session × Modes) = drop (c.loop-session.session-index + 1) c.as_slice-session-items.result.now in
    let here = losing_here s f c.args.lost.now c.as_slice-session-items.result.now c.loop-session.session-index _ c.loop-session.lost c.loop-session.selves (omega arith) c.loop-session.invariant.0 in
    let asked = has_own_asked s f _ c.has_on.result _ _ c.has_on.ensures c.loop-session.invariant.1 c.rows.ensures in
    elim c.if-not-has_on.branch [
      | then-not-has_on+in_ok-lose w ↦ (
        subst₂ (λ l z. IsLosing s f c.args.lost.now rest l z) (sym w.lost-is) (sym w.selves-is)
            (losing_more s f c.args.lost.now _ _ c.loop-session.lost c.loop-session.selves here (asked ∙ w.if-not-has_on.true) w.lose.new.lost w.lose.new.selves w.in_ok-lose.ensures.lost w.in_ok-lose.ensures.can w.in_ok-lose.ensures.selves),
        c.loop-session.invariant.1,
      )
      | else-not-has_on w ↦ (
        subst₂ (λ l z. IsLosing s f c.args.lost.now rest l z) (sym w.lost-is) (sym w.selves-is)
            (losing_past s f c.args.lost.now _ _ c.loop-session.lost c.loop-session.selves here (asked ∙ w.if-not-has_on.false)),
        c.loop-session.invariant.1,
      )
    ]

pub returns-in_err-lose-clause-spent : goal.returns-in_err-lose-clause-spent
returns-in_err-lose-clause-spent c counter h =
    let s : Server = c.args.at.now in
    let f : List ℕ = c.args.file.now in
    let p = err_from_is_err_and c.from_residual-in_err-lose.result c.from_residual-in_err-lose.ensures.1 in
    let e : c.in_err-lose.field-0.0 ≡ errors.Spent counter = cc in
    let q = c.lose.ensures.spent counter (c.in_err-lose.was ∙ ap Err e) in
    let here = losing_here s f c.args.lost.now c.as_slice-session-items.result.now c.loop-session.session-index _ c.loop-session.lost c.loop-session.selves (omega arith) c.loop-session.invariant.0 in
    let asked = has_own_asked s f _ c.has_on.result _ _ c.has_on.ensures c.loop-session.invariant.1 c.rows.ensures in
    (q.0, losing_spent s f c.args.lost.now _ _ c.loop-session.lost c.loop-session.selves here (asked ∙ c.if-not-has_on.true) _ q.1)
