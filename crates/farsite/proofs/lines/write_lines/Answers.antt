use Rattle.std.proofs.Common.{◌≤◌, ◌∙◌, arith}
use Rattle.std.proofs.lemmas.Result.{err_from_is_err_and}
use Rattle.farsite.proofs.Runs.{lines_step, lines_part}
use Rattle.farsite.proofs.lines.write_lines.Goals as goal

pub returns-in_err-write_all-clause-some : goal.returns-in_err-write_all-clause-some
returns-in_err-write_all-clause-some g c =
    let p = err_from_is_err_and c.from_residual.result c.from_residual.ensures.1 in
    let upto : c.loop-at.at ≤ c.line_end-end.result = omega (arith, c.line_end-end.ensures.after) in
    rw p.1 (lines_part (g.K.Sink.written c.args.out.now) (g.K.Sink.written c.loop-at.out) (g.K.Sink.written c.write_all.new.out) c.args.lines.now c.loop-at.at c.line_end-end.result upto c.line_end-end.ensures.within c.loop-at.invariant.2 c.in_err-write_all.ensures.some)

pub loop-at-preserved : goal.loop-at-preserved
loop-at-preserved g c =
    let upto : c.loop-at.at ≤ c.line_end-end.result = omega (arith, c.line_end-end.ensures.after) in (
      c.line_end-end.ensures.within,
      c.in_ok-write_all.ensures.answered ∙ c.loop-at.invariant.1,
      lines_step (g.K.Sink.written c.args.out.now) (g.K.Sink.written c.loop-at.out) (g.K.Sink.written c.write_all.new.out) c.args.lines.now c.loop-at.at c.line_end-end.result upto c.loop-at.invariant.2 c.in_ok-write_all.ensures.ok,
    )
