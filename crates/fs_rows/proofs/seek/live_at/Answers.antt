use Rattle.std.proofs.Common.{ap, cond, sym, ◌∙◌}
use Rattle.std.specs.Prelude.{Some, None}
use Rattle.fs_field.specs.Table.{is_live}
use Rattle.fs_rows.proofs.ByNumber.{live_found, live_none}
use Rattle.fs_rows.proofs.seek.live_at.Goals as goal

pub returns-then-is_live : goal.returns-then-is_live
returns-then-is_live c = sym (live_found (is_live c.args.now c.args.skew) c.args.no c.args.rows.now c.in-Some.row.now c.requires (sym c.in-Some.ensures) ∙ ap (λ b. cond b (Some c.in-Some.row.now) None) (sym c.is_live.ensures ∙ c.if-is_live.true))

pub returns-else-is_live : goal.returns-else-is_live
returns-else-is_live c = sym (live_found (is_live c.args.now c.args.skew) c.args.no c.args.rows.now c.in-Some.row.now c.requires (sym c.in-Some.ensures) ∙ ap (λ b. cond b (Some c.in-Some.row.now) None) (sym c.is_live.ensures ∙ c.if-is_live.false))

pub returns-in-None : goal.returns-in-None
returns-in-None c = sym (live_none (is_live c.args.now c.args.skew) c.args.no c.args.rows.now (sym c.in-None.ensures))
