use Rattle.std.proofs.Common.{not, ◌&&◌, ap, sym, ◌∙◌}
use Rattle.std.specs.List.{list_any}
use Rattle.fs_field.specs.Conflict.{can_fail, has_fixed}
use Rattle.fs_moderows.specs.Answer.{is_self_of_other, stands_against_self}
use Rattle.fs_moderows.specs.Moving.{selves_listed}
use Rattle.fs_moderows.proofs.Apart.{against_self, against_other, against_none}
use Rattle.fs_moderows.proofs.fitting.is_apart.Goals as goal

pub returns-in-SelfW : goal.returns-in-SelfW
returns-in-SelfW c = ap not (
    c.is_against_self.ensures
    ∙ ap (λ opens. list_any (stands_against_self opens c.args.rows.now c.args.row.now.session c.in-SelfW.file c.in-SelfW.m) c.args.rows.now) c.opens_on.ensures
    ∙ sym (against_self (selves_listed c.args.selves.now) c.args.rows.now c.args.row.now c.in-SelfW.file c.in-SelfW.m c.in-SelfW.is))

pub returns-in-Other : goal.returns-in-Other
returns-in-Other c = ap not (
    c.is_against_other.ensures
    ∙ ap (λ opens. list_any (is_self_of_other c.in-Other.file c.in-Other.m c.args.row.now.session) c.args.rows.now && can_fail c.args.row.now.promise (has_fixed (λ f. opens) c.args.rows.now c.in-Other.file c.in-Other.m c.args.row.now.session c.args.row.now.session)) c.opens_on-in-Other.ensures
    ∙ sym (against_other (selves_listed c.args.selves.now) c.args.rows.now c.args.row.now c.in-Other.file c.in-Other.m c.in-Other.is))

pub returns-in_default : goal.returns-in_default
returns-in_default c = ap not (sym (against_none (selves_listed c.args.selves.now) c.args.rows.now c.args.row.now c.in_default.not-SelfW c.in_default.not-Other))
