use Rattle.std.proofs.Common.{sym, ◌∙◌}
use Rattle.std.specs.List.{filter}
use Rattle.fs_field.specs.Table.{is_lease, is_live}
use Rattle.fs_field.proofs.Order.{ordered_filter}
use Rattle.fs_rows.proofs.ByNumber.{found_only, none_only, no_lease}
use Rattle.fs_rows.proofs.reads.holds_at.Goals as goal

pub returns-in-Some : goal.returns-in-Some
returns-in-Some c =
    c.is_lease.ensures
    ∙ sym (found_only (is_lease c.args.no c.args.session c.args.field.now c.args.kind) c.args.no (filter (is_live c.args.now c.args.skew) c.args.rows.now) c.in-Some.row.now (no_lease c.args.no c.args.session c.args.field.now c.args.kind)
    (ordered_filter (is_live c.args.now c.args.skew) c.args.rows.now c.requires) (sym c.in-Some.ensures))

pub returns-in-None : goal.returns-in-None
returns-in-None c = sym (none_only (is_lease c.args.no c.args.session c.args.field.now c.args.kind) c.args.no (filter (is_live c.args.now c.args.skew) c.args.rows.now) (no_lease c.args.no c.args.session c.args.field.now c.args.kind) (sym c.in-None.ensures))
