use Rattle.std.proofs.Common.{ap, sym, ◌∙◌, subst, map}
use Rattle.fs_field.specs.Table.{locked_row}
use Rattle.fs_field.proofs.Leases.{locked_same}
use Rattle.fs_server.specs.Rows.{AreRows, in_one_list}
use Rattle.fs_parcel.proofs.Both.{map_with_rows}
use Rattle.fs_server.proofs.Kept.{leased_rows}
use Rattle.fs_server.proofs.all_rows.AllRows.lock.Goals as goal

pub returns : goal.returns
returns c = rw (← c.self.view_is)
    (ap (λ rows. in_one_list rows c.lock-2.new.self) c.lock.ensures.rows
    ∙ ap (in_one_list (map (locked_row c.args.no c.args.txn) c.self.inside.plain)) c.lock-2.ensures.rows
    ∙ sym (map_with_rows (locked_row c.args.no c.args.txn) (λ r. (locked_same c.args.no c.args.txn r).number) c.self.inside.modes c.self.inside.plain))

pub invariant_of-self : goal.invariant_of-self
invariant_of-self c = (
  c.lock.ensures.valid,
  (
    c.lock-2.ensures.valid,
    subst AreRows (sym (returns c ∙ ap (map (locked_row c.args.no c.args.txn)) (sym c.self.view_is))) (leased_rows (locked_row c.args.no c.args.txn) (locked_same c.args.no c.args.txn) (in_one_list c.self.inside.plain c.self.inside.modes) c.self.invariant.1.1),
  ),
)
