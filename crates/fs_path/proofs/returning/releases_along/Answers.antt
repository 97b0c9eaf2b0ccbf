use Rattle.std.proofs.Common.{◌≡◌, true, ap, get_or, subst, sym, take, ◌∙◌}
use Rattle.std.specs.List.{filter, list_any}
use Rattle.fs_path.specs.Freed.{leaves}
use Rattle.fs_path.specs.Index.{are_rising, named_at, no_of_named}
use Rattle.fs_path.specs.Leases.{goes_over}
use Rattle.fs_path.specs.Merged.{with_each}
use Rattle.fs_path.specs.Returns.{without_no}
use Rattle.fs_path.proofs.Freed.{freed_rise, names_more, names_none, names_same}
use Rattle.fs_path.proofs.Own.{own_rises}
use Rattle.fs_path.proofs.returning.releases_along.Goals as goal
use Rattle.fs_path.proofs.returning.releases_along.Goals.{then-not-any_over_but+in_ok-put_leaving, else-not-any_over_but}

pub loop-file-init : goal.loop-file-init
loop-file-init c = c.new-list.ensures ∙ names_none (without_no c.args.no c.args.issued.now) c.args.held.now

pub put_leaving-requires-clause-list : goal.put_leaving-requires-clause-list
put_leaving-requires-clause-list c =
    subst (λ ns. are_rising no_of_named ns ≡ true) (sym c.loop-file.invariant)
    (freed_rise (without_no c.args.no c.args.issued.now) (take c.loop-file.file-index c.args.files.now) c.args.held.now (own_rises c.args.own.now c.args.held.now c.requires.own c.requires.whole))

pub put_leaving-requires-clause-held : goal.put_leaving-requires-clause-held
put_leaving-requires-clause-held c = own_rises c.args.own.now c.args.held.now c.requires.own c.requires.whole

pub loop-file-preserved : goal.loop-file-preserved
loop-file-preserved c =
    let issued = without_no c.args.no c.args.issued.now in
    let held = c.args.held.now in
    let over = ap (λ f. list_any (goes_over f) issued) (sym c.file-item.is) ∙ sym c.any_over_but.ensures in
    elim c.if-not-any_over_but.branch [
      | then-not-any_over_but+in_ok-put_leaving w ↦
          w.list-is ∙ w.in_ok-put_leaving.ensures
          ∙ ap (λ ns. with_each (filter (λ n. leaves n.1 held) ns) c.loop-file.list) (w.at.ensures ∙ ap (named_at c.args.own.now.files) c.file-item.is)
          ∙ ap (with_each (filter (λ n. leaves n.1 held) (named_at c.args.own.now.files (get_or c.args.files.now c.loop-file.file-index c.file-item.result)))) c.loop-file.invariant
          ∙ names_more issued c.args.files.now c.loop-file.file-index c.file-item.result c.args.own.now held c.requires.own c.requires.whole c.loop-file-test.true (over ∙ w.if-not-any_over_but.true)
      | else-not-any_over_but w ↦
          w.list-is ∙ c.loop-file.invariant
          ∙ names_same issued c.args.files.now c.loop-file.file-index c.file-item.result held c.loop-file-test.true (over ∙ w.if-not-any_over_but.false)
    ]
