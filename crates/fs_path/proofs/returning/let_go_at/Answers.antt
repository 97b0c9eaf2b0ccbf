use Rattle.std.proofs.Common.{ap, arith, length, ◌∙◌}
use Rattle.std.specs.List.{filter}
use Rattle.fs_path.proofs.Freed.{all_stay, fewer_of, going, kept_without}
use Rattle.fs_path.proofs.Own.{own_rises}
use Rattle.fs_path.proofs.returning.let_go_at.Goals as goal

pub first_leaving-requires : goal.first_leaving-requires
first_leaving-requires c = rw c.deref.ensures.value (own_rises c.loop-no.had.own c.loop-no.held.items c.loop-no.invariant.had.0 c.loop-no.invariant.whole)

pub loop-no-smaller : goal.loop-no-smaller
loop-no-smaller c =
    let q = rw (c.deref.ensures.value, c.at.ensures) at c.in-Some.ensures in
    let g = going c.args.file.now c.loop-no.had.own c.loop-no.held.items c.in-Some.no c.loop-no.invariant.had.0 c.loop-no.invariant.whole q in
    let l = fewer_of c.args.file.now c.loop-no.held.items c.in-Some.no g in
    let e = ap length c.drop_of.ensures.held in
    omega (arith, l, e, c.loop-no.held.ok, c.drop_of.new.held.ok)

pub loop-no-preserved : goal.loop-no-preserved
loop-no-preserved c =
    let q = rw (c.deref.ensures.value, c.at.ensures) at c.in-Some.ensures in
    let g = going c.args.file.now c.loop-no.had.own c.loop-no.held.items c.in-Some.no c.loop-no.invariant.had.0 c.loop-no.invariant.whole q in
    record {
      had = c.drop_of.ensures.had;
      whole = c.drop_of.ensures.whole;
      kept =
          ap (filter _) c.drop_of.ensures.held
          ∙ kept_without c.args.file.now c.loop-no.held.items c.in-Some.no (own_rises c.loop-no.had.own c.loop-no.held.items c.loop-no.invariant.had.0 c.loop-no.invariant.whole) g
          ∙ c.loop-no.invariant.kept;
    }

pub returns-clause-held : goal.returns-clause-held
returns-clause-held c =
    let q = rw (c.deref.ensures.value, c.at.ensures) at c.in_default.ensures in
    all_stay c.args.file.now c.loop-no.had.own c.loop-no.held.items c.loop-no.invariant.had.0 c.loop-no.invariant.whole q ∙ c.loop-no.invariant.kept
