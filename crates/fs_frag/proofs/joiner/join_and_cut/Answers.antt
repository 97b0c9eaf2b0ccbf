use Rattle.std.proofs.Common.{◌-◌, length, drop, arith}
use Rattle.std.proofs.lemmas.List.{take_all, length-drop}
use Rattle.fs_frag.proofs.joiner.join_and_cut.Goals as goal

pub returns-clause-waiting : goal.returns-clause-waiting
returns-clause-waiting c =
    let bytes = c.deref.result.now in
    let start = c.in_ok-joined.start in
    rw (c.in_ok-rest.ensures.items, take_all (length bytes - start) (drop start bytes) (omega (arith, length-drop start bytes)), c.deref.ensures.value)
    c.in_ok-joined.ensures.waiting
