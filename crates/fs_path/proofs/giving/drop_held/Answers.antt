use Rattle.std.proofs.Common.{◌<◌, length, subst, sym, arith}
use Rattle.fs_path.specs.Index.{IsHad}
use Rattle.fs_path.proofs.Own.{forgot_had, own_names_rise, via_names_rise}
use Rattle.fs_path.proofs.giving.drop_held.Goals as goal

pub forget-requires-clause-own : goal.forget-requires-clause-own
forget-requires-clause-own c = λ w. own_names_rise c.args.had.now.own c.args.held.now.items c.requires.had.0 w

pub forget-requires-clause-via : goal.forget-requires-clause-via
forget-requires-clause-via c = λ w. via_names_rise c.args.had.now.via c.args.held.now.items c.requires.had.1 w

pub returns-clause-had : goal.returns-clause-had
returns-clause-had c =
    let within : c.args.at < length c.args.held.now.items = omega (arith, c.requires.within, c.args.held.now.ok) in
    let told = c.forget.ensures in
    subst (λ hs. IsHad c.forget.new.self hs) (sym c.remove-h.ensures.items)
    (forgot_had c.args.held.now.items c.args.at c.remove-h.result c.args.had.now c.forget.new.self c.requires.had within c.remove-h.ensures.value told.own_whole told.via_whole told.own told.via)
