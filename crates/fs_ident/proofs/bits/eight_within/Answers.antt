use Rattle.std.proofs.Common.{rules, ◌+◌, get_or, refl}
use Rattle.fs_ident.proofs.Words.{eight_is}
use Rattle.fs_ident.proofs.bits.eight_within.Goals as goal

pub returns : goal.returns
returns c =
    eight_is c.args.bytes.now c.args.first c.from_be_bytes.result
    (get_or c.args.bytes.now c.args.first 0) (get_or c.args.bytes.now (c.args.first + 1) 0) (get_or c.args.bytes.now (c.args.first + 2) 0) (get_or c.args.bytes.now (c.args.first + 3) 0) (get_or c.args.bytes.now (c.args.first + 4) 0) (get_or c.args.bytes.now (c.args.first + 5) 0) (get_or c.args.bytes.now (c.args.first + 6) 0) (get_or c.args.bytes.now (c.args.first + 7) 0)
    (search rules) (search rules) (search rules) (search rules) (search rules) (search rules) (search rules) (search rules)
    refl refl refl refl refl refl refl refl
    c.from_be_bytes.ensures
