use Rattle.std.proofs.Common.{rules}
use Rattle.fs_ident.proofs.Words.{eight_is}
use Rattle.fs_ident.proofs.bits.eight_past_end.Goals as goal

pub returns : goal.returns
returns c =
    eight_is c.args.bytes.now c.args.first c.from_be_bytes.result
    c.byte_at.result c.byte_at-2.result c.byte_at-3.result c.byte_at-4.result c.byte_at-5.result c.byte_at-6.result c.byte_at-7.result c.byte_at-8.result
    (search rules) (search rules) (search rules) (search rules) (search rules) (search rules) (search rules) (search rules)
    c.byte_at.ensures c.byte_at-2.ensures c.byte_at-3.ensures c.byte_at-4.ensures c.byte_at-5.ensures c.byte_at-6.ensures c.byte_at-7.ensures c.byte_at-8.ensures
    c.from_be_bytes.ensures
