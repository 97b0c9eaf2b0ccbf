use Rattle.std.proofs.Common.{drop}
use Rattle.fs_ident.specs.Packed.{bits_of}
use Rattle.fs_ident.proofs.CodePlaces.{ends_early, stands_whole}
use Rattle.fs_ident.proofs.bits.whole_at.Goals as goal

pub returns-then-held-width : goal.returns-then-held-width
returns-then-held-width c greatest fits = ends_early (drop c.args.at (bits_of c.args.bytes.now)) c.args.zeros c.args.number c.held_at-held.result greatest c.requires.few c.requires.begins fits c.held_at-held.ensures c.if-held-width.true

pub returns-else-held-width : goal.returns-else-held-width
returns-else-held-width c greatest fits = stands_whole (drop c.args.at (bits_of c.args.bytes.now)) c.args.zeros c.args.number c.held_at-held.result greatest c.requires.few c.requires.begins fits c.held_at-held.ensures c.if-held-width.false
