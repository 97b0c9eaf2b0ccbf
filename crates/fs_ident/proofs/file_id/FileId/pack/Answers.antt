use Rattle.std.proofs.Common.{rules, ◌≡◌, ℕ, List, ◌++◌, arith, ◌∙◌, ap}
use Rattle.fs_ident.specs.Packed.{packed}
use Rattle.fs_ident.specs.Bits.{written}
use Rattle.fs_ident.proofs.Packs.{packed_from}
use Rattle.fs_ident.proofs.file_id.FileId.pack.Goals as goal

pub returns-clause-ok : goal.returns-clause-ok
returns-clause-ok c =
    let bytes : c.bytes.result.now ≡ packed c.args.self.now = packed_from c.numbers-numbers.result.now c.args.self.now c.loop-n.n-index (written c.loop-n.bits) (written c.pad.new.self) c.bytes.result.now c.numbers-numbers.ensures.same (omega arith) c.loop-n.invariant.bits c.pad.ensures.bits c.bytes.ensures in
    let extended : c.extend_from_slice.new.self.items ≡ c.args.out.now.items ++ c.bytes.result.now = search rules in
    extended ∙ ap (λ (bs : List ℕ). c.args.out.now.items ++ bs) bytes
