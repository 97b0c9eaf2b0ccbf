use Rattle.std.proofs.Common.{rules, ◌≡◌, ◌+◌, ◌*◌, ◌^◌, ◌<◌, ℕ, take, ◌-◌, ◌/◌, ◌%◌, ◌++◌, arith, refl, sym, ap, subst}
use Rattle.std.specs.List.{All}
use Rattle.std.proofs.lemmas.List.Elements.{All-push}
use Rattle.std.proofs.lemmas.Nat.{one_shl}
use Rattle.fs_ident.specs.Packed.{binary, bits_of}
use Rattle.fs_ident.proofs.Writes.{no_byte_yet, byte_more, all_written}
use Rattle.fs_ident.proofs.bit_writer.BitWriter.put.Goals as goal

pub loop-k-init : goal.loop-k-init
loop-k-init c = record { bytes = no_byte_yet (take c.args.self.now.whole c.args.self.now.room) _ _; each = c.requires.ready.each; whole = omega arith }

pub loop-k-preserved : goal.loop-k-preserved
loop-k-preserved c = record {
  each = subst (All (λ (b : ℕ). b < 256)) (sym c.put_byte.ensures.bytes) (All-push (λ (b : ℕ). b < 256) (take c.loop-k.self.whole c.loop-k.self.room) _ c.loop-k.invariant.each (omega arith));
  bytes = byte_more (take c.args.self.now.whole c.args.self.now.room) _ _ _ _ c.loop-k.k (omega arith) c.loop-k.invariant.bytes c.put_byte.ensures.bytes;
  whole = omega arith;
}

pub returns-clause-bits : goal.returns-clause-bits
returns-clause-bits c =
    let word = c.args.self.now.word * 2 ^ c.args.width % 2 ^ 64 + c.from.result in
    let pending = c.args.self.now.pending + c.args.width in
    let value : c.from.result ≡ c.args.value = search rules in
    let few : (c.args.self.now.pending + c.args.width) % 8 < 64 = omega arith in
    let last : c.loop-k.k ≡ (c.args.self.now.pending + c.args.width) / 8 = omega arith in
    all_written c.args.self.now _ (c.args.self.now.word * 2 ^ c.args.width % 2 ^ 64 + c.from.result) (c.args.self.now.pending + c.args.width) c.args.width c.args.value
    c.requires.ready.low c.requires.fits c.requires.ready.few c.requires.few refl (ap (λ (v : ℕ). c.args.self.now.word * 2 ^ c.args.width % 2 ^ 64 + v) value)
    refl (ap (λ (m : ℕ). (c.args.self.now.word * 2 ^ c.args.width % 2 ^ 64 + c.from.result) % m) (one_shl ((c.args.self.now.pending + c.args.width) % 8) 64 few))
    (subst (λ (k : ℕ). bits_of (take c.loop-k.self.whole c.loop-k.self.room) ≡ bits_of (take c.args.self.now.whole c.args.self.now.room) ++ binary (8 * k) ((c.args.self.now.word * 2 ^ c.args.width % 2 ^ 64 + c.from.result) / 2 ^ ((c.args.self.now.pending + c.args.width) - 8 * k))) last c.loop-k.invariant.bytes)
