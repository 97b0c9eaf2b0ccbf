use Rattle.std.proofs.Common.{rules, ◌≡◌, ◌+◌, ℕ, List, length, drop, ◌-◌, ◌++◌, [], ◌∷◌, arith, sym, ◌∙◌, ap, subst, length-append}
use Rattle.fs_ident.specs.Packed.{packed, bits_of, IsNoPacked, IsLongestPacked}
use Rattle.fs_ident.specs.Bits.{HasRead}
use Rattle.fs_ident.proofs.Packs.{stop_is, depth_stops, number_stops, padding_stops, begun, read_more, stops_near, code_near, all_read, unpacked, one_front, HasUnpacked}
use Rattle.fs_ident.proofs.file_id.FileId.unpack.Goals.{In-Ok-padding_at}
use Rattle.fs_ident.proofs.file_id.FileId.unpack.Goals as goal

pub returns-in-Err-clause-bad : goal.returns-in-Err-clause-bad
returns-in-Err-clause-bad c = λ at e.
    let same : c.in-Err.at ≡ at = cc in
    subst (λ (k : ℕ). IsNoPacked c.args.bytes.now × IsLongestPacked c.args.bytes.now k) same (stop_is c.args.bytes.now c.in-Err.at (depth_stops (bits_of c.args.bytes.now) c.in-Err.at c.in-Err.ensures))

pub loop-init : goal.loop-init
loop-init c =
    let none : c.in_ok-numbers.numbers.items ≡ [] = search rules in
    record {
      read = subst (λ (ns : List ℕ). HasRead (bits_of c.args.bytes.now) (c.in-Ok.code.0 - 1) ns c.in-Ok.code.1) (sym none) (begun (bits_of c.args.bytes.now) c.in-Ok.code.0 c.in-Ok.code.1 c.in-Ok.ensures);
      count = ap length none;
    }

pub overflow_add-at : goal.overflow_add-at
overflow_add-at c = omega (arith, code_near (drop c.loop.at (bits_of c.args.bytes.now)) c.in-Ok-number_at.number c.in-Ok-number_at.width c.in-Ok-number_at.ensures, c.loop.invariant.read.near, c.loop.invariant.read.few, c.loop.invariant.count)

pub overflow_add-result : goal.overflow_add-result
overflow_add-result c = omega (arith, stops_near (drop c.loop.at (bits_of c.args.bytes.now)) c.in-Err-number_at.width c.in-Err-number_at.ensures, c.loop.invariant.read.near, c.loop.invariant.read.few, c.loop.invariant.count)

pub returns-in-Err-number_at-clause-bad : goal.returns-in-Err-number_at-clause-bad
returns-in-Err-number_at-clause-bad c = λ at e.
    let same : c.loop.at + c.in-Err-number_at.width ≡ at = cc in
    subst (λ (k : ℕ). IsNoPacked c.args.bytes.now × IsLongestPacked c.args.bytes.now k) same
    (stop_is c.args.bytes.now (c.loop.at + c.in-Err-number_at.width) (number_stops (bits_of c.args.bytes.now) (c.in-Ok.code.0 - 1) c.loop.numbers.items c.loop.at c.in-Err-number_at.width c.loop.invariant.read (omega (arith, c.loop.invariant.count)) c.in-Err-number_at.ensures))

pub loop-preserved : goal.loop-preserved
loop-preserved c =
    let pushed : c.push.new.self.items ≡ c.loop.numbers.items ++ c.in-Ok-number_at.number ∷ [] = search rules in
    record {
      read = subst (λ (ns : List ℕ). HasRead (bits_of c.args.bytes.now) (c.in-Ok.code.0 - 1) ns (c.loop.at + c.in-Ok-number_at.width)) (sym pushed)
          (read_more (bits_of c.args.bytes.now) (c.in-Ok.code.0 - 1) c.loop.numbers.items c.loop.at c.in-Ok-number_at.number c.in-Ok-number_at.width c.loop.invariant.read c.in-Ok-number_at.ensures);
      count = ap length pushed ∙ omega (arith, length-append c.loop.numbers.items (c.in-Ok-number_at.number ∷ []), c.loop.invariant.count);
    }

read_id : (c : In-Ok-padding_at) → HasUnpacked c.args.bytes.now c.loop.numbers.items c.in-Ok-padding_at.used
read_id c =
    let count : length c.loop.numbers.items ≡ c.in-Ok.code.0 - 1 = omega (arith, c.loop.invariant.count) in
    unpacked c.args.bytes.now c.loop.numbers.items c.loop.at c.in-Ok-padding_at.used (search rules) (all_read (bits_of c.args.bytes.now) (c.in-Ok.code.0 - 1) c.loop.numbers.items c.loop.at count c.loop.invariant.read) c.in-Ok-padding_at.ensures

pub returns-in-Ok-padding_at-clause-ok : goal.returns-in-Ok-padding_at-clause-ok
returns-in-Ok-padding_at-clause-ok c = (read_id (goal.at.returns-in-Ok-padding_at-clause-ok c).In-Ok-padding_at).begins ∙ ap (λ (id : List ℕ). packed id ++ drop c.in-Ok-padding_at.used c.args.bytes.now) (sym c.from_numbers.ensures)

pub returns-in-Ok-padding_at-clause-used : goal.returns-in-Ok-padding_at-clause-used
returns-in-Ok-padding_at-clause-used c = (read_id (goal.at.returns-in-Ok-padding_at-clause-used c).In-Ok-padding_at).used_is ∙ ap (λ (id : List ℕ). length (packed id)) (sym c.from_numbers.ensures)

pub returns-in-Ok-padding_at-clause-one : goal.returns-in-Ok-padding_at-clause-one
returns-in-Ok-padding_at-clause-one c = λ id rest valid e.
    let r = read_id (goal.at.returns-in-Ok-padding_at-clause-one c).In-Ok-padding_at in
    c.from_numbers.ensures ∙ one_front c.args.bytes.now c.loop.numbers.items id (drop c.in-Ok-padding_at.used c.args.bytes.now) rest r.valid valid r.begins e

pub returns-in-Err-padding_at-clause-bad : goal.returns-in-Err-padding_at-clause-bad
returns-in-Err-padding_at-clause-bad c = λ at e.
    let same : c.in-Err-padding_at.at ≡ at = cc in
    let count : length c.loop.numbers.items ≡ c.in-Ok.code.0 - 1 = omega (arith, c.loop.invariant.count) in
    subst (λ (k : ℕ). IsNoPacked c.args.bytes.now × IsLongestPacked c.args.bytes.now k) same
    (stop_is c.args.bytes.now c.in-Err-padding_at.at (padding_stops (bits_of c.args.bytes.now) c.loop.numbers.items c.loop.at c.in-Err-padding_at.at (all_read (bits_of c.args.bytes.now) (c.in-Ok.code.0 - 1) c.loop.numbers.items c.loop.at count c.loop.invariant.read) c.in-Err-padding_at.ensures))
