-- Bits that are written into bytes.
use Rattle.std.proofs.Common.{◌≡◌, ℕ, ◌+◌, ◌-◌, ◌*◌, ◌/◌, ◌%◌, ◌^◌, ◌<◌, ◌≤◌, Bool, false, List, [], ◌∷◌, ◌++◌, length, take, replicate, refl, sym, ◌∙◌, ap, append_assoc, arith, length-append}
use Rattle.std.proofs.lemmas.List.{append-nil, length-take-le}
use Rattle.std.specs.List.{All}
use Rattle.std.proofs.lemmas.Nat.{shr-shr, shl_whole, div-mul-add, mod-mul-add}
use Rattle.std.proofs.Math.Nat.{pow-suc}
use Rattle.fs_ident.specs.Packed.{binary, log2, gamma, padded, bits_of, bytes_of}
use Rattle.fs_ident.specs.Bits.{written, count_of}
use Rattle.fs_ident.specs.declared.bit_writer.BitWriter.{BitWriter}
use Rattle.fs_ident.proofs.Binary.{length-binary, binary-append, binary_low, binary_zero}
use Rattle.fs_ident.proofs.Codes.{log2_is}
use Rattle.fs_ident.proofs.Packs.{bits_of-append, bytes_of-bits_of}
use Rattle.fs_ident.proofs.Words.{length-bits_of, gamma_at}

no_digits : (n : ℕ) → binary 0 n ≡ []
unfolding binary
no_digits n = refl

no_bits : bits_of [] ≡ []
unfolding bits_of
no_bits = refl

pub nothing_written : (room : List ℕ) → written (record { room = room; whole = 0; word = 0; pending = 0 }) ≡ []
unfolding written
nothing_written room = ap (λ (bs : List Bool). bs ++ binary 0 0) no_bits ∙ no_digits 0

-- the pending bits with more behind them
pub pending_more : (word value pending width : ℕ) → word < 2 ^ pending → value < 2 ^ width → pending + width ≤ 64 → binary (pending + width) ((word * 2 ^ width) % 2 ^ 64 + value) ≡ binary pending word ++ binary width value
pending_more word value pending width low fits few =
    let shifted : (word * 2 ^ width) % 2 ^ 64 ≡ word * 2 ^ width = shl_whole word pending width 64 low few in
    let high : (word * 2 ^ width + value) / 2 ^ width ≡ word = div-mul-add word (2 ^ width) value fits in
    let rest : (word * 2 ^ width + value) % 2 ^ width ≡ value = mod-mul-add word (2 ^ width) value fits in
    ap (λ (n : ℕ). binary (pending + width) (n + value)) shifted
    ∙ binary-append pending width (word * 2 ^ width + value)
    ∙ ap (λ (n : ℕ). binary pending n ++ binary width (word * 2 ^ width + value)) high
    ∙ ap (λ (bs : List Bool). binary pending word ++ bs) (sym (binary_low width (word * 2 ^ width + value)) ∙ ap (binary width) rest)

one_byte : (b : ℕ) → bits_of (b ∷ []) ≡ binary 8 b
unfolding bits_of
one_byte b = append-nil (binary 8 b)

-- a byte of the pending bits more
pub byte_more : (before bytes after : List ℕ) (word pending k : ℕ) → 8 * (k + 1) ≤ pending → bits_of bytes ≡ bits_of before ++ binary (8 * k) (word / 2 ^ (pending - 8 * k)) → after ≡ bytes ++ (word / 2 ^ (pending - 8 * (k + 1)) % 256) ∷ []
    → bits_of after ≡ bits_of before ++ binary (8 * (k + 1)) (word / 2 ^ (pending - 8 * (k + 1)))
byte_more before bytes after word pending k le so_far e =
    let next = word / 2 ^ (pending - 8 * (k + 1)) in
    let place : (pending - 8 * (k + 1)) + 8 ≡ pending - 8 * k = omega arith in
    let front : word / 2 ^ (pending - 8 * (k + 1)) / 2 ^ 8 ≡ word / 2 ^ (pending - 8 * k) = shr-shr word (pending - 8 * (k + 1)) 8 ∙ ap (λ (j : ℕ). word / 2 ^ j) place in
    let width : 8 * (k + 1) ≡ 8 * k + 8 = omega arith in
    let digits : binary (8 * (k + 1)) (word / 2 ^ (pending - 8 * (k + 1))) ≡ binary (8 * k) (word / 2 ^ (pending - 8 * k)) ++ binary 8 (word / 2 ^ (pending - 8 * (k + 1))) =
    ap (λ (j : ℕ). binary j (word / 2 ^ (pending - 8 * (k + 1)))) width ∙ binary-append (8 * k) 8 (word / 2 ^ (pending - 8 * (k + 1))) ∙ ap (λ (n : ℕ). binary (8 * k) n ++ binary 8 (word / 2 ^ (pending - 8 * (k + 1)))) front in
    let one : bits_of ((word / 2 ^ (pending - 8 * (k + 1)) % 256) ∷ []) ≡ binary 8 (word / 2 ^ (pending - 8 * (k + 1))) = one_byte (word / 2 ^ (pending - 8 * (k + 1)) % 256) ∙ binary_low 8 (word / 2 ^ (pending - 8 * (k + 1))) in
    ap bits_of e
    ∙ bits_of-append bytes ((word / 2 ^ (pending - 8 * (k + 1)) % 256) ∷ [])
    ∙ ap (λ (bs : List Bool). bs ++ bits_of ((word / 2 ^ (pending - 8 * (k + 1)) % 256) ∷ [])) so_far
    ∙ ap (λ (bs : List Bool). (bits_of before ++ binary (8 * k) (word / 2 ^ (pending - 8 * k))) ++ bs) one
    ∙ append_assoc (bits_of before) (binary (8 * k) (word / 2 ^ (pending - 8 * k))) (binary 8 (word / 2 ^ (pending - 8 * (k + 1))))
    ∙ ap (λ (bs : List Bool). bits_of before ++ bs) (sym digits)

pub no_byte_yet : (before : List ℕ) (word pending : ℕ) → bits_of before ≡ bits_of before ++ binary (8 * 0) (word / 2 ^ (pending - 8 * 0))
no_byte_yet before word pending = sym (ap (λ (bs : List Bool). bits_of before ++ bs) (no_digits (word / 2 ^ (pending - 0))) ∙ append-nil (bits_of before))

-- all whole bytes are written, and fewer than eight bits are left
pub all_written : (old new : BitWriter) (word pending width value : ℕ) → old.word < 2 ^ old.pending → value < 2 ^ width → old.pending < 8 → width ≤ 32 → pending ≡ old.pending + width → word ≡ (old.word * 2 ^ width) % 2 ^ 64 + value
    → new.pending ≡ pending % 8 → new.word ≡ word % 2 ^ (pending % 8)
    → bits_of (take new.whole new.room) ≡ bits_of (take old.whole old.room) ++ binary (8 * (pending / 8)) (word / 2 ^ (pending - 8 * (pending / 8)))
    → written new ≡ written old ++ binary width value
unfolding written
all_written old new word pending width value low fits few narrow p w np nw bytes =
    let rest : pending - 8 * (pending / 8) ≡ pending % 8 = omega arith in
    let all : 8 * (pending / 8) + pending % 8 ≡ pending = omega arith in
    let ends : binary new.pending new.word ≡ binary (pending % 8) word = ap (λ (j : ℕ). binary j new.word) np ∙ ap (binary (pending % 8)) nw ∙ binary_low (pending % 8) word in
    let digits : binary (8 * (pending / 8)) (word / 2 ^ (pending - 8 * (pending / 8))) ++ binary (pending % 8) word ≡ binary pending word = ap (λ (j : ℕ). binary (8 * (pending / 8)) (word / 2 ^ j) ++ binary (pending % 8) word) rest ∙ sym (binary-append (8 * (pending / 8)) (pending % 8) word) ∙ ap (λ (j : ℕ). binary j word) all in
    let put : binary pending word ≡ binary old.pending old.word ++ binary width value = ap (λ (j : ℕ). binary j word) p ∙ ap (binary (old.pending + width)) w ∙ pending_more old.word value old.pending width low fits (omega arith) in
    ap (λ (bs : List Bool). bs ++ binary new.pending new.word) bytes
    ∙ append_assoc (bits_of (take old.whole old.room)) (binary (8 * (pending / 8)) (word / 2 ^ (pending - 8 * (pending / 8)))) (binary new.pending new.word)
    ∙ ap (λ (bs : List Bool). bits_of (take old.whole old.room) ++ (binary (8 * (pending / 8)) (word / 2 ^ (pending - 8 * (pending / 8))) ++ bs)) ends
    ∙ ap (λ (bs : List Bool). bits_of (take old.whole old.room) ++ bs) (digits ∙ put)
    ∙ sym (append_assoc (bits_of (take old.whole old.room)) (binary old.pending old.word) (binary width value))

-- the code of a number is put in
pub code_put : (before zeroed after : List Bool) (n zeros : ℕ) → zeros < 32 → 2 ^ zeros ≤ n → n < 2 * 2 ^ zeros → zeroed ≡ before ++ binary zeros 0 → after ≡ zeroed ++ binary (zeros + 1) n → after ≡ before ++ gamma n
code_put before zeroed after n zeros few low high first second =
    let double : 2 ^ (zeros + 1) ≡ 2 ^ zeros * 2 = ap (λ (m : ℕ). 2 ^ m) (omega arith) ∙ pow-suc 2 zeros in
    let log : log2 n ≡ zeros = log2_is n zeros few low (omega arith) in
    second ∙ ap (λ (bs : List Bool). bs ++ binary (zeros + 1) n) (first ∙ ap (λ (bs : List Bool). before ++ bs) (binary_zero zeros)) ∙ append_assoc before (replicate zeros false) (binary (zeros + 1) n) ∙ ap (λ (bs : List Bool). before ++ bs) (sym (gamma_at n zeros log))

pub length-written : (w : BitWriter) → w.whole ≤ length w.room → length (written w) ≡ count_of w
unfolding written
length-written w le = length-append (bits_of (take w.whole w.room)) (binary w.pending w.word) ∙ omega (arith, length-bits_of (take w.whole w.room), length-take-le w.whole w.room le, length-binary w.pending w.word)

pub pad_put : (old new : BitWriter) (width : ℕ) → old.whole ≤ length old.room → width ≡ (8 - old.pending) % 8 → old.pending < 8 → written new ≡ written old ++ binary width 0 → written new ≡ padded (written old)
unfolding padded
pad_put old new width le w few e =
    let same : (8 - length (written old) % 8) % 8 ≡ width = omega (arith, length-written old le) in
    e ∙ ap (λ (bs : List Bool). written old ++ bs) (binary_zero width) ∙ ap (λ (j : ℕ). written old ++ replicate j false) (sym same)

pub bytes_written : (w : BitWriter) → w.whole ≤ length w.room → w.pending ≡ 0 → All (λ b. b < 256) (take w.whole w.room) → take w.whole w.room ≡ bytes_of (length (written w) / 8) (written w)
unfolding written
bytes_written w le none each =
    let count : length (take w.whole w.room) ≡ w.whole = length-take-le w.whole w.room le in
    let bits : bits_of (take w.whole w.room) ++ binary w.pending w.word ≡ bits_of (take w.whole w.room) ++ [] = ap (λ (j : ℕ). bits_of (take w.whole w.room) ++ binary j w.word) none ∙ ap (λ (bs : List Bool). bits_of (take w.whole w.room) ++ bs) (no_digits w.word) in
    let eighth : length (bits_of (take w.whole w.room) ++ binary w.pending w.word) / 8 ≡ w.whole = ap (λ (bs : List Bool). length bs / 8) (bits ∙ append-nil (bits_of (take w.whole w.room))) ∙ omega (arith, length-bits_of (take w.whole w.room)) in
    sym (ap (λ (j : ℕ). bytes_of j (bits_of (take w.whole w.room) ++ binary w.pending w.word)) eighth ∙ ap (bytes_of w.whole) bits
    ∙ bytes_of-bits_of w.whole (take w.whole w.room) [] count each)
