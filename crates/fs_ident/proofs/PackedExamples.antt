-- Worked examples of packed identifiers.
use Rattle.std.proofs.Common.{◌≡◌, [], ◌∷◌, refl}
use Rattle.std.specs.Int.Count.{count_leading_zeros}
use Rattle.fs_ident.specs.Packed.{binary, log2, gamma, padded, packed_bits, number_of, bytes_of, packed}

pub root_is : packed [] ≡ 128 ∷ []
unfolding binary log2 gamma padded packed_bits number_of bytes_of packed count_leading_zeros
root_is = refl

pub five_is : packed (5 ∷ []) ≡ 69 ∷ []
unfolding binary log2 gamma padded packed_bits number_of bytes_of packed count_leading_zeros
five_is = refl

pub one_three_is : packed (1 ∷ 3 ∷ []) ≡ 118 ∷ []
unfolding binary log2 gamma padded packed_bits number_of bytes_of packed count_leading_zeros
one_three_is = refl

pub greatest_is : packed (4294967295 ∷ []) ≡ 64 ∷ 0 ∷ 0 ∷ 0 ∷ 63 ∷ 255 ∷ 255 ∷ 255 ∷ 192 ∷ []
unfolding binary log2 gamma padded packed_bits number_of bytes_of packed count_leading_zeros
greatest_is = refl
