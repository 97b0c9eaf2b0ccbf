-- What is made of texts is a text.
use Rattle.std.proofs.Common.{◌≡◌, ◌<◌, ◌≤◌, ◌&&◌, ℕ, List, [], ◌++◌, sym, subst, true, false, not, length, get_or, arith, refl}
use Rattle.std.specs.Prelude.{nat_le}
use Rattle.std.specs.List.{position_or_len}
use Rattle.std.specs.Str.{IsAscii, IsUtf8}
use Rattle.std.proofs.lemmas.Bool.Decides.{nat_tests}
use Rattle.std.proofs.lemmas.List.Elements.{All-from_get_or}
use Rattle.std.proofs.lemmas.List.Sums.{fails_before_first}
use Rattle.std.proofs.lemmas.Str.Ascii.{IsAscii-from_all}
use Rattle.std.proofs.lemmas.Str.{IsUtf8-append, IsUtf8-from_ascii, IsUtf8-nil}
use Rattle.fs_ident.proofs.Booleans.{both}
use Rattle.fs_ident.proofs.Options.{none_before}
use Rattle.fs_ident.specs.Name.{IsName, is_name_byte, is_reserved}

-- a text behind a text
pub added : (old new piece : List ℕ) → new ≡ old ++ piece → IsUtf8 piece → IsUtf8 old → IsUtf8 new
added old new piece e p o = subst IsUtf8 (sym e) (IsUtf8-append old piece o p)

-- no bytes are a text
pub none_is : (bytes : List ℕ) → bytes ≡ [] → IsUtf8 bytes
none_is bytes e = subst IsUtf8 (sym e) IsUtf8-nil

-- ## Names

is_printed : (b : ℕ) → not (is_name_byte b) ≡ false → b < 128
is_printed b h = elim (is_name_byte b) as (λ t. is_name_byte b ≡ t → not t ≡ false → b < 128) [
  | true ↦ λ e k. let q = both (nat_le 32 b && nat_le b 126) (not (is_reserved b)) e in let r = both (nat_le 32 b) (nat_le b 126) q.0 in grind (arith, nat_tests, r.1)
  | false ↦ λ e k. absurd (cc)
] refl h

name_ascii : (name : List ℕ) → IsName name → IsAscii name
name_ascii name h =
    let all : length name ≤ position_or_len (λ b. not (is_name_byte b)) name = none_before (position_or_len (λ b. not (is_name_byte b)) name) (length name) h.good in
    IsAscii-from_all name (All-from_get_or (λ b. b < 128) name 0 (λ i lt. is_printed (get_or name i 0) (fails_before_first (λ b. not (is_name_byte b)) name i 0 (omega (arith, all, lt)))))

-- a name behind a text
pub name_added : (old new name : List ℕ) → new ≡ old ++ name → IsName name → IsUtf8 old → IsUtf8 new
name_added old new name e h o = added old new name e (IsUtf8-from_ascii name (name_ascii name h)) o
