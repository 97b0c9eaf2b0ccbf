-- Reading from left to right, with the place where it stops: how readers are put together.
use Rattle.std.specs.Prelude.{◌≡◌, ℕ, zero, suc, Bool, true, false, not, List, [], ◌∷◌, length, take, drop, Option, Some, None, Result, Ok, Err, nat_lt, ◌==◌, if◌then◌else◌}
use Rattle.std.specs.Int.{Width, w32, byte_len, from_be_bytes}
use Rattle.fs_ident.specs.Bytes.{number_in_front}
use Rattle.fs_wire.specs.declared.fault.Fault.{Fault}
use Rattle.fs_wire.specs.declared.fault.ReadError.{ReadError}
use Rattle.fs_wire.specs.declared.fault.ReadError.TheVariants as errors

infixl 10 ◌>>=◌
abbrev pub ◌>>=◌ : {A B : Type 0} → Result A Fault → (A → Result B Fault) → Result B Fault
(Ok x) >>= f = f x
(Err e) >>= f = Err e

-- What a function returned, seen by view, is what reading gives, unless memory ran out.
abbrev pub Fails : {Y : Type 0} → ReadError → Result Y Fault → Type 0
Fails errors.Memory read = Unit {0}
Fails (errors.Fault f) read = read ≡ Err f

abbrev pub Gives : {X Y : Type 0} → (X → Y) → Result X ReadError → Result Y Fault → Type 0
Gives view (Ok x) read = read ≡ Ok (view x)
Gives view (Err e) read = Fails e read

-- what is read, and the bytes behind it
abbrev pub Reader : Type 0 → Type 0
Reader A = List ℕ → Result (A × List ℕ) Fault

-- reading stops before the last bytes, at a tag or at another byte
abbrev pub stop : {A : Type 0} → Bool → ℕ → Result A Fault
stop tag left = Err (record { left = left; tag = tag })

-- ---- how readers are put together

-- what is read, and then what the first value asks for
unfoldable pub then_at : {A B : Type 0} → Reader A → (A → Reader B) → Reader B
then_at read more bytes = read bytes >>= λ x. more x.0 x.1

-- what is read, as something else
unfoldable pub map_at : {A B : Type 0} → (A → B) → Reader A → Reader B
map_at make read bytes = read bytes >>= λ x. Ok (make x.0, x.1)

-- nothing is read
unfoldable pub always_at : {A : Type 0} → A → Reader A
always_at x bytes = Ok (x, bytes)

-- one reader or the other
unfoldable pub either_at : {A : Type 0} → Bool → Reader A → Reader A → Reader A
either_at true first second bytes = first bytes
either_at false first second bytes = second bytes

unfoldable pub pair_at : {A B : Type 0} → Reader A → Reader B → Reader (A × B)
pair_at first second bytes = then_at first (λ x. map_at (λ y. (x, y)) second) bytes

-- so many of them, one after the other
unfoldable pub many_at : {A : Type 0} → Reader A → ℕ → Reader (List A)
many_at read zero bytes = always_at [] bytes
many_at read (suc n) bytes = then_at read (λ x. map_at (λ xs. x ∷ xs) (many_at read n)) bytes

-- ---- bytes and numbers

-- one byte that passes a test
unfoldable pub one_at : Bool → (ℕ → Bool) → Reader ℕ
one_at tag test [] = stop tag 0
one_at tag test (b ∷ bytes) = if test b then Ok (b, bytes) else stop tag (length (b ∷ bytes))

unfoldable pub byte_at : Reader ℕ
byte_at bytes = one_at false (λ b. true) bytes

-- one byte below a limit: a choice, and the tag of one
unfoldable pub choice_at : ℕ → Reader ℕ
choice_at limit bytes = one_at false (λ b. nat_lt b limit) bytes

unfoldable pub tag_at : ℕ → Reader ℕ
tag_at limit bytes = one_at true (λ b. nat_lt b limit) bytes

-- a number of so many bytes
unfoldable pub number_at : Width → Reader ℕ
number_at w bytes = if nat_lt (length bytes) (byte_len w) then stop false 0
    else Ok (from_be_bytes w (take (byte_len w) bytes), drop (byte_len w) bytes)

unfoldable pub four_at : Reader ℕ
four_at bytes = number_at w32 bytes

-- what stands in front, if it is long enough
abbrev pub if_long : {A : Type 0} → Option A → Result A Fault
if_long (Some x) = Ok x
if_long None = stop false 0

unfoldable pub eight_at : Reader ℕ
eight_at bytes = if_long (number_in_front bytes)

-- a list behind its count
unfoldable pub list_at : {A : Type 0} → Reader A → Reader (List A)
list_at read bytes = then_at eight_at (many_at read) bytes

unfoldable pub option_at : {A : Type 0} → Reader A → Reader (Option A)
option_at read bytes = then_at (choice_at 2) (λ flag. either_at (flag == 0) (always_at None) (map_at (λ x. Some x) read)) bytes

abbrev pub truth_of : ℕ → Bool
truth_of flag = not (flag == 0)

unfoldable pub truth_at : Reader Bool
truth_at bytes = map_at truth_of (choice_at 2) bytes
