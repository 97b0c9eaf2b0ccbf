-- What calls answer where memory may run out.
use Rattle.std.specs.Prelude.{◌≡◌, ℕ, zero, suc, ◌-◌, Bool, true, false, List, length, Result, Ok, Err}
use Rattle.fs_msg.specs.declared.msg.Msg.{Msg}
use Rattle.fs_msg.specs.declared.error.MsgError.{MsgError}
use Rattle.fs_msg.specs.declared.error.MsgError.TheVariants as errors
use Rattle.fs_wire.specs.declared.fault.Fault.{Fault}

-- the answer is this value, unless memory runs out
abbrev pub IsOkOrMemory : {A : Type 0} → Result A MsgError → A → Type 0
IsOkOrMemory (Ok x) y = x ≡ y
IsOkOrMemory (Err e) y = e ≡ errors.Memory

-- the answer is this error, unless memory runs out
abbrev pub IsErrOrMemory : {A : Type 0} → Result A MsgError → MsgError → Type 0
IsErrOrMemory (Ok x) d = ⊥
IsErrOrMemory (Err errors.Memory) d = Unit {0}
IsErrOrMemory (Err e) d = e ≡ d

-- the answer is the other one, unless memory runs out
abbrev pub IsAnswer : {A : Type 0} → Result A MsgError → Result A MsgError → Type 0
IsAnswer (Ok x) r = r ≡ Ok x
IsAnswer (Err errors.Memory) r = Unit {0}
IsAnswer (Err e) r = r ≡ Err e

-- the error of reading that stops before the last bytes of so many
abbrev pub error_at : ℕ → ℕ → Bool → MsgError
error_at len zero tag = errors.Short
error_at len (suc n) true = errors.Tag (len - suc n)
error_at len (suc n) false = errors.Range (len - suc n)

-- what was read, with its length
abbrev pub with_length : List ℕ → Result (Msg × List ℕ) Fault → Result (Msg × ℕ) MsgError
with_length bytes (Ok x) = Ok (x.0, length bytes - length x.1)
with_length bytes (Err f) = Err (error_at (length bytes) f.left f.tag)

-- the message, if no bytes of so many are left behind it
abbrev pub unless_left : Msg → ℕ → ℕ → Result Msg MsgError
unless_left m len zero = Ok m
unless_left m len (suc n) = Err (errors.Trailing (len - suc n))

-- what was read, if nothing is left
abbrev pub as_whole : List ℕ → Result (Msg × List ℕ) Fault → Result Msg MsgError
as_whole bytes (Ok x) = unless_left x.0 (length bytes) (length x.1)
as_whole bytes (Err f) = Err (error_at (length bytes) f.left f.tag)
