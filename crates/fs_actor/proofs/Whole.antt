-- The message that bytes are, all of them: what reading them gives.
use Rattle.std.proofs.Common.{◌≡◌, ℕ, List, [], ◌∷◌, ◌++◌, Result, Ok, Err, refl, sym, ap, subst, ◌∙◌}
use Rattle.std.specs.Prelude.{Option, Some, None, IfOk, IfSome, OnOk}
use Rattle.std.proofs.lemmas.List.{append-nil}
use Rattle.fs_wire.specs.Ranges.{IsBytes}
use Rattle.fs_wire.specs.declared.fault.Fault.{Fault}
use Rattle.fs_msg.specs.Ranges.{FitsMessage}
use Rattle.fs_msg.specs.Reading.{message_at}
use Rattle.fs_msg.specs.Spelling.{message}
use Rattle.fs_actor.specs.Whole.{if_all, if_alone, whole_message}
use Rattle.fs_ident.specs.declared.memory.Memory.{Memory}
use Rattle.fs_msg.specs.declared.error.MsgError.{MsgError}
use Rattle.fs_msg.specs.declared.error.MsgError.TheVariants as errors
use Rattle.fs_msg.specs.declared.msg.Msg.{Msg}
use Rattle.fs_msg.proofs.Exact.{was-read, whole-again}

pub read-again : (m : Msg) → FitsMessage m → whole_message (message m) ≡ Some m
read-again m fits = ap if_all (whole-again m fits)

-- ## What was read

alone : (m : Msg) (rest : List ℕ) (n : Msg) → if_alone m rest ≡ Some n → (rest ≡ []) × (m ≡ n)
alone m [] n e = (refl, cc)
alone m (b ∷ rest) n e = absurd (cc)

read-by : (bytes : List ℕ) → IsBytes bytes → (z : Result (Msg × List ℕ) Fault) → message_at bytes ≡ z → (m : Msg) → if_all z ≡ Some m → FitsMessage m × (bytes ≡ message m)
read-by bytes fits (Ok x) is m e =
    let a = alone x.0 x.1 m e in
    let r = was-read bytes x fits is in
    let all : bytes ≡ message x.0 = r.parts ∙ ap (λ (z : List ℕ). message x.0 ++ z) a.0 ∙ append-nil (message x.0) in
    subst (λ (z : Msg). FitsMessage z × (bytes ≡ message z)) a.1 (r.fits, all)
read-by bytes fits (Err f) is m e = absurd (cc)

pub read-only : (bytes : List ℕ) (m : Msg) → IsBytes bytes → whole_message bytes ≡ Some m → FitsMessage m × (bytes ≡ message m)
read-only bytes m fits e = read-by bytes fits (message_at bytes) refl m e

-- ## What is no message

pub unread : (bytes : List ℕ) → IsBytes bytes → ((m : Msg) → FitsMessage m → bytes ≡ message m → ⊥) → whole_message bytes ≡ None
unread bytes fits none = either (whole_message bytes) refl
  where
    either : (o : Option Msg) → whole_message bytes ≡ o → whole_message bytes ≡ None
    either None e = e
    either (Some m) e = let r = read-only bytes m fits e in absurd (none m r.0 r.1)

-- an error of a call that reads the bytes
pub none_read : (r : Result (Option Msg) Memory) (bytes : List ℕ) (e : MsgError) → IsBytes bytes → ((m : Msg) → FitsMessage m → bytes ≡ message m → e ≡ errors.Memory)
    → IfOk r (λ (m : Option Msg). m ≡ None) → OnOk r (e ≡ errors.Memory → ⊥) → IfOk r (λ (m : Option Msg). m ≡ whole_message bytes)
none_read (Ok m) bytes e fits only none other = none ∙ sym (unread bytes fits (λ n f s. other (only n f s)))
none_read (Err x) bytes e fits only none other = tt

pub none_fits : (r : Result (Option Msg) Memory) → IfOk r (λ (m : Option Msg). m ≡ None) → IfOk r (λ (m : Option Msg). IfSome m FitsMessage)
none_fits (Ok m) none = subst (λ (o : Option Msg). IfSome o FitsMessage) (sym none) tt
none_fits (Err x) none = tt
