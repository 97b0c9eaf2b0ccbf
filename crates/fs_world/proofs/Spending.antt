-- The counter that a client's event would have raised above its end.
use Rattle.std.proofs.Common.{◌≡◌, ◌⊎◌, Bool, true, false, Result, Ok, Err, IsErrOf, refl, ap, inl, inr}
use Rattle.std.specs.Prelude.{Option, Some, None}
use Rattle.fs_msg.specs.declared.core_error.Counter.{Counter}
use Rattle.fs_msg.specs.declared.core_error.Counter.TheVariants.{Segments}
use Rattle.fs_msg.specs.declared.core_error.CoreError.{CoreError}
use Rattle.fs_msg.specs.declared.core_error.CoreError.TheVariants as errors
use Rattle.fs_actor.specs.Actor.{first_spent}

-- the counter that is spent is that of the link
pub spent_link : (counter : Counter) (full : Bool) → first_spent None full ≡ Some counter → (full ≡ true) × (Segments ≡ counter)
spent_link counter true e = (refl, cc)
spent_link counter false e = absurd (cc)

-- the same error under another answer
pub refused_as : {T U : Type 0} (x : CoreError) (counter : Counter) → Segments ≡ counter → IsErrOf {T =
    T} (Err x) (errors.Spent Segments) ⊎ IsErrOf {T = T} (Err x) errors.Memory
    → IsErrOf {T = U} (Err x) (errors.Spent counter) ⊎ IsErrOf {T = U} (Err x) errors.Memory
refused_as {U = U} x counter e (inl p) =
    inl (let q : x ≡ errors.Spent counter = cc in ap (λ (y : CoreError). let r : Result U CoreError = Err y in r) q)
refused_as {U = U} x counter e (inr p) =
    inr (let q : x ≡ errors.Memory = cc in ap (λ (y : CoreError). let r : Result U CoreError = Err y in r) q)

-- what was answered is no error
pub no_error : {T : Type 0} (x : T) (a b : CoreError) → IsErrOf (Ok x) a ⊎ IsErrOf (Ok x) b → ⊥
no_error x a b (inl e) = absurd (cc)
no_error x a b (inr e) = absurd (cc)

-- where no counter is spent there is room on the link
pub has_room : (core : Option Counter) (full : Bool) → first_spent core full ≡ None → full ≡ false
has_room (Some counter) full h = absurd (cc)
has_room None true h = absurd (cc)
has_room None false h = refl
