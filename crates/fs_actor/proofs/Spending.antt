-- The counter that a client's event would have raised above its end.
use Rattle.std.proofs.Common.{◌≡◌, ◌⊎◌, Bool, true, false, Ok, IsErrOf, refl, inl, inr}
use Rattle.std.specs.Prelude.{Option, Some, None}
use Rattle.fs_msg.specs.declared.core_error.Counter.{Counter}
use Rattle.fs_msg.specs.declared.core_error.Counter.TheVariants.{Segments}
use Rattle.fs_msg.specs.declared.core_error.CoreError.{CoreError}
use Rattle.fs_msg.specs.declared.core_error.CoreError.TheVariants as errors
use Rattle.fs_actor.specs.Actor.{first_spent}

-- where the link is full that is the counter
pub full_link : (counter : Counter) (full : Bool) → (counter ≡ Segments) × (full ≡ true) → first_spent None full ≡ Some counter
full_link counter true e = cc
full_link counter false e = absurd (cc)

-- what was answered is no error
pub no_error : {T : Type 0} (x : T) (a b : CoreError) → IsErrOf (Ok x) a ⊎ IsErrOf (Ok x) b → ⊥
no_error x a b (inl e) = absurd (cc)
no_error x a b (inr e) = absurd (cc)

-- a counter that is not spent is none
pub nothing_spent : (o : Option Counter) → ((counter : Counter) → o ≡ Some counter → ⊥) → o ≡ None
nothing_spent None unspent = refl
nothing_spent (Some counter) unspent = absurd (unspent counter refl)
