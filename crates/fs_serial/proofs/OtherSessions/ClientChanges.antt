-- One session's client changes more than once.
use Rattle.std.proofs.Common.{◌≡◌, ℕ, ◌==◌, Bool, true, false, List, refl, ap, subst, cond}
use mathlib.Core.Path.{fun_ext}
use Rattle.fs_ident.specs.declared.actor.Session.{Session}
use Rattle.fs_ident.proofs.Same.{one_session}
use Rattle.fs_msg.specs.declared.item.Item.{Item}
use Rattle.fs_serial.specs.Parts.{with_client}
use Rattle.fs_serial.specs.Settled.{Settled}
use Rattle.fs_serial.specs.Sight.{Sight}
use Rattle.fs_serial.specs.World.{Ends, GoesOn}
use Rattle.fs_serial.proofs.OtherSessions.Together.{its_client}

twice : {X : Type 0} (b : Bool) (x y z : X) → cond b x (cond b y z) ≡ cond b x z
twice true x y z = refl
twice false x y z = refl

pub client_again : (by : Session) (c d : Settled) (clients : Session → Settled) → with_client by d (with_client by c clients) ≡ with_client by d clients
client_again by c d clients = fun_ext (λ x. twice (by.0 == x.0) d c (clients x))

pub its_own : {X : Type 0} (by x : Session) (clients : Session → X) (b : Bool) → (by.0 == x.0) ≡ b → cond b (clients by) (clients x) ≡ clients x
its_own by x clients true e = ap clients (one_session by x e)
its_own by x clients false e = refl

pub client_same : (by : Session) (clients : Session → Settled) → with_client by (clients by) clients ≡ clients
client_same by clients = fun_ext (λ x. its_own by x clients (by.0 == x.0) refl)

-- what goes on for a change of the changed client goes on for the change of that one
pub goes_again : (skew greatest : ℕ) (t : Sight) (replied : Session → List Item) (ends : Session → Ends) (base : Session → Settled) (by : Session) (d : Settled) (f : Settled → Settled)
    → GoesOn skew greatest t replied ends (with_client by (f (with_client by d base by)) (with_client by d base)) → GoesOn skew greatest t replied ends (with_client by (f d) base)
goes_again skew greatest t replied ends base by d f h =
    subst (λ c. GoesOn skew greatest t replied ends c) (client_again by d (f d) base)
    (subst (λ (x : Settled). GoesOn skew greatest t replied ends (with_client by (f x) (with_client by d base))) (its_client by d base) h)
