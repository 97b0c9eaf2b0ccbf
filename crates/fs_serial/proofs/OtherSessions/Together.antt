-- One session's client changes, and all others stay.
use Rattle.std.proofs.Common.{◌≡◌, ℕ, ◌==◌, true, false, List, refl, ap, subst, cond}
use Rattle.fs_ident.specs.declared.actor.Session.{Session}
use Rattle.fs_ident.proofs.Same.{one_session}
use Rattle.fs_msg.specs.declared.item.Item.{Item}
use Rattle.fs_record.specs.Records.{RecordMap}
use Rattle.fs_serial.specs.Fresh.{Claim, FreshReserved, Reserved, reserved_by}
use Rattle.fs_serial.specs.Parts.{AllHold, SessionHolds, SessionFits, with_client, with_replies}
use Rattle.fs_serial.specs.Settled.{Settled}
use Rattle.fs_serial.specs.Sight.{Sight}
use Rattle.fs_serial.proofs.Grants.Claims.{NoneAnew, Was, none_anew, one_still, was_there}
use Rattle.fs_serial.proofs.Lists.Journals.{session_itself}

-- what holds of the changed client, and of all others, holds of all
pub each_session : {X : Type 0} (P : Session → X → Type 0) (by : Session) (d : X) (clients : Session → X) → P by d → ((x : Session) → (by.0 == x.0) ≡ false → P x (clients x)) → (x : Session) → P x (cond (by.0 == x.0) d (clients x))
each_session P by d clients own others x = elim (by.0 == x.0) as (λ b. (by.0 == x.0) ≡ b → P x (cond b d (clients x))) [
  | true ↦ λ t. subst (λ y. P y d) (one_session by x t) own
  | false ↦ λ t. others x t
] refl

-- the changed client is the session's
pub its_client : {X : Type 0} (by : Session) (d : X) (clients : Session → X) → cond (by.0 == by.0) d (clients by) ≡ d
its_client by d clients = ap (λ b. cond b d (clients by)) (session_itself by)

-- the others are not
pub other_client : {X : Type 0} (by x : Session) (d : X) (clients : Session → X) → (by.0 == x.0) ≡ false → cond (by.0 == x.0) d (clients x) ≡ clients x
other_client by x d clients h = ap (λ b. cond b d (clients x)) h

-- fewer identifiers are reserved
pub fewer_reserved : (old new : Reserved) (m : RecordMap) (journal : List Item) → ((x : Session) (n : Claim) (i : List ℕ) → new x n i → Was (old x) n i) → FreshReserved old m journal → FreshReserved new m journal
fewer_reserved old new m journal fewer f = record {
  once = λ x y n k i j a b p. one_still old m journal f x y n k i j (fewer x n i a) (fewer y k j b) p;
  unmade = λ x n i j a h p. let q = was_there (old x) n i (fewer x n i a) in f.unmade x q.0 i j q.1 h p;
  made_before = f.made_before;
  reserved_before = λ dir k x n j d le a p. let q = was_there (old x) n j (fewer x n j a) in f.reserved_before dir k x q.0 j d le q.1 p;
}

-- a client changes, and the servers do not
pub client_changes : (skew greatest : ℕ) (s : Sight) (replied : Session → List Item) (clients : Session → Settled) (by : Session) (more : List Item) (d : Settled) → AllHold skew greatest s replied clients
    → SessionHolds skew greatest s by more d → SessionFits skew greatest s by d → NoneAnew (clients by) d
    → AllHold skew greatest s (with_replies by more replied) (with_client by d clients)
client_changes skew greatest s replied clients by more d h holds fits fewer = record {
  servers = h.servers;
  kept = h.kept;
  sessions = λ x. elim (by.0 == x.0) as (λ b. (by.0 == x.0) ≡ b → SessionHolds skew greatest s x (cond b more (replied x)) (cond b d (clients x))) [
    | true ↦ λ t. subst (λ y. SessionHolds skew greatest s y more d) (one_session by x t) holds
    | false ↦ λ t. h.sessions x
  ] refl;
  fitting = each_session (λ x c. SessionFits skew greatest s x c) by d clients fits (λ x other. h.fitting x);
  reserved = fewer_reserved (reserved_by clients) (reserved_by (with_client by d clients)) s.stored s.journal
      (each_session (λ x (c : Settled). NoneAnew (clients x) c) by d clients fewer (λ x other. none_anew (clients x))) h.reserved;
}
