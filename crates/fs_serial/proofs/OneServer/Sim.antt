-- A step comes to the same at a server and at the one that has all.
use Rattle.std.proofs.Common.{◌≡◌, ℕ, List, [], ◌∷◌, ◌++◌, refl}
use Rattle.std.specs.Prelude.{Option, Some, None}
use Rattle.fs_ident.specs.declared.actor.LeaseNo.{LeaseNo}
use Rattle.fs_ident.specs.declared.actor.Peer.{Peer}
use Rattle.fs_ident.specs.declared.actor.Session.{Session}
use Rattle.fs_field.specs.declared.row.Row.{Row}
use Rattle.fs_msg.specs.declared.msg.Msg.{Msg}
use Rattle.fs_server.specs.Asks.{recall_of}
use Rattle.fs_server.specs.Server.{Stepped}
use Rattle.fs_server.specs.Step.{recalls_of}
use Rattle.fs_server.specs.declared.state.Server.{Server}
use Rattle.fs_serial.specs.Cluster.{in_flight_from}
use Rattle.fs_serial.proofs.Places.OtherPlaces.{IsApart, IsSelf, Rest, joined}

-- the same comes of both, the second server is the first with the rest, and nothing goes to another server
pub record IsSim (rest : Rest) (s : Server) (big small : Stepped) : Type 0 where
  pub out : small.out ≡ big.out
  pub server : big.server ≡ joined rest small.server
  pub apart : IsApart rest small.server
  pub self : IsSelf s small.server
  pub quiet : (k : ℕ) → in_flight_from k small.out.send ≡ []

-- what is asked back goes to a session
pub recall_quiet : (k : ℕ) (n : LeaseNo) (o : Option Row) (more : List (Peer × Msg)) → in_flight_from k (recall_of n o ++ more) ≡ in_flight_from k more
recall_quiet k n None more = refl
recall_quiet k n (Some row) more = refl

pub recall_alone : (k : ℕ) (n : LeaseNo) (o : Option Row) → in_flight_from k (recall_of n o) ≡ []
recall_alone k n None = refl
recall_alone k n (Some row) = refl

pub recalls_quiet : (k : ℕ) (leases : List (LeaseNo × Session)) → in_flight_from k (recalls_of leases) ≡ []
recalls_quiet k [] = refl
recalls_quiet k (x ∷ xs) = recalls_quiet k xs
