-- What a client's event leaves of a cluster as it was.
use Rattle.std.proofs.Common.{◌≡◌, ℕ, ◌<◌, ◌==◌, true, false, List, [], ◌∷◌, length, cond, refl, ap, inl, arith}
use Rattle.std.specs.Prelude.{Option, Some, None}
use Rattle.fs_ident.specs.In.{In}
use Rattle.fs_ident.specs.declared.actor.Session.{Session}
use Rattle.fs_msg.specs.declared.item.Item.{Item}
use Rattle.fs_server.specs.declared.state.Server.{Server}
use Rattle.fs_serial.specs.Cluster.{Cluster, InFlight, Lines, parcels_of}
use Rattle.fs_serial.specs.Fresh.{IsMade}
use Rattle.fs_serial.specs.Places.{PlacesHold, places_for, IsUnderway}
use Rattle.fs_serial.specs.World.{Ends, pushed, with_ends}
use Rattle.fs_serial.proofs.Lists.Journals.{session_itself}
use Rattle.fs_serial.proofs.OneServer.StepPlaces.{made_still}

-- ## What was made stays so

pub made_later : (is : List Item) (o : Option Item) (id : List ℕ) → IsMade is id → IsMade (pushed o is) id
made_later is None id h = h
made_later is (Some i) id h = made_still is (i ∷ []) id h

pub places_later : (c : Cluster) (journal : List Item) (replied : Session → List Item) (lines : Session → Lines) → ((id : List ℕ) → IsMade c.journal id → IsMade journal id) → PlacesHold c → PlacesHold (record { servers = c.servers; in_flight = c.in_flight; journal = journal; replied = replied; lines = lines })
places_later c journal replied lines still p = record {
  one = p.one;
  homes = λ s i. let home = p.homes s i in record { map = home.map; listed = λ place j. still place (home.listed place j); rows = home.rows; records = home.records; ordered = home.ordered };
  sent = λ a i. let q = p.sent a i in record { formed = q.formed; given = q.given; listed = λ place j. still place (q.listed place j); each = q.each; ordered = q.ordered; unlocked = q.unlocked };
  goes = p.goes;
  ordered = p.ordered;
  numbered = p.numbered;
  named = p.named;
}

-- ## There is a server

not_empty : (ss : List Server) (n : ℕ) → n < length ss → (s : Server) × In s ss
not_empty [] n h = absurd (omega arith)
not_empty (s ∷ ss) n h = (s, inl refl)

-- each identifier has a place: a server, or a parcel on its way to one
server_for : (servers ss : List Server) (fs : List InFlight) → ((s : Server) → In s ss → In s servers) → ((f : InFlight) → In f fs → IsUnderway (length servers) f) → places_for [] ss (parcels_of fs) ≡ 1 → (s : Server) × In s servers
server_for servers (s ∷ ss) fs among to one = (s, among s (inl refl))
server_for servers [] (f ∷ fs) among to one = not_empty servers f.to (to f (inl refl)).to
server_for servers [] [] among to one = absurd (omega arith)

pub some_server : (c : Cluster) → PlacesHold c → (s : Server) × In s c.servers
some_server c p = server_for c.servers c.servers c.in_flight (λ s i. i) p.goes (p.one [])

-- ## Ends that were replaced

pub ends_here : (by : Session) (e : Ends) (ends : Session → Ends) → with_ends by e ends by ≡ e
ends_here by e ends = ap (λ b. cond b e (ends by)) (session_itself by)

pub ends_twice : (by : Session) (d e : Ends) (ends : Session → Ends) (x : Session) → with_ends by d (with_ends by e ends) x ≡ with_ends by d ends x
ends_twice by d e ends x = elim (by.0 == x.0) as (λ b. cond b d (cond b e (ends x)) ≡ cond b d (ends x)) [ true ↦ refl | false ↦ refl ]
