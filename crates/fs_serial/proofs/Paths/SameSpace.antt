-- What all servers hold together is as it was where one takes a step of path leases.
use Rattle.std.proofs.Common.{◌≡◌, ◌∙◌, Bool, true, false, List, [], ◌∷◌, ◌++◌, ℕ, refl, sym, ap, subst, cond, append-nil}
use Rattle.std.proofs.lemmas.Grind.{flat_map-append}
use Rattle.std.specs.Prelude.{Option, Some, None, slice_get, slice_set}
use Rattle.std.specs.FinMap.{empty}
use Rattle.std.specs.List.{cons_option, filter_map, find, flat_map}
use Rattle.fs_ident.specs.In.{In}
use Rattle.fs_ident.specs.declared.actor.Peer.{Peer}
use Rattle.fs_ident.specs.declared.actor.PathNo.{PathNo}
use Rattle.fs_ident.specs.declared.actor.Peer.TheVariants.{Client as OfSession, Server as OfServer}
use Rattle.fs_ident.specs.declared.kind.Kind.TheVariants.{Dir}
use Rattle.fs_ident.proofs.Standing.{In-got}
use Rattle.fs_msg.specs.declared.msg.Msg.{Msg}
use Rattle.fs_msg.specs.declared.peer_msg.PeerMsg.{PeerMsg}
use Rattle.fs_msg.specs.declared.peer_msg.PeerMsg.TheVariants as peer
use Rattle.fs_msg.specs.declared.msg.Msg.TheVariants as msg
use Rattle.fs_msg.specs.declared.refusal.Refusal.TheVariants as refusal
use Rattle.fs_msg.specs.declared.server_note.ServerNote.{ServerNote}
use Rattle.fs_msg.specs.declared.server_note.ServerNote.TheVariants as note
use Rattle.fs_parcel.specs.declared.error.MoveError.TheVariants as move
use Rattle.fs_path.specs.Leases.{PathLease}
use Rattle.fs_path.specs.Tables.{PathTables}
use Rattle.fs_server.specs.Moves.{peer_step}
use Rattle.fs_server.specs.PathSteps.{asks_back_in, dir_here}
use Rattle.fs_server.specs.Server.{Stepped}
use Rattle.fs_server.specs.declared.event.ServerEvent.{ServerEvent}
use Rattle.fs_server.specs.declared.event.ServerEvent.TheVariants.{FromPeer}
use Rattle.fs_server.specs.declared.state.Server.{Server}
use Rattle.fs_txn.specs.Decided.{held_with}
use Rattle.fs_serial.specs.Cluster.{Cluster, InFlight, IsThere, after_step, in_flight_from, is_between, parcel_in, parcels_of, without_arrived, without_first}
use Rattle.fs_serial.specs.Fresh.{made}
use Rattle.fs_serial.specs.Joined.{effects_by, effects_on_way, records_of_all, with_parcels}
use Rattle.fs_serial.specs.PathLaws.{IsPathMessage}
use Rattle.fs_serial.specs.Paths.{IsTruePath, PathsHold}
use Rattle.fs_serial.specs.Runs.{held_by}
use Rattle.fs_serial.proofs.Moves.Parcels.{parcels-append}
use Rattle.fs_serial.proofs.Moves.PathSteps.{ArePathSends, each_message, no_parcel, none_handed, refused}
use Rattle.fs_serial.proofs.Returns.Lapsing.{same_records}
use Rattle.fs_serial.proofs.Paths.Alike.{all_true, keeps_same, true_alike}

-- ## Messages

pub picked_without : {X Y : Type 0} (pick : X → Option Y) (is : X → Bool) (xs : List X) (x : X) → find is xs ≡ Some x → pick x ≡ None
    → filter_map pick (without_first is xs) ≡ filter_map pick xs
picked_without pick is [] x e n = refl
picked_without {X = X} pick is (y ∷ ys) x e n =
    elim (is y) as (λ b. cond b (Some y) (find is ys) ≡ Some x → filter_map pick (cond b ys (y ∷ without_first is ys)) ≡ cons_option (pick y) (filter_map pick ys)) [
      | true ↦ λ q. let same : y ≡ x = cc in ap (λ o. cons_option o (filter_map pick ys)) (sym (ap pick same ∙ n))
      | false ↦ λ q. ap (cons_option (pick y)) (picked_without pick is ys x q n)
    ] e

pub given_without : {X Y : Type 0} (gives : X → List Y) (is : X → Bool) (xs : List X) (x : X) → find is xs ≡ Some x → gives x ≡ []
    → flat_map gives (without_first is xs) ≡ flat_map gives xs
given_without gives is [] x e n = refl
given_without {X = X} gives is (y ∷ ys) x e n =
    elim (is y) as (λ b. cond b (Some y) (find is ys) ≡ Some x → flat_map gives (cond b ys (y ∷ without_first is ys)) ≡ gives y ++ flat_map gives ys) [
      | true ↦ λ q. let same : y ≡ x = cc in ap (λ zs. zs ++ flat_map gives ys) (sym (ap gives same ∙ n))
      | false ↦ λ q. ap (λ zs. gives y ++ zs) (given_without gives is ys x q n)
    ] e

-- what the event takes brought nothing
pub record TakesNothing (k : ℕ) (e : ServerEvent) (c : Cluster) : Type 0 where
  pub parcels : parcels_of (without_arrived k e c.in_flight) ≡ parcels_of c.in_flight
  pub effects : effects_on_way (without_arrived k e c.in_flight) ≡ effects_on_way c.in_flight

no_effects : (m : PeerMsg) → IsPathMessage m → effects_by m ≡ []
no_effects (peer.Decide m) is = absurd is
no_effects m is = refl

none_applied : (k : ℕ) (ms : List (Peer × Msg)) → ArePathSends ms → effects_on_way (in_flight_from k ms) ≡ []
none_applied k [] are = refl
none_applied k ((OfServer to, msg.Peer m) ∷ rest) are =
    ap (λ es. es ++ effects_on_way (in_flight_from k rest)) (no_effects m are.0) ∙ none_applied k rest are.1
none_applied k ((OfServer to, msg.Answer a) ∷ rest) are = absurd are.0
none_applied k ((OfServer to, msg.Client a) ∷ rest) are = absurd are.0
none_applied k ((OfSession to, m) ∷ rest) are = absurd are.0

pub path_taken : (k from : ℕ) (m : PeerMsg) (c : Cluster) → IsPathMessage m → IsThere k (FromPeer from m) c → TakesNothing k (FromPeer from m) c
path_taken k from m c i there =
    let it : InFlight = record { from = from; to = k; message = m } in
    record {
      parcels = picked_without (λ (f : InFlight). parcel_in f.message) (is_between from k) c.in_flight it there (no_parcel m i);
      effects = given_without (λ (f : InFlight). effects_by f.message) (is_between from k) c.in_flight it there (no_effects m i);
    }

-- ## What is held together

-- a step of path leases
pub record IsPathStep (s : Server) (x : Stepped) : Type 0 where
  pub records : x.server.records ≡ s.records
  pub admitted : x.out.admitted ≡ []
  pub sent : ArePathSends x.out.send

pub path_step : (from : ℕ) (m : PeerMsg) (s : Server) → IsPathMessage m → IsPathStep s (peer_step from m s)
path_step from m s is = each_message (IsPathStep s) s (λ n ms paths asking given note are. record { records = refl; admitted = refl; sent = are }) from m is

pub asking_back_step : (prefix : List ℕ) (n : ServerNote) (s : Server) → IsPathStep s (asks_back_in prefix n s)
asking_back_step prefix n s =
    let number : PathNo = record { server = 0; count = 0 } in
    let p : IsPathStep s (asks_back_in prefix (note.Stays (refusal.Paths number)) s) =
    refused (IsPathStep s) s (λ n ms paths asking given note are. record { records = refl; admitted = refl; sent = are }) (move.Paths number) prefix 0 in
    record { records = p.records; admitted = p.admitted; sent = p.sent }

-- where its records stay, and nothing comes or goes that brings a parcel or effects
pub space_still : (c : Cluster) (k : ℕ) (e : ServerEvent) (s : Server) (x : Stepped) → slice_get c.servers k ≡ Some s → TakesNothing k e c
    → x.server.records ≡ s.records → parcels_of (in_flight_from k x.out.send) ≡ [] → effects_on_way (in_flight_from k x.out.send) ≡ []
    → held_by (after_step k e x c) ≡ held_by c
space_still c k e s x at takes still handed told =
    let later : List InFlight = without_arrived k e c.in_flight ++ in_flight_from k x.out.send in
    let parcels : parcels_of later ≡ parcels_of c.in_flight =
    parcels-append (without_arrived k e c.in_flight) (in_flight_from k x.out.send)
    ∙ ap (λ ps. parcels_of (without_arrived k e c.in_flight) ++ ps) handed
    ∙ append-nil (parcels_of (without_arrived k e c.in_flight)) ∙ takes.parcels in
    let effects : effects_on_way later ≡ effects_on_way c.in_flight =
    flat_map-append (λ (f : InFlight). effects_by f.message) (without_arrived k e c.in_flight) (in_flight_from k x.out.send)
    ∙ ap (λ es. effects_on_way (without_arrived k e c.in_flight) ++ es) told
    ∙ append-nil (effects_on_way (without_arrived k e c.in_flight)) ∙ takes.effects in
    let records : records_of_all (slice_set c.servers k x.server) (parcels_of later) ≡ records_of_all c.servers (parcels_of c.in_flight) =
    ap (records_of_all (slice_set c.servers k x.server)) parcels
    ∙ ap (with_parcels (parcels_of c.in_flight)) (same_records c.servers k s x.server empty at still) in
    ap (λ es. held_with es (records_of_all (slice_set c.servers k x.server) (parcels_of later))) effects
    ∙ ap (held_with (effects_on_way c.in_flight)) records

pub same_space : (c : Cluster) (k : ℕ) (e : ServerEvent) (s : Server) (x : Stepped) → slice_get c.servers k ≡ Some s → TakesNothing k e c
    → IsPathStep s x → held_by (after_step k e x c) ≡ held_by c
same_space c k e s x at takes p =
    space_still c k e s x at takes p.records (none_handed k x.out.send p.sent) (none_applied k x.out.send p.sent)

-- ## The leases

-- the server's own leases are true then, as all hold together now
abbrev pub KeepsTrue : Cluster → Stepped → Type 0
KeepsTrue c x = (l : PathLease) → In l x.server.paths.issued → IsTruePath (held_by c) c.journal x.server l

-- records and tables of paths are as they were
pub stays_true : (c : Cluster) (k : ℕ) (s : Server) (x : Stepped) → PathsHold c → slice_get c.servers k ≡ Some s → x.server.records ≡ s.records
    → x.server.paths ≡ s.paths → KeepsTrue c x
stays_true c k s x h at records e l i =
    true_alike (held_by c) (held_by c) c.journal c.journal s x.server l (λ f m. refl) (λ f d. d)
    (keeps_same s x.server l records (ap (λ (t : PathTables). t.held) e) (ap (λ (t : PathTables). t.frozen) e))
    (h.truth s (In-got c.servers k s at) l (subst (λ (t : PathTables). In l t.issued) e i))

-- where they are, and what all hold together is as it was, all are true
pub same_space_true : (c : Cluster) (k : ℕ) (e : ServerEvent) (x : Stepped) → PathsHold c → held_by (after_step k e x c) ≡ held_by c
    → (after_step k e x c).journal ≡ c.journal → KeepsTrue c x
    → (t : Server) → In t (after_step k e x c).servers → (l : PathLease) → In l t.paths.issued
    → IsTruePath (held_by (after_step k e x c)) (after_step k e x c).journal t l
same_space_true c k e x h space journal own =
    let dirs : (f : List ℕ) → made c.journal f ≡ Some Dir → made (after_step k e x c).journal f ≡ Some Dir = λ f d. ap (λ j. made j f) journal ∙ d in
    all_true c k e x h (λ f on. ap (λ m. dir_here m f) space) dirs
    (λ l i. true_alike (held_by c) (held_by (after_step k e x c)) c.journal (after_step k e x c).journal x.server x.server l
    (λ f m. ap (λ m. dir_here m f) space) dirs (keeps_same x.server x.server l refl refl refl) (own l i))

pub path_step_true : (c : Cluster) (k : ℕ) (e : ServerEvent) (s : Server) (x : Stepped) → PathsHold c → slice_get c.servers k ≡ Some s
    → TakesNothing k e c → IsPathStep s x → KeepsTrue c x
    → (t : Server) → In t (after_step k e x c).servers → (l : PathLease) → In l t.paths.issued
    → IsTruePath (held_by (after_step k e x c)) (after_step k e x c).journal t l
path_step_true c k e s x h at takes step own =
    same_space_true c k e x h (same_space c k e s x at takes step)
    (ap (λ xs. c.journal ++ xs) step.admitted ∙ append-nil c.journal) own
