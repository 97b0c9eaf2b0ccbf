-- An event that is no word of a transaction, no message of another server and no move leaves the server's paths as they are; what transactions
-- keep is no path.
use Rattle.std.proofs.Common.{◌≡◌, ◌<◌, ℕ, Bool, true, false, List, [], ◌∷◌, cond, refl, ap, subst, ◌∙◌}
use Rattle.std.specs.Prelude.{Option, Some, None}
use Rattle.std.specs.List.{list_all}
use Rattle.fs_field.specs.Table.{borne_numbers}
use Rattle.fs_field.specs.declared.field.Field.{Field}
use Rattle.fs_field.specs.declared.lease_kind.LeaseKind.{LeaseKind}
use Rattle.fs_field.specs.declared.vote.Vote.{Vote}
use Rattle.fs_field.specs.declared.vote.Vote.TheVariants as vote
use Rattle.fs_ident.specs.In.{In}
use Rattle.fs_ident.specs.declared.actor.Session.{Session}
use Rattle.fs_ident.specs.declared.actor.TxnNo.{TxnNo}
use Rattle.fs_msg.specs.declared.client_msg.ClientMsg.TheVariants.{Ask, Renew, Release, Ship, Lead}
use Rattle.fs_msg.specs.declared.end.End.{End}
use Rattle.fs_msg.specs.declared.end.End.TheVariants as end
use Rattle.fs_msg.specs.declared.entry.Entry.{Entry}
use Rattle.fs_path.specs.Leases.{PathLease}
use Rattle.fs_path.specs.Tables.{PathTables, lease_of}
use Rattle.fs_path.specs.declared.having.Having.{Having}
use Rattle.fs_record.specs.Effects.{tells_its_effects}
use Rattle.fs_record.specs.Fresh.{fresh_number, is_directory}
use Rattle.fs_server.specs.Asks.{Asking, ask_fresh, ask_from, fresh_for, fresh_in, fresh_of}
use Rattle.fs_server.specs.Counts.{paths_voted}
use Rattle.fs_server.specs.Follows.{paths_freed, paths_kept}
use Rattle.fs_server.specs.Reaps.{lapsed_in, turn_over}
use Rattle.fs_server.specs.Server.{is_mine, moved, strange}
use Rattle.fs_server.specs.Ships.{ship_from, shipped}
use Rattle.fs_server.specs.Step.{event_step}
use Rattle.fs_server.specs.declared.event.ServerEvent.{ServerEvent}
use Rattle.fs_server.specs.declared.event.ServerEvent.TheVariants as event
use Rattle.fs_server.specs.declared.state.Server.{Server}
use Rattle.fs_server.proofs.OneByOne.{asks_leave, reaps_leave, ships_leave}
use Rattle.fs_serial.specs.Seen.{HasPeers}
use Rattle.fs_serial.specs.Words.{IsNoneOfLed}

-- the same path leases are given out, and the same are held: only what transactions keep may be another
pub record SamePaths (old new : PathTables) : Type 0 where
  pub issued : new.issued ≡ old.issued
  pub held : new.held ≡ old.held

pub same_paths : (old new : PathTables) → new ≡ old → SamePaths old new
same_paths old new e = record { issued = ap (λ (t : PathTables). t.issued) e; held = ap (λ (t : PathTables). t.held) e }

pub then_same : {a b c : PathTables} → SamePaths a b → SamePaths b c → SamePaths a c
then_same p q = record { issued = q.issued ∙ p.issued; held = q.held ∙ p.held }

-- each path lease is with such a peer
abbrev pub AreBetween : (ℕ → Type 0) → PathTables → Type 0
AreBetween IsPeer t = ((l : PathLease) → In l t.issued → IsPeer l.peer) × ((h : Having) → In h t.held → IsPeer (lease_of h).peer)

-- they are where the others are
pub between_still : (IsPeer : ℕ → Type 0) (old new : PathTables) → SamePaths old new → AreBetween IsPeer old → AreBetween IsPeer new
between_still IsPeer old new same peers = (
  λ l i. peers.0 l (subst (In l) same.issued i),
  λ h i. peers.1 h (subst (In h) same.held i),
)

pub peers_still : (servers : ℕ) (old new : PathTables) → SamePaths old new → HasPeers servers old → HasPeers servers new
peers_still servers old new same peers = between_still (λ n. n < servers) old new same peers

-- ## What transactions keep

pub kept_alike : (txn : TxnNo) (file : Option (List ℕ)) (t : PathTables) → SamePaths t (paths_kept txn file t)
kept_alike txn None t = same_paths t t refl
kept_alike txn (Some file) t = record { issued = refl; held = refl }

pub voted_alike : (v : Vote) (txn : TxnNo) (file : Option (List ℕ)) (t : PathTables) → SamePaths t (paths_voted v txn file t)
voted_alike vote.Yes txn file t = kept_alike txn file t
voted_alike (vote.Ended lease until now) txn file t = same_paths t t refl
voted_alike (vote.PathsOut lease) txn file t = same_paths t t refl
voted_alike (vote.Moved prefix to) txn file t = same_paths t t refl

pub left_alike : (b : Bool) (txn : TxnNo) (t : PathTables) → SamePaths t (cond b t (paths_freed txn t))
left_alike true txn t = same_paths t t refl
left_alike false txn t = record { issued = refl; held = refl }

-- ## A question

fresh_paths : (by : Session) (dir : List ℕ) (o : Option ℕ) (a : Asking) → (fresh_of by dir o a).server.paths ≡ a.server.paths
fresh_paths by dir None a = refl
fresh_paths by dir (Some n) a = refl

dir_paths : (by : Session) (dir : List ℕ) (b : Bool) (a : Asking) → (fresh_in by dir b a).server.paths ≡ a.server.paths
dir_paths by dir true a = fresh_paths by dir (fresh_number a.server.records dir (borne_numbers dir a.server.rows)) a
dir_paths by dir false a = refl

for_paths : (by : Session) (dir : Option (List ℕ)) (a : Asking) → (fresh_for by dir a).server.paths ≡ a.server.paths
for_paths by None a = refl
for_paths by (Some dir) a = elim (is_mine a.server dir) as
    (λ b. (let z : Asking = cond b (fresh_in by dir (is_directory a.server.records dir) a)
    (record a { end = moved a.server dir }) in z).server.paths ≡ a.server.paths) [
      | true ↦ dir_paths by dir (is_directory a.server.records dir) a
      | false ↦ refl
    ]

end_paths : (by : Session) (dir : Option (List ℕ)) (e : End) (a : Asking) → (ask_fresh by dir e a).server.paths ≡ a.server.paths
end_paths by dir end.All a = for_paths by dir a
end_paths by dir e a = refl

ask_paths : (by : Session) (items : List (Field × LeaseKind)) (dir : Option (List ℕ)) (s : Server)
    → (event_step (event.FromClient by (Ask items dir)) s).server.paths ≡ s.paths
ask_paths by items dir s =
    let a : Asking = ask_from by items s [] in
    end_paths by dir a.end a ∙ ap (λ (t : Server). t.paths) (asks_leave by items s [])

-- ## Every event

ship_paths : (by : Session) (es : List Entry) (s : Server) (b : Bool)
    → (cond b (shipped by (ship_from by es s [])) (strange s)).server.paths ≡ s.paths
ship_paths by es s true = ap (λ (t : Server). t.paths) (ships_leave by es s [])
ship_paths by es s false = refl

turn_paths : (xs : List (List ℕ × Session)) (s : Server) → (turn_over xs s).server.paths ≡ s.paths
turn_paths [] s = refl
turn_paths (x ∷ xs) s = ap (λ (t : Server). t.paths) (reaps_leave (x ∷ xs) s [] [])

-- no message of another server, and no move
abbrev pub IsOffPaths : ServerEvent → Type 0
IsOffPaths (event.FromPeer from m) = ⊥
IsOffPaths (event.Move prefix to) = ⊥
IsOffPaths e = Unit {0}

pub event_paths : (e : ServerEvent) (s : Server) → IsNoneOfLed e → IsOffPaths e → (event_step e s).server.paths ≡ s.paths
event_paths (event.FromClient by (Ask items dir)) s none off = ask_paths by items dir s
event_paths (event.FromClient by (Renew pairs)) s none off = refl
event_paths (event.FromClient by (Release pairs)) s none off = refl
event_paths (event.FromClient by (Ship es)) s none off = ship_paths by es s (list_all (λ (e : Entry). tells_its_effects e.op) es)
event_paths (event.FromClient by (Lead m)) s none off = absurd none
event_paths (event.FromPeer from m) s none off = absurd off
event_paths event.Turn s none off = turn_paths (lapsed_in s) s
event_paths (event.Recall field) s none off = refl
event_paths (event.Move prefix to) s none off = absurd off

pub event_peers : (servers : ℕ) (e : ServerEvent) (s : Server) → IsNoneOfLed e → IsOffPaths e → HasPeers servers s.paths
    → HasPeers servers (event_step e s).server.paths
event_peers servers e s none off =
    peers_still servers s.paths (event_step e s).server.paths
    (same_paths s.paths (event_step e s).server.paths (event_paths e s none off))
