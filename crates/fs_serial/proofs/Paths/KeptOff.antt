-- Where a part says Yes, the server keeps no file over which one of its paths goes; and where a transaction ends, it keeps no more files.
use Rattle.std.proofs.Common.{◌≡◌, ◌∙◌, ◌+◌, Bool, true, false, not, List, [], ◌∷◌, ℕ, refl, sym, ap, subst, cond, inl, inr}
use Rattle.std.specs.Prelude.{◌⊎◌, Option, Some, None, is_some, option_map}
use Rattle.std.specs.List.{find}
use Rattle.fs_ident.specs.Ident.{same}
use Rattle.fs_ident.specs.In.{In}
use Rattle.fs_ident.specs.declared.actor.PathNo.{PathNo}
use Rattle.fs_ident.specs.declared.actor.Peer.TheVariants.{Server as OfServer}
use Rattle.fs_ident.specs.declared.actor.Session.{Session}
use Rattle.fs_ident.specs.declared.actor.TxnNo.{TxnNo}
use Rattle.fs_ident.proofs.Passing.{found}
use Rattle.fs_ident.proofs.Same.{same_is}
use Rattle.fs_ident.proofs.Standing.{In-filter, In-put}
use Rattle.fs_field.specs.Table.{same_txn}
use Rattle.fs_field.specs.declared.used.Part.{Part}
use Rattle.fs_field.specs.declared.used.Use.{Use}
use Rattle.fs_field.specs.declared.vote.Vote.{Vote}
use Rattle.fs_field.specs.declared.vote.Vote.TheVariants.{Yes, Ended, Moved, PathsOut}
use Rattle.fs_map.specs.Map.{longest, server_of}
use Rattle.fs_msg.specs.declared.msg.Msg.TheVariants as msg
use Rattle.fs_msg.specs.declared.peer_msg.PeerMsg.{PeerMsg}
use Rattle.fs_msg.specs.declared.peer_msg.PeerMsg.TheVariants as peer
use Rattle.fs_path.specs.Leases.{comes_before}
use Rattle.fs_path.specs.Tables.{PathTables, through}
use Rattle.fs_server.specs.Begins.{Round, part_round, rounds}
use Rattle.fs_server.specs.Counts.{after_own_vote, ask_for}
use Rattle.fs_server.specs.Follows.{after_vote, path_in_the_way, paths_freed, paths_kept, recalls_for, to_server, vote_here}
use Rattle.fs_server.specs.Server.{is_mine}
use Rattle.fs_server.specs.Ships.{first_gone}
use Rattle.fs_server.specs.declared.state.Server.{Server}
use Rattle.fs_txn.specs.Preparing.{moved_to, vote_by}
use Rattle.fs_txn.specs.declared.ready.Ready.{Ready}
use Rattle.fs_serial.specs.Paths.{is_kept}
use Rattle.fs_serial.proofs.Moves.KeptPaths.{SamePaths, kept_alike}
use Rattle.fs_serial.proofs.Paths.OnTheWay.{kept_among}
use Rattle.fs_serial.proofs.Paths.Untold.{AreQuietWords, IsQuietWord, KeepsOffPaths, keeps_itself}
use Rattle.fs_serial.proofs.Paths.Untold.{keeps_same, keeps_then, quiet_both, quiet_one}
use Rattle.fs_serial.proofs.Transactions.Recalled.{IsPathRecall, recalls_are}
use Rattle.fs_serial.proofs.Transactions.RoundsLocks.{round_by}

-- ## What is kept

-- with these paths, as its server
abbrev pub with_paths : PathTables → Server → Server
with_paths t s = record s { paths = t }

abbrev is_for : List ℕ → List ℕ × TxnNo → Bool
is_for file x = same x.0 file

-- a transaction keeps the file
record IsKeptBy (kept : List ℕ) (t : PathTables) : Type 0 where
  entry : List ℕ × TxnNo
  among : In entry t.frozen
  file : entry.0 ≡ kept

kept_by : (f : List ℕ) (s : Server) → is_kept s f ≡ true → IsKeptBy f s.paths
kept_by f s is = by (find (is_for f) s.paths.frozen) refl is
  where
    by : (o : Option (List ℕ × TxnNo)) → find (is_for f) s.paths.frozen ≡ o → is_some (option_map (λ (x : List ℕ × TxnNo). x.1) o) ≡ true
        → IsKeptBy f s.paths
    by None e h = absurd (cc h)
    by (Some x) e h =
        let q = found (is_for f) s.paths.frozen x e in
        record { entry = x; among = q.0; file = same_is x.0 f q.1 }

is_kept_by : (f : List ℕ) (s : Server) (x : List ℕ × TxnNo) → In x s.paths.frozen → x.0 ≡ f → is_kept s f ≡ true
is_kept_by f s x i e = kept_among f x.1 s.paths.frozen (subst (λ g. In (g, x.1) s.paths.frozen) e i)

-- one file more, where none of its paths goes over it
pub kept_off : (s : Server) (txn : TxnNo) (o : Option (List ℕ)) → path_in_the_way s o ≡ None → (f : List ℕ)
    → is_kept (with_paths (paths_kept txn o s.paths) s) f ≡ true → (is_kept s f ≡ true) ⊎ (through f s.paths.issued ≡ None)
kept_off s txn None none f is = inl is
kept_off s txn (Some file) none f is =
    let q : IsKeptBy f (paths_kept txn (Some file) s.paths) = kept_by f (with_paths (paths_kept txn (Some file) s.paths) s) is in
    elim (In-put (λ (x : List ℕ × TxnNo). comes_before (txn.server, txn.count) (x.1.server, x.1.count)) q.entry (file, txn)
    s.paths.frozen q.among) as (λ _. (is_kept s f ≡ true) ⊎ (through f s.paths.issued ≡ None)) [
      | inl new ↦
          let its : file ≡ f = sym (ap (λ (x : List ℕ × TxnNo). x.0) new) ∙ q.file in
          inr (ap (λ g. through g s.paths.issued) (sym its) ∙ none)
      | inr old ↦ inl (is_kept_by f s q.entry old q.file)
    ]

-- a transaction that keeps none any more
pub freed_less : (s : Server) (txn : TxnNo) (f : List ℕ) → is_kept (with_paths (paths_freed txn s.paths) s) f ≡ true → is_kept s f ≡ true
freed_less s txn f is =
    let q : IsKeptBy f (paths_freed txn s.paths) = kept_by f (with_paths (paths_freed txn s.paths) s) is in
    is_kept_by f s q.entry (In-filter (λ (x : List ℕ × TxnNo). not (same_txn x.1 txn)) q.entry s.paths.frozen q.among) q.file

-- ## A vote

-- whoever says Yes has no path in the way
pub yes_is_free : (s : Server) (by : Session) (p : Part) → vote_here s by p ≡ Yes → path_in_the_way s p.freeze ≡ None
yes_is_free s by p e =
    at (is_mine s p.file) (first_gone s.rows by p.uses) (path_in_the_way s p.freeze) e
  where
    at : (b : Bool) (o : Option Use) (q : Option PathNo) → cond b (vote_by o q s.last) (moved_to (longest s.map p.file)) ≡ Yes → q ≡ None
    at true None None e = refl
    at true None (Some lease) e = absurd (cc e)
    at true (Some u) q e = absurd (cc e)
    at false o q e = absurd (cc e)

yes_leaves : (s t : Server) (txn : TxnNo) (o : Option (List ℕ)) → path_in_the_way s o ≡ None → t.me ≡ s.me → t.records ≡ s.records
    → t.paths_given ≡ s.paths_given → t.paths ≡ paths_kept txn o s.paths → KeepsOffPaths s t
yes_leaves s t txn o none me records given paths =
    let same : SamePaths s.paths (paths_kept txn o s.paths) = kept_alike txn o s.paths in
    record {
      me = me;
      records = records;
      issued = ap (λ (x : PathTables). x.issued) paths ∙ same.issued;
      held = ap (λ (x : PathTables). x.held) paths ∙ same.held;
      given = given;
      kept = λ f is. kept_off s txn o none f (ap (λ x. is_kept (with_paths x s) f) (sym paths) ∙ is);
    }

-- on a part of its own
pub own_vote_leaves : (s : Server) (by : Session) (txn : TxnNo) (p : Part) (v : Vote) → vote_here s by p ≡ v
    → KeepsOffPaths s (after_own_vote txn p v s)
own_vote_leaves s by txn p Yes e =
    yes_leaves s (after_own_vote txn p Yes s) txn p.freeze (yes_is_free s by p e) refl refl refl refl
own_vote_leaves s by txn p (Ended lease until now) e = keeps_same s (after_own_vote txn p (Ended lease until now) s) refl refl refl refl
own_vote_leaves s by txn p (Moved prefix to) e = keeps_same s (after_own_vote txn p (Moved prefix to) s) refl refl refl refl
own_vote_leaves s by txn p (PathsOut lease) e = keeps_same s (after_own_vote txn p (PathsOut lease) s) refl refl refl refl

-- on a part of which another server asks
pub vote_leaves : (s : Server) (by : Session) (x : Ready) (v : Vote) → vote_here s by x.part ≡ v → KeepsOffPaths s (after_vote v x s)
vote_leaves s by x Yes e = yes_leaves s (after_vote Yes x s) x.txn x.part.freeze (yes_is_free s by x.part e) refl refl refl refl
vote_leaves s by x (Ended lease until now) e = keeps_itself s
vote_leaves s by x (Moved prefix to) e = keeps_itself s
vote_leaves s by x (PathsOut lease) e = keeps_itself s

-- ## What is sent

-- those whose paths are in the way are asked for them back
pub recalls_quiet : (v : Vote) (s : Server) (p : Part) → AreQuietWords (recalls_for v s p)
recalls_quiet v s p to m i = by m (recalls_are v s p (OfServer to, msg.Peer m) i)
  where
    by : (m : PeerMsg) → IsPathRecall (OfServer to, msg.Peer m) → IsQuietWord m
    by (peer.PathRecall number) is = record { path = tt; parcel = refl; effects = refl }
    by m is = absurd is

pub asks_quiet : (to : ℕ) (txn : TxnNo) (number : ℕ) (by : Session) (p : Part) → AreQuietWords (to_server to (ask_for txn number by p) ∷ [])
asks_quiet to txn number by p = quiet_one to (ask_for txn number by p) (record { path = tt; parcel = refl; effects = refl })

-- ## Part by part

pub rounds_leave : (txn : TxnNo) (number : ℕ) (by : Session) (ps : List Part) (r : Round) (s : Server) → KeepsOffPaths s r.server
    → KeepsOffPaths s (rounds txn number by ps r).server
rounds_leave txn number by [] r s q = q
rounds_leave txn number by (p ∷ ps) r s q = rounds_leave txn (number + 1) by ps (part_round txn number by p r) s
    (elim (is_mine r.server p.file) as (λ b. KeepsOffPaths s (round_by txn number by p r b).server) [
      | true ↦ keeps_then s r.server (after_own_vote txn p (vote_here r.server by p) r.server) q
          (own_vote_leaves r.server by txn p (vote_here r.server by p) refl)
      | false ↦ q
    ])

pub rounds_quiet : (txn : TxnNo) (number : ℕ) (by : Session) (ps : List Part) (r : Round) → AreQuietWords r.send
    → AreQuietWords (rounds txn number by ps r).send
rounds_quiet txn number by [] r q = q
rounds_quiet txn number by (p ∷ ps) r q = rounds_quiet txn (number + 1) by ps (part_round txn number by p r)
    (elim (is_mine r.server p.file) as (λ b. AreQuietWords (round_by txn number by p r b).send) [
      | true ↦ quiet_both r.send (recalls_for (vote_here r.server by p) r.server p) q (recalls_quiet (vote_here r.server by p) r.server p)
      | false ↦ quiet_both r.send (to_server (server_of r.server.map p.file) (ask_for txn number by p) ∷ []) q
          (asks_quiet (server_of r.server.map p.file) txn number by p)
    ])
