-- Files that parts of other servers' transactions keep until they are decided, and paths in their way.
use Rattle.std.proofs.Common.{◌≡◌, ℕ, Bool, true, false, not, List, ◌∷◌, cond, refl, ap, ap₂, sym, ◌∙◌, subst}
use Rattle.std.specs.Prelude.{Option, Some, None}
use Rattle.std.proofs.lemmas.Bool.{not-true}
use Rattle.fs_ident.specs.In.{In}
use Rattle.fs_ident.specs.declared.actor.PathNo.{PathNo}
use Rattle.fs_ident.specs.declared.actor.Session.{Session}
use Rattle.fs_ident.specs.declared.actor.TxnNo.{TxnNo}
use Rattle.fs_field.specs.Table.{same_txn}
use Rattle.fs_field.specs.declared.used.Part.{Part}
use Rattle.fs_field.specs.declared.used.Use.{Use}
use Rattle.fs_field.specs.declared.vote.Vote.{Vote}
use Rattle.fs_field.specs.declared.vote.Vote.TheVariants.{Yes, Ended, Moved, PathsOut}
use Rattle.fs_map.specs.Map.{longest}
use Rattle.fs_moderows.proofs.Witnesses.{In_filtered}
use Rattle.fs_msg.specs.declared.decide.Decide.{Decide}
use Rattle.fs_msg.specs.declared.prepare.Prepare.{Prepare}
use Rattle.fs_msg.specs.declared.peer_msg.PeerMsg.TheVariants as peer
use Rattle.fs_msg.specs.declared.server_note.ServerNote.TheVariants as note
use Rattle.fs_path.specs.Tables.{PathTables, through}
use Rattle.fs_txn.specs.Preparing.{moved_to, vote_by}
use Rattle.fs_txn.specs.Ready.{is_awaited, is_prepared}
use Rattle.fs_server.specs.Follows.{applies, decide_step, path_in_the_way, paths_freed, paths_kept, prepare_step, recalls_over, to_server, vote_here, votes}
use Rattle.fs_server.specs.Laws.{AreAskedBack}
use Rattle.fs_server.specs.Server.{Stepped, is_mine, strange}
use Rattle.fs_server.specs.Ships.{first_gone}
use Rattle.fs_server.specs.declared.state.Server.{Server}
use Rattle.fs_server.proofs.Keeping.{named_kept, voted_still}
use Rattle.fs_server.proofs.Splitting.{passes}

-- what the server does where it votes so, or where the part is ready already
abbrev asked : Bool → Vote → ℕ → Prepare → Server → Stepped
asked b v from m s = cond b (strange s) (votes v from m s)

-- ## A part that says Yes

pub yes_keeps : (s : Server) (from : ℕ) (m : Prepare) (file : List ℕ) → (prepare_step from m s).out.note ≡ note.Votes m.txn Yes
    → m.part.freeze ≡ Some file → In (file, m.txn) (prepare_step from m s).server.paths.frozen
yes_keeps s from m file = at (is_prepared m.txn m.number s.prepared) (vote_here s m.session m.part)
  where
    at : (b : Bool) (v : Vote) → (asked b v from m s).out.note ≡ note.Votes m.txn Yes → m.part.freeze ≡ Some file
        → In (file, m.txn) (asked b v from m s).server.paths.frozen
    at true v e f = absurd (cc)
    at false Yes e f = named_kept m.txn m.part.freeze file s.paths f
    at false (Ended lease until now) e f = absurd (cc)
    at false (Moved prefix to) e f = absurd (cc)
    at false (PathsOut lease) e f = absurd (cc)

pub kept_stays : (s : Server) (from : ℕ) (m : Prepare) (x : List ℕ × TxnNo) → In x s.paths.frozen
    → In x (prepare_step from m s).server.paths.frozen
kept_stays s from m x = at (is_prepared m.txn m.number s.prepared) (vote_here s m.session m.part)
  where
    at : (b : Bool) (v : Vote) → In x s.paths.frozen → In x (asked b v from m s).server.paths.frozen
    at true v i = i
    at false Yes i = voted_still Yes m.txn m.part.freeze s.paths x i
    at false (Ended lease until now) i = i
    at false (Moved prefix to) i = i
    at false (PathsOut lease) i = i

pub unnamed_keeps_none : (s : Server) (from : ℕ) (m : Prepare) → m.part.freeze ≡ None → (prepare_step from m s).server.paths ≡ s.paths
unnamed_keeps_none s from m f = at (is_prepared m.txn m.number s.prepared) (vote_here s m.session m.part)
  where
    at : (b : Bool) (v : Vote) → (asked b v from m s).server.paths ≡ s.paths
    at true v = refl
    at false Yes = ap (λ o. paths_kept m.txn o s.paths) f
    at false (Ended lease until now) = refl
    at false (Moved prefix to) = refl
    at false (PathsOut lease) = refl

pub unsaid_keeps_none : (s : Server) (from : ℕ) (m : Prepare) → ((prepare_step from m s).out.note ≡ note.Votes m.txn Yes → ⊥)
    → (prepare_step from m s).server.paths ≡ s.paths
unsaid_keeps_none s from m = at (is_prepared m.txn m.number s.prepared) (vote_here s m.session m.part)
  where
    at : (b : Bool) (v : Vote) → ((asked b v from m s).out.note ≡ note.Votes m.txn Yes → ⊥) → (asked b v from m s).server.paths ≡ s.paths
    at true v h = refl
    at false Yes h = absurd (h refl)
    at false (Ended lease until now) h = refl
    at false (Moved prefix to) h = refl
    at false (PathsOut lease) h = refl

-- ## Paths in the way

pub out_in_the_way : (s : Server) (by : Session) (p : Part) (file : List ℕ) (number : PathNo) → is_mine s p.file ≡ true
    → first_gone s.rows by p.uses ≡ None → p.freeze ≡ Some file → through file s.paths.issued ≡ Some number
    → vote_here s by p ≡ PathsOut number
out_in_the_way s by p file number mine rows f out =
    ap (λ b. cond b (vote_by (first_gone s.rows by p.uses) (path_in_the_way s p.freeze) s.last) (moved_to (longest s.map p.file))) mine
    ∙ ap₂ (λ (o : Option Use) (q : Option PathNo). vote_by o q s.last) rows (ap (path_in_the_way s) f ∙ out)

-- a lease that is named is the one in the way
named_out : (o : Option Use) (q : Option PathNo) (now : ℕ) (number : PathNo) → vote_by o q now ≡ PathsOut number → q ≡ Some number
named_out None (Some lease) now number e = let same : lease ≡ number = cc in ap Some same
named_out None None now number e = absurd (cc e)
named_out (Some u) q now number e = absurd (cc e)

named_here : (b : Bool) (o : Option Use) (q : Option PathNo) (now : ℕ) (entry : Option (List ℕ × ℕ)) (number : PathNo)
    → cond b (vote_by o q now) (moved_to entry) ≡ PathsOut number → q ≡ Some number
named_here true o q now entry number e = named_out o q now number e
named_here false o q now entry number e = absurd (cc e)

out_asks : (from : ℕ) (m : Prepare) (s : Server) (number : PathNo) (o : Option (List ℕ)) → m.part.freeze ≡ o
    → path_in_the_way s o ≡ Some number → AreAskedBack from m number s (votes (PathsOut number) from m s)
out_asks from m s number None f out = absurd (cc out)
out_asks from m s number (Some file) f out = record {
  file = file;
  named = f;
  least = out;
  sent = ap (λ o. to_server from (peer.Vote (record { txn = m.txn; number = m.number; vote = PathsOut number })) ∷ recalls_over s o) f;
  rest = refl;
}

pub all_asked_back : (s : Server) (from : ℕ) (m : Prepare) (number : PathNo)
    → (prepare_step from m s).out.note ≡ note.Votes m.txn (PathsOut number) → AreAskedBack from m number s (prepare_step from m s)
all_asked_back s from m number = at (is_prepared m.txn m.number s.prepared) (vote_here s m.session m.part) refl
  where
    at : (b : Bool) (v : Vote) → vote_here s m.session m.part ≡ v → (asked b v from m s).out.note ≡ note.Votes m.txn (PathsOut number)
        → AreAskedBack from m number s (asked b v from m s)
    at true v h e = absurd (cc)
    at false Yes h e = absurd (cc)
    at false (Ended lease until now) h e = absurd (cc)
    at false (Moved prefix to) h e = absurd (cc)
    at false (PathsOut lease) h e =
        let same : lease ≡ number = cc in
        subst (λ (l : PathNo). AreAskedBack from m number s (votes (PathsOut l) from m s)) (sym same)
        (out_asks from m s number m.part.freeze refl
        (named_here (is_mine s m.part.file) (first_gone s.rows m.session m.part.uses) (path_in_the_way s m.part.freeze) s.last
        (longest s.map m.part.file) number (h ∙ ap PathsOut same)))

-- ## A decision

pub stay_kept : (s : Server) (from : ℕ) (m : Decide) → is_awaited m.txn (decide_step from m s).server.prepared ≡ true
    → (decide_step from m s).server.paths ≡ s.paths
stay_kept s from m = at (is_prepared m.txn m.number s.prepared)
  where
    at : (b : Bool) → is_awaited m.txn (cond b (applies from m s) (strange s)).server.prepared ≡ true
        → (cond b (applies from m s) (strange s)).server.paths ≡ s.paths
    at true h = ap (λ z. cond z s.paths (paths_freed m.txn s.paths)) h
    at false h = refl

pub last_frees : (s : Server) (from : ℕ) (m : Decide) (x : List ℕ × TxnNo) → is_prepared m.txn m.number s.prepared ≡ true
    → is_awaited m.txn (decide_step from m s).server.prepared ≡ false → In x (decide_step from m s).server.paths.frozen
    → same_txn x.1 m.txn ≡ false
last_frees s from m x e = subst (λ b. is_awaited m.txn (cond b (applies from m s) (strange s)).server.prepared ≡ false
    → In x (cond b (applies from m s) (strange s)).server.paths.frozen → same_txn x.1 m.txn ≡ false) (sym e)
    (λ h i. not-true (same_txn x.1 m.txn) (passes (λ y. not (same_txn y.1 m.txn)) x s.paths.frozen
    (subst (λ (t : PathTables). In x t.frozen) (ap (λ z. cond z s.paths (paths_freed m.txn s.paths)) h) i)))

pub others_kept : (s : Server) (from : ℕ) (m : Decide) (x : List ℕ × TxnNo) → In x s.paths.frozen → same_txn x.1 m.txn ≡ false
    → In x (decide_step from m s).server.paths.frozen
others_kept s from m x i other = at (is_prepared m.txn m.number s.prepared)
  where
    left : (b : Bool) → In x (cond b s.paths (paths_freed m.txn s.paths)).frozen
    left true = i
    left false = In_filtered (λ y. not (same_txn y.1 m.txn)) s.paths.frozen x i (ap not other)

    at : (b : Bool) → In x (cond b (applies from m s) (strange s)).server.paths.frozen
    at true = left (is_awaited m.txn (applies from m s).server.prepared)
    at false = i
