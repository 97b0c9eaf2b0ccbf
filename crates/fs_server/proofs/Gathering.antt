-- What becomes of the first parts of a transaction that begins.
use Rattle.std.proofs.Common.{◌≡◌, ◌&&◌, ◌+◌, ℕ, Bool, true, false, not, List, []}
use Rattle.std.proofs.Common.{◌∷◌, ◌++◌, cond, refl, ap, ap₂, sym, ◌∙◌, append_assoc, map}
use Rattle.std.specs.Prelude.{◌||◌, Option, Some, None, is_some}
use Rattle.std.specs.List.{flat_map}
use Rattle.std.proofs.lemmas.List.{append-nil}
use Rattle.std.proofs.lemmas.List.Folds.{list_any-append}
use Rattle.fs_ident.proofs.Booleans.{first, second}
use Rattle.fs_ident.specs.declared.actor.Peer.{Peer}
use Rattle.fs_ident.specs.declared.actor.Session.{Session}
use Rattle.fs_ident.specs.declared.actor.TxnNo.{TxnNo}
use Rattle.fs_field.specs.Table.{has_no}
use Rattle.fs_field.specs.declared.row.Row.{Row}
use Rattle.fs_field.specs.declared.used.Part.{Part}
use Rattle.fs_field.specs.declared.used.Use.{Use}
use Rattle.fs_field.specs.declared.vote.Vote.{Vote}
use Rattle.fs_field.specs.declared.vote.Vote.TheVariants.{Yes, Ended, Moved, PathsOut}
use Rattle.fs_map.specs.Map.{longest, server_of}
use Rattle.fs_msg.specs.declared.msg.Msg.{Msg}
use Rattle.fs_path.specs.Tables.{PathTables, with_all_frozen, with_frozen}
use Rattle.fs_txn.specs.Preparing.{is_used, moved_to, row_locked, rows_locked, rows_voted, vote_by}
use Rattle.fs_txn.specs.Votes.{Votes}
use Rattle.fs_txn.proofs.Locking.{locked, none_locked, stays, used_same}
use Rattle.fs_server.specs.Begins.{Round, asked_part, first_round, own_part, part_round, rounds}
use Rattle.fs_server.specs.Counts.{paths_voted}
use Rattle.fs_server.specs.Follows.{path_in_the_way, recalls_for, recalls_over, vote_here}
use Rattle.fs_server.specs.Gathered.{files_voted, gathered_by, keeping, uses_voted}
use Rattle.fs_server.specs.Laws.{has_all}
use Rattle.fs_server.specs.Server.{is_mine}
use Rattle.fs_server.specs.declared.begins.Gathered.{Gathered}
use Rattle.fs_server.specs.declared.state.Server.{Server}
use Rattle.fs_server.proofs.Following.{gone_same}

-- ## Locks

-- a row that is locked for these leases, and then for those, is locked for all of them
both_rows : (txn : TxnNo) (us vs : List Use) (r : Row) → row_locked txn vs (row_locked txn us r) ≡ row_locked txn (us ++ vs) r
both_rows txn us vs r =
    by (is_used us r) (is_some r.lock) refl
    ∙ ap (λ b. cond (b && not (is_some r.lock)) (locked txn r) r) (sym (list_any-append (λ (u : Use). has_no u.no r) us vs))
  where
    by : (a s : Bool) → is_some r.lock ≡ s → row_locked txn vs (cond (a && not s) (locked txn r) r)
        ≡ cond ((a || is_used vs r) && not (is_some r.lock)) (locked txn r) r
    by true true e = stays txn vs r e ∙ ap (λ t. cond (not t) (locked txn r) r) (sym e)
    by true false e = stays txn vs (locked txn r) refl ∙ ap (λ t. cond (not t) (locked txn r) r) (sym e)
    by false s e = refl

pub both_locked : (txn : TxnNo) (us vs : List Use) (rows : List Row)
    → rows_locked txn vs (rows_locked txn us rows) ≡ rows_locked txn (us ++ vs) rows
both_locked txn us vs [] = refl
both_locked txn us vs (r ∷ rs) = ap₂ (λ x xs. x ∷ xs) (both_rows txn us vs r) (both_locked txn us vs rs)

-- a vote more
pub voted_locked : (v : Vote) (txn : TxnNo) (us vs : List Use) (rows : List Row)
    → rows_voted v txn vs (rows_locked txn us rows) ≡ rows_locked txn (us ++ uses_voted v vs) rows
voted_locked Yes txn us vs rows = both_locked txn us vs rows
voted_locked (Ended lease until now) txn us vs rows = ap (λ xs. rows_locked txn xs rows) (sym (append-nil us))
voted_locked (Moved prefix to) txn us vs rows = ap (λ xs. rows_locked txn xs rows) (sym (append-nil us))
voted_locked (PathsOut lease) txn us vs rows = ap (λ xs. rows_locked txn xs rows) (sym (append-nil us))

-- ## A lock changes no vote

-- files that are kept are in the way of no other
way_kept : (begins : Bool) (txn : TxnNo) (us : List Use) (fs : List (List ℕ)) (s : Server) (o : Option (List ℕ))
    → path_in_the_way (keeping begins txn us fs s) o ≡ path_in_the_way s o
way_kept begins txn us fs s None = refl
way_kept begins txn us fs s (Some file) = refl

pub vote_kept : (begins : Bool) (txn : TxnNo) (us : List Use) (fs : List (List ℕ)) (s : Server) (by : Session) (p : Part)
    → vote_here (keeping begins txn us fs s) by p ≡ vote_here s by p
vote_kept begins txn us fs s by p = ap₂ (λ o q. cond (is_mine s p.file) (vote_by o q s.last) (moved_to (longest s.map p.file)))
    (gone_same (row_locked txn us) (used_same txn us) s.rows by p.uses) (way_kept begins txn us fs s p.freeze)

-- nor whom they are asked back of
recalls_kept : (v : Vote) (begins : Bool) (txn : TxnNo) (us : List Use) (fs : List (List ℕ)) (s : Server) (p : Part)
    → recalls_for v (keeping begins txn us fs s) p ≡ recalls_for v s p
recalls_kept Yes begins txn us fs s p = refl
recalls_kept (Ended lease until now) begins txn us fs s p = refl
recalls_kept (Moved prefix to) begins txn us fs s p = refl
recalls_kept (PathsOut lease) begins txn us fs s p = at p.freeze
  where
    at : (o : Option (List ℕ)) → recalls_over (keeping begins txn us fs s) o ≡ recalls_over s o
    at None = refl
    at (Some file) = refl

-- ## Files

both_kept : (txn : TxnNo) (fs gs : List (List ℕ)) (xs : List (List ℕ × TxnNo))
    → with_all_frozen txn gs (with_all_frozen txn fs xs) ≡ with_all_frozen txn (fs ++ gs) xs
both_kept txn [] gs xs = refl
both_kept txn (f ∷ fs) gs xs = both_kept txn fs gs (with_frozen f txn xs)

-- the table where these files are kept
abbrev keeps : TxnNo → PathTables → List (List ℕ) → PathTables
keeps txn t fs = record t { frozen = with_all_frozen txn fs t.frozen }

-- a vote more
files_more : (v : Vote) (txn : TxnNo) (fs : List (List ℕ)) (o : Option (List ℕ)) (t : PathTables)
    → paths_voted v txn o (keeps txn t fs) ≡ keeps txn t (fs ++ files_voted v o)
files_more Yes txn fs None t = ap (keeps txn t) (sym (append-nil fs))
files_more Yes txn fs (Some file) t = ap (λ xs. let u : PathTables = record t { frozen = xs } in u) (both_kept txn fs (file ∷ []) t.frozen)
files_more (Ended lease until now) txn fs o t = ap (keeps txn t) (sym (append-nil fs))
files_more (Moved prefix to) txn fs o t = ap (keeps txn t) (sym (append-nil fs))
files_more (PathsOut lease) txn fs o t = ap (keeps txn t) (sym (append-nil fs))

-- ## One part more

-- what is gathered when a part that is here has voted
abbrev pub with_own : Vote → Part → ℕ → List (Peer × Msg) → Gathered → Gathered
with_own v p me back g = record {
  votes = g.votes ++ Some v ∷ [];
  at = g.at ++ me ∷ [];
  uses = g.uses ++ uses_voted v p.uses;
  files = g.files ++ files_voted v p.freeze;
  send = g.send ++ back;
}

pub own_gathered : (g : Gathered) (txn : TxnNo) (number : ℕ) (by : Session) (p : Part) (s : Server) → is_mine s p.file ≡ true
    → part_round txn number by p (gathered_by g txn s)
    ≡ gathered_by (with_own (vote_here s by p) p s.me (recalls_for (vote_here s by p) s p) g) txn s
own_gathered g txn number by p s h =
    let v : Vote = vote_here s by p in
    ap (λ b. cond b (own_part txn p (vote_here (keeping true txn g.uses g.files s) by p) (gathered_by g txn s))
    (asked_part txn number by p (server_of s.map p.file) (gathered_by g txn s))) h
    ∙ ap (λ v. own_part txn p v (gathered_by g txn s)) (vote_kept true txn g.uses g.files s by p)
    ∙ λ i. record {
      server = record s {
        txns = s.txns + 1;
        rows = voted_locked v txn g.uses p.uses s.rows i;
        paths = files_more v txn g.files p.freeze s.paths i;
      };
      votes = g.votes ++ Some v ∷ [];
      at = g.at ++ s.me ∷ [];
      send = g.send ++ recalls_kept v true txn g.uses g.files s p i;
    }

-- the vote of a part that is here is counted
pub own_pushed : (g new : Gathered) (txn : TxnNo) (number : ℕ) (by : Session) (p : Part) (s : Server) (v : Vote) (me : ℕ)
    → is_mine s p.file ≡ true → v ≡ vote_here s by p → me ≡ s.me
    → new.votes ≡ g.votes ++ Some v ∷ [] → new.at ≡ g.at ++ me ∷ [] → new.uses ≡ g.uses ++ uses_voted v p.uses
    → new.files ≡ g.files ++ files_voted v p.freeze → new.send ≡ g.send ++ recalls_for v s p
    → gathered_by new txn s ≡ part_round txn number by p (gathered_by g txn s)
own_pushed g new txn number by p s v me h e k votes at uses files send =
    (λ i. gathered_by (record { votes = votes i; at = at i; uses = uses i; files = files i; send = send i }) txn s)
    ∙ (λ i. gathered_by (with_own (e i) p (k i) (recalls_for (e i) s p) g) txn s)
    ∙ sym (own_gathered g txn number by p s h)

-- ## All parts

abbrev pub nothing_gathered : Gathered
nothing_gathered = record { votes = []; at = []; uses = []; files = []; send = [] }

pub first_gathered : (txn : TxnNo) (s : Server) → gathered_by nothing_gathered txn s ≡ first_round s
first_gathered txn s = ap (λ rows. let x : Round = record
    { server = record s { txns = s.txns + 1; rows = rows }; votes = []; at = []; send = [] } in x) (none_locked txn s.rows)

-- the vote of each
abbrev pub own_votes : Server → Session → List Part → Votes
own_votes s by parts = map (λ (p : Part). Some (vote_here s by p)) parts

-- the leases of those that say Yes
abbrev pub uses_kept : Server → Session → List Part → List Use
uses_kept s by parts = flat_map (λ (p : Part). uses_voted (vote_here s by p) p.uses) parts

-- the files that those keep
abbrev pub files_kept : Server → Session → List Part → List (List ℕ)
files_kept s by parts = flat_map (λ (p : Part). files_voted (vote_here s by p) p.freeze) parts

-- whom leases are asked back of, where paths are in the way
abbrev pub asked_back_of : Server → Session → List Part → List (Peer × Msg)
asked_back_of s by parts = flat_map (λ (p : Part). recalls_for (vote_here s by p) s p) parts

-- what is gathered when all parts are here
abbrev pub all_own : Session → List Part → Server → Gathered → Gathered
all_own by ps s g = record {
  votes = g.votes ++ own_votes s by ps;
  at = g.at ++ map (λ (p : Part). s.me) ps;
  uses = g.uses ++ uses_kept s by ps;
  files = g.files ++ files_kept s by ps;
  send = g.send ++ asked_back_of s by ps;
}

pub all_gathered : (txn : TxnNo) (number : ℕ) (by : Session) (ps : List Part) (s : Server) (g : Gathered) → has_all s ps ≡ true
    → rounds txn number by ps (gathered_by g txn s) ≡ gathered_by (all_own by ps s g) txn s
all_gathered txn number by [] s g h = λ i. gathered_by (record {
  votes = sym (append-nil g.votes) i;
  at = sym (append-nil g.at) i;
  uses = sym (append-nil g.uses) i;
  files = sym (append-nil g.files) i;
  send = sym (append-nil g.send) i;
}) txn s
all_gathered txn number by (p ∷ ps) s g h =
    let v : Vote = vote_here s by p in
    ap (rounds txn (number + 1) by ps) (own_gathered g txn number by p s (first (is_mine s p.file) (has_all s ps) h))
    ∙ all_gathered txn (number + 1) by ps s (with_own v p s.me (recalls_for v s p) g) (second (is_mine s p.file) (has_all s ps) h)
    ∙ λ i. gathered_by (record {
      votes = append_assoc g.votes (Some v ∷ []) (own_votes s by ps) i;
      at = append_assoc g.at (s.me ∷ []) (map (λ (p : Part). s.me) ps) i;
      uses = append_assoc g.uses (uses_voted v p.uses) (uses_kept s by ps) i;
      files = append_assoc g.files (files_voted v p.freeze) (files_kept s by ps) i;
      send = append_assoc g.send (recalls_for v s p) (asked_back_of s by ps) i;
    }) txn s
