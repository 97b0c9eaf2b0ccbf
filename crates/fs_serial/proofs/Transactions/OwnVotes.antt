-- How a leader votes on a part of its own.
use Rattle.std.proofs.Common.{◌≡◌, ℕ, true, false, List, refl, ap, ◌∙◌, subst, cond}
use Rattle.std.specs.Prelude.{Option, Some, None, is_some}
use Rattle.fs_ident.specs.In.{In}
use Rattle.fs_ident.specs.declared.actor.PathNo.{PathNo}
use Rattle.fs_ident.specs.declared.actor.Session.{Session}
use Rattle.fs_ident.specs.declared.actor.TxnNo.{TxnNo}
use Rattle.fs_ident.proofs.Standing.{In-mapped}
use Rattle.fs_field.specs.declared.row.Row.{Row}
use Rattle.fs_field.specs.declared.used.Part.{Part}
use Rattle.fs_field.specs.declared.used.Use.{Use}
use Rattle.fs_field.specs.declared.vote.Vote.{Vote}
use Rattle.fs_field.specs.declared.vote.Vote.TheVariants.{Yes, Ended, Moved, PathsOut}
use Rattle.fs_map.specs.Map.{longest}
use Rattle.fs_server.specs.Follows.{path_in_the_way, vote_here}
use Rattle.fs_server.specs.Server.{is_mine}
use Rattle.fs_server.specs.Ships.{first_gone}
use Rattle.fs_server.specs.declared.state.Server.{Server}
use Rattle.fs_txn.specs.Preparing.{moved_to, row_locked, rows_voted, vote_by}
use Rattle.fs_txn.specs.Stages.{stage_of}
use Rattle.fs_txn.specs.Stages.Stage.{Counted}
use Rattle.fs_txn.specs.Votes.{is_moved}
use Rattle.fs_txn.proofs.Locking.{stays, yes_by, yes_here}

-- a Yes says that no row is gone
pub yes_stands : (s : Server) (by : Session) (p : Part) → is_mine s p.file ≡ true → vote_here s by p ≡ Yes
    → first_gone s.rows by p.uses ≡ None
yes_stands s by p mine h =
    let through = path_in_the_way s p.freeze in
    yes_by (first_gone s.rows by p.uses) through s.last
    (yes_here (is_mine s p.file) (vote_by (first_gone s.rows by p.uses) through s.last) (moved_to (longest s.map p.file))
    (λ e. absurd (cc e)) h)

-- the file is here
pub counts_here : (s : Server) (by : Session) (p : Part) → is_mine s p.file ≡ true → is_moved (vote_here s by p) ≡ false
counts_here s by p mine =
    let through = path_in_the_way s p.freeze in
    ap (λ b. is_moved (cond b (vote_by (first_gone s.rows by p.uses) through s.last) (moved_to (longest s.map p.file)))) mine
    ∙ by_use (first_gone s.rows by p.uses) through
  where
    by_use : (o : Option Use) (through : Option PathNo) → is_moved (vote_by o through s.last) ≡ false
    by_use None None = refl
    by_use None (Some lease) = refl
    by_use (Some u) through = refl

-- such a vote is counted
pub stage_counted : (at : ℕ) (v : Vote) → is_moved v ≡ false → stage_of at v ≡ Counted at v
stage_counted at Yes h = refl
stage_counted at (Ended n u w) h = refl
stage_counted at (PathsOut n) h = refl
stage_counted at (Moved p t) h = absurd (cc h)

-- whoever locks a row keeps it
pub voted_stay : (v : Vote) (txn : TxnNo) (uses : List Use) (rows : List Row) (row : Row) (t : TxnNo) → In row rows → row.lock ≡ Some t
    → In row (rows_voted v txn uses rows)
voted_stay Yes txn uses rows row t i e =
    subst (λ x. In x (rows_voted Yes txn uses rows)) (stays txn uses row (ap is_some e)) (In-mapped (row_locked txn uses) row rows i)
voted_stay (Ended n u w) txn uses rows row t i e = i
voted_stay (Moved q k) txn uses rows row t i e = i
voted_stay (PathsOut n) txn uses rows row t i e = i
