-- Parts that other servers ask for.
use mathlib.Core.Path.{fun_ext}
use Rattle.std.proofs.Common.{◌≡◌, ◌&&◌, ◌==◌, ◌||◌, ◌+◌, ℕ, max, Bool, true, false, not, List, [], ◌∷◌, ◌++◌, cond, refl, ap, ap₂, sym, ◌∙◌, subst, map}
use Rattle.std.specs.Prelude.{Option, Some, None, nat_lt}
use Rattle.std.specs.List.{filter, find}
use Rattle.fs_ident.specs.In.{In}
use Rattle.fs_ident.proofs.Standing.{In-map, none_pass}
use Rattle.fs_ident.specs.declared.actor.PathNo.{PathNo}
use Rattle.fs_ident.specs.declared.actor.Session.{Session}
use Rattle.fs_ident.specs.declared.actor.TxnNo.{TxnNo}
use Rattle.fs_field.specs.Field.{same_field}
use Rattle.fs_field.specs.Table.{has_no, is_lease, is_live, is_lock_of, same_kind, same_no, unlocked_row}
use Rattle.fs_field.specs.declared.effect.Effect.{Effect}
use Rattle.fs_field.specs.declared.row.Row.{Row}
use Rattle.fs_field.specs.declared.used.Part.{Part}
use Rattle.fs_field.specs.declared.used.Use.{Use}
use Rattle.fs_field.specs.declared.vote.Vote.{Vote}
use Rattle.fs_field.specs.declared.vote.Vote.TheVariants.{Yes, Ended, Moved, PathsOut}
use Rattle.fs_field.proofs.Leases.{SameLease, same_itself, unlocked_same}
use Rattle.fs_map.specs.Map.{longest}
use Rattle.fs_moderows.proofs.Witnesses.{In_filtered}
use Rattle.fs_msg.specs.declared.decide.Decide.{Decide}
use Rattle.fs_msg.specs.declared.prepare.Prepare.{Prepare}
use Rattle.fs_msg.specs.declared.server_note.ServerNote.TheVariants as note
use Rattle.fs_record.specs.Applied.{is_undoable, records_after_all, takes_away}
use Rattle.fs_rows.specs.Given.{AreGiven}
use Rattle.fs_rows.proofs.Numbers.{given_map}
use Rattle.fs_txn.specs.Decided.{AreDecided}
use Rattle.fs_txn.specs.Locks.{rows_unlocked}
use Rattle.fs_txn.specs.Preparing.{moved_to, path_against, row_locked, rows_locked, vote_by, vote_on}
use Rattle.fs_txn.specs.Ready.{is_awaited, is_prepared, records_decided, rows_left_by, without_prepared}
use Rattle.fs_txn.specs.Stages.{is_yes}
use Rattle.fs_txn.specs.declared.ready.Ready.{Ready}
use Rattle.fs_txn.proofs.Locking.{HasLockedRow, locked_in_table, not_not, used_same, yes_by, yes_here}
use Rattle.fs_txn.proofs.Waiting.{decided_once, in_their_order, last_waits, part_itself}
use Rattle.fs_server.specs.Decided.{CanDecide, stepped_by, voted_change}
use Rattle.fs_server.specs.Follows.{after_vote, applies, decide_step, path_in_the_way, paths_kept, paths_left_by, prepare_step, ready_of, vote_here, votes, with_part}
use Rattle.fs_server.specs.Grants.{IsReady}
use Rattle.fs_server.specs.Plan.{CanChange, changed}
use Rattle.fs_server.specs.Rows.{AreRows, rows_off_modes, rows_on_modes}
use Rattle.fs_server.specs.Server.{Stepped, begun, is_mine, strange}
use Rattle.fs_server.specs.Ships.{first_gone, has_row}
use Rattle.fs_server.specs.declared.change.Change.{Change}
use Rattle.fs_server.specs.declared.change.Change.TheVariants as change
use Rattle.fs_server.specs.declared.decide.Decided.{Decided}
use Rattle.fs_server.specs.declared.out.ServerOut.{ServerOut}
use Rattle.fs_server.specs.declared.state.Server.{Server}
use Rattle.fs_server.proofs.Kept.{leased_rows, with_parts, with_tables}
use Rattle.fs_server.proofs.Effects.{all_filtered}
use Rattle.fs_server.proofs.Leading.{same_gone}

-- ## Rows that change and stay the same leases

lease_same : (a b : Row) → SameLease a b → (by : Session) (u : Use)
    → is_lease u.no by u.field u.kind b ≡ is_lease u.no by u.field u.kind a
lease_same a b q by u =
    ap (λ n. ((same_no n u.no && (b.session.0 == by.0)) && same_field b.field u.field) && same_kind b.kind u.kind) q.number
    ∙ ap (λ (s : Session). ((has_no u.no a && (s.0 == by.0)) && same_field b.field u.field) && same_kind b.kind u.kind) q.session
    ∙ ap (λ f. ((has_no u.no a && (a.session.0 == by.0)) && same_field f u.field) && same_kind b.kind u.kind) q.field
    ∙ ap (λ k. ((has_no u.no a && (a.session.0 == by.0)) && same_field a.field u.field) && same_kind k u.kind) q.kind

has_same : (f : Row → Row) → ((r : Row) → SameLease r (f r)) → (by : Session) (u : Use) (rows : List Row)
    → has_row (map f rows) by u ≡ has_row rows by u
has_same f same by u [] = refl
has_same f same by u (r ∷ rs) = ap₂ (λ a b. a || b) (lease_same r (f r) (same r) by u) (has_same f same by u rs)

-- the same leases have no row then
pub gone_same : (f : Row → Row) → ((r : Row) → SameLease r (f r)) → (rows : List Row) (by : Session) (uses : List Use)
    → first_gone (map f rows) by uses ≡ first_gone rows by uses
gone_same f same rows by uses = ap (λ test. find test uses) (fun_ext (λ (u : Use). ap not (has_same f same by u rows)))

-- ## A vote

-- where the part keeps no file, no path is in its way
same_path : (s : Server) (o : Option (List ℕ)) → path_against o (path_in_the_way s o) ≡ path_in_the_way s o
same_path s None = refl
same_path s (Some file) = refl

-- it is that of the rows of both tables, and of the path leases that are given out
pub vote_is : (s : Server) (by : Session) (p : Part)
    → vote_here s by p ≡ vote_on (rows_off_modes s.rows) (rows_on_modes s.rows) s.map s.me s.last by p (path_in_the_way s p.freeze)
vote_is s by p =
    ap₂ (λ o q. cond (is_mine s p.file) (vote_by o q s.last) (moved_to (longest s.map p.file))) (sym (same_gone s.rows by p.uses))
    (sym (same_path s p.freeze))

part_ready : (x : Ready) (s : Server) → IsReady s → IsReady (with_part x s)
part_ready x s r =
    let rows : List Row = rows_locked x.txn x.part.uses s.rows in
    with_tables (record s { rows = rows; prepared = s.prepared ++ x ∷ [] }) (paths_kept x.txn x.part.freeze s.paths)
    (with_parts s s.records rows (s.prepared ++ x ∷ []) r
    (given_map s.me s.given (row_locked x.txn x.part.uses) (used_same x.txn x.part.uses) s.rows r.server.numbers)
    (leased_rows (row_locked x.txn x.part.uses) (used_same x.txn x.part.uses) s.rows r.table))

voted_so : (vote : Vote) (m : Prepare) (s : Server) → changed (voted_change vote m) s ≡ after_vote vote (ready_of m) s
voted_so Yes m s = refl
voted_so (Ended lease until now) m s = refl
voted_so (Moved prefix to) m s = refl
voted_so (PathsOut lease) m s = refl

pub votes_so : (vote : Vote) (from : ℕ) (m : Prepare) (s : Server) (d : Decided) → d.change ≡ voted_change vote m → d.out ≡ (votes vote from m s).out → stepped_by d s ≡ votes vote from m s
votes_so vote from m s d ch out =
    ap₂ (λ (c : Change) (o : ServerOut). let x : Stepped = record { server = changed c s; out = o } in x) ch out
    ∙ ap (λ (t : Server). let x : Stepped = record { server = t; out = (votes vote from m s).out } in x) (voted_so vote m s)

voted_can : (vote : Vote) (m : Prepare) (s : Server) → IsReady s → CanChange (voted_change vote m) s × IsReady (changed (voted_change vote m) s)
voted_can Yes m s r = (tt, part_ready (ready_of m) s r)
voted_can (Ended lease until now) m s r = (tt, r)
voted_can (Moved prefix to) m s r = (tt, r)
voted_can (PathsOut lease) m s r = (tt, r)

pub votes_can : (vote : Vote) (m : Prepare) (s : Server) (d : Decided) → IsReady s → d.change ≡ voted_change vote m → CanDecide d s
votes_can vote m s d r ch =
    let q = voted_can vote m s r in
    record {
      change = subst (λ c. CanChange c s) (sym ch) q.0;
      ready = subst (λ c. IsReady (changed c s)) (sym ch) q.1;
    }

-- ## A decision

left_rows : (txn : TxnNo) (left : List Ready) (rows : List Row) → AreRows rows → AreRows (rows_left_by txn left rows)
left_rows txn left rows t = elim (is_awaited txn left) as (λ b. AreRows (cond b rows (rows_unlocked txn rows))) [
  | true ↦ t
  | false ↦ leased_rows (unlocked_row txn) (unlocked_same txn) rows t
]

left_given : (me given : ℕ) (txn : TxnNo) (left : List Ready) (rows : List Row) → AreGiven me given rows → AreGiven me given (rows_left_by txn left rows)
left_given me given txn left rows n = elim (is_awaited txn left) as (λ b. AreGiven me given (cond b rows (rows_unlocked txn rows))) [
  | true ↦ n
  | false ↦ given_map me given (unlocked_row txn) (unlocked_same txn) rows n
]

decided_ready : (txn : TxnNo) (number : ℕ) (effects removals : List Effect) (s : Server) → IsReady s → IsReady (changed (change.Decide txn number effects removals) s)
decided_ready txn number effects removals s r =
    let left : List Ready = without_prepared txn number s.prepared in
    let t : Server = changed (change.Decide txn number effects removals) s in
    with_tables (record s { records = t.records; rows = t.rows; prepared = left }) (paths_left_by txn left s.paths)
    (with_parts s t.records (rows_left_by txn left s.rows) left r (left_given s.me s.given txn left s.rows r.server.numbers)
    (left_rows txn left s.rows r.table))

abbrev pub decided_by : Decide → Change
decided_by m = change.Decide m.txn m.number (filter is_undoable m.effects) (filter takes_away m.effects)

pub decided_so : (from : ℕ) (m : Decide) (s : Server) (d : Decided) → d.change ≡ decided_by m → d.out ≡ (applies from m s).out → stepped_by d s ≡ applies from m s
decided_so from m s d ch out = ap₂ (λ (c : Change) (o : ServerOut). let x : Stepped = record { server = changed c s; out = o } in x) ch out

pub decided_can : (m : Decide) (s : Server) (d : Decided) → IsReady s → d.change ≡ decided_by m → CanDecide d s
decided_can m s d r ch = record {
  change = subst (λ c. CanChange c s) (sym ch) (all_filtered is_undoable m.effects, all_filtered takes_away m.effects);
  ready = subst (λ c. IsReady (changed c s)) (sym ch) (decided_ready m.txn m.number (filter is_undoable m.effects) (filter takes_away m.effects) s r);
}

-- ## Laws of votes

pub yes_waits : (s : Server) (from : ℕ) (m : Prepare) → (prepare_step from m s).out.note ≡ note.Votes m.txn Yes → is_prepared m.txn m.number (prepare_step from m s).server.prepared ≡ true
yes_waits s from m = at (is_prepared m.txn m.number s.prepared) (vote_here s m.session m.part)
  where
    at : (b : Bool) (v : Vote) → (cond b (strange s) (votes v from m s)).out.note ≡ note.Votes m.txn Yes → is_prepared m.txn m.number (cond b (strange s) (votes v from m s)).server.prepared ≡ true
    at true v e = absurd (cc)
    at false Yes e = last_waits m.txn m.number s.prepared (ready_of m) (part_itself (ready_of m))
    at false (Ended lease until now) e = absurd (cc)
    at false (Moved prefix to) e = absurd (cc)
    at false (PathsOut lease) e = absurd (cc)

-- a row that a transaction keeps is never over
never_over : (rows : List Row) (now skew : ℕ) (by : Session) (u : Use) → HasLockedRow rows by u → HasLockedRow (filter (is_live now skew) rows) by u
never_over rows now skew by u q = (
  q.0,
  In_filtered (is_live now skew) rows q.0 q.1 (ap (λ b. b || nat_lt now (q.0.until + skew)) q.3),
  q.2,
  q.3,
)

yes_has : (s : Server) (by : Session) (p : Part) → vote_here s by p ≡ Yes → (u : Use) → In u p.uses → has_row s.rows by u ≡ true
yes_has s by p h u i =
    let out : Option PathNo = path_in_the_way s p.freeze in
    let none : first_gone s.rows by p.uses ≡ None =
    yes_by (first_gone s.rows by p.uses) out s.last
    (yes_here (is_mine s p.file) (vote_by (first_gone s.rows by p.uses) out s.last) (moved_to (longest s.map p.file)) (λ e. absurd (cc e)) h) in
    not_not (has_row s.rows by u) (none_pass (λ x. not (has_row s.rows by x)) p.uses none u i)

pub yes_rows : (s : Server) (now from : ℕ) (m : Prepare) → (prepare_step from m s).out.note ≡ note.Votes m.txn Yes → (u : Use) → In u m.part.uses → HasLockedRow (begun now (prepare_step from m s).server).rows m.session u
yes_rows s now from m = at (is_prepared m.txn m.number s.prepared) (vote_here s m.session m.part) refl
  where
    at : (b : Bool) (v : Vote) → vote_here s m.session m.part ≡ v → (cond b (strange s) (votes v from m s)).out.note ≡ note.Votes m.txn Yes → (u : Use) → In u m.part.uses → HasLockedRow (begun now (cond b (strange s) (votes v from m s)).server).rows m.session u
    at true v h e u i = absurd (cc)
    at false Yes h e u i = never_over (rows_locked m.txn m.part.uses s.rows) (max s.last now) s.skew m.session u (locked_in_table m.txn m.part.uses s.rows m.session u i (yes_has s m.session m.part h u i))
    at false (Ended lease until now) h e u i = absurd (cc)
    at false (Moved prefix to) h e u i = absurd (cc)
    at false (PathsOut lease) h e u i = absurd (cc)

pub others_stay : (s : Server) (from : ℕ) (m : Prepare) → is_yes (vote_here s m.session m.part) ≡ false → (prepare_step from m s).server ≡ s
others_stay s from m = at (is_prepared m.txn m.number s.prepared) (vote_here s m.session m.part)
  where
    at : (b : Bool) (v : Vote) → is_yes v ≡ false → (cond b (strange s) (votes v from m s)).server ≡ s
    at true v h = refl
    at false Yes h = absurd (cc)
    at false (Ended lease until now) h = refl
    at false (Moved prefix to) h = refl
    at false (PathsOut lease) h = refl

-- ## Laws of decisions

pub decided_is_over : (s : Server) (from : ℕ) (m : Decide) → is_prepared m.txn m.number (decide_step from m s).server.prepared ≡ false
decided_is_over s from m = at (is_prepared m.txn m.number s.prepared) refl
  where
    at : (b : Bool) → is_prepared m.txn m.number s.prepared ≡ b → is_prepared m.txn m.number (cond b (applies from m s) (strange s)).server.prepared ≡ false
    at true e = decided_once m.txn m.number s.prepared
    at false e = e

pub again_is_strange : (s : Server) (from later : ℕ) (m n : Decide) → n.txn ≡ m.txn → n.number ≡ m.number → decide_step later n (decide_step from m s).server ≡ strange (decide_step from m s).server
again_is_strange s from later m n a b =
    let t : Server = (decide_step from m s).server in
    ap (λ z. cond z (applies later n t) (strange t)) (ap₂ (λ x y. is_prepared x y t.prepared) a b ∙ decided_is_over s from m)

pub aborts_change_none : (s : Server) (from : ℕ) (m : Decide) → m.effects ≡ [] → (decide_step from m s).server.records ≡ s.records
aborts_change_none s from m h = at (is_prepared m.txn m.number s.prepared)
  where
    at : (b : Bool) → (cond b (applies from m s) (strange s)).server.records ≡ s.records
    at true = ap (λ es. records_decided es s.records) h
    at false = refl

pub all_applied : (s : Server) (from : ℕ) (m : Decide) → is_prepared m.txn m.number s.prepared ≡ true → AreDecided m.effects → (decide_step from m s).server.records ≡ records_after_all s.records m.effects
all_applied s from m h k = ap (λ b. (cond b (applies from m s) (strange s)).server.records) h ∙ in_their_order s.records m.effects k

pub stay_locked : (s : Server) (from : ℕ) (m : Decide) → is_awaited m.txn (decide_step from m s).server.prepared ≡ true → (decide_step from m s).server.rows ≡ s.rows
stay_locked s from m = at (is_prepared m.txn m.number s.prepared)
  where
    at : (b : Bool) → is_awaited m.txn (cond b (applies from m s) (strange s)).server.prepared ≡ true → (cond b (applies from m s) (strange s)).server.rows ≡ s.rows
    at true h = ap (λ z. cond z s.rows (rows_unlocked m.txn s.rows)) h
    at false h = refl

pub none_kept : (txn : TxnNo) (rows : List Row) (r : Row) → In r (rows_unlocked txn rows) → is_lock_of txn r.lock ≡ false
none_kept txn rows r i =
    let q = In-map (unlocked_row txn) r rows i in
    ap (λ (x : Row). is_lock_of txn x.lock) q.1.1 ∙ at q.0 (is_lock_of txn q.0.lock) refl
  where
    at : (x : Row) (b : Bool) → is_lock_of txn x.lock ≡ b → is_lock_of txn (cond b (record x { lock = None }) x).lock ≡ false
    at x true e = refl
    at x false e = e

pub last_unlocks : (s : Server) (from : ℕ) (m : Decide) → is_prepared m.txn m.number s.prepared ≡ true → is_awaited m.txn (decide_step from m s).server.prepared ≡ false → (r : Row) → In r (decide_step from m s).server.rows → is_lock_of m.txn r.lock ≡ false
last_unlocks s from m e = subst (λ b. is_awaited m.txn (cond b (applies from m s) (strange s)).server.prepared ≡ false → (r : Row) → In r (cond b (applies from m s) (strange s)).server.rows → is_lock_of m.txn r.lock ≡ false) (sym e)
    (λ h r i. none_kept m.txn s.rows r (subst (In r) (ap (λ z. cond z s.rows (rows_unlocked m.txn s.rows)) h) i))

-- ## The leases of rows

-- the row is of the same lease as one of these
abbrev pub IsOneOf : List Row → Row → Type 0
IsOneOf rows row = (r : Row) × In r rows × SameLease r row

mapped_one : (f : Row → Row) → ((r : Row) → SameLease r (f r)) → (rows : List Row) (row : Row) → In row (map f rows) → IsOneOf rows row
mapped_one f same rows row i =
    let q = In-map f row rows i in
    (q.0, q.1.0, subst (SameLease q.0) (sym q.1.1) (same q.0))

-- locks leave the leases
pub voted_rows : (vote : Vote) (from : ℕ) (m : Prepare) (s : Server) (row : Row) → In row (votes vote from m s).server.rows → IsOneOf s.rows row
voted_rows Yes from m s row i = mapped_one (row_locked m.txn m.part.uses) (used_same m.txn m.part.uses) s.rows row i
voted_rows (Ended lease until now) from m s row i = (row, i, same_itself row)
voted_rows (Moved prefix to) from m s row i = (row, i, same_itself row)
voted_rows (PathsOut lease) from m s row i = (row, i, same_itself row)

pub decided_rows : (from : ℕ) (m : Decide) (s : Server) (row : Row) → In row (applies from m s).server.rows → IsOneOf s.rows row
decided_rows from m s row = at (is_awaited m.txn (without_prepared m.txn m.number s.prepared))
  where
    at : (b : Bool) → In row (cond b s.rows (rows_unlocked m.txn s.rows)) → IsOneOf s.rows row
    at true i = (row, i, same_itself row)
    at false i = mapped_one (unlocked_row m.txn) (unlocked_same m.txn) s.rows row i
