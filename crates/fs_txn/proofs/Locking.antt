-- Locks that a Yes sets.
use Rattle.std.proofs.Common.{◌≡◌, ◌==◌, ◌&&◌, ℕ, Bool, true, false, List, [], ◌∷◌, refl, sym, ap, ◌∙◌, ap₂, ◌+◌, ◌<◌, ◌≤◌, length, get_or, drop, subst, cond, not, filter, map, inl, inr}
use Rattle.std.specs.Prelude.{◌||◌, Option, Some, None, is_some}
use Rattle.std.specs.List.{list_any}
use Rattle.std.proofs.lemmas.List.{drop_more}
use Rattle.std.proofs.lemmas.List.{drop_all}
use Rattle.fs_ident.specs.In.{In}
use Rattle.fs_ident.specs.declared.actor.LeaseNo.{LeaseNo}
use Rattle.fs_ident.specs.declared.actor.PathNo.{PathNo}
use Rattle.fs_ident.specs.declared.actor.Session.{Session}
use Rattle.fs_ident.specs.declared.actor.TxnNo.{TxnNo}
use Rattle.fs_ident.proofs.Booleans.{first}
use Rattle.fs_ident.proofs.Standing.{In-mapped, any_In, none_pass}
use Rattle.fs_field.specs.Field.{same_field, tells_no_mode}
use Rattle.fs_field.specs.Table.{has_no, is_lease, locked_row, same_kind}
use Rattle.fs_field.specs.declared.field.Field.{Field}
use Rattle.fs_field.specs.declared.lease_kind.LeaseKind.{LeaseKind}
use Rattle.fs_field.specs.declared.row.Row.{Row}
use Rattle.fs_field.specs.declared.used.Part.{Part}
use Rattle.fs_field.specs.declared.used.Use.{Use}
use Rattle.fs_field.specs.declared.vote.Vote.{Vote}
use Rattle.fs_field.specs.declared.vote.Vote.TheVariants.{Yes}
use Rattle.fs_field.proofs.Leases.{SameLease, same_itself}
use Rattle.fs_map.specs.Map.{Owners, longest, server_of}
use Rattle.fs_txn.specs.Preparing.{first_gone, has_row, is_used, moved_to, path_against, row_locked, rows_locked, rows_voted, table_of, uses_of_modes, uses_off, vote_by, vote_on}

abbrev pub locked : TxnNo → Row → Row
locked txn r = record r { lock = Some txn }

-- ## One more lease

never : {X : Type 0} (b : Bool) (x y : X) → cond (b && false) x y ≡ y
never true x y = refl
never false x y = refl

-- a row that is locked already stays as it is
pub stays : (txn : TxnNo) (us : List Use) (r : Row) → is_some r.lock ≡ true → row_locked txn us r ≡ r
stays txn us r e = ap (λ s. cond (is_used us r && not s) (locked txn r) r) e ∙ never (is_used us r) (locked txn r) r

-- a row that is locked for one lease, and then for the others, is locked for all of them
one_row : (txn : TxnNo) (u : Use) (us : List Use) (r : Row) → row_locked txn (u ∷ us) r ≡ row_locked txn us (locked_row u.no txn r)
one_row txn u us r = by (has_no u.no r) (is_some r.lock) refl
  where
    by : (a s : Bool) → is_some r.lock ≡ s → cond ((a || is_used us r) && not s) (locked txn r) r ≡ row_locked txn us (cond (a && not s) (locked txn r) r)
    by true true e = sym (stays txn us r e)
    by true false e = sym (stays txn us (locked txn r) refl)
    by false s e = ap (λ t. cond (is_used us r && not t) (locked txn r) r) (sym e)

pub one_more : (txn : TxnNo) (u : Use) (us : List Use) (rows : List Row) → rows_locked txn (u ∷ us) rows ≡ rows_locked txn us (map (locked_row u.no txn) rows)
one_more txn u us [] = refl
one_more txn u us (r ∷ rs) = ap₂ (λ x xs. x ∷ xs) (one_row txn u us r) (one_more txn u us rs)

pub none_locked : (txn : TxnNo) (rows : List Row) → rows_locked txn [] rows ≡ rows
none_locked txn [] = refl
none_locked txn (r ∷ rs) = ap (λ xs. r ∷ xs) (none_locked txn rs)

-- ## The loop over the leases

off_by : (b : Bool) (txn : TxnNo) (u : Use) (us : List Use) (rows : List Row) → rows_locked txn (cond b (u ∷ us) us) rows ≡ rows_locked txn us (cond b (map (locked_row u.no txn) rows) rows)
off_by true txn u us rows = one_more txn u us rows
off_by false txn u us rows = refl

pub off_step : (txn : TxnNo) (xs : List Use) (i : ℕ) (d : Use) (rows : List Row) → i < length xs
    → rows_locked txn (uses_off (drop i xs)) rows ≡ rows_locked txn (uses_off (drop (i + 1) xs)) (cond (tells_no_mode (get_or xs i d).field) (map (locked_row (get_or xs i d).no txn) rows) rows)
off_step txn xs i d rows lt = ap (λ us. rows_locked txn (uses_off us) rows) (drop_more xs i d lt) ∙ off_by (tells_no_mode (get_or xs i d).field) txn (get_or xs i d) (uses_off (drop (i + 1) xs)) rows

pub mode_step : (txn : TxnNo) (xs : List Use) (i : ℕ) (d : Use) (rows : List Row) → i < length xs
    → rows_locked txn (uses_of_modes (drop i xs)) rows ≡ rows_locked txn (uses_of_modes (drop (i + 1) xs)) (cond (not (tells_no_mode (get_or xs i d).field)) (map (locked_row (get_or xs i d).no txn) rows) rows)
mode_step txn xs i d rows lt = ap (λ us. rows_locked txn (uses_of_modes us) rows) (drop_more xs i d lt) ∙ off_by (not (tells_no_mode (get_or xs i d).field)) txn (get_or xs i d) (uses_of_modes (drop (i + 1) xs)) rows

pub off_end : (txn : TxnNo) (xs : List Use) (i : ℕ) (rows : List Row) → length xs ≤ i → rows_locked txn (uses_off (drop i xs)) rows ≡ rows
off_end txn xs i rows h = ap (λ us. rows_locked txn (uses_off us) rows) (drop_all i xs h) ∙ none_locked txn rows

pub mode_end : (txn : TxnNo) (xs : List Use) (i : ℕ) (rows : List Row) → length xs ≤ i → rows_locked txn (uses_of_modes (drop i xs)) rows ≡ rows
mode_end txn xs i rows h = ap (λ us. rows_locked txn (uses_of_modes us) rows) (drop_all i xs h) ∙ none_locked txn rows

-- ## All rows in one list

pub lock_step : (txn : TxnNo) (xs : List Use) (i : ℕ) (d : Use) (rows : List Row) → i < length xs → rows_locked txn (drop i xs) rows ≡ rows_locked txn (drop (i + 1) xs) (map (locked_row (get_or xs i d).no txn) rows)
lock_step txn xs i d rows lt = ap (λ us. rows_locked txn us rows) (drop_more xs i d lt) ∙ one_more txn (get_or xs i d) (drop (i + 1) xs) rows

pub lock_end : (txn : TxnNo) (xs : List Use) (i : ℕ) (rows : List Row) → length xs ≤ i → rows_locked txn (drop i xs) rows ≡ rows
lock_end txn xs i rows h = ap (λ us. rows_locked txn us rows) (drop_all i xs h) ∙ none_locked txn rows

lock_leaves : (b : Bool) (txn : TxnNo) (r : Row) → SameLease r (cond b (locked txn r) r)
lock_leaves true txn r = record { number = refl; session = refl; field = refl; kind = refl }
lock_leaves false txn r = same_itself r

-- a lock leaves the lease
pub used_same : (txn : TxnNo) (us : List Use) (r : Row) → SameLease r (row_locked txn us r)
used_same txn us r = lock_leaves (is_used us r && not (is_some r.lock)) txn r

-- ## After a Yes

lease_stays : (number : LeaseNo) (by : Session) (field : Field) (kind : LeaseKind) (txn : TxnNo) (us : List Use) (r : Row) → is_lease number by field kind (row_locked txn us r) ≡ is_lease number by field kind r
lease_stays number by field kind txn us r = at (is_used us r && not (is_some r.lock))
  where
    at : (b : Bool) → is_lease number by field kind (cond b (locked txn r) r) ≡ is_lease number by field kind r
    at true = refl
    at false = refl

pub used_by : (us : List Use) (u : Use) (r : Row) → In u us → has_no u.no r ≡ true → is_used us r ≡ true
used_by [] u r i h = absurd i
used_by (x ∷ xs) u r (inl e) h = ap (λ (y : Use). has_no y.no r || is_used xs r) (sym e) ∙ ap (λ b. b || is_used xs r) h
used_by (x ∷ xs) u r (inr i) h = at (has_no x.no r) (used_by xs u r i h)
  where
    at : (b : Bool) → is_used xs r ≡ true → (b || is_used xs r) ≡ true
    at true rest = refl
    at false rest = rest

is_locked : (txn : TxnNo) (us : List Use) (r : Row) → is_used us r ≡ true → is_some (row_locked txn us r).lock ≡ true
is_locked txn us r h = at (is_some r.lock) refl
  where
    at : (s : Bool) → is_some r.lock ≡ s → is_some (row_locked txn us r).lock ≡ true
    at true e = ap (λ (x : Row). is_some x.lock) (stays txn us r e) ∙ e
    at false e = ap (λ b. is_some (cond b (locked txn r) r).lock) (ap₂ (λ a s. a && not s) h e)

-- a locked row of the lease
abbrev pub HasLockedRow : List Row → Session → Use → Type 0
HasLockedRow rows by u = (r : Row) × In r rows × (is_lease u.no by u.field u.kind r ≡ true) × (is_some r.lock ≡ true)

in_filter : (p : Use → Bool) (xs : List Use) (u : Use) → In u xs → p u ≡ true → In u (filter p xs)
in_filter p [] u i h = i
in_filter p (x ∷ xs) u (inl e) h = subst (λ b. In u (cond b (x ∷ filter p xs) (filter p xs))) (sym (ap p (sym e) ∙ h)) (inl e)
in_filter p (x ∷ xs) u (inr i) h = at (p x) (in_filter p xs u i h)
  where
    at : (b : Bool) → In u (filter p xs) → In u (cond b (x ∷ filter p xs) (filter p xs))
    at true rest = inr rest
    at false rest = rest

of_number : (number : LeaseNo) (by : Session) (field : Field) (kind : LeaseKind) (r : Row) → is_lease number by field kind r ≡ true → has_no number r ≡ true
of_number number by field kind r h = first (has_no number r) (r.session.0 == by.0) (first (has_no number r && (r.session.0 == by.0)) (same_field r.field field) (first ((has_no number r && (r.session.0 == by.0)) && same_field r.field field) (same_kind r.kind kind) h))

pub locked_in_table : (txn : TxnNo) (us : List Use) (rows : List Row) (by : Session) (u : Use) → In u us → list_any (is_lease u.no by u.field u.kind) rows ≡ true → HasLockedRow (rows_locked txn us rows) by u
locked_in_table txn us rows by u i h =
    let q = any_In (is_lease u.no by u.field u.kind) rows h in (
      row_locked txn us q.0,
      In-mapped (row_locked txn us) q.0 rows (q.1).0,
      lease_stays u.no by u.field u.kind txn us q.0 ∙ (q.1).1,
      is_locked txn us q.0 (used_by us u q.0 i (of_number u.no by u.field u.kind q.0 (q.1).1)),
    )

-- what Yes says of the leases
pub yes_by : (o : Option Use) (through : Option PathNo) (now : ℕ) → vote_by o through now ≡ Yes → o ≡ None
yes_by None through now h = refl
yes_by (Some u) through now h = absurd (cc h)

pub yes_here : (b : Bool) (v w : Vote) → (w ≡ Yes → ⊥) → cond b v w ≡ Yes → v ≡ Yes
yes_here true v w n h = h
yes_here false v w n h = absurd (n h)

pub none_gone : (rows modes : List Row) (owners : Owners) (me now : ℕ) (by : Session) (p : Part) (through : Option PathNo) → vote_on rows modes owners me now by p through ≡ Yes → first_gone rows modes by p.uses ≡ None
none_gone rows modes owners me now by p through h =
    yes_by (first_gone rows modes by p.uses) (path_against p.freeze through) now
    (yes_here (server_of owners p.file == me) (vote_by (first_gone rows modes by p.uses) (path_against p.freeze through) now) (moved_to (longest owners p.file)) (λ e. absurd (cc e)) h)

pub not_not : (b : Bool) → not b ≡ false → b ≡ true
not_not true h = refl
not_not false h = absurd (cc h)

pub yes_locks : (rows modes : List Row) (owners : Owners) (me now : ℕ) (by : Session) (txn : TxnNo) (p : Part) (through : Option PathNo) → vote_on rows modes owners me now by p through ≡ Yes → (u : Use) → In u p.uses
    → HasLockedRow (table_of (rows_voted Yes txn (uses_off p.uses) rows) (rows_voted Yes txn (uses_of_modes p.uses) modes) u) by u
yes_locks rows modes owners me now by txn p through h u i = at (tells_no_mode u.field) refl has
  where
    has : has_row rows modes by u ≡ true
    has = not_not (has_row rows modes by u) (none_pass (λ x. not (has_row rows modes by x)) p.uses (none_gone rows modes owners me now by p through h) u i)

    at : (b : Bool) → tells_no_mode u.field ≡ b → list_any (is_lease u.no by u.field u.kind) (cond b rows modes) ≡ true → HasLockedRow (cond b (rows_locked txn (uses_off p.uses) rows) (rows_locked txn (uses_of_modes p.uses) modes)) by u
    at true e g = locked_in_table txn (uses_off p.uses) rows by u (in_filter (λ (x : Use). tells_no_mode x.field) p.uses u i e) g
    at false e g = locked_in_table txn (uses_of_modes p.uses) modes by u (in_filter (λ (x : Use). not (tells_no_mode x.field)) p.uses u i (ap not e)) g
