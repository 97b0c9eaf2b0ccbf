-- Rows that go to another server, and the least transaction that keeps one from going.
use Rattle.std.proofs.Common.{◌≡◌, ℕ, ◌+◌, ◌<◌, ◌≤◌, ◌&&◌, ◌||◌, Bool, true, false, List, [], ◌∷◌, refl, ap, cond, sym, ◌∙◌, length, get_or, drop, nat_lt, arith}
use Rattle.std.proofs.lemmas.List.{drop_all, drop_more}
use Rattle.std.proofs.lemmas.Bool.Decides.{nat_tests}
use Rattle.std.specs.Prelude.{Option, Some, None, is_some}
use Rattle.std.specs.List.{filter}
use Rattle.std.specs.Ordering.{nat_cmp, is_lt, ordering_then}
use Rattle.std.proofs.Math.Bool.{or-true}
use Rattle.fs_ident.specs.Ordered.{Keyed}
use Rattle.fs_ident.specs.declared.actor.TxnNo.{TxnNo}
use Rattle.fs_field.specs.declared.row.Row.{Row}
use Rattle.fs_field.specs.Table.{is_live}
use Rattle.fs_map.specs.Map.{Owners}
use Rattle.fs_rows.specs.Moving.{is_on_given, rows_given, txn_before, lesser, least_of, lock_below, locked_in}

lives : (until : ℕ) → nat_lt 0 (until + 1) ≡ true
lives until = grind (arith, nat_tests)

-- at the reading 0 with a skew of 1 no row is over
pub all_live : (rows : List Row) → filter (is_live 0 1) rows ≡ rows
all_live [] = refl
all_live (r ∷ rs) =
    ap (λ b. cond (is_some r.lock || b) (r ∷ filter (is_live 0 1) rs) (filter (is_live 0 1) rs)) (lives r.until)
    ∙ ap (λ b. cond b (r ∷ filter (is_live 0 1) rs) (filter (is_live 0 1) rs)) (or-true (is_some r.lock))
    ∙ ap (λ zs. r ∷ zs) (all_live rs)

given_by : (b : Bool) (prefix : List ℕ) (given : Keyed Bool) (r : Row) (rs : List Row) → rows_given prefix given (cond b (r ∷ rs) rs) ≡ cond (b && is_on_given prefix given r) (r ∷ rows_given prefix given rs) (rows_given prefix given rs)
given_by true prefix given r rs = refl
given_by false prefix given r rs = refl

pub given_step : (prefix : List ℕ) (given : Keyed Bool) (live : Row → Bool) (rows : List Row) (i : ℕ) (d : Row) → i < length rows → rows_given prefix given (filter live (drop i rows)) ≡ cond (live (get_or rows i d) && is_on_given prefix given (get_or rows i d)) (get_or rows i d ∷ rows_given prefix given (filter live (drop (i + 1) rows))) (rows_given prefix given (filter live (drop (i + 1) rows)))
given_step prefix given live rows i d h = ap (λ rs. rows_given prefix given (filter live rs)) (drop_more rows i d h) ∙ given_by (live (get_or rows i d)) prefix given (get_or rows i d) (filter live (drop (i + 1) rows))

not_before : (a b c d e f : ℕ) → is_lt (ordering_then (nat_cmp c a) (nat_cmp d b)) ≡ false → is_lt (ordering_then (nat_cmp e c) (nat_cmp f d)) ≡ false → is_lt (ordering_then (nat_cmp e a) (nat_cmp f b)) ≡ false
not_before a b c d e f h k = grind (arith, nat_tests)

before : (a b c d e f : ℕ) → is_lt (ordering_then (nat_cmp c a) (nat_cmp d b)) ≡ true → is_lt (ordering_then (nat_cmp e c) (nat_cmp f d)) ≡ true → is_lt (ordering_then (nat_cmp e a) (nat_cmp f b)) ≡ true
before a b c d e f h k = grind (arith, nat_tests)

-- by the answers of the three tests
lesser_by : (p q r : Bool) (a b c : TxnNo) → (p ≡ true → q ≡ true → r ≡ true) → (p ≡ false → q ≡ false → r ≡ false) → txn_before b a ≡ p → txn_before c b ≡ q → txn_before c a ≡ r → lesser (lesser a b) c ≡ lesser a (lesser b c)
lesser_by true true true a b c up down e f g = rw (e, f, g) refl
lesser_by true true false a b c up down e f g = absurd (cc (up refl refl))
lesser_by true false r a b c up down e f g = rw (e, f) (rw e refl)
lesser_by false true r a b c up down e f g = rw (e, f) refl
lesser_by false false true a b c up down e f g = absurd (cc (down refl refl))
lesser_by false false false a b c up down e f g = rw (e, f, g) (rw e refl)

lesser_assoc : (a b c : TxnNo) → lesser (lesser a b) c ≡ lesser a (lesser b c)
lesser_assoc a b c = lesser_by (txn_before b a) (txn_before c b) (txn_before c a) a b c (before a.server a.count b.server b.count c.server c.count) (not_before a.server a.count b.server b.count c.server c.count) refl refl refl

pub least_assoc : (a b c : Option TxnNo) → least_of (least_of a b) c ≡ least_of a (least_of b c)
least_assoc None b c = refl
least_assoc (Some a) None c = refl
least_assoc (Some a) (Some b) None = refl
least_assoc (Some a) (Some b) (Some c) = ap Some (lesser_assoc a b c)

locked_by : (b : Bool) (prefix : List ℕ) (owners : Owners) (me : ℕ) (least : Option TxnNo) (r : Row) (rs : List Row) → least_of least (locked_in prefix owners me (cond b (r ∷ rs) rs)) ≡ least_of (cond b (least_of least (lock_below prefix owners me r)) least) (locked_in prefix owners me rs)
locked_by true prefix owners me least r rs = sym (least_assoc least (lock_below prefix owners me r) (locked_in prefix owners me rs))
locked_by false prefix owners me least r rs = refl

pub locked_step : (prefix : List ℕ) (owners : Owners) (me : ℕ) (least more all : Option TxnNo) (live : Row → Bool) (rows : List Row) (i : ℕ) (row : Row) → i < length rows → row ≡ get_or rows i row → more ≡ cond (live row) (least_of least (lock_below prefix owners me row)) least
    → least_of least (locked_in prefix owners me (filter live (drop i rows))) ≡ all → least_of more (locked_in prefix owners me (filter live (drop (i + 1) rows))) ≡ all
locked_step prefix owners me least more all live rows i row h is e so_far =
    let rest = drop (i + 1) rows in
    let next : drop i rows ≡ row ∷ rest = drop_more rows i row h ∙ ap (λ r. r ∷ rest) (sym is) in
    rw (e, ← locked_by (live row) prefix owners me least row (filter live rest)) (rw next at so_far)

pub locked_all : (prefix : List ℕ) (owners : Owners) (me : ℕ) (least all : Option TxnNo) (live : Row → Bool) (rows : List Row) (i : ℕ) → length rows ≤ i → least_of least (locked_in prefix owners me (filter live (drop i rows))) ≡ all → least ≡ all
locked_all prefix owners me None all live rows i h so_far = rw (drop_all i rows h) at so_far
locked_all prefix owners me (Some txn) all live rows i h so_far = rw (drop_all i rows h) at so_far
