-- What a table knows of all its rows stays true.
use Rattle.std.proofs.Common.{◌≡◌, ◌∙◌, ℕ, ◌+◌, ◌<◌, ◌≤◌, ◌&&◌, ◌||◌, Bool, true, false, not, List, [], ◌∷◌, refl, ap, sym, cond, length, get_or, drop, map, inl, inr, arith, nat_lt}
use Rattle.std.proofs.lemmas.List.{drop_more}
use Rattle.std.proofs.lemmas.Bool.Decides.{nat_tests}
use Rattle.std.specs.Prelude.{Option, Some, None, Result, Ok, Err, IfOk, OnOk, OnErr, is_some}
use Rattle.std.specs.List.{filter, list_any}
use Rattle.fs_ident.specs.declared.actor.LeaseNo.{LeaseNo}
use Rattle.fs_ident.specs.declared.actor.TxnNo.{TxnNo}
use Rattle.fs_ident.specs.declared.actor.Session.{Session}
use Rattle.fs_ident.specs.declared.memory.Memory.{Memory}
use Rattle.fs_ident.specs.In.{In}
use Rattle.fs_ident.proofs.Standing.{In-filter, In-put, In-map, none_any}
use Rattle.fs_field.specs.declared.asked.Asked.{Asked}
use Rattle.fs_field.specs.declared.asked.Asked.TheVariants.{Granted, Wait, Locked}
use Rattle.fs_field.specs.declared.field.Field.{Field}
use Rattle.fs_field.specs.declared.lease_kind.LeaseKind.{LeaseKind}
use Rattle.fs_field.specs.declared.row.Row.{Row}
use Rattle.fs_field.specs.Field.{file_of}
use Rattle.fs_field.specs.Table.{has_no, no_before, with_row, is_live, is_unlocked, is_lock_of, renewed_row, locked_row, unlocked_row}
use Rattle.fs_map.specs.Map.{Owners, is_given}
use Rattle.fs_rows.specs.Answer.{given_row, rows_after}
use Rattle.fs_rows.specs.Granted.{with_rows}
use Rattle.fs_rows.specs.Moving.{least_of, locked_in}
use Rattle.fs_rows.specs.Bounds.{end_or, least_end, EndNoSooner, AreLocksKnown, AreBounds}

-- ## The least end

pub least_step : (least : ℕ) (rows : List Row) (i : ℕ) (d : Row) → i < length rows → least_end least (drop i rows) ≡ least_end (end_or least (get_or rows i d)) (drop (i + 1) rows)
least_step least rows i d h = ap (least_end least) (drop_more rows i d h)

lesser : (b : Bool) (u l : ℕ) → (not b && nat_lt u l) ≡ true → u ≤ l
lesser true u l e = absurd (cc)
lesser false u l e = grind (arith, nat_tests)

no_less : (u l : ℕ) → nat_lt u l ≡ false → l ≤ u
no_less u l e = grind (arith, nat_tests)

not_less : (b : Bool) (u l : ℕ) → (not b && nat_lt u l) ≡ false → b ≡ false → l ≤ u
not_less true u l e f = absurd (cc)
not_less false u l e f = no_less u l e

end_or_le : (least : ℕ) (r : Row) → end_or least r ≤ least
end_or_le least r =
    elim (not (is_some r.lock) && nat_lt r.until least) as (λ b. (not (is_some r.lock) && nat_lt r.until least) ≡ b → cond b r.until least ≤ least) [
      | true ↦ λ e. lesser (is_some r.lock) r.until least e
      | false ↦ λ e. omega arith
    ] refl

end_or_end : (least : ℕ) (r : Row) → is_some r.lock ≡ false → end_or least r ≤ r.until
end_or_end least r f =
    elim (not (is_some r.lock) && nat_lt r.until least) as (λ b. (not (is_some r.lock) && nat_lt r.until least) ≡ b → cond b r.until least ≤ r.until) [
      | true ↦ λ e. omega arith
      | false ↦ λ e. not_less (is_some r.lock) r.until least e f
    ] refl

least_le : (least : ℕ) (rows : List Row) → least_end least rows ≤ least
least_le least [] = omega arith
least_le least (r ∷ rs) = let a : least_end (end_or least r) rs ≤ end_or least r = least_le (end_or least r) rs in let b : end_or least r ≤ least = end_or_le least r in omega arith

pub least_ends : (least : ℕ) (rows : List Row) → EndNoSooner (least_end least rows) rows
least_ends least [] row i e = absurd i
least_ends least (r ∷ rs) row i e = elim i [
  | inl p ↦
      let a : least_end (end_or least r) rs ≤ end_or least r = least_le (end_or least r) rs in
      let b : end_or least r ≤ r.until = end_or_end least r (ap (λ (z : Row). is_some z.lock) (sym p) ∙ e) in
      let c : row.until ≡ r.until = ap (λ (z : Row). z.until) p in
      omega arith
  | inr j ↦ least_ends (end_or least r) rs row j e
]

pub ends_are : (end : ℕ) (least : ℕ) (rows : List Row) → end ≡ least_end least rows → EndNoSooner end rows
ends_are end least rows e = rw e (least_ends least rows)

pub locks_are : (locked : Bool) (rows : List Row) → locked ≡ list_any (λ (r : Row). is_some r.lock) rows → AreLocksKnown locked rows
locks_are locked rows e none = none_any (λ (r : Row). is_some r.lock) rows (sym e ∙ none)

-- ## Where there is nothing to find

still : (now skew least until : ℕ) → nat_lt now (least + skew) ≡ true → least ≤ until → nat_lt now (until + skew) ≡ true
still now skew least until h l = grind (arith, nat_tests)

lives : (now skew least : ℕ) (r : Row) (b : Bool) → is_some r.lock ≡ b → nat_lt now (least + skew) ≡ true → (is_some r.lock ≡ false → least ≤ r.until) → (b || nat_lt now (r.until + skew)) ≡ true
lives now skew least r true e h l = refl
lives now skew least r false e h l = still now skew least r.until h (l e)

-- before the least end and the skew are over no row is
pub none_over : (now skew least : ℕ) (rows : List Row) → nat_lt now (least + skew) ≡ true → EndNoSooner least rows → filter (is_live now skew) rows ≡ rows
none_over now skew least [] h e = refl
none_over now skew least (r ∷ rs) h e =
    ap (λ b. cond b (r ∷ filter (is_live now skew) rs) (filter (is_live now skew) rs)) (lives now skew least r (is_some r.lock) refl h (e r (inl refl)))
    ∙ ap (λ zs. r ∷ zs) (none_over now skew least rs h (λ row i. e row (inr i)))

unkept : (txn : TxnNo) (o : Option TxnNo) → is_some o ≡ false → is_lock_of txn o ≡ false
unkept txn None e = refl
unkept txn (Some t) e = absurd (cc)

-- where no transaction keeps a row there is none to be let go
pub none_kept : (txn : TxnNo) (rows : List Row) → ((row : Row) → In row rows → is_some row.lock ≡ false) → map (unlocked_row txn) rows ≡ rows
none_kept txn [] h = refl
none_kept txn (r ∷ rs) h =
    ap (λ b. cond b (record r { lock = None }) r ∷ map (unlocked_row txn) rs) (unkept txn r.lock (h r (inl refl)))
    ∙ ap (λ zs. r ∷ zs) (none_kept txn rs (λ row i. h row (inr i)))

pub none_to_go : (txn : TxnNo) (locked : Bool) (rows : List Row) → AreLocksKnown locked rows → locked ≡ false → rows ≡ map (unlocked_row txn) rows
none_to_go txn locked rows h n = sym (none_kept txn rows (h n))

none_there : (b : Bool) (o : Option TxnNo) → is_some o ≡ false → cond b o None ≡ None
none_there true None e = refl
none_there true (Some t) e = absurd (cc)
none_there false o e = refl

-- and none that keeps one below a prefix
pub none_below : (prefix : List ℕ) (owners : Owners) (me : ℕ) (rows : List Row) → ((row : Row) → In row rows → is_some row.lock ≡ false) → locked_in prefix owners me rows ≡ None
none_below prefix owners me [] h = refl
none_below prefix owners me (r ∷ rs) h =
    ap (λ o. least_of o (locked_in prefix owners me rs)) (none_there (is_given owners me prefix (file_of r.field)) r.lock (h r (inl refl)))
    ∙ none_below prefix owners me rs (λ row i. h row (inr i))

pub none_locked_in : (prefix : List ℕ) (owners : Owners) (me : ℕ) (locked : Bool) (rows : List Row) → AreLocksKnown locked rows → locked ≡ false → None ≡ locked_in prefix owners me rows
none_locked_in prefix owners me locked rows h n = sym (none_below prefix owners me rows (h n))

-- ## After a change

first_false : (a b : Bool) → (a || b) ≡ false → a ≡ false
first_false true b e = absurd (cc)
first_false false b e = refl

second_false : (a b : Bool) → (a || b) ≡ false → b ≡ false
second_false true b e = absurd (cc)
second_false false b e = e

pub bounds_filter : (least : ℕ) (locked : Bool) (test : Row → Bool) (rows : List Row) → AreBounds least locked rows → AreBounds least locked (filter test rows)
bounds_filter least locked test rows b = record {
  ends = λ row i. b.ends row (In-filter test row rows i);
  locks = λ n row i. b.locks n row (In-filter test row rows i);
}

pub ends_put : (least new : ℕ) (r : Row) (rows : List Row) → new ≤ least → (is_some r.lock ≡ false → new ≤ r.until) → EndNoSooner least rows → EndNoSooner new (with_row r rows)
ends_put least new r rows l u h row i e = elim (In-put (λ x. no_before r.no x.no) row r rows i) [
  | inl p ↦ let a : new ≤ r.until = u (ap (λ (z : Row). is_some z.lock) (sym p) ∙ e) in let c : row.until ≡ r.until = ap (λ (z : Row). z.until) p in omega arith
  | inr j ↦ let a : least ≤ row.until = h row j e in omega arith
]

pub locks_put : (locked new : Bool) (r : Row) (rows : List Row) → (new ≡ false → locked ≡ false) → (new ≡ false → is_some r.lock ≡ false) → AreLocksKnown locked rows → AreLocksKnown new (with_row r rows)
locks_put locked new r rows k u h n row i = elim (In-put (λ x. no_before r.no x.no) row r rows i) [
  | inl p ↦ ap (λ (z : Row). is_some z.lock) p ∙ u n
  | inr j ↦ h (k n) row j
]

ends_rows : (least new : ℕ) (more rows : List Row) → new ≤ least → EndNoSooner new more → EndNoSooner least rows → EndNoSooner new (with_rows more rows)
ends_rows least new [] rows l u h = λ row i e. let a : least ≤ row.until = h row i e in omega arith
ends_rows least new (m ∷ ms) rows l u h = ends_rows new new ms (with_row m rows) (omega arith) (λ row i. u row (inr i)) (ends_put least new m rows l (u m (inl refl)) h)

pub locks_rows : (locked new : Bool) (more rows : List Row) → (new ≡ false → locked ≡ false) → AreLocksKnown new more → AreLocksKnown locked rows → AreLocksKnown new (with_rows more rows)
locks_rows locked new [] rows k u h = λ n row i. h (k n) row i
locks_rows locked new (m ∷ ms) rows k u h = locks_rows new new ms (with_row m rows) (λ n. n) (λ n row i. u n row (inr i)) (locks_put locked new m rows k (λ n. u n m (inl refl)) h)

-- after a question, whatever it was answered
pub bounds_asked : (asked : Result Asked Memory) (number : LeaseNo) (session : Session) (field : Field) (kind : LeaseKind) (until least new : ℕ) (locked : Bool) (old rows : List Row)
    → IfOk asked (λ a. rows ≡ rows_after a (given_row number session field kind until) old) → OnErr asked (rows ≡ old) → new ≤ least → new ≤ until → AreBounds least locked old → AreBounds new locked rows
bounds_asked (Ok (Granted v)) number session field kind until least new locked old rows p q l u b = rw p (record {
  ends = ends_put least new (given_row number session field kind until) old l (λ e. u) b.ends;
  locks = locks_put locked locked (given_row number session field kind until) old (λ n. n) (λ n. refl) b.locks;
})
bounds_asked (Ok (Wait w)) number session field kind until least new locked old rows p q l u b = rw p (record { ends = λ row i e. let a : least ≤ row.until = b.ends row i e in omega arith; locks = b.locks })
bounds_asked (Ok (Locked t)) number session field kind until least new locked old rows p q l u b = rw p (record { ends = λ row i e. let a : least ≤ row.until = b.ends row i e in omega arith; locks = b.locks })
bounds_asked (Err m) number session field kind until least new locked old rows p q l u b = rw q (record { ends = λ row i e. let a : least ≤ row.until = b.ends row i e in omega arith; locks = b.locks })

later : (u v : ℕ) → nat_lt u v ≡ true → u ≤ v
later u v e = grind (arith, nat_tests)

right : (a b : Bool) → (a && b) ≡ true → b ≡ true
right true b e = e
right false b e = absurd (cc)

renewed_lock : (n : LeaseNo) (u : ℕ) (r : Row) → (renewed_row n u r).lock ≡ r.lock
renewed_lock n u r = elim (has_no n r && nat_lt r.until u) as (λ b. (cond b (record r { until = u }) r).lock ≡ r.lock) [ true ↦ refl | false ↦ refl ]

renewed_end : (n : LeaseNo) (u : ℕ) (r : Row) → r.until ≤ (renewed_row n u r).until
renewed_end n u r = elim (has_no n r && nat_lt r.until u) as (λ b. (has_no n r && nat_lt r.until u) ≡ b → r.until ≤ (cond b (record r { until = u }) r).until) [
  | true ↦ λ e. later r.until u (right (has_no n r) (nat_lt r.until u) e)
  | false ↦ λ e. omega arith
] refl

pub bounds_renewed : (least : ℕ) (locked : Bool) (n : LeaseNo) (u : ℕ) (rows : List Row) → AreBounds least locked rows → AreBounds least locked (map (renewed_row n u) rows)
bounds_renewed least locked n u rows b = record {
  ends = λ row i e.
      let q : (x : Row) × (In x rows × (row ≡ renewed_row n u x)) = In-map (renewed_row n u) row rows i in
      let was : is_some q.0.lock ≡ false = ap is_some (sym (renewed_lock n u q.0)) ∙ ap (λ (z : Row). is_some z.lock) (sym q.1.1) ∙ e in
      let a : least ≤ q.0.until = b.ends q.0 q.1.0 was in
      let c : q.0.until ≤ (renewed_row n u q.0).until = renewed_end n u q.0 in
      let d : row.until ≡ (renewed_row n u q.0).until = ap (λ (z : Row). z.until) q.1.1 in
      omega arith;
  locks = λ n0 row i.
      let q : (x : Row) × (In x rows × (row ≡ renewed_row n u x)) = In-map (renewed_row n u) row rows i in
      ap (λ (z : Row). is_some z.lock) q.1.1 ∙ ap is_some (renewed_lock n u q.0) ∙ b.locks n0 q.0 q.1.0;
}

locked_end : (n : LeaseNo) (t : TxnNo) (least : ℕ) (x : Row) → (is_some x.lock ≡ false → least ≤ x.until) → is_some (locked_row n t x).lock ≡ false → least ≤ (locked_row n t x).until
locked_end n t least x h = elim (is_unlocked n x) as (λ b. is_some (cond b (record x { lock = Some t }) x).lock ≡ false → least ≤ (cond b (record x { lock = Some t }) x).until) [
  | true ↦ λ e. absurd (cc)
  | false ↦ h
]

pub bounds_locked : (least : ℕ) (locked : Bool) (n : LeaseNo) (t : TxnNo) (rows : List Row) → AreBounds least locked rows → AreBounds least true (map (locked_row n t) rows)
bounds_locked least locked n t rows b = record {
  ends = λ row i e.
      let q : (x : Row) × (In x rows × (row ≡ locked_row n t x)) = In-map (locked_row n t) row rows i in
      let a : least ≤ (locked_row n t q.0).until = locked_end n t least q.0 (b.ends q.0 q.1.0) (ap (λ (z : Row). is_some z.lock) (sym q.1.1) ∙ e) in
      let d : row.until ≡ (locked_row n t q.0).until = ap (λ (z : Row). z.until) q.1.1 in
      omega arith;
  locks = λ n0. absurd (cc);
}

-- at the end 0
pub bounds_none : (locked : Bool) (rows : List Row) → AreLocksKnown locked rows → AreBounds 0 locked rows
bounds_none locked rows h = record { ends = λ row i e. omega arith; locks = h }

-- after several more rows
pub locks_more : (locked known : Bool) (more rows : List Row) → known ≡ (locked || list_any (λ (r : Row). is_some r.lock) more) → AreLocksKnown locked rows → AreLocksKnown known (with_rows more rows)
locks_more locked known more rows e h = locks_rows locked known more rows
    (λ n. first_false locked (list_any (λ (r : Row). is_some r.lock) more) (sym e ∙ n))
    (λ n row i. none_any (λ (r : Row). is_some r.lock) more (second_false locked (list_any (λ (r : Row). is_some r.lock) more) (sym e ∙ n)) row i)
    h

locks_still : (locked known : Bool) (more rows : List Row) → known ≡ (locked || list_any (λ (r : Row). is_some r.lock) more) → AreLocksKnown locked rows → AreLocksKnown known rows
locks_still locked known more rows e h n = h (first_false locked (list_any (λ (r : Row). is_some r.lock) more) (sym e ∙ n))

pub bounds_joined : (result : Result (Unit {0}) Memory) (least end new : ℕ) (locked known : Bool) (old rows more : List Row) → OnOk result (rows ≡ with_rows more old) → OnErr result (rows ≡ old)
    → new ≤ least → new ≤ end → EndNoSooner end more → known ≡ (locked || list_any (λ (r : Row). is_some r.lock) more) → AreBounds least locked old → AreBounds new known rows
bounds_joined (Ok u) least end new locked known old rows more p q l m h e b = rw p (record {
  ends = ends_rows least new more old l (λ row i f. let a : end ≤ row.until = h row i f in omega arith) b.ends;
  locks = locks_more locked known more old e b.locks;
})
bounds_joined (Err x) least end new locked known old rows more p q l m h e b = rw q (record {
  ends = λ row i f. let a : least ≤ row.until = b.ends row i f in omega arith;
  locks = locks_still locked known more old e b.locks;
})

pub locks_granted : (result : Result (Unit {0}) Memory) (locked known : Bool) (test : Row → Bool) (old rows more : List Row) → OnOk result (rows ≡ with_rows more (filter test old)) → OnErr result (rows ≡ old)
    → known ≡ (locked || list_any (λ (r : Row). is_some r.lock) more) → AreLocksKnown locked old → AreLocksKnown known rows
locks_granted (Ok u) locked known test old rows more p q e h = rw p (locks_more locked known more (filter test old) e (λ n row i. h n row (In-filter test row old i)))
locks_granted (Err x) locked known test old rows more p q e h = rw q (locks_still locked known more old e h)

-- where the new rows end no sooner than what is told of both
pub ends_granted : (left end new : ℕ) (more rows : List Row) → new ≤ left → new ≤ end → EndNoSooner left rows → EndNoSooner end more → EndNoSooner new (with_rows more rows)
ends_granted left end new more rows l m h k = ends_rows left new more rows l (λ row i f. let a : end ≤ row.until = k row i f in omega arith) h
