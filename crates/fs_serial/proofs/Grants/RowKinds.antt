-- Rows that end, rows that are renewed, and rows that go back.
use Rattle.std.proofs.Common.{◌≡◌, ℕ, ◌+◌, ◌<◌, ◌≤◌, not, ◌&&◌, nat_lt, Bool, true, false, List, [], ◌∷◌, cond, map, refl, sym, ap, ◌∙◌, subst, inl, inr, arith}
use Rattle.std.specs.Prelude.{◌≢◌}
use Rattle.std.specs.List.{filter}
use Rattle.std.proofs.lemmas.Bool.Decides.{nat_tests}
use Rattle.fs_ident.specs.In.{In}
use Rattle.fs_ident.specs.declared.actor.LeaseNo.{LeaseNo}
use Rattle.fs_ident.specs.declared.actor.Session.{Session}
use Rattle.fs_ident.proofs.Booleans.{second}
use Rattle.fs_ident.proofs.Standing.{In-filter, In-map, In-mapped}
use Rattle.fs_field.specs.declared.row.Row.{Row}
use Rattle.fs_field.specs.Table.{has_no, renewed_row, same_no}
use Rattle.fs_field.proofs.Leases.{NoPlainConflict-filter, NoPlainConflict-map, renewed_same}
use Rattle.fs_field.proofs.SameNo.{same_no_is}
use Rattle.fs_msg.specs.declared.item.Item.{Item}
use Rattle.fs_serial.specs.Exchange.{ReturnFits}
use Rattle.fs_serial.specs.Parts.{AllHold}
use Rattle.fs_serial.specs.Settled.{Lease, Settled}
use Rattle.fs_serial.specs.Sight.{Sight, IsGiven}
use Rattle.fs_serial.proofs.OneServer.LeaseChanges.{RowsChange}
use Rattle.fs_serial.proofs.Grants.Granting.{shapes_filtered, shapes_renewed}
use Rattle.fs_serial.proofs.Grants.Promises.{promises_filtered, promises_renewed}

pub In-kept : {X : Type 0} (test : X → Bool) (x : X) (xs : List X) → In x xs → test x ≡ true → In x (filter test xs)
In-kept test x [] h e = absurd h
In-kept test x (y ∷ ys) (inl q) e = subst (λ b. In x (cond b (y ∷ filter test ys) (filter test ys))) (sym (ap test (sym q) ∙ e)) (inl q)
In-kept test x (y ∷ ys) (inr h) e =
    elim (test y) as (λ b. In x (cond b (y ∷ filter test ys) (filter test ys))) [
      | true ↦ inr (In-kept test x ys h e)
      | false ↦ In-kept test x ys h e
    ]

-- the sight with other rows
abbrev pub with_rows : List Row → Sight → Sight
with_rows rows s = record s { rows = rows }

-- ## Fewer rows

-- rows go, but for those of leases that have not ended
pub fewer_rows : (skew greatest : ℕ) (s : Sight) (clients : Session → Settled) (test : Row → Bool)
    → ((x : Session) (l : Lease) → In l (clients x).leases → (r : Row) → In r s.rows → r.no ≡ l.no → greatest < r.until + skew → test r ≡ true)
    → RowsChange skew greatest s (with_rows (filter test s.rows) s) clients
fewer_rows skew greatest s clients test stays = record {
  servers = λ h. record { apart = NoPlainConflict-filter test s.rows h.apart; promises = promises_filtered s.records test s.rows h.promises; serial = h.serial; reaped = h.reaped };
  kept = λ f. record { shaped = shapes_filtered test s.rows f.shaped; counted = λ r i. f.counted r (In-filter test r s.rows i); given = λ r i. f.given r (In-filter test r s.rows i); sound = f.sound; made = f.made };
  records = refl;
  stored = refl;
  journal = refl;
  relied = λ x. record {
    given = λ k. omega arith;
    older = λ r i g. record { row = r; stood = In-filter test r s.rows i; number = refl; session = refl; field = refl; kind = refl };
    kept = λ l h r i e late. record { row = r; stands = In-kept test r s.rows i (stays x l h r i e late); number = refl; lasts = omega arith };
    values = λ r i g own. inr refl;
    dirs = λ file was. was;
    made = λ file was. was;
    gone = λ file was none. none;
    items = refl;
  };
}

-- a row that has ended with all its leases is of no matter
ended_or : (skew greatest : ℕ) (r : Row) (b : Bool) → greatest < r.until + skew → (b ≡ false → r.until + skew ≤ greatest) → b ≡ true
ended_or skew greatest r true late over = refl
ended_or skew greatest r false late over = let q : r.until + skew ≤ greatest = over refl in absurd (omega arith)

-- rows that have ended at the greatest reading so far
pub rows_lapse : (skew greatest : ℕ) (s : Sight) (clients : Session → Settled) (keep : Row → Bool)
    → ((r : Row) → In r s.rows → keep r ≡ false → r.until + skew ≤ greatest) → RowsChange skew greatest s (with_rows (filter keep s.rows) s) clients
rows_lapse skew greatest s clients keep over =
    fewer_rows skew greatest s clients keep (λ x l h r i e late. ended_or skew greatest r (keep r) late (over r i))

not_same : (a b : LeaseNo) → a ≢ b → not (same_no a b) ≡ true
not_same a b h =
    elim (same_no a b) as (λ c. same_no a b ≡ c → not c ≡ true) [
      | true ↦ λ e. absurd (h (same_no_is a b e))
      | false ↦ λ e. refl
    ] refl

-- the row of a lease that goes back
pub row_goes : (skew greatest : ℕ) (s : Sight) (replied : Session → List Item) (clients : Session → Settled) (by : Session) (p : List ℕ × LeaseNo) → AllHold skew greatest s replied clients → ReturnFits s.given s.rows by (clients by).leases p
    → RowsChange skew greatest s (with_rows (filter (λ r. not (has_no p.1 r)) s.rows) s) clients
row_goes skew greatest s replied clients by p h back =
    fewer_rows skew greatest s clients (λ r. not (has_no p.1 r)) (λ x l held r i e late. not_same r.no p.1 (λ q.
    let own : x ≡ by = sym ((h.fitting x).matching l held r i e).session ∙ back.own r i q in
    let mine : In l (clients by).leases = subst (λ y. In l (clients y).leases) own held in
    back.alone l mine (sym e ∙ q)))

-- ## A row ends later

later_end : (b : Bool) (until : ℕ) (r : Row) → (b ≡ true → r.until < until) → r.until ≤ (cond b (record r { until = until }) r).until
later_end true until r h = let q : r.until < until = h refl in omega arith
later_end false until r h = omega arith

pub ends_no_sooner : (n : LeaseNo) (until : ℕ) (r : Row) → r.until ≤ (renewed_row n until r).until
ends_no_sooner n until r = later_end (has_no n r && nat_lt r.until until) until r (λ t. let q : nat_lt r.until until ≡ true = second (has_no n r) (nat_lt r.until until) t in grind (arith, nat_tests))

-- the row of this number ends no sooner than then
pub ends_then : (n : LeaseNo) (until : ℕ) (r : Row) → has_no n r ≡ true → until ≤ (renewed_row n until r).until
ends_then n until r h =
    subst (λ b. until ≤ (cond (b && nat_lt r.until until) (record r { until = until }) r).until) (sym h)
    (elim (nat_lt r.until until) as (λ b. nat_lt r.until until ≡ b → until ≤ (cond b (record r { until = until }) r).until) [
      | true ↦ λ e. omega arith
      | false ↦ λ e. grind (arith, nat_tests)
    ] refl)

pub row_renewed : (skew greatest : ℕ) (s : Sight) (clients : Session → Settled) (n : LeaseNo) (until : ℕ) → RowsChange skew greatest s (with_rows (map (renewed_row n until) s.rows) s) clients
row_renewed skew greatest s clients n until =
    record {
      servers = λ h. record { apart = NoPlainConflict-map (renewed_row n until) (renewed_same n until) s.rows h.apart; promises = promises_renewed s.records n until s.rows h.promises; serial = h.serial; reaped = h.reaped };
      kept = λ f. record {
        shaped = shapes_renewed n until s.rows f.shaped;
        counted = λ r i. let q = In-map (renewed_row n until) r s.rows i in let same : r.no.count ≡ q.0.no.count = ap (λ (x : Row). x.no.count) q.1.1 ∙ ap (λ (m : LeaseNo). m.count) (renewed_same n until q.0).number in let c = f.counted q.0 q.1.0 in omega arith;
        given = λ r i. let q = In-map (renewed_row n until) r s.rows i in subst (λ m. IsGiven s.given m) (sym (ap (λ (x : Row). x.no) q.1.1 ∙ (renewed_same n until q.0).number)) (f.given q.0 q.1.0);
        sound = f.sound;
        made = f.made;
      };
      records = refl;
      stored = refl;
      journal = refl;
      relied = λ x. record {
        given = λ k. omega arith;
        older = λ r i g.
            let q = In-map (renewed_row n until) r s.rows i in
            let same = renewed_same n until q.0 in
            record { row = q.0; stood = q.1.0; number = sym (ap (λ (y : Row). y.no) q.1.1 ∙ same.number); session = sym (ap (λ (y : Row). y.session) q.1.1 ∙ same.session); field = sym (ap (λ (y : Row). y.field) q.1.1 ∙ same.field); kind = sym (ap (λ (y : Row). y.kind) q.1.1 ∙ same.kind) };
        kept = λ l h r i e late. record { row = renewed_row n until r; stands = In-mapped (renewed_row n until) r s.rows i; number = (renewed_same n until r).number; lasts = ends_no_sooner n until r };
        values = λ r i g own. inr refl;
        dirs = λ file was. was;
        made = λ file was. was;
        gone = λ file was none. none;
        items = refl;
      };
    }
