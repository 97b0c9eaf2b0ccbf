-- Rows that come from another server.
use Rattle.std.proofs.Common.{◌≡◌, ◌==◌, not, ◌&&◌, ◌⊎◌, ℕ, Bool, true, false, List, [], ◌∷◌, refl, sym, ◌∙◌, inl, inr}
use Rattle.std.specs.Prelude.{Some, Result, Ok, Err, OnOk, OnErr}
use Rattle.std.specs.List.{list_any}
use Rattle.std.proofs.lemmas.Bool.{not-true, not-false}
use Rattle.fs_ident.specs.In.{In}
use Rattle.fs_ident.specs.declared.memory.Memory.{Memory}
use Rattle.fs_ident.proofs.Booleans.{both}
use Rattle.fs_ident.proofs.Passing.{all-In}
use Rattle.fs_ident.proofs.Standing.{In-put, none_any, any_In}
use Rattle.fs_modes.specs.declared.modes.Mode.{Mode}
use Rattle.fs_field.specs.declared.field.Field.TheVariants.{Other}
use Rattle.fs_field.specs.declared.row.Row.{Row}
use Rattle.fs_field.specs.Conflict.{Selves, conflicts, is_self, is_fixed, has_fixed, NoConflict}
use Rattle.fs_field.specs.Field.{tells_no_mode}
use Rattle.fs_field.specs.Table.{has_no, no_before, with_row}
use Rattle.fs_field.proofs.Conflicts.{conflicts_mutual}
use Rattle.fs_rows.specs.Granted.{with_rows}
use Rattle.fs_rows.specs.Moving.{is_new, are_new}
use Rattle.fs_moderows.specs.Table.{IsModeTable}
use Rattle.fs_moderows.specs.Moving.{is_free, fits, are_on_modes}
use Rattle.fs_moderows.proofs.Tables.{put_table}
use Rattle.fs_moderows.proofs.Witnesses.{turned, fixed_row, Witness, witness, witnessed, witness_past}
use Rattle.fs_moderows.proofs.Free.{Goes, apart_goes, free_goes, goes_free}

-- what stands in the table came, or was there
pub came_or_was : (x : Row) (more rows : List Row) → In x (with_rows more rows) → In x more ⊎ In x rows
came_or_was x [] rows i = inr i
came_or_was x (m ∷ ms) rows i = elim (came_or_was x ms (with_row m rows) i) [
  | inl j ↦ inl (inr j)
  | inr j ↦ elim (In-put (λ r. no_before m.no r.no) x m rows j) [ inl e ↦ inl (inl e) | inr k ↦ inr k ]
]

-- rows on modes with new numbers leave a table of such rows
pub came_table : (rows more : List Row) → are_new rows more ≡ true → are_on_modes more ≡ true → IsModeTable rows → IsModeTable (with_rows more rows)
came_table rows [] new on t = t
came_table rows (m ∷ ms) new on t =
    let n : (is_new rows m ≡ true) × (are_new (with_row m rows) ms ≡ true) = both (is_new rows m) (are_new (with_row m rows) ms) new in
    let o : (not (tells_no_mode m.field) ≡ true) × (are_on_modes ms ≡ true) = both (not (tells_no_mode m.field)) (are_on_modes ms) on in
    came_table (with_row m rows) ms n.1 o.1 (put_table m rows (not-true (list_any (has_no m.no) rows) n.0) (not-true (tells_no_mode m.field) o.0) t)

-- none of those that came conflicts with a row of the table
abbrev AreFree : Selves → List Row → List Row → Type 0
AreFree selves rows more = (r : Row) → In r more → (x : Row) → In x rows → conflicts selves rows r x ≡ false

are_free : (selves : Selves) (rows more : List Row) → fits selves rows more ≡ true → AreFree selves (with_rows more rows) more
are_free selves rows more fit r i =
    let free : is_free selves (with_rows more rows) r ≡ true = all-In (is_free selves (with_rows more rows)) more (both (are_new rows more) _ fit).1 r i in
    none_any (conflicts selves (with_rows more rows) r) (with_rows more rows) (not-true (list_any (conflicts selves (with_rows more rows) r) (with_rows more rows)) free)

abbrev lets : List ℕ → Mode → ℕ → Row → Bool
lets h n s row = is_self h n row.field && (row.session.0 == s)

-- the third session that keeps what a row tells may be let change it by a row that came; as that one goes with the row
-- that tells, there is a fourth
still_third : (selves : Selves) (rows more : List Row) → AreFree selves (with_rows more rows) more → (a b : Row) → In a (with_rows more rows) → In b (with_rows more rows) → (h : List ℕ) (n : Mode) → a.field ≡ Other h n → is_self h n b.field ≡ true → has_fixed selves rows h n a.session b.session ≡ true → has_fixed selves (with_rows more rows) h n a.session b.session ≡ true
still_third selves rows more free a b i j h n e t third =
    let w : Witness selves rows h n a.session b.session = witness selves rows h n a.session b.session third in
    elim (is_fixed (with_rows more rows) h n w.entry.0) as (λ z. is_fixed (with_rows more rows) h n w.entry.0 ≡ z → has_fixed selves (with_rows more rows) h n a.session b.session ≡ true) [
      | true ↦ λ z. witnessed selves (with_rows more rows) h n a.session b.session (record { entry = w.entry; listed = w.listed; not_x = w.not_x; not_y = w.not_y; told = w.told; fixed = z })
      | false ↦ λ z.
          let r : (r : Row) × (In r (with_rows more rows) × (lets h n w.entry.0.0 r ≡ true)) = any_In (lets h n w.entry.0.0) (with_rows more rows) (not-false (list_any (lets h n w.entry.0.0) (with_rows more rows)) z) in
          let q : (is_self h n r.0.field ≡ true) × ((r.0.session.0 == w.entry.0.0) ≡ true) = both (is_self h n r.0.field) (r.0.session.0 == w.entry.0.0) r.1.1 in
          elim (came_or_was r.0 more rows r.1.0) [
            | inl came ↦
                let one : conflicts selves (with_rows more rows) a r.0 ≡ false = conflicts_mutual selves (with_rows more rows) a r.0 ∙ free r.0 came a i in
                let goes : Goes selves (with_rows more rows) a.session a.field a.promise r.0.session r.0.field = apart_goes selves (with_rows more rows) a r.0 one (turned r.0.session.0 w.entry.0.0 a.session.0 q.1 w.not_x) in
                let fourth : has_fixed selves (with_rows more rows) h n a.session r.0.session ≡ true = (goes h n e q.0).1 in
                witnessed selves (with_rows more rows) h n a.session b.session (witness_past selves (with_rows more rows) h n a.session r.0.session b j t (witness selves (with_rows more rows) h n a.session r.0.session fourth))
            | inr was ↦ let wrong : true ≡ false = sym q.1 ∙ fixed_row rows h n w.entry.0 r.0 w.fixed was q.0 in absurd (cc)
          ]
    ] refl

came_goes : (selves : Selves) (rows more : List Row) → AreFree selves (with_rows more rows) more → NoConflict selves rows → (a b : Row) → In a (with_rows more rows) → In b (with_rows more rows) → (a.session.0 == b.session.0) ≡ false → Goes selves (with_rows more rows) a.session a.field a.promise b.session b.field
came_goes selves rows more free was a b i j d = elim (came_or_was a more rows i) [
  | inl k ↦ apart_goes selves (with_rows more rows) a b (free a k b j) d
  | inr k ↦ elim (came_or_was b more rows j) [
    | inl l ↦ apart_goes selves (with_rows more rows) a b (conflicts_mutual selves (with_rows more rows) a b ∙ free b l a i) d
    | inr l ↦ λ h n e t.
        let before : (a.promise ≡ Some true) × (has_fixed selves rows h n a.session b.session ≡ true) = free_goes selves rows was a b k l d h n e t in
        (before.0, still_third selves rows more free a b i j h n e t before.1)
  ]
]

-- rows that fit leave a table without conflict
pub came_free : (selves : Selves) (rows more : List Row) → IsModeTable rows → are_on_modes more ≡ true → fits selves rows more ≡ true → NoConflict selves rows → NoConflict selves (with_rows more rows)
came_free selves rows more t on fit was = goes_free selves (with_rows more rows) (came_table rows more (both (are_new rows more) _ fit).0 on t).on_modes (came_goes selves rows more (are_free selves rows more fit) was)

-- the table after a call that may put in rows
pub joined_table : (result : Result (Unit {0}) Memory) (old new more : List Row) → OnOk result (new ≡ with_rows more old) → OnErr result (new ≡ old) → IsModeTable old → are_new old more ≡ true → are_on_modes more ≡ true → IsModeTable new
joined_table (Ok u) old new more p q t fresh on = rw p (came_table old more fresh on t)
joined_table (Err m) old new more p q t fresh on = rw q t
