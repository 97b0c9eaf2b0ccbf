-- No two rows conflict after a parcel that fits has come, nor after one has gone.
use Rattle.std.proofs.Common.{◌≡◌, ◌==◌, ℕ, Bool, true, false, not, ◌&&◌, ◌||◌, List, [], ◌∷◌, refl, ap, sym, cond, ◌∙◌, subst, inl, inr}
use Rattle.std.specs.Prelude.{Option, Some, None}
use Rattle.std.specs.Cmp.Lexicographic.{slice_cmp, same_text, nat_list_cmp_total, nat_list_eq_equiv}
use Rattle.std.specs.FinMap.{get, get-insert, insert}
use Rattle.std.specs.List.{list_all, list_any}
use Rattle.std.specs.Ordering.{eq_by_cmp, nat_cmp}
use Rattle.fs_ident.specs.Ident.{same}
use Rattle.fs_ident.specs.In.{In}
use Rattle.fs_ident.specs.Ordered.{Keyed}
use Rattle.fs_ident.specs.declared.actor.Session.{Session}
use Rattle.fs_ident.proofs.Booleans.{both as both_hold, first, second, neither, second_fails}
use Rattle.fs_modes.specs.Modes.{has}
use Rattle.fs_modes.specs.declared.modes.Mode.{Mode}
use Rattle.fs_modes.specs.declared.modes.Modes.{Modes}
use Rattle.fs_field.specs.Conflict.{NoConflict, NoPlainConflict, Selves, can_fail, conflicts, has_fixed, is_fixed, is_self, mode_conflict, mode_meets, plain_conflict}
use Rattle.fs_field.specs.Field.{file_of, same_mode, tells_no_mode}
use Rattle.fs_field.specs.declared.field.Field.{Field}
use Rattle.fs_field.specs.declared.field.Field.TheVariants.{Life, Child, Names, Info, Own, SelfW, Other}
use Rattle.fs_field.specs.declared.row.Row.{Row}
use Rattle.fs_moderows.specs.Moving.{is_free, selves_listed}
use Rattle.fs_record.specs.Moving.{are_distinct, records_left, with_records}
use Rattle.fs_record.specs.Records.{RecordMap, node_of}
use Rattle.fs_record.specs.ValueOf.{handles_of, selves_in, selves_of}
use Rattle.fs_record.specs.declared.record.Record.{Record}
use Rattle.fs_record.proofs.NodeValues.{tied}
use Rattle.fs_record.specs.declared.parcel.Parcel.{Parcel}
use Rattle.fs_map.specs.Map.{Owners, gives}
use Rattle.fs_moderows.proofs.Moves.{came_or_was}
use Rattle.fs_moderows.proofs.Witnesses.{In_filtered, In_none, not_both, lets}
use Rattle.fs_field.proofs.Conflicts.{conflicts_mutual, self_on, self_file}
use Rattle.fs_ident.proofs.Passing.{all-In}
use Rattle.fs_ident.proofs.Standing.{In-filter, none_any}
use Rattle.fs_record.proofs.Coming.{stays}
use Rattle.fs_rows.specs.Granted.{with_rows}
use Rattle.fs_rows.specs.Moving.{are_new, is_on_given, rows_left}
use Rattle.std.proofs.lemmas.Map.Views.{any-filter_same}
use Rattle.std.specs.Cmp.{nat_eq_equiv}
use Rattle.std.proofs.lemmas.Bool.{not-true}
use Rattle.std.proofs.Math.Bool.{or-false}
use Rattle.fs_parcel.specs.Parcel.{selves_of_records}
use Rattle.fs_parcel.specs.Rows.{AreRows, is_off_modes, rows_on_modes}
use Rattle.fs_parcel.proofs.Both.{filter_with_rows, filtered_rows, passing}
use Rattle.fs_parcel.proofs.Coming.{any_with_rows}
use Rattle.fs_parcel.proofs.Formed.{Fitting, formed}
use Rattle.fs_parcel.proofs.Installed.{all_rows, came_elsewhere, fit_on, none_here, row_given}

-- ## Who has handles on a file that came

-- a file is asked for by one test or the other
asked : (f k : List ℕ) → eq_by_cmp (slice_cmp nat_cmp) f k ≡ same k f
asked f k = tied f k ∙ nat_list_eq_equiv.symm f k

not_among : (es : Keyed Record) (f : List ℕ) → list_any (λ g. same g.0 f) es ≡ false → (m : RecordMap) → get (with_records es m) f ≡ get m f
not_among [] f h m = refl
not_among (e ∷ es) f h m =
    let q : (same e.0 f ≡ false) × (list_any (λ g. same g.0 f) es ≡ false) = neither (same e.0 f) (list_any (λ g. same g.0 f) es) h in
    not_among es f q.1 (insert m e.0 e.1)
    ∙ get-insert nat_list_cmp_total m e.0 e.1 f
    ∙ ap (λ b. cond b (Some e.1) (get m f)) (asked f e.0 ∙ q.0)

abbrev told : Option Record → List (Session × Modes)
told o = selves_of (handles_of (node_of o))

pub listed_at : (es : Keyed Record) (f : List ℕ) → are_distinct es ≡ true → (m : RecordMap) → get m f ≡ None → selves_in (with_records es m) f ≡ selves_listed (selves_of_records es) f
listed_at [] f d m h = ap told h
listed_at (e ∷ es) f d m h =
    let q : (not (list_any (λ g. same g.0 e.0) es) ≡ true) × (are_distinct es ≡ true) = both_hold (not (list_any (λ g. same g.0 e.0) es)) (are_distinct es) d in
    elim (same e.0 f) as (λ b. same e.0 f ≡ b → told (get (with_records es (insert m e.0 e.1)) f) ≡ cond b (selves_of e.1.node.handles) (selves_listed (selves_of_records es) f)) [
      | true ↦ λ s. ap told (
          not_among es f (ap (λ k. list_any (λ g. same g.0 k) es) (sym (same_text e.0 f (sym s))) ∙ not-true (list_any (λ g. same g.0 e.0) es) q.0) (insert m e.0 e.1)
          ∙ get-insert nat_list_cmp_total m e.0 e.1 f
          ∙ ap (λ b. cond b (Some e.1) (get m f)) (asked f e.0 ∙ s))
      | false ↦ λ s. listed_at es f q.1 (insert m e.0 e.1) (
          get-insert nat_list_cmp_total m e.0 e.1 f
          ∙ ap (λ b. cond b (Some e.1) (get m f)) (asked f e.0 ∙ s)
          ∙ h)
    ] refl

-- ## What a conflict over a mode looks at

any_alike : {X : Type 0} (p q : X → Bool) → ((x : X) → p x ≡ q x) → (xs : List X) → list_any p xs ≡ list_any q xs
any_alike p q k [] = refl
any_alike p q k (x ∷ xs) = ap (λ b. b || list_any p xs) (k x) ∙ ap (λ b. q x || b) (any_alike p q k xs)

fixed_alike : (selves other : Selves) (rows left : List Row) (f : List ℕ) (m : Mode) (x y : Session) → selves f ≡ other f → ((s : Session) → is_fixed rows f m s ≡ is_fixed left f m s) → has_fixed selves rows f m x y ≡ has_fixed other left f m x y
fixed_alike selves other rows left f m x y e k =
    ap (list_any (λ e. ((not (e.0.0 == x.0) && not (e.0.0 == y.0)) && has e.1 m) && is_fixed rows f m e.0)) e
    ∙ any_alike (λ e. ((not (e.0.0 == x.0) && not (e.0.0 == y.0)) && has e.1 m) && is_fixed rows f m e.0) (λ e. ((not (e.0.0 == x.0) && not (e.0.0 == y.0)) && has e.1 m) && is_fixed left f m e.0)
    (λ e. ap (λ b. ((not (e.0.0 == x.0) && not (e.0.0 == y.0)) && has e.1 m) && b) (k e.0)) (other f)

-- it looks at the handles on the file alone, and at who may change what it tells of it
pub meets_alike : (selves other : Selves) (rows left : List Row) (x y : Session) (f g : Field) (promise : Option Bool) → selves (file_of f) ≡ other (file_of f) → ((m : Mode) (s : Session) → is_fixed rows (file_of f) m s ≡ is_fixed left (file_of f) m s) → mode_meets selves rows x f promise y g ≡ mode_meets other left x f promise y g
meets_alike selves other rows left x y (Other f m) (SelfW g n) promise e k = ap (λ b. (same f g && same_mode m n) && can_fail promise b) (fixed_alike selves other rows left f m x y e (k m))
meets_alike selves other rows left x y f g promise e k = refl

can_always : (promise : Option Bool) → can_fail promise false ≡ true
can_always None = refl
can_always (Some true) = refl
can_always (Some false) = refl

-- where nobody has a handle on the file, each two leases on its mode conflict: so none do anywhere
pub meets_nobody : (selves other : Selves) (rows left : List Row) (x y : Session) (f g : Field) (promise : Option Bool) → selves (file_of f) ≡ [] → mode_meets selves rows x f promise y g ≡ false → mode_meets other left x f promise y g ≡ false
meets_nobody selves other rows left x y (Other f m) (SelfW g n) promise e h = ap (λ b. b && can_fail promise (has_fixed other left f m x y)) (
    never (same f g && same_mode m n)
    (sym (ap (λ b. (same f g && same_mode m n) && b) (ap (λ l. can_fail promise (list_any (λ e. ((not (e.0.0 == x.0) && not (e.0.0 == y.0)) && has e.1 m) && is_fixed rows f m e.0) l)) e ∙ can_always promise)) ∙ h)) where
      never : (b : Bool) → (b && true) ≡ false → b ≡ false
      never true h = h
      never false h = refl
meets_nobody selves other rows left x y f g promise e h = refl

-- they conflict on one file alone, and none does off modes
meets_apart : (selves : Selves) (rows : List Row) (x y : Session) (f g : Field) (promise : Option Bool) → (file_of f ≡ file_of g → ⊥) → mode_meets selves rows x f promise y g ≡ false
meets_apart selves rows x y (Other f m) (SelfW g n) promise k = elim (same f g) as (λ b. same f g ≡ b → ((b && same_mode m n) && can_fail promise (has_fixed selves rows f m x y)) ≡ false) [
  | true ↦ λ s. absurd (k (same_text f g (sym s)))
  | false ↦ λ s. refl
] refl
meets_apart selves rows x y f g promise k = refl

meets_off_first : (selves : Selves) (rows : List Row) (x y : Session) (f g : Field) (promise : Option Bool) → tells_no_mode f ≡ true → mode_meets selves rows x f promise y g ≡ false
meets_off_first selves rows x y (Other f m) g promise h = absurd (cc)
meets_off_first selves rows x y f g promise h = refl

meets_off_second : (selves : Selves) (rows : List Row) (x y : Session) (f g : Field) (promise : Option Bool) → tells_no_mode g ≡ true → mode_meets selves rows x f promise y g ≡ false
meets_off_second selves rows x y f (SelfW g n) promise h = absurd (cc)
meets_off_second selves rows x y (Other f m) (Life g) promise h = refl
meets_off_second selves rows x y (Other f m) (Child g n) promise h = refl
meets_off_second selves rows x y (Other f m) (Names g) promise h = refl
meets_off_second selves rows x y (Other f m) (Info g) promise h = refl
meets_off_second selves rows x y (Other f m) (Own g) promise h = refl
meets_off_second selves rows x y (Other f m) (Other g n) promise h = absurd (cc)
meets_off_second selves rows x y f g promise h = refl

-- ## From pairs to all

turned : (a b : ℕ) → not (a == b) ≡ true → not (b == a) ≡ true
turned a b h = ap not (nat_eq_equiv.symm b a) ∙ h

abbrev Meets : Selves → List Row → Row → Row → Bool
Meets selves rows a b = mode_meets selves rows a.session a.field a.promise b.session b.field

abbrev differ : Row → Row → Bool
differ a b = not (a.session.0 == b.session.0)

-- two rows that do not conflict do not meet over a mode
pair_quiet : (selves : Selves) (rows : List Row) (a b : Row) → differ a b ≡ true → conflicts selves rows a b ≡ false → Meets selves rows a b ≡ false
pair_quiet selves rows a b d h = (neither (Meets selves rows a b) (Meets selves rows b a) (second_fails (differ a b) (Meets selves rows a b || Meets selves rows b a) d (neither (plain_conflict a b) (mode_conflict selves rows a b) h).1)).0

-- where no two rows of different sessions meet, none conflict
all_quiet : (selves : Selves) (rows : List Row) → NoPlainConflict rows → ((a b : Row) → In a rows → In b rows → differ a b ≡ true → Meets selves rows a b ≡ false) → NoConflict selves rows
all_quiet selves rows plain k a b i j =
    ap (λ x. x || mode_conflict selves rows a b) (plain a b i j)
    ∙ elim (differ a b) as (λ d. differ a b ≡ d → (d && (Meets selves rows a b || Meets selves rows b a)) ≡ false) [
      | true ↦ λ d. ap (λ x. x || Meets selves rows b a) (k a b i j d) ∙ k b a j i (turned a.session.0 b.session.0 d)
      | false ↦ λ d. refl
    ] refl

-- ## A parcel comes

module _ (records : RecordMap) (rows : List Row) (map : Owners) (me : ℕ) (p : Parcel) (f : Fitting records rows map me p) (t : AreRows rows) (free : NoConflict (selves_in records) rows) where
  abbrev came : Selves
  came = selves_in (with_records p.records records)

  abbrev all : List Row
  all = with_rows p.rows rows

  abbrev of_modes : List Row
  of_modes = with_rows (rows_on_modes p.rows) (rows_on_modes rows)

  abbrev given : List ℕ → Bool
  given file = gives p.prefix p.piece.given file

  in_order : AreRows all
  in_order = all_rows records rows map me p f t

  modes_part : rows_on_modes all ≡ of_modes
  modes_part = filter_with_rows (λ r. not (is_off_modes r)) p.rows rows in_order.ordered

  -- who may change what it tells of a file that is not given
  fixed_elsewhere : (file : List ℕ) → given file ≡ false → (m : Mode) (s : Session) → is_fixed all file m s ≡ is_fixed rows file m s
  fixed_elsewhere file h m s = ap not (
      any_with_rows (lets file m s) p.rows rows
      ∙ ap (λ b. list_any (lets file m s) rows || b) (In_none (lets file m s) p.rows (λ r i. not_both (is_self file m r.field) (r.session.0 == s.0) (λ e.
      let wrong : true ≡ false = sym (row_given records rows map me p f r i) ∙ ap given (self_file file m r.field e) ∙ h in absurd (cc))))
      ∙ or-false (list_any (lets file m s) rows))

  -- and of any
  fixed_on : (file : List ℕ) (m : Mode) (s : Session) → is_fixed all file m s ≡ is_fixed of_modes file m s
  fixed_on file m s = ap not (
      sym (any-filter_same (lets file m s) (λ r. not (is_off_modes r)) true (λ r e. self_on file m r.field (first (is_self file m r.field) (r.session.0 == s.0) e)) all)
      ∙ ap (list_any (lets file m s)) modes_part)

  abbrev listed : Selves
  listed = selves_listed (selves_of_records p.records)

  -- of the rows on modes none conflicts with one that came
  came_pair : (a b : Row) → In a p.rows → In b all → is_off_modes a ≡ false → is_off_modes b ≡ false → conflicts listed of_modes a b ≡ false
  came_pair a b i j oa ob =
      let alone : is_free listed of_modes a ≡ true = all-In (is_free listed of_modes) (rows_on_modes p.rows) (second (are_new (rows_on_modes rows) (rows_on_modes p.rows)) (list_all (is_free listed of_modes) (rows_on_modes p.rows)) (fit_on records rows map me p f)) a (In_filtered (λ r. not (is_off_modes r)) p.rows a i (ap not oa)) in
      none_any (conflicts listed of_modes a) of_modes (not-true (list_any (conflicts listed of_modes a) of_modes) alone) b (subst (In b) modes_part (In_filtered (λ r. not (is_off_modes r)) all b j (ap not ob)))

  -- a row that came meets none
  first_quiet : (a b : Row) → In a p.rows → In b all → differ a b ≡ true → Meets listed of_modes a b ≡ false
  first_quiet a b i j d = elim (is_off_modes a) as (λ x. is_off_modes a ≡ x → Meets listed of_modes a b ≡ false) [
    | true ↦ λ oa. meets_off_first listed of_modes a.session b.session a.field b.field a.promise oa
    | false ↦ λ oa. elim (is_off_modes b) as (λ x. is_off_modes b ≡ x → Meets listed of_modes a b ≡ false) [
      | true ↦ λ ob. meets_off_second listed of_modes a.session b.session a.field b.field a.promise ob
      | false ↦ λ ob. pair_quiet listed of_modes a b d (came_pair a b i j oa ob)
    ] refl
  ] refl

  -- and none meets it
  second_quiet : (a b : Row) → In a all → In b p.rows → differ a b ≡ true → Meets listed of_modes a b ≡ false
  second_quiet a b i j d = elim (is_off_modes a) as (λ x. is_off_modes a ≡ x → Meets listed of_modes a b ≡ false) [
    | true ↦ λ oa. meets_off_first listed of_modes a.session b.session a.field b.field a.promise oa
    | false ↦ λ oa. elim (is_off_modes b) as (λ x. is_off_modes b ≡ x → Meets listed of_modes a b ≡ false) [
      | true ↦ λ ob. meets_off_second listed of_modes a.session b.session a.field b.field a.promise ob
      | false ↦ λ ob. pair_quiet listed of_modes a b d (conflicts_mutual listed of_modes a b ∙ came_pair b a j i ob oa)
    ] refl
  ] refl

  -- on a file that is given
  there : (a b : Row) → given (file_of a.field) ≡ true → Meets came all a b ≡ Meets listed of_modes a b
  there a b h = meets_alike came listed all of_modes a.session b.session a.field b.field a.promise
      (listed_at p.records (file_of a.field) (formed p f.form).distinct records (none_here records rows map me p f (file_of a.field) h))
      (fixed_on (file_of a.field))

  pair_there : (a b : Row) → In a all → In b all → differ a b ≡ true → given (file_of a.field) ≡ true → Meets came all a b ≡ false
  pair_there a b i j d h = elim (came_or_was a p.rows rows i) [
    | inl ca ↦ there a b h ∙ first_quiet a b ca j d
    | inr oa ↦ elim (came_or_was b p.rows rows j) [
      | inl cb ↦ there a b h ∙ second_quiet a b i cb d
      | inr ob ↦ meets_nobody (selves_in records) came rows all a.session b.session a.field b.field a.promise (ap told (none_here records rows map me p f (file_of a.field) h)) (pair_quiet (selves_in records) rows a b d (free a b oa ob))
    ]
  ]

  -- on another
  pair_elsewhere : (a b : Row) → In a all → In b all → differ a b ≡ true → given (file_of a.field) ≡ false → Meets came all a b ≡ false
  pair_elsewhere a b i j d h = elim (came_or_was a p.rows rows i) [
    | inl ca ↦ let wrong : true ≡ false = sym (row_given records rows map me p f a ca) ∙ h in absurd (cc)
    | inr oa ↦ elim (came_or_was b p.rows rows j) [
      | inl cb ↦ meets_apart came all a.session b.session a.field b.field a.promise (λ e.
          let wrong : true ≡ false = sym (row_given records rows map me p f b cb) ∙ ap given (sym e) ∙ h in absurd (cc))
      | inr ob ↦
          meets_alike came (selves_in records) all rows a.session b.session a.field b.field a.promise (ap told (came_elsewhere records rows map me p f (file_of a.field) h)) (fixed_elsewhere (file_of a.field) h)
          ∙ pair_quiet (selves_in records) rows a b d (free a b oa ob)
    ]
  ]

  pairs : (a b : Row) → In a all → In b all → differ a b ≡ true → Meets came all a b ≡ false
  pairs a b i j d = elim (given (file_of a.field)) as (λ g. given (file_of a.field) ≡ g → Meets came all a b ≡ false) [
    | true ↦ pair_there a b i j d
    | false ↦ pair_elsewhere a b i j d
  ] refl

  pub came_quiet : NoConflict came all
  came_quiet = all_quiet came all in_order.free pairs

-- ## What stays

module _ (records : RecordMap) (rows : List Row) (prefix : List ℕ) (given : Keyed Bool) (free : NoConflict (selves_in records) rows) where
  abbrev stays_here : Row → Bool
  stays_here r = not (is_on_given prefix given r)

  fixed_left : (file : List ℕ) → gives prefix given file ≡ false → (m : Mode) (s : Session) → is_fixed (rows_left prefix given rows) file m s ≡ is_fixed rows file m s
  fixed_left file h m s = ap not (any-filter_same (lets file m s) stays_here true (λ r e.
      ap (λ k. not (gives prefix given k)) (self_file file m r.field (first (is_self file m r.field) (r.session.0 == s.0) e)) ∙ ap not h) rows)

  left_pair : (a b : Row) → In a (rows_left prefix given rows) → In b (rows_left prefix given rows) → differ a b ≡ true → Meets (selves_in (records_left prefix given records)) (rows_left prefix given rows) a b ≡ false
  left_pair a b i j d =
      let h : gives prefix given (file_of a.field) ≡ false = not-true (is_on_given prefix given a) (passing stays_here rows a i) in
      meets_alike (selves_in (records_left prefix given records)) (selves_in records) (rows_left prefix given rows) rows a.session b.session a.field b.field a.promise (ap told (stays records prefix (file_of a.field) given h).0) (fixed_left (file_of a.field) h)
      ∙ pair_quiet (selves_in records) rows a b d (free a b (In-filter stays_here a rows i) (In-filter stays_here b rows j))

  pub left_quiet : AreRows rows → NoConflict (selves_in (records_left prefix given records)) (rows_left prefix given rows)
  left_quiet t = all_quiet (selves_in (records_left prefix given records)) (rows_left prefix given rows) (filtered_rows stays_here rows t).free left_pair
