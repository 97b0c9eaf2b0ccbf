-- Whoever has handles here and no row on them here has no such row anywhere.
use Rattle.std.proofs.Common.{◌≡◌, ℕ, ◌==◌, ◌&&◌, not, true, false, List, [], ◌∷◌, cond, map, refl, sym, ap, ◌∙◌, inl, inr}
use Rattle.std.proofs.lemmas.Bool.{false_from_ne_true, not-true}
use Rattle.std.specs.Prelude.{Some, is_some, slice_get}
use Rattle.std.specs.List.{filter}
use Rattle.std.specs.Cmp.{eq_by_cmp_equiv}
use Rattle.std.specs.Cmp.Lexicographic.{slice_cmp, nat_list_cmp_total}
use Rattle.std.specs.FinMap.{entries, find, get-entries, keys}
use Rattle.std.specs.Ordering.{nat_cmp, eq_by_cmp}
use Rattle.fs_ident.specs.In.{In}
use Rattle.fs_ident.specs.declared.actor.Session.{Session}
use Rattle.fs_ident.proofs.Booleans.{first}
use Rattle.fs_ident.proofs.Standing.{In-map, In-got, none_any, In-append}
use Rattle.fs_field.specs.Field.{file_of, same_field}
use Rattle.fs_field.specs.declared.field.Field.{Field}
use Rattle.fs_field.specs.declared.field.Field.TheVariants.{Own}
use Rattle.fs_field.specs.declared.row.Row.{Row}
use Rattle.fs_modes.specs.declared.modes.Modes.{Modes}
use Rattle.fs_parcel.proofs.Both.{passing}
use Rattle.fs_record.specs.ValueOf.{selves_in}
use Rattle.fs_record.specs.declared.record.Record.{Record}
use Rattle.fs_moderows.proofs.Witnesses.{In_none}
use Rattle.fs_server.specs.Reaps.{has_own, lapsed_among, lapsed_in, lapsed_on}
use Rattle.fs_server.specs.Server.{is_mine}
use Rattle.fs_server.specs.declared.state.Server.{Server}
use Rattle.fs_serial.specs.Cluster.{Cluster, parcels_of}
use Rattle.fs_serial.specs.Joined.{rows_of_all}
use Rattle.fs_serial.specs.Places.{PlacesHold}
use Rattle.fs_serial.proofs.Places.AllHere.{row_at_home}
use Rattle.fs_serial.proofs.Admission.Rowed.{same_field_is}

-- it has handles on the file, which is among these, and no row on them
record LetsGo (s : Server) (files : List (List ℕ)) (x : List ℕ × Session) : Type 0 where
  file : In x.0 files
  gone : has_own s.rows x.0 x.1 ≡ false

lets_go : (s : Server) (files : List (List ℕ)) (x : List ℕ × Session) → In x (lapsed_among s files) → LetsGo s files x
lets_go s [] x i = absurd i
lets_go s (f ∷ fs) x i = elim (In-append x (lapsed_on s f) (lapsed_among s fs) i) as (λ _. LetsGo s (f ∷ fs) x) [
  | inl j ↦
      let q = In-map (λ (e : Session × Modes). (f, e.0)) x (filter (λ (e : Session × Modes). not (has_own s.rows f e.0)) (selves_in s.records f)) j in
      let gone = not-true (has_own s.rows f q.0.0) (passing (λ (e : Session × Modes). not (has_own s.rows f e.0)) (selves_in s.records f) q.0 q.1.0) in
      record { file = inl (ap (λ (p : List ℕ × Session). p.0) q.1.1); gone = ap (λ (p : List ℕ × Session). has_own s.rows p.0 p.1) q.1.1 ∙ gone }
  | inr j ↦ let q = lets_go s fs x j in record { file = inr q.file; gone = q.gone }
]

there : (f : List ℕ) (es : List (List ℕ × Record)) → In f (map (λ (e : List ℕ × Record). e.0) es) → is_some (find (slice_cmp nat_cmp) f es) ≡ true
there f [] i = absurd i
there f (e ∷ es) (inl q) = ap (λ b. is_some (cond b (Some e.1) (find (slice_cmp nat_cmp) f es))) (ap (eq_by_cmp (slice_cmp nat_cmp) f) (sym q) ∙ (eq_by_cmp_equiv nat_list_cmp_total).refl f)
there f (e ∷ es) (inr i) =
    let rest = there f es i in
    elim (eq_by_cmp (slice_cmp nat_cmp) f e.0) as (λ b. is_some (cond b (Some e.1) (find (slice_cmp nat_cmp) f es)) ≡ true) [ true ↦ refl | false ↦ rest ]

module _ (c : Cluster) (k : ℕ) (s : Server) (at : slice_get c.servers k ≡ Some s) (places : PlacesHold c) where
  none_own : (x : List ℕ × Session) → is_mine s x.0 ≡ true → has_own s.rows x.0 x.1 ≡ false → (r : Row) → In r (rows_of_all c.servers (parcels_of c.in_flight)) → (same_field r.field (Own x.0) && (r.session.0 == x.1.0)) ≡ false
  none_own x mine gone r i = false_from_ne_true (same_field r.field (Own x.0) && (r.session.0 == x.1.0)) (λ t.
      let is : r.field ≡ Own x.0 = same_field_is r.field (Own x.0) (first (same_field r.field (Own x.0)) (r.session.0 == x.1.0) t) in
      let here : In r s.rows = row_at_home k c s at places r i (ap (λ (f : Field). is_mine s (file_of f)) is ∙ mine) in
      let no : (same_field r.field (Own x.0) && (r.session.0 == x.1.0)) ≡ false = none_any (λ (y : Row). same_field y.field (Own x.0) && (y.session.0 == x.1.0)) s.rows gone r here in
      let both : true ≡ false = sym t ∙ no in
      absurd (cc))

  pub all_let_go : (x : List ℕ × Session) → In x (lapsed_in s) → has_own (rows_of_all c.servers (parcels_of c.in_flight)) x.0 x.1 ≡ false
  all_let_go x i =
      let q = lets_go s (keys s.records) x i in
      let mine : is_mine s x.0 ≡ true = (places.homes s (In-got c.servers k s at)).records x.0 (ap is_some (get-entries s.records x.0) ∙ there x.0 (entries s.records) q.file) in
      In_none (λ (r : Row). same_field r.field (Own x.0) && (r.session.0 == x.1.0)) (rows_of_all c.servers (parcels_of c.in_flight)) (none_own x mine q.gone)
