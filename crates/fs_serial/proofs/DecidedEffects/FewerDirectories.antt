-- Directories after effects: each was one before with the same next number, unless an effect made it.
use Rattle.std.proofs.Common.{◌≡◌, ℕ, ◌≤◌, ◌||◌, ◌⊎◌, true, false, List, [], ◌∷◌, refl, sym, ap, ◌∙◌, subst, inl, inr}
use Rattle.std.specs.Prelude.{Option, Some, None}
use Rattle.std.specs.FinMap.{get}
use Rattle.std.specs.List.{list_any}
use Rattle.fs_ident.specs.In.{In}
use Rattle.fs_ident.proofs.Booleans.{neither}
use Rattle.fs_ident.proofs.Same.{same_self}
use Rattle.fs_field.specs.After.{changed_file}
use Rattle.fs_field.specs.declared.effect.Effect.{Effect}
use Rattle.fs_field.specs.declared.effect.Effect.TheVariants.{SetChild, SetParent, NewNode, RemoveNode, AddHandle, RemoveHandle, SetInfo}
use Rattle.fs_model.specs.Sound.{kind_of}
use Rattle.fs_model.specs.declared.node.Node.{Node}
use Rattle.fs_msg.specs.declared.item.Item.{Item}
use Rattle.fs_record.specs.Applied.{node_change, record_change, records_after, records_after_all}
use Rattle.fs_record.specs.Fresh.{is_dir, is_directory}
use Rattle.fs_record.specs.Records.{RecordMap, next_of, node_of}
use Rattle.fs_record.specs.declared.record.Record.{Record}
use Rattle.fs_record.proofs.Undoing.{get_here}
use Rattle.fs_txn.specs.Decided.{AreDecided, IsDecided, held_with}
use Rattle.fs_view.specs.ViewLease.{makes}
use Rattle.fs_serial.specs.Fresh.{FreshReserved, IsMade, Reserved}
use Rattle.fs_serial.proofs.DecidedEffects.Underway.{either_file, gone_held, node_beside, node_changed}

-- ## One effect

-- what an effect makes of a record that is a directory's then
changed_dir : (e : Effect) (o : Option Record) → makes (changed_file e) e ≡ false → is_dir (kind_of (node_of (record_change e o))) ≡ true
    → (is_dir (kind_of (node_of o)) ≡ true) × (next_of (record_change e o) ≡ next_of o)
changed_dir (NewNode f k d n) o none h = let wrong : true ≡ false = sym (same_self f) ∙ none in absurd (cc)
changed_dir (RemoveNode f) o none h = absurd (cc)
changed_dir (SetChild d n to) None none h = (h, refl)
changed_dir (SetChild d n None) (Some r) none h = (h, refl)
changed_dir (SetChild d n (Some z)) (Some r) none h = (h, refl)
changed_dir (SetParent f d n) None none h = (h, refl)
changed_dir (SetParent f d n) (Some r) none h = (h, refl)
changed_dir (AddHandle f s a b) None none h = (h, refl)
changed_dir (AddHandle f s a b) (Some r) none h = (h, refl)
changed_dir (RemoveHandle f s a) None none h = (h, refl)
changed_dir (RemoveHandle f s a) (Some r) none h = (h, refl)
changed_dir (SetInfo f a b) None none h = (h, refl)
changed_dir (SetInfo f a b) (Some r) none h = (h, refl)

-- a directory then was one before
abbrev pub WasDirectory : RecordMap → RecordMap → List ℕ → Type 0
WasDirectory m n dir = (is_directory m dir ≡ true) × (next_of (get n dir) ≡ next_of (get m dir))

one_directory : (m : RecordMap) (e : Effect) (dir : List ℕ) → makes dir e ≡ false → is_directory (records_after m e) dir ≡ true → WasDirectory m (records_after m e) dir
one_directory m e dir none h = elim (either_file dir (changed_file e)) as (λ _. WasDirectory m (records_after m e) dir) [
  | inl s ↦
      let there : get (records_after m e) dir ≡ record_change e (get m dir) =
      ap (get (records_after m e)) s ∙ get_here m (changed_file e) (record_change e (get m (changed_file e))) ∙ ap (λ f. record_change e (get m f)) (sym s) in
      let q = changed_dir e (get m dir) (ap (λ f. makes f e) (sym s) ∙ none) (ap (λ o. is_dir (kind_of (node_of o))) (sym there) ∙ h) in
      (q.0, ap next_of there ∙ q.1)
  | inr other ↦
      let there = node_beside m e dir other in
      (ap (λ (o : Option Record). is_dir (kind_of (node_of o))) (sym there) ∙ h, ap next_of there)
]

-- ## One after another

pub was_directory : (m : RecordMap) (es : List Effect) (dir : List ℕ) → list_any (makes dir) es ≡ false
    → is_directory (records_after_all m es) dir ≡ true → WasDirectory m (records_after_all m es) dir
was_directory m [] dir none h = (h, refl)
was_directory m (e ∷ es) dir none h =
    let n = neither (makes dir e) (list_any (makes dir) es) none in
    let q = was_directory (records_after m e) es dir n.1 h in
    let p = one_directory m e dir n.0 q.0 in
    (p.0, q.1 ∙ p.1)

-- each directory of the second was one of the first
abbrev pub FewerDirectories : RecordMap → RecordMap → Type 0
FewerDirectories m n = (dir : List ℕ) → is_directory n dir ≡ true → WasDirectory m n dir

-- they make no file
abbrev pub MakeNone : List Effect → Type 0
MakeNone es = (dir : List ℕ) → list_any (makes dir) es ≡ false

pub fewer_then : (m : RecordMap) (es : List Effect) → MakeNone es → FewerDirectories m (records_after_all m es)
fewer_then m es none dir h = was_directory m es dir (none dir) h

pub fewer_each : (es : List Effect) → ((e : Effect) → In e es → (dir : List ℕ) → makes dir e ≡ false) → MakeNone es
fewer_each [] h dir = refl
fewer_each (e ∷ es) h dir = ap (λ b. b || list_any (makes dir) es) (h e (inl refl) dir) ∙ fewer_each es (λ x i. h x (inr i)) dir

-- what is decided makes none
decided_one : (e : Effect) → IsDecided e → (dir : List ℕ) → makes dir e ≡ false
decided_one (SetChild a b None) d dir = refl
decided_one (SetChild a b (Some z)) d dir = absurd d
decided_one (SetParent a b c) d dir = refl
decided_one (RemoveNode a) d dir = refl
decided_one (NewNode a b c z) d dir = absurd d
decided_one (AddHandle a b c z) d dir = absurd d
decided_one (RemoveHandle a b c) d dir = absurd d
decided_one (SetInfo a b c) d dir = absurd d

pub fewer_held : (m : RecordMap) (es : List Effect) → AreDecided es → FewerDirectories m (held_with es m)
fewer_held m es d = fewer_then m es (fewer_each es (λ e i. decided_one e (d e i)))

-- ## A directory goes, or stays one

stays_one : (e : Effect) (o : Option Node) → IsDecided e → is_dir (kind_of o) ≡ true → (e ≡ RemoveNode (changed_file e)) ⊎ (is_dir (kind_of (node_change e o)) ≡ true)
stays_one (SetChild a b None) None d h = inr h
stays_one (SetChild a b None) (Some x) d h = inr h
stays_one (SetParent a b c) None d h = inr h
stays_one (SetParent a b c) (Some x) d h = inr h
stays_one (RemoveNode a) o d h = inl refl
stays_one (SetChild a b (Some z)) o d h = absurd d
stays_one (NewNode a b c z) o d h = absurd d
stays_one (AddHandle a b c z) o d h = absurd d
stays_one (RemoveHandle a b c) o d h = absurd d
stays_one (SetInfo a b c) o d h = absurd d

-- one that does not go is one in what all hold together
pub goes_or_stays : (m : RecordMap) (es : List Effect) (dir : List ℕ) → AreDecided es → is_directory m dir ≡ true
    → In (RemoveNode dir) es ⊎ (is_directory (held_with es m) dir ≡ true)
goes_or_stays m [] dir d h = inr h
goes_or_stays m (e ∷ es) dir d h = elim one as (λ _. In (RemoveNode dir) (e ∷ es) ⊎ (is_directory (held_with es (records_after m e)) dir ≡ true)) [
  | inl q ↦ inl (inl q)
  | inr there ↦ elim (goes_or_stays (records_after m e) es dir (λ x i. d x (inr i)) there) as
      (λ _. In (RemoveNode dir) (e ∷ es) ⊎ (is_directory (held_with es (records_after m e)) dir ≡ true)) [
        | inl i ↦ inl (inr i)
        | inr is ↦ inr is
      ]
]
  where
    one : (RemoveNode dir ≡ e) ⊎ (is_directory (records_after m e) dir ≡ true)
    one = elim (either_file dir (changed_file e)) as (λ _. (RemoveNode dir ≡ e) ⊎ (is_directory (records_after m e) dir ≡ true)) [
      | inl s ↦
          let there : node_of (get (records_after m e) dir) ≡ node_change e (node_of (get m dir)) =
          ap (λ f. node_of (get (records_after m e) f)) s ∙ node_changed m e ∙ ap (λ f. node_change e (node_of (get m f))) (sym s) in
          elim (stays_one e (node_of (get m dir)) (d e (inl refl)) h) as (λ _. (RemoveNode dir ≡ e) ⊎ (is_directory (records_after m e) dir ≡ true)) [
            | inl q ↦ inl (ap RemoveNode s ∙ sym q)
            | inr is ↦ inr (ap (λ o. is_dir (kind_of o)) there ∙ is)
          ]
      | inr other ↦ inr (ap (λ (o : Option Record). is_dir (kind_of (node_of o))) (node_beside m e dir other) ∙ h)
    ]

no_record : (o : Option Record) → node_of o ≡ None → o ≡ None
no_record None h = refl
no_record (Some r) h = absurd (cc)

-- one that goes has no record in it
pub none_held : (m : RecordMap) (es : List Effect) (dir : List ℕ) → AreDecided es → In (RemoveNode dir) es → get (held_with es m) dir ≡ None
none_held m es dir d i = no_record (get (held_with es m) dir) (gone_held m es dir d i)

-- ## What is reserved

-- stays so where there are fewer directories
pub reserved_there : (reserved : Reserved) (m n : RecordMap) (journal : List Item) → FewerDirectories m n → FreshReserved reserved m journal → FreshReserved reserved n journal
reserved_there reserved m n journal fewer f = record {
  once = f.once;
  unmade = f.unmade;
  made_before = λ dir k j h le made p. let q = fewer dir h in f.made_before dir k j q.0 (subst (λ x. x ≤ k) q.1 le) made p;
  reserved_before = λ dir k x n j h le r p. let q = fewer dir h in f.reserved_before dir k x n j q.0 (subst (λ x. x ≤ k) q.1 le) r p;
}

-- and where the journal grows by what makes no file
pub reserved_later : (reserved : Reserved) (m : RecordMap) (journal more : List Item) → ((id : List ℕ) → IsMade more id → IsMade journal id)
    → FreshReserved reserved m journal → FreshReserved reserved m more
reserved_later reserved m journal more was f = record {
  once = f.once;
  unmade = λ x n i j r made p. f.unmade x n i j r (was j made) p;
  made_before = λ dir k j h le made p. f.made_before dir k j h le (was j made) p;
  reserved_before = f.reserved_before;
}
