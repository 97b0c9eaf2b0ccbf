-- The server admits an entry: identifiers.
use Rattle.std.proofs.Common.{◌≡◌, ℕ, ◌≤◌, ◌⊎◌, Bool, true, false, List, [], ◌∷◌, ◌++◌, length, refl, sym, ap, ◌∙◌, subst, inl, inr, cond, arith, length-append}
use Rattle.std.specs.Prelude.{Option, Some, None, is_some}
use Rattle.std.specs.FinMap.{get}
use Rattle.std.specs.List.{list_any}
use Rattle.std.specs.Ordering.{nat_cmp, eq_by_cmp}
use Rattle.std.specs.Cmp.Lexicographic.{slice_cmp}
use Rattle.fs_ident.specs.Ident.{child}
use Rattle.fs_ident.specs.declared.actor.Session.{Session}
use Rattle.fs_ident.specs.declared.kind.Kind.{Kind}
use Rattle.fs_ident.proofs.Booleans.{neither}
use Rattle.fs_field.specs.declared.effect.Effect.{Effect}
use Rattle.fs_field.specs.declared.effect.Effect.TheVariants.{SetChild, SetParent, NewNode, RemoveNode, AddHandle, RemoveHandle, SetInfo}
use Rattle.fs_field.specs.declared.field.Field.TheVariants.{Life}
use Rattle.fs_field.specs.declared.value.Value.TheVariants as value
use Rattle.fs_model.specs.Sound.{kind_of}
use Rattle.fs_model.specs.declared.op.Op.{Op}
use Rattle.fs_model.specs.declared.op.Op.TheVariants as op
use Rattle.fs_model.specs.declared.reply.Reply.{Reply}
use Rattle.fs_model.specs.declared.reply.Reply.TheVariants as reply
use Rattle.fs_msg.specs.declared.entry.Entry.{Entry}
use Rattle.fs_msg.specs.declared.item.Item.{Item}
use Rattle.fs_record.specs.declared.record.Record.{Record}
use Rattle.fs_field.specs.After.{changed_file}
use Rattle.fs_record.specs.Applied.{records_after, record_change}
use Rattle.fs_record.specs.Effects.{effects_of}
use Rattle.fs_record.specs.Fresh.{is_directory}
use Rattle.fs_record.specs.Records.{RecordMap, node_of, next_of}
use Rattle.fs_record.specs.ValueOf.{value_of}
use Rattle.fs_record.proofs.Kept.{get_with_at}
use Rattle.fs_record.proofs.NodeValues.{key_is}
use Rattle.fs_server.specs.Ships.{item_of, with_entry}
use Rattle.fs_server.specs.declared.state.Server.{Server}
use Rattle.fs_record.specs.Applied.{records_after_all}
use Rattle.fs_view.specs.ViewLease.{makes}
use Rattle.fs_view.proofs.Seeing.{own_values}
use Rattle.fs_serial.specs.Fresh.{made, made_by, or_else, ByLog, Claim, IsMade, NodesMade, IsAtOrBelow, Reserved, FreshReserved}
use Rattle.fs_serial.specs.Pending.{IsAnswer, IsEntry, named_by}
use Rattle.fs_serial.specs.Serial.{AreSound}
use Rattle.fs_serial.proofs.Admission.Answered.{answered}
use Rattle.fs_serial.proofs.Admission.Births.{life_after, makes_there, names_made}
use Rattle.fs_serial.proofs.DecidedEffects.FewerDirectories.{was_directory}
use Rattle.fs_serial.proofs.Grants.Claims.{Was, one_still, was_there}
use Rattle.fs_serial.proofs.Lists.Journals.{made-append, made_before, below-trans, below_itself}

-- ## Next numbers and lives

-- an effect that ends no file keeps next numbers
ends : Effect → Bool
ends (RemoveNode file) = true
ends e = false

change_next : (e : Effect) (o : Option Record) → ends e ≡ false → next_of (record_change e o) ≡ next_of o
unfolding ends
change_next (RemoveNode file) o h = absurd (cc)
change_next (NewNode file kind dir name) o h = refl
change_next (SetChild dir name to) None h = refl
change_next (SetChild dir name to) (Some r) h = refl
change_next (SetParent file dir name) None h = refl
change_next (SetParent file dir name) (Some r) h = refl
change_next (AddHandle file session h modes) None e = refl
change_next (AddHandle file session h modes) (Some r) e = refl
change_next (RemoveHandle file session h) None e = refl
change_next (RemoveHandle file session h) (Some r) e = refl
change_next (SetInfo file size stamp) None h = refl
change_next (SetInfo file size stamp) (Some r) h = refl

next_one : (m : RecordMap) (e : Effect) (id : List ℕ) → ends e ≡ false → next_of (get (records_after m e) id) ≡ next_of (get m id)
next_one m e id h = ap next_of (get_with_at m f (record_change e (get m f)) id) ∙ within (eq_by_cmp (slice_cmp nat_cmp) id f) refl
  where
    f : List ℕ
    f = changed_file e

    within : (b : Bool) → eq_by_cmp (slice_cmp nat_cmp) id f ≡ b → next_of (cond b (record_change e (get m f)) (get m id)) ≡ next_of (get m id)
    within true t = change_next e (get m f) h ∙ ap (λ x. next_of (get m x)) (sym (key_is id f t))
    within false t = refl

next_all : (m : RecordMap) (es : List Effect) (id : List ℕ) → list_any ends es ≡ false → next_of (get (records_after_all m es) id) ≡ next_of (get m id)
next_all m [] id h = refl
next_all m (e ∷ es) id h = let q = neither (ends e) (list_any ends es) h in next_all (records_after m e) es id q.1 ∙ next_one m e id q.0

no_end : (by : Session) (o : Op) (r : Reply) → list_any ends (effects_of by o r) ≡ false
unfolding ends
no_end by (op.Create dir name kind (Some new)) reply.Made = refl
no_end by (op.OpenFile file h modes) reply.Opened = refl
no_end by (op.Close file h) reply.Closed = refl
no_end by (op.Set file h size stamp) reply.Set = refl
no_end by o r = refl

-- ## Identifiers below one another

not_below_itself : (dir : List ℕ) (k : ℕ) → IsAtOrBelow (child dir k) dir → ⊥
not_below_itself dir k p = let q = ap length p.1 in let a = length-append (child dir k) p.0 in let b = length-append dir (k ∷ []) in absurd (omega arith)

below_child : (dir : List ℕ) (k : ℕ) → IsAtOrBelow dir (child dir k)
below_child dir k = (k ∷ [], refl)

-- the records that are stored are given beside those in which the entry got its reply
module _ (s : Server) (journal : List Item) (by : Session) (e : Entry) (plain : IsEntry e) (right : IsAnswer (value_of s.records by) e) (sound : AreSound s.records)
    (stored : RecordMap) (old new : Reserved) (fewer : (x : Session) (n : Claim) (i : List ℕ) → new x n i → Was (old x) n i)
    (named : (id : List ℕ) → named_by e.op ≡ Some id → old by ByLog id)
    (used_up : (n : Claim) (id : List ℕ) → named_by e.op ≡ Some id → new by n id → ⊥)
    (f : FreshReserved old stored journal) where
  abbrev m : RecordMap
  m = records_after_all stored (effects_of by e.op e.reply)

  abbrev js : List Item
  js = journal ++ item_of by e ∷ []

  abbrev makes_it : List ℕ → Type 0
  makes_it id = is_some (made_by e.op e.reply id) ≡ true

  next_same : (id : List ℕ) → next_of (get m id) ≡ next_of (get stored id)
  next_same id = next_all stored (effects_of by e.op e.reply) id (no_end by e.op e.reply)

  was_dir : (dir : List ℕ) → is_directory m dir ≡ true → makes_it dir ⊎ (is_directory stored dir ≡ true)
  was_dir dir h = elim (list_any (makes dir) (effects_of by e.op e.reply)) as
      (λ b. list_any (makes dir) (effects_of by e.op e.reply) ≡ b → makes_it dir ⊎ (is_directory stored dir ≡ true)) [
        | true ↦ λ t. inl (sym (makes_there by e.op e.reply dir) ∙ t)
        | false ↦ λ t. inr (was_directory stored (effects_of by e.op e.reply) dir t h).0
      ] refl

  -- the entry had reserved the file that it makes
  held : (id : List ℕ) → makes_it id → old by ByLog id
  held id h = named id (names_made e.op e.reply id h)

  -- nothing reserves any more what was made, or what is below or above it
  apart_above : (x : Session) (n : Claim) (i id : List ℕ) (h : makes_it id) → new x n i → IsAtOrBelow i id → ⊥
  apart_above x n i id h r p =
      let c = was_there (old x) n i (fewer x n i r) in
      let q = f.once x by c.0 ByLog i id c.1 (held id h) p in
      used_up n id (names_made e.op e.reply id h) (subst (λ j. new by n j) q.1 (subst (λ y. new y n i) q.0 r))

  apart_below : (x : Session) (n : Claim) (i id : List ℕ) (h : makes_it id) → new x n i → IsAtOrBelow id i → ⊥
  apart_below x n i id h r p =
      let c = was_there (old x) n i (fewer x n i r) in
      let q = f.once by x ByLog c.0 id i (held id h) c.1 p in
      used_up n id (names_made e.op e.reply id h) (subst (λ j. new by n j) (sym q.1) (subst (λ y. new y n i) (sym q.0) r))

  unmade : (x : Session) (n : Claim) (i j : List ℕ) → new x n i → IsMade js j → IsAtOrBelow i j → ⊥
  unmade x n i j r h p = elim (made_before journal (item_of by e) j h) as (λ _. ⊥) [
    | inl a ↦ let c = was_there (old x) n i (fewer x n i r) in f.unmade x c.0 i j c.1 a p
    | inr a ↦ apart_above x n i j a r p
  ]

  -- below a directory that the entry made nothing was made
  none_below : (dir : List ℕ) (k : ℕ) (j : List ℕ) → makes_it dir → IsMade js j → IsAtOrBelow (child dir k) j → ⊥
  none_below dir k j d h p = elim (made_before journal (item_of by e) j h) as (λ _. ⊥) [
    | inl a ↦ f.unmade by ByLog dir j (held dir d) a (below-trans dir (child dir k) j (below_child dir k) p)
    | inr a ↦ two_made dir k j d a p
  ]
    where
      two_made : (dir : List ℕ) (k : ℕ) (j : List ℕ) → makes_it dir → makes_it j → IsAtOrBelow (child dir k) j → ⊥
      two_made dir k j d a p =
          let same : dir ≡ j = cc (names_made e.op e.reply dir d, names_made e.op e.reply j a) in
          not_below_itself dir k (subst (IsAtOrBelow (child dir k)) (sym same) p)

  made_first : (dir : List ℕ) (k : ℕ) (j : List ℕ) → is_directory m dir ≡ true → next_of (get m dir) ≤ k → IsMade js j → IsAtOrBelow (child dir k) j → ⊥
  made_first dir k j d le h p = elim (was_dir dir d) as (λ _. ⊥) [
    | inl a ↦ none_below dir k j a h p
    | inr a ↦ elim (made_before journal (item_of by e) j h) as (λ _. ⊥) [
      | inl b ↦ f.made_before dir k j a (subst (λ n. n ≤ k) (next_same dir) le) b p
      | inr b ↦ f.reserved_before dir k by ByLog j a (subst (λ n. n ≤ k) (next_same dir) le) (held j b) p
    ]
  ]

  reserved_first : (dir : List ℕ) (k : ℕ) (x : Session) (n : Claim) (j : List ℕ) → is_directory m dir ≡ true → next_of (get m dir) ≤ k → new x n j → IsAtOrBelow (child dir k) j → ⊥
  reserved_first dir k x n j d le r p = elim (was_dir dir d) as (λ _. ⊥) [
    | inl a ↦ apart_below x n j dir a r (below-trans dir (child dir k) j (below_child dir k) p)
    | inr a ↦ let c = was_there (old x) n j (fewer x n j r) in f.reserved_before dir k x c.0 j a (subst (λ q. q ≤ k) (next_same dir) le) c.1 p
  ]

  pub fresh_then : FreshReserved new m js
  fresh_then = record {
    once = λ x y n k i j a b p. one_still old stored journal f x y n k i j (fewer x n i a) (fewer y k j b) p;
    unmade = unmade;
    made_before = made_first;
    reserved_before = reserved_first;
  }

  kind_then : (id : List ℕ) → kind_of (node_of (get (with_entry by e s).records id)) ≡ or_else (made_by e.op e.reply id) (kind_of (node_of (get s.records id)))
  kind_then id =
      let q : value_of (with_entry by e s).records by (Life id) ≡ value.Life (or_else (made_by e.op e.reply id) (kind_of (node_of (get s.records id)))) = own_values s.records by e.op e.reply (Life id) sound.records plain.plain (answered s.records by e plain right) ∙ life_after by e.op e.reply id (kind_of (node_of (get s.records id))) in
      cc

  -- what lives was made
  pub made_then : NodesMade s.records journal → NodesMade (with_entry by e s).records js
  made_then nodes id kind h = made-append journal (item_of by e) id ∙ within (made_by e.op e.reply id) refl
    where
      within : (a : Option Kind) → made_by e.op e.reply id ≡ a → or_else (made journal id) a ≡ Some kind
      within None t =
          let was : kind_of (node_of (get s.records id)) ≡ Some kind = sym (kind_then id ∙ ap (λ a. or_else a (kind_of (node_of (get s.records id)))) t) ∙ h in
          ap (λ o. or_else o None) (nodes id kind was)
      within (Some x) t =
          let is : Some x ≡ Some kind = sym (kind_then id ∙ ap (λ a. or_else a (kind_of (node_of (get s.records id)))) t) ∙ h in
          elim (made journal id) as (λ o. made journal id ≡ o → or_else o (Some x) ≡ Some kind) [
            | None ↦ λ q. is
            | Some y ↦ λ q. let b : makes_it id = ap is_some t in absurd (f.unmade by ByLog id id (held id b) (ap is_some q) (below_itself id))
          ] refl
