-- Identifiers that are reserved, with one that is given.
use Rattle.std.proofs.Common.{◌≡◌, ℕ, ◌+◌, ◌≤◌, true, List, [], ◌∷◌, ◌⊎◌, refl, sym, ap, ◌∙◌, subst, inl, inr, arith}
use Rattle.std.specs.Prelude.{Option, Some, None, is_some}
use Rattle.std.specs.FinMap.{get}
use Rattle.fs_ident.specs.Ident.{child}
use Rattle.fs_ident.specs.declared.actor.LeaseNo.{LeaseNo}
use Rattle.fs_ident.specs.declared.actor.Session.{Session}
use Rattle.fs_ident.specs.declared.kind.Kind.{Kind}
use Rattle.fs_ident.specs.declared.kind.Kind.TheVariants.{File, Dir}
use Rattle.fs_ident.proofs.Standing.{In-append}
use Rattle.fs_field.specs.Field.{file_of}
use Rattle.fs_model.specs.Sound.{kind_of}
use Rattle.fs_msg.specs.declared.item.Item.{Item}
use Rattle.fs_record.specs.Fresh.{is_dir, is_directory, records_after_gift}
use Rattle.fs_record.specs.Records.{RecordMap, node_of, next_of}
use Rattle.fs_serial.specs.Fresh.{AreOne, ByLease, ByLog, Claim, FreshReserved, IsAtOrBelow, IsMade, NodesMade, Reserved, Reserves, reserved_by}
use Rattle.fs_serial.specs.Settled.{Lease, Settled, with_leases}
use Rattle.fs_serial.proofs.Lists.Children.{above_child, child_is}
use Rattle.fs_serial.specs.Parts.{with_client}
use Rattle.fs_serial.proofs.OtherSessions.Together.{each_session}
use Rattle.fs_serial.proofs.Lists.Journals.{below_itself}
use Rattle.fs_serial.proofs.Grants.GiftedRecords.{directories_stay, next_here, next_rises}

-- ## What was made

dir_kind : (o : Option Kind) → is_dir o ≡ true → o ≡ Some Dir
dir_kind None h = absurd (cc)
dir_kind (Some File) h = absurd (cc)
dir_kind (Some Dir) h = refl

pub directory_made : (m : RecordMap) (journal : List Item) (dir : List ℕ) → NodesMade m journal → is_directory m dir ≡ true → IsMade journal dir
directory_made m journal dir h here = ap is_some (h dir Dir (dir_kind (kind_of (node_of (get m dir))) here))

-- ## Reserved identifiers

-- it is the identifier that is given
pub record IsTheGift (by : Session) (number : LeaseNo) (id : List ℕ) (x : Session) (n : Claim) (i : List ℕ) : Type 0 where
  pub session : x ≡ by
  pub claim : n ≡ ByLease number
  pub file : i ≡ id

-- what is reserved was reserved, or is given
pub reserved_then : (clients : Session → Settled) (by : Session) (l : Lease) → (x : Session) (n : Claim) (i : List ℕ) → reserved_by (with_client by (with_leases (l ∷ []) (clients by)) clients) x n i → reserved_by clients x n i ⊎ IsTheGift by l.no (file_of l.field) x n i
reserved_then clients by l = each_session (λ x d. (n : Claim) (i : List ℕ) → Reserves d n i → reserved_by clients x n i ⊎ IsTheGift by l.no (file_of l.field) x n i) by (with_leases (l ∷ []) (clients by)) clients own (λ x other n i r. inl r)
  where
    own : (n : Claim) (i : List ℕ) → Reserves (with_leases (l ∷ []) (clients by)) n i → reserved_by clients by n i ⊎ IsTheGift by l.no (file_of l.field) by n i
    own (ByLease n) i q = elim (In-append q.lease (clients by).leases (l ∷ []) q.held) as (λ _. reserved_by clients by (ByLease n) i ⊎ IsTheGift by l.no (file_of l.field) by (ByLease n) i) [
      | inl h ↦ inl (record { lease = q.lease; held = h; number = q.number; fresh = q.fresh; file = q.file })
      | inr h ↦ elim h as (λ _. reserved_by clients by (ByLease n) i ⊎ IsTheGift by l.no (file_of l.field) by (ByLease n) i) [
        | inl is ↦ inr (record { session = refl; claim = ap (λ k. ByLease k) (sym q.number ∙ ap (λ (k : Lease). k.no) is); file = sym q.file ∙ ap (λ (k : Lease). file_of k.field) is })
        | inr z ↦ absurd z
      ]
    ]
    own ByLog i q = inl q

module _ (m : RecordMap) (journal : List Item) (dir : List ℕ) (k : ℕ) (here : is_directory m dir ≡ true) (low : next_of (get m dir) ≤ k) (made : IsMade journal dir) (before later : Reserved) (by : Session) (number : LeaseNo) (then : (x : Session) (n : Claim) (i : List ℕ) → later x n i → before x n i ⊎ IsTheGift by number (child dir k) x n i) (f : FreshReserved before m journal) where
  -- no reserved identifier is at, above or below the one that is given
  not_above : (x : Session) (n : Claim) (i : List ℕ) → before x n i → IsAtOrBelow i (child dir k) → ⊥
  not_above x n i r p = elim (above_child i dir k p) as (λ _. ⊥) [
    | inl e ↦ f.reserved_before dir k x n i here low r (subst (IsAtOrBelow (child dir k)) (sym e) (below_itself (child dir k)))
    | inr q ↦ f.unmade x n i dir r made q
  ]

  not_below : (x : Session) (n : Claim) (i : List ℕ) → before x n i → IsAtOrBelow (child dir k) i → ⊥
  not_below x n i r p = f.reserved_before dir k x n i here low r p

  -- the gift is one
  one_gift : (n l : Claim) → n ≡ ByLease number → l ≡ ByLease number → AreOne n l
  one_gift n l e g = subst (λ c. AreOne c l) (sym e) (subst (λ c. AreOne (ByLease number) c) (sym g) refl)

  once : (x y : Session) (n l : Claim) (i j : List ℕ) → later x n i → later y l j → IsAtOrBelow i j → (x ≡ y) × (i ≡ j) × AreOne n l
  once x y n l i j p q b = elim (then x n i p) as (λ _. (x ≡ y) × (i ≡ j) × AreOne n l) [
    | inl r ↦ elim (then y l j q) as (λ _. (x ≡ y) × (i ≡ j) × AreOne n l) [
      | inl t ↦ f.once x y n l i j r t b
      | inr g ↦ absurd (not_above x n i r (subst (IsAtOrBelow i) g.file b))
    ]
    | inr g ↦ elim (then y l j q) as (λ _. (x ≡ y) × (i ≡ j) × AreOne n l) [
      | inl t ↦ absurd (not_below y l j t (subst (λ a. IsAtOrBelow a j) g.file b))
      | inr h ↦ (g.session ∙ sym h.session, g.file ∙ sym h.file, one_gift n l g.claim h.claim)
    ]
  ]

  unmade : (x : Session) (n : Claim) (i j : List ℕ) → later x n i → IsMade journal j → IsAtOrBelow i j → ⊥
  unmade x n i j p h b = elim (then x n i p) as (λ _. ⊥) [
    | inl r ↦ f.unmade x n i j r h b
    | inr g ↦ f.made_before dir k j here low h (subst (λ a. IsAtOrBelow a j) g.file b)
  ]

  abbrev after : RecordMap
  after = records_after_gift m dir (Some k)

  was_free : (d : List ℕ) (l : ℕ) → next_of (get after d) ≤ l → next_of (get m d) ≤ l
  was_free d l h = let r = next_rises m dir k here low d in omega arith

  -- a number that is free after the gift is another
  not_given : (d : List ℕ) (l : ℕ) → is_directory m d ≡ true → next_of (get after d) ≤ l → IsAtOrBelow (child d l) (child dir k) → ⊥
  not_given d l h free b = elim (above_child (child d l) dir k b) as (λ _. ⊥) [
    | inl e ↦
        let q = child_is d dir l k e in
        let n : next_of (get after d) ≡ k + 1 = ap (λ x. next_of (get after x)) q.0 ∙ next_here m dir k here in
        let p = q.1 in
        absurd (omega arith)
    | inr q ↦ f.made_before d l dir h (was_free d l free) made q
  ]

  pub reserved_still : FreshReserved later after journal
  reserved_still = record {
    once = once;
    unmade = unmade;
    made_before = λ d l j h free made. f.made_before d l j (sym (directories_stay m dir k d) ∙ h) (was_free d l free) made;
    reserved_before = λ d l x n j h free p b. elim (then x n j p) as (λ _. ⊥) [
      | inl r ↦ f.reserved_before d l x n j (sym (directories_stay m dir k d) ∙ h) (was_free d l free) r b
      | inr g ↦ not_given d l (sym (directories_stay m dir k d) ∙ h) free (subst (IsAtOrBelow (child d l)) g.file b)
    ];
  }
