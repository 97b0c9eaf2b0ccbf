-- The records of all: those that some server or some parcel has.
use Rattle.std.proofs.Common.{◌≡◌, ◌⊎◌, ℕ, true, false, List, [], ◌∷◌, refl, ap, sym, ◌∙◌, subst, inl, inr, cond}
use Rattle.std.specs.Prelude.{Option, Some, None}
use Rattle.std.specs.Cmp.{eq_by_cmp_equiv}
use Rattle.std.specs.Cmp.Lexicographic.{slice_cmp, nat_list_cmp_total}
use Rattle.std.specs.FinMap.{empty, entries, entries_sorted, get, get-empty, get-entries, get-insert, insert, same_map}
use Rattle.std.specs.Ordering.{eq_by_cmp, nat_cmp}
use Rattle.fs_ident.specs.In.{In}
use Rattle.fs_ident.specs.Ordered.{Keyed}
use Rattle.fs_ident.proofs.MapsOf.{anti}
use Rattle.fs_ident.proofs.Booleans.{holds}
use Rattle.fs_map.proofs.Found.{In_found, found_In}
use Rattle.fs_record.specs.Moving.{with_records}
use Rattle.fs_record.specs.Records.{RecordMap}
use Rattle.fs_record.specs.declared.parcel.Parcel.{Parcel}
use Rattle.fs_record.specs.declared.record.Record.{Record}
use Rattle.fs_record.proofs.NodeValues.{key_is}
use Rattle.fs_server.specs.declared.state.Server.{Server}
use Rattle.fs_serial.specs.Joined.{records_of_all, with_all_of, with_parcels}

-- ## The entries of a map

pub entry_of : (m : RecordMap) (id : List ℕ) (r : Record) → get m id ≡ Some r → In (id, r) (entries m)
entry_of m id r h = found_In id r (entries m) (sym (get-entries m id) ∙ h)

pub record_of : (m : RecordMap) (id : List ℕ) (r : Record) → In (id, r) (entries m) → get m id ≡ Some r
record_of m id r i = get-entries m id ∙ In_found (id, r) (entries m) (holds _ (entries_sorted m)) i

-- ## One of several

-- what there is is one of these, and where there is none there is none of these
abbrev pub IsOneOf : (Record → Type 0) → Option Record → Type 0
IsOneOf P None = (r : Record) → P r → ⊥
IsOneOf P (Some r) = P r

pub of_same : (P Q : Record → Type 0) (o : Option Record) → ((r : Record) → P r → Q r) → ((r : Record) → Q r → P r) → IsOneOf P o → IsOneOf Q o
of_same P Q None f g h = λ r q. h r (g r q)
of_same P Q (Some r) f g h = f r h

-- where there is one alone
pub one_alone : (P Q : Record → Type 0) (a b : Option Record) → ((r : Record) → P r → Q r) → ((r : Record) → Q r → P r) → ((r t : Record) → P r → P t → r ≡ t) → IsOneOf P a → IsOneOf Q b → a ≡ b
one_alone P Q None None f g one h k = refl
one_alone P Q None (Some t) f g one h k = absurd (h t (g t k))
one_alone P Q (Some r) None f g one h k = absurd (k r (f r h))
one_alone P Q (Some r) (Some t) f g one h k = ap Some (one r t h (g t k))

-- ## Records that come

here : (id : List ℕ) (e : List ℕ × Record) → id ≡ e.0 → (id, e.1) ≡ e
here id e h = ap (λ (k : List ℕ). (k, e.1)) h

put_one : (P : Record → Type 0) (m : RecordMap) (e : List ℕ × Record) (id : List ℕ) → IsOneOf P (get m id) → IsOneOf (λ r. P r ⊎ ((id, r) ≡ e)) (get (insert m e.0 e.1) id)
put_one P m e id h =
    let Q : Record → Type 0 = λ r. P r ⊎ ((id, r) ≡ e) in
    subst (IsOneOf Q) (sym (get-insert nat_list_cmp_total m e.0 e.1 id)) (elim (eq_by_cmp (slice_cmp nat_cmp) id e.0) as (λ b. eq_by_cmp (slice_cmp nat_cmp) id e.0 ≡ b → IsOneOf (λ r. P r ⊎ ((id, r) ≡ e)) (cond b (Some e.1) (get m id))) [
      | true ↦ λ t. inr (here id e (key_is id e.0 t))
      | false ↦ λ t. other t (get m id) h
    ] refl)
  where
    no_key : eq_by_cmp (slice_cmp nat_cmp) id e.0 ≡ false → (r : Record) → (id, r) ≡ e → ⊥
    no_key t r q =
        let same : eq_by_cmp (slice_cmp nat_cmp) id e.0 ≡ true = ap (λ (x : List ℕ × Record). eq_by_cmp (slice_cmp nat_cmp) id x.0) (sym q) ∙ (eq_by_cmp_equiv nat_list_cmp_total).refl id in
        let wrong : true ≡ false = sym same ∙ t in
        absurd (cc)

    other : eq_by_cmp (slice_cmp nat_cmp) id e.0 ≡ false → (o : Option Record) → IsOneOf P o → IsOneOf (λ r. P r ⊎ ((id, r) ≡ e)) o
    other t None k = λ r q. elim q as (λ _. ⊥) [ inl p ↦ k r p | inr i ↦ no_key t r i ]
    other t (Some r) k = inl k

pub put_all : (P : Record → Type 0) (es : Keyed Record) (m : RecordMap) (id : List ℕ) → IsOneOf P (get m id) → IsOneOf (λ r. P r ⊎ In (id, r) es) (get (with_records es m) id)
put_all P [] m id h = of_same P (λ r. P r ⊎ ⊥) (get m id) (λ r p. inl p) (λ r q. elim q as (λ _. P r) [ inl p ↦ p | inr z ↦ absurd z ]) h
put_all P (e ∷ es) m id h = of_same (λ r. (P r ⊎ ((id, r) ≡ e)) ⊎ In (id, r) es) (λ r. P r ⊎ (((id, r) ≡ e) ⊎ In (id, r) es)) (get (with_records es (insert m e.0 e.1)) id)
    (λ r q. elim q as (λ _. P r ⊎ (((id, r) ≡ e) ⊎ In (id, r) es)) [
      | inl a ↦ elim a as (λ _. P r ⊎ (((id, r) ≡ e) ⊎ In (id, r) es)) [ inl p ↦ inl p | inr i ↦ inr (inl i) ]
      | inr i ↦ inr (inr i)
    ])
    (λ r q. elim q as (λ _. (P r ⊎ ((id, r) ≡ e)) ⊎ In (id, r) es) [
      | inl p ↦ inl (inl p)
      | inr a ↦ elim a as (λ _. (P r ⊎ ((id, r) ≡ e)) ⊎ In (id, r) es) [ inl i ↦ inl (inr i) | inr i ↦ inr i ]
    ])
    (put_all (λ r. P r ⊎ ((id, r) ≡ e)) es (insert m e.0 e.1) id (put_one P m e id h))

-- ## Who has a record

abbrev pub IsRecordAt : List Server → List ℕ → Record → Type 0
IsRecordAt servers id r = (s : Server) × In s servers × (get s.records id ≡ Some r)

abbrev pub IsRecordIn : List Parcel → List ℕ → Record → Type 0
IsRecordIn parcels id r = (p : Parcel) × In p parcels × In (id, r) p.records

abbrev pub HasRecord : List Server → List Parcel → List ℕ → Record → Type 0
HasRecord servers parcels id r = IsRecordAt servers id r ⊎ IsRecordIn parcels id r

of_servers : (P : Record → Type 0) (servers : List Server) (m : RecordMap) (id : List ℕ) → IsOneOf P (get m id) → IsOneOf (λ r. P r ⊎ IsRecordAt servers id r) (get (with_all_of servers m) id)
of_servers P [] m id h = of_same P (λ r. P r ⊎ IsRecordAt [] id r) (get m id) (λ r p. inl p) (λ r q. elim q as (λ _. P r) [ inl p ↦ p | inr z ↦ absurd z.1 ]) h
of_servers P (s ∷ ss) m id h = of_same (λ r. (P r ⊎ In (id, r) (entries s.records)) ⊎ IsRecordAt ss id r) (λ r. P r ⊎ IsRecordAt (s ∷ ss) id r) (get (with_all_of ss (with_records (entries s.records) m)) id)
    (λ r q. elim q as (λ _. P r ⊎ IsRecordAt (s ∷ ss) id r) [
      | inl a ↦ elim a as (λ _. P r ⊎ IsRecordAt (s ∷ ss) id r) [ inl p ↦ inl p | inr i ↦ inr (s, inl refl, record_of s.records id r i) ]
      | inr a ↦ inr (a.0, inr a.1, a.2)
    ])
    (λ r q. elim q as (λ _. (P r ⊎ In (id, r) (entries s.records)) ⊎ IsRecordAt ss id r) [
      | inl p ↦ inl (inl p)
      | inr a ↦ elim a.1 as (λ _. (P r ⊎ In (id, r) (entries s.records)) ⊎ IsRecordAt ss id r) [
        | inl e ↦ inl (inr (entry_of s.records id r (ap (λ (t : Server). get t.records id) (sym e) ∙ a.2)))
        | inr i ↦ inr (a.0, i, a.2)
      ]
    ])
    (of_servers (λ r. P r ⊎ In (id, r) (entries s.records)) ss (with_records (entries s.records) m) id (put_all P (entries s.records) m id h))

of_parcels : (P : Record → Type 0) (parcels : List Parcel) (m : RecordMap) (id : List ℕ) → IsOneOf P (get m id) → IsOneOf (λ r. P r ⊎ IsRecordIn parcels id r) (get (with_parcels parcels m) id)
of_parcels P [] m id h = of_same P (λ r. P r ⊎ IsRecordIn [] id r) (get m id) (λ r p. inl p) (λ r q. elim q as (λ _. P r) [ inl p ↦ p | inr z ↦ absurd z.1 ]) h
of_parcels P (p ∷ ps) m id h = of_same (λ r. (P r ⊎ In (id, r) p.records) ⊎ IsRecordIn ps id r) (λ r. P r ⊎ IsRecordIn (p ∷ ps) id r) (get (with_parcels ps (with_records p.records m)) id)
    (λ r q. elim q as (λ _. P r ⊎ IsRecordIn (p ∷ ps) id r) [
      | inl a ↦ elim a as (λ _. P r ⊎ IsRecordIn (p ∷ ps) id r) [ inl k ↦ inl k | inr i ↦ inr (p, inl refl, i) ]
      | inr a ↦ inr (a.0, inr a.1, a.2)
    ])
    (λ r q. elim q as (λ _. (P r ⊎ In (id, r) p.records) ⊎ IsRecordIn ps id r) [
      | inl k ↦ inl (inl k)
      | inr a ↦ elim a.1 as (λ _. (P r ⊎ In (id, r) p.records) ⊎ IsRecordIn ps id r) [
        | inl e ↦ inl (inr (subst (λ (x : Parcel). In (id, r) x.records) e a.2))
        | inr i ↦ inr (a.0, i, a.2)
      ]
    ])
    (of_parcels (λ r. P r ⊎ In (id, r) p.records) ps (with_records p.records m) id (put_all P p.records m id h))

-- the record of a file is one that somebody has, if anybody has one
pub record_of_all : (servers : List Server) (parcels : List Parcel) (id : List ℕ) → IsOneOf (HasRecord servers parcels id) (get (records_of_all servers parcels) id)
record_of_all servers parcels id =
    let nothing : RecordMap = empty in
    let none : IsOneOf (λ r. ⊥) (get nothing id) = subst (IsOneOf (λ r. ⊥)) (sym (get-empty (slice_cmp nat_cmp) id)) (λ r z. z) in
    of_same (λ r. (⊥ ⊎ IsRecordAt servers id r) ⊎ IsRecordIn parcels id r) (HasRecord servers parcels id) (get (records_of_all servers parcels) id)
    (λ r q. elim q as (λ _. HasRecord servers parcels id r) [
      | inl a ↦ elim a as (λ _. HasRecord servers parcels id r) [ inl z ↦ absurd z | inr h ↦ inl h ]
      | inr h ↦ inr h
    ])
    (λ r q. elim q as (λ _. (⊥ ⊎ IsRecordAt servers id r) ⊎ IsRecordIn parcels id r) [ inl h ↦ inl (inr h) | inr h ↦ inr h ])
    (of_parcels (λ r. ⊥ ⊎ IsRecordAt servers id r) parcels (with_all_of servers empty) id (of_servers (λ r. ⊥) servers empty id none))

-- where nobody has another
abbrev pub IsOneRecord : List Server → List Parcel → Type 0
IsOneRecord servers parcels = (id : List ℕ) (r t : Record) → HasRecord servers parcels id r → HasRecord servers parcels id t → r ≡ t

-- what somebody has is the record of the file
pub has_record : (servers : List Server) (parcels : List Parcel) → IsOneRecord servers parcels → (id : List ℕ) (r : Record) → HasRecord servers parcels id r → get (records_of_all servers parcels) id ≡ Some r
has_record servers parcels one id r h = go (get (records_of_all servers parcels) id) (record_of_all servers parcels id)
  where
    go : (o : Option Record) → IsOneOf (HasRecord servers parcels id) o → o ≡ Some r
    go None k = absurd (k r h)
    go (Some t) k = ap Some (one id t r k h)

-- where the same records are had, and nobody has another of a file, the records of all are the same
pub same_records : (servers later : List Server) (parcels now : List Parcel) → IsOneRecord servers parcels
    → ((id : List ℕ) (r : Record) → HasRecord servers parcels id r → HasRecord later now id r) → ((id : List ℕ) (r : Record) → HasRecord later now id r → HasRecord servers parcels id r)
    → records_of_all later now ≡ records_of_all servers parcels
same_records servers later parcels now one f g = same_map nat_list_cmp_total anti _ _ (λ id.
    sym (one_alone (HasRecord servers parcels id) (HasRecord later now id) (get (records_of_all servers parcels) id) (get (records_of_all later now) id) (f id) (g id) (one id) (record_of_all servers parcels id) (record_of_all later now id)))
