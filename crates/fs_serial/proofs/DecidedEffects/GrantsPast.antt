-- Leases and identifiers that a server gives while decided effects are on their way.
use Rattle.std.proofs.Common.{◌≡◌, ℕ, ◌+◌, ◌==◌, Bool, true, false, List, [], ◌∷◌, cond, length, refl, sym, ap, ◌∙◌, subst, ◌⊎◌, inl, inr}
use Rattle.std.specs.Prelude.{Option, Some, None, option_map}
use Rattle.std.specs.Cmp.Lexicographic.{nat_list_cmp_total}
use Rattle.std.specs.FinMap.{get, same_map}
use Rattle.fs_ident.specs.Ident.{child, same}
use Rattle.fs_ident.specs.In.{In}
use Rattle.fs_ident.specs.declared.actor.Session.{Session}
use Rattle.fs_ident.specs.declared.actor.TxnNo.{TxnNo}
use Rattle.fs_ident.proofs.MapsOf.{anti}
use Rattle.fs_ident.proofs.Same.{same_is}
use Rattle.fs_ident.proofs.Standing.{In-map, In-mapped}
use Rattle.fs_field.specs.After.{changed_file}
use Rattle.fs_field.specs.Field.{file_of}
use Rattle.fs_field.specs.Table.{borne_numbers, no_before}
use Rattle.fs_field.specs.declared.asked.Asked.TheVariants.{Granted}
use Rattle.fs_field.specs.declared.effect.Effect.{Effect}
use Rattle.fs_field.specs.declared.effect.Effect.TheVariants.{SetChild, SetParent, NewNode, RemoveNode, AddHandle, RemoveHandle, SetInfo}
use Rattle.fs_field.specs.declared.field.Field.{Field}
use Rattle.fs_field.specs.declared.field.Field.TheVariants.{Life, Child, Names, Info, Own, SelfW, Other}
use Rattle.fs_field.specs.declared.lease_kind.LeaseKind.{LeaseKind}
use Rattle.fs_field.specs.declared.row.Row.{Row}
use Rattle.fs_field.specs.declared.value.Value.TheVariants as value
use Rattle.fs_moderows.specs.Answer.{answer_other, answer_self}
use Rattle.fs_msg.specs.declared.item.Item.{Item}
use Rattle.fs_record.specs.Applied.{record_change, records_after}
use Rattle.fs_record.specs.Fresh.{IsLeastFree, free_from, records_after_gift, with_next}
use Rattle.fs_record.specs.Records.{AreRecords, RecordMap, next_of, node_of, nodes_of}
use Rattle.fs_record.specs.ValueOf.{handles_of, selves_in, selves_of, value_of}
use Rattle.fs_record.specs.declared.record.Record.{Record}
use Rattle.fs_record.proofs.Kept.{given_kept}
use Rattle.fs_record.proofs.NodeMaps.{node_there}
use Rattle.fs_record.proofs.NumbersRise.{given_elsewhere, given_here, number_least}
use Rattle.fs_record.proofs.Undoing.{get_here}
use Rattle.fs_rows.specs.Answer.{answer_by}
use Rattle.fs_rows.proofs.Bearing.{not_on}
use Rattle.fs_server.specs.Asks.{answer_to, with_lease}
use Rattle.fs_server.specs.declared.state.Server.{Server}
use Rattle.fs_txn.specs.Decided.{AreDecided, IsDecided, held_with}
use Rattle.fs_txn.specs.Grants.{Decided, IsAllowed, IsLost, effects_in}
use Rattle.fs_txn.specs.Guards.{HasLocked}
use Rattle.fs_txn.proofs.GrantsTrue.{grant_true}
use Rattle.fs_serial.specs.Decided.{AllDecidedStand, DecidedStands}
use Rattle.fs_serial.specs.Fresh.{IsMade, NodesMade}
use Rattle.fs_serial.specs.Gone.{IsOfGone}
use Rattle.fs_serial.specs.Laws.{IsGift}
use Rattle.fs_serial.specs.Serial.{AreSound}
use Rattle.fs_serial.specs.Sight.{seen}
use Rattle.fs_serial.proofs.DecidedEffects.FewerDirectories.{fewer_held, goes_or_stays, none_held}
use Rattle.fs_serial.proofs.Grants.GiftedRecords.{node_stays, nodes_stay, sound_still}
use Rattle.fs_serial.proofs.Grants.GiftReserved.{directory_made}
use Rattle.fs_serial.proofs.Grants.Leased.{In-put_still}
use Rattle.fs_serial.proofs.DecidedEffects.Underway.{LocksStay, PlaceStays, are_decided, effect_of, either_file, going_same, gone_held, handles_held, kind_held, node_beside, place_same, stands_then}

-- ## A number that a directory gives goes past what is decided

-- with the next number after this one
numbered : ℕ → Option Record → Option Record
numbered k o = option_map (λ (r : Record). record { node = r.node; next = k + 1 }) o

changed_numbered : (e : Effect) (k : ℕ) (o : Option Record) → IsDecided e → record_change e (numbered k o) ≡ numbered k (record_change e o)
unfolding numbered
changed_numbered (SetChild d n None) k None i = refl
changed_numbered (SetChild d n None) k (Some r) i = refl
changed_numbered (SetParent f d n) k None i = refl
changed_numbered (SetParent f d n) k (Some r) i = refl
changed_numbered (RemoveNode f) k None i = refl
changed_numbered (RemoveNode f) k (Some r) i = refl
changed_numbered (SetChild d n (Some z)) k o i = absurd i
changed_numbered (NewNode f a d n) k o i = absurd i
changed_numbered (AddHandle f a b c) k o i = absurd i
changed_numbered (RemoveHandle f a b) k o i = absurd i
changed_numbered (SetInfo f a b) k o i = absurd i

numbered_here : (m : RecordMap) (dir : List ℕ) (k : ℕ) (o : Option Record) → get m dir ≡ o → get (records_after_gift m dir (Some k)) dir ≡ numbered k o
unfolding numbered
numbered_here m dir k None e = subst (λ (o : Option Record). get (with_next m dir (k + 1) o) dir ≡ None) (sym e) e
numbered_here m dir k (Some r) e = given_here m dir k r e

numbered_beside : (m : RecordMap) (dir id : List ℕ) (k : ℕ) → (id ≡ dir → ⊥) → get (records_after_gift m dir (Some k)) id ≡ get m id
numbered_beside m dir id k other = given_elsewhere m dir id (Some k) (off (same id dir) refl)
  where
    off : (b : Bool) → same id dir ≡ b → b ≡ false
    off true t = absurd (other (same_is id dir t))
    off false t = refl

module _ (m : RecordMap) (e : Effect) (dir : List ℕ) (k : ℕ) (decided : IsDecided e) where
  abbrev given : RecordMap
  given = records_after_gift m dir (Some k)

  abbrev c : List ℕ
  c = changed_file e

  gift_at : (q : List ℕ) → (q ≡ c) ⊎ (q ≡ c → ⊥) → (q ≡ dir) ⊎ (q ≡ dir → ⊥) → get (records_after given e) q ≡ get (records_after_gift (records_after m e) dir (Some k)) q
  gift_at q (inl s) (inl t) =
      ap (get (records_after given e)) s ∙ get_here given c (record_change e (get given c))
      ∙ ap (λ x. record_change e (get given x)) (sym s ∙ t) ∙ ap (record_change e) (numbered_here m dir k (get m dir) refl)
      ∙ changed_numbered e k (get m dir) decided
      ∙ ap (numbered k) (ap (λ x. record_change e (get m x)) (sym t ∙ s) ∙ sym (get_here m c (record_change e (get m c))) ∙ ap (get (records_after m e)) (sym s ∙ t))
      ∙ sym (numbered_here (records_after m e) dir k (get (records_after m e) dir) refl)
      ∙ ap (get (records_after_gift (records_after m e) dir (Some k))) (sym t)
  gift_at q (inl s) (inr t) =
      ap (get (records_after given e)) s ∙ get_here given c (record_change e (get given c))
      ∙ ap (λ x. record_change e (get given x)) (sym s) ∙ ap (record_change e) (numbered_beside m dir q k t)
      ∙ ap (λ x. record_change e (get m x)) s ∙ sym (get_here m c (record_change e (get m c))) ∙ ap (get (records_after m e)) (sym s)
      ∙ sym (numbered_beside (records_after m e) dir q k t)
  gift_at q (inr s) (inl t) =
      node_beside given e q s ∙ ap (get given) t ∙ numbered_here m dir k (get m dir) refl
      ∙ ap (numbered k) (ap (get m) (sym t) ∙ sym (node_beside m e q s) ∙ ap (get (records_after m e)) t)
      ∙ sym (numbered_here (records_after m e) dir k (get (records_after m e) dir) refl)
      ∙ ap (get (records_after_gift (records_after m e) dir (Some k))) (sym t)
  gift_at q (inr s) (inr t) =
      node_beside given e q s ∙ numbered_beside m dir q k t ∙ sym (node_beside m e q s) ∙ sym (numbered_beside (records_after m e) dir q k t)

  gift_one : records_after given e ≡ records_after_gift (records_after m e) dir (Some k)
  gift_one = same_map nat_list_cmp_total anti _ _ (λ q. gift_at q (either_file q c) (either_file q dir))

pub gift_past : (m : RecordMap) (es : List Effect) (dir : List ℕ) (k : ℕ) → AreDecided es → held_with es (records_after_gift m dir (Some k)) ≡ records_after_gift (held_with es m) dir (Some k)
gift_past m [] dir k d = refl
gift_past m (e ∷ es) dir k d = ap (held_with es) (gift_one m e dir k (d e (inl refl))) ∙ gift_past (records_after m e) es dir k (λ x i. d x (inr i))

-- ## What is asked

given_none : (lock : Option TxnNo) (against : Option Row) (promise : Option Bool) → answer_by lock against ≡ Granted promise → answer_by lock against ≡ Granted None
given_none (Some txn) against promise h = absurd (cc)
given_none None (Some row) promise h = absurd (cc)
given_none None None promise h = refl

allowed : (s : Server) (by : Session) (field : Field) (kind : LeaseKind) (promise : Option Bool) → answer_to by field kind s ≡ Granted promise → IsAllowed s.rows by field kind
allowed s by (SelfW f m) kind promise ok = tt
allowed s by (Other f m) kind promise ok = tt
allowed s by (Life f) kind promise ok = given_none _ _ promise ok
allowed s by (Child d n) kind promise ok = given_none _ _ promise ok
allowed s by (Names d) kind promise ok = given_none _ _ promise ok
allowed s by (Info f) kind promise ok = given_none _ _ promise ok
allowed s by (Own f) kind promise ok = given_none _ _ promise ok

module _ (ds : List Decided) (s : Server) (journal : List Item) (all : AllDecidedStand ds s journal) where
  abbrev es : List Effect
  es = effects_in ds

  abbrev there : Server
  there = seen ds s

  pub all_decided : AreDecided es
  all_decided = are_decided ds (λ d i. (all.stand d i).decided)

  -- what is decided with such an effect
  decided_on : (e : Effect) → In e es → (d : Decided) × (In d ds × (e ≡ d.effect))
  decided_on e i = In-map effect_of e ds i

  pub going_of : (f : List ℕ) → In (RemoveNode f) es → (d : Decided) × (In d ds × DecidedStands s.rows s.records (nodes_of there.records) journal (record { by = d.by; effect = RemoveNode f }))
  going_of f i =
      let q = decided_on (RemoveNode f) i in
      (q.0, (q.1.0, subst (λ e. DecidedStands s.rows s.records (nodes_of there.records) journal (record { by = q.0.by; effect = e })) (sym q.1.1) (all.stand q.0 q.1.0)))

  -- a file that goes is gone in what all hold
  pub gone_there : (d : Decided) → In d ds → (f : List ℕ) → d.effect ≡ RemoveNode f → get (nodes_of there.records) f ≡ None
  gone_there d i f e = node_there there.records f ∙ gone_held s.records es f all_decided (subst (λ x. In x es) e (In-mapped effect_of d ds i))

  pub unused : (f : List ℕ) → In (RemoveNode f) es → handles_of (node_of (get s.records f)) ≡ []
  unused f i = let q = going_of f i in (q.1.1.bare).1

  pub handles_alike : (f : List ℕ) → handles_of (node_of (get there.records f)) ≡ handles_of (node_of (get s.records f))
  handles_alike f = handles_held s.records es f all_decided unused

  pub selves_alike : (f : List ℕ) → selves_in there.records f ≡ selves_in s.records f
  selves_alike f = ap selves_of (handles_alike f)

  pub answers_alike : (by : Session) (field : Field) (kind : LeaseKind) → answer_to by field kind there ≡ answer_to by field kind s
  answers_alike by (SelfW f m) kind = ap (λ x. answer_self x s.rows by f m) (selves_alike f)
  answers_alike by (Other f m) kind = ap (λ x. answer_other x s.rows by f m) (selves_alike f)
  answers_alike by (Life f) kind = refl
  answers_alike by (Child d n) kind = refl
  answers_alike by (Names d) kind = refl
  answers_alike by (Info f) kind = refl
  answers_alike by (Own f) kind = refl

  lost_gone : (field : Field) → IsLost ds field → IsOfGone there.records journal field
  lost_gone (Info f) l =
      let i : In (RemoveNode f) es = subst (λ e. In e es) l.1.1 (In-mapped effect_of l.0 ds l.1.0) in
      let q = going_of f i in
      (q.1.1.file, gone_held s.records es f all_decided i)
  lost_gone (Life f) l = l
  lost_gone (Child d n) l = l
  lost_gone (Names d) l = l
  lost_gone (Own f) l = l
  lost_gone (SelfW f m) l = l
  lost_gone (Other f m) l = l

  -- what is told with a lease is what all hold together, unless it is of no matter any more
  pub told_right : (by : Session) (field : Field) (kind : LeaseKind) (promise : Option Bool) → ((d : Decided) → In d ds → (d.by.0 == by.0) ≡ false) → answer_to by field kind s ≡ Granted promise
      → IsOfGone there.records journal field ⊎ (value_of s.records by field ≡ value_of there.records by field)
  told_right by field kind promise others ok =
      elim (grant_true s.rows (nodes_of there.records) s.records ds by field kind
      (λ d i. let q = all.stand d i in record { decided = q.decided; guarded = q.guarded; other = others d i })
      (λ d i. (all.stand d i).bare) (allowed s by field kind promise ok)) as (λ _. IsOfGone there.records journal field ⊎ (value_of s.records by field ≡ value_of there.records by field)) [
        | inl l ↦ inl (lost_gone field l)
        | inr e ↦ inr (sym e)
      ]

  pub stand_leased : (by : Session) (field : Field) (kind : LeaseKind) (promise : Option Bool) → AllDecidedStand ds (with_lease by field kind promise s) journal
  stand_leased by field kind promise = record {
    records = all.records;
    stand = λ d i. stands_then s.rows (with_lease by field kind promise s).rows s.records s.records (nodes_of there.records) (nodes_of there.records) journal journal d
        (λ r j own l. record { row = r; stands = In-put_still (λ x. no_before _ x.no) r _ s.rows j; session = refl; field = refl; kind = refl; lock = l })
        (place_same (nodes_of there.records) d.effect) (going_same s.records s.records d.effect (λ f. refl)) (λ id was. was) (all.stand d i);
  }

  -- ## A directory that gives an identifier

  module _ (dir : List ℕ) (k : ℕ) (gift : IsGift dir k s) where
    least : IsLeastFree (next_of (get s.records dir)) (borne_numbers dir s.rows) k
    least = number_least s.records dir (borne_numbers dir s.rows) k gift.1

    child_stays : In (RemoveNode (child dir k)) es → ⊥
    child_stays i =
        let q = going_of (child dir k) i in
        let g : HasLocked s.rows q.0.by (Life (child dir k)) _ = ((q.1.1.guarded).1).0 in
        not_on dir k s.rows least.free g.row g.stands (ap file_of g.field)

    -- the directory goes, or it gives the same in what all hold together
    gift_seen : In (RemoveNode dir) es ⊎ IsGift dir k there
    gift_seen = elim (goes_or_stays s.records es dir all_decided gift.0) as (λ _. In (RemoveNode dir) es ⊎ IsGift dir k there) [
      | inl i ↦ inl i
      | inr is ↦
          let next = (fewer_held s.records es all_decided dir is).1 in
          inr (is, ap (λ n. cond (length dir == 32) None (free_from n (borne_numbers dir s.rows))) next ∙ gift.1)
    ]

    -- it was made
    pub giver_made : NodesMade there.records journal → IsMade journal dir
    giver_made made = elim gift_seen as (λ _. IsMade journal dir) [
      | inl i ↦ (going_of dir i).1.1.file
      | inr there_too ↦ directory_made there.records journal dir made there_too.0
    ]

    -- what all hold together stays sound: where the directory goes, nothing in it changes
    pub sound_gifted : AreSound there.records → AreSound (records_after_gift there.records dir (Some k))
    sound_gifted sound = elim gift_seen as (λ _. AreSound (records_after_gift there.records dir (Some k))) [
      | inl i ↦ subst (λ (o : Option Record). AreSound (with_next there.records dir (k + 1) o)) (sym (none_held s.records es dir all_decided i)) sound
      | inr there_too ↦ sound_still there.records dir k (borne_numbers dir s.rows) there_too.1 sound
    ]

    -- the file to come does not live, in both
    pub life_alike : (by : Session) → value_of there.records by (Life (child dir k)) ≡ value_of s.records by (Life (child dir k))
    life_alike by = ap value.Life (kind_held s.records es (child dir k) all_decided child_stays)

    pub gifted_alike : records_after_gift there.records dir (Some k) ≡ held_with es (records_after_gift s.records dir (Some k))
    gifted_alike = sym (gift_past s.records es dir k all_decided)

    nodes_alike : nodes_of (held_with es (records_after_gift s.records dir (Some k))) ≡ nodes_of there.records
    nodes_alike = ap nodes_of (gift_past s.records es dir k all_decided) ∙ nodes_stay there.records dir k

    pub stand_gifted : (rows : List Row) → ((x : Session) → LocksStay x s.rows rows) → AllDecidedStand ds (record s { rows = rows; records = records_after_gift s.records dir (Some k) }) journal
    stand_gifted rows stay = record {
      records = subst (λ n. AreRecords (records_after_gift s.records dir n)) gift.1 (given_kept s.records dir (borne_numbers dir s.rows) all.records);
      stand = λ d i. stands_then s.rows rows s.records (records_after_gift s.records dir (Some k)) (nodes_of there.records) (nodes_of (held_with es (records_after_gift s.records dir (Some k)))) journal journal d (stay d.by)
          (subst (λ n. PlaceStays (nodes_of there.records) n d.effect) (sym nodes_alike) (place_same (nodes_of there.records) d.effect))
          (going_same s.records (records_after_gift s.records dir (Some k)) d.effect (node_stays s.records dir k)) (λ id was. was) (all.stand d i);
    }
