-- After a step that comes to the same at the server that has all, everything is at its place again.
use Rattle.std.proofs.Common.{◌≡◌, ℕ, zero, suc, ◌+◌, ◌<◌, ◌==◌, Bool, true, false, List, [], ◌∷◌, ◌++◌, length, length-append, refl, ap, ap₂, cond, subst, sym, ◌∙◌, inl, inr, arith}
use Rattle.std.specs.Prelude.{Option, Some, None, is_some, slice_get, slice_set}
use Rattle.std.specs.List.{filter}
use Rattle.std.proofs.lemmas.List.Elements.{filter-append}
use Rattle.fs_ident.specs.In.{In}
use Rattle.fs_ident.specs.declared.kind.Kind.{Kind}
use Rattle.fs_ident.proofs.Standing.{In-append, In-front, In-behind, In-got}
use Rattle.fs_field.specs.Table.{is_ordered}
use Rattle.fs_map.specs.Map.{server_of}
use Rattle.fs_msg.specs.declared.item.Item.{Item}
use Rattle.fs_record.specs.declared.parcel.Parcel.{Parcel}
use Rattle.fs_server.specs.Server.{Stepped, is_mine}
use Rattle.fs_server.specs.declared.event.ServerEvent.{ServerEvent}
use Rattle.fs_server.specs.declared.state.Server.{Server}
use Rattle.fs_serial.specs.Cluster.{Cluster, after_step, parcels_of}
use Rattle.fs_serial.specs.Fresh.{IsMade, made_in, made_by, or_else, root_kind}
use Rattle.fs_serial.specs.Places.{IsHome, IsSent, OnePlace, PlacesHold, gives_it, places_for, IsUnderway}
use Rattle.fs_serial.proofs.Places.ClusterPlaces.{IsBetween, between}
use Rattle.fs_serial.proofs.OneServer.SameStep.{IsSameStep}

-- ## What was made stays made

or_more : (a b d : Option Kind) → (is_some b ≡ true → is_some d ≡ true) → is_some (or_else a b) ≡ true → is_some (or_else a d) ≡ true
or_more None b d f h = f h
or_more (Some k) b d f h = refl

made_in_front : (is more : List Item) (id : List ℕ) → is_some (made_in is id) ≡ true → is_some (made_in (is ++ more) id) ≡ true
made_in_front [] more id h = absurd (cc)
made_in_front (i ∷ is) more id h = or_more (made_by i.op i.reply id) (made_in is id) (made_in (is ++ more) id) (made_in_front is more id) h

pub made_still : (is more : List Item) (id : List ℕ) → IsMade is id → IsMade (is ++ more) id
made_still is more id h = or_more (root_kind id) (made_in is id) (made_in (is ++ more) id) (made_in_front is more id) h

-- a server and a parcel that are as they have to be are so later
pub home_still : (is more : List Item) (s : Server) → IsHome is s → IsHome (is ++ more) s
home_still is more s h = record { map = h.map; listed = λ place i. made_still is more place (h.listed place i); rows = h.rows; records = h.records; ordered = h.ordered }

pub sent_still : (is more : List Item) (p : Parcel) → IsSent is p → IsSent (is ++ more) p
sent_still is more p h = record { formed = h.formed; given = h.given; listed = λ place i. made_still is more place (h.listed place i); each = h.each; ordered = h.ordered; unlocked = h.unlocked }

-- ## One server in place of another

-- with the same number and map
module _ (front back : List Server) (s t : Server) (me : t.me ≡ s.me) (map : t.map ≡ s.map) where
  pub mine_same : (id : List ℕ) → is_mine t id ≡ is_mine s id
  mine_same id = ap₂ (λ owners me. server_of owners id == me) map me

  pub one_same : (parcels : List Parcel) → OnePlace (front ++ s ∷ back) parcels → OnePlace (front ++ t ∷ back) parcels
  one_same parcels one id =
      ap (λ n. n + length (filter (gives_it id) parcels)) (
      ap length (filter-append (λ (x : Server). is_mine x id) front (t ∷ back))
      ∙ length-append (filter (λ (x : Server). is_mine x id) front) (filter (λ (x : Server). is_mine x id) (t ∷ back))
      ∙ ap (λ n. length (filter (λ (x : Server). is_mine x id) front) + n) (counts (is_mine t id) (is_mine s id) (filter (λ (x : Server). is_mine x id) back) (mine_same id))
      ∙ sym (length-append (filter (λ (x : Server). is_mine x id) front) (filter (λ (x : Server). is_mine x id) (s ∷ back)))
      ∙ ap length (sym (filter-append (λ (x : Server). is_mine x id) front (s ∷ back))))
      ∙ one id
    where
      counts : (a b : Bool) (xs : List Server) → a ≡ b → length (cond a (t ∷ xs) xs) ≡ length (cond b (s ∷ xs) xs)
      counts a b xs e = ap (λ c. length (cond c (t ∷ xs) xs)) e ∙ alike b where
        alike : (b : Bool) → length (cond b (t ∷ xs) xs) ≡ length (cond b (s ∷ xs) xs)
        alike true = omega arith
        alike false = refl

  pub length_same : length (front ++ t ∷ back) ≡ length (front ++ s ∷ back)
  length_same = length-append front (t ∷ back) ∙ ap (λ n. length front + n) (one_more back) ∙ sym (length-append front (s ∷ back)) where
    one_more : (xs : List Server) → length (t ∷ xs) ≡ length (s ∷ xs)
    one_more xs = omega arith

  pub each_same : (P : Server → Type 0) → ((x : Server) → In x (front ++ s ∷ back) → P x) → P t → (x : Server) → In x (front ++ t ∷ back) → P x
  each_same P old new x i = elim (In-append x front (t ∷ back) i) as (λ _. P x) [
    | inl j ↦ old x (In-front x front (s ∷ back) j)
    | inr j ↦ elim j as (λ _. P x) [
      | inl e ↦ subst P (sym e) new
      | inr l ↦ old x (In-behind x front (s ∷ back) (inr l))
    ]
  ]

-- at each place stands the server of its number
pub numbered_same : (front back : List Server) (s t : Server) → t.me ≡ s.me → (n : ℕ) → ((j : ℕ) (x : Server) → slice_get (front ++ s ∷ back) j ≡ Some x → x.me ≡ n + j) → (j : ℕ) (x : Server) → slice_get (front ++ t ∷ back) j ≡ Some x → x.me ≡ n + j
numbered_same [] back s t me n old zero x e = let same : t ≡ x = cc in ap (λ (y : Server). y.me) (sym same) ∙ me ∙ old zero s refl
numbered_same [] back s t me n old (suc j) x e = old (suc j) x e
numbered_same (f ∷ fs) back s t me n old zero x e = old zero x e
numbered_same (f ∷ fs) back s t me n old (suc j) x e = numbered_same fs back s t me (n + 1) (λ i y d. old (suc i) y d ∙ further n i) j x e ∙ sym (further n j) where
  further : (a b : ℕ) → a + suc b ≡ (a + 1) + b
  further a b = omega arith

-- ## The step

pub step_places : (k : ℕ) (e : ServerEvent) (s : Server) (small big : Stepped) (c : Cluster) → slice_get c.servers k ≡ Some s → PlacesHold c → IsSameStep k e s small big c → PlacesHold (after_step k e small c)
step_places k e s small big c is places h =
    let b : IsBetween c.servers k s = between c.servers k s is in
    let t : Server = small.server in
    let servers : slice_set c.servers k t ≡ b.front ++ t ∷ b.back = b.set t in
    let n : length (b.front ++ t ∷ b.back) ≡ length c.servers = length_same b.front b.back s t h.me h.map ∙ sym (ap length b.is) in
    record {
      one = λ id. ap₂ (λ ss fs. places_for id ss (parcels_of fs)) servers h.still ∙ one_same b.front b.back s t h.me h.map (parcels_of c.in_flight) (λ id. ap (λ ss. places_for id ss (parcels_of c.in_flight)) (sym b.is) ∙ places.one id) id;
      homes = λ x i. home_still c.journal small.out.admitted x (each_same b.front b.back s t h.me h.map (IsHome c.journal) (λ y j. places.homes y (subst (In y) (sym b.is) j)) h.home x (subst (In x) servers i));
      sent = λ p i. sent_still c.journal small.out.admitted p (places.sent p (subst (λ fs. In p (parcels_of fs)) h.still i));
      goes = λ f i. subst (λ m. IsUnderway m f) (sym (ap length servers ∙ n)) (places.goes f (subst (In f) h.still i));
      ordered = subst (λ (u : Server). is_ordered u.rows ≡ true) h.server h.ordered;
      numbered = λ j x e. numbered_same b.front b.back s t h.me 0 (λ i y d. places.numbered i y (ap (λ ss. slice_get ss i) b.is ∙ d) ∙ zero_more i) j x (ap (λ ss. slice_get ss j) (sym servers) ∙ e) ∙ sym (zero_more j);
      named = λ x i id. subst (λ m. server_of x.map id < m) (sym (ap length servers ∙ n))
          (each_same b.front b.back s t h.me h.map (λ y. (j : List ℕ) → server_of y.map j < length c.servers) (λ y j. places.named y (subst (In y) (sym b.is) j))
          (λ j. subst (λ o. server_of o j < length c.servers) (sym h.map) (places.named s (In-got c.servers k s is) j)) x (subst (In x) servers i) id);
    }
  where
    zero_more : (i : ℕ) → i ≡ 0 + i
    zero_more i = omega arith
