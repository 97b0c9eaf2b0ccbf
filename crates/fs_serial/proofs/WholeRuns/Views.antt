-- A cluster as one of its servers sees it, and as another does.
use mathlib.Core.Path.{fun_ext}
use Rattle.std.proofs.Common.{◌≡◌, ℕ, ◌≤◌, ◌==◌, true, false, List, cond, refl, sym, ap, ◌∙◌, subst}
use Rattle.std.proofs.lemmas.Bool.{eqb-true, eqb-false}
use Rattle.std.specs.Prelude.{Option, Some, slice_get, slice_set}
use Rattle.fs_ident.specs.In.{In}
use Rattle.fs_ident.specs.declared.actor.Session.{Session}
use Rattle.fs_ident.proofs.Standing.{In-got}
use Rattle.fs_field.specs.declared.row.Row.{Row}
use Rattle.fs_msg.specs.declared.item.Item.{Item}
use Rattle.fs_record.specs.Records.{RecordMap}
use Rattle.fs_server.specs.declared.state.Server.{Server}
use Rattle.fs_serial.specs.Client.{ClientFits}
use Rattle.fs_serial.specs.Cluster.{Cluster}
use Rattle.fs_serial.specs.Exchange.{ExchangeFits}
use Rattle.fs_serial.specs.Parts.{AllHold}
use Rattle.fs_serial.specs.Places.{PlacesHold}
use Rattle.fs_serial.specs.Seen.{given_at, reaps_at, world_of}
use Rattle.fs_serial.specs.Settled.{settled_now}
use Rattle.fs_serial.specs.Sight.{Sight, count_with, seen}
use Rattle.fs_serial.specs.World.{Ends, World, WorldHolds, settled_at, sight_in}
use Rattle.fs_serial.proofs.Lists.Servers.{In_at}
use Rattle.fs_serial.proofs.Lists.SetAt.{get_other}

-- ## What holds of a world, without its server

record Holds (skew greatest : ℕ) (s : Sight) (replied : Session → List Item) (ends : Session → Ends) : Type 0 where
  all : AllHold skew greatest s replied (λ x. settled_at x (ends x))
  clients : (x : Session) → ClientFits x (ends x).client
  exchanges : (x : Session) → ExchangeFits skew greatest s.given s.rows x (ends x).client (ends x).up (ends x).down (settled_now (ends x).client) (settled_at x (ends x))

holds_of : (greatest : ℕ) (w : World) → WorldHolds greatest w → Holds w.server.skew greatest (sight_in w) w.replied w.ends
holds_of greatest w h = record { all = h.all; clients = h.clients; exchanges = h.exchanges }

of_holds : (greatest : ℕ) (w : World) → w.server.last ≤ greatest → Holds w.server.skew greatest (sight_in w) w.replied w.ends → WorldHolds greatest w
of_holds greatest w clock h = record { all = h.all; clock = clock; clients = h.clients; exchanges = h.exchanges }

-- ## Worlds that are alike

abbrev sight : List Row → RecordMap → RecordMap → (ℕ → ℕ) → (ℕ → ℕ) → List Item → Sight
sight rows records stored given reaps journal = record { rows = rows; records = records; stored = stored; given = given; reaps = reaps; journal = journal }

same_sight : (a b : Sight) → a.rows ≡ b.rows → a.records ≡ b.records → a.stored ≡ b.stored → a.given ≡ b.given → a.reaps ≡ b.reaps → a.journal ≡ b.journal → a ≡ b
same_sight a b rows records stored given reaps journal =
    ap (λ x. sight x a.records a.stored a.given a.reaps a.journal) rows
    ∙ ap (λ x. sight b.rows x a.stored a.given a.reaps a.journal) records
    ∙ ap (λ x. sight b.rows b.records x a.given a.reaps a.journal) stored
    ∙ ap (λ x. sight b.rows b.records b.stored x a.reaps a.journal) given
    ∙ ap (λ x. sight b.rows b.records b.stored b.given x a.journal) reaps
    ∙ ap (λ x. sight b.rows b.records b.stored b.given b.reaps x) journal

-- sessions see the same in both
pub record AreAlike (w v : World) : Type 0 where
  pub rows : v.server.rows ≡ w.server.rows
  pub records : (seen v.decided v.server).records ≡ (seen w.decided w.server).records
  pub stored : v.server.records ≡ w.server.records
  pub skew : v.server.skew ≡ w.server.skew
  pub given : (k : ℕ) → count_with v.server.me v.server.given v.counts.given k ≡ count_with w.server.me w.server.given w.counts.given k
  pub reaps : (k : ℕ) → count_with v.server.me v.server.reaps v.counts.reaps k ≡ count_with w.server.me w.server.reaps w.counts.reaps k
  pub journal : v.journal ≡ w.journal
  pub replied : v.replied ≡ w.replied
  pub ends : (x : Session) → v.ends x ≡ w.ends x

pub alike_holds : (greatest : ℕ) (w v : World) → AreAlike w v → v.server.last ≤ greatest → WorldHolds greatest w → WorldHolds greatest v
alike_holds greatest w v q clock h =
    let seen : sight_in v ≡ sight_in w = same_sight (sight_in v) (sight_in w) q.rows q.records q.stored (fun_ext q.given) (fun_ext q.reaps) q.journal in
    let ends : v.ends ≡ w.ends = fun_ext q.ends in
    of_holds greatest v clock
    (subst (λ k. Holds k greatest (sight_in v) v.replied v.ends) (sym q.skew)
    (subst (λ s. Holds w.server.skew greatest s v.replied v.ends) (sym seen)
    (subst (λ r. Holds w.server.skew greatest (sight_in w) r v.ends) (sym q.replied)
    (subst (λ e. Holds w.server.skew greatest (sight_in w) w.replied e) (sym ends) (holds_of greatest w h)))))

-- ## One cluster

-- where the server stands at its place, its own count is as that of all
pub count_at_place : (f : Option Server → ℕ) (servers : List Server) (k me : ℕ) (s : Server) → slice_get servers k ≡ Some s → me ≡ k → (j : ℕ) → count_with me (f (Some s)) (λ i. f (slice_get servers i)) j ≡ f (slice_get servers j)
count_at_place f servers k me s at is j =
    elim (j == me) as (λ b. (j == me) ≡ b → cond b (f (Some s)) (f (slice_get servers j)) ≡ f (slice_get servers j)) [
      | true ↦ λ t. let q : j ≡ k = eqb-true j me t ∙ is in ap f (sym at) ∙ ap (λ i. f (slice_get servers i)) (sym q)
      | false ↦ λ t. refl
    ] refl

-- the count at a place is no matter where another stands for it
pub count_set : (f : Option Server → ℕ) (servers : List Server) (k me count : ℕ) (t : Server) → me ≡ k → (j : ℕ) → count_with me count (λ i. f (slice_get (slice_set servers k t) i)) j ≡ count_with me count (λ i. f (slice_get servers i)) j
count_set f servers k me count t is j =
    elim (j == me) as (λ b. (j == me) ≡ b → cond b count (f (slice_get (slice_set servers k t) j)) ≡ cond b count (f (slice_get servers j))) [
      | true ↦ λ q. refl
      | false ↦ λ q. ap f (get_other servers k j t (λ e. eqb-false j me q (sym e ∙ sym is)))
    ] refl

pub other_view : (greatest : ℕ) (c : Cluster) (s t : Server) (i j : ℕ) → slice_get c.servers i ≡ Some s → s.me ≡ i → slice_get c.servers j ≡ Some t → t.me ≡ j → t.skew ≡ s.skew → t.last ≤ greatest → WorldHolds greatest (world_of s c) → WorldHolds greatest (world_of t c)
other_view greatest c s t i j at me at2 me2 skew clock h = alike_holds greatest (world_of s c) (world_of t c) (record {
  rows = refl;
  records = refl;
  stored = refl;
  skew = skew;
  given = λ k. count_at_place given_at c.servers j t.me t at2 me2 k ∙ sym (count_at_place given_at c.servers i s.me s at me k);
  reaps = λ k. count_at_place reaps_at c.servers j t.me t at2 me2 k ∙ sym (count_at_place reaps_at c.servers i s.me s at me k);
  journal = refl;
  replied = refl;
  ends = λ x. refl;
}) clock h

-- what one server sees, each sees
pub all_views : (skew greatest k : ℕ) (c : Cluster) (s : Server) → slice_get c.servers k ≡ Some s → PlacesHold c → ((t : Server) → In t c.servers → t.skew ≡ skew) → ((t : Server) → In t c.servers → t.last ≤ greatest) → WorldHolds greatest (world_of s c)
    → (t : Server) → In t c.servers → WorldHolds greatest (world_of t c)
all_views skew greatest k c s at places skewed clocks h t i =
    let q = In_at c.servers t i in
    other_view greatest c s t k q.place at (places.numbered k s at) q.is (places.numbered q.place t q.is) (skewed t i ∙ sym (skewed s (In-got c.servers k s at))) (clocks t i) h
