-- What holds of a world of the servers form says of its journal.
use Rattle.std.proofs.Common.{◌≡◌, ℕ, ◌+◌, ◌≤◌, Bool, true, List, [], ◌∷◌, ◌++◌, map, cond, refl, ap, sym, ◌∙◌, subst}
use Rattle.std.specs.Prelude.{filter}
use mathlib.Core.Path.{fun_ext}
use Rattle.fs_ident.specs.In.{In}
use Rattle.fs_ident.specs.declared.actor.Peer.{Peer}
use Rattle.fs_ident.specs.declared.actor.Peer.TheVariants.{Server, Client}
use Rattle.fs_ident.specs.declared.actor.Session.{Session}
use Rattle.fs_ident.proofs.Standing.{In-front}
use Rattle.fs_ident.proofs.Same.{itself}
use Rattle.fs_model.specs.Namespace.{first_space}
use Rattle.fs_msg.specs.Journal.{IsSerialRun}
use Rattle.fs_msg.specs.declared.item.Item.{Item}
use Rattle.fs_server.specs.Ships.{item_of}
use Rattle.fs_server.specs.declared.state.Server.{Server as Core}
use Rattle.fs_serial.specs.Cluster.{Cluster}
use Rattle.fs_serial.specs.Numbers.{AreNumbered, all_items, is_server, is_session, items_at, items_by}
use Rattle.fs_serial.specs.Owed.{ends_in}
use Rattle.fs_serial.specs.Serial.{JournalSerial}
use Rattle.fs_serial.specs.Seen.{ClusterHolds, world_of}
use Rattle.fs_serial.specs.Settled.{Settled}
use Rattle.fs_serial.specs.Whole.{ClusterStands}
use Rattle.fs_serial.specs.World.{WorldHolds, settled_at}
use Rattle.fs_serial.proofs.DecidedEffects.HeldSeen.{held_same}
use Rattle.fs_world.specs.Coming.{IsTold}
use Rattle.fs_world.specs.Order.{Agrees, AreNumberedFrom, HasNumberOf, IsInSessionOrder, Tale, ReplyGiven, items_of, same_actor, told_to}
use Rattle.fs_world.specs.Parts.{ServedHold, replied_in, seen as seen_by}
use Rattle.fs_world.specs.World.{space_of}
use Rattle.fs_world.specs.declared.form.Form.TheVariants.{Served as ServedForm}
use Rattle.fs_world.specs.declared.servers.world.Served.{Served}
use Rattle.fs_world.proofs.Fine.{AllFine}
use Rattle.fs_world.proofs.Numbered.{kept, number_of_one}
use Rattle.fs_world.proofs.Seen.{turned}
use Rattle.fs_world.proofs.Serial.{AllAsk}
use Rattle.fs_world.proofs.SerialLaws.{SerialLaws, timed}
use Rattle.fs_world.proofs.ServedHolds.{a_server, cluster_of}
use Rattle.fs_world.proofs.SessionSteps.{HoldsOf, parts_of}
use Rattle.fs_world.proofs.RepliesGiven.{among_replies}

-- ## The items of one actor

same_by : (s : Session) (p : Peer) → same_actor (Client s) p ≡ is_session s p
same_by s (Server k) = refl
same_by s (Client t) = turned s.0 t.0

same_filter : {X : Type 0} (p q : X → Bool) (xs : List X) → ((x : X) → p x ≡ q x) → filter p xs ≡ filter q xs
same_filter p q [] e = refl
same_filter p q (x ∷ xs) e =
    ap (λ b. cond b (x ∷ filter p xs) (filter p xs)) (e x) ∙ ap (λ ys. cond (q x) (x ∷ ys) ys) (same_filter p q xs e)

same_items : (s : Session) (journal : List Item) → items_of (Client s) journal ≡ items_by s journal
same_items s journal =
    same_filter (λ (i : Item). same_actor (Client s) i.by) (λ (i : Item). is_session s i.by) journal (λ i. same_by s i.by)

same_server : (k : ℕ) (p : Peer) → same_actor (Server k) p ≡ is_server k p
same_server k (Server j) = turned k j
same_server k (Client s) = refl

same_reaps : (k : ℕ) (journal : List Item) → items_of (Server k) journal ≡ items_at k journal
same_reaps k journal =
    same_filter (λ (i : Item). same_actor (Server k) i.by) (λ (i : Item). is_server k i.by) journal (λ i. same_server k i.by)

all_ask : (journal : List Item) → AllFine journal → AllAsk journal
all_ask [] h = tt
all_ask (i ∷ is) h = (h.0.asks, all_ask is h.1)

-- ## Numbers

numbered_from : (k : ℕ) (is : List Item) (next : ℕ) → AreNumbered k is next → AreNumberedFrom k is
numbered_from k [] next h = tt
numbered_from k (i ∷ is) next h = (h.0, numbered_from (k + 1) is next h.1)

numbered_front : (k : ℕ) (is more : List Item) → AreNumberedFrom k (is ++ more) → AreNumberedFrom k is
numbered_front k [] more h = tt
numbered_front k (i ∷ is) more h = (h.0, numbered_front (k + 1) is more h.1)

module _ (laws : SerialLaws) (count skew greatest : ℕ) (tale : Tale) (w : Served) (h : HoldsOf (timed laws) count skew greatest tale w)
    (some : 1 ≤ count) where
  abbrev seen : Cluster
  seen = cluster_of h.replied (parts_of w)

  server : (s : Core) × In s w.servers
  server = a_server w.servers (subst (λ (n : ℕ). 1 ≤ n) (sym h.many) some)

  holds : WorldHolds greatest (world_of server.0 seen)
  holds = let all : ClusterHolds skew greatest seen = h.cluster.all.holds in (all.parts server.0 server.1).0

  abbrev settled : Session → Settled
  settled s = settled_at s (ends_in seen s)

  -- the session's items, and behind them what is in its log
  told_numbered : (s : Session) → AreNumberedFrom 1 (all_items s w.journal (settled s).log)
  told_numbered s = numbered_from 1 (all_items s w.journal (settled s).log) (settled s).next (holds.all.sessions s).numbers

  numbered : (who : Peer) → AreNumberedFrom 1 (items_of who w.journal)
  numbered (Server k) =
      subst (AreNumberedFrom 1) (sym (same_reaps k w.journal)) (numbered_from 1 (items_at k w.journal) _ (holds.all.servers.reaped k))
  numbered (Client s) = subst (AreNumberedFrom 1) (sym (same_items s w.journal))
      (numbered_front 1 (items_by s w.journal) (map (item_of s) (settled s).log) (told_numbered s))

  -- the session's item of the journal is among those that it was told
  in_told : (s : Session) (i : Item) → In i w.journal → i.by ≡ Client s → In i (h.replied s)
  in_told s i there by =
      let own : is_session s i.by ≡ true = ap (is_session s) by ∙ itself s.0 in
      subst (In i) (holds.all.sessions s).replies (In-front i (items_by s w.journal) (map (item_of s) (settled s).log)
      (kept (λ (i : Item). is_session s i.by) w.journal i own there))

  agreeing : (t : ReplyGiven) (i : Item) → In t tale.told → In i w.journal → HasNumberOf i t → Agrees i t
  agreeing t i m there has =
      let s = t.session in
      let found = among_replies (ends_in seen) h.replied tale h.answered t m in
      let same : i ≡ found.0 = number_of_one 1 (h.replied s) i found.0
      (subst (AreNumberedFrom 1) (holds.all.sessions s).replies (told_numbered s)) (in_told s i there has.by) found.1 (has.n
      ∙ sym found.2.n) in
      subst (λ (x : Item). Agrees x t) (sym same) found.3

  pub served_serial : IsSerialRun first_space w.journal (space_of (ServedForm w))
  served_serial = subst (JournalSerial w.journal) (sym (held_same seen h.cluster.all.holds.led)) holds.all.servers.serial

  pub served_ordered : IsInSessionOrder w.journal tale.told
  served_ordered = record { numbered = numbered; agreeing = agreeing }

  pub served_asks : AllAsk w.journal
  served_asks = all_ask w.journal h.items

  -- what each session was told is what its items and its log have
  replied_is : h.replied ≡ replied_in w
  replied_is = fun_ext (λ x. sym (holds.all.sessions x).replies)

  pub served_parts : ServedHold skew greatest tale.told w
  served_parts = record {
    parts = subst (λ (replied : Session → List Item). ClusterStands skew greatest (seen_by replied w)) replied_is h.cluster.all;
    replies = λ x.
        subst (λ (is : List Item). IsTold x (ends_in seen x) is (told_to x tale.told))
        (sym (holds.all.sessions x).replies) (h.answered x).told;
  }
