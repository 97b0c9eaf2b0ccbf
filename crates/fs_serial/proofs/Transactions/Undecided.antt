-- A session whose operation is asked to be led, or is led and not decided yet.
use Rattle.std.proofs.Common.{◌≡◌, ◌==◌, ℕ, [], ◌∷◌, refl, sym, ap, ◌∙◌, subst, filter, inl}
use Rattle.std.specs.Prelude.{Some}
use Rattle.fs_ident.specs.In.{In}
use Rattle.fs_ident.specs.declared.actor.Session.{Session}
use Rattle.fs_ident.proofs.Passing.{found}
use Rattle.fs_ident.proofs.Same.{itself}
use Rattle.fs_ident.proofs.Standing.{In-behind, In-front, In-mapped}
use Rattle.fs_msg.specs.declared.client_msg.ClientMsg.{ClientMsg}
use Rattle.fs_msg.specs.declared.client_msg.ClientMsg.TheVariants.{Lead}
use Rattle.fs_msg.specs.declared.lead.Lead.{Lead as ToLead}
use Rattle.fs_client.specs.Led.{lead_of}
use Rattle.fs_client.specs.declared.led.Led.{Led as TheLed}
use Rattle.fs_server.specs.declared.event.ServerEvent.TheVariants.{FromClient}
use Rattle.fs_server.specs.declared.state.Server.{Server}
use Rattle.fs_txn.specs.declared.leading.Leading.{Leading}
use Rattle.fs_txn.proofs.Keys.{kept_in}
use Rattle.fs_serial.specs.Cluster.{Cluster, IsThere, is_with}
use Rattle.fs_serial.specs.Exchange.{IsToBeLed}
use Rattle.fs_serial.specs.Led.{LedStands}
use Rattle.fs_serial.specs.Owed.{ends_in, question_of, taken_at, taken_leads}
use Rattle.fs_serial.specs.World.{Ends, World, WorldHolds, settled_at, sight_in}
use Rattle.fs_serial.specs.Seen.{ClusterHolds, world_of}
use Rattle.fs_serial.proofs.LedOperations.LedSteps.{led_is, led_stands, to_lead}
use Rattle.fs_serial.proofs.Lists.Traffic.{messages}
use Rattle.fs_serial.proofs.OneServer.ServerEvents.{one_up}
use Rattle.fs_serial.proofs.Transactions.Tables.{In_all}

module _ (skew greatest : ℕ) (c : Cluster) (s : Server) (i : In s c.servers) (h : ClusterHolds skew greatest c) (by : Session) where
  abbrev w : World
  w = world_of s c

  abbrev e : Ends
  e = ends_in c by

  holds : WorldHolds greatest w
  holds = (h.parts s i).0

  -- what it asks is all that is on its way
  one : (m : ToLead) → In (Lead m) e.up → e.up ≡ Lead m ∷ []
  one m j = one_up e.client e.client.exchange e.up e.down (Lead m) j (holds.exchanges by).one

  pub up_asked : (k : ℕ) (m : ToLead) → IsThere k (FromClient by (Lead m)) c → e.up ≡ Lead m ∷ []
  up_asked k m there = one m
      (In-front (Lead m) (messages (c.lines by).up) (taken_leads by e.client.led c.servers)
      (In-mapped (λ (n : ℕ × ClientMsg). n.1) (k, Lead m) (c.lines by).up (found (is_with k) (c.lines by).up (k, Lead m) there).0))

  pub up_led : (t : Server) → In t c.servers → (l : Leading) → In l t.leading → l.leader.session ≡ by → (d : TheLed)
      → (c.lines by).client.led ≡ Some d → e.up ≡ Lead (lead_of d) ∷ []
  up_led t j l among own d led =
      let test = λ (m : Leading). m.leader.session.0 == by.0 in
      let kept : In l (filter test t.leading) = kept_in test l t.leading among (ap (λ (z : Session). z.0 == by.0) own ∙ itself by.0) in
      let taken : In (Lead (lead_of d)) (taken_at by (Some d) t) =
      In_all (λ (m : Leading). question_of (Some d)) (Lead (lead_of d)) l (filter test t.leading) kept (inl refl) in
      let all : In (Lead (lead_of d)) (taken_leads by (Some d) c.servers) =
      In_all (taken_at by (Some d)) (Lead (lead_of d)) t c.servers j taken in
      one (lead_of d) (In-behind (Lead (lead_of d)) (messages (c.lines by).up) (taken_leads by e.client.led c.servers)
      (subst (λ o. In (Lead (lead_of d)) (taken_leads by o c.servers)) (sym led) all))

  module _ (m : ToLead) (up : e.up ≡ Lead m ∷ []) (d : TheLed) (led : (c.lines by).client.led ≡ Some d) where
    abbrev asked : IsToBeLed e.client.led m
    asked = to_lead greatest w by m up holds

    it : asked.led ≡ d
    it = let both : Some asked.led ≡ Some d = sym asked.is ∙ led in cc

    pub asked_as : m ≡ lead_of d
    asked_as = asked.told ∙ ap lead_of it

    pub settled_led : (settled_at by e).led ≡ Some d
    settled_led = led_is greatest w by m up holds ∙ ap Some it

    pub stands : LedStands skew greatest (sight_in w) by (settled_at by e) d
    stands =
        subst (λ n. LedStands n greatest (sight_in w) by (settled_at by e) d) (h.skewed s i)
        (subst (LedStands s.skew greatest (sight_in w) by (settled_at by e)) it (led_stands greatest w by m up holds))
