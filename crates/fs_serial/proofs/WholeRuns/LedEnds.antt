-- What a session asks and is owed stays as it was while its operation is led: its question comes and is not taken before it is decided.
use Rattle.std.proofs.Common.{◌≡◌, ℕ, ◌+◌, ◌==◌, ◌≤◌, not, Bool, true, false, List, [], ◌∷◌, ◌++◌}
use Rattle.std.proofs.Common.{length, filter, cond, refl, sym, ap, ap₂, ◌∙◌, subst, append-nil, inl, arith}
use Rattle.std.specs.Prelude.{Option, Some, None, slice_get, slice_set}
use Rattle.std.specs.List.{flat_map}
use Rattle.std.proofs.lemmas.Grind.{flat_map-append}
use Rattle.std.proofs.lemmas.List.Elements.{filter-append}
use Rattle.fs_ident.specs.In.{In}
use Rattle.fs_ident.specs.declared.actor.Session.{Session}
use Rattle.fs_ident.proofs.Same.{itself, one_session}
use Rattle.fs_ident.proofs.Standing.{In-got}
use Rattle.fs_field.specs.Table.{same_txn}
use Rattle.fs_msg.specs.declared.answer.Answer.{Answer}
use Rattle.fs_msg.specs.declared.client_msg.ClientMsg.{ClientMsg}
use Rattle.fs_msg.specs.declared.client_msg.ClientMsg.TheVariants.{Lead}
use Rattle.fs_msg.specs.declared.lead.Lead.{Lead as ToLead}
use Rattle.fs_client.specs.Led.{lead_of}
use Rattle.fs_client.specs.declared.led.Led.{Led}
use Rattle.fs_client.specs.declared.state.Client.{Client}
use Rattle.fs_server.specs.Begins.{txn_of}
use Rattle.fs_server.specs.declared.event.ServerEvent.{ServerEvent}
use Rattle.fs_server.specs.declared.event.ServerEvent.TheVariants.{FromClient}
use Rattle.fs_server.specs.declared.state.Server.{Server}
use Rattle.fs_txn.specs.Deciding.{decision}
use Rattle.fs_txn.specs.Leading.{with_leading, without_leading}
use Rattle.fs_txn.specs.Votes.{Votes}
use Rattle.fs_txn.specs.declared.decision.Decision.{Decision}
use Rattle.fs_txn.specs.declared.leading.Leading.{Leading}
use Rattle.fs_txn.proofs.Keys.{txn_is}
use Rattle.fs_serial.specs.Cluster.{Cluster, IsThere, Lines, without_question}
use Rattle.fs_serial.specs.Exchange.{IsToBeLed}
use Rattle.fs_serial.specs.Owed.{ends_in, ends_with, question_of, taken_at, taken_leads}
use Rattle.fs_serial.specs.World.{Ends}
use Rattle.fs_serial.specs.World as world
use Rattle.fs_serial.specs.Seen.{ClusterHolds}
use Rattle.fs_serial.proofs.Lists.EachAt.{each_alone, each_none, each_same, nothing_of}
use Rattle.fs_serial.proofs.Lists.Traffic.{messages}
use Rattle.fs_serial.proofs.Transactions.OneOwner.{some_there}
use Rattle.fs_serial.proofs.Transactions.OthersKeep.{taken_client}
use Rattle.fs_serial.proofs.Transactions.SeenMeanwhile.{meanwhile_taken, owed_same}
use Rattle.fs_serial.proofs.Transactions.StandsAfter.{ones}
use Rattle.fs_serial.proofs.Transactions.Tables.{all_stay}
use Rattle.fs_serial.proofs.Transactions.ToldOrOwed as session
use Rattle.fs_serial.proofs.Transactions.Undecided.{up_asked}

abbrev ends : Client → List ClientMsg → List Answer → Ends
ends c up down = record { client = c; up = up; down = down }

-- ## A transaction of the server has other votes

module _ (k skew greatest : ℕ) (c : Cluster) (s : Server) (at : slice_get c.servers k ≡ Some s) (h : ClusterHolds skew greatest c)
    (l : Leading) (there : In l s.leading) (votes : Votes) (places : List ℕ) where
  abbrev d : Decision
  d = decision l.leader None

  abbrev by : Session
  by = l.leader.session

  abbrev new : Leading
  new = record { leader = record l.leader { votes = votes }; at = places }

  abbrev m : Led
  m = session.m k skew greatest c s at h l there d

  abbrev asks : ClientMsg
  asks = Lead (lead_of m)

  led_is : (c.lines by).client.led ≡ Some m
  led_is = session.led_is k skew greatest c s at h l there d

  module _ (t : Server) (leads : t.leading ≡ with_leading new s.leading) (ending : t.ending ≡ s.ending) where
    abbrev servers : List Server
    servers = slice_set c.servers k t

    few : length (taken_leads by (Some m) c.servers) ≤ length (taken_at by (Some m) s)
    few =
        let some : 1 ≤ length (taken_at by (Some m) s) =
        some_there asks (taken_at by (Some m) s) (session.taken_here k skew greatest c s at h l there d) in
        let all : length (taken_leads by (c.lines by).client.led c.servers) ≡ length (taken_leads by (Some m) c.servers) =
        ap (λ o. length (taken_leads by o c.servers)) led_is in
        let counted : length (messages (c.lines by).up) + length (taken_leads by (c.lines by).client.led c.servers) ≡ 1 =
        session.counted k skew greatest c s at h l there d in
        omega (arith, counted, some, all)

    its_taken : taken_leads by (c.lines by).client.led servers ≡ asks ∷ []
    its_taken =
        ap (λ o. taken_leads by o servers) led_is
        ∙ each_alone (taken_at by (Some m)) c.servers k s t at few
        ∙ ap (λ (ls : List Leading). flat_map (λ (z : Leading). question_of (Some m))
        (filter (λ (z : Leading). z.leader.session.0 == by.0) ls)) leads
        ∙ ap (λ (ls : List Leading). flat_map (λ (z : Leading). question_of (Some m)) ls)
        (filter-append (λ (z : Leading). z.leader.session.0 == by.0) (without_leading l.leader.txn s.leading) (new ∷ [])
        ∙ ap₂ (λ (xs ys : List Leading). xs ++ ys) (session.none_left k skew greatest c s at h l there d)
        (ap (λ b. cond b (new ∷ []) []) (itself by.0)))

    own_still : ends_with by servers (c.lines by) ≡ ends_in c by
    own_still =
        ap₂ (λ us os. ends (c.lines by).client us (os ++ messages (c.lines by).down))
        (ap₂ (λ (us ts : List ClientMsg). us ++ ts) (session.asks_no_more k skew greatest c s at h l there d) its_taken
        ∙ sym (session.its_up k skew greatest c s at h l there d))
        (owed_same c.servers k s t at ending by)

    others_taken : (y : Session) → (by.0 == y.0) ≡ false → (led : Option Led) → taken_leads y led servers ≡ taken_leads y led c.servers
    others_taken y off led = each_same (taken_at y led) c.servers k s t at
        (ap (λ (ls : List Leading). flat_map (λ (z : Leading). question_of led)
        (filter (λ (z : Leading). z.leader.session.0 == y.0) ls)) leads
        ∙ ap (λ (ls : List Leading). flat_map (λ (z : Leading). question_of led) ls)
        (filter-append (λ (z : Leading). z.leader.session.0 == y.0) (without_leading l.leader.txn s.leading) (new ∷ [])
        ∙ ap₂ (λ (xs ys : List Leading). xs ++ ys) (session.others_led k skew greatest c s at h l there d y off)
        (ap (λ b. cond b (new ∷ []) []) off)
        ∙ append-nil (filter (λ (z : Leading). z.leader.session.0 == y.0) s.leading)))

    pub asked_still : (y : Session) → ends_with y servers (c.lines y) ≡ ends_in c y
    asked_still y = by_test (by.0 == y.0) refl
      where
        by_test : (b : Bool) → (by.0 == y.0) ≡ b → ends_with y servers (c.lines y) ≡ ends_in c y
        by_test true e = subst (λ z. ends_with z servers (c.lines z) ≡ ends_in c z) (one_session by y e) own_still
        by_test false e =
            ap₂ (λ us os. ends (c.lines y).client (messages (c.lines y).up ++ us) (os ++ messages (c.lines y).down))
            (others_taken y e (c.lines y).client.led) (owed_same c.servers k s t at ending y)

-- ## A transaction begins

module _ (k skew greatest : ℕ) (c : Cluster) (s : Server) (at : slice_get c.servers k ≡ Some s) (h : ClusterHolds skew greatest c)
    (by : Session) (m : ToLead) (comes : IsThere k (FromClient by (Lead m)) c) (new : Leading) (its : new.leader.session ≡ by)
    (txn : new.leader.txn ≡ txn_of s) (t : Server) (leads : t.leading ≡ with_leading new s.leading) (ending : t.ending ≡ s.ending) where
  abbrev e : ServerEvent
  e = FromClient by (Lead m)

  abbrev lines : Session → Lines
  lines = without_question k e c.lines

  abbrev then : List Server
  then = slice_set c.servers k t

  here : In s c.servers
  here = In-got c.servers k s at

  -- it is new
  without_same : without_leading new.leader.txn s.leading ≡ s.leading
  without_same = all_stay (λ (z : Leading). not (same_txn z.leader.txn new.leader.txn)) s.leading
      (λ z i. ap not (off z i (same_txn z.leader.txn new.leader.txn) refl))
    where
      off : (z : Leading) → In z s.leading → (b : Bool) → same_txn z.leader.txn new.leader.txn ≡ b → b ≡ false
      off z i true q =
          let begun : z.leader.txn.count ≤ s.txns = (h.led.leading s here z i).begun in
          let count : z.leader.txn.count ≡ s.txns + 1 = ap (λ u. u.count) (txn_is z.leader.txn new.leader.txn q ∙ txn) in
          absurd (omega (arith, begun, count))
      off z i false q = refl

  one_more : (y : Session) → filter (λ (z : Leading). z.leader.session.0 == y.0) t.leading
      ≡ filter (λ (z : Leading). z.leader.session.0 == y.0) s.leading ++ cond (by.0 == y.0) (new ∷ []) []
  one_more y =
      ap (filter (λ (z : Leading). z.leader.session.0 == y.0)) (leads ∙ ap (λ ls. ls ++ new ∷ []) without_same)
      ∙ filter-append (λ (z : Leading). z.leader.session.0 == y.0) s.leading (new ∷ [])
      ∙ ap (λ (x : Session). filter (λ (z : Leading). z.leader.session.0 == y.0) s.leading ++ cond (x.0 == y.0) (new ∷ []) []) its

  taken_more : (y : Session) (led : Option Led)
      → taken_at y led t ≡ taken_at y led s ++ cond (by.0 == y.0) (question_of led ++ []) []
  taken_more y led =
      ap (flat_map (λ (z : Leading). question_of led)) (one_more y)
      ∙ flat_map-append (λ (z : Leading). question_of led) (filter (λ (z : Leading). z.leader.session.0 == y.0) s.leading)
      (cond (by.0 == y.0) (new ∷ []) [])
      ∙ ap (λ qs. taken_at y led s ++ qs) (new_one (by.0 == y.0))
    where
      new_one : (b : Bool) → flat_map (λ (z : Leading). question_of led) (cond b (new ∷ []) []) ≡ cond b (question_of led ++ []) []
      new_one true = refl
      new_one false = refl

  taken_is : (y : Session) → ends_with y c.servers (lines y) ≡ world.without_taken e (ends_in c) y
  taken_is = meanwhile_taken k e c comes (ones skew greatest k c s at h)

  question_gone : ends_with by c.servers (lines by) ≡ ends (c.lines by).client [] (ends_in c by).down
  question_gone = taken_is by
      ∙ ap (λ b. cond b (let z : Ends = record (ends_in c by) { up = [] } in z) (ends_in c by)) (itself by.0)

  none : (messages (lines by).up ≡ []) × (taken_leads by (lines by).client.led c.servers ≡ [])
  none = nothing_of (messages (lines by).up) (taken_leads by (lines by).client.led c.servers) (ap (λ (z : Ends). z.up) question_gone)

  asked : IsToBeLed (c.lines by).client.led m
  asked = ((h.parts s here).0.exchanges by).leads m
      (subst (In (Lead m)) (sym (up_asked skew greatest c s here h by k m comes)) (inl refl))

  question : question_of (lines by).client.led ++ [] ≡ Lead m ∷ []
  question =
      ap (λ o. question_of o ++ []) (ap (λ (x : Client). x.led) (taken_client k e c.lines by) ∙ asked.is)
      ∙ ap (λ (x : ToLead). Lead x ∷ []) (sym asked.told)

  own_then : ends_with by then (lines by) ≡ ends_in c by
  own_then =
      ap₂ (λ us os. ends (lines by).client us (os ++ messages (lines by).down))
      (ap₂ (λ (us ts : List ClientMsg). us ++ ts) none.0
      (each_alone (taken_at by (lines by).client.led) c.servers k s t at
      (let few : length (taken_leads by (lines by).client.led c.servers) ≡ 0 = ap length none.1 in omega (arith, few))
      ∙ taken_more by (lines by).client.led
      ∙ ap₂ (λ (xs ys : List ClientMsg). xs ++ ys) (each_none (taken_at by (lines by).client.led) c.servers k s at none.1)
      (ap (λ b. cond b (question_of (lines by).client.led ++ []) []) (itself by.0) ∙ question)))
      (owed_same c.servers k s t at ending by)
      ∙ ap (λ (z : Ends). ends z.client (Lead m ∷ []) z.down) question_gone
      ∙ ap (λ us. ends (c.lines by).client us (ends_in c by).down) (sym (up_asked skew greatest c s here h by k m comes))

  pub asked_then : (y : Session) → ends_with y then (lines y) ≡ ends_in c y
  asked_then y = by_test (by.0 == y.0) refl
    where
      by_test : (b : Bool) → (by.0 == y.0) ≡ b → ends_with y then (lines y) ≡ ends_in c y
      by_test true q = subst (λ z. ends_with z then (lines z) ≡ ends_in c z) (one_session by y q) own_then
      by_test false q =
          ap₂ (λ us os. ends (lines y).client (messages (lines y).up ++ us) (os ++ messages (lines y).down))
          (each_same (taken_at y (lines y).client.led) c.servers k s t at (taken_more y (lines y).client.led
          ∙ ap (λ b. taken_at y (lines y).client.led s ++ cond b (question_of (lines y).client.led ++ []) []) q
          ∙ append-nil (taken_at y (lines y).client.led s)))
          (owed_same c.servers k s t at ending y)
          ∙ taken_is y
          ∙ ap (λ b. cond b (let z : Ends = record (ends_in c y) { up = [] } in z) (ends_in c y)) q
