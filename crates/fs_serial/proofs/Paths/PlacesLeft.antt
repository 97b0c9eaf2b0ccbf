-- Every event of a server that has all, but a question to lead, leaves the places as they are for which effects are on their way.
use Rattle.std.proofs.Common.{◌≡◌, ◌==◌, ◌∙◌, ℕ, Bool, true, false, List, [], ◌∷◌, ◌++◌, append-nil, cond, refl, sym, ap, subst}
use Rattle.std.specs.Prelude.{Option, Some, None}
use Rattle.std.specs.FinMap.{get}
use Rattle.fs_ident.specs.In.{In}
use Rattle.fs_ident.specs.declared.actor.LeaseNo.{LeaseNo}
use Rattle.fs_ident.specs.declared.actor.Session.{Session}
use Rattle.fs_ident.proofs.Standing.{In-map}
use Rattle.fs_field.specs.Table.{borne_numbers}
use Rattle.fs_field.specs.declared.effect.Effect.{Effect}
use Rattle.fs_field.specs.declared.effect.Effect.TheVariants.{RemoveHandle}
use Rattle.fs_field.specs.declared.field.Field.{Field}
use Rattle.fs_field.specs.declared.lease_kind.LeaseKind.{LeaseKind}
use Rattle.fs_modes.specs.declared.modes.Modes.{Modes}
use Rattle.fs_msg.specs.declared.client_msg.ClientMsg.{ClientMsg}
use Rattle.fs_msg.specs.declared.client_msg.ClientMsg.TheVariants.{Ask, Renew, Release, Ship, Lead}
use Rattle.fs_msg.specs.declared.end.End.{End}
use Rattle.fs_msg.specs.declared.end.End.TheVariants as end
use Rattle.fs_msg.specs.declared.entry.Entry.{Entry}
use Rattle.fs_msg.specs.declared.item.Item.{Item}
use Rattle.fs_record.specs.Effects.{effects_of, reap_effects}
use Rattle.fs_record.specs.Fresh.{fresh_number, is_directory}
use Rattle.fs_record.specs.Records.{node_of}
use Rattle.fs_record.specs.ValueOf.{handles_of, own_of}
use Rattle.fs_server.specs.Asks.{Asking, ask_fresh, ask_from, asked_in, fresh_for, fresh_in, fresh_of}
use Rattle.fs_server.specs.Reaps.{reap_from, turn_over, with_reap}
use Rattle.fs_server.specs.Server.{is_mine, moved, strange}
use Rattle.fs_server.specs.Ships.{first_gone, ship_from, shipped, with_entry}
use Rattle.fs_server.specs.Step.{event_step}
use Rattle.fs_server.specs.declared.event.ServerEvent.TheVariants as event
use Rattle.fs_server.specs.declared.state.Server.{Server}
use Rattle.fs_server.proofs.OneByOne.{Lapsed, asks_leave, each_entry, each_lapsed}
use Rattle.fs_txn.specs.Grants.{Decided}
use Rattle.fs_serial.specs.Decided.{AllDecidedStand, DecidedFits}
use Rattle.fs_serial.specs.Parts.{with_client}
use Rattle.fs_serial.specs.Settled.{Settled, acknowledged}
use Rattle.fs_serial.specs.Sight.{Counts, seen, sight_with}
use Rattle.fs_serial.specs.Steps.{IsAdmitted}
use Rattle.fs_serial.specs.World.{Ends, GoesOn, IsOther, World, WorldHolds, settled_at, sight_in}
use Rattle.fs_serial.proofs.Admission.ShipLoop.{admitted_apart, admitted_then}
use Rattle.fs_serial.proofs.ClientMessages.Sending.{goes_of}
use Rattle.fs_serial.proofs.DecidedEffects.AdmitPast.{IsInside}
use Rattle.fs_serial.proofs.DecidedEffects.Owing.{others_in}
use Rattle.fs_serial.proofs.Grants.GiftedRecords.{node_stays}
use Rattle.fs_serial.proofs.OneServer.ServerEvents.{all_plain}
use Rattle.fs_serial.proofs.OtherSessions.ClientChanges.{client_same}
use Rattle.fs_serial.proofs.OtherSessions.Together.{its_client}
use Rattle.fs_serial.proofs.Paths.KeptPlaces.{PlaceLeft, apart_left, inside_left, left_alike, left_then, same_nodes}

-- for each of these the place is left
abbrev pub AllLeft : List Decided → Server → Server → Type 0
AllLeft ds s t = (d : Decided) → In d ds → PlaceLeft s.records t.records d.effect

-- ## A question for leases

abbrev SameNodes : Server → Server → Type 0
SameNodes s t = (f : List ℕ) → node_of (get t.records f) ≡ node_of (get s.records f)

fresh_nodes : (by : Session) (dir : List ℕ) (o : Option ℕ) (a : Asking) → SameNodes a.server (fresh_of by dir o a).server
fresh_nodes by dir None a = λ f. refl
fresh_nodes by dir (Some n) a = node_stays a.server.records dir n

dir_nodes : (by : Session) (dir : List ℕ) (b : Bool) (a : Asking) → SameNodes a.server (fresh_in by dir b a).server
dir_nodes by dir true a = fresh_nodes by dir (fresh_number a.server.records dir (borne_numbers dir a.server.rows)) a
dir_nodes by dir false a = λ f. refl

for_nodes : (by : Session) (dir : Option (List ℕ)) (a : Asking) → SameNodes a.server (fresh_for by dir a).server
for_nodes by None a = λ f. refl
for_nodes by (Some dir) a = elim (is_mine a.server dir) as
    (λ b. SameNodes a.server (let z : Asking = cond b (fresh_in by dir (is_directory a.server.records dir) a)
    (record a { end = moved a.server dir }) in z).server) [
      | true ↦ dir_nodes by dir (is_directory a.server.records dir) a
      | false ↦ λ f. refl
    ]

end_nodes : (by : Session) (dir : Option (List ℕ)) (e : End) (a : Asking) → SameNodes a.server (ask_fresh by dir e a).server
end_nodes by dir end.All a = for_nodes by dir a
end_nodes by dir e a = λ f. refl

ask_nodes : (by : Session) (items : List (Field × LeaseKind)) (dir : Option (List ℕ)) (s : Server)
    → SameNodes s (asked_in by items dir s).server
ask_nodes by items dir s f =
    let a : Asking = ask_from by items s [] in
    end_nodes by dir a.end a f ∙ ap (λ (t : Server). node_of (get t.records f)) (asks_leave by items s [])

-- ## A log

module _ (o : Counts) (skew greatest : ℕ) (journal : List Item) (replied : Session → List Item) (ends : Session → Ends)
    (base : Session → Settled) (by : Session) (ds : List Decided) (others : (x : Decided) → In x ds → (x.by.0 == by.0) ≡ false) where
  -- where it goes on
  abbrev GoesOnFrom : Server → List Item → Settled → Type 0
  GoesOnFrom s admitted d =
      AllDecidedStand ds s (journal ++ admitted)
      × GoesOn skew greatest (sight_with o ds s (journal ++ admitted)) replied ends (with_client by d base)

  entry_left : (e : Entry) (rest : List Entry) (s : Server) (admitted : List Item) (d : Settled) → d.log ≡ e ∷ rest → d.over ≡ None
      → first_gone s.rows by e.uses ≡ None → GoesOnFrom s admitted d → AllLeft ds s (with_entry by e s)
  entry_left e rest s admitted d log over found h z i =
      let is : IsAdmitted (seen ds s) by (with_client by d base by) e =
      subst (λ c. IsAdmitted (seen ds s) by c e) (sym (its_client by d base))
      (record { rest = rest; log = log; going = over; found = found }) in
      apart_left s.records z.effect (effects_of by e.op e.reply)
      (λ x j. admitted_apart o skew greatest journal replied ends base by ds others e s (journal ++ admitted) d is h.0 h.1 z i x j)

  all_left : (es : List Entry) (s : Server) (admitted : List Item) (rest : List Entry) (d : Settled) → d.log ≡ es ++ rest → d.over ≡ None
      → GoesOnFrom s admitted d → AllLeft ds s (ship_from by es s admitted).server
  all_left = each_entry by (λ es s admitted x. (rest : List Entry) (d : Settled) → d.log ≡ es ++ rest → d.over ≡ None
      → GoesOnFrom s admitted d → AllLeft ds s x.server)
      (λ s admitted rest d log over h z i. left_alike s.records s.records z.effect refl)
      (λ e es s admitted x mine none p rest d log over h z i.
      let q = admitted_then o skew greatest journal replied ends base by ds others e es rest s admitted d log over none h.0 h.1 in
      left_then s.records (with_entry by e s).records x.server.records z.effect (entry_left e (es ++ rest) s admitted d log over none h z i)
      (p rest (acknowledged by (e ∷ (es ++ rest)) d) refl over (q.0, q.1) z i))
      (λ e es s admitted at gaps why rest d log over h z i. left_alike s.records s.records z.effect refl)

module _ (greatest : ℕ) (w : World) (by : Session) (h : WorldHolds greatest w) (f : DecidedFits w) where
  abbrev s : Server
  s = w.server

  abbrev base : Session → Settled
  base x = settled_at x (w.ends x)

  shipped_left : (entries : List Entry) → In (Ship entries) (w.ends by).up → AllLeft w.decided s (ship_from by entries s []).server
  shipped_left entries there =
      let front = (h.exchanges by).front entries there in
      let d : Settled = base by in
      let start : GoesOn s.skew greatest (sight_with w.counts w.decided s (w.journal ++ [])) w.replied w.ends (with_client by d base) =
      subst (λ js. GoesOn s.skew greatest (sight_with w.counts w.decided s js) w.replied w.ends (with_client by d base))
      (sym (append-nil w.journal))
      (subst (λ k. GoesOn s.skew greatest (sight_in w) w.replied w.ends k) (sym (client_same by base)) (goes_of greatest w h)) in
      let under : AllDecidedStand w.decided s (w.journal ++ []) =
      subst (AllDecidedStand w.decided s) (sym (append-nil w.journal)) f.all in
      all_left w.counts s.skew greatest w.journal w.replied w.ends base by w.decided
      (others_in greatest w by (Ship entries) there h f) entries s [] front.rest d front.log front.over (under, start)

  message_left : (m : ClientMsg) → IsOther (event.FromClient by m) → In m (w.ends by).up
      → AllLeft w.decided s (event_step (event.FromClient by m) s).server
  message_left (Ask items dir) other there z i =
      same_nodes s.records (asked_in by items dir s).server.records z.effect (ask_nodes by items dir s)
  message_left (Renew pairs) other there z i = left_alike s.records s.records z.effect refl
  message_left (Release pairs) other there z i = left_alike s.records s.records z.effect refl
  message_left (Ship entries) other there z i =
      subst (λ b. PlaceLeft s.records (cond b (shipped by (ship_from by entries s [])) (strange s)).server.records z.effect)
      (sym (all_plain greatest w by entries there h)) (shipped_left entries there z i)
  message_left (Lead m) other there z i = absurd other

pub asked_left : (greatest : ℕ) (w : World) (by : Session) (m : ClientMsg) → WorldHolds greatest w → DecidedFits w
    → IsOther (event.FromClient by m) → In m (w.ends by).up
    → AllLeft w.decided w.server (event_step (event.FromClient by m) w.server).server
asked_left greatest w by m h f = message_left greatest w by h f m

-- ## A turn

reap_inside : (s : Server) (file : List ℕ) (by : Session) (e : Effect) → In e (reap_effects s.records file by) → IsInside e
reap_inside s file by e i =
    let q = In-map (λ (h : ℕ × Modes). RemoveHandle file by h.0) e (own_of by (handles_of (node_of (get s.records file)))) i in
    subst IsInside (sym q.1.1) tt

reaps_left : (ds : List Decided) (xs : Lapsed) (s : Server) (admitted : List Item) (blockers : List LeaseNo)
    → AllLeft ds s (reap_from xs s admitted blockers).server
reaps_left ds = each_lapsed (λ xs s admitted blockers r. AllLeft ds s r.server)
    (λ s admitted blockers z i. left_alike s.records s.records z.effect refl)
    (λ f x xs s admitted blockers r free p z i.
    left_then s.records (with_reap f x s).records r.server.records z.effect
    (inside_left s.records z.effect (reap_effects s.records f x) (reap_inside s f x)) (p z i))
    (λ f x xs s admitted blockers r number held p. p)

pub turn_left : (ds : List Decided) (xs : Lapsed) (s : Server) → AllLeft ds s (turn_over xs s).server
turn_left ds [] s z i = left_alike s.records s.records z.effect refl
turn_left ds (x ∷ xs) s z i = reaps_left ds (x ∷ xs) s [] [] z i
