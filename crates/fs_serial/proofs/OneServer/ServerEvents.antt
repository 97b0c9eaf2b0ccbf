-- The server's events keep all that holds.
use Rattle.std.proofs.Common.{◌≡◌, ℕ, ◌≤◌, ◌&&◌, true, false, List, [], ◌∷◌, ◌++◌, length, map, take, append-nil, cond, refl, sym, ap, ◌∙◌, subst, inl, inr, arith}
use Rattle.std.specs.Prelude.{Option, Some, None, nat_le}
use Rattle.std.specs.Cmp.{nat_eq_equiv}
use Rattle.std.specs.List.{list_all}
use Rattle.std.proofs.lemmas.Bool.Decides.{nat_tests}
use Rattle.fs_ident.specs.In.{In}
use Rattle.fs_ident.specs.declared.actor.LeaseNo.{LeaseNo}
use Rattle.fs_ident.specs.declared.actor.Session.{Session}
use Rattle.fs_ident.proofs.Booleans.{joined}
use Rattle.std.proofs.Math.Seq.{take-append_seam}
use Rattle.fs_ident.proofs.Standing.{In-front}
use Rattle.fs_field.specs.declared.field.Field.{Field}
use Rattle.fs_field.specs.declared.lease_kind.LeaseKind.{LeaseKind}
use Rattle.fs_field.specs.declared.row.Row.{Row}
use Rattle.fs_field.proofs.SameNo.{same_no_self}
use Rattle.fs_msg.specs.declared.answer.Answer.{Answer}
use Rattle.fs_msg.specs.declared.answer.Answer.TheVariants.{Granted, Renewed, Released, Shipped}
use Rattle.fs_msg.specs.declared.answer.Grant.{Grant}
use Rattle.fs_msg.specs.declared.client_msg.ClientMsg.{ClientMsg}
use Rattle.fs_msg.specs.declared.client_msg.ClientMsg.TheVariants.{Ask, Renew, Release, Ship, Lead}
use Rattle.fs_msg.specs.declared.end.End.{End}
use Rattle.fs_msg.specs.declared.entry.Entry.{Entry}
use Rattle.fs_record.specs.Effects.{tells_its_effects}
use Rattle.fs_server.specs.Asks.{answered, asked_in, recalls_at}
use Rattle.fs_server.specs.Pairs.{ends_told, numbers_in, pairs_end, pairs_here, released_rows, renewed_rows}
use Rattle.fs_server.specs.Server.{Stepped, end_of, is_mine, strange}
use Rattle.fs_server.specs.Ships.{ship_from, ship_step, shipped}
use Rattle.fs_server.specs.Step.{event_step, message_step, recalled_on}
use Rattle.fs_server.specs.declared.event.ServerEvent.{ServerEvent}
use Rattle.fs_server.specs.declared.event.ServerEvent.TheVariants as event
use Rattle.fs_server.specs.declared.state.Server.{Server}
use Rattle.fs_client.specs.Answers.{answer_fits, begins_numbers, fresh_fits, grants_fit, over_after, refusal_fits}
use Rattle.fs_view.specs.declared.view_lease.ViewLease.{ViewLease}
use Rattle.fs_client.specs.declared.exchange.Exchange.{Exchange}
use Rattle.fs_client.specs.declared.exchange.Exchange.TheVariants.{Asks, Renews, Releases, Ships, Leads}
use Rattle.fs_client.specs.declared.state.Client.{Client}
use Rattle.fs_serial.specs.Decided.{AllDecidedStand, DecidedFits, EventGoesPast, WorldStands}
use Rattle.fs_serial.specs.Exchange.{IsQuestion, IsReturned, OneExchange, ReleasesReturned, server_of_question}
use Rattle.fs_serial.specs.Parts.{with_client}
use Rattle.fs_serial.specs.Settled.{Settled, acknowledged_all, settled_now, told, with_over}
use Rattle.fs_serial.specs.Sight.{Sight, sight_with}
use Rattle.fs_serial.specs.World.{Ends, GoesOn, IsThere, after_begun, World, WorldHolds, settled_at, sight_in, with_answer, with_sent, without_question}
use Rattle.fs_serial.proofs.OtherSessions.ClientChanges.{client_same}
use Rattle.fs_serial.proofs.Grants.Asks as asks
use Rattle.fs_serial.proofs.Lists.Counting.{given_by}
use Rattle.fs_serial.proofs.DecidedEffects.GuardRows.{released_locks, renewed_locks, stand_rows}
use Rattle.fs_serial.proofs.Returns.LaterSteps.{released_later, renewed_later}
use Rattle.fs_serial.proofs.DecidedEffects.Owing.{answered_owed, fits_then, others_in, sent_owed}
use Rattle.fs_serial.proofs.Returns.PairLoops.{ends_backed, rows_released, rows_renewed}
use Rattle.fs_serial.proofs.ClientMessages.SessionStates.{settled_none}
use Rattle.fs_serial.proofs.ClientMessages.Sending.{asked, goes_of, recall_all, recall_with, world_all_recalled, world_answered}
use Rattle.fs_serial.proofs.Admission.ShipLoop.{IsShipped, shipped_still}
use Rattle.fs_serial.proofs.OneServer.ServerSame.{asked_same, ships_same}
use Rattle.fs_serial.proofs.Returns.ServerTurn.{turn_keeps}
use Rattle.fs_serial.specs.World.{IsOther}

-- ## Questions for leases

ask_fits : (x : Exchange) (c : Client) (items : List (Field × LeaseKind)) (dir : Option (List ℕ)) (grants : List Grant) (given : Option (List ℕ)) (e : End) → IsQuestion x (Ask items dir) → (fresh_fits dir given && grants_fit items given c.view.leases grants) ≡ true
    → answer_fits (server_of_question x) x (Granted grants given e) c ≡ true
ask_fits (Asks to items2 dir2) c items dir grants given e q h =
    let i : items ≡ items2 = cc in
    let d : dir ≡ dir2 = cc in
    joined _ _ (nat_eq_equiv.refl to) (subst (λ o. (fresh_fits o given && grants_fit items2 given c.view.leases grants) ≡ true) d (subst (λ is. (fresh_fits dir given && grants_fit is given c.view.leases grants) ≡ true) i h))
ask_fits (Renews to numbers) c items dir grants given e q h = absurd q
ask_fits (Releases to numbers) c items dir grants given e q h = absurd q
ask_fits (Ships to count) c items dir grants given e q h = absurd q
ask_fits (Leads to) c items dir grants given e q h = absurd q

at_most : (a b : ℕ) → a ≤ b → nat_le a b ≡ true
at_most a b h = grind (arith, nat_tests)

-- ## The pairs up to the first that is with another server

pub here_among : (s : Server) (pairs : List (List ℕ × LeaseNo)) (n : LeaseNo) → In n (numbers_in (pairs_here s pairs)) → In n (numbers_in pairs)
here_among s [] n i = i
here_among s (p ∷ ps) n i = elim (is_mine s p.0) as (λ b. In n (numbers_in (cond b (p ∷ pairs_here s ps) [])) → In n (p.1 ∷ numbers_in ps)) [
  | true ↦ λ j. elim j as (λ _. In n (p.1 ∷ numbers_in ps)) [ inl e ↦ inl e | inr k ↦ inr (here_among s ps n k) ]
  | false ↦ λ j. absurd j
] i

-- what is given back is said to go back
pub returned_by : (leases : List ViewLease) (x : Exchange) (pairs : List (List ℕ × LeaseNo)) → IsQuestion x (Release pairs)
    → ReleasesReturned (Some x) leases → (n : LeaseNo) → In n (numbers_in pairs) → IsReturned leases n
returned_by leases (Releases to numbers) pairs q r n i = r n (subst (λ ns. In n ns) q i)
returned_by leases (Asks to items fresh) pairs q r n i = absurd (cc)
returned_by leases (Renews to numbers) pairs q r n i = absurd q
returned_by leases (Ships to count) pairs q r n i = absurd q
returned_by leases (Leads to) pairs q r n i = absurd q

few_here : (s : Server) (pairs : List (List ℕ × LeaseNo)) → length (numbers_in (pairs_here s pairs)) ≤ length (numbers_in pairs)
few_here s [] = omega arith
few_here s (p ∷ ps) = elim (is_mine s p.0) as (λ b. length (numbers_in (cond b (p ∷ pairs_here s ps) [])) ≤ length (numbers_in (p ∷ ps))) [
  | true ↦ let q = few_here s ps in omega arith
  | false ↦ omega arith
]

-- what is told of them begins with the numbers that were sent
begins_here : (s : Server) (until : ℕ) (rows : List Row) (pairs : List (List ℕ × LeaseNo)) → begins_numbers (numbers_in pairs) (map (λ (r : LeaseNo × Option ℕ). r.0) (ends_told until (numbers_in (pairs_here s pairs)) rows)) ≡ true
begins_here s until rows [] = refl
begins_here s until rows (p ∷ ps) = elim (is_mine s p.0) as (λ b. begins_numbers (p.1 ∷ numbers_in ps) (map (λ (r : LeaseNo × Option ℕ). r.0) (ends_told until (numbers_in (cond b (p ∷ pairs_here s ps) [])) rows)) ≡ true) [
  | true ↦ joined _ _ (same_no_self p.1) (begins_here s until rows ps)
  | false ↦ refl
]

-- ## A log on its way

each_plain : (entries : List Entry) → ((e : Entry) → In e entries → tells_its_effects e.op ≡ true) → list_all (λ (e : Entry). tells_its_effects e.op) entries ≡ true
each_plain [] f = refl
each_plain (e ∷ es) f = joined _ _ (f e (inl refl)) (each_plain es (λ x i. f x (inr i)))

-- a log that is on its way tells its effects
pub all_plain : (greatest : ℕ) (w : World) (by : Session) (entries : List Entry) → In (Ship entries) (w.ends by).up → WorldHolds greatest w → list_all (λ (e : Entry). tells_its_effects e.op) entries ≡ true
all_plain greatest w by entries there h =
    let front = (h.exchanges by).front entries there in
    each_plain entries (λ e i. ((h.all.fitting by).entries e (subst (λ es. In e es) (sym front.log) (In-front e entries front.rest i))).plain)

-- the world after a step of its server that is told the session
abbrev world_after : World → Session → Stepped → World
world_after w by st = record { server = st.server; counts = w.counts; decided = w.decided; journal = w.journal ++ st.out.admitted; replied = w.replied; ends = with_sent st.out.send (without_question by w.ends) }

module _ (greatest : ℕ) (w : World) (by : Session) (h : WorldHolds greatest w) where
  abbrev s : Server
  s = w.server

  abbrev c : Client
  c = (w.ends by).client

  abbrev base : Session → Settled
  base x = settled_at x (w.ends x)

  world_asked : DecidedFits w → (items : List (Field × LeaseKind)) (dir : Option (List ℕ)) → (w.ends by).up ≡ Ask items dir ∷ [] → WorldStands greatest (world_after w by (answered by (asked_in by items dir s)))
  world_asked f items dir up =
      let there : In (Ask items dir) (w.ends by).up = subst (λ ms. In (Ask items dir) ms) (sym up) (inl refl) in
      let a = asked_in by items dir s in
      let right = asks.answered_right w.counts s.skew greatest w.journal w.replied w.ends base by items dir s w.decided (others_in greatest w by (Ask items dir) there h f) f.all (goes_of greatest w h) ((h.exchanges by).kinds items dir there) in
      let same = asked_same by items dir s in
      let clock = h.clock in
      let last = same.last in
      let told = world_answered greatest w a.server w.journal by (Ask items dir) (Granted a.grants a.fresh a.end) up h w.decided w.replied same.skew (omega arith) (same.later w.counts) right.goes refl
      (λ x e q. ask_fits x c items dir a.grants a.fresh a.end q right.fits)
      (λ ends e q. absurd (cc)) in
      let ends : Session → Ends = with_answer by (Granted a.grants a.fresh a.end) (without_question by w.ends) in
      subst (λ js. WorldStands greatest (record { server = a.server; counts = w.counts; decided = w.decided; journal = js; replied = w.replied; ends = with_sent (recalls_at a.end a.server.rows) ends })) (sym (append-nil w.journal)) (
        world_all_recalled greatest (record { server = a.server; counts = w.counts; decided = w.decided; journal = w.journal; replied = w.replied; ends = ends }) (recalls_at a.end a.server.rows) (recall_with a.end a.server.rows) told,
        fits_then w a.server w.journal w.replied (with_sent (recalls_at a.end a.server.rows) ends) right.decided (answered_owed by (Granted a.grants a.fresh a.end) (recalls_at a.end a.server.rows) w.ends) f,
      )

  -- ## Renewals

  renew_fits : (x : Exchange) (pairs : List (List ℕ × LeaseNo)) (until : ℕ) (e : End) → IsQuestion x (Renew pairs) → answer_fits (server_of_question x) x (Renewed (ends_told until (numbers_in (pairs_here s pairs)) s.rows) e) c ≡ true
  renew_fits (Renews to numbers) pairs until e q = joined _ _ (nat_eq_equiv.refl to) (ap (λ ns. begins_numbers ns (map (λ (r : LeaseNo × Option ℕ). r.0) (ends_told until (numbers_in (pairs_here s pairs)) s.rows))) (sym q) ∙ begins_here s until s.rows pairs)
  renew_fits (Asks to items fresh) pairs until e q = absurd (cc)
  renew_fits (Releases to numbers) pairs until e q = absurd q
  renew_fits (Ships to count) pairs until e q = absurd q
  renew_fits (Leads to) pairs until e q = absurd q

  unchanged : (a : Answer) (t : Sight) → told by a (base by) ≡ base by → GoesOn s.skew greatest t w.replied w.ends base → GoesOn s.skew greatest t w.replied w.ends (with_client by (told by a (base by)) base)
  unchanged a t e g = subst (λ k. GoesOn s.skew greatest t w.replied w.ends k) (sym (ap (λ d. with_client by d base) e ∙ client_same by base)) g

  renewed_step : DecidedFits w → (pairs : List (List ℕ × LeaseNo)) → (w.ends by).up ≡ Renew pairs ∷ [] → WorldStands greatest (world_after w by (message_step by (Renew pairs) s))
  renewed_step f pairs up =
      let until = end_of s in
      let ns = numbers_in (pairs_here s pairs) in
      let e = pairs_end s pairs in
      let t : Server = record s { rows = renewed_rows until ns s.rows } in
      let a = Renewed (ends_told until ns s.rows) e in
      subst (λ js. WorldStands greatest (record { server = t; counts = w.counts; decided = w.decided; journal = js; replied = w.replied; ends = with_answer by a (without_question by w.ends) })) (sym (append-nil w.journal)) (
        world_answered greatest w t w.journal by (Renew pairs) a up h w.decided w.replied refl h.clock (renewed_later (given_by w.counts s) until ns s.rows)
            (unchanged a (sight_with w.counts w.decided t w.journal) refl (rows_renewed s.skew greatest (sight_in w) w.replied w.ends base until ns s.rows (goes_of greatest w h)))
            refl
            (λ x z q. renew_fits x pairs until e q)
            (λ ends z q n u i. let same : ends_told until ns s.rows ≡ ends = cc in ends_backed until ns s.rows n u (subst (λ es. In (n, Some u) es) (sym same) i)),
        fits_then w t w.journal w.replied (with_answer by a (without_question by w.ends)) (stand_rows w.decided s w.journal (renewed_rows until ns s.rows) (λ d i. renewed_locks d.by until ns s.rows) f.all) (answered_owed by a [] w.ends) f,
      )

  -- ## Releases

  release_fits : (x : Exchange) (pairs : List (List ℕ × LeaseNo)) (e : End) → IsQuestion x (Release pairs) → answer_fits (server_of_question x) x (Released (length (numbers_in (pairs_here s pairs))) e) c ≡ true
  release_fits (Releases to numbers) pairs e q =
      let few = few_here s pairs in
      let all = ap length q in
      let le : nat_le (length (numbers_in (pairs_here s pairs))) (length numbers) ≡ true = at_most (length (numbers_in (pairs_here s pairs))) (length numbers) (omega arith) in
      joined _ _ (nat_eq_equiv.refl to) le
  release_fits (Asks to items fresh) pairs e q = absurd (cc)
  release_fits (Renews to numbers) pairs e q = absurd q
  release_fits (Ships to count) pairs e q = absurd q
  release_fits (Leads to) pairs e q = absurd q

  -- a row with the number of a lease that goes back is the session's
  its_row : (n : LeaseNo) → IsReturned c.view.leases n → (r : Row) → In r s.rows → r.no ≡ n → r.session ≡ by
  its_row n back r i e = ((h.exchanges by).returns back.kept back.among back.leaving).own r i (e ∙ sym back.number)

  released_step : DecidedFits w → (pairs : List (List ℕ × LeaseNo)) → (w.ends by).up ≡ Release pairs ∷ [] → WorldStands greatest (world_after w by (message_step by (Release pairs) s))
  released_step f pairs up =
      let ns = numbers_in (pairs_here s pairs) in
      let e = pairs_end s pairs in
      let t : Server = record s { rows = released_rows ns s.rows } in
      let a = Released (length ns) e in
      let o = asked greatest w t w.journal by (Release pairs) a up h in
      let back = returned_by c.view.leases o.exchange pairs o.question (subst (λ x. ReleasesReturned x c.view.leases) o.stands (h.exchanges by).released) in
      let others = others_in greatest w by (Release pairs) (subst (λ ms. In (Release pairs) ms) (sym up) (inl refl)) h f in
      subst (λ js. WorldStands greatest (record { server = t; counts = w.counts; decided = w.decided; journal = js; replied = w.replied; ends = with_answer by a (without_question by w.ends) })) (sym (append-nil w.journal)) (
        world_answered greatest w t w.journal by (Release pairs) a up h w.decided w.replied refl h.clock (released_later (given_by w.counts s) ns s.rows)
            (unchanged a (sight_with w.counts w.decided t w.journal) refl (rows_released s.skew greatest (sight_in w) w.replied w.ends base by ns s.rows (λ n i. back n (here_among s pairs n i)) (goes_of greatest w h)))
            refl
            (λ x z q. release_fits x pairs e q)
            (λ ends z q. absurd (cc)),
        fits_then w t w.journal w.replied (with_answer by a (without_question by w.ends))
            (stand_rows w.decided s w.journal (released_rows ns s.rows) (λ d i. released_locks d.by by (others d i) ns s.rows (λ n j r k z. its_row n (back n (here_among s pairs n j)) r k z)) f.all) (answered_owed by a [] w.ends) f,
      )

  -- ## Logs

  ship_fits : (x : Exchange) (entries rest : List Entry) (count : ℕ) (e : End) → c.log ≡ entries ++ rest → IsQuestion x (Ship entries) → count ≤ length entries → refusal_fits e count entries ≡ true → answer_fits (server_of_question x) x (Shipped count e) c ≡ true
  ship_fits (Ships to sent) entries rest count e log q few fits =
      let le : nat_le count sent ≡ true = grind (arith, nat_tests) in
      let own : take sent c.log ≡ entries = ap (take sent) log ∙ ap (λ n. take n (entries ++ rest)) (sym q) ∙ take-append_seam entries rest in
      joined _ _ (nat_eq_equiv.refl to) (joined _ _ le (ap (refusal_fits e count) own ∙ fits))
  ship_fits (Asks to items fresh) entries rest count e log q few fits = absurd (cc)
  ship_fits (Renews to numbers) entries rest count e log q few fits = absurd q
  ship_fits (Releases to numbers) entries rest count e log q few fits = absurd q
  ship_fits (Leads to) entries rest count e log q few fits = absurd q

  world_shipped : DecidedFits w → (entries : List Entry) → (w.ends by).up ≡ Ship entries ∷ [] → WorldStands greatest (world_after w by (shipped by (ship_from by entries s [])))
  world_shipped f entries up =
      let there : In (Ship entries) (w.ends by).up = subst (λ ms. In (Ship entries) ms) (sym up) (inl refl) in
      let front = (h.exchanges by).front entries there in
      let d = base by in
      let x = ship_from by entries s [] in
      let others = others_in greatest w by (Ship entries) there h f in
      let start : GoesOn s.skew greatest (sight_with w.counts w.decided s (w.journal ++ [])) w.replied w.ends (with_client by d base) =
      subst (λ js. GoesOn s.skew greatest (sight_with w.counts w.decided s js) w.replied w.ends (with_client by d base)) (sym (append-nil w.journal))
      (subst (λ k. GoesOn s.skew greatest (sight_in w) w.replied w.ends k) (sym (client_same by base)) (goes_of greatest w h)) in
      let under : AllDecidedStand w.decided s (w.journal ++ []) = subst (AllDecidedStand w.decided s) (sym (append-nil w.journal)) f.all in
      let r : IsShipped w.counts s.skew greatest w.journal w.replied w.ends base by w.decided others entries d [] x = shipped_still w.counts s.skew greatest w.journal w.replied w.ends base by w.decided others entries s [] front.rest d front.log front.over under start in
      let count : length x.admitted ≡ length r.more = ap length r.split in
      let same = ships_same by entries s [] in
      let clock = h.clock in
      let last = same.last in
      let a = Shipped (length x.admitted) x.end in
      let o = asked greatest w x.server (w.journal ++ x.admitted) by (Ship entries) a up h in
      let log : c.log ≡ d.log = sym (ap (λ (k : Settled). k.log) (settled_none by (w.ends by).down (settled_now c) o.silent)) in
      let fits : refusal_fits x.end (length x.admitted) entries ≡ true = ap (λ n. refusal_fits x.end n entries) count ∙ r.fits in
      let few = r.few in (
        world_answered greatest w x.server (w.journal ++ x.admitted) by (Ship entries) a up h w.decided w.replied same.skew (omega arith) (same.later w.counts)
            (subst (λ n. GoesOn s.skew greatest (sight_with w.counts w.decided x.server (w.journal ++ x.admitted)) w.replied w.ends (with_client by (with_over (over_after x.end d.over) (acknowledged_all by n d)) base)) (sym count) r.goes)
            refl
            (λ y e q. ship_fits y entries front.rest (length x.admitted) x.end (log ∙ front.log) q (omega arith) fits)
            (λ ends e q. absurd (cc)),
        fits_then w x.server (w.journal ++ x.admitted) w.replied (with_answer by a (without_question by w.ends)) r.decided (answered_owed by a [] w.ends) f,
      )

  shipped_step : DecidedFits w → (entries : List Entry) → (w.ends by).up ≡ Ship entries ∷ [] → WorldStands greatest (world_after w by (ship_step by entries s))
  shipped_step f entries up =
      let there : In (Ship entries) (w.ends by).up = subst (λ ms. In (Ship entries) ms) (sym up) (inl refl) in
      let plain = all_plain greatest w by entries there h in
      subst (λ b. WorldStands greatest (world_after w by (cond b (shipped by (ship_from by entries s [])) (strange s)))) (sym plain) (world_shipped f entries up)

  -- ## Each message

  pub told_message : DecidedFits w → (m : ClientMsg) → IsOther (event.FromClient by m) → (w.ends by).up ≡ m ∷ [] → WorldStands greatest (world_after w by (message_step by m s))
  told_message f (Ask items dir) o up = world_asked f items dir up
  told_message f (Renew pairs) o up = renewed_step f pairs up
  told_message f (Release pairs) o up = released_step f pairs up
  told_message f (Ship entries) o up = shipped_step f entries up
  told_message f (Lead m) o up = absurd o

-- ## Each event

pub one_up : (c : Client) (x : Option Exchange) (up : List ClientMsg) (down : List Answer) (m : ClientMsg) → In m up → OneExchange c x up down → up ≡ m ∷ []
one_up c None up down m i h = absurd (subst (λ ms. In m ms) h.0 i)
one_up c (Some x) up down m i (inl a) = elim (subst (λ ms. In m ms) a.asked i) as (λ _. up ≡ m ∷ []) [ inl e ↦ a.asked ∙ ap (λ k. k ∷ []) (sym e) | inr z ↦ absurd z ]
one_up c (Some x) up down m i (inr a) = absurd (subst (λ ms. In m ms) a.asked i)

pub begun_keeps : (greatest : ℕ) (w : World) (e : ServerEvent) → DecidedFits w → IsThere e w.ends → IsOther e → WorldHolds greatest w → WorldStands greatest (after_begun e w)
begun_keeps greatest w (event.FromClient by m) f there o h = told_message greatest w by h f m o (one_up (w.ends by).client (w.ends by).client.exchange (w.ends by).up (w.ends by).down m there (h.exchanges by).one)
begun_keeps greatest w (event.FromPeer from m) f there o h = absurd there
begun_keeps greatest w (event.Move prefix to) f there o h = absurd there
begun_keeps greatest w event.Turn f there o h = turn_keeps greatest w f h
begun_keeps greatest w (event.Recall field) f there o h =
    let recalls = (event_step (event.Recall field) w.server).out.send in
    subst (λ js. WorldStands greatest (record { server = w.server; counts = w.counts; decided = w.decided; journal = js; replied = w.replied; ends = with_sent (event_step (event.Recall field) w.server).out.send w.ends })) (sym (append-nil w.journal))
    (world_all_recalled greatest w recalls (recall_all (recalled_on field w.server)) h, fits_then w w.server w.journal w.replied (with_sent recalls w.ends) f.all (sent_owed recalls w.ends) f)

pub event_past : EventGoesPast
event_past greatest w e f there o h = begun_keeps greatest w e f there o h
