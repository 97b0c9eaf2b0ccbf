-- A client's turn.
use Rattle.std.proofs.Common.{◌≡◌, ℕ, ◌&&◌, ◌==◌, ◌+◌, ◌/◌, not, Bool, true, false, List, [], ◌∷◌, ◌++◌, refl, sym, ap, ◌∙◌, subst, cond}
use Rattle.std.proofs.lemmas.Bool.{not-true}
use Rattle.std.specs.Prelude.{None, is_some}
use Rattle.fs_ident.specs.declared.actor.Session.{Session}
use Rattle.fs_ident.specs.In.{In}
use Rattle.fs_ident.proofs.Booleans.{both}
use Rattle.fs_ident.proofs.Standing.{In-filter}
use Rattle.fs_ident.proofs.Options.{not_some}
use Rattle.fs_model.specs.Step.{is_empty}
use Rattle.fs_msg.specs.declared.answer.Answer.{Answer}
use Rattle.fs_msg.specs.declared.client_msg.ClientMsg.{ClientMsg}
use Rattle.fs_msg.specs.declared.client_note.ClientNote.{ClientNote}
use Rattle.fs_model.specs.Asking.{home_of}
use Rattle.fs_msg.specs.declared.entry.Entry.{Entry}
use Rattle.fs_msg.specs.declared.item.Item.{Item}
use Rattle.fs_client.specs.Client.{changed}
use Rattle.fs_client.specs.Acts.{hinted}
use Rattle.fs_client.specs.Turns.{ends_by, entries_at, idle, kept_at, returned, ending, renew_some, release_some, ship_some, turn_free, turn_on}
use Rattle.fs_client.specs.declared.plan.Plan.{Plan}
use Rattle.fs_client.specs.declared.state.Client.{Client}
use Rattle.fs_view.specs.declared.view_lease.ViewLease.{ViewLease}
use Rattle.fs_view.specs.ViewLease.{file_in}
use Rattle.fs_serial.specs.Sight.{Sight}
use Rattle.fs_serial.specs.World.{message_in, pushed}
use Rattle.fs_serial.proofs.Grants.Claims.{none_anew}
use Rattle.fs_serial.proofs.OneServer.ClientSteps.{IsMoved}
use Rattle.fs_serial.proofs.Returns.Releases.{session_releases, releases_anew}
use Rattle.fs_serial.proofs.ClientMessages.SessionStates.{SessionStateHolds, seen_at}
use Rattle.fs_serial.proofs.ClientMessages.Sends.{session_ships, session_renews}

-- these stand first
record HasFront (front all : List Entry) : Type 0 where
  pub rest : List Entry
  pub is : all ≡ front ++ rest

module _ (skew greatest : ℕ) (s : Sight) (by : Session) (replied : List Item) (c : Client) (up : List ClientMsg) (down : List Answer) (h : SessionStateHolds skew greatest s by replied c up down) where
  -- the session where the client did as planned
  abbrev Moves : Plan ClientNote → Type 0
  Moves p = IsMoved skew greatest s s by replied c down None (record { client = changed p.ready.change c; up = pushed (message_in p.out.send) up; down = down })

  stays : Moves (idle c)
  stays = record { state = h; reserves = none_anew (seen_at by c down) }

  front : (to : ℕ) (es : List Entry) → HasFront (entries_at c to es) es
  front to [] = record { rest = []; is = refl }
  front to (e ∷ es) = elim (hinted c (home_of e.op) == to) as (λ b. HasFront (cond b (e ∷ entries_at c to es) []) (e ∷ es)) [
    | true ↦ let q = front to es in record { rest = q.rest; is = ap (λ xs. e ∷ xs) q.is }
    | false ↦ record { rest = e ∷ es; is = refl }
  ]

  hands_in : c.exchange ≡ None → c.over ≡ None → (es : List Entry) → c.log ≡ es → Moves (ship_some es c)
  hands_in idle going [] log = stays
  hands_in idle going (e ∷ es) log =
      let to = hinted c (home_of e.op) in
      let q = front to (e ∷ es) in
      record { state = session_ships skew greatest s by replied c up down to (entries_at c to (e ∷ es)) q.rest (log ∙ q.is) idle going h; reserves = none_anew (seen_at by c down) }

  keeps : c.exchange ≡ None → (ks : List ViewLease) → ((k : ViewLease) → In k ks → In k c.view.leases) → Moves (renew_some ks c)
  keeps idle [] among = stays
  keeps idle (k ∷ ks) among =
      let to = hinted c (file_in k.standing) in
      record { state = session_renews skew greatest s by replied c up down to (kept_at c to (k ∷ ks)) (λ x i. among x (In-filter (λ (z : ViewLease). hinted c (file_in z.standing) == to) x (k ∷ ks) i)) idle h; reserves = none_anew (seen_at by c down) }

  ending_now : c.exchange ≡ None → Moves (renew_some (ending (c.last + c.term / 2) c.view) c)
  ending_now idle = keeps idle (ending (c.last + c.term / 2) c.view) (λ k i. In-filter (λ (x : ViewLease). not x.recalled && ends_by (c.last + c.term / 2) x.standing) k c.view.leases i)

  gives_some : c.exchange ≡ None → (ks : List ViewLease) → returned c.view ≡ ks → Moves (release_some ks c)
  gives_some idle [] e = ending_now idle
  gives_some idle (k ∷ ks) e =
      let to = hinted c (file_in k.standing) in
      let these : (x : ViewLease) → In x (kept_at c to (k ∷ ks)) → In x (returned c.view) = λ x i. subst (In x) (sym e) (In-filter (λ (z : ViewLease). hinted c (file_in z.standing) == to) x (k ∷ ks) i) in
      record {
        state = session_releases skew greatest s by replied c up down to (kept_at c to (k ∷ ks)) these idle h;
        reserves = releases_anew skew greatest s by replied c up down to (kept_at c to (k ∷ ks)) these idle h;
      }

  goes_on : c.exchange ≡ None → (b : Bool) → (not (is_empty c.log) && not (is_some c.over)) ≡ b → Moves (cond b (ship_some c.log c) (release_some (returned c.view) c))
  goes_on idle true e = hands_in idle (not_some c.over (not-true (is_some c.over) (both (not (is_empty c.log)) (not (is_some c.over)) e).1)) c.log refl
  goes_on idle false e = gives_some idle (returned c.view) refl

  by_exchange : (b : Bool) → is_some c.exchange ≡ b → Moves (cond b (idle c) (turn_free c))
  by_exchange true e = stays
  by_exchange false e = goes_on (not_some c.exchange e) (not (is_empty c.log) && not (is_some c.over)) refl

  pub turn_moved : Moves (turn_on c)
  turn_moved = by_exchange (is_some c.exchange) refl
