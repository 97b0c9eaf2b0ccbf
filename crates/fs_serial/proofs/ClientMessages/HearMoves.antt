-- The first answer on its way comes to its client.
use Rattle.std.proofs.Common.{◌≡◌, ℕ, true, false, List, ◌∷◌, refl, sym, ap, ◌∙◌, subst, cond}
use Rattle.std.specs.Prelude.{Some, None}
use Rattle.fs_ident.specs.declared.actor.Session.{Session}
use Rattle.fs_msg.specs.declared.answer.Answer.{Answer}
use Rattle.fs_msg.specs.declared.answer.Answer.TheVariants.{Granted, Renewed, Released, Shipped, Recall, Led}
use Rattle.fs_msg.specs.declared.client_msg.ClientMsg.{ClientMsg}
use Rattle.fs_msg.specs.declared.client_note.ClientNote.{ClientNote}
use Rattle.fs_msg.specs.declared.item.Item.{Item}
use Rattle.fs_record.specs.declared.led_end.LedEnd.{LedEnd}
use Rattle.fs_record.specs.declared.led_end.LedEnd.TheVariants as end
use Rattle.fs_client.specs.Answers.{answer_fits, ended_plan, fits, hear, led_plan, fitting_plan, strange}
use Rattle.fs_client.specs.Client.{changed}
use Rattle.fs_client.specs.declared.exchange.Exchange.{Exchange}
use Rattle.fs_client.specs.declared.led.Led.{Led as TheLed}
use Rattle.fs_client.specs.declared.plan.Plan.{Plan}
use Rattle.fs_client.specs.declared.state.Client.{Client}
use Rattle.fs_serial.specs.Exchange.{asked_server, is_recall, server_of_question}
use Rattle.fs_serial.specs.Settled.{Settled}
use Rattle.fs_serial.specs.Sight.{Sight}
use Rattle.fs_serial.specs.World.{message_in, pushed}
use Rattle.fs_serial.proofs.OneServer.ClientSteps.{IsMoved}
use Rattle.fs_serial.proofs.ClientMessages.Heard.{IsHeard, heard}
use Rattle.fs_serial.proofs.ClientMessages.HearsGranted.{session_granted, granted_seen}
use Rattle.fs_serial.proofs.LedOperations.HearsLed.{led_fits, led_seen, session_led}
use Rattle.fs_serial.proofs.Grants.Claims.{NoneAnew, none_anew_as}
use Rattle.fs_serial.proofs.ClientMessages.HearsRenewed.{session_renewed, renewed_reserves}
use Rattle.fs_serial.proofs.ClientMessages.HearsReturned.{session_recalled, recalled_seen, session_released, released_seen}
use Rattle.fs_serial.proofs.ClientMessages.HearsShipped.{session_shipped, shipped_seen}
use Rattle.fs_serial.proofs.ClientMessages.SessionStates.{SessionStateHolds, seen_at}

-- the question was sent to the server
sent_to : (c : Client) (x : Exchange) (from : ℕ) → c.exchange ≡ Some x → asked_server c.exchange ≡ Some from → server_of_question x ≡ from
sent_to c x from open_ e = let q : Some (server_of_question x) ≡ Some from = ap asked_server (sym open_) ∙ e in cc

-- an answer that is due fits where it comes from the server of the question
due_from : (c : Client) (up : List ClientMsg) (from : ℕ) (a : Answer) (rest : List Answer) → asked_server c.exchange ≡ Some from → (w : IsHeard c up a rest) → answer_fits from w.exchange a c ≡ true
due_from c up from a rest e w = subst (λ k. answer_fits k w.exchange a c ≡ true) (sent_to c w.exchange from w.open_ e) w.fits

pub fits_due : (c : Client) (up : List ClientMsg) (from : ℕ) (a : Answer) (rest : List Answer) → asked_server c.exchange ≡ Some from → IsHeard c up a rest → fits from c.exchange a c ≡ true
fits_due c up from (Recall n) rest e w = refl
fits_due c up from (Granted grants fresh end) rest e w = ap (λ x. fits from x (Granted grants fresh end) c) w.open_ ∙ due_from c up from (Granted grants fresh end) rest e w
fits_due c up from (Renewed rows end) rest e w = ap (λ x. fits from x (Renewed rows end) c) w.open_ ∙ due_from c up from (Renewed rows end) rest e w
fits_due c up from (Released count end) rest e w = ap (λ x. fits from x (Released count end) c) w.open_ ∙ due_from c up from (Released count end) rest e w
fits_due c up from (Shipped count end) rest e w = ap (λ x. fits from x (Shipped count end) c) w.open_ ∙ due_from c up from (Shipped count end) rest e w
fits_due c up from (Led end) rest e w = ap (λ x. fits from x (Led end) c) w.open_ ∙ due_from c up from (Led end) rest e w

module _ (skew greatest : ℕ) (s : Sight) (by : Session) (replied : List Item) (c : Client) (up : List ClientMsg) (rest : List Answer) where
  -- the session where the client did as planned
  abbrev Moves : Answer → Plan ClientNote → Type 0
  Moves a p = IsMoved skew greatest s s by replied c (a ∷ rest) None (record { client = changed p.ready.change c; up = pushed (message_in p.out.send) up; down = rest })

  -- what will be is what was to be
  same_reserves : (a b : Settled) → a ≡ b → NoneAnew b a
  same_reserves a b e = none_anew_as b a e

  led_moves : (l : TheLed) → c.led ≡ Some l → (e : LedEnd) → SessionStateHolds skew greatest s by replied c up (Led e ∷ rest) → Moves (Led e) (ended_plan l e c)
  led_moves l is (end.Done r) h = record { state = session_led skew greatest s by replied c up l is (end.Done r) rest h; reserves = same_reserves _ (seen_at by c (Led (end.Done r) ∷ rest)) (led_seen skew greatest s by replied c up l is (end.Done r) rest h) }
  led_moves l is (end.Ended lease until now) h = record { state = session_led skew greatest s by replied c up l is (end.Ended lease until now) rest h; reserves = same_reserves _ (seen_at by c (Led (end.Ended lease until now) ∷ rest)) (led_seen skew greatest s by replied c up l is (end.Ended lease until now) rest h) }
  led_moves l is (end.Again why) h = record { state = session_led skew greatest s by replied c up l is (end.Again why) rest h; reserves = same_reserves _ (seen_at by c (Led (end.Again why) ∷ rest)) (led_seen skew greatest s by replied c up l is (end.Again why) rest h) }

  told_moved : (a : Answer) → SessionStateHolds skew greatest s by replied c up (a ∷ rest) → Moves a (fitting_plan a c)
  told_moved (Granted gs fresh e) h = record { state = session_granted skew greatest s by replied c up gs fresh e rest h; reserves = same_reserves _ (seen_at by c (Granted gs fresh e ∷ rest)) (granted_seen skew greatest s by replied c up gs fresh e rest h) }
  told_moved (Renewed ends e) h = record { state = session_renewed skew greatest s by replied c up ends e rest h; reserves = renewed_reserves skew greatest s by replied c up ends e rest h }
  told_moved (Released count e) h = record { state = session_released skew greatest s by replied c up count e rest h; reserves = same_reserves _ (seen_at by c (Released count e ∷ rest)) (released_seen skew greatest s by replied c up count e rest h) }
  told_moved (Shipped count e) h = record { state = session_shipped skew greatest s by replied c up count e rest h; reserves = same_reserves _ (seen_at by c (Shipped count e ∷ rest)) (shipped_seen skew greatest s by replied c up count e rest h) }
  told_moved (Led e) h =
      let w : IsHeard c up (Led e) rest = heard c c.exchange up (Led e) rest refl refl h.exchange.one in
      let l = led_fits (server_of_question w.exchange) w.exchange e c w.fits in
      subst (λ o. Moves (Led e) (led_plan o e c)) (sym l.1) (led_moves l.0 l.1 e h)
  told_moved (Recall n) h = record { state = session_recalled skew greatest s by replied c up n rest h; reserves = same_reserves _ (seen_at by c (Recall n ∷ rest)) (recalled_seen skew greatest s by replied c up n rest h) }

  -- the first answer on its way fits
  pub fits_first : (from : ℕ) (a : Answer) → (is_recall a ≡ false → asked_server c.exchange ≡ Some from) → SessionStateHolds skew greatest s by replied c up (a ∷ rest) → fits from c.exchange a c ≡ true
  fits_first from (Recall n) at h = refl
  fits_first from (Granted gs fresh e) at h = fits_due c up from (Granted gs fresh e) rest (at refl) (heard c c.exchange up (Granted gs fresh e) rest refl refl h.exchange.one)
  fits_first from (Renewed ends e) at h = fits_due c up from (Renewed ends e) rest (at refl) (heard c c.exchange up (Renewed ends e) rest refl refl h.exchange.one)
  fits_first from (Released count e) at h = fits_due c up from (Released count e) rest (at refl) (heard c c.exchange up (Released count e) rest refl refl h.exchange.one)
  fits_first from (Shipped count e) at h = fits_due c up from (Shipped count e) rest (at refl) (heard c c.exchange up (Shipped count e) rest refl refl h.exchange.one)
  fits_first from (Led e) at h = fits_due c up from (Led e) rest (at refl) (heard c c.exchange up (Led e) rest refl refl h.exchange.one)

  -- the answer is never strange, and the session goes on as it was to
  pub hear_moved : (from : ℕ) (a : Answer) → (is_recall a ≡ false → asked_server c.exchange ≡ Some from) → SessionStateHolds skew greatest s by replied c up (a ∷ rest) → Moves a (hear from a c)
  hear_moved from a at h = subst (λ b. Moves a (cond b (fitting_plan a c) (strange c))) (sym (fits_first from a at h)) (told_moved a h)
