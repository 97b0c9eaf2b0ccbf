-- The worlds in which decided effects are on their way.
use Rattle.std.proofs.Common.{◌≡◌, ℕ, ◌==◌, not, Bool, true, false, List, [], ◌∷◌, ◌++◌, cond, refl, sym, ap, ◌∙◌, subst, inl, inr}
use Rattle.std.specs.Prelude.{Option, Some, None}
use Rattle.fs_ident.specs.In.{In}
use Rattle.fs_ident.specs.declared.actor.Peer.{Peer}
use Rattle.fs_ident.specs.declared.actor.Peer.TheVariants.{Client as OfSession}
use Rattle.fs_ident.specs.declared.actor.Session.{Session}
use Rattle.fs_ident.proofs.Same.{itself, one_session}
use Rattle.fs_msg.specs.declared.answer.Answer.{Answer}
use Rattle.fs_msg.specs.declared.client_msg.ClientMsg.{ClientMsg}
use Rattle.fs_msg.specs.declared.item.Item.{Item}
use Rattle.fs_msg.specs.declared.msg.Msg.{Msg}
use Rattle.fs_msg.specs.declared.msg.Msg.TheVariants as msg
use Rattle.fs_record.specs.Applied.{records_after_all}
use Rattle.fs_record.specs.Records.{AreRecords}
use Rattle.fs_server.specs.declared.state.Server.{Server}
use Rattle.fs_client.specs.declared.exchange.Exchange.{Exchange}
use Rattle.fs_client.specs.declared.state.Client.{Client}
use Rattle.fs_txn.specs.Grants.{Decided, effects_in}
use Rattle.fs_serial.specs.Decided.{AllDecidedStand, DecidedFits}
use Rattle.fs_serial.specs.Exchange.{OneExchange, due, is_recall}
use Rattle.fs_serial.specs.World.{Ends, World, WorldHolds, with_answer, with_sent, without_question}
use Rattle.fs_serial.proofs.ClientMessages.Sending.{due-push}

-- with no decided effect nothing is asked
pub none_fits : (greatest : ℕ) (w : World) → w.decided ≡ [] → WorldHolds greatest w → DecidedFits w
none_fits greatest w none h =
    let no : (d : Decided) → In d w.decided → ⊥ = λ d i. subst (In d) none i in
    record {
      all = record {
        records = subst (λ ds. AreRecords (records_after_all w.server.records (effects_in ds))) none h.all.kept.sound.records;
        stand = λ d i. absurd (no d i);
      };
      owed = λ d i e. no d i;
    }

-- ## Whoever is owed an answer asks for nothing

one_due : (c : Client) (x : Option Exchange) (up : List ClientMsg) (down : List Answer) (m : ClientMsg) → In m up → OneExchange c x up down → due down ≡ []
one_due c None up down m i h = h.1
one_due c (Some x) up down m i (inl a) = a.silent
one_due c (Some x) up down m i (inr a) = absurd (subst (λ ms. In m ms) a.asked i)

pub others_in : (greatest : ℕ) (w : World) (by : Session) (m : ClientMsg) → In m (w.ends by).up → WorldHolds greatest w → DecidedFits w → (d : Decided) → In d w.decided → (d.by.0 == by.0) ≡ false
others_in greatest w by m there h f d i = off (d.by.0 == by.0) refl
  where
    silent : due (w.ends by).down ≡ []
    silent = one_due (w.ends by).client (w.ends by).client.exchange (w.ends by).up (w.ends by).down m there (h.exchanges by).one

    off : (b : Bool) → (d.by.0 == by.0) ≡ b → b ≡ false
    off true t = absurd (f.owed d i (subst (λ x. due (w.ends x).down ≡ []) (sym (one_session d.by by t)) silent))
    off false t = refl

-- ## What is owed stays so

front_none : {X : Type 0} (xs ys : List X) → xs ++ ys ≡ [] → xs ≡ []
front_none [] ys h = refl
front_none (x ∷ xs) ys h = absurd (cc)

not_empty : {X : Type 0} (xs : List X) (x : X) → xs ++ x ∷ [] ≡ [] → ⊥
not_empty [] x h = absurd (cc)
not_empty (y ∷ ys) x h = absurd (cc)

answer_owed : (to : Session) (a : Answer) (ends : Session → Ends) (x : Session) → due (with_answer to a ends x).down ≡ [] → due (ends x).down ≡ []
answer_owed to a ends x = by (to.0 == x.0)
  where
    by : (b : Bool) → due (let e : Ends = cond b (record (ends x) { down = (ends x).down ++ a ∷ [] }) (ends x) in e).down ≡ [] → due (ends x).down ≡ []
    by true h = front_none (due (ends x).down) (due (a ∷ [])) (sym (due-push (ends x).down a) ∙ h)
    by false h = h

pub sent_owed : (messages : List (Peer × Msg)) (ends : Session → Ends) (x : Session) → due (with_sent messages ends x).down ≡ [] → due (ends x).down ≡ []
sent_owed [] ends x h = h
sent_owed ((OfSession to, msg.Answer a) ∷ rest) ends x h = answer_owed to a ends x (sent_owed rest (with_answer to a ends) x h)
sent_owed (m ∷ rest) ends x h = sent_owed rest ends x h

pub taken_owed : (by : Session) (ends : Session → Ends) (x : Session) → due (without_question by ends x).down ≡ [] → due (ends x).down ≡ []
taken_owed by ends x = of (by.0 == x.0)
  where
    of : (b : Bool) → due (let e : Ends = cond b (record (ends x) { up = [] }) (ends x) in e).down ≡ [] → due (ends x).down ≡ []
    of true h = h
    of false h = h

pub answered_owed : (by : Session) (a : Answer) (messages : List (Peer × Msg)) (ends : Session → Ends) (x : Session) → due (with_sent messages (with_answer by a (without_question by ends)) x).down ≡ [] → due (ends x).down ≡ []
answered_owed by a messages ends x h = taken_owed by ends x (answer_owed by a (without_question by ends) x (sent_owed messages (with_answer by a (without_question by ends)) x h))

due_end : (down : List Answer) (a : Answer) → is_recall a ≡ false → due (down ++ a ∷ []) ≡ [] → ⊥
due_end down a h e = not_empty (due down) a (ap (λ xs. due down ++ xs) (sym (ap (λ b. cond (not b) (a ∷ []) []) h)) ∙ sym (due-push down a) ∙ e)

-- so is whoever is answered
pub led_owed : (by : Session) (a : Answer) (ends : Session → Ends) → is_recall a ≡ false → due (with_answer by a (without_question by ends) by).down ≡ [] → ⊥
led_owed by a ends h e = due_end (ends by).down a h (sym (ap (λ b. due (let y : Ends = cond b (record (own b) { down = (own b).down ++ a ∷ [] }) (own b) in y).down) (itself by.0)) ∙ e)
  where
    own : Bool → Ends
    own b = let y : Ends = cond b (record (ends by) { up = [] }) (ends by) in y

-- where its server and its journal are others, and more is on its way
pub fits_then : (w : World) (t : Server) (journal : List Item) (replied : Session → List Item) (ends : Session → Ends) → AllDecidedStand w.decided t journal → ((x : Session) → due (ends x).down ≡ [] → due (w.ends x).down ≡ []) → DecidedFits w
    → DecidedFits (record { server = t; counts = w.counts; decided = w.decided; journal = journal; replied = replied; ends = ends })
fits_then w t journal replied ends all owed f = record { all = all; owed = λ d i e. f.owed d i (owed d.by e) }
