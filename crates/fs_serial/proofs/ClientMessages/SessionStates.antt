-- One session: its client, and what is on its way between it and the server.
use Rattle.std.proofs.Common.{◌≡◌, ℕ, ◌+◌, ◌≤◌, true, List, [], ◌∷◌, length, take, refl, ap, ◌∙◌, inl, inr, arith}
use Rattle.std.specs.Prelude.{◌==◌, ◌&&◌, Option, Some, None, nat_le}
use Rattle.std.proofs.lemmas.Bool.Decides.{nat_tests}
use Rattle.fs_ident.specs.declared.actor.Session.{Session}
use Rattle.fs_ident.proofs.Booleans.{first, second}
use Rattle.fs_msg.specs.declared.answer.Answer.{Answer}
use Rattle.fs_msg.specs.declared.answer.Answer.TheVariants.{Granted, Renewed, Released, Shipped, Recall, Led}
use Rattle.fs_msg.specs.declared.client_msg.ClientMsg.{ClientMsg}
use Rattle.fs_msg.specs.declared.item.Item.{Item}
use Rattle.fs_client.specs.Answers.{answer_fits, refusal_fits}
use Rattle.fs_client.specs.declared.exchange.Exchange.{Exchange}
use Rattle.fs_client.specs.declared.exchange.Exchange.TheVariants.{Asks, Renews, Releases, Ships, Leads}
use Rattle.fs_client.specs.declared.state.Client.{Client}
use Rattle.fs_serial.specs.Client.{ClientFits}
use Rattle.fs_serial.specs.Exchange.{due, admitted_in, OneExchange, ShipsLog, ExchangeFits, server_of_question}
use Rattle.fs_serial.specs.Parts.{SessionHolds, SessionFits}
use Rattle.fs_serial.specs.Settled.{Settled, settled, settled_now, told}
use Rattle.fs_serial.specs.Sight.{Sight}

-- the client as it will be
abbrev pub seen_at : Session → Client → List Answer → Settled
seen_at by c down = settled by down (settled_now c)

-- all that holds of one session
pub record SessionStateHolds (skew greatest : ℕ) (s : Sight) (by : Session) (replied : List Item) (c : Client) (up : List ClientMsg) (down : List Answer) : Type 0 where
  pub holds : SessionHolds skew greatest s by replied (seen_at by c down)
  pub fits : SessionFits skew greatest s by (seen_at by c down)
  pub client : ClientFits by c
  pub exchange : ExchangeFits skew greatest s.given s.rows by c up down (settled_now c) (seen_at by c down)

-- ## The answer that is due

-- a recall tells nothing
pub settled_due : (by : Session) (down : List Answer) (d : Settled) → settled by down d ≡ settled by (due down) d
settled_due by [] d = refl
settled_due by (Granted grants fresh end ∷ rest) d = settled_due by rest (told by (Granted grants fresh end) d)
settled_due by (Renewed rows end ∷ rest) d = settled_due by rest d
settled_due by (Released count end ∷ rest) d = settled_due by rest d
settled_due by (Led end ∷ rest) d = settled_due by rest (told by (Led end) d)
settled_due by (Shipped count end ∷ rest) d = settled_due by rest (told by (Shipped count end) d)
settled_due by (Recall number ∷ rest) d = settled_due by rest d

pub admitted_due : (down : List Answer) → admitted_in down ≡ admitted_in (due down)
admitted_due [] = refl
admitted_due (Granted grants fresh end ∷ rest) = admitted_due rest
admitted_due (Renewed rows end ∷ rest) = admitted_due rest
admitted_due (Released count end ∷ rest) = admitted_due rest
admitted_due (Led end ∷ rest) = admitted_due rest
admitted_due (Shipped count end ∷ rest) = ap (λ n. count + n) (admitted_due rest)
admitted_due (Recall number ∷ rest) = admitted_due rest

-- where nothing is due the client is as it will be
pub settled_none : (by : Session) (down : List Answer) (d : Settled) → due down ≡ [] → settled by down d ≡ d
settled_none by down d e = settled_due by down d ∙ ap (λ as_. settled by as_ d) e

-- without a question nothing is due
pub idle_due : (c : Client) (x : Option Exchange) (up : List ClientMsg) (down : List Answer) → x ≡ None → OneExchange c x up down → (up ≡ []) × (due down ≡ [])
idle_due c None up down e h = h
idle_due c (Some x) up down e h = absurd (cc)

-- ## No more is acknowledged than there is

at_most : (a b : ℕ) → nat_le a b ≡ true → a ≤ b
at_most a b h = grind (arith, nat_tests)

few_by : (c : Client) (from : ℕ) (x : Exchange) (a : Answer) → answer_fits from x a c ≡ true → ShipsLog (Some x) c.log → admitted_in (a ∷ []) ≤ length c.log
few_by c from (Ships to sent) (Shipped count end) h n =
    let le : nat_le count sent ≡ true = first (nat_le count sent) (refusal_fits end count (take sent c.log)) (second (to == from) (nat_le count sent && refusal_fits end count (take sent c.log)) h) in
    let p : count ≤ sent = at_most count sent le in omega arith
few_by c from (Asks to items fresh) (Granted grants given end) h n = omega arith
few_by c from (Renews to numbers) (Renewed rows end) h n = omega arith
few_by c from (Releases to numbers) (Released count end) h n = omega arith
few_by c from (Leads to) (Led end) h n = omega arith
few_by c from x a h n = absurd (cc)

few_one : (c : Client) (x : Option Exchange) (up : List ClientMsg) (down : List Answer) → OneExchange c x up down → ShipsLog x c.log → admitted_in (due down) ≤ length c.log
few_one c None up down h n = let q = ap admitted_in h.1 in omega arith
few_one c (Some x) up down (inl h) n = let q = ap admitted_in h.silent in omega arith
few_one c (Some x) up down (inr h) n = let q = ap admitted_in h.told in let p = few_by c (server_of_question x) x h.answer h.fits n in omega arith

pub few : (skew greatest : ℕ) (s : Sight) (by : Session) (replied : List Item) (c : Client) (up : List ClientMsg) (down : List Answer) → SessionStateHolds skew greatest s by replied c up down → admitted_in down ≤ length c.log
few skew greatest s by replied c up down h = let p = few_one c c.exchange up down h.exchange.one h.exchange.ships in let q = admitted_due down in omega arith
