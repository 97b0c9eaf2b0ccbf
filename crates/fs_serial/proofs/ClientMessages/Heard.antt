-- An answer comes to its client.
use Rattle.std.proofs.Common.{◌≡◌, ℕ, not, true, false, List, [], ◌∷◌, refl, sym, ap, ◌∙◌, subst, inl, inr, cond}
use Rattle.std.specs.Prelude.{Option, Some, None}
use Rattle.fs_ident.specs.In.{In}
use Rattle.fs_ident.specs.declared.actor.LeaseNo.{LeaseNo}
use Rattle.fs_ident.specs.declared.actor.Session.{Session}
use Rattle.fs_field.specs.declared.row.Row.{Row}
use Rattle.fs_msg.specs.declared.answer.Answer.{Answer}
use Rattle.fs_msg.specs.declared.answer.Answer.TheVariants.{Granted, Renewed, Released, Shipped, Recall, Led}
use Rattle.fs_msg.specs.declared.client_msg.ClientMsg.{ClientMsg}
use Rattle.fs_msg.specs.declared.end.End.{End}
use Rattle.fs_client.specs.Answers.{answer_fits}
use Rattle.fs_client.specs.declared.exchange.Exchange.{Exchange}
use Rattle.fs_client.specs.declared.state.Client.{Client}
use Rattle.fs_serial.specs.Exchange.{due, is_recall, OneExchange, ShipsLog, ReleasesReturned, ReturnsFit, ExchangeFits, server_of_question}
use Rattle.fs_serial.specs.Settled.{Settled}

-- ## The answer that is due

-- the answer is the one that the client waits for
pub record IsHeard (c : Client) (up : List ClientMsg) (a : Answer) (rest : List Answer) : Type 0 where
  pub exchange : Exchange
  pub open_ : c.exchange ≡ Some exchange
  pub asked : up ≡ []
  pub quiet : due rest ≡ []
  pub fits : answer_fits (server_of_question exchange) exchange a c ≡ true

due_first : (a : Answer) (rest : List Answer) → is_recall a ≡ false → due (a ∷ rest) ≡ a ∷ due rest
due_first a rest h = ap (λ b. cond (not b) (a ∷ due rest) (due rest)) h

pub heard : (c : Client) (x : Option Exchange) (up : List ClientMsg) (a : Answer) (rest : List Answer) → c.exchange ≡ x → is_recall a ≡ false → OneExchange c x up (a ∷ rest) → IsHeard c up a rest
heard c None up a rest e n h = absurd (let q : a ∷ due rest ≡ [] = sym (due_first a rest n) ∙ h.1 in cc)
heard c (Some x) up a rest e n (inl h) = absurd (let q : a ∷ due rest ≡ [] = sym (due_first a rest n) ∙ h.silent in cc)
heard c (Some x) up a rest e n (inr h) =
    let q : a ∷ due rest ≡ h.answer ∷ [] = sym (due_first a rest n) ∙ h.told in
    let same : h.answer ≡ a = cc in
    record { exchange = x; open_ = e; asked = h.asked; quiet = cc; fits = subst (λ a. answer_fits (server_of_question x) x a c ≡ true) same h.fits }

-- ## Then no question stands

pub quiet_renewed : (rest : List Answer) → due rest ≡ [] → (ends : List (LeaseNo × Option ℕ)) (e : End) → In (Renewed ends e) rest → ⊥
quiet_renewed [] q ends e i = i
quiet_renewed (Recall n ∷ rest) q ends e (inl p) = absurd (cc)
quiet_renewed (Recall n ∷ rest) q ends e (inr i) = quiet_renewed rest q ends e i
quiet_renewed (Granted grants fresh end ∷ rest) q ends e i = absurd (cc)
quiet_renewed (Renewed rows end ∷ rest) q ends e i = absurd (cc)
quiet_renewed (Released count end ∷ rest) q ends e i = absurd (cc)
quiet_renewed (Shipped count end ∷ rest) q ends e i = absurd (cc)
quiet_renewed (Led end ∷ rest) q ends e i = absurd (cc)

pub quiet_exchange : (skew greatest : ℕ) (given : ℕ → ℕ) (rows : List Row) (by : Session) (c : Client) (rest : List Answer) (now d : Settled) → c.exchange ≡ None → due rest ≡ [] → ReturnsFit given rows by c.view.leases d.leases → ExchangeFits skew greatest given rows by c [] rest now d
quiet_exchange skew greatest given rows by c rest now d none quiet returns = record {
  one = subst (λ x. OneExchange c x [] rest) (sym none) (refl, quiet);
  ships = subst (λ x. ShipsLog x c.log) (sym none) tt;
  front = λ entries i. absurd i;
  leads = λ m i. absurd i;
  released = subst (λ x. ReleasesReturned x c.view.leases) (sym none) tt;
  kinds = λ items fresh i. absurd i;
  pairs = λ m i. absurd i;
  returns = returns;
  renewals = λ ends e i. absurd (quiet_renewed rest quiet ends e i);
}

-- ## A recall is no answer

one_recall : (c : Client) (x : Option Exchange) (up : List ClientMsg) (n : LeaseNo) (rest : List Answer) → OneExchange c x up (Recall n ∷ rest) → OneExchange c x up rest
one_recall c None up n rest h = h
one_recall c (Some x) up n rest (inl h) = inl (record { message = h.message; asked = h.asked; question = h.question; silent = h.silent })
one_recall c (Some x) up n rest (inr h) = inr (record { answer = h.answer; told = h.told; asked = h.asked; fits = h.fits })

pub recall_exchange : (skew greatest : ℕ) (given : ℕ → ℕ) (rows : List Row) (by : Session) (c : Client) (up : List ClientMsg) (n : LeaseNo) (rest : List Answer) (now d : Settled) → ExchangeFits skew greatest given rows by c up (Recall n ∷ rest) now d → ExchangeFits skew greatest given rows by c up rest now d
recall_exchange skew greatest given rows by c up n rest now d h = record {
  one = one_recall c c.exchange up n rest h.one;
  ships = h.ships;
  front = h.front;
  leads = h.leads;
  released = h.released;
  kinds = h.kinds;
  pairs = h.pairs;
  returns = h.returns;
  renewals = λ ends e i. h.renewals ends e (inr i);
}
