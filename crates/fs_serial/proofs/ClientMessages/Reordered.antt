-- Answers on their way may come in another order: all that are due but one are recalls.
use Rattle.std.proofs.Common.{◌≡◌, ℕ, not, Bool, true, false, List, [], ◌∷◌, ◌++◌, cond, refl, sym, ap, ◌∙◌, subst, inl, inr}
use Rattle.std.specs.Prelude.{Option, Some, None}
use Rattle.std.proofs.lemmas.List.Elements.{filter-append}
use mathlib.Core.Path.{fun_ext}
use Rattle.fs_ident.specs.In.{In}
use Rattle.fs_ident.specs.declared.actor.Session.{Session}
use Rattle.fs_ident.proofs.Standing.{In-append, In-front, In-behind}
use Rattle.fs_ident.proofs.Same.{one_session}
use Rattle.fs_msg.specs.declared.answer.Answer.{Answer}
use Rattle.fs_msg.specs.declared.answer.Answer.TheVariants.{Renewed}
use Rattle.fs_msg.specs.declared.client_msg.ClientMsg.{ClientMsg}
use Rattle.fs_client.specs.declared.exchange.Exchange.{Exchange}
use Rattle.fs_client.specs.declared.state.Client.{Client}
use Rattle.fs_serial.specs.Client.{ClientFits}
use Rattle.fs_serial.specs.Exchange.{OneExchange, ReturnsFit, ShipsFront, due, is_recall}
use Rattle.fs_serial.specs.Parts.{AllHold}
use Rattle.fs_serial.specs.Settled.{Settled, settled, settled_now}
use Rattle.fs_serial.specs.World.{Ends, World, WorldHolds, settled_at, sight_in, with_ends}
use Rattle.fs_serial.proofs.ClientMessages.SessionStates.{settled_due}
use Rattle.fs_serial.proofs.ClientMessages.Sending.{EndsFit, each_end}

-- ## What is due

due-append : (xs ys : List Answer) → due (xs ++ ys) ≡ due xs ++ due ys
due-append xs ys = filter-append (λ a. not (is_recall a)) xs ys

due_if : (a : Answer) (b : Bool) (rest : List Answer) → is_recall a ≡ b → due (a ∷ rest) ≡ cond (not b) (a ∷ due rest) (due rest)
due_if a b rest e = ap (λ c. cond (not c) (a ∷ due rest) (due rest)) e

not_empty : {X : Type 0} (xs ys : List X) (x : X) → xs ++ x ∷ ys ≡ [] → ⊥
not_empty [] ys x e = cc
not_empty (z ∷ zs) ys x e = cc

alone : {X : Type 0} (xs ys : List X) (x y : X) → xs ++ x ∷ ys ≡ y ∷ [] → xs ≡ []
alone [] ys x y e = refl
alone (z ∷ zs) ys x y e = let q : zs ++ x ∷ ys ≡ [] = cc in absurd (not_empty zs ys x q)

-- one answer is due at most
no_two : (c : Client) (x : Option Exchange) (up : List ClientMsg) (down xs ys : List Answer) (a : Answer) → OneExchange c x up down → due down ≡ xs ++ a ∷ ys → xs ≡ []
no_two c None up down xs ys a h e = absurd (not_empty xs ys a (sym e ∙ h.1))
no_two c (Some x) up down xs ys a (inl h) e = absurd (not_empty xs ys a (sym e ∙ h.silent))
no_two c (Some x) up down xs ys a (inr h) e = alone xs ys a h.answer (sym e ∙ h.told)

module _ (c : Client) (x : Option Exchange) (up : List ClientMsg) (front back : List Answer) (a : Answer) where
  abbrev down : List Answer
  down = front ++ a ∷ back

  abbrev then : List Answer
  then = a ∷ (front ++ back)

  due_same : OneExchange c x up down → due then ≡ due down
  due_same one = elim (is_recall a) as (λ b. is_recall a ≡ b → due then ≡ due down) [
    | true ↦ λ e.
        due_if a true (front ++ back) e ∙ due-append front back
        ∙ sym (due-append front (a ∷ back) ∙ ap (λ as_. due front ++ as_) (due_if a true back e))
    | false ↦ λ e.
        let split : due down ≡ due front ++ a ∷ due back = due-append front (a ∷ back) ∙ ap (λ as_. due front ++ as_) (due_if a false back e) in
        let none : due front ≡ [] = no_two c x up down (due front) (due back) a one split in
        due_if a false (front ++ back) e ∙ ap (λ as_. a ∷ as_) (due-append front back ∙ ap (λ as_. as_ ++ due back) none)
        ∙ sym (split ∙ ap (λ as_. as_ ++ a ∷ due back) none)
  ] refl

same_one : (c : Client) (x : Option Exchange) (up : List ClientMsg) (down then : List Answer) → due then ≡ due down → OneExchange c x up down → OneExchange c x up then
same_one c None up before later e h = (h.0, e ∙ h.1)
same_one c (Some x) up before later e (inl h) = inl (record { message = h.message; asked = h.asked; question = h.question; silent = e ∙ h.silent })
same_one c (Some x) up before later e (inr h) = inr (record { answer = h.answer; told = e ∙ h.told; asked = h.asked; fits = h.fits })

same_answers : (front back : List Answer) (a x : Answer) → In x (a ∷ (front ++ back)) → In x (front ++ a ∷ back)
same_answers front back a x (inl e) = In-behind x front (a ∷ back) (inl e)
same_answers front back a x (inr i) = elim (In-append x front back i) as (λ _. In x (front ++ a ∷ back)) [
  | inl j ↦ In-front x front (a ∷ back) j
  | inr j ↦ In-behind x front (a ∷ back) (inr j)
]

-- ## The world

-- with these answers on their way to the session
abbrev pub with_first : Session → List Answer → World → World
with_first by down w = record w { ends = with_ends by (record (w.ends by) { down = down }) w.ends }

module _ (greatest : ℕ) (w : World) (by : Session) (front back : List Answer) (a : Answer) (order : (w.ends by).down ≡ front ++ a ∷ back) (h : WorldHolds greatest w) where
  abbrev e : Ends
  e = w.ends by

  abbrev new : Ends
  new = record e { down = a ∷ (front ++ back) }

  due_still : due new.down ≡ due e.down
  due_still = due_same e.client e.client.exchange e.up front back a (subst (λ d. OneExchange e.client e.client.exchange e.up d) order (h.exchanges by).one) ∙ ap due (sym order)

  settled_same : settled_at by new ≡ settled_at by e
  settled_same = settled_due by new.down (settled_now e.client) ∙ ap (λ as_. settled by as_ (settled_now e.client)) due_still ∙ sym (settled_due by e.down (settled_now e.client))

  own_fit : EndsFit w.server.skew greatest (sight_in w).given w.server.rows by new
  own_fit =
      let o = h.exchanges by in
      record {
        one = same_one e.client e.client.exchange e.up e.down new.down due_still o.one;
        ships = o.ships;
        front = subst (ShipsFront e.up) (sym settled_same) o.front;
        leads = o.leads;
        released = o.released;
        kinds = o.kinds;
        pairs = o.pairs;
        returns = subst (λ (d : Settled). ReturnsFit (sight_in w).given w.server.rows by e.client.view.leases d.leases) (sym settled_same) o.returns;
        renewals = λ ends end i. o.renewals ends end (subst (In (Renewed ends end)) (sym order) (same_answers front back a (Renewed ends end) i));
      }

  of_by : (P : Session → Ends → Type 0) → P by new → ((x : Session) → P x (w.ends x)) → (x : Session) → P x (with_ends by new w.ends x)
  of_by P own others = each_end P by (λ z. new) w.ends (λ x t. subst (λ y. P y new) (one_session by x t) own) (λ x t. others x)

  pub reordered : WorldHolds greatest (with_first by (a ∷ (front ++ back)) w)
  reordered =
      let same : (λ x. settled_at x (with_ends by new w.ends x)) ≡ (λ x. settled_at x (w.ends x)) = fun_ext (each_end (λ x n. settled_at x n ≡ settled_at x (w.ends x)) by (λ z. new) w.ends (λ x t. subst (λ y. settled_at y new ≡ settled_at y (w.ends y)) (one_session by x t) settled_same) (λ x t. refl)) in
      record {
        all = subst (λ (c : Session → Settled). AllHold w.server.skew greatest (sight_in w) w.replied c) (sym same) h.all;
        clock = h.clock;
        clients = of_by (λ x n. ClientFits x n.client) (h.clients by) h.clients;
        exchanges = of_by (λ x n. EndsFit w.server.skew greatest (sight_in w).given w.server.rows x n) own_fit h.exchanges;
      }
