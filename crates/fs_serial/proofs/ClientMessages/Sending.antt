-- Answers are put on their way.
use Rattle.std.proofs.Common.{◌≡◌, ℕ, ◌≤◌, ◌==◌, not, Bool, true, false, List, [], ◌∷◌, ◌++◌, cond, refl, sym, ap, ◌∙◌, subst, inl, inr, append-nil}
use Rattle.std.specs.Prelude.{Option, Some, None}
use Rattle.std.specs.List.{find}
use Rattle.std.proofs.lemmas.List.Elements.{filter-append}
use mathlib.Core.Path.{fun_ext}
use Rattle.fs_ident.specs.In.{In}
use Rattle.fs_ident.specs.declared.actor.LeaseNo.{LeaseNo}
use Rattle.fs_ident.specs.declared.actor.Peer.{Peer}
use Rattle.fs_ident.specs.declared.actor.Session.{Session}
use Rattle.fs_ident.proofs.Standing.{In-map, In-append}
use Rattle.fs_ident.proofs.Same.{one_session}
use Rattle.fs_field.specs.declared.row.Row.{Row}
use Rattle.fs_field.specs.Table.{has_no}
use Rattle.fs_msg.specs.declared.answer.Answer.{Answer}
use Rattle.fs_msg.specs.declared.answer.Answer.TheVariants.{Renewed, Recall}
use Rattle.fs_msg.specs.declared.client_msg.ClientMsg.{ClientMsg}
use Rattle.fs_msg.specs.declared.end.End.{End}
use Rattle.fs_msg.specs.declared.end.End.TheVariants.{Wait}
use Rattle.fs_msg.specs.declared.item.Item.{Item}
use Rattle.fs_msg.specs.declared.msg.Msg.{Msg}
use Rattle.fs_server.specs.Asks.{recall_of, recalls_at}
use Rattle.fs_server.specs.Reaps.{recalls_for}
use Rattle.fs_server.specs.Server.{to_session}
use Rattle.fs_server.specs.Step.{recalls_of}
use Rattle.fs_server.specs.declared.state.Server.{Server}
use Rattle.fs_txn.specs.Grants.{Decided}
use Rattle.fs_client.specs.Answers.{answer_fits}
use Rattle.fs_client.specs.declared.exchange.Exchange.{Exchange}
use Rattle.fs_client.specs.declared.state.Client.{Client}
use Rattle.fs_serial.specs.Client.{ClientFits}
use Rattle.fs_serial.specs.Exchange.{due, is_recall, ExchangeFits, IsQuestion, OneExchange, PairsFit, RenewalsBacked, ReturnsFit, ShipsFront, server_of_question}
use Rattle.fs_serial.specs.Leases.{IsBacked}
use Rattle.fs_serial.specs.Parts.{AllHold, with_client}
use Rattle.fs_serial.specs.Settled.{Settled, settled, settled_now, told}
use Rattle.fs_serial.specs.Sight.{sight_with}
use Rattle.fs_serial.specs.World.{Ends, GoesOn, World, WorldHolds, settled_at, sight_in, with_answer, with_sent, without_question}
use Rattle.fs_serial.proofs.OtherSessions.Older.{IsLater, later_pairs}
use Rattle.fs_serial.proofs.ClientMessages.Settling.{stays}
use Rattle.fs_serial.proofs.OtherSessions.Together.{its_client, other_client}

-- ## One answer more

pub settled-push : (by : Session) (answers : List Answer) (a : Answer) (d : Settled) → settled by (answers ++ a ∷ []) d ≡ told by a (settled by answers d)
settled-push by [] a d = refl
settled-push by (b ∷ rest) a d = settled-push by rest a (told by b d)

pub due-push : (answers : List Answer) (a : Answer) → due (answers ++ a ∷ []) ≡ due answers ++ due (a ∷ [])
due-push answers a = filter-append (λ a. not (is_recall a)) answers (a ∷ [])

due_one : (a : Answer) → is_recall a ≡ false → due (a ∷ []) ≡ a ∷ []
due_one a h = ap (λ b. cond (not b) (a ∷ []) []) h

-- what holds of the two ends of one session
abbrev pub EndsFit : ℕ → ℕ → (ℕ → ℕ) → List Row → Session → Ends → Type 0
EndsFit skew greatest given rows x e = ExchangeFits skew greatest given rows x e.client e.up e.down (settled_now e.client) (settled_at x e)

-- what holds of each session's ends where one session's change
pub each_end : (P : Session → Ends → Type 0) (to : Session) (f : Ends → Ends) (ends : Session → Ends) → ((x : Session) → (to.0 == x.0) ≡ true → P x (f (ends x))) → ((x : Session) → (to.0 == x.0) ≡ false → P x (ends x)) → (x : Session) → P x (cond (to.0 == x.0) (f (ends x)) (ends x))
each_end P to f ends own others x = elim (to.0 == x.0) as (λ b. (to.0 == x.0) ≡ b → P x (cond b (f (ends x)) (ends x))) [
  | true ↦ λ t. own x t
  | false ↦ λ t. others x t
] refl

-- ## What holds between events holds while one goes on

pub goes_of : (greatest : ℕ) (w : World) → WorldHolds greatest w → GoesOn w.server.skew greatest (sight_in w) w.replied w.ends (λ x. settled_at x (w.ends x))
goes_of greatest w h = record {
  all = h.all;
  carried = record {
    returns = λ x. (h.exchanges x).returns;
    renewals = λ x. (h.exchanges x).renewals;
    later = λ x l i. let q = stays x (w.ends x).down (settled_now (w.ends x).client) l i in record { lease = q.lease; held = q.held; number = q.number };
  };
}

-- the ends stay, and only what stands at the server has changed
pub fit_still : (skew greatest later_greatest : ℕ) (given then : ℕ → ℕ) (rows new : List Row) (x : Session) (e : Ends) → PairsFit then new e.up → ReturnsFit then new x e.client.view.leases (settled_at x e).leases → RenewalsBacked skew later_greatest new e.down (settled_now e.client).leases
    → EndsFit skew greatest given rows x e → EndsFit skew later_greatest then new x e
fit_still skew greatest later_greatest given then rows new x e pairs returns renewals h = record {
  one = h.one;
  ships = h.ships;
  front = h.front;
  leads = h.leads;
  released = h.released;
  kinds = h.kinds;
  pairs = pairs;
  returns = returns;
  renewals = renewals;
}

-- the server changed, and nothing is on its way
pub world_still : (greatest : ℕ) (w : World) (t : Server) (journal : List Item) → t.skew ≡ w.server.skew → t.last ≤ greatest → IsLater (sight_in w).given (sight_with w.counts w.decided t journal).given w.server.rows t.rows → GoesOn w.server.skew greatest (sight_with w.counts w.decided t journal) w.replied w.ends (λ x. settled_at x (w.ends x)) → WorldHolds greatest w
    → WorldHolds greatest (record { server = t; counts = w.counts; decided = w.decided; journal = journal; replied = w.replied; ends = w.ends })
world_still greatest w t journal skew clock later goes h = record {
  all = subst (λ k. AllHold k greatest (sight_with w.counts w.decided t journal) w.replied (λ x. settled_at x (w.ends x))) (sym skew) goes.all;
  clock = clock;
  clients = h.clients;
  exchanges = λ x. subst (λ k. EndsFit k greatest (sight_with w.counts w.decided t journal).given t.rows x (w.ends x)) (sym skew)
      (fit_still w.server.skew greatest greatest (sight_in w).given (sight_with w.counts w.decided t journal).given w.server.rows t.rows x (w.ends x) (later_pairs (sight_in w).given (sight_with w.counts w.decided t journal).given w.server.rows t.rows later (w.ends x).up (h.exchanges x).pairs) (goes.carried.returns x) (goes.carried.renewals x) (h.exchanges x));
}

-- ## A lease is asked back

abbrev recalled : LeaseNo → Ends → Ends
recalled n e = record { client = e.client; up = e.up; down = e.down ++ Recall n ∷ [] }

settled_recalled : (x : Session) (n : LeaseNo) (e : Ends) → settled_at x (recalled n e) ≡ settled_at x e
settled_recalled x n e = settled-push x e.down (Recall n) (settled_now e.client)

one_recalled : (c : Client) (x : Option Exchange) (up : List ClientMsg) (down : List Answer) (n : LeaseNo) → OneExchange c x up down → OneExchange c x up (down ++ Recall n ∷ [])
one_recalled c None up down n h = (h.0, due-push down (Recall n) ∙ append-nil (due down) ∙ h.1)
one_recalled c (Some x) up down n (inl a) = inl (record { message = a.message; asked = a.asked; question = a.question; silent = due-push down (Recall n) ∙ append-nil (due down) ∙ a.silent })
one_recalled c (Some x) up down n (inr a) = inr (record { answer = a.answer; told = due-push down (Recall n) ∙ append-nil (due down) ∙ a.told; asked = a.asked; fits = a.fits })

fit_recalled : (skew greatest : ℕ) (given : ℕ → ℕ) (rows : List Row) (x : Session) (n : LeaseNo) (e : Ends) → EndsFit skew greatest given rows x e → EndsFit skew greatest given rows x (recalled n e)
fit_recalled skew greatest given rows x n e h = record {
  one = one_recalled e.client e.client.exchange e.up e.down n h.one;
  ships = h.ships;
  front = subst (ShipsFront e.up) (sym (settled_recalled x n e)) h.front;
  leads = h.leads;
  released = h.released;
  kinds = h.kinds;
  pairs = h.pairs;
  returns = subst (λ (d : Settled). ReturnsFit given rows x e.client.view.leases d.leases) (sym (settled_recalled x n e)) h.returns;
  renewals = λ ends end i number until j l k q late. elim (In-append (Renewed ends end) e.down (Recall n ∷ []) i) as (λ _. IsBacked rows number until) [
    | inl o ↦ h.renewals ends end o number until j l k q late
    | inr o ↦ elim o as (λ _. IsBacked rows number until) [ inl z ↦ absurd (cc) | inr z ↦ absurd z ]
  ];
}

pub world_recalled : (greatest : ℕ) (w : World) (to : Session) (n : LeaseNo) → WorldHolds greatest w → WorldHolds greatest (record { server = w.server; counts = w.counts; decided = w.decided; journal = w.journal; replied = w.replied; ends = with_answer to (Recall n) w.ends })
world_recalled greatest w to n h =
    let same : (λ x. settled_at x (with_answer to (Recall n) w.ends x)) ≡ (λ x. settled_at x (w.ends x)) = fun_ext (each_end (λ x e. settled_at x e ≡ settled_at x (w.ends x)) to (recalled n) w.ends (λ x t. settled_recalled x n (w.ends x)) (λ x t. refl)) in
    record {
      all = subst (λ (c : Session → Settled). AllHold w.server.skew greatest (sight_in w) w.replied c) (sym same) h.all;
      clock = h.clock;
      clients = each_end (λ x e. ClientFits x e.client) to (recalled n) w.ends (λ x t. h.clients x) (λ x t. h.clients x);
      exchanges = each_end (λ x e. EndsFit w.server.skew greatest (sight_in w).given w.server.rows x e) to (recalled n) w.ends
          (λ x t. fit_recalled w.server.skew greatest (sight_in w).given w.server.rows x n (w.ends x) (h.exchanges x))
          (λ x t. h.exchanges x);
    }

pub record IsRecallTo (m : Peer × Msg) : Type 0 where
  pub to : Session
  pub number : LeaseNo
  pub message : m ≡ to_session to (Recall number)

-- the lease is asked back from the session of its row, where it has one
recall_at : (number : LeaseNo) (o : Option Row) (m : Peer × Msg) → In m (recall_of number o) → IsRecallTo m
recall_at number None m i = absurd i
recall_at number (Some row) m i = elim i as (λ _. IsRecallTo m) [ inl e ↦ record { to = row.session; number = number; message = e } | inr z ↦ absurd z ]

pub recall_with : (e : End) (rows : List Row) (m : Peer × Msg) → In m (recalls_at e rows) → IsRecallTo m
recall_with (Wait blocker) rows m i = recall_at blocker (find (has_no blocker) rows) m i
recall_with e rows m i = absurd i

pub recall_each : (rows : List Row) (ns : List LeaseNo) (m : Peer × Msg) → In m (recalls_for rows ns) → IsRecallTo m
recall_each rows [] m i = absurd i
recall_each rows (n ∷ ns) m i = elim (In-append m (recall_of n (find (has_no n) rows)) (recalls_for rows ns) i) as (λ _. IsRecallTo m) [ inl j ↦ recall_at n (find (has_no n) rows) m j | inr j ↦ recall_each rows ns m j ]

pub recall_all : (leases : List (LeaseNo × Session)) (m : Peer × Msg) → In m (recalls_of leases) → IsRecallTo m
recall_all leases m i = let q = In-map (λ (x : LeaseNo × Session). to_session x.1 (Recall x.0)) m leases i in record { to = q.0.1; number = q.0.0; message = q.1.1 }

pub world_all_recalled : (greatest : ℕ) (w : World) (messages : List (Peer × Msg)) → ((m : Peer × Msg) → In m messages → IsRecallTo m) → WorldHolds greatest w → WorldHolds greatest (record { server = w.server; counts = w.counts; decided = w.decided; journal = w.journal; replied = w.replied; ends = with_sent messages w.ends })
world_all_recalled greatest w [] are h = h
world_all_recalled greatest w (m ∷ rest) are h =
    let q = are m (inl refl) in
    subst (λ (k : Peer × Msg). WorldHolds greatest (record { server = w.server; counts = w.counts; decided = w.decided; journal = w.journal; replied = w.replied; ends = with_sent (k ∷ rest) w.ends })) (sym q.message)
    (world_all_recalled greatest (record { server = w.server; counts = w.counts; decided = w.decided; journal = w.journal; replied = w.replied; ends = with_answer q.to (Recall q.number) w.ends }) rest (λ k i. are k (inr i)) (world_recalled greatest w q.to q.number h))

-- ## A question is answered

-- the question that is on its way
pub record IsOpen (c : Client) (down : List Answer) (m : ClientMsg) : Type 0 where
  pub exchange : Exchange
  pub stands : c.exchange ≡ Some exchange
  pub question : IsQuestion exchange m
  pub silent : due down ≡ []

open_one : (c : Client) (x : Option Exchange) (up : List ClientMsg) (down : List Answer) (m : ClientMsg) → c.exchange ≡ x → up ≡ m ∷ [] → OneExchange c x up down → IsOpen c down m
open_one c None up down m e u h = let z : up ≡ [] = h.0 in absurd (cc)
open_one c (Some x) up down m e u (inl a) = let z = a.asked in let same : a.message ≡ m = cc in record { exchange = x; stands = e; question = subst (IsQuestion x) same a.question; silent = a.silent }
open_one c (Some x) up down m e u (inr a) = let z = a.asked in absurd (cc)

abbrev taken : Answer → Ends → Ends
taken a e = record { client = e.client; up = []; down = e.down ++ a ∷ [] }

module _ (greatest : ℕ) (w : World) (t : Server) (journal : List Item) (by : Session) (m : ClientMsg) (a : Answer) (up : (w.ends by).up ≡ m ∷ []) (h : WorldHolds greatest w) where
  abbrev base : Session → Settled
  base x = settled_at x (w.ends x)

  pub asked : IsOpen (w.ends by).client (w.ends by).down m
  asked = open_one (w.ends by).client (w.ends by).client.exchange (w.ends by).up (w.ends by).down m refl up (h.exchanges by).one

  both : {X : Type 0} (b : Bool) (f g : X → X) (x : X) → cond b (f (cond b (g x) x)) (cond b (g x) x) ≡ cond b (f (g x)) x
  both true f g x = refl
  both false f g x = refl

  ends_are : with_answer by a (without_question by w.ends) ≡ (λ x. cond (by.0 == x.0) (taken a (w.ends x)) (w.ends x))
  ends_are = fun_ext (λ x. both (by.0 == x.0) (λ (e : Ends). let y : Ends = record e { down = e.down ++ a ∷ [] } in y) (λ (e : Ends). let y : Ends = record e { up = [] } in y) (w.ends x))

  settled_are : (λ (x : Session). settled_at x (cond (by.0 == x.0) (taken a (w.ends x)) (w.ends x))) ≡ with_client by (told by a (base by)) base
  settled_are = fun_ext (each_end (λ x e. settled_at x e ≡ with_client by (told by a (base by)) base x) by (taken a) w.ends
      (λ x q. settled-push x (w.ends x).down a (settled_now (w.ends x).client) ∙ subst (λ y. told y a (base y) ≡ with_client by (told by a (base by)) base y) (one_session by x q) (sym (its_client by (told by a (base by)) base)))
      (λ x q. sym (other_client by x (told by a (base by)) base q)))

  module _ (ds : List Decided) (replied : Session → List Item) (skew : t.skew ≡ w.server.skew) (clock : t.last ≤ greatest) (later_then : IsLater (sight_in w).given (sight_with w.counts ds t journal).given w.server.rows t.rows) (goes : GoesOn w.server.skew greatest (sight_with w.counts ds t journal) replied w.ends (with_client by (told by a (base by)) base)) (answers : is_recall a ≡ false) (fits : (x : Exchange) → (w.ends by).client.exchange ≡ Some x → IsQuestion x m → answer_fits (server_of_question x) x a (w.ends by).client ≡ true) (renewals : (ends : List (LeaseNo × Option ℕ)) (e : End) → a ≡ Renewed ends e → (n : LeaseNo) (until : ℕ) → In (n, Some until) ends → IsBacked t.rows n until) where
    own_fit : EndsFit w.server.skew greatest (sight_with w.counts ds t journal).given t.rows by (taken a (w.ends by))
    own_fit =
        let e = w.ends by in
        let o = h.exchanges by in
        record {
          one = subst (λ x. OneExchange e.client x [] (e.down ++ a ∷ [])) (sym asked.stands) (inr (record {
            answer = a;
            told = due-push e.down a ∙ ap (λ as_. as_ ++ due (a ∷ [])) asked.silent ∙ due_one a answers;
            asked = refl;
            fits = fits asked.exchange asked.stands asked.question;
          }));
          ships = o.ships;
          front = λ entries i. absurd i;
          leads = λ m i. absurd i;
          released = o.released;
          kinds = λ items fresh i. absurd i;
          pairs = λ m i. absurd i;
          returns = subst (λ (d : Settled). ReturnsFit (sight_with w.counts ds t journal).given t.rows by e.client.view.leases d.leases) (its_client by (told by a (base by)) base ∙ sym (settled-push by e.down a (settled_now e.client))) (goes.carried.returns by);
          renewals = λ ends end i number until j l k q late. elim (In-append (Renewed ends end) e.down (a ∷ []) i) as (λ _. IsBacked t.rows number until) [
            | inl old ↦ goes.carried.renewals by ends end old number until j l k q late
            | inr new ↦ elim new as (λ _. IsBacked t.rows number until) [ inl z ↦ renewals ends end (sym z) number until j | inr z ↦ absurd z ]
          ];
        }

    other_fit : (x : Session) → (by.0 == x.0) ≡ false → EndsFit w.server.skew greatest (sight_with w.counts ds t journal).given t.rows x (w.ends x)
    other_fit x q = fit_still w.server.skew greatest greatest (sight_in w).given (sight_with w.counts ds t journal).given w.server.rows t.rows x (w.ends x)
        (later_pairs (sight_in w).given (sight_with w.counts ds t journal).given w.server.rows t.rows later_then (w.ends x).up (h.exchanges x).pairs)
        (subst (λ (d : Settled). ReturnsFit (sight_with w.counts ds t journal).given t.rows x (w.ends x).client.view.leases d.leases) (other_client by x (told by a (base by)) base q) (goes.carried.returns x))
        (goes.carried.renewals x) (h.exchanges x)

    pub world_answered : WorldHolds greatest (record { server = t; counts = w.counts; decided = ds; journal = journal; replied = replied; ends = with_answer by a (without_question by w.ends) })
    world_answered = subst (λ (ends : Session → Ends). WorldHolds greatest (record { server = t; counts = w.counts; decided = ds; journal = journal; replied = replied; ends = ends })) (sym ends_are) (record {
      all = subst (λ k. AllHold k greatest (sight_with w.counts ds t journal) replied (λ (x : Session). settled_at x (cond (by.0 == x.0) (taken a (w.ends x)) (w.ends x)))) (sym skew)
          (subst (λ (c : Session → Settled). AllHold w.server.skew greatest (sight_with w.counts ds t journal) replied c) (sym settled_are) goes.all);
      clock = clock;
      clients = each_end (λ x e. ClientFits x e.client) by (taken a) w.ends (λ x q. h.clients x) (λ x q. h.clients x);
      exchanges = subst (λ k. (x : Session) → EndsFit k greatest (sight_with w.counts ds t journal).given t.rows x (cond (by.0 == x.0) (taken a (w.ends x)) (w.ends x))) (sym skew)
          (each_end (λ x e. EndsFit w.server.skew greatest (sight_with w.counts ds t journal).given t.rows x e) by (taken a) w.ends
          (λ x q. subst (λ y. EndsFit w.server.skew greatest (sight_with w.counts ds t journal).given t.rows y (taken a (w.ends y))) (one_session by x q) own_fit)
          other_fit);
    })
