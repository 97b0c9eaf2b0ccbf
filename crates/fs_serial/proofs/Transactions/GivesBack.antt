-- A session gives leases back: their rows are its own, and no transaction has one.
use Rattle.std.proofs.Common.{◌≡◌, ℕ, List, sym, ◌∙◌, subst, inl, inr}
use Rattle.std.specs.Prelude.{Option, Some, None, slice_get}
use Rattle.fs_ident.specs.In.{In}
use Rattle.fs_ident.specs.declared.actor.LeaseNo.{LeaseNo}
use Rattle.fs_ident.specs.declared.actor.Session.{Session}
use Rattle.fs_field.specs.declared.row.Row.{Row}
use Rattle.fs_msg.specs.declared.answer.Answer.{Answer}
use Rattle.fs_msg.specs.declared.client_msg.ClientMsg.{ClientMsg}
use Rattle.fs_msg.specs.declared.client_msg.ClientMsg.TheVariants.{Release}
use Rattle.fs_server.specs.Pairs.{numbers_in}
use Rattle.fs_server.specs.declared.event.ServerEvent.TheVariants as event
use Rattle.fs_server.specs.declared.state.Server.{Server}
use Rattle.fs_client.specs.declared.exchange.Exchange.{Exchange}
use Rattle.fs_client.specs.declared.state.Client.{Client}
use Rattle.fs_serial.specs.Cluster.{Cluster}
use Rattle.fs_serial.specs.Exchange.{ExchangeFits, IsQuestion, IsReturned, OneExchange, ReleasesReturned}
use Rattle.fs_serial.specs.Leading.{LedHolds}
use Rattle.fs_serial.specs.Settled.{Settled}
use Rattle.fs_serial.proofs.OneServer.ServerEvents.{here_among, returned_by}
use Rattle.fs_serial.proofs.Transactions.LeavesLed.{IsUnlocked, asks_other, gives_unlocked}

-- the lease of each number that is given back goes back
goes_back : (c : Client) (x : Option Exchange) (asked : List ClientMsg) (heard : List Answer) (pairs : List (List ℕ × LeaseNo))
    → In (Release pairs) asked
    → OneExchange c x asked heard → ReleasesReturned x c.view.leases → (n : LeaseNo) → In n (numbers_in pairs) → IsReturned c.view.leases n
goes_back c None asked heard pairs i one back n j = absurd (subst (In (Release pairs)) one.0 i)
goes_back c (Some x) asked heard pairs i one back n j = elim one as (λ _. IsReturned c.view.leases n) [
  | inl q ↦ elim (subst (In (Release pairs)) q.asked i) as (λ _. IsReturned c.view.leases n) [
    | inl e ↦ returned_by c.view.leases x pairs (subst (IsQuestion x) (sym e) q.question) back n j
    | inr z ↦ absurd z
  ]
  | inr q ↦ absurd (subst (In (Release pairs)) q.asked i)
]

-- by what holds of the session's exchange, where all rows of the server are among these
module _ (skew greatest : ℕ) (given : ℕ → ℕ) (rows : List Row) (by : Session) (c : Client) (asked : List ClientMsg) (heard : List Answer)
    (now d : Settled)
    (f : ExchangeFits skew greatest given rows by c asked heard now d) (pairs : List (List ℕ × LeaseNo))
    (asks : In (Release pairs) asked) where
  pub gives_own : (n : LeaseNo) → In n (numbers_in pairs) → (r : Row) → In r rows → r.no ≡ n → r.session ≡ by
  gives_own n i r j e =
      let back = goes_back c c.exchange asked heard pairs asks f.one f.released n i in
      (f.returns back.kept back.among back.leaving).own r j (e ∙ sym back.number)

pub release_unlocked : (skew greatest : ℕ) (given : ℕ → ℕ) (rows : List Row) (by : Session) (asked : List ClientMsg) (heard : List Answer)
    (now d : Settled) (k : ℕ) (c : Cluster) (s : Server)
    → slice_get c.servers k ≡ Some s → LedHolds c → ((r : Row) → In r s.rows → In r rows)
    → ExchangeFits skew greatest given rows by (c.lines by).client asked heard now d → (pairs : List (List ℕ × LeaseNo))
    → In (Release pairs) asked
    → IsUnlocked (event.FromClient by (Release pairs)) s
release_unlocked skew greatest given rows by asked heard now d k c s at held still f pairs asks =
    gives_unlocked k c s at held by pairs (asks_other c.lines by asked heard (Release pairs) asks tt f.one)
    (λ n i r j e. gives_own skew greatest given rows by (c.lines by).client asked heard now d f pairs asks n (here_among s pairs n i) r
    (still r j) e)
