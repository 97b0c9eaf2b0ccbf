-- Parts about messages on their way between a client and its server.
use Rattle.std.specs.Prelude.{◌≡◌, ◌≢◌, ℕ, ◌+◌, ◌<◌, ◌≤◌, Bool, true, false, not, List, [], ◌∷◌, ◌++◌, length, filter, Option, Some, None, option_map, ◌⊎◌}
use Rattle.fs_ident.specs.In.{In}
use Rattle.fs_ident.specs.declared.actor.LeaseNo.{LeaseNo}
use Rattle.fs_ident.specs.declared.actor.Session.{Session}
use Rattle.fs_field.specs.declared.field.Field.{Field}
use Rattle.fs_field.specs.Field.{file_of}
use Rattle.fs_field.specs.declared.lease_kind.LeaseKind.{LeaseKind}
use Rattle.fs_field.specs.declared.row.Row.{Row}
use Rattle.fs_msg.specs.declared.answer.Answer.{Answer}
use Rattle.fs_msg.specs.declared.answer.Answer.TheVariants.{Recall, Renewed, Shipped}
use Rattle.fs_msg.specs.declared.client_msg.ClientMsg.{ClientMsg}
use Rattle.fs_msg.specs.declared.client_msg.ClientMsg.TheVariants.{Ask, Renew, Release, Ship, Lead}
use Rattle.fs_msg.specs.declared.end.End.{End}
use Rattle.fs_msg.specs.declared.entry.Entry.{Entry}
use Rattle.fs_msg.specs.declared.lead.Lead.{Lead as ToLead}
use Rattle.fs_server.specs.Asks.{kind_for}
use Rattle.fs_server.specs.Pairs.{numbers_in}
use Rattle.fs_view.specs.declared.view_lease.ViewLease.{ViewLease}
use Rattle.fs_view.specs.ViewLease.{number_of, is_leaving}
use Rattle.fs_client.specs.Answers.{answer_fits}
use Rattle.fs_client.specs.Led.{lead_of}
use Rattle.fs_client.specs.Turns.{pair_of}
use Rattle.fs_client.specs.declared.exchange.Exchange.{Exchange}
use Rattle.fs_client.specs.declared.exchange.Exchange.TheVariants.{Asks, Renews, Releases, Ships, Leads}
use Rattle.fs_client.specs.declared.led.Led.{Led}
use Rattle.fs_client.specs.declared.state.Client.{Client}
use Rattle.fs_serial.specs.Leases.{IsBacked}
use Rattle.fs_serial.specs.Settled.{Lease, Settled}
use Rattle.fs_serial.specs.Sight.{IsGiven}

-- ## One question at a time

abbrev pub is_recall : Answer → Bool
is_recall (Recall number) = true
is_recall a = false

-- the answers that are due: all but recalls
abbrev pub due : List Answer → List Answer
due answers = filter (λ a. not (is_recall a)) answers

-- the server to which the question was sent
abbrev pub server_of_question : Exchange → ℕ
server_of_question (Asks to items fresh) = to
server_of_question (Renews to numbers) = to
server_of_question (Releases to numbers) = to
server_of_question (Ships to count) = to
server_of_question (Leads to) = to

abbrev pub asked_server : Option Exchange → Option ℕ
asked_server x = option_map server_of_question x

-- the question as it was sent
abbrev pub IsQuestion : Exchange → ClientMsg → Type 0
IsQuestion (Asks to items fresh) m = m ≡ Ask items fresh
IsQuestion (Renews to numbers) (Renew pairs) = numbers_in pairs ≡ numbers
IsQuestion (Releases to numbers) (Release pairs) = numbers_in pairs ≡ numbers
IsQuestion (Ships to count) (Ship entries) = length entries ≡ count
IsQuestion (Leads to) (Lead m) = Unit {0}
IsQuestion x m = ⊥

-- the question is on its way
pub record IsAsked (x : Exchange) (up : List ClientMsg) (down : List Answer) : Type 0 where
  pub message : ClientMsg
  pub asked : up ≡ message ∷ []
  pub question : IsQuestion x message
  pub silent : due down ≡ []

-- its answer is on its way
pub record IsAnswered (c : Client) (x : Exchange) (up : List ClientMsg) (down : List Answer) : Type 0 where
  pub answer : Answer
  pub told : due down ≡ answer ∷ []
  pub asked : up ≡ []
  pub fits : answer_fits (server_of_question x) x answer c ≡ true

-- no question stands and nothing is on its way but recalls, or the question is on its way, or the one answer that fits
abbrev pub OneExchange : Client → Option Exchange → List ClientMsg → List Answer → Type 0
OneExchange c None up down = (up ≡ []) × (due down ≡ [])
OneExchange c (Some x) up down = IsAsked x up down ⊎ IsAnswered c x up down

-- no more entries are shipped than there are
abbrev pub ShipsLog : Option Exchange → List Entry → Type 0
ShipsLog (Some (Ships to count)) log = count ≤ length log
ShipsLog x log = Unit {0}

-- how many entries the answers acknowledge
abbrev pub admitted_in : List Answer → ℕ
admitted_in [] = 0
admitted_in (Shipped count e ∷ rest) = count + admitted_in rest
admitted_in (a ∷ rest) = admitted_in rest

-- ## Questions

-- what is shipped stands first in the log, and nothing was refused
pub record IsFront (entries : List Entry) (d : Settled) : Type 0 where
  pub rest : List Entry
  pub log : d.log ≡ entries ++ rest
  pub over : d.over ≡ None

abbrev pub ShipsFront : List ClientMsg → Settled → Type 0
ShipsFront up d = (entries : List Entry) → In (Ship entries) up → IsFront entries d

-- a server is asked to lead what is led
pub record IsToBeLed (stands : Option Led) (m : ToLead) : Type 0 where
  pub led : Led
  pub is : stands ≡ Some led
  pub told : m ≡ lead_of led

abbrev pub LeadsTold : List ClientMsg → Option Led → Type 0
LeadsTold up led = (m : ToLead) → In (Lead m) up → IsToBeLed led m

-- the lease goes back
pub record IsReturned (leases : List ViewLease) (wanted : LeaseNo) : Type 0 where
  pub kept : ViewLease
  pub among : In kept leases
  pub number : number_of kept.standing ≡ wanted
  pub leaving : is_leaving kept.standing ≡ true

-- until the answer has come, what was released goes back
abbrev pub ReleasesReturned : Option Exchange → List ViewLease → Type 0
ReleasesReturned (Some (Releases to numbers)) leases = (n : LeaseNo) → In n numbers → IsReturned leases n
ReleasesReturned x leases = Unit {0}

-- a lease is asked for of the kind that the server gives: on a session's handles and on what it tells of a mode an
-- exclusive one, on what others tell a shared one
abbrev pub AsksGivenKinds : List ClientMsg → Type 0
AsksGivenKinds up =
    (items : List (Field × LeaseKind)) (fresh : Option (List ℕ)) → In (Ask items fresh) up
    → (x : Field × LeaseKind) → In x items → kind_for x.0 x.1 ≡ x.1

-- ## Leases that go back, and renewals on their way

-- the number was given, and the row with it, if there is one, is on the file
pub record PairFits (given : ℕ → ℕ) (rows : List Row) (pair : List ℕ × LeaseNo) : Type 0 where
  pub known : IsGiven given pair.1
  pub place : (r : Row) → In r rows → r.no ≡ pair.1 → file_of r.field ≡ pair.0

-- a lease that goes back is such a pair, no other lease has its number, and a row with it is the session's
pub record ReturnFits (given : ℕ → ℕ) (rows : List Row) (by : Session) (leases : List Lease) (pair : List ℕ × LeaseNo) : Type 0 where
  pub fits : PairFits given rows pair
  pub alone : (l : Lease) → In l leases → l.no ≢ pair.1
  pub own : (r : Row) → In r rows → r.no ≡ pair.1 → r.session ≡ by

abbrev pub ReturnsFit : (ℕ → ℕ) → List Row → Session → List ViewLease → List Lease → Type 0
ReturnsFit given rows by kept leases =
    (k : ViewLease) → In k kept → is_leaving k.standing ≡ true → ReturnFits given rows by leases (pair_of k)

-- what is told with a number is its file
abbrev pub pairs_in : ClientMsg → List (List ℕ × LeaseNo)
pairs_in (Renew pairs) = pairs
pairs_in (Release pairs) = pairs
pairs_in m = []

abbrev pub PairsFit : (ℕ → ℕ) → List Row → List ClientMsg → Type 0
PairsFit given rows up = (m : ClientMsg) → In m up → (p : List ℕ × LeaseNo) → In p (pairs_in m) → PairFits given rows p

-- where a renewal is on its way to a lease that the client has, the row ends no sooner, or the lease has ended
abbrev pub RenewalsBacked : ℕ → ℕ → List Row → List Answer → List Lease → Type 0
RenewalsBacked skew greatest rows down leases =
    (ends : List (LeaseNo × Option ℕ)) (e : End) → In (Renewed ends e) down
    → (n : LeaseNo) (until : ℕ) → In (n, Some until) ends
    → (l : Lease) → In l leases → l.no ≡ n → greatest < until + skew → IsBacked rows n until

-- ## Together

pub record ExchangeFits (skew greatest : ℕ) (given : ℕ → ℕ) (rows : List Row) (by : Session)
    (c : Client) (up : List ClientMsg) (down : List Answer) (now d : Settled) : Type 0 where
  pub one : OneExchange c c.exchange up down
  pub ships : ShipsLog c.exchange c.log
  pub front : ShipsFront up d
  pub leads : LeadsTold up c.led
  pub released : ReleasesReturned c.exchange c.view.leases
  pub kinds : AsksGivenKinds up
  pub pairs : PairsFit given rows up
  pub returns : ReturnsFit given rows by c.view.leases d.leases
  pub renewals : RenewalsBacked skew greatest rows down now.leases
