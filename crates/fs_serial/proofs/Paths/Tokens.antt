-- What is told of path leases, apart from what their paths are: each has a number of its own and is in one place; and how a step keeps it.
use Rattle.std.proofs.Common.{◌≡◌, ◌≤◌, ◌+◌, ◌==◌, ℕ, Bool, true, false, List, [], ◌++◌, append-nil, arith, refl, ap, sym, ◌∙◌, subst, inl, inr}
use Rattle.std.specs.Prelude.{◌⊎◌, Some, slice_get}
use Rattle.std.specs.List.{find}
use Rattle.std.proofs.lemmas.Bool.{eqb-true}
use Rattle.fs_ident.specs.In.{In}
use Rattle.fs_ident.specs.declared.actor.PathNo.{PathNo}
use Rattle.fs_ident.specs.declared.kind.Kind.TheVariants.{Dir}
use Rattle.fs_ident.proofs.Same.{itself}
use Rattle.fs_ident.proofs.Standing.{In-append}
use Rattle.fs_msg.specs.declared.peer_msg.PeerMsg.{PeerMsg}
use Rattle.fs_msg.specs.declared.peer_msg.PeerMsg.TheVariants.{PathAsk, PathGrant, PathNo as Denied, PathRelease}
use Rattle.fs_path.specs.Laws.{AreGiven}
use Rattle.fs_path.specs.Leases.{PathLease, has_no}
use Rattle.fs_path.specs.Tables.{lease_of}
use Rattle.fs_path.specs.declared.having.Having.{Having}
use Rattle.fs_server.specs.Server.{Stepped}
use Rattle.fs_server.specs.declared.event.ServerEvent.{ServerEvent}
use Rattle.fs_server.specs.declared.event.ServerEvent.TheVariants as event
use Rattle.fs_server.specs.declared.state.Server.{Server}
use Rattle.fs_serial.specs.Cluster.{Cluster, InFlight, after_step, in_flight_from, is_between, without_arrived}
use Rattle.fs_serial.specs.Fresh.{made}
use Rattle.fs_serial.specs.Paths.{IsOut, PathsHold, SaysPath, has_path, holders}
use Rattle.fs_serial.proofs.Lists.SetAt.{get_here, get_other, get_set, In_set, In_without}
use Rattle.fs_serial.proofs.Paths.Counting.{IsNobodys, had, holders_then, no_itself, no_like, on_way, on_way_more}

pub record TokensKept (c : Cluster) : Type 0 where
  pub numbered : (k : ℕ) (s : Server) → slice_get c.servers k ≡ Some s → s.me ≡ k
  pub given : (s : Server) → In s c.servers → AreGiven s.me s.paths_given s.paths.issued
  pub single : (s : Server) → In s c.servers → (l : PathLease) → In l s.paths.issued → find (has_no l.no) s.paths.issued ≡ Some l
  pub says : (f : InFlight) → In f c.in_flight → SaysPath c f.from f.to f.message
  pub held : (k : ℕ) (s : Server) → slice_get c.servers k ≡ Some s → (h : Having) → In h s.paths.held
      → IsOut c (lease_of h).peer (record (lease_of h) { peer = k })
  pub once : (number : PathNo) → holders number c.servers c.in_flight ≤ 1

pub tokens_of : (c : Cluster) → PathsHold c → TokensKept c
tokens_of c h = record { numbered = h.numbered; given = h.given; single = h.single; says = h.says; held = h.held; once = h.once }

-- ## What a message says stays said

abbrev StayOut : Cluster → Cluster → PeerMsg → Type 0
StayOut c later m = (j : ℕ) (l : PathLease) → has_path l.no m ≡ true → IsOut c j l → IsOut later j l

abbrev pub StayMade : Cluster → Cluster → Type 0
StayMade c later = (f : List ℕ) → made c.journal f ≡ Some Dir → made later.journal f ≡ Some Dir

pub says_then : (c later : Cluster) (from to : ℕ) (m : PeerMsg) → StayMade c later → StayOut c later m → SaysPath c from to m → SaysPath later from to m
says_then c later from to (PathAsk file dir) still out y = still file y
says_then c later from to (Denied file w) still out y = still file y
says_then c later from to (PathGrant number file path) still out y = out from (record { no = number; peer = to; file = file; path = path }) (no_itself number) y
says_then c later from to (PathRelease number) still out y =
    (y.0, (y.1.0, (y.1.1.0, out to y.0 (no_like number y.0.no (sym y.1.0)) y.1.1.1)))
says_then c later from to m still out y = tt

-- ## A step

-- what a step of one server does to leases
pub record GoesOn (k : ℕ) (e : ServerEvent) (s : Server) (x : Stepped) (c later : Cluster) : Type 0 where
  pub me : x.server.me ≡ s.me
  pub journal : StayMade c later
  pub given : AreGiven x.server.me x.server.paths_given x.server.paths.issued
  pub single : (l : PathLease) → In l x.server.paths.issued → find (has_no l.no) x.server.paths.issued ≡ Some l
  -- what was given out still is, unless nobody has it
  pub stays : (l : PathLease) → In l s.paths.issued → In l x.server.paths.issued ⊎ IsNobodys l.no c.servers (without_arrived k e c.in_flight)
  pub sent : (f : InFlight) → In f (in_flight_from k x.out.send) → SaysPath later f.from f.to f.message
  pub held : (h : Having) → In h x.server.paths.held → IsOut later (lease_of h).peer (record (lease_of h) { peer = k })
  pub once : (number : PathNo) → holders number later.servers later.in_flight ≤ 1

-- a server's lease is given out where it was
pub out_then : (c : Cluster) (k : ℕ) (e : ServerEvent) (s : Server) (x : Stepped) (j : ℕ) (l : PathLease) → slice_get c.servers k ≡ Some s → IsOut c j l
    → (In l s.paths.issued → In l x.server.paths.issued) → IsOut (after_step k e x c) j l
out_then c k e s x j l at o keeps = by (j == k) refl
  where
    by : (b : Bool) → (j == k) ≡ b → IsOut (after_step k e x c) j l
    by true q =
        let same : j ≡ k = eqb-true j k q in
        let its : Some o.server ≡ Some s = sym o.there ∙ ap (slice_get c.servers) same ∙ at in
        let is : o.server ≡ s = cc its in
        record {
          server = x.server;
          there = ap (slice_get (after_step k e x c).servers) same ∙ get_here c.servers k s x.server at;
          issued = keeps (subst (λ (t : Server). In l t.paths.issued) is o.issued);
        }
    by false q =
        let other : k ≡ j → ⊥ = λ z. let wrong : true ≡ false = sym (itself k) ∙ ap (λ i. i == k) z ∙ q in absurd (cc wrong) in
        record { server = o.server; there = get_other c.servers k j x.server other ∙ o.there; issued = o.issued }

still_there : (k : ℕ) (e : ServerEvent) (fs : List InFlight) (f : InFlight) → In f (without_arrived k e fs) → In f fs
still_there k (event.FromPeer from m) fs f i = In_without (is_between from k) fs f i
still_there k e fs f i = i

module _ (c : Cluster) (k : ℕ) (e : ServerEvent) (s : Server) (x : Stepped) (t : TokensKept c) (at : slice_get c.servers k ≡ Some s) (g : GoesOn k e s x c (after_step k e x c)) where
  abbrev later : Cluster
  later = after_step k e x c

  -- what somebody has is given out where it was
  had_out : (j : ℕ) (l : PathLease) → (IsNobodys l.no c.servers (without_arrived k e c.in_flight) → ⊥) → IsOut c j l → IsOut later j l
  had_out j l had o = out_then c k e s x j l at o
      (λ i. elim (g.stays l i) as (λ _. In l x.server.paths.issued) [ inl q ↦ q | inr q ↦ absurd (had q) ])

  says_still : (f : InFlight) → In f (without_arrived k e c.in_flight) → SaysPath later f.from f.to f.message
  says_still f i = says_then c later f.from f.to f.message g.journal
      (λ j l h o. had_out j l (λ n. let wrong : true ≡ false = sym h ∙ n.unsent f i in absurd (cc wrong)) o)
      (t.says f (still_there k e c.in_flight f i))

  held_still : (j : ℕ) (y : Server) → slice_get c.servers j ≡ Some y → (h : Having) → In h y.paths.held
      → IsOut later (lease_of h).peer (record (lease_of h) { peer = j })
  held_still j y here h i = had_out (lease_of h).peer (record (lease_of h) { peer = j })
      (λ n. let wrong : true ≡ false = sym (no_itself (lease_of h).no) ∙ n.unheld j y here h i in absurd (cc wrong))
      (t.held j y here h i)

  pub tokens_go_on : TokensKept later
  tokens_go_on = record {
    numbered = λ j y h. elim (get_set c.servers k j x.server y h) as (λ _. y.me ≡ j) [
      | inl q ↦ ap (λ (z : Server). z.me) q.1 ∙ g.me ∙ t.numbered k s at ∙ q.0
      | inr h ↦ t.numbered j y h
    ];
    given = λ y i. elim (In_set c.servers k x.server y i) as (λ _. AreGiven y.me y.paths_given y.paths.issued) [
      | inl q ↦ subst (λ (z : Server). AreGiven z.me z.paths_given z.paths.issued) (sym q) g.given
      | inr j ↦ t.given y j
    ];
    single = λ y i. elim (In_set c.servers k x.server y i) as (λ _. (l : PathLease) → In l y.paths.issued → find (has_no l.no) y.paths.issued ≡ Some l) [
      | inl q ↦ subst (λ (z : Server). (l : PathLease) → In l z.paths.issued → find (has_no l.no) z.paths.issued ≡ Some l) (sym q) g.single
      | inr j ↦ t.single y j
    ];
    says = λ f i. elim (In-append f (without_arrived k e c.in_flight) (in_flight_from k x.out.send) i) as (λ _. SaysPath later f.from f.to f.message) [
      | inl j ↦ says_still f j
      | inr j ↦ g.sent f j
    ];
    held = λ j y here. elim (get_set c.servers k j x.server y here) as
        (λ _. (h : Having) → In h y.paths.held → IsOut later (lease_of h).peer (record (lease_of h) { peer = j })) [
          | inl q ↦ λ h i. subst (λ n. IsOut later (lease_of h).peer (record (lease_of h) { peer = n })) q.0
              (g.held h (subst (λ (z : Server). In h z.paths.held) q.1 i))
          | inr was ↦ held_still j y was
        ];
    once = g.once;
  }

-- ## Counted

-- a step that gives no lease away more than it takes
pub once_then : (c : Cluster) (k : ℕ) (e : ServerEvent) (s : Server) (x : Stepped) → TokensKept c → slice_get c.servers k ≡ Some s
    → (n : PathNo)
    → on_way n (without_arrived k e c.in_flight) + on_way n (in_flight_from k x.out.send) + had n x.server.paths.held
    ≤ on_way n c.in_flight + had n s.paths.held
    → holders n (after_step k e x c).servers (after_step k e x c).in_flight ≤ 1
once_then c k e s x t at n few =
    let all = holders_then n c.servers k s x.server c.in_flight (after_step k e x c).in_flight at in
    let sum = on_way_more n (without_arrived k e c.in_flight) (in_flight_from k x.out.send) in
    let one = t.once n in
    omega (arith, all, sum, one, few)

-- where nothing is admitted, what was made stays made
pub nothing_made : (c then_c : Cluster) → then_c.journal ≡ c.journal ++ [] → StayMade c then_c
nothing_made c then_c e f m = subst (λ j. made j f ≡ Some Dir) (sym (e ∙ append-nil c.journal)) m
