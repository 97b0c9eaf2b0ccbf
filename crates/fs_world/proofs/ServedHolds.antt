-- What holds of a world of the servers form between events, and what a client's event makes of it.
use Rattle.std.proofs.Common.{◌≡◌, ℕ, ◌≤◌, ◌==◌, max, Bool, true, false, cond, List, [], ◌∷◌, ◌++◌, length, inl, refl, ap, sym, ◌∙◌, subst}
use Rattle.std.proofs.Common.{arith}
use Rattle.std.proofs.lemmas.List.{append-nil}
use Rattle.std.specs.Prelude.{Option, Some, None}
use Rattle.std.specs.FinMap.{get, insert}
use mathlib.Core.Path.{fun_ext}
use Rattle.fs_ident.specs.In.{In}
use Rattle.fs_ident.specs.declared.actor.Session.{Session}
use Rattle.fs_ident.proofs.Same.{one_session}
use Rattle.fs_msg.specs.declared.answer.Answer.{Answer}
use Rattle.fs_msg.specs.declared.item.Item.{Item}
use Rattle.fs_client.specs.Client.{committed}
use Rattle.fs_client.specs.declared.plan.Plan.{Plan}
use Rattle.fs_server.specs.declared.state.Server.{Server}
use Rattle.fs_serial.specs.Cluster.{CanCome, ClientEvent, Cluster, Lines, after_client, after_plan, with_lines}
use Rattle.fs_serial.specs.Owed.{ends_in, ends_with, owed_to}
use Rattle.fs_serial.specs.World.{Ends, pushed, told_by, with_ends, with_told}
use Rattle.fs_serial.proofs.Lists.Traffic.{messages}
use Rattle.fs_serial.specs.declared.in_flight.InFlight.{InFlight}
use Rattle.fs_world.specs.Linked.{AreOfJoined, HasJoined}
use Rattle.fs_world.specs.Order.{Leads, Tale, ReplyGiven}
use Rattle.fs_world.specs.Parts.{lines_in, lines_of}
use Rattle.fs_world.specs.Served.{SessionStates, first_session_state}
use Rattle.fs_world.specs.declared.servers.session_state.SessionState.{SessionState}
use Rattle.fs_world.proofs.Fine.{AllFine, MayBeFine, fine_pushed}
use Rattle.fs_world.proofs.Seen.{joined_still, lines_joined, lines_put, lines_same}
use Rattle.fs_world.proofs.SerialLaws.{EventLaws}
use Rattle.fs_world.proofs.Coming.{led_after, led_then}
use Rattle.fs_world.proofs.RepliesGiven.{AllTelling, TellsOf, told_more}
use Rattle.fs_world.proofs.SeenRows.{BringsOf, brings_still}

-- what a world has that servers and sessions know of: so many servers, the sessions, the messages between servers, the journal
pub record Parts : Type 0 where
  pub term : ℕ
  pub servers : List Server
  pub sessions : SessionStates
  pub in_flight : List InFlight
  pub journal : List Item

abbrev pub cluster_of : (Session → List Item) → Parts → Cluster
cluster_of replied p = record {
  servers = p.servers;
  in_flight = p.in_flight;
  journal = p.journal;
  replied = replied;
  lines =
      lines_of p.term p.sessions;
}

-- of these parts of a world of so many servers in which this was told, where no reading was greater
pub record Holds (laws : EventLaws) (count skew greatest : ℕ) (tale : Tale) (p : Parts) : Type 0 where
  pub replied : Session → List Item
  pub cluster : laws.Holds skew greatest (cluster_of replied p)
  pub many : length p.servers ≡ count
  pub rows : (s : Server) → In s p.servers → AreOfJoined p.sessions s.rows
  pub parcels : (f : InFlight) → In f p.in_flight → BringsOf (HasJoined p.sessions) f.message
  pub answered : AllTelling (ends_in (cluster_of replied p)) replied tale
  pub items : AllFine p.journal

-- the ends of a session are those of its lines
ends_one : (servers : List Server) (s x : Session) (n : Lines) (lines : Session → Lines) (b : Bool) → (s.0 == x.0) ≡ b
    → ends_with x servers (cond b n (lines x)) ≡ cond b (ends_with s servers n) (ends_with x servers (lines x))
ends_one servers s x n lines true e = ap (λ (y : Session). ends_with y servers n) (sym (one_session s x e))
ends_one servers s x n lines false e = refl

pub ends_put : (servers : List Server) (s : Session) (n : Lines) (lines : Session → Lines)
    → (λ x. ends_with x servers (with_lines s n lines x)) ≡ with_ends s (ends_with s servers n) (λ x. ends_with x servers (lines x))
ends_put servers s n lines = fun_ext (λ x. ends_one servers s x n lines (s.0 == x.0) refl)

-- there is a server
pub a_server : (servers : List Server) → 1 ≤ length servers → (s : Server) × In s servers
a_server [] some = absurd (omega arith)
a_server (s ∷ ss) some = (s, inl refl)

-- where nothing was told
abbrev pub untold : Tale → Tale
untold tale = record { told = tale.told ++ []; leads = tale.leads }

pub holds_untold : (laws : EventLaws) (count skew greatest : ℕ) (tale : Tale) (p : Parts) → Holds laws count skew greatest tale p
    → Holds laws count skew greatest (untold tale) p
holds_untold laws count skew greatest tale p h = subst (λ ts. let t : Tale = record { told = ts; leads = tale.leads } in
    Holds laws count skew greatest t p) (sym (append-nil tale.told)) h

abbrev pub with_sessions : SessionStates → Parts → Parts
with_sessions sessions p = record p { sessions = sessions }

module _ (laws : EventLaws) (count skew greatest : ℕ) (tale : Tale) (p : Parts) (h : Holds laws count skew greatest tale p) where
  pub holds_later : (later : ℕ) → greatest ≤ later → Holds laws count skew later tale p
  holds_later later rises = record {
    replied = h.replied;
    cluster = laws.rises skew greatest later (cluster_of h.replied p) rises h.cluster;
    many = h.many;
    rows = h.rows;
    parcels = h.parcels;
    answered = h.answered;
    items = h.items;
  }

  -- other sessions, with the same lines
  pub holds_with_sessions : (sessions : SessionStates) → ((x : Session) → HasJoined p.sessions x → HasJoined sessions x)
      → lines_of p.term sessions ≡ lines_of p.term p.sessions → Holds laws count skew greatest tale (with_sessions sessions p)
  holds_with_sessions sessions stay same = record {
    replied = h.replied;
    cluster = subst (λ (lines : Session → Lines). laws.Holds skew greatest (record {
      servers = p.servers;
      in_flight =
          p.in_flight;
      journal = p.journal;
      replied = h.replied;
      lines = lines;
    })) (sym same) h.cluster;
    many = h.many;
    rows = λ s i row j. stay row.session (h.rows s i row j);
    parcels = λ f i. brings_still (HasJoined p.sessions) (HasJoined sessions) stay f.message (h.parcels f i);
    answered = subst (λ (lines : Session → Lines). AllTelling (λ x. ends_with x p.servers (lines x)) h.replied tale) (sym same) h.answered;
    items = h.items;
  }

  -- a session joins
  pub holds_joined : (s : Session) → get p.sessions s.0 ≡ None
      → Holds laws count skew greatest tale (with_sessions (insert p.sessions s.0 (first_session_state p.term s)) p)
  holds_joined s none = holds_with_sessions (insert p.sessions s.0 (first_session_state p.term s))
      (λ x i. joined_still p.sessions s x (first_session_state p.term s) i) (lines_joined p.term p.sessions s none)

  module _ (s : Session) (state : SessionState) (at : get p.sessions s.0 ≡ Some state) where
    -- nothing but its links changes at a session
    pub holds_posted : (next : SessionState) → lines_in p.term s (Some next) ≡ lines_in p.term s (Some state)
        → Holds laws count skew greatest tale (with_sessions (insert p.sessions s.0 next) p)
    holds_posted next e = holds_with_sessions (insert p.sessions s.0 next) (λ x i. joined_still p.sessions s x next i)
        (lines_same p.term p.sessions s state next at e)

    -- ## A client's event

    pub own : lines_of p.term p.sessions s ≡ lines_in p.term s (Some state)
    own = ap (lines_in p.term s) at

    -- what is owed stands in front of what is on its way
    abbrev pub coming : List (ℕ × Answer) → List Answer
    coming down = owed_to s p.servers ++ messages down

    -- the session's ends where this is its state
    abbrev ends_for : SessionState → Ends
    ends_for next = ends_with s p.servers (lines_in p.term s (Some next))

    -- the session's lines after a plan
    abbrev pub planned : {N : Type 0} → List (ℕ × Answer) → Plan N → Lines
    planned rest plan = record { client = committed plan.ready state.client; up = pushed plan.out.send state.up; down = rest }

    abbrev after : Option Item → (Session → List Item) → (Session → Lines) → Cluster
    after admitted replied lines = record {
      servers = p.servers;
      in_flight = p.in_flight;
      journal = pushed admitted p.journal;
      replied =
          replied;
      lines = lines;
    }

    plan_seen : {N : Type 0} (rest : List (ℕ × Answer)) (plan : Plan N) (next : SessionState)
        → lines_in p.term s (Some next) ≡ planned rest plan
        → after_plan s rest plan (cluster_of h.replied p) ≡ after plan.out.admitted
        (with_told s (told_by s plan.ready.change plan.out.admitted) h.replied) (lines_of p.term (insert p.sessions s.0 next))
    plan_seen rest plan next e =
        ap (λ (lines : Session → Lines). after plan.out.admitted (with_told s (told_by s plan.ready.change plan.out.admitted) h.replied)
        lines)
        (ap (λ (n : Lines). with_lines s (record {
          client = committed plan.ready n.client;
          up = pushed plan.out.send n.up;
          down =
              rest;
        }) (lines_of p.term p.sessions)) own
        ∙ ap (λ (n : Lines). with_lines s n (lines_of p.term p.sessions)) (sym e)
        ∙ sym (lines_put p.term p.sessions s next))

    module _ (now : ℕ) (within : laws.Within skew greatest now) where
      abbrev pub with_plan : SessionState → Option Item → Parts
      with_plan next admitted = record p { sessions = insert p.sessions s.0 next; journal = pushed admitted p.journal }

      pub client_holds : {N : Type 0} (event : ClientEvent) (rest : List (ℕ × Answer)) (plan : Plan N) (next : SessionState)
          (new : List ReplyGiven) (leads : Leads) → after_client s now event (cluster_of h.replied p) ≡ after_plan s rest plan
          (cluster_of h.replied p)
          → CanCome s event (cluster_of h.replied p) → lines_in p.term s (Some next) ≡ planned rest plan
          → MayBeFine plan.out.admitted
          → TellsOf s state.client.led (led_after plan.ready.change state.client.led) (coming state.down) (coming rest)
          (told_by s plan.ready.change plan.out.admitted) new tale.leads leads
          → Holds laws count skew (max greatest now) (record { told = tale.told ++ new; leads = leads }) (with_plan next plan.out.admitted)
      client_holds event rest plan next new leads does can e fine tells = record {
        replied = with_told s (told_by s plan.ready.change plan.out.admitted) h.replied;
        cluster = subst (λ (c : Cluster). laws.Holds skew (max greatest now) c) (does ∙ plan_seen rest plan next e)
            (laws.rises skew greatest (max greatest now) (after_client s now event (cluster_of h.replied p)) (omega arith)
            (laws.client skew greatest now (cluster_of h.replied p) s h.cluster event can within));
        many = h.many;
        rows = λ x i row j. joined_still p.sessions s row.session next (h.rows x i row j);
        parcels = λ f i. brings_still (HasJoined p.sessions) (HasJoined (insert p.sessions s.0 next))
            (λ x y. joined_still p.sessions s x next y) f.message (h.parcels f i);
        answered =
            subst (λ (ends : Session → Ends). AllTelling ends (with_told s o h.replied) (record { told = tale.told ++ new; leads = leads }))
            (sym ends_then)
            (told_more s (ends_for next) (ends_in (cluster_of h.replied p)) h.replied tale o new leads h.answered there);
        items = fine_pushed plan.out.admitted p.journal fine h.items;
      }
        where
          o : Option Item
          o = told_by s plan.ready.change plan.out.admitted

          ends_then : ends_in (cluster_of (with_told s o h.replied) (with_plan next plan.out.admitted))
              ≡ with_ends s (ends_for next) (ends_in (cluster_of h.replied p))
          ends_then =
              ap (λ (lines : Session → Lines). λ (x : Session). ends_with x p.servers (lines x)) (lines_put p.term p.sessions s next)
              ∙ ends_put p.servers s (lines_in p.term s (Some next)) (lines_of p.term p.sessions)

          then : TellsOf s state.client.led (ends_for next).client.led (coming state.down) (ends_for next).down o new tale.leads leads
          then =
              subst (λ (n : Lines). TellsOf s state.client.led n.client.led (coming state.down) (coming n.down) o new tale.leads leads)
              (sym e)
              (subst (λ d. TellsOf s state.client.led d (coming state.down) (coming rest) o new tale.leads leads)
              (sym (led_then plan.ready state.client)) tells)

          there : TellsOf s (lines_of p.term p.sessions s).client.led (ends_for next).client.led
              (coming (lines_of p.term p.sessions s).down) (ends_for next).down o new tale.leads leads
          there =
              subst (λ (l : Lines).
              TellsOf s l.client.led (ends_for next).client.led (coming l.down) (ends_for next).down o new tale.leads leads)
              (sym own) then
