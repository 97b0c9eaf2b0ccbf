-- A server refuses no entry but for a lease that had ended, also while transactions are on their way.
use Rattle.std.proofs.Common.{◌≡◌, ℕ, ◌+◌, ◌≤◌, max, true, false, List, [], cond, refl, sym, ap, ◌∙◌, subst, arith}
use Rattle.std.specs.Prelude.{Some, slice_get}
use Rattle.std.specs.List.{list_all}
use Rattle.fs_ident.specs.In.{In}
use Rattle.fs_ident.specs.declared.actor.Session.{Session}
use Rattle.fs_ident.proofs.Passing.{found}
use Rattle.fs_ident.proofs.Standing.{In-front, In-got, In-mapped}
use Rattle.fs_field.specs.declared.row.Row.{Row}
use Rattle.fs_msg.specs.declared.client_msg.ClientMsg.{ClientMsg}
use Rattle.fs_msg.specs.declared.client_msg.ClientMsg.TheVariants.{Ship}
use Rattle.fs_msg.specs.declared.entry.Entry.{Entry}
use Rattle.fs_record.specs.Effects.{tells_its_effects}
use Rattle.fs_server.specs.Server.{begun, strange}
use Rattle.fs_server.specs.Ships.{ship_from, ship_step, shipped}
use Rattle.fs_server.specs.Step.{event_step, step}
use Rattle.fs_server.specs.declared.event.ServerEvent.{ServerEvent}
use Rattle.fs_server.specs.declared.event.ServerEvent.TheVariants as event
use Rattle.fs_server.specs.declared.out.ServerOut.{ServerOut}
use Rattle.fs_server.specs.declared.state.Server.{Server}
use Rattle.fs_server.proofs.OneByOne.{ships_leave}
use Rattle.fs_serial.specs.Cluster.{Cluster, IsThere, after_step, is_with}
use Rattle.fs_serial.specs.Owed.{ends_in, taken_leads}
use Rattle.fs_serial.specs.Refusals.{IsFairNote, IsFairStep, rows_in}
use Rattle.fs_serial.specs.Seen.{ClusterHolds, with_all, world_of}
use Rattle.fs_serial.specs.Words.{decided_in}
use Rattle.fs_serial.proofs.Admission.Ended.{fair_ship}
use Rattle.fs_serial.proofs.Lists.SetAt.{get_here, set_twice}
use Rattle.fs_serial.proofs.Lists.Traffic.{messages}
use Rattle.fs_serial.proofs.OneServer.SameStep.{IsSameStep, begun_in}
use Rattle.fs_serial.proofs.Returns.Lapsing.{begun_at}
use Rattle.fs_serial.proofs.Transactions.OtherSteps.{begins_stands}
use Rattle.fs_serial.proofs.WholeRuns.ClusterRuns.{cluster_later}

-- a log changes no row
log_rows : (by : Session) (es : List Entry) (s : Server) → (ship_step by es s).server.rows ≡ s.rows
log_rows by es s = elim (list_all (λ (e : Entry). tells_its_effects e.op) es) as
    (λ b. (cond b (shipped by (ship_from by es s [])) (strange s)).server.rows ≡ s.rows) [
      | true ↦ ap (λ (t : Server). t.rows) (ships_leave by es s [])
      | false ↦ refl
    ]

-- one that has begun
begun_fair : (skew greatest k : ℕ) (by : Session) (entries : List Entry) (s : Server) (c : Cluster) → slice_get c.servers k ≡ Some s
    → greatest ≤ s.last + skew → IsThere k (event.FromClient by (Ship entries)) c → ClusterHolds skew greatest c
    → IsFairNote (rows_in (after_step k (event.FromClient by (Ship entries)) (event_step (event.FromClient by (Ship entries)) s) c))
    by s.last entries (event_step (event.FromClient by (Ship entries)) s).out.note
begun_fair skew greatest k by entries s c at within there h =
    let e : ServerEvent = event.FromClient by (Ship entries) in
    let i = In-got c.servers k s at in
    let view = h.parts s i in
    let coming : In (Ship entries) (ends_in c by).up =
    In-front (Ship entries) (messages (c.lines by).up) (taken_leads by (c.lines by).client.led c.servers)
    (In-mapped (λ (n : ℕ × ClientMsg). n.1) (k, Ship entries) (c.lines by).up
    (found (is_with k) (c.lines by).up (k, Ship entries) there).0) in
    let same : IsSameStep k e s (event_step e s) (event_step e (with_all s c)) c =
    begun_in greatest k c s e at h.places (decided_in c) (ends_in c) view.0 coming tt (λ z. absurd (cc)) in
    let near : greatest ≤ s.last + s.skew = subst (λ n. greatest ≤ s.last + n) (sym (h.skewed s i)) within in
    let fair : IsFairNote (with_all s c).rows by s.last entries (ship_step by entries (with_all s c)).out.note =
    fair_ship greatest (world_of s c) by entries coming near view.0 in
    let rows : rows_in (after_step k e (event_step e s) c) ≡ (with_all s c).rows =
    sym (ap (λ (t : Server). t.rows) same.server) ∙ log_rows by entries (with_all s c) in
    subst (λ (rs : List Row). IsFairNote rs by s.last entries (event_step e s).out.note) (sym rows)
    (subst (λ (o : ServerOut). IsFairNote (with_all s c).rows by s.last entries o.note) (sym same.out) fair)

pub fair : (skew greatest now k : ℕ) (by : Session) (entries : List Entry) (s : Server) (c : Cluster) → slice_get c.servers k ≡ Some s
    → greatest ≤ now + skew → IsThere k (event.FromClient by (Ship entries)) c → ClusterHolds skew greatest c
    → IsFairStep now k by entries s c
fair skew greatest now k by entries s c at within there h =
    let e : ServerEvent = event.FromClient by (Ship entries) in
    let later : ℕ = max greatest (max s.last now) in
    let x = step s now e in
    let begun_now : Cluster = begun_at now k s c in
    let clock : s.last ≤ greatest = (h.parts s (In-got c.servers k s at)).0.clock in
    let held = begins_stands skew later now k s c at (omega arith) (cluster_later skew greatest later c (omega arith) h) in
    let near : later ≤ max s.last now + skew = omega arith in
    let told = begun_fair skew later k by entries (begun now s) begun_now (get_here c.servers k s (begun now s) at) near there held in
    let after : Cluster = after_step k e x c in
    subst (λ (ss : List Server). IsFairNote (rows_in (record after { servers = ss })) by (max s.last now) entries x.out.note)
    (set_twice c.servers k (begun now s) x.server) told
