-- Every event of a client leaves what servers keep as it is: its session waits as long as something is led for it.
use Rattle.std.proofs.Common.{◌≡◌, ◌==◌, ◌∙◌, ◌+◌, ◌≤◌, ℕ, Bool, true, false, List, cond, length, refl, sym, ap, subst, inl}
use Rattle.std.specs.Prelude.{Some}
use Rattle.fs_ident.specs.In.{In}
use Rattle.fs_ident.specs.declared.actor.Session.{Session}
use Rattle.fs_ident.proofs.Same.{one_session}
use Rattle.fs_msg.specs.declared.answer.Answer.{Answer}
use Rattle.fs_client.specs.Acts.{act_plan}
use Rattle.fs_client.specs.Answers.{answer_plan}
use Rattle.fs_client.specs.Client.{committed}
use Rattle.fs_client.specs.Turns.{turn_plan}
use Rattle.fs_client.specs.declared.led.Led.{Led}
use Rattle.fs_client.specs.declared.plan.Plan.{Plan}
use Rattle.fs_client.specs.declared.state.Client.{Client}
use Rattle.fs_server.specs.declared.state.Server.{Server}
use Rattle.fs_txn.specs.declared.leading.Leading.{Leading}
use Rattle.fs_serial.specs.Cluster.{CanCome, ClientEvent, Cluster, Lines, after_client, after_plan, is_with, without_first}
use Rattle.fs_serial.specs.Cluster.ClientEvent.{Does, Turns, Hears}
use Rattle.fs_serial.specs.Exchange.{due}
use Rattle.fs_serial.specs.KeptFiles.{FilesKept, FreezesFor}
use Rattle.fs_serial.specs.Leading.{IsLeading, IsLedBy, LeadsFor, LeavesLedClient}
use Rattle.fs_serial.specs.Owed.{ends_in}
use Rattle.fs_serial.specs.Runs.{records_in}
use Rattle.fs_serial.specs.Seen.{ClusterHolds}
use Rattle.fs_serial.specs.World.{pushed}
use Rattle.fs_serial.proofs.DecidedEffects.OwnApart.{one_each}
use Rattle.fs_serial.proofs.Paths.KeptPlaces.{kept_then, left_alike, made_pushed}
use Rattle.fs_serial.proofs.Transactions.ClientsWait.{client_waits}
use Rattle.fs_serial.proofs.WholeRuns.ClusterClients.{some_server}

module _ (skew greatest now : ℕ) (c : Cluster) (by : Session) (h : ClusterHolds skew greatest c) (f : FilesKept c) where
  pub few_one : length (ends_in c by).up + length (due (ends_in c by).down) ≤ 1
  few_one = let q = some_server c h.places in one_each skew greatest c h q.0 q.1 by

  module _ {N : Type 0} (rest : List (ℕ × Answer)) (p : Plan N) (waits : LeavesLedClient by c (after_plan by rest p c).lines) where
    abbrev then : Cluster
    then = after_plan by rest p c

    abbrev new : Lines
    new = record { client = committed p.ready (c.lines by).client; up = pushed p.out.send (c.lines by).up; down = rest }

    -- whoever has something led waits for the same
    led_still : (y : Session) (n : ℕ) (d : Led) → IsLedBy c.lines y n d → (s : Server) → In s c.servers → LeadsFor s y
        → (then.lines y).client.led ≡ Some d
    led_still y n d q s i leads = by_session (by.0 == y.0) refl
      where
        by_session : (b : Bool) → (by.0 == y.0) ≡ b → (let z : Lines = cond b new (c.lines y) in z).client.led ≡ Some d
        by_session true e =
            let its : by ≡ y = one_session by y e in
            let was : IsLedBy c.lines by n d = subst (λ z. IsLedBy c.lines z n d) (sym its) q in
            let is : IsLedBy then.lines by n d = waits n d was (s, (i, subst (LeadsFor s) (sym its) leads)) in
            sym (ap (λ b. (let z : Lines = cond b new (c.lines by) in z).client.led) (ap (λ (z : Session). by.0 == z.0) its ∙ e)) ∙ is.led
        by_session false e = q.led

    modes : (s : Server) → In s c.servers → (l : Leading) → In l s.leading → (d : Led) → (then.lines l.leader.session).client.led ≡ Some d
        → FreezesFor d.kind l.leader.mode l.leader.op
    modes s i l j d e =
        let q : IsLeading c.lines s h.led.parts l = h.led.leading s i l j in
        let both : Some d ≡ Some q.led = sym e ∙ led_still l.leader.session s.me q.led q.client s i (inl (l, (j, refl))) in
        let same : d ≡ q.led = cc in
        f.modes s i l j d (q.client.led ∙ ap Some (sym same))

    pub plan_kept : FilesKept then
    plan_kept = record {
      here = f.here;
      told = λ s i x j place effects told e n.
          kept_then (records_in c) (records_in c) c.journal (pushed p.out.admitted c.journal) x.part e
          (left_alike (records_in c) (records_in c) e refl) (made_pushed p.out.admitted c.journal) (f.told s i x j place effects told e n);
      modes = modes;
    }

  abbrev client : Client
  client = (c.lines by).client

  pub client_kept : (e : ClientEvent) → CanCome by e c → FilesKept (after_client by now e c)
  client_kept (Does o) can = plan_kept (c.lines by).down (act_plan client now o) (client_waits by c few_one now (Does o) can)
  client_kept Turns can = plan_kept (c.lines by).down (turn_plan client now) (client_waits by c few_one now Turns can)
  client_kept (Hears from a) can = plan_kept (without_first (is_with from) (c.lines by).down) (answer_plan client now from a)
      (client_waits by c few_one now (Hears from a) can)
