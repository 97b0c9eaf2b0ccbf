-- Every event of a client keeps all that holds of paths: servers and their messages stay, and the journal only grows.
use Rattle.std.proofs.Common.{◌≡◌, ℕ, List, refl}
use Rattle.std.specs.Prelude.{Some}
use Rattle.fs_ident.specs.declared.actor.Session.{Session}
use Rattle.fs_ident.specs.declared.kind.Kind.TheVariants.{Dir}
use Rattle.fs_msg.specs.declared.answer.Answer.{Answer}
use Rattle.fs_msg.specs.declared.item.Item.{Item}
use Rattle.fs_client.specs.Acts.{act_plan}
use Rattle.fs_client.specs.Answers.{answer_plan}
use Rattle.fs_client.specs.Turns.{turn_plan}
use Rattle.fs_client.specs.declared.plan.Plan.{Plan}
use Rattle.fs_path.specs.Leases.{PathLease}
use Rattle.fs_path.specs.Tables.{lease_of}
use Rattle.fs_serial.specs.Cluster.{ClientEvent, Cluster, Does, Hears, Lines, Turns, after_client, after_plan, is_with, without_first}
use Rattle.fs_serial.specs.Fresh.{made}
use Rattle.fs_serial.specs.Paths.{IsOut, PathsHold}
use Rattle.fs_serial.specs.Runs.{held_by}
use Rattle.fs_serial.specs.World.{pushed}
use Rattle.fs_serial.proofs.Paths.Alike.{keeps_same, true_alike}
use Rattle.fs_serial.proofs.OtherSessions.Gone.{dirs_pushed}
use Rattle.fs_serial.proofs.Paths.Tokens.{says_then}

-- ## Servers and their messages stay

module _ (c : Cluster) (journal : List Item) (replied : Session → List Item) (lines : Session → Lines)
    (still : (f : List ℕ) → made c.journal f ≡ Some Dir → made journal f ≡ Some Dir) (h : PathsHold c) where
  abbrev later : Cluster
  later = record { servers = c.servers; in_flight = c.in_flight; journal = journal; replied = replied; lines = lines }

  out_still : (from : ℕ) (l : PathLease) → IsOut c from l → IsOut later from l
  out_still from l o = record { server = o.server; there = o.there; issued = o.issued }

  pub paths_later : PathsHold later
  paths_later = record {
    numbered = h.numbered;
    given = h.given;
    single = h.single;
    says = λ f i. says_then c later f.from f.to f.message still (λ j l has o. out_still j l o) (h.says f i);
    held = λ k s at x i. out_still (lease_of x).peer (record (lease_of x) { peer = k }) (h.held k s at x i);
    once = h.once;
    truth = λ s i l j. true_alike (held_by c) (held_by later) c.journal journal s s l (λ f m. refl) still (keeps_same s s l refl refl refl)
        (h.truth s i l j);
  }

-- ## Every event

pub plan_keeps : {N : Type 0} (by : Session) (rest : List (ℕ × Answer)) (p : Plan N) (c : Cluster) → PathsHold c
    → PathsHold (after_plan by rest p c)
plan_keeps by rest p c h =
    paths_later c (pushed p.out.admitted c.journal) (after_plan by rest p c).replied (after_plan by rest p c).lines
    (λ f m. dirs_pushed p.out.admitted c.journal f m) h

pub clients_keep_paths : (by : Session) (now : ℕ) (e : ClientEvent) (c : Cluster) → PathsHold c → PathsHold (after_client by now e c)
clients_keep_paths by now (Does o) c h = plan_keeps by (c.lines by).down (act_plan (c.lines by).client now o) c h
clients_keep_paths by now Turns c h = plan_keeps by (c.lines by).down (turn_plan (c.lines by).client now) c h
clients_keep_paths by now (Hears from a) c h =
    plan_keeps by (without_first (is_with from) (c.lines by).down) (answer_plan (c.lines by).client now from a) c h
