-- What servers know of paths tells which renames would make a cycle; and it tells it still when a server has begun.
use Rattle.std.proofs.Common.{◌≡◌, ◌&&◌, ℕ, Bool, true, false, refl, sym, ap, ◌∙◌, subst, cond, inl, inr}
use Rattle.std.specs.Prelude.{Option, Some, None, is_some, slice_get}
use Rattle.std.specs.FinMap.{empty, get}
use Rattle.std.proofs.lemmas.Option.{none-some, same_Some}
use Rattle.fs_ident.proofs.Booleans.{both}
use Rattle.fs_field.specs.declared.path.PathAnswer.{PathAnswer}
use Rattle.fs_field.specs.declared.path.PathAnswer.TheVariants.{Path}
use Rattle.fs_model.specs.Ancestors.{is_on_chain}
use Rattle.fs_model.specs.Asking.{home_of}
use Rattle.fs_record.specs.Records.{nodes_of}
use Rattle.fs_server.specs.Concludes.{path_for}
use Rattle.fs_server.specs.PathsHere.{path_here}
use Rattle.fs_server.specs.Server.{begun}
use Rattle.fs_server.specs.declared.state.Server.{Server}
use Rattle.fs_txn.specs.Decided.{held_with}
use Rattle.fs_txn.specs.Deciding.{has_file, needs_path}
use Rattle.fs_txn.specs.declared.leading.Leading.{Leading}
use Rattle.fs_serial.specs.Cluster.{Cluster, parcels_of}
use Rattle.fs_serial.specs.Conclusions.{PathsTell, TellsCycles}
use Rattle.fs_serial.specs.Joined.{effects_on_way, with_parcels}
use Rattle.fs_serial.specs.Paths.{PathsHold, PathsStand}
use Rattle.fs_serial.specs.Runs.{held_by}
use Rattle.fs_serial.proofs.Lists.SetAt.{get_set}
use Rattle.fs_serial.proofs.Paths.OnChains.{taken_tells_cycles}
use Rattle.fs_serial.proofs.Returns.Lapsing.{begun_at, same_records}

pub paths_tell : (c : Cluster) → PathsStand c → PathsHold c → PathsTell c
paths_tell c stand h k s l at made_dir files known =
    by (needs_path l.leader.mode l.leader.op && is_some (get s.records (home_of l.leader.op))) refl known
  where
    by : (b : Bool) → (needs_path l.leader.mode l.leader.op && is_some (get s.records (home_of l.leader.op))) ≡ b
        → cond b (Some (path_here s (home_of l.leader.op))) None ≡ Some (Path files)
        → has_file files l.leader.file ≡ is_on_chain (nodes_of (held_by c)) l.leader.file (home_of l.leader.op)
    by true e is = taken_tells_cycles c k s l.leader.file (home_of l.leader.op) files stand h at made_dir (both _ _ e).1
        (same_Some (path_here s (home_of l.leader.op)) (Path files) is)
    by false e is = absurd (none-some (Path files) is)

-- ## A server has begun

module _ (now k : ℕ) (s : Server) (c : Cluster) (at : slice_get c.servers k ≡ Some s) where
  abbrev later : Cluster
  later = begun_at now k s c

  held_then : held_by later ≡ held_by c
  held_then = ap (λ m. held_with (effects_on_way c.in_flight) (with_parcels (parcels_of c.in_flight) m))
      (same_records c.servers k s (begun now s) empty at refl)

  still : (l : Leading) (path : Option PathAnswer) → TellsCycles c l path → TellsCycles later l path
  still l path tells made_dir files known =
      tells made_dir files known ∙ ap (λ m. is_on_chain (nodes_of m) l.leader.file (home_of l.leader.op)) (sym held_then)

  pub begun_tells : PathsTell c → PathsTell later
  begun_tells tell j t l there = elim (get_set c.servers k j (begun now s) t there) as
      (λ _. TellsCycles later l (path_for l.leader.mode l.leader.op t)) [
        | inl q ↦ subst (λ (z : Server). TellsCycles later l (path_for l.leader.mode l.leader.op z)) (sym q.1)
            (still l (path_for l.leader.mode l.leader.op s) (tell k s l at))
        | inr q ↦ still l (path_for l.leader.mode l.leader.op t) (tell j t l q)
      ]
