-- A leader commits: whatever is on a path stays where it stood, since a directory that goes, or comes into another one, is kept, and so is
-- on none.
use Rattle.std.proofs.Common.{◌≡◌, ◌∙◌, ◌⊎◌, ℕ, Bool, true, false, List, [], refl, sym, ap, ap₂, subst, inl, inr}
use Rattle.std.specs.Prelude.{Some, None, is_some, option_map, slice_get, Option}
use Rattle.std.specs.FinMap.{get}
use Rattle.fs_ident.specs.Ident.{same}
use Rattle.fs_ident.specs.In.{In}
use Rattle.fs_ident.specs.declared.actor.Session.{Session}
use Rattle.fs_ident.specs.declared.kind.Kind.{Kind}
use Rattle.fs_ident.specs.declared.kind.Kind.TheVariants.{File, Dir}
use Rattle.fs_ident.proofs.Same.{same_is, same_self}
use Rattle.fs_ident.proofs.Standing.{In-filter, In-got}
use Rattle.fs_field.specs.After.{changed_file}
use Rattle.fs_field.specs.declared.effect.Effect.{Effect}
use Rattle.fs_model.specs.Sound.{IsTree, parent_of}
use Rattle.fs_model.specs.declared.op.Op.{Op}
use Rattle.fs_model.specs.declared.op.Op.TheVariants as op
use Rattle.fs_path.specs.Leases.{PathLease}
use Rattle.fs_record.specs.Applied.{records_after_all}
use Rattle.fs_record.specs.LedEffects.{led_effects}
use Rattle.fs_record.specs.Records.{RecordMap, node_of, nodes_of}
use Rattle.fs_record.proofs.NodeMaps.{node_there}
use Rattle.fs_client.specs.declared.led.Led.{Led as TheLed}
use Rattle.fs_server.specs.Concludes.{concludes}
use Rattle.fs_server.specs.LeadingLaws.{CommitSplits}
use Rattle.fs_server.specs.PathSteps.{dir_here}
use Rattle.fs_server.specs.declared.state.Server.{Server}
use Rattle.fs_txn.specs.Deciding.{commit, decision, effects_on, first_end, needs_path, reply_of, told_effects}
use Rattle.fs_txn.specs.Leading.{own_effects, own_parts}
use Rattle.fs_txn.specs.Parts.{parts_of, source_of}
use Rattle.fs_txn.specs.declared.leader.Leader.{Leader}
use Rattle.fs_txn.specs.declared.leading.Leading.{Leading}
use Rattle.fs_txn.specs.declared.mode.Mode2.{Mode2}
use Rattle.fs_txn.specs.declared.mode.Mode2.TheVariants.{Freeze}
use Rattle.fs_field.specs.declared.used.Part.{Part}
use Rattle.fs_field.specs.declared.path.PathAnswer.{PathAnswer}
use Rattle.fs_serial.specs.Cluster.{Cluster}
use Rattle.fs_serial.specs.Conclusions.{TellsCycles, after_concluded}
use Rattle.fs_serial.specs.Fresh.{made}
use Rattle.fs_serial.specs.KeptFiles.{FilesKept, FreezesFor}
use Rattle.fs_serial.specs.Leading.{IsLeading, LedHolds, StaysIn}
use Rattle.fs_serial.specs.PathLaws.{IsKeptThere}
use Rattle.fs_serial.specs.Paths.{IsOnPath, PathsHold, has_record}
use Rattle.fs_serial.specs.Runs.{held_by}
use Rattle.fs_serial.specs.Seen.{ClusterHolds, world_of}
use Rattle.fs_serial.specs.World.{sight_in}
use Rattle.fs_serial.proofs.DecidedEffects.CommitKeeps.{answer, held_after}
use Rattle.fs_serial.proofs.DecidedEffects.CommitSeen.{told_some}
use Rattle.fs_serial.proofs.DecidedEffects.HeldSeen.{held_same, held_seen}
use Rattle.fs_serial.proofs.LedOperations.Committing.{IsNamed, kind_there}
use Rattle.fs_serial.proofs.Paths.Alike.{on_path}
use Rattle.fs_serial.proofs.Paths.FilesStay.{effects_leave}
use Rattle.fs_serial.proofs.Paths.Kept.{kept_is_on_none}
use Rattle.fs_serial.proofs.Paths.MovedFiles.{IsWithin, LeavesRecord, led_effect, move_leaves_file, move_leaves_record}
use Rattle.fs_serial.proofs.Paths.MovedFiles.{records_left, within_leaves_place, within_leaves_record}
use Rattle.fs_serial.proofs.Paths.OffPaths.{made_on_path}
use Rattle.fs_serial.proofs.Paths.Source.{kept_at_source}
use Rattle.fs_serial.proofs.Paths.SourceParts.{in_source}
use Rattle.fs_serial.proofs.Paths.Standing.{paths_stand}
use Rattle.fs_serial.proofs.Transactions.FullCommits.{full_named, is_plain}
use Rattle.fs_serial.proofs.Transactions.Tables.{In_some}
use Rattle.fs_serial.proofs.Transactions.Agreements.{IsClear}

-- what moves or goes is a file, or stays in its directory, or is kept until all is decided
abbrev pub KeepsPlaces : TheLed → Leader → Type 0
KeepsPlaces d l = (d.kind ≡ File) ⊎ (IsWithin l.op ⊎ (l.mode ≡ Freeze))

places_kept : (kind : Kind) (mode : Mode2) (o : Op) → FreezesFor kind mode o → (kind ≡ File) ⊎ StaysIn o
    → (kind ≡ File) ⊎ (IsWithin o ⊎ (mode ≡ Freeze))
places_kept kind mode o f (inl e) = inl e
places_kept kind mode (op.Delete dir name) (inl e) (inr w) = inl e
places_kept kind mode (op.Delete dir name) (inr e) (inr w) = inr (inr e)
places_kept kind mode (op.Rename sdir sname ddir dname) f (inr w) = inr (inl w)
places_kept kind mode o f (inr w) = absurd w

module _ (k skew greatest : ℕ) (c : Cluster) (s : Server) (at : slice_get c.servers k ≡ Some s) (h : ClusterHolds skew greatest c)
    (kept : FilesKept c) (p : PathsHold c) (l : Leading) (there : In l s.leading) (yes : first_end l.leader.votes ≡ None)
    (path : Option PathAnswer) (tells : TellsCycles c l path)
    (clear : needs_path l.leader.mode l.leader.op ≡ true → IsClear l.leader path)
    (decided_so : decision l.leader path ≡ commit l.leader (reply_of l.leader.op)) where
  here : In s c.servers
  here = In-got c.servers k s at

  abbrev pub leads : IsLeading c.lines s h.led.parts l
  leads = h.led.leading s (In-got c.servers k s at) l there

  abbrev d : TheLed
  d = leads.led

  abbrev file : List ℕ
  file = l.leader.file

  abbrev o : Op
  o = l.leader.op

  abbrev es : List Effect
  es = led_effects o file (reply_of o)

  same_held : held_by c ≡ held_seen c
  same_held = held_same c h.led

  abbrev by : Session
  by = l.leader.session

  committed : IsNamed (sight_in (world_of s c)) by d.entry d.file
  committed = full_named k skew greatest c s at h l there yes

  -- it stands in the directory that loses a name
  stands : dir_here (held_by c) file ≡ Some (source_of o)
  stands =
      let held : RecordMap = held_seen c in
      let tree : IsTree (nodes_of held) = (h.parts s here).0.all.kept.sound.space.tree in
      let q = in_source (nodes_of held) d.entry.op d.file committed.moves committed.named in
      let place : parent_of (node_of (get held d.file)) ≡ Some (source_of d.entry.op, q.0) =
      sym (ap parent_of (node_there held d.file)) ∙ (tree.agreeing (source_of d.entry.op) q.0 d.file).0 q.1 in
      ap₂ (λ (r : RecordMap) (f : List ℕ). dir_here r f) same_held leads.leader.file
      ∙ ap (option_map (λ (x : List ℕ × List ℕ). x.0)) place ∙ ap (λ (x : Op). Some (source_of x)) (sym leads.leader.op)

  -- ## What it moves

  kind_made : made c.journal file ≡ Some d.kind
  kind_made = ap (made c.journal) leads.leader.file
      ∙ (h.parts s here).0.all.kept.made d.file d.kind (kind_there (held_seen c) by d (answer k skew greatest c s at h l there yes path tells clear decided_so))

  -- a file is on no path, nor is what is kept
  pub on_none : (d.kind ≡ File) ⊎ (l.leader.mode ≡ Freeze) → IsOnPath c.servers file → ⊥
  on_none (inl e) on =
      let wrong : Some File ≡ Some Dir = ap Some (sym e) ∙ sym kind_made ∙ made_on_path c file p on in
      absurd (cc wrong)
  on_none (inr e) on =
      let parts : l.leader.parts ≡ parts_of o file d.entry.uses Freeze =
      leads.leader.parts ∙ ap (parts_of d.entry.op d.file d.entry.uses) e
      ∙ ap₂ (λ (x : Op) (f : List ℕ). parts_of x f d.entry.uses Freeze) (sym leads.leader.op) (sym leads.leader.file) in
      let q : IsKeptThere c file (source_of o) = kept_at_source skew greatest c h kept s here l there yes d.entry.uses parts in
      kept_is_on_none c q.place q.server file (source_of o) (paths_stand skew greatest c h kept) p q.there q.stands q.has q.kept on

  keeps : KeepsPlaces d l.leader
  keeps = by (needs_path l.leader.mode l.leader.op) refl
    where
      by : (b : Bool) → needs_path l.leader.mode l.leader.op ≡ b → KeepsPlaces d l.leader
      by true n = inr (inr (clear n).freezes)
      by false n =
          places_kept d.kind l.leader.mode l.leader.op (kept.modes s here l there d leads.client.led)
          (subst (λ (x : Op). (d.kind ≡ File) ⊎ StaysIn x) (sym leads.leader.op) (is_plain k skew greatest c s at h l there yes n))

  -- what is on a path is another file, or moves within its directory
  other_or_within : (f : List ℕ) → IsOnPath c.servers f → (file ≡ f → ⊥) ⊎ ((file ≡ f) × IsWithin o)
  other_or_within f on = by (same file f) refl keeps
    where
      by : (b : Bool) → same file f ≡ b → KeepsPlaces d l.leader → (file ≡ f → ⊥) ⊎ ((file ≡ f) × IsWithin o)
      by false e keeps = inl (λ q. let wrong : true ≡ false = sym (same_self file) ∙ ap (same file) q ∙ e in absurd (cc wrong))
      by true e (inl is) = absurd (on_none (inl is) (subst (IsOnPath c.servers) (sym (same_is file f e)) on))
      by true e (inr (inl w)) = inr (same_is file f e, w)
      by true e (inr (inr is)) = absurd (on_none (inr is) (subst (IsOnPath c.servers) (sym (same_is file f e)) on))

  -- ## What all hold

  abbrev then : Cluster
  then = after_concluded k l path s c

  module _ (splits : CommitSplits) (led : LedHolds then) where
    held_then : held_by then ≡ records_after_all (held_by c) es
    held_then =
        held_same then led ∙ held_after k skew greatest c s at h l there yes path tells clear decided_so splits led
        ∙ ap (λ (r : RecordMap). records_after_all r es) (sym same_held)

    pub places_stay : (f : List ℕ) → IsOnPath c.servers f → dir_here (held_by then) f ≡ dir_here (held_by c) f
    places_stay f on =
        ap (λ (r : RecordMap). dir_here r f) held_then
        ∙ elim (other_or_within f on) as (λ _. dir_here (records_after_all (held_by c) es) f ≡ dir_here (held_by c) f) [
          | inl off ↦ (effects_leave (held_by c) f es (λ e i. move_leaves_file file f off e (led_effect o file e i))).dir
          | inr its ↦ subst (λ (g : List ℕ). dir_here (records_after_all (held_by c) es) g ≡ dir_here (held_by c) g) its.0
              (within_leaves_place (held_by c) o file its.1 stands)
        ]

  -- ## What the server has

  -- each effect on a part of its own is one of the operation
  own_among : (e : Effect) → In e (own_effects s.me l (commit l.leader (reply_of o))) → In e es
  own_among e i =
      let q = In_some (λ (n : ℕ × ℕ). told_effects (commit l.leader (reply_of o)) n.0) e (own_parts s.me l) i in
      let r = told_some (λ (x : Part). effects_on es x.file) l.leader.parts (q.0).0 e q.1.1 in
      In-filter (λ x. same (changed_file x) (r.0).file) e es r.1.1

  leaves_record : (f : List ℕ) → IsOnPath c.servers f → (e : Effect) → In e es → LeavesRecord f e
  leaves_record f on e i = elim (other_or_within f on) as (λ _. LeavesRecord f e) [
    | inl off ↦ move_leaves_record file f off e (led_effect o file e i)
    | inr its ↦ within_leaves_record o file f its.1 e i
  ]

  pub records_stay : (lease : PathLease) (f : List ℕ) → In lease s.paths.issued → In f lease.path
      → has_record (concludes l path [] s).server f ≡ has_record s f
  records_stay lease f i among =
      ap (λ x. is_some (get (records_after_all s.records (own_effects s.me l x)) f)) decided_so
      ∙ records_left s.records f (own_effects s.me l (commit l.leader (reply_of o)))
      (λ e j. leaves_record f (on_path c s lease f here i among) e (own_among e j))
