-- A transaction of which all parts said Yes commits, by what the path of its home tells where its decision stands on that.
use Rattle.std.proofs.Common.{◌≡◌, ◌⊎◌, ℕ, sym, ap, ◌∙◌, subst, inl, inr, Bool, ap₂, false, true, refl}
use Rattle.std.specs.Prelude.{Some, None, slice_get, Option}
use Rattle.fs_ident.specs.In.{In}
use Rattle.fs_ident.specs.declared.actor.Session.{Session}
use Rattle.fs_ident.specs.declared.kind.Kind.TheVariants.{Dir, File}
use Rattle.fs_ident.proofs.Standing.{In-got}
use Rattle.fs_model.specs.declared.op.Op.{Op}
use Rattle.fs_model.specs.declared.op.Op.TheVariants as op
use Rattle.fs_model.specs.declared.reply.Reply.TheVariants as reply
use Rattle.fs_model.specs.Sound.{IsSound}
use Rattle.fs_model.specs.Asking.{home_of}
use Rattle.fs_model.specs.Ancestors.{is_on_chain}
use Rattle.fs_client.specs.declared.led.Led.{Led as TheLed}
use Rattle.fs_server.specs.declared.state.Server.{Server}
use Rattle.fs_field.specs.declared.vote.Vote.TheVariants.{Yes}
use Rattle.fs_field.specs.declared.path.PathAnswer.{PathAnswer}
use Rattle.fs_txn.specs.Deciding.{first_end, needs_path}
use Rattle.fs_txn.specs.declared.leading.Leading.{Leading}
use Rattle.fs_serial.specs.Cluster.{Cluster}
use Rattle.fs_serial.specs.Commits.{IsCommitted}
use Rattle.fs_serial.specs.Conclusions.{TellsCycles}
use Rattle.fs_serial.specs.Led.{LedStands}
use Rattle.fs_serial.specs.Leading.{ComesInto, IsLeading, IsLedBy, StaysIn}
use Rattle.fs_serial.specs.Owed.{ends_in}
use Rattle.fs_serial.specs.Pending.{AllStand}
use Rattle.fs_serial.specs.Refusals.{rows_in}
use Rattle.fs_serial.specs.Sight.{Sight}
use Rattle.fs_serial.specs.World.{settled_at, sight_in}
use Rattle.fs_serial.specs.Seen.{ClusterHolds, world_of}
use Rattle.fs_serial.specs.Fresh.{made}
use Rattle.fs_serial.proofs.LedOperations.Committing.{IsNamed, StaysApart, committed_led, cycled_led, kind_there, named_led}
use Rattle.fs_serial.proofs.Transactions.OwnersOfLocks.{in_range}
use Rattle.fs_serial.proofs.Transactions.YesesStand.{full_stands, session_stands, voted_all}
use Rattle.fs_serial.proofs.Transactions.Agreements.{IsClear, IsOn, needs_comes}
use Rattle.fs_serial.proofs.DecidedEffects.HeldSeen.{held_same}
use Rattle.fs_record.specs.Records.{nodes_of}

module _ (k skew greatest : ℕ) (c : Cluster) (s : Server) (at : slice_get c.servers k ≡ Some s) (h : ClusterHolds skew greatest c)
    (l : Leading) (there : In l s.leading) (none : first_end l.leader.votes ≡ None) where
  abbrev by : Session
  by = l.leader.session

  abbrev leads : IsLeading c.lines s h.led.parts l
  leads = h.led.leading s (In-got c.servers k s at) l there

  abbrev d : TheLed
  d = leads.led

  abbrev now : Sight
  now = sight_in (world_of s c)

  client : IsLedBy c.lines by k d
  client = subst (λ n. IsLedBy c.lines by n d) (h.places.numbered k s at) leads.client

  pub all_stand : AllStand (rows_in c) by d.entry.uses
  all_stand = full_stands k skew greatest c s at h l there d client none

  pub home_yes : slice_get l.leader.votes 0 ≡ Some (Some Yes)
  home_yes =
      let v = in_range l.at l.leader.votes 0 s.me (leads.asked ∙ sym leads.votes) leads.home in
      voted_all l.leader none 0 v.0 v.1

  -- where it stands on no path
  pub is_plain : needs_path l.leader.mode l.leader.op ≡ false → (d.kind ≡ File) ⊎ StaysIn d.entry.op
  is_plain free = elim (leads.plain free) as (λ _. (d.kind ≡ File) ⊎ StaysIn d.entry.op) [
    | inl e ↦ inl e
    | inr q ↦ elim q as (λ _. (d.kind ≡ File) ⊎ StaysIn d.entry.op) [
      | inl t ↦ inr (subst StaysIn leads.leader.op t)
      | inr against ↦ absurd (against home_yes)
    ]
  ]

  stands : LedStands skew greatest now by (settled_at by (ends_in c by)) d
  stands = session_stands k skew greatest c s at h l there d client

  sound : IsSound (nodes_of now.records)
  sound = (h.parts s (In-got c.servers k s at)).0.all.kept.sound.space

  -- its file is there
  pub full_named : IsNamed now by d.entry d.file
  full_named = named_led skew greatest now by (settled_at by (ends_in c by)) d stands sound all_stand

  -- its home is a directory
  home_made : made c.journal (home_of d.entry.op) ≡ Some Dir
  home_made = stands.home

  -- what the path tells of the chain of its home
  module _ (path : Option PathAnswer) (tells : TellsCycles c l path) where
    chain_is : (on : Bool) → IsOn on l.leader path → is_on_chain (nodes_of now.records) d.file (home_of d.entry.op) ≡ on
    chain_is on o =
        ap₂ (λ f x. is_on_chain (nodes_of now.records) f (home_of x)) (sym leads.leader.file) (sym leads.leader.op)
        ∙ ap (λ m. is_on_chain (nodes_of m) l.leader.file (home_of l.leader.op)) (sym (held_same c h.led))
        ∙ sym (tells (ap (λ x. made c.journal (home_of x)) leads.leader.op ∙ home_made) o.files o.known)
        ∙ o.has

    module _ (clear : needs_path l.leader.mode l.leader.op ≡ true → IsClear l.leader path) where
      apart : StaysApart now.records d.entry.op d.file
      apart = by_need (needs_path l.leader.mode l.leader.op) refl
        where
          plainly : (o : Op) → (d.kind ≡ File) ⊎ StaysIn o → StaysApart now.records o d.file
          plainly (op.Rename sdir sname ddir dname) (inl e) = inl (kind_there now.records by d (stands.right all_stand) ∙ ap Some e)
          plainly (op.Rename sdir sname ddir dname) (inr t) = inr (inl t)
          plainly o q = tt

          off_chain : (o : Op) → is_on_chain (nodes_of now.records) d.file (home_of o) ≡ false → StaysApart now.records o d.file
          off_chain (op.Rename sdir sname ddir dname) e = inr (inr e)
          off_chain o e = tt

          by_need : (b : Bool) → needs_path l.leader.mode l.leader.op ≡ b → StaysApart now.records d.entry.op d.file
          by_need true n = off_chain d.entry.op (chain_is false (clear n).off)
          by_need false n = plainly d.entry.op (is_plain n)

      pub full_commits : IsCommitted now by (settled_at by (ends_in c by)) d.entry d.file
      full_commits = committed_led skew greatest now by (settled_at by (ends_in c by)) d stands sound all_stand apart

    -- it would come below itself
    pub full_cycles : needs_path l.leader.mode l.leader.op ≡ true → IsOn true l.leader path
        → IsCommitted now by (settled_at by (ends_in c by)) (record (d.entry) { reply = reply.Cycle }) d.file
    full_cycles n on = cycled_led skew greatest now by (settled_at by (ends_in c by)) d stands sound all_stand d.kind
        (subst (ComesInto d.kind) leads.leader.op (needs_comes l.leader.mode d.kind l.leader.op leads.leader.mode n)) (chain_is true on)
