-- A leader decides: all servers keep what they have to keep.
use Rattle.std.proofs.Common.{◌≡◌, ◌∙◌, ℕ, Bool, true, not, List, [], ◌∷◌, map, refl, sym, ap, ap₂, subst, inl, inr, false}
use Rattle.std.specs.Prelude.{Option, Some, None, option_map, slice_get}
use Rattle.std.specs.FinMap.{get}
use Rattle.fs_ident.specs.Ident.{same}
use Rattle.fs_ident.specs.In.{In}
use Rattle.fs_ident.proofs.Passing.{found}
use Rattle.fs_ident.proofs.Same.{same_is}
use Rattle.fs_ident.proofs.Standing.{In-append, In-filter, In-got, In-map}
use Rattle.fs_field.specs.After.{changed_file}
use Rattle.fs_field.specs.Table.{same_txn}
use Rattle.fs_field.specs.declared.effect.Effect.{Effect}
use Rattle.fs_field.specs.declared.used.Part.{Part}
use Rattle.fs_field.specs.declared.path.PathAnswer.{PathAnswer}
use Rattle.fs_model.specs.Asking.{home_of}
use Rattle.fs_model.specs.Sound.{IsTree, parent_of}
use Rattle.fs_model.specs.declared.op.Op.{Op}
use Rattle.fs_model.specs.declared.reply.Reply.TheVariants as reply
use Rattle.fs_msg.specs.declared.client_msg.ClientMsg.TheVariants as message
use Rattle.fs_parcel.proofs.Both.{passing}
use Rattle.fs_record.specs.Applied.{records_after_all}
use Rattle.fs_record.specs.LedEffects.{led_effects}
use Rattle.fs_record.specs.Records.{RecordMap, nodes_of}
use Rattle.fs_record.proofs.NodeMaps.{node_there}
use Rattle.fs_client.specs.Led.{lead_of}
use Rattle.fs_client.specs.declared.led.Led.{Led as TheLed}
use Rattle.fs_client.specs.declared.state.Client.{Client}
use Rattle.fs_server.specs.Concludes.{concludes}
use Rattle.fs_server.specs.LeadingLaws.{CommitSplits, goes_from}
use Rattle.fs_server.specs.PathSteps.{dir_here}
use Rattle.fs_server.specs.declared.state.Server.{Server}
use Rattle.fs_txn.specs.Decided.{IsApart, going, staying}
use Rattle.fs_txn.specs.Deciding.{commit, decision, effects_on, first_end, needs_path, reply_of, told_effects}
use Rattle.fs_txn.specs.Grants.{Decided, effects_in}
use Rattle.fs_txn.specs.Leading.{elsewhere, leading_of}
use Rattle.fs_txn.specs.Locks.{Agreed}
use Rattle.fs_txn.specs.Parts.{freeze_at, led_files, part_at, source_of}
use Rattle.fs_txn.specs.Stages.{Told, Wanted, word_to}
use Rattle.fs_txn.specs.Stages.Word.{Decide}
use Rattle.fs_txn.specs.Votes.{is_full}
use Rattle.fs_txn.specs.declared.decision.Decision.{Decision}
use Rattle.fs_txn.specs.declared.decision.Decision.TheVariants.{Abort}
use Rattle.fs_txn.specs.declared.leading.Leading.{Leading}
use Rattle.fs_txn.specs.declared.ready.Ready.{Ready}
use Rattle.fs_serial.specs.Cluster.{Cluster}
use Rattle.fs_serial.specs.Commits.{IsCommitted}
use Rattle.fs_serial.specs.Conclusions.{TellsCycles, after_concluded}
use Rattle.fs_serial.specs.Decided.{IsSplit}
use Rattle.fs_serial.specs.Fresh.{made}
use Rattle.fs_serial.specs.KeptFiles.{FilesKept, FreezesFor, IsKeptFor, KeepsFiles}
use Rattle.fs_serial.specs.Leading.{IsLeading, LedHolds}
use Rattle.fs_serial.specs.Owed.{ends_in}
use Rattle.fs_serial.specs.Runs.{records_in}
use Rattle.fs_serial.specs.Seen.{ClusterHolds, with_all, world_of}
use Rattle.fs_serial.specs.Words.{decided_in, key_of, said_at, telling_of}
use Rattle.fs_serial.specs.World.{settled_at, sight_in}
use Rattle.fs_serial.proofs.DecidedEffects.CommitKeeps.{answer, apart, own}
use Rattle.fs_serial.proofs.DecidedEffects.CommitSeen.{told_going}
use Rattle.fs_serial.proofs.DecidedEffects.CommitStands.{go_past, records_then, split}
use Rattle.fs_serial.proofs.DecidedEffects.ConcludedTold.{off_home, part_there, ready, told_is}
use Rattle.fs_serial.proofs.DecidedEffects.ConcludedTold as concluded
use Rattle.fs_serial.proofs.DecidedEffects.DecisionSeen as decides
use Rattle.fs_serial.proofs.DecidedEffects.GrantsPast.{all_decided}
use Rattle.fs_serial.proofs.DecidedEffects.HeldSeen.{held_seen}
use Rattle.fs_serial.proofs.DecidedEffects.StandPast.{AllApart}
use Rattle.fs_serial.proofs.DecidedEffects.Underway.{effect_of}
use Rattle.fs_serial.proofs.LedOperations.Committing.{kind_there}
use Rattle.fs_serial.proofs.Lists.ByPlace.{of_map}
use Rattle.fs_serial.proofs.Lists.Servers.{In_at}
use Rattle.fs_serial.proofs.Paths.KeptAfter.{TellsKept, kept_after, told_decided}
use Rattle.fs_serial.proofs.Paths.KeptHere.{keeps_freed}
use Rattle.fs_serial.proofs.Lists.Journals.{made_kept}
use Rattle.fs_serial.proofs.Paths.KeptPlaces.{PlaceLeft, apart_left, beside_left, kept_then, left_alike, left_then}
use Rattle.fs_serial.proofs.Paths.KeptTold.{WhyKept, effect_kept, why_kept}
use Rattle.fs_serial.proofs.Paths.OnTheWay.{dir_in}
use Rattle.fs_serial.proofs.Paths.SourceParts.{in_source}
use Rattle.fs_serial.proofs.Transactions.Unapplied.{records_still}
use Rattle.fs_serial.proofs.Transactions.Decisions.{decision_word}
use Rattle.fs_serial.proofs.Transactions.FullCommits.{full_commits, is_plain}
use Rattle.fs_serial.proofs.Transactions.LedConcluded.{none_said, said_then}
use Rattle.fs_serial.proofs.Transactions.OthersKeep.{sent_client}
use Rattle.fs_serial.proofs.Transactions.OwnersOfLocks.{waiting_part}
use Rattle.fs_serial.proofs.Transactions.Tables.{In_all, in_without_leading}
use Rattle.fs_serial.proofs.Transactions.Undecided.{up_led}
use Rattle.fs_serial.proofs.Transactions.YesElsewhere.{IsReadyElsewhere}
use Rattle.fs_serial.proofs.Transactions.Agreements.{Decides, IsClear, TellsNone, aborts, carries, cycle_tells_none, cycles, decides_so}
use Rattle.fs_serial.proofs.WholeRuns.LedKept.{all_keep_led}

-- ## It commits

module _ (k skew greatest : ℕ) (c : Cluster) (s : Server) (at : slice_get c.servers k ≡ Some s) (h : ClusterHolds skew greatest c)
    (f : FilesKept c) (splits : CommitSplits) (l : Leading) (there : In l s.leading) (yes : first_end l.leader.votes ≡ None)
    (path : Option PathAnswer) (tells_so : TellsCycles c l path)
    (clear : needs_path l.leader.mode l.leader.op ≡ true → IsClear l.leader path)
    (decided_so : decision l.leader path ≡ commit l.leader (reply_of l.leader.op)) (led : LedHolds (after_concluded k l path s c)) where
  abbrev here : In s c.servers
  here = In-got c.servers k s at

  abbrev leads : IsLeading c.lines s h.led.parts l
  leads = h.led.leading s here l there

  abbrev d : TheLed
  d = leads.led

  abbrev o : Op
  o = d.entry.op

  abbrev then : Cluster
  then = after_concluded k l path s c

  abbrev held : RecordMap
  held = held_seen c

  abbrev es : List Effect
  es = led_effects l.leader.op l.leader.file (reply_of l.leader.op)

  abbrev sends : Effect → Bool
  sends = goes_from s.me l

  up : (ends_in c l.leader.session).up ≡ message.Lead (lead_of d) ∷ []
  up = up_led skew greatest c s here h l.leader.session s here l there refl d leads.client.led

  commits : IsCommitted (sight_in (world_of s c)) l.leader.session (settled_at l.leader.session (ends_in c l.leader.session)) d.entry d.file
  commits = full_commits k skew greatest c s at h l there yes path tells_so clear

  records_are : records_in then ≡ records_after_all (records_in c) (staying sends es)
  records_are = records_then k skew greatest c s at h l there path decided_so up commits (apart k skew greatest c s at h l there yes path tells_so clear decided_so)
      (own k skew greatest c s at h l there yes path tells_so clear decided_so) splits led

  -- what is told is apart from what is applied here
  its_split : IsSplit sends es
  its_split = split k skew greatest c s at h l there path decided_so up commits (apart k skew greatest c s at h l there yes path tells_so clear decided_so)
      (own k skew greatest c s at h l there yes path tells_so clear decided_so) splits led

  -- and all of it from what was decided before
  past : AllApart (decided_in c) es
  past = (go_past k skew greatest c s at h l there path decided_so up commits (apart k skew greatest c s at h l there yes path tells_so clear decided_so)
      (own k skew greatest c s at h l there yes path tells_so clear decided_so) splits led).0

  old_left : (x : Decided) → In x (decided_in c) → PlaceLeft (records_in c) (records_in then) x.effect
  old_left x i = subst (λ n. PlaceLeft (records_in c) n x.effect) (sym records_are)
      (apart_left (records_in c) x.effect (staying sends es) (λ e j. past x i e (In-filter (λ y. not (sends y)) e es j)))

  new_left : (e : Effect) → In e (going sends es) → PlaceLeft held (records_in then) e
  new_left e i =
      let among : In e es = In-filter sends e es i in
      left_then held (records_in c) (records_in then) e
      (beside_left (records_in c) e (effects_in (decided_in c)) (all_decided (decided_in c) (with_all s c) c.journal (h.parts s here).1.all)
      (λ x j. let q = In-map effect_of x (decided_in c) j in subst (λ y. IsApart y e) (sym q.1.1) (past q.0 q.1.0 e among)))
      (subst (λ n. PlaceLeft (records_in c) n e) (sym records_are)
      (apart_left (records_in c) e (staying sends es) (λ y j. its_split.apart e y i j)))

  -- ## What each part is told

  goes : (x : ℕ × ℕ) → In x (elsewhere s.me l) → (e : Effect) → In e (told_effects (decision l.leader path) x.0) → In e (going sends es)
  goes x i e j =
      let files = apart k skew greatest c s at h l there yes path tells_so clear decided_so in
      subst (In e) (told_going k skew greatest c s at h l there path decided_so splits
      (ap₂ (λ z g. same g (home_of z)) leads.leader.op leads.leader.file ∙ files.0)
      (ap₂ (λ z g. same g (source_of z)) leads.leader.op leads.leader.file ∙ files.1))
      (In_all (λ (n : ℕ × ℕ). told_effects (commit l.leader (reply_of l.leader.op)) n.0) e x (elsewhere s.me l) i
      (subst (λ (z : Decision). In e (told_effects z x.0)) decided_so j))

  made_so : made c.journal d.file ≡ Some d.kind
  made_so = (h.parts s here).0.all.kept.made d.file d.kind
      (kind_there held l.leader.session d (answer k skew greatest c s at h l there yes path tells_so clear decided_so))

  stands : dir_here held d.file ≡ Some (source_of o)
  stands =
      let tree : IsTree (nodes_of held) = (h.parts s here).0.all.kept.sound.space.tree in
      let q = in_source (nodes_of held) o d.file commits.moves commits.named in
      let place : parent_of (get (nodes_of held) d.file) ≡ Some (source_of o, q.0) = (tree.agreeing (source_of o) q.0 d.file).0 q.1 in
      ap dir_in (sym (node_there held d.file)) ∙ ap (option_map (λ (y : List ℕ × List ℕ). y.0)) place

  why : WhyKept d.kind l.leader.mode o
  why = by (needs_path l.leader.mode l.leader.op) refl
    where
      by : (b : Bool) → needs_path l.leader.mode l.leader.op ≡ b → WhyKept d.kind l.leader.mode o
      by true n = inr (inl (clear n).freezes)
      by false n = why_kept d.kind l.leader.mode o
          (subst (FreezesFor d.kind l.leader.mode) leads.leader.op (f.modes s here l there d leads.client.led))
          (is_plain k skew greatest c s at h l there yes n)

  part_kept : (x : ℕ × ℕ) (i : In x (elsewhere s.me l)) (e : Effect) → In e (told_effects (decision l.leader path) x.0)
      → IsKeptFor (records_in then) then.journal (ready k skew greatest c s at h l there path tells_so x i).part e
  part_kept x i e j =
      let r : IsReadyElsewhere c h.led.parts l x = ready k skew greatest c s at h l there path tells_so x i in
      let its : List Effect = led_effects o d.file (reply_of o) in
      let among : In e (effects_on its r.part.file) = subst (In e) (told_is k skew greatest c s at h l there path tells_so x i yes clear decided_so) j in
      let part = of_map (part_at l.leader.mode o d.file d.entry.uses) (led_files o d.file) x.0 r.part
      (part_there k skew greatest c s at h l there path tells_so x i) in
      let freeze : r.part.freeze ≡ freeze_at l.leader.mode o d.file r.part.file =
      ap (λ (y : Part). y.freeze) part.1.1 ∙ ap (freeze_at l.leader.mode o d.file) (sym (ap (λ (y : Part). y.file) part.1.1)) in
      effect_kept held (records_in then) then.journal d.kind l.leader.mode d.file
      (made_kept c.journal (concludes l path [] s).out.admitted d.file d.kind made_so) r.part o freeze
      (off_home k skew greatest c s at h l there path tells_so x i)
      why commits.named stands e
      (In-filter (λ y. same (changed_file y) r.part.file) e its among)
      (same_is (changed_file e) r.part.file (passing (λ y. same (changed_file y) r.part.file) its e among))
      (new_left e (goes x i e j))

-- ## Either way

module _ (skew greatest k : ℕ) (c : Cluster) (s : Server) (l : Leading) (path : Option PathAnswer) (at : slice_get c.servers k ≡ Some s)
    (h : ClusterHolds skew greatest c) (tells_so : TellsCycles c l path) (f : FilesKept c) (leads : leading_of l.leader.txn s.leading ≡ Some l)
    (full : is_full l.leader.votes ≡ true) (splits : CommitSplits) where
  abbrev after : Cluster
  after = after_concluded k l path s c

  abbrev here_too : In s c.servers
  here_too = In-got c.servers k s at

  me : s.me ≡ k
  me = h.places.numbered k s at

  there_too : In l s.leading
  there_too = (found (λ (z : Leading). same_txn z.leader.txn l.leader.txn) s.leading l leads).0

  led_after : LedHolds after
  led_after = (all_keep_led skew greatest k c s at h).concluded l path tells_so leads full

  abbrev t : Server
  t = (concludes l path [] s).server

  keeps : KeepsFiles t
  keeps = keeps_freed s t l.leader.txn (f.here s here_too) refl (λ y i. (
    In-filter (λ (z : Agreed). not (same_txn z.key.txn l.leader.txn)) y (said_at s)
        (subst (In y) (sym (said_then k c s at h.led me l path leads full)) i),
    none_said k c s at h.led me l path leads full y i,
  ))

  of_led : IsLeading c.lines s h.led.parts l
  of_led = h.led.leading s here_too l there_too

  how : Decides l.leader path
  how = decides_so l.leader of_led.led.kind path of_led.leader.mode

  -- nothing is carried out
  unapplied_records : (d : Decision) → TellsNone d → decision l.leader path ≡ d → records_in after ≡ records_in c
  unapplied_records d none is =
      subst (λ (d : Decision). records_in (decides.after k skew greatest c s at h l there_too d) ≡ records_in c) (sym is)
      (records_still k skew greatest c s at h l there_too d none)

  left : Decides l.leader path → (x : Decided) → In x (decided_in c) → PlaceLeft (records_in c) (records_in after) x.effect
  left (carries none clear is) x i =
      old_left k skew greatest c s at h f splits l there_too none path tells_so clear is led_after x i
  left (cycles none n on is) x i = left_alike (records_in c) (records_in after) x.effect
      (unapplied_records (commit l.leader reply.Cycle) (cycle_tells_none l.leader) is)
  left (aborts e is) x i = left_alike (records_in c) (records_in after) x.effect (unapplied_records (Abort e) (λ n. refl) is)

  new_kept : Decides l.leader path → (x : ℕ × ℕ) (i : In x (elsewhere s.me l)) (e : Effect) → In e (told_effects (decision l.leader path) x.0)
      → IsKeptFor (records_in after) after.journal (ready k skew greatest c s at h l there_too path tells_so x i).part e
  new_kept (carries none clear is) x i e j =
      part_kept k skew greatest c s at h f splits l there_too none path tells_so clear is led_after x i e j
  new_kept (cycles none n on is) x i e j =
      absurd (subst (In e) (ap (λ q. told_effects q x.0) is ∙ cycle_tells_none l.leader x.0) j)
  new_kept (aborts g is) x i e j = absurd (subst (In e) (ap (λ q. told_effects q x.0) is) j)

  -- the part that waits is the one that is told
  same_part : (z : Server) → In z c.servers → (x : Ready) → In x z.prepared → (n : ℕ × ℕ) (i : In n (elsewhere s.me l))
      → key_of x.txn x.number ≡ key_of l.leader.txn n.0 → x.part ≡ (ready k skew greatest c s at h l there_too path tells_so n i).part
  same_part z i x j n m key =
      let q = In_at c.servers z i in
      ap (λ (w : Wanted). w.part) ((waiting_part c h.led z q.place q.is x j).same ∙ ap h.led.parts key
      ∙ (ready k skew greatest c s at h l there_too path tells_so n m).wanted)

  tells : TellsKept c after
  tells z i x j place effects told e n =
      let w : Told = word_to (key_of x.txn x.number) place (Decide effects) in
      let d : Decision = decision l.leader path in
      elim (In-append w (telling_of c.in_flight) (map (decision_word k l.leader.txn d) (elsewhere s.me l))
      (subst (In w) (concluded.telling_then k skew greatest c s at h l there_too path tells_so) told)) as
      (λ _. IsKeptFor (records_in after) after.journal x.part e) [
        | inl old ↦
            let y = told_decided c h.led (key_of x.txn x.number) place effects old e n in
            kept_then (records_in c) (records_in after) c.journal after.journal x.part e
            (subst (PlaceLeft (records_in c) (records_in after)) y.1.1 (left how y.0 y.1.0))
            (made_kept c.journal (concludes l path [] s).out.admitted) (f.told z i x j place effects old e n)
        | inr new ↦
            let q = In-map (decision_word k l.leader.txn d) w (elsewhere s.me l) new in
            let word : Decide effects ≡ Decide (told_effects d (q.0).0) = ap (λ (y : Told). y.word) q.1.1 in
            let is : effects ≡ told_effects d (q.0).0 = cc in
            subst (λ p. IsKeptFor (records_in after) after.journal p e)
            (sym (same_part z i x j q.0 q.1.0 (ap (λ (y : Told). y.key) q.1.1)))
            (new_kept how q.0 q.1.0 e (subst (In e) is n))
      ]

  pub concluded_kept : FilesKept (after_concluded k l path s c)
  concluded_kept = kept_after k s t c after at f (record {
    servers = refl;
    here = keeps;
    prepared = λ y i. inl i;
    told = tells;
    clients = λ y. ap (λ (z : Client). z.led) (sent_client k (concludes l path [] s).out.send c.lines y);
    modes = λ y i. f.modes s here_too y (in_without_leading l.leader.txn s.leading y i).0;
  })
