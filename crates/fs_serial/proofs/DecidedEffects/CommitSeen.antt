-- A leader commits: what all hold together is changed by the operation.
use mathlib.Core.Path.{fun_ext}
use Rattle.std.proofs.Common.{◌≡◌, ℕ, zero, suc, Bool, true, false, List, [], ◌∷◌, ◌++◌, map, refl, sym, ap, ap₂, ◌∙◌}
use Rattle.std.specs.Prelude.{Option, Some, None, slice_get, unwrap_or}
use Rattle.std.specs.List.{flat_map, list_any}
use Rattle.fs_ident.specs.Ident.{same}
use Rattle.fs_ident.specs.In.{In}
use Rattle.fs_ident.specs.declared.actor.Session.{Session}
use Rattle.fs_ident.specs.declared.actor.TxnNo.{TxnNo}
use Rattle.fs_ident.proofs.Same.{same_is}
use Rattle.fs_ident.proofs.Standing.{In-got}
use Rattle.fs_field.specs.After.{changed_file}
use Rattle.fs_field.specs.declared.effect.Effect.{Effect}
use Rattle.fs_field.specs.declared.row.Row.{Row}
use Rattle.fs_field.specs.declared.used.Part.{Part}
use Rattle.fs_field.specs.declared.path.PathAnswer.{PathAnswer}
use Rattle.fs_model.specs.Asking.{home_of}
use Rattle.fs_parcel.proofs.Both.{passing}
use Rattle.fs_record.specs.Applied.{records_after_all}
use Rattle.fs_record.specs.LedEffects.{led_effects}
use Rattle.fs_record.specs.Records.{RecordMap}
use Rattle.fs_server.specs.Concludes.{concludes}
use Rattle.fs_server.specs.LeadingLaws.{CommitSplits, goes_from, has_effect}
use Rattle.fs_server.specs.Server.{Stepped, is_mine}
use Rattle.fs_server.specs.declared.state.Server.{Server}
use Rattle.fs_txn.specs.Decided.{going, held_with, staying}
use Rattle.fs_txn.specs.Deciding.{commit, decision, effects_on}
use Rattle.fs_txn.specs.Deciding.{reply_of, told_effects}
use Rattle.fs_txn.specs.Grants.{effects_in}
use Rattle.fs_txn.specs.Leading.{IsWholeLeader, elsewhere, own_effects, own_parts}
use Rattle.fs_txn.specs.Parts.{parts_of, source_of}
use Rattle.fs_txn.specs.declared.decision.Decision.{Decision}
use Rattle.fs_txn.specs.declared.leading.Leading.{Leading}
use Rattle.fs_serial.specs.Cluster.{Cluster, parcels_of}
use Rattle.fs_serial.specs.Conclusions.{after_concluded}
use Rattle.fs_serial.specs.Decided.{decided_for}
use Rattle.fs_serial.specs.Joined.{records_of_all}
use Rattle.fs_serial.specs.Leading.{IsLeading}
use Rattle.fs_serial.specs.Locks.{IsRelock, at_home}
use Rattle.fs_serial.specs.Refusals.{rows_in}
use Rattle.fs_serial.specs.Words.{decided_in}
use Rattle.fs_serial.specs.Seen.{ClusterHolds}
use Rattle.fs_serial.proofs.DecidedEffects.DecisionSeen as decides
use Rattle.fs_serial.proofs.DecidedEffects.HeldSeen.{held_seen}
use Rattle.fs_serial.proofs.Places.AppliedRecords.{records_applied}
use Rattle.fs_serial.proofs.Places.PutRecords.{AreOn}
use Rattle.fs_serial.proofs.Transactions.Tables.{In_some}

-- ## Lists

-- an effect that a part is told is one of it
pub told_some : (f : Part → List Effect) (ps : List Part) (n : ℕ) (e : Effect) → In e (unwrap_or (slice_get (map f ps) n) [])
    → (p : Part) × ((slice_get ps n ≡ Some p) × In e (f p))
told_some f [] n e i = absurd i
told_some f (p ∷ ps) zero e i = (p, (refl, i))
told_some f (p ∷ ps) (suc n) e i = told_some f ps n e i

-- an effect on the same file goes to the same server
pub goes_same : (me : ℕ) (l : Leading) (d e : Effect) → changed_file d ≡ changed_file e → goes_from me l d ≡ goes_from me l e
goes_same me l d e h =
    ap (λ (f : Option Part → Bool). list_any (λ (x : ℕ × ℕ). f (slice_get l.leader.parts x.0)) (elsewhere me l)) (fun_ext each)
  where
    each : (o : Option Part) → has_effect d o ≡ has_effect e o
    each None = refl
    each (Some p) = ap (λ f. same f p.file) h

module _ (k skew greatest : ℕ) (c : Cluster) (s : Server) (at : slice_get c.servers k ≡ Some s) (h : ClusterHolds skew greatest c)
    (l : Leading) (there : In l s.leading) (path : Option PathAnswer)
    (decision_is : decision l.leader path ≡ commit l.leader (reply_of l.leader.op)) where
  abbrev t : TxnNo
  t = l.leader.txn

  abbrev by : Session
  by = l.leader.session

  abbrev pub all_effects : List Effect
  all_effects = led_effects l.leader.op l.leader.file (reply_of l.leader.op)

  abbrev pub committing : Decision
  committing = commit l.leader (reply_of l.leader.op)

  abbrev pub goes : Effect → Bool
  goes = goes_from s.me l

  abbrev d : Decision
  d = decision l.leader path

  abbrev out : List (ℕ × ℕ)
  out = elsewhere s.me l

  abbrev x : Stepped
  x = concludes l path [] s

  abbrev y : Server
  y = x.server

  abbrev pub after : Cluster
  after = after_concluded k l path s c

  abbrev pub all_records : RecordMap
  all_records = records_of_all c.servers (parcels_of c.in_flight)

  here : In s c.servers
  here = In-got c.servers k s at

  leads : IsLeading c.lines s h.led.parts l
  leads = h.led.leading s here l there

  pub parcels_then : parcels_of after.in_flight ≡ parcels_of c.in_flight
  parcels_then = decides.parcels_then k skew greatest c s at h l there d

  told_then : decided_in after ≡ decided_in c ++ decided_for by (flat_map (λ (n : ℕ × ℕ). told_effects d n.0) out)
  told_then = decides.told_then k skew greatest c s at h l there d

  -- ## The effects

  whole : IsWholeLeader l leads.led.entry.uses
  whole = record {
    parts = leads.leader.parts
        ∙ ap₂ (λ o f. parts_of o f leads.led.entry.uses l.leader.mode) (sym leads.leader.op) (sym leads.leader.file);
    asked = leads.asked;
    votes = leads.votes;
  }

  -- the law of a commit that is split by the servers of its parts
  module _ (splits : CommitSplits) (away : same l.leader.file (home_of l.leader.op) ≡ false)
      (parted : same l.leader.file (source_of l.leader.op) ≡ false) where
    abbrev split :
        ((m : RecordMap) → records_after_all m (own_effects s.me l committing) ≡ records_after_all m (staying goes all_effects))
        × (flat_map (λ (n : ℕ × ℕ). told_effects committing n.0) out ≡ going goes all_effects)
    split = splits s.me l leads.led.entry.uses path (reply_of l.leader.op) _ whole away parted decision_is

    -- what the others are told is what goes
    pub told_going : flat_map (λ (n : ℕ × ℕ). told_effects committing n.0) (elsewhere s.me l) ≡ going goes all_effects
    told_going = split.1

    pub decided_is : decided_in after ≡ decided_in c ++ decided_for l.leader.session (going goes all_effects)
    decided_is =
        told_then
        ∙ ap (λ (e : Decision). decided_in c ++ decided_for by (flat_map (λ (n : ℕ × ℕ). told_effects e n.0) out)) decision_is
        ∙ ap (λ es. decided_in c ++ decided_for by es) split.1

    -- each part of its own is managed here
    module _ (own : (n : ℕ × ℕ) (p : Part) → In n (own_parts s.me l) → slice_get l.leader.parts n.0 ≡ Some p
        → is_mine s p.file ≡ true) where
      pub own_on : AreOn (is_mine s) (own_effects s.me l committing)
      own_on e i =
          let q = In_some (λ (n : ℕ × ℕ). told_effects committing n.0) e (own_parts s.me l) i in
          let r = told_some (λ (p : Part). effects_on all_effects p.file) l.leader.parts (q.0).0 e q.1.1 in
          ap (is_mine s) (same_is (changed_file e) (r.0).file (passing (λ x. same (changed_file x) (r.0).file) all_effects e r.1.1))
          ∙ own q.0 r.0 q.1.0 r.1.0

      pub records_are : records_of_all after.servers (parcels_of after.in_flight) ≡ records_after_all all_records (staying goes all_effects)
      records_are =
          ap (records_of_all after.servers) parcels_then
          ∙ records_applied k c s y at h.places (own_effects s.me l committing) own_on
          (ap (λ (e : Decision). records_after_all s.records (own_effects s.me l e)) decision_is)
          ∙ split.0 all_records

      pub held_is : held_seen after
          ≡ held_with (effects_in (decided_in c ++ decided_for l.leader.session (going goes all_effects)))
          (records_after_all all_records (staying goes all_effects))
      held_is = ap₂ (λ ds m. held_with (effects_in ds) m) decided_is records_are

  -- ## Rows

  -- what is done to each row of its own
  abbrev pub relock : Row → Row
  relock = decides.relock k skew greatest c s at h l there d

  pub is_relock : IsRelock relock
  is_relock = decides.is_relock k skew greatest c s at h l there d

  pub rows_are : rows_in after ≡ map (at_home s relock) (rows_in c)
  rows_are = decides.rows_are k skew greatest c s at h l there d
