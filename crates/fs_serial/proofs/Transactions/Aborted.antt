-- A transaction is not carried out: all that holds of what is seen then.
use Rattle.std.proofs.Common.{◌≡◌, ℕ, Bool, true, false, [], ◌∷◌, cond, append-nil}
use Rattle.std.proofs.Common.{refl, sym, ap, ◌∙◌, subst}
use Rattle.std.specs.Prelude.{Option, Some, None, slice_get}
use Rattle.fs_ident.specs.In.{In}
use Rattle.fs_ident.specs.declared.actor.Session.{Session}
use Rattle.fs_ident.proofs.Passing.{found}
use Rattle.fs_field.specs.Table.{same_txn}
use Rattle.fs_field.specs.declared.vote.Vote.{Vote}
use Rattle.fs_field.specs.declared.vote.Vote.TheVariants as vote
use Rattle.fs_field.specs.declared.path.PathAnswer.TheVariants.{Frozen, Path, Wanted}
use Rattle.fs_field.specs.declared.path.PathAnswer.{PathAnswer}
use Rattle.fs_msg.specs.declared.client_msg.ClientMsg.TheVariants.{Lead}
use Rattle.fs_record.specs.declared.led_end.LedEnd.{LedEnd}
use Rattle.fs_record.specs.declared.led_end.LedEnd.TheVariants as end
use Rattle.fs_record.specs.declared.led_end.Why.TheVariants as why
use Rattle.fs_record.specs.declared.led_end.Why.{Why}
use Rattle.fs_client.specs.Led.{end_fits, lead_of}
use Rattle.fs_client.specs.declared.led.Led.{Led as TheLed}
use Rattle.fs_server.specs.Concludes.{concludes}
use Rattle.fs_server.specs.declared.state.Server.{Server}
use Rattle.fs_txn.specs.Deciding.{again, agreed, by_files, by_path, commit, decision, end_of_place, end_of_vote, first_end, has_file}
use Rattle.fs_txn.specs.Deciding.{needs_path, or_else, reply_of, unless_ended}
use Rattle.fs_txn.specs.Leading.{leading_of}
use Rattle.fs_txn.specs.Votes.{Votes}
use Rattle.fs_txn.specs.declared.decision.Decision.{Decision}
use Rattle.fs_txn.specs.declared.decision.Decision.TheVariants.{Abort}
use Rattle.fs_txn.specs.declared.leader.Leader.{Leader}
use Rattle.fs_txn.specs.declared.leading.Leading.{Leading}
use Rattle.fs_txn.specs.declared.mode.Mode2.TheVariants.{Check, Freeze, Plain}
use Rattle.fs_txn.specs.declared.mode.Mode2.{Mode2}
use Rattle.fs_serial.specs.Cluster.{Cluster}
use Rattle.fs_serial.specs.Conclusions.{after_concluded}
use Rattle.fs_serial.specs.Decided.{WorldStands}
use Rattle.fs_serial.specs.Owed.{ends_in}
use Rattle.fs_serial.specs.Seen.{ClusterHolds, world_of}
use Rattle.fs_serial.specs.Settled.{Settled, led_freed, led_over}
use Rattle.fs_serial.specs.World.{World, WorldHolds}
use Rattle.fs_serial.specs.Fresh.{IsMade}
use Rattle.fs_serial.proofs.DecidedEffects.DecisionSeen as decides
use Rattle.fs_serial.proofs.LedOperations.LedSteps.{to_lead, world_freed}
use Rattle.fs_serial.proofs.Transactions.Unapplied as unapplied

-- ## Ends that free the session

-- the operation did not happen
abbrev pub IsFreeing : LedEnd → Type 0
IsFreeing (end.Done r) = ⊥
IsFreeing e = Unit {0}

vote_frees : (v : Vote) (e : LedEnd) → end_of_vote v ≡ Some e → IsFreeing e
vote_frees vote.Yes e h = absurd (cc h)
vote_frees (vote.Ended lease until now) e h = let same : end.Ended lease until now ≡ e = cc in subst IsFreeing same tt
vote_frees (vote.PathsOut lease) e h = let same : end.Again (why.PathsOut lease) ≡ e = cc in subst IsFreeing same tt
vote_frees (vote.Moved prefix to) e h = let same : end.Again (why.Moved prefix to) ≡ e = cc in subst IsFreeing same tt

place_frees : (o : Option Vote) (e : LedEnd) → end_of_place o ≡ Some e → IsFreeing e
place_frees None e h = let same : end.Again why.Changed ≡ e = cc in subst IsFreeing same tt
place_frees (Some v) e h = vote_frees v e h

again_frees : (w : Why) (e : LedEnd) → again w ≡ Abort e → IsFreeing e
again_frees w e h = let same : end.Again w ≡ e = cc in subst IsFreeing same tt

first_frees : (vs : Votes) (e : LedEnd) → first_end vs ≡ Some e → IsFreeing e
first_frees [] e h = absurd (cc h)
first_frees (v ∷ vs) e h =
    let rest : first_end vs ≡ Some e → IsFreeing e = first_frees vs e in
    elim (end_of_place v) as (λ o. end_of_place v ≡ o → or_else o (first_end vs) ≡ Some e → IsFreeing e) [
      | None ↦ λ q g. rest g
      | Some z ↦ λ q g. place_frees v e (q ∙ g)
    ] refl h

-- what is put off for the path of the destination may be asked for again
path_frees : (l : Leader) (path : Option PathAnswer) (e : LedEnd) → by_path l path ≡ Abort e → IsFreeing e
path_frees l None e g = again_frees why.Changed e g
path_frees l (Some (Wanted file parent)) e g = again_frees (why.Wanted file) e g
path_frees l (Some (Frozen file txn)) e g = again_frees (why.Frozen file txn) e g
path_frees l (Some (Path files)) e g = by_mode l.mode (has_file files l.file) g
  where
    by_mode : (mode : Mode2) (on : Bool) → by_files l mode on ≡ Abort e → IsFreeing e
    by_mode Check true g = absurd (cc g)
    by_mode Check false g = again_frees why.Changed e g
    by_mode Freeze true g = again_frees why.Changed e g
    by_mode Freeze false g = absurd (cc g)
    by_mode Plain true g = again_frees why.Changed e g
    by_mode Plain false g = absurd (cc g)

agreed_frees : (l : Leader) (path : Option PathAnswer) (e : LedEnd) → agreed l path ≡ Abort e → IsFreeing e
agreed_frees l path e = at (needs_path l.mode l.op)
  where
    at : (b : Bool) → cond b (by_path l path) (commit l (reply_of l.op)) ≡ Abort e → IsFreeing e
    at true g = path_frees l path e g
    at false g = absurd (cc g)

pub abort_frees : (l : Leader) (path : Option PathAnswer) (e : LedEnd) → decision l path ≡ Abort e → IsFreeing e
abort_frees l path e is = at (first_end l.votes) refl is
  where
    at : (o : Option LedEnd) → first_end l.votes ≡ o → unless_ended o (agreed l path) ≡ Abort e → IsFreeing e
    at (Some z) q g = let same : z ≡ e = cc in first_frees l.votes e (q ∙ ap Some same)
    at None q g = agreed_frees l path e g

freeing_fits : (e : LedEnd) → IsFreeing e → (o : TheLed) → end_fits (Some o) e ≡ true
freeing_fits (end.Done r) f o = absurd f
freeing_fits (end.Ended lease until now) f o = refl
freeing_fits (end.Again w) f o = refl

freeing_frees : (e : LedEnd) → IsFreeing e → (by : Session) (o : TheLed) (b : Settled) → led_over by o e b ≡ led_freed b
freeing_frees (end.Done r) f by o b = absurd f
freeing_frees (end.Ended lease until now) f by o b = refl
freeing_frees (end.Again w) f by o b = refl

-- ## All that holds

pub abort_stands : (k skew greatest : ℕ) (c : Cluster) (s : Server) → slice_get c.servers k ≡ Some s → ClusterHolds skew greatest c
    → (l : Leading) (path : Option PathAnswer) → leading_of l.leader.txn s.leading ≡ Some l → (e : LedEnd) → decision l.leader path ≡ Abort e
    → WorldStands greatest (world_of (concludes l path [] s).server (after_concluded k l path s c))
abort_stands k skew greatest c s at h l path led e is =
    let there : In l s.leading = (found (λ (z : Leading). same_txn z.leader.txn l.leader.txn) s.leading l led).0 in
    let d : Decision = Abort e in
    let freeing : IsFreeing e = abort_frees l.leader path e is in
    let w : World = world_of s c in
    let asked : TheLed = unapplied.asked k skew greatest c s at h l there d (λ n. refl) in
    let up : (ends_in c l.leader.session).up ≡ Lead (lead_of asked) ∷ [] = unapplied.up k skew greatest c s at h l there d (λ n. refl) in
    let view : WorldStands greatest w = unapplied.view k skew greatest c s at h l there d (λ n. refl) in
    let its : TheLed = (to_lead greatest w l.leader.session (lead_of asked) up view.0).led in
    let told : WorldHolds greatest (unapplied.told_world k skew greatest c s at h l there d (λ n. refl)) =
    subst (λ js. WorldHolds greatest (record (unapplied.told_world k skew greatest c s at h l there d (λ n. refl)) { journal = js }))
    (sym (append-nil c.journal))
    (world_freed greatest w l.leader.session (lead_of asked) up view.0 s.txns e (freeing_fits e freeing its)
    (freeing_frees e freeing l.leader.session its _)) in
    subst (λ (d : Decision). WorldStands greatest (world_of (decides.y k skew greatest c s at h l there d)
    (decides.after k skew greatest c s at h l there d))) (sym is)
    (unapplied.unapplied_stands k skew greatest c s at h l there d (λ n. refl)
    (λ id made. subst (λ js. IsMade js id) (sym (append-nil c.journal)) made) told)
