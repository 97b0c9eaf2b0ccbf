-- What the laws of a leader between servers say.
use Rattle.std.specs.Prelude.{◌≡◌, ℕ, ◌==◌, Bool, true, false, List, Option, Some, None, is_some, slice_get}
use Rattle.std.specs.FinMap.{get}
use Rattle.std.specs.List.{filter, flat_map, list_any}
use Rattle.fs_ident.specs.Ident.{same}
use Rattle.fs_ident.specs.In.{In}
use Rattle.fs_ident.specs.declared.actor.TxnNo.{TxnNo}
use Rattle.fs_field.specs.After.{changed_file}
use Rattle.fs_field.specs.declared.effect.Effect.{Effect}
use Rattle.fs_field.specs.declared.path.PathAnswer.{PathAnswer}
use Rattle.fs_field.specs.declared.path.PathAnswer.TheVariants as found
use Rattle.fs_field.specs.declared.row.Row.{Row}
use Rattle.fs_field.specs.declared.used.Part.{Part}
use Rattle.fs_field.specs.declared.used.Use.{Use}
use Rattle.fs_field.specs.declared.vote.Vote.{Vote}
use Rattle.fs_field.specs.declared.vote.Vote.TheVariants.{Yes}
use Rattle.fs_model.specs.Asking.{home_of}
use Rattle.fs_model.specs.declared.op.Op.{Op}
use Rattle.fs_model.specs.declared.reply.Reply.{Reply}
use Rattle.fs_model.specs.declared.reply.Reply.TheVariants as reply
use Rattle.fs_msg.specs.declared.done.Done.{Done}
use Rattle.fs_msg.specs.declared.voted.Voted.{Voted}
use Rattle.fs_record.specs.Applied.{records_after_all}
use Rattle.fs_record.specs.LedEffects.{led_effects}
use Rattle.fs_record.specs.Records.{RecordMap}
use Rattle.fs_txn.specs.Decided.{going, staying}
use Rattle.fs_txn.specs.Deciding.{decision, has_file, needs_path, told_effects}
pub use Rattle.fs_txn.specs.Leading.{IsWholeLeader}
use Rattle.fs_txn.specs.Leading.{awaits_done, elsewhere, ending_of, leading_of, own_effects}
use Rattle.fs_txn.specs.Parts.{source_of}
use Rattle.fs_txn.specs.Votes.{Votes, awaits}
use Rattle.fs_txn.specs.declared.decision.Decision.TheVariants.{Commit}
use Rattle.fs_txn.specs.declared.leader.Leader.{Leader}
use Rattle.fs_txn.specs.declared.leading.Ending.{Ending}
use Rattle.fs_txn.specs.declared.leading.Leading.{Leading}
use Rattle.fs_txn.specs.declared.mode.Mode2.{Mode2}
use Rattle.fs_txn.specs.declared.mode.Mode2.TheVariants.{Freeze, Check}
use Rattle.fs_server.specs.Begins.{txn_of}
use Rattle.fs_server.specs.PathsHere.{path_here}
use Rattle.fs_server.specs.declared.state.Server.{Server}

-- ## A transaction that comes next

-- no row is locked for the transaction
abbrev pub IsNewTxn : TxnNo → List Row → Type 0
IsNewTxn txn rows = (r : Row) → In r rows → r.lock ≡ Some txn → ⊥

-- nothing is kept of the transaction that comes next
pub record HasNextTxn (s : Server) : Type 0 where
  pub rows : IsNewTxn (txn_of s) s.rows
  pub leading : leading_of (txn_of s) s.leading ≡ None
  pub ending : ending_of (txn_of s) s.ending ≡ None

-- ## A commit whose parts are at several servers

-- the effect is on the part's file
abbrev pub has_effect : Effect → Option Part → Bool
has_effect e None = false
has_effect e (Some p) = same (changed_file e) p.file

-- it is on a part that another server has
abbrev pub goes_from : ℕ → Leading → Effect → Bool
goes_from me l e = list_any (λ (x : ℕ × ℕ). has_effect e (slice_get l.leader.parts x.0)) (elsewhere me l)

-- what a commit applies here and what it tells others are the effects of the operation, each in its place
abbrev pub CommitSplits : Type 0
CommitSplits =
    (me : ℕ) (l : Leading) (uses : List Use) (path : Option PathAnswer) (r : Reply) (effects : List (List Effect)) → IsWholeLeader l uses
    → same l.leader.file (home_of l.leader.op) ≡ false → same l.leader.file (source_of l.leader.op) ≡ false
    → decision l.leader path ≡ Commit r effects
    → ((m : RecordMap) →
    records_after_all m (own_effects me l (Commit r effects)) ≡
    records_after_all m (staying (goes_from me l) (led_effects l.leader.op l.leader.file r))) ×
    (flat_map (λ (x : ℕ × ℕ). told_effects (Commit r effects) x.0) (elsewhere me l) ≡
    going (goes_from me l) (led_effects l.leader.op l.leader.file r))

-- ## A directory that comes into another one

-- this is what the server knows of the path of that one, whose record is here
pub record IsKnown (p : PathAnswer) (o : Op) (s : Server) : Type 0 where
  pub here : is_some (get s.records (home_of o)) ≡ true
  pub known : path_here s (home_of o) ≡ p

-- its path, as the server knows it, has the file, or has it not
pub record IsOnPath (on : Bool) (o : Op) (file : List ℕ) (s : Server) : Type 0 where
  pub files : List (List ℕ)
  pub known : IsKnown (found.Path files) o s
  pub has : has_file files file ≡ on

-- by that path it is admitted: the file comes there where it is not on it, and would make a cycle where it is, each in its own mode
pub data IsAdmittedBy (mode : Mode2) (o : Op) (file : List ℕ) (s : Server) : Reply → Type 0 where
  renamed : mode ≡ Freeze → IsOnPath false o file s → IsAdmittedBy mode o file s reply.Renamed
  cycle : mode ≡ Check → IsOnPath true o file s → IsAdmittedBy mode o file s reply.Cycle

-- each part said Yes
abbrev pub AreYes : Votes → Type 0
AreYes votes = (v : Option Vote) → In v votes → v ≡ Some Yes

-- all parts said Yes, and it is decided by the path
pub record StandsOnPath (l : Leader) : Type 0 where
  pub yes : AreYes l.votes
  pub needs : needs_path l.mode l.op ≡ true

-- ## What is awaited

-- the vote on the part is awaited
abbrev pub awaits_vote : Voted → Option Leading → Bool
awaits_vote m None = false
awaits_vote m (Some l) = awaits l.leader m.number

-- that the part is done is awaited
abbrev pub awaits_this : Done → Option Ending → Bool
awaits_this m None = false
awaits_this m (Some x) = awaits_done m.number x.awaits

-- what the parts of this number among these are
abbrev pub of_number : ℕ → List (ℕ × ℕ) → List (ℕ × ℕ)
of_number number parts = filter (λ (x : ℕ × ℕ). x.0 == number) parts
