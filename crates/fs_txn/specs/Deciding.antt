-- What a leader decides once every part has voted.
use Rattle.std.specs.Prelude.{ℕ, Bool, true, false, List, [], ◌∷◌, map, Option, Some, None, unwrap_or, slice_get, if◌then◌else◌}
use Rattle.std.specs.List.{filter, list_any}
use Rattle.fs_ident.specs.Ident.{same}
use Rattle.fs_field.specs.After.{changed_file}
use Rattle.fs_field.specs.declared.effect.Effect.{Effect}
use Rattle.fs_field.specs.declared.path.PathAnswer.{PathAnswer}
use Rattle.fs_field.specs.declared.path.PathAnswer.TheVariants as path
use Rattle.fs_field.specs.declared.used.Part.{Part}
use Rattle.fs_field.specs.declared.vote.Vote.{Vote}
use Rattle.fs_field.specs.declared.vote.Vote.TheVariants as vote
use Rattle.fs_model.specs.declared.op.Op.{Op}
use Rattle.fs_model.specs.declared.op.Op.TheVariants as op
use Rattle.fs_model.specs.declared.reply.Reply.{Reply}
use Rattle.fs_model.specs.declared.reply.Reply.TheVariants as reply
use Rattle.fs_record.specs.LedEffects.{led_effects}
use Rattle.fs_record.specs.declared.led_end.LedEnd.{LedEnd}
use Rattle.fs_record.specs.declared.led_end.LedEnd.TheVariants as end
use Rattle.fs_record.specs.declared.led_end.Why.{Why}
use Rattle.fs_record.specs.declared.led_end.Why.TheVariants as why
use Rattle.fs_txn.specs.declared.decision.Decision.{Decision}
use Rattle.fs_txn.specs.declared.decision.Decision.TheVariants.{Commit, Abort}
use Rattle.fs_txn.specs.declared.leader.Leader.{Leader}
use Rattle.fs_txn.specs.declared.mode.Mode2.{Mode2}
use Rattle.fs_txn.specs.declared.mode.Mode2.TheVariants.{Plain, Freeze, Check}
use Rattle.fs_txn.specs.Votes.{Votes}

-- ## Votes that are not Yes

abbrev pub end_of_vote : Vote → Option LedEnd
end_of_vote vote.Yes = None
end_of_vote (vote.Ended lease until now) = Some (end.Ended lease until now)
end_of_vote (vote.PathsOut lease) = Some (end.Again (why.PathsOut lease))
end_of_vote (vote.Moved prefix to) = Some (end.Again (why.Moved prefix to))

-- the end that a place among the votes calls for; where nobody voted nothing is agreed
abbrev pub end_of_place : Option Vote → Option LedEnd
end_of_place None = Some (end.Again why.Changed)
end_of_place (Some v) = end_of_vote v

abbrev pub or_else : Option LedEnd → Option LedEnd → Option LedEnd
or_else (Some e) rest = Some e
or_else None rest = rest

-- the end that the first vote that is not Yes calls for
abbrev pub first_end : Votes → Option LedEnd
first_end [] = None
first_end (v ∷ vs) = or_else (end_of_place v) (first_end vs)

-- ## Commits

-- the effects on the part's file
abbrev pub effects_on : List Effect → List ℕ → List Effect
effects_on effects file = filter (λ e. same (changed_file e) file) effects

-- the operation is admitted with the reply, and each part gets the effects on its file
abbrev pub commit : Leader → Reply → Decision
commit l r = Commit r (map (λ (p : Part). effects_on (led_effects l.op l.file r) p.file) l.parts)

-- nothing is admitted, and the operation may be asked for again
abbrev pub again : Why → Decision
again w = Abort (end.Again w)

-- the reply to an operation that goes on
abbrev pub reply_of : Op → Reply
reply_of (op.Delete dir name) = reply.Deleted
reply_of o = reply.Renamed

-- ## The path of the destination

-- the decision stands on that path: a directory comes into another one, and that could be below it
abbrev pub needs_path : Mode2 → Op → Bool
needs_path Plain o = false
needs_path Freeze (op.Delete dir name) = false
needs_path mode o = true

-- where the file was on that path, and is, the rename would make a cycle; where it was not, and is not, it goes on
abbrev pub by_files : Leader → Mode2 → Bool → Decision
by_files l Check true = commit l reply.Cycle
by_files l Check false = again why.Changed
by_files l mode true = again why.Changed
by_files l mode false = commit l reply.Renamed

abbrev pub has_file : List (List ℕ) → List ℕ → Bool
has_file files file = list_any (λ f. same f file) files

abbrev pub by_path : Leader → Option PathAnswer → Decision
by_path l None = again why.Changed
by_path l (Some (path.Path files)) = by_files l l.mode (has_file files l.file)
by_path l (Some (path.Wanted file parent)) = again (why.Wanted file)
by_path l (Some (path.Frozen file txn)) = again (why.Frozen file txn)

-- ## The decision

-- what is decided where every part said Yes
abbrev pub agreed : Leader → Option PathAnswer → Decision
agreed l p = if needs_path l.mode l.op then by_path l p else commit l (reply_of l.op)

abbrev pub unless_ended : Option LedEnd → Decision → Decision
unless_ended (Some e) d = Abort e
unless_ended None d = d

-- the first vote that is not Yes ends it; else it goes on, or not, by the path of the destination
abbrev pub decision : Leader → Option PathAnswer → Decision
decision l p = unless_ended (first_end l.votes) (agreed l p)

-- the effects that the part of this number is told: none where nothing is committed
abbrev pub told_effects : Decision → ℕ → List Effect
told_effects (Commit r effects) part = unwrap_or (slice_get effects part) []
told_effects (Abort e) part = []

-- the leader's own rows stay locked while another server has not told that it applied its effects: the place of a file that moves is
-- guarded by the row on its name alone
abbrev pub keeps_rows : Decision → Bool
keeps_rows (Commit reply.Renamed effects) = true
keeps_rows d = false
