-- A commit has a Yes of every part.
use Rattle.std.proofs.Common.{◌≡◌, List, [], ◌∷◌, refl, ◌∙◌, inl, inr}
use Rattle.std.specs.Prelude.{Option, Some, None}
use Rattle.fs_ident.specs.In.{In}
use Rattle.fs_field.specs.declared.effect.Effect.{Effect}
use Rattle.fs_field.specs.declared.path.PathAnswer.{PathAnswer}
use Rattle.fs_field.specs.declared.vote.Vote.{Vote}
use Rattle.fs_field.specs.declared.vote.Vote.TheVariants.{Yes, Ended, Moved, PathsOut}
use Rattle.fs_model.specs.declared.reply.Reply.{Reply}
use Rattle.fs_record.specs.declared.led_end.LedEnd.{LedEnd}
use Rattle.fs_txn.specs.Deciding.{agreed, decision, end_of_place, first_end, or_else, unless_ended}
use Rattle.fs_txn.specs.Votes.{Votes}
use Rattle.fs_txn.specs.declared.decision.Decision.{Decision}
use Rattle.fs_txn.specs.declared.decision.Decision.TheVariants.{Commit}
use Rattle.fs_txn.specs.declared.leader.Leader.{Leader}

neither : (a b : Option LedEnd) → or_else a b ≡ None → (a ≡ None) × (b ≡ None)
neither None b h = (refl, h)
neither (Some e) b h = absurd (cc h)

is_yes : (v : Option Vote) → end_of_place v ≡ None → v ≡ Some Yes
is_yes None h = absurd (cc h)
is_yes (Some Yes) h = refl
is_yes (Some (Ended lease until now)) h = absurd (cc h)
is_yes (Some (Moved prefix to)) h = absurd (cc h)
is_yes (Some (PathsOut lease)) h = absurd (cc h)

all_yes : (votes : Votes) → first_end votes ≡ None → (v : Option Vote) → In v votes → v ≡ Some Yes
all_yes [] h v i = absurd i
all_yes (x ∷ xs) h v (inl e) = e ∙ is_yes x (neither (end_of_place x) (first_end xs) h).0
all_yes (x ∷ xs) h v (inr i) = all_yes xs (neither (end_of_place x) (first_end xs) h).1 v i

not_ended : (o : Option LedEnd) (d : Decision) (r : Reply) (effects : List (List Effect)) → unless_ended o d ≡ Commit r effects → (o ≡ None) × (d ≡ Commit r effects)
not_ended None d r effects h = (refl, h)
not_ended (Some e) d r effects h = absurd (cc h)

pub commit_yes : (l : Leader) (p : Option PathAnswer) (r : Reply) (effects : List (List Effect)) → decision l p ≡ Commit r effects → (v : Option Vote) → In v l.votes → v ≡ Some Yes
commit_yes l p r effects h v i = all_yes l.votes (not_ended (first_end l.votes) (agreed l p) r effects h).0 v i
