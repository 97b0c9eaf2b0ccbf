-- The transactions that a server leads: those of which votes are awaited, and those that are decided and not done everywhere.
use Rattle.std.specs.Prelude.{◌≡◌, ℕ, ◌+◌, ◌==◌, Bool, true, false, not, List, [], ◌∷◌, ◌++◌, length, map, Option, Some, None, is_some, slice_get, if◌then◌else◌}
use Rattle.std.specs.List.{filter, find, flat_map, list_any}
use Rattle.fs_ident.specs.In.{In}
use Rattle.fs_ident.specs.declared.actor.Session.{Session}
use Rattle.fs_ident.specs.declared.actor.TxnNo.{TxnNo}
use Rattle.fs_field.specs.Table.{same_txn}
use Rattle.fs_field.specs.declared.effect.Effect.{Effect}
use Rattle.fs_field.specs.declared.used.Part.{Part}
use Rattle.fs_field.specs.declared.used.Use.{Use}
use Rattle.fs_field.specs.declared.vote.Vote.{Vote}
use Rattle.fs_model.specs.declared.reply.Reply.TheVariants as reply
use Rattle.fs_record.specs.declared.led_end.LedEnd.{LedEnd}
use Rattle.fs_record.specs.declared.led_end.LedEnd.TheVariants as end
use Rattle.fs_txn.specs.Deciding.{told_effects}
use Rattle.fs_txn.specs.Locks.{Agreed, Kept}
use Rattle.fs_txn.specs.Parts.{parts_of}
use Rattle.fs_txn.specs.Stages.{Stage, is_yes}
use Rattle.fs_txn.specs.Stages.Stage.{Unknown, Asked, Counted, Awaited}
use Rattle.fs_txn.specs.Votes.{Votes}
use Rattle.fs_txn.specs.declared.decision.Decision.{Decision}
use Rattle.fs_txn.specs.declared.decision.Decision.TheVariants.{Commit, Abort}
use Rattle.fs_txn.specs.declared.leading.Ending.{Ending}
use Rattle.fs_txn.specs.declared.leading.Leading.{Leading}

-- ## Both lists, by the number of the transaction

abbrev pub leading_of : TxnNo → List Leading → Option Leading
leading_of txn leading = find (λ (l : Leading). same_txn l.leader.txn txn) leading

abbrev pub without_leading : TxnNo → List Leading → List Leading
without_leading txn leading = filter (λ (l : Leading). not (same_txn l.leader.txn txn)) leading

abbrev pub with_leading : Leading → List Leading → List Leading
with_leading l leading = without_leading l.leader.txn leading ++ l ∷ []

abbrev pub ending_of : TxnNo → List Ending → Option Ending
ending_of txn ending = find (λ (x : Ending). same_txn x.txn txn) ending

abbrev pub without_ending : TxnNo → List Ending → List Ending
without_ending txn ending = filter (λ (x : Ending). not (same_txn x.txn txn)) ending

-- one of which nothing is awaited is over
abbrev pub with_ending : Ending → List Ending → List Ending
with_ending x ending = without_ending x.txn ending ++ (if is_some (slice_get x.awaits 0) then x ∷ [] else [])

-- ## Parts that said Yes, each with the server that has it

abbrev pub said_yes : Option Vote → Bool
said_yes None = false
said_yes (Some v) = is_yes v

abbrev pub yes_from : ℕ → Votes → List ℕ → List (ℕ × ℕ)
yes_from number [] at = []
yes_from number (v ∷ vs) [] = []
yes_from number (v ∷ vs) (k ∷ ks) = if said_yes v then (number, k) ∷ yes_from (number + 1) vs ks else yes_from (number + 1) vs ks

abbrev pub yes_parts : Leading → List (ℕ × ℕ)
yes_parts l = yes_from 0 l.leader.votes l.at

-- at other servers, and at this one
abbrev pub elsewhere : ℕ → Leading → List (ℕ × ℕ)
elsewhere me l = filter (λ (x : ℕ × ℕ). not (x.1 == me)) (yes_parts l)

abbrev pub own_parts : ℕ → Leading → List (ℕ × ℕ)
own_parts me l = filter (λ (x : ℕ × ℕ). x.1 == me) (yes_parts l)

-- the effects of a decision on the parts that are here
abbrev pub own_effects : ℕ → Leading → Decision → List Effect
own_effects me l d = flat_map (λ (x : ℕ × ℕ). told_effects d x.0) (own_parts me l)

-- ## What every one is

-- the parts are those of its operation, each has a place for its vote, and each was asked of a server
pub record IsWholeLeader (l : Leading) (uses : List Use) : Type 0 where
  pub parts : l.leader.parts ≡ parts_of l.leader.op l.leader.file uses l.leader.mode
  pub asked : length l.at ≡ length l.leader.parts
  pub votes : length l.leader.votes ≡ length l.leader.parts

-- each is so for the leases that its operation used
abbrev pub AreWhole : List Leading → Type 0
AreWhole leading = (l : Leading) → In l leading → (uses : List Use) × IsWholeLeader l uses

-- ## How it ends

-- how it ends for the session
abbrev pub end_of_decision : Decision → LedEnd
end_of_decision (Commit r effects) = end.Done r
end_of_decision (Abort e) = e

-- ## Parts that are not done yet

abbrev pub awaits_done : ℕ → List (ℕ × ℕ) → Bool
awaits_done number awaits = list_any (λ (x : ℕ × ℕ). x.0 == number) awaits

abbrev pub without_done : ℕ → Ending → Ending
without_done number x = record x { awaits = filter (λ (y : ℕ × ℕ). not (y.0 == number)) x.awaits }

-- the rows of a rename stay locked until all is done
abbrev pub keeps_till_done : LedEnd → Bool
keeps_till_done (end.Done reply.Renamed) = true
keeps_till_done e = false

-- ## Where a part stands

abbrev pub stage_by : Option ℕ → Option (Option Vote) → Stage
stage_by (Some at) (Some None) = Asked at
stage_by (Some at) (Some (Some v)) = Counted at v
stage_by at v = Unknown

abbrev pub awaited_stage : ℕ → List (ℕ × ℕ) → Stage
awaited_stage number [] = Unknown
awaited_stage number (x ∷ xs) = if x.0 == number then Awaited x.1 else awaited_stage number xs

abbrev pub stage_in : ℕ → Option Leading → Option Ending → Stage
stage_in number (Some l) x = stage_by (slice_get l.at number) (slice_get l.leader.votes number)
stage_in number None (Some x) = awaited_stage number x.awaits
stage_in number None None = Unknown

-- ## What the laws of locks speak of

abbrev pub agreed_part : Leading → ℕ → Option Part → List Agreed
agreed_part l number None = []
agreed_part l number (Some p) =
    let y : Agreed =
    record { key = record { txn = l.leader.txn; part = number }; wanted = record { session = l.leader.session; part = p } } in
    y ∷ []

-- the parts that said Yes here
abbrev pub said_by : ℕ → Leading → List Agreed
said_by me l = flat_map (λ (x : ℕ × ℕ). agreed_part l x.0 (slice_get l.leader.parts x.0)) (own_parts me l)

-- the transactions whose rows stay locked behind their commit
abbrev pub kept_by : List Ending → List Kept
kept_by ending =
    map (λ (x : Ending). let k : Kept = record { txn = x.txn; session = x.session } in k)
    (filter (λ (x : Ending). keeps_till_done x.end) ending)
