-- What a server that leads operations keeps and decides names only servers that there are, and what it tells can be read.
use Rattle.std.proofs.Common.{◌≡◌, ◌∙◌, ◌==◌, ℕ, ◌+◌, Bool, true, false, not, List, [], ◌∷◌, map, Option, Some, None, refl, sym, ap, subst}
use Rattle.std.proofs.Common.{cond, inl, inr}
use Rattle.std.specs.Prelude.{IfSome, slice_get, slice_set, unwrap_or}
use Rattle.std.specs.List.{AllByRecursion, flat_map, list_all}
use Rattle.std.proofs.lemmas.Bool.{not-true}
use Rattle.fs_ident.specs.Ident.{same}
use Rattle.fs_ident.specs.In.{In}
use Rattle.fs_ident.specs.declared.actor.Session.{Session}
use Rattle.fs_ident.specs.declared.actor.TxnNo.{TxnNo}
use Rattle.fs_ident.proofs.Booleans.{both, first, joined, second}
use Rattle.fs_ident.proofs.Standing.{In-filter, In-got, In-map}
use Rattle.fs_field.specs.After.{changed_file}
use Rattle.fs_field.specs.declared.effect.Effect.{Effect}
use Rattle.fs_field.specs.declared.effect.Effect.TheVariants.{SetChild, SetParent, NewNode, RemoveNode, AddHandle, RemoveHandle, SetInfo}
use Rattle.fs_field.specs.declared.path.PathAnswer.{PathAnswer}
use Rattle.fs_field.specs.declared.path.PathAnswer.TheVariants as path
use Rattle.fs_field.specs.declared.row.Row.{Row}
use Rattle.fs_field.specs.declared.used.Part.{Part}
use Rattle.fs_field.specs.declared.vote.Vote.{Vote}
use Rattle.fs_field.specs.declared.vote.Vote.TheVariants.{Yes, Ended, Moved, PathsOut}
use Rattle.fs_model.specs.declared.op.Op.{Op}
use Rattle.fs_model.specs.declared.op.Op.TheVariants as op
use Rattle.fs_model.specs.declared.reply.Reply.{Reply}
use Rattle.fs_model.specs.declared.reply.Reply.TheVariants as reply
use Rattle.fs_parcel.proofs.Both.{passing}
use Rattle.fs_record.specs.LedEffects.{led_effects}
use Rattle.fs_record.specs.declared.led_end.LedEnd.{LedEnd}
use Rattle.fs_serial.proofs.Lists.SetAt.{In_set}
use Rattle.fs_serial.proofs.Transactions.PlacesAfter.{AreRelocked}
use Rattle.fs_serial.proofs.Transactions.Tables.{in_with_ending, in_with_leading, in_without_leading}
use Rattle.fs_txn.specs.Deciding.{agreed, by_files, by_path, commit, decision, effects_on, end_of_vote, first_end, has_file, needs_path}
use Rattle.fs_txn.specs.Deciding.{or_else, reply_of, told_effects, unless_ended}
use Rattle.fs_txn.specs.Leading.{elsewhere, end_of_decision, own_effects, own_parts, said_yes, with_ending, with_leading, without_leading}
use Rattle.fs_txn.specs.Leading.{yes_from, yes_parts}
use Rattle.fs_txn.specs.Votes.{Votes, votes_after}
use Rattle.fs_txn.proofs.Parted.{decision_is}
use Rattle.fs_txn.specs.declared.decision.Decision.{Decision}
use Rattle.fs_txn.specs.declared.leader.Leader.{Leader}
use Rattle.fs_txn.specs.declared.leading.Ending.{Ending}
use Rattle.fs_txn.specs.declared.leading.Leading.{Leading}
use Rattle.fs_txn.specs.declared.mode.Mode2.{Mode2}
use Rattle.fs_txn.specs.declared.mode.Mode2.TheVariants.{Check, Freeze, Plain}
use Rattle.fs_wire.specs.Readable.{is_readable_effect}
use Rattle.fs_serial.specs.Places.{VoteNames}
use Rattle.fs_world.specs.Linked.{IsEndingOf, IsLeadingOf, IsNamedLed}
use Rattle.fs_world.specs.Served.{SessionStates}
use Rattle.fs_world.proofs.OpenHandles.{AddsOpen, each_both, each_left}
use Rattle.fs_world.proofs.SeenRows.{AreOf}

-- ## Rows

-- other locks leave the sessions of rows
pub relocked_of : (these : Session → Type 0) (rows new : List Row) → AreRelocked rows new → AreOf these rows → AreOf these new
relocked_of these rows new q h row i =
    let m = In-map q.change row rows (subst (In row) q.is i) in
    subst these (sym (ap (λ (x : Row). x.session) (m.1.1 ∙ (q.relock m.0).1))) (h m.0 m.1.0)

-- ## Effects

-- the effect adds only handles that can be read, and can be read itself
abbrev pub IsTellable : Effect → Type 0
IsTellable e = AddsOpen e × (is_readable_effect e ≡ true)

pub tellable_open : (es : List Effect) → AllByRecursion IsTellable es → AllByRecursion AddsOpen es
tellable_open [] h = tt
tellable_open (e ∷ es) h = (h.0.0, tellable_open es h.1)

pub tellable_read : (es : List Effect) → AllByRecursion IsTellable es → list_all is_readable_effect es ≡ true
tellable_read [] h = refl
tellable_read (e ∷ es) h = joined _ _ h.0.1 (tellable_read es h.1)

one_open : (e : Effect) → is_readable_effect e ≡ true → AddsOpen e
one_open (AddHandle file session h modes) r = both _ _ r
one_open (SetChild dir name to) r = tt
one_open (SetParent file dir name) r = tt
one_open (NewNode file kind dir name) r = tt
one_open (RemoveNode file) r = tt
one_open (RemoveHandle file session h) r = tt
one_open (SetInfo file size stamp) r = tt

-- what can be read adds no others
pub read_open : (es : List Effect) → list_all is_readable_effect es ≡ true → AllByRecursion AddsOpen es
read_open [] h = tt
read_open (e ∷ es) h = (one_open e (first _ _ h), read_open es (second _ _ h))

-- a rename and a delete add no handle
led_tellable : (o : Op) (file : List ℕ) (r : Reply) → AllByRecursion IsTellable (led_effects o file r)
led_tellable (op.Rename sdir sname ddir dname) file reply.Renamed = ((tt, refl), ((tt, refl), ((tt, refl), tt)))
led_tellable (op.Delete dir name) file reply.Deleted = ((tt, refl), ((tt, refl), tt))
led_tellable o file r = tt

-- what each part is told
abbrev pub TellsOpen : Decision → Type 0
TellsOpen d = (part : ℕ) → AllByRecursion IsTellable (told_effects d part)

commit_tells : (l : Leader) (r : Reply) → TellsOpen (commit l r)
commit_tells l r part = at (slice_get parts part) (λ es e. In-got parts part es e)
  where
    on : Part → List Effect
    on p = effects_on (led_effects l.op l.file r) p.file

    parts : List (List Effect)
    parts = map on l.parts

    at : (o : Option (List Effect)) → ((es : List Effect) → o ≡ Some es → In es parts) → AllByRecursion IsTellable (unwrap_or o [])
    at None g = tt
    at (Some es) g =
        let q = In-map on es l.parts (g es refl) in
        subst (AllByRecursion IsTellable) (sym q.1.1)
        (each_left IsTellable (λ e. same (changed_file e) q.0.file) (led_effects l.op l.file r) (led_tellable l.op l.file r))

pub decision_tells : (l : Leader) (p : Option PathAnswer) → TellsOpen (decision l p)
decision_tells l p = decision_is l TellsOpen (λ e part. tt) (commit_tells l) p

-- the effects on the parts that are here
pub own_tellable : (me : ℕ) (l : Leading) (d : Decision) → TellsOpen d → AllByRecursion IsTellable (own_effects me l d)
own_tellable me l d h = all (own_parts me l)
  where
    all : (xs : List (ℕ × ℕ)) → AllByRecursion IsTellable (flat_map (λ (x : ℕ × ℕ). told_effects d x.0) xs)
    all [] = tt
    all (x ∷ xs) = each_both IsTellable (told_effects d x.0) _ (h x.0) (all xs)

-- ## Ends

-- the votes name only servers that there are
abbrev pub AreNamedVotes : ℕ → Votes → Type 0
AreNamedVotes servers votes = (v : Vote) → In (Some v) votes → VoteNames servers v

vote_ends : (servers : ℕ) (v : Vote) → VoteNames servers v → IfSome (end_of_vote v) (IsNamedLed servers)
vote_ends servers Yes h = tt
vote_ends servers (Ended lease until now) h = tt
vote_ends servers (PathsOut lease) h = tt
vote_ends servers (Moved prefix to) h = h

or_ends : (servers : ℕ) (a b : Option LedEnd) → IfSome a (IsNamedLed servers) → IfSome b (IsNamedLed servers)
    → IfSome (or_else a b) (IsNamedLed servers)
or_ends servers None b g h = h
or_ends servers (Some e) b g h = g

votes_end : (servers : ℕ) (votes : Votes) → AreNamedVotes servers votes → IfSome (first_end votes) (IsNamedLed servers)
votes_end servers [] h = tt
votes_end servers (None ∷ votes) h = tt
votes_end servers (Some v ∷ votes) h =
    or_ends servers (end_of_vote v) (first_end votes) (vote_ends servers v (h v (inl refl))) (votes_end servers votes (λ w i. h w (inr i)))

-- what is committed, or put off by a path, names no server
abbrev EndsNamed : ℕ → Decision → Type 0
EndsNamed servers d = IsNamedLed servers (end_of_decision d)

files_end : (servers : ℕ) (l : Leader) (mode : Mode2) (on : Bool) → EndsNamed servers (by_files l mode on)
files_end servers l Check true = tt
files_end servers l Check false = tt
files_end servers l Plain true = tt
files_end servers l Plain false = tt
files_end servers l Freeze true = tt
files_end servers l Freeze false = tt

path_ends : (servers : ℕ) (l : Leader) (p : Option PathAnswer) → EndsNamed servers (by_path l p)
path_ends servers l None = tt
path_ends servers l (Some (path.Path files)) = files_end servers l l.mode (has_file files l.file)
path_ends servers l (Some (path.Wanted file parent)) = tt
path_ends servers l (Some (path.Frozen file txn)) = tt

pub decision_ends : (servers : ℕ) (l : Leader) (p : Option PathAnswer) → AreNamedVotes servers l.votes
    → IsNamedLed servers (end_of_decision (decision l p))
decision_ends servers l p h = unless (first_end l.votes) (agreed l p) (votes_end servers l.votes h) (either (needs_path l.mode l.op))
  where
    either : (b : Bool) → EndsNamed servers (cond b (by_path l p) (commit l (reply_of l.op)))
    either true = path_ends servers l p
    either false = tt

    unless : (o : Option LedEnd) (d : Decision) → IfSome o (IsNamedLed servers) → EndsNamed servers d → EndsNamed servers (unless_ended o d)
    unless None d e h = h
    unless (Some x) d e h = e

-- ## Votes

set_named : (servers : ℕ) (votes : Votes) (number : ℕ) (v : Vote) → VoteNames servers v → AreNamedVotes servers votes
    → AreNamedVotes servers (slice_set votes number (Some v))
set_named servers votes number v named h w i = elim (In_set votes number (Some v) (Some w) i) as (λ _. VoteNames servers w) [
  | inl e ↦ let is : v ≡ w = cc in subst (VoteNames servers) is named
  | inr j ↦ h w j
]

-- with one more
pub votes_named : (servers : ℕ) (votes : Votes) (number : ℕ) (v : Vote) → VoteNames servers v → AreNamedVotes servers votes
    → AreNamedVotes servers (votes_after votes number v)
votes_named servers votes number (Moved prefix to) named h w i = h w i
votes_named servers votes number Yes named h w i = set_named servers votes number Yes named h w i
votes_named servers votes number (Ended lease until now) named h w i = set_named servers votes number (Ended lease until now) named h w i
votes_named servers votes number (PathsOut lease) named h w i = set_named servers votes number (PathsOut lease) named h w i

-- ## Places of parts

-- a part that said Yes was asked of its server
yes_among : (number : ℕ) (votes : Votes) (at : List ℕ) (x : ℕ × ℕ) → In x (yes_from number votes at) → In x.1 at
yes_among number [] at x i = absurd i
yes_among number (v ∷ vs) [] x i = absurd i
yes_among number (v ∷ vs) (k ∷ ks) x i = by (said_yes v) (yes_among (number + 1) vs ks x) i
  where
    by : (b : Bool) → (In x (yes_from (number + 1) vs ks) → In x.1 ks)
        → In x (cond b ((number, k) ∷ yes_from (number + 1) vs ks) (yes_from (number + 1) vs ks)) → In x.1 (k ∷ ks)
    by true rest (inl e) = inl (ap (λ (y : ℕ × ℕ). y.1) e)
    by true rest (inr j) = inr (rest j)
    by false rest j = inr (rest j)

pub elsewhere_at : (me : ℕ) (l : Leading) (x : ℕ × ℕ) → In x (elsewhere me l) → In x.1 l.at × ((x.1 == me) ≡ false)
elsewhere_at me l x i = (
  yes_among 0 l.leader.votes l.at x (In-filter (λ (y : ℕ × ℕ). not (y.1 == me)) x (yes_parts l) i),
  not-true (x.1 == me) (passing (λ (y : ℕ × ℕ). not (y.1 == me)) (yes_parts l) x i),
)

-- ## Both lists

abbrev pub AreLeading : ℕ → SessionStates → List Leading → Type 0
AreLeading servers sessions leading = (l : Leading) → In l leading → IsLeadingOf servers sessions l

abbrev pub AreEnding : ℕ → SessionStates → List Ending → Type 0
AreEnding servers sessions ending = (x : Ending) → In x ending → IsEndingOf servers sessions x

pub leading_more : (servers : ℕ) (sessions : SessionStates) (l : Leading) (leading : List Leading) → IsLeadingOf servers sessions l
    → AreLeading servers sessions leading → AreLeading servers sessions (with_leading l leading)
leading_more servers sessions l leading own h y i = elim (in_with_leading l leading y i) as (λ _. IsLeadingOf servers sessions y) [
  | inl e ↦ subst (IsLeadingOf servers sessions) (sym e) own
  | inr q ↦ h y q.0
]

pub leading_less : (servers : ℕ) (sessions : SessionStates) (txn : TxnNo) (leading : List Leading) → AreLeading servers sessions leading
    → AreLeading servers sessions (without_leading txn leading)
leading_less servers sessions txn leading h y i = h y (in_without_leading txn leading y i).0

pub ending_more : (servers : ℕ) (sessions : SessionStates) (x : Ending) (ending : List Ending) → IsEndingOf servers sessions x
    → AreEnding servers sessions ending → AreEnding servers sessions (with_ending x ending)
ending_more servers sessions x ending own h y i = elim (in_with_ending x ending y i) as (λ _. IsEndingOf servers sessions y) [
  | inl q ↦ subst (IsEndingOf servers sessions) (sym q.0) own
  | inr q ↦ h y q.0
]
