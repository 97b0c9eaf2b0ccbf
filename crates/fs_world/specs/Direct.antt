-- The world of the direct form: its events, one after another, on one namespace.
use Rattle.std.specs.Prelude.{ℕ, ◌+◌, ◌-◌, ◌^◌, ◌==◌, Bool, true, false, ◌&&◌, nat_le, nat_lt, List, [], ◌∷◌, ◌++◌, length, Option, Some}
use Rattle.std.specs.Prelude.{None, unwrap_or, if◌then◌else◌}
use Rattle.std.specs.FinMap.{FinMap, get, insert, empty}
use Rattle.std.specs.Ordering.{nat_cmp}
use Rattle.std.specs.Cmp.Lexicographic.{slice_cmp}
use Rattle.fs_ident.specs.Ident.{child}
use Rattle.fs_ident.specs.declared.actor.Session.{Session}
use Rattle.fs_ident.specs.declared.actor.Peer.{Peer}
use Rattle.fs_ident.specs.declared.actor.Peer.TheVariants.{Client}
use Rattle.fs_ident.specs.declared.kind.Kind.{Kind}
use Rattle.fs_model.specs.declared.op.Op.{Op}
use Rattle.fs_model.specs.declared.op.Op.TheVariants as op
use Rattle.fs_model.specs.declared.reply.Reply.{Reply}
use Rattle.fs_model.specs.declared.reply.Reply.TheVariants as reply
use Rattle.fs_model.specs.Namespace.{NodeMap, first_space}
use Rattle.fs_model.specs.Step as space
use Rattle.fs_msg.specs.declared.item.Item.{Item}
use Rattle.fs_msg.specs.declared.note.Note.{Note}
use Rattle.fs_msg.specs.declared.note.Note.TheVariants as note
use Rattle.fs_schedule.specs.declared.event.What.{What}
use Rattle.fs_schedule.specs.declared.event.What.TheVariants.{Join, Do}
use Rattle.fs_schedule.specs.declared.outcome.Outcome.{Outcome}
use Rattle.fs_world.specs.declared.direct.world.Direct.{Direct}

-- the number of each directory's next child; a directory that is not in it has 1
abbrev pub Numbers : Type 0
Numbers = FinMap (slice_cmp nat_cmp) ℕ

-- how many operations each session has asked for since it joined
abbrev pub Counts : Type 0
Counts = FinMap nat_cmp ℕ

-- the world before its first event: the root directory alone, and no session
abbrev pub first_direct : Direct
first_direct = record { space = first_space; next = empty; asked = empty; journal = [] }

-- ## One operation

abbrev pub next_of : Numbers → List ℕ → ℕ
next_of next dir = unwrap_or (get next dir) 1

-- the directory's child of that number, where there can be one
abbrev pub candidate_of : ℕ → List ℕ → Option (List ℕ)
candidate_of k dir = if nat_lt (length dir) 32 && (nat_le 1 k && nat_lt k (2 ^ 32)) then Some (child dir k) else None

-- the identifier that a new child of the directory would have
abbrev pub candidate : Numbers → List ℕ → Option (List ℕ)
candidate next dir = candidate_of (next_of next dir) dir

-- the operation with the identifier that it was given, its reply, and what it leaves
pub record Answer : Type 0 where
  pub op : Op
  pub reply : Reply
  pub space : NodeMap
  pub next : Numbers

abbrev pub answer_of : NodeMap → Numbers → Session → Op → Answer
answer_of m next by o = record { op = o; reply = (space.step m by o).reply; space = (space.step m by o).nodes; next = next }

-- a create that was made used up a number
abbrev pub with_number_used : Numbers → List ℕ → Answer → Answer
with_number_used next dir a = record a { next = insert next dir (next_of next dir + 1) }

abbrev pub is_made : Reply → Bool
is_made reply.Made = true
is_made _ = false

-- a create is given the candidate where it then is made, and else no identifier
abbrev pub create_answer : NodeMap → Numbers → Session → List ℕ → List ℕ → Kind → Option (List ℕ) → Answer
create_answer m next by dir name kind id =
    if is_made (space.step m by (op.Create dir name kind id)).reply
    then with_number_used next dir (answer_of m next by (op.Create dir name kind id))
    else answer_of m next by (op.Create dir name kind None)

abbrev pub answer : NodeMap → Numbers → Session → Op → Answer
answer m next by (op.Create dir name kind id) = create_answer m next by dir name kind (candidate next dir)
answer m next by o = answer_of m next by o

-- ## One event

-- the world after an event, and what the event came to
pub record Stepped : Type 0 where
  pub world : Direct
  pub outcome : Outcome

abbrev pub outcome_of : Option Peer → Note → Outcome
outcome_of who n = record { who = who; notes = n ∷ []; sent = [] }

abbrev pub nothing : Direct → Stepped
nothing w = record { world = w; outcome = outcome_of None note.Nothing }

abbrev pub join_step : Direct → Session → Stepped
join_step w s = record { world = record w { asked = insert w.asked s.0 0 }; outcome = outcome_of (Some (Client s)) note.Joined }

-- the journal's item of the session's operation of number n
abbrev pub item_of : Session → ℕ → Answer → Item
item_of s n a = record { by = Client s; n = n; op = a.op; reply = a.reply }

-- the namespace and the numbers that an answer leaves
abbrev pub with_answer : Direct → Answer → Direct
with_answer w a = record w { space = a.space; next = a.next }

-- the session's operation of number n is carried out
abbrev pub with_item : Direct → Session → ℕ → Answer → Direct
with_item w s n a = record (with_answer w a) { journal = w.journal ++ item_of s n a ∷ [] }

-- and the session is told of it
abbrev pub answer_step : Direct → Session → ℕ → Answer → Stepped
answer_step w s n a = record {
  world = record (with_item w s n a) { asked = insert w.asked s.0 n };
  outcome = outcome_of (Some (Client s)) (note.Answered n a.reply);
}

-- a session joins once
abbrev pub join_at : Option ℕ → Direct → Session → Stepped
join_at None w s = join_step w s
join_at (Some n) w s = nothing w

-- a session that has joined is answered
abbrev pub do_at : Option ℕ → Direct → Session → Op → Stepped
do_at None w s o = nothing w
do_at (Some n) w s o = answer_step w s (n + 1) (answer w.space w.next s o)

abbrev pub step_of : Direct → What → Stepped
step_of w (Join s) = join_at (get w.asked s.0) w s
step_of w (Do s o) = do_at (get w.asked s.0) w s o
step_of w _ = nothing w

-- ## Counters at the end of their type

abbrev pub is_last : Option ℕ → Bool
is_last None = false
is_last (Some n) = n == 2 ^ 64 - 1

-- the event asks for a number after the last one
abbrev pub is_spent : Direct → What → Bool
is_spent w (Join s) = false
is_spent w (Do s o) = is_last (get w.asked s.0)
is_spent w _ = false
