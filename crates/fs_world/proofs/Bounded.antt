-- No session has asked for more operations than there were events, so no counter comes to its end.
use Rattle.std.proofs.Common.{◌≡◌, ℕ, ◌+◌, ◌-◌, ◌^◌, ◌<◌, ◌≤◌, Bool, true, false, if◌then◌else◌, List, [], ◌∷◌, length, refl, ap, sym, ◌∙◌}
use Rattle.std.proofs.Common.{cond, arith}
use Rattle.std.specs.Prelude.{Option, Some, None, unwrap_or}
use Rattle.std.specs.Ordering.{nat_cmp, eq_by_cmp}
use Rattle.std.specs.Cmp.{nat_cmp_total}
use Rattle.std.specs.FinMap.{get, insert, get-insert, get-empty}
use Rattle.fs_ident.specs.declared.actor.Session.{Session}
use Rattle.fs_ident.proofs.Same.{unequal}
use Rattle.fs_model.specs.declared.op.Op.{Op}
use Rattle.fs_msg.specs.declared.core_error.Counter.TheVariants.{Entries}
use Rattle.fs_schedule.specs.declared.event.Event.{Event}
use Rattle.fs_schedule.specs.declared.event.Head.{Head}
use Rattle.fs_schedule.specs.declared.event.Head.TheVariants as head
use Rattle.fs_schedule.specs.declared.event.Schedule.{Schedule}
use Rattle.fs_schedule.specs.declared.event.What.{What}
use Rattle.fs_schedule.specs.declared.event.What.TheVariants.{Join, Do, Tell, Turn, Recall, Move}
use Rattle.fs_world.specs.declared.direct.world.Direct.{Direct}
use Rattle.fs_world.specs.Direct.{Counts, do_at, first_direct, is_last, is_spent, join_at, step_of}
use Rattle.fs_world.specs.World.{Stop, first_world, stop_after, stop_at, stop_in, stop_of}
use Rattle.fs_world.specs.declared.form.Form.TheVariants as form

-- no count is above this
abbrev AtMost : ℕ → Counts → Type 0
AtMost k asked = (s n : ℕ) → get asked s ≡ Some n → n ≤ k

same_some : (x y : ℕ) → ◌≡◌ {A = Option ℕ} (Some x) (Some y) → x ≡ y
same_some x y e = ap (λ (o : Option ℕ). unwrap_or o 0) e

one_put : (b : Bool) (k v n : ℕ) (old : Option ℕ) → v ≤ k + 1 → (old ≡ Some n → n ≤ k) → cond b (Some v) old ≡ Some n → n ≤ k + 1
one_put true k v n old le h e = let same : v ≡ n = same_some v n e in omega arith
one_put false k v n old le h e = let here : n ≤ k = h e in omega arith

put : (k : ℕ) (asked : Counts) (c v : ℕ) → v ≤ k + 1 → AtMost k asked → AtMost (k + 1) (insert asked c v)
put k asked c v le h s n e = one_put (eq_by_cmp nat_cmp s c) k v n (get asked s) le (h s n) (sym (get-insert nat_cmp_total asked c v s) ∙ e)

more : (k : ℕ) (asked : Counts) → AtMost k asked → AtMost (k + 1) asked
more k asked h s n e = let here : n ≤ k = h s n e in omega arith

join_bounded : (k : ℕ) (w : Direct) (s : Session) (c : Option ℕ) → AtMost k w.asked → AtMost (k + 1) (join_at c w s).world.asked
join_bounded k w s None h = put k w.asked s.0 0 (omega arith) h
join_bounded k w s (Some n) h = more k w.asked h

do_bounded : (k : ℕ) (w : Direct) (s : Session) (o : Op) (c : Option ℕ) → get w.asked s.0 ≡ c → AtMost k w.asked
    → AtMost (k + 1) (do_at c w s o).world.asked
do_bounded k w s o None e h = more k w.asked h
do_bounded k w s o (Some n) e h = let here : n ≤ k = h s.0 n e in put k w.asked s.0 (n + 1) (omega arith) h

step_bounded : (k : ℕ) (w : Direct) (what : What) → AtMost k w.asked → AtMost (k + 1) (step_of w what).world.asked
step_bounded k w (Join s) h = join_bounded k w s (get w.asked s.0) h
step_bounded k w (Do s o) h = do_bounded k w s o (get w.asked s.0) refl h
step_bounded k w (Tell number) h = more k w.asked h
step_bounded k w (Turn who) h = more k w.asked h
step_bounded k w (Recall server field) h = more k w.asked h
step_bounded k w (Move at prefix to) h = more k w.asked h

last_at : (k : ℕ) (c : Option ℕ) → ((n : ℕ) → c ≡ Some n → n ≤ k) → k + 1 < 2 ^ 64 → is_last c ≡ false
last_at k None h lt = refl
last_at k (Some n) h lt = let here : n ≤ k = h n refl in unequal n (2 ^ 64 - 1) (omega arith)

spent_at : (k : ℕ) (w : Direct) (what : What) → AtMost k w.asked → k + 1 < 2 ^ 64 → is_spent w what ≡ false
spent_at k w (Join s) h lt = refl
spent_at k w (Do s o) h lt = last_at k (get w.asked s.0) (h s.0) lt
spent_at k w (Tell number) h lt = refl
spent_at k w (Turn who) h lt = refl
spent_at k w (Recall server field) h lt = refl
spent_at k w (Move at prefix to) h lt = refl

goes_by : (spent : Bool) (line : ℕ) (later : Option Stop) → spent ≡ false → later ≡ None
    → stop_at (if spent then Some Entries else None) (stop_after line [] later) ≡ None
goes_by true line later e n = absurd (cc)
goes_by false line later e n = n

none_spent : (k line : ℕ) (w : Direct) (es : List Event) → AtMost k w.asked → k + length es < 2 ^ 64
    → stop_in (form.Direct w) line es ≡ None
none_spent k line w [] h lt = refl
none_spent k line w (e ∷ es) h lt =
    let next : Direct = (step_of w e.what).world in
    goes_by (is_spent w e.what) line (stop_in (form.Direct next) (line + 1) es) (spent_at k w e.what h (omega arith))
    (none_spent (k + 1) (line + 1) next es (step_bounded k w e.what h) (omega arith))

no_count : (n : ℕ) → ◌≡◌ {A = Option ℕ} None (Some n) → n ≤ 0
no_count n e = absurd (cc)

by_head : (h : Head) (es : List Event) → h ≡ head.Direct → length es < 2 ^ 64 → stop_in (first_world h) 2 es ≡ None
by_head head.Direct es e lt = none_spent 0 2 first_direct es (λ s n q. no_count n (sym (get-empty nat_cmp s) ∙ q)) (omega arith)
by_head (head.Servers servers skew term) es e lt = absurd (cc)

pub no_counter_is_spent : (s : Schedule) → s.head ≡ head.Direct → length s.events < 2 ^ 64 → stop_of s ≡ None
no_counter_is_spent s direct lt = by_head s.head s.events direct lt
