use Rattle.std.proofs.Common.{◌≡◌, ◌≤◌, ◌+◌, ◌-◌, ◌++◌, ℕ, suc, List, [], ◌∷◌, length, take, drop, refl, ap, sym, ◌∙◌, append_assoc, arith, Some, None, Ok, Err, add-one, drop-cons}
use Rattle.std.proofs.lemmas.List.{take_all, drop_all, take-append-le, drop-append-le, length-append, length-drop, append-nil}
use Rattle.std.proofs.lemmas.Result.{IfOk-from_err}
use Rattle.fs_frag.specs.declared.joined.Joined.{Joined}
use Rattle.fs_frag.specs.Joined.{answer_of, held_after, answers, held_by, joined_of}
use Rattle.fs_frag.proofs.Joins.{Answer}
use Rattle.fs_frag.proofs.joiner.join_all.Goals as goal
use Rattle.fs_frag.proofs.joiner.join_all.Goals.{then-not-branch, else-not-branch}

joined_of-cons : (a : Answer) (rest : List Answer) → joined_of (a ∷ []) ++ joined_of rest ≡ joined_of (a ∷ rest)
joined_of-cons (Ok None) rest = refl
joined_of-cons (Ok (Some m)) rest = refl
joined_of-cons (Err e) rest = refl

-- one segment more, `bytes` with what waited before it
told_more : (told more all : List Joined) (waits s bytes next : List ℕ) (ss left : List (List ℕ)) → left ≡ s ∷ ss → bytes ≡ waits ++ s → more ≡ told ++ joined_of (answer_of bytes ∷ []) → next ≡ held_after (answer_of bytes) bytes
    → told ++ joined_of (answers waits left) ≡ all → more ++ joined_of (answers next ss) ≡ all
told_more told more all waits s bytes next ss left l b m n so_far =
    rw (m, n, b, append_assoc, joined_of-cons) (rw l at so_far)

waits_more : (all waits s bytes next : List ℕ) (ss left : List (List ℕ)) → left ≡ s ∷ ss → bytes ≡ waits ++ s → next ≡ held_after (answer_of bytes) bytes
    → held_by waits left ≡ all → held_by next ss ≡ all
waits_more all waits s bytes next ss left l b n so_far = rw (n, b) (rw l at so_far)

longer_appended : (held s longer : List ℕ) → longer ≡ held ++ s → length held ≤ length longer
longer_appended held s longer e = rw (e, length-append held s) (omega arith)

pub loop-segment-init : goal.loop-segment-init
loop-segment-init c = record {
  within = omega arith;
  longer = omega arith;
  front = take_all _ _ (omega arith);
  told = rw c.new-joined.ensures refl;
  waiting = refl;
}

pub returns-in_err-extend_from_slice-clause-joined :
    goal.returns-in_err-extend_from_slice-clause-joined
returns-in_err-extend_from_slice-clause-joined c = IfOk-from_err _ _ c.from_residual.ensures.0

pub returns-in_err-extend_from_slice-clause-within :
    goal.returns-in_err-extend_from_slice-clause-within
returns-in_err-extend_from_slice-clause-within c = IfOk-from_err _ _ c.from_residual.ensures.0

pub returns-in_err-extend_from_slice-clause-waiting :
    goal.returns-in_err-extend_from_slice-clause-waiting
returns-in_err-extend_from_slice-clause-waiting c = IfOk-from_err _ _ c.from_residual.ensures.0

pub returns-in_err-extend_from_slice-clause-longer :
    goal.returns-in_err-extend_from_slice-clause-longer
returns-in_err-extend_from_slice-clause-longer c = rw c.in_err-extend_from_slice.ensures.items c.loop-segment.invariant.longer

pub returns-in_err-extend_from_slice-clause-front :
    goal.returns-in_err-extend_from_slice-clause-front
returns-in_err-extend_from_slice-clause-front c = rw c.in_err-extend_from_slice.ensures.items c.loop-segment.invariant.front

pub returns-in_err-still_wait-clause-joined : goal.returns-in_err-still_wait-clause-joined
returns-in_err-still_wait-clause-joined c = IfOk-from_err _ _ c.from_residual-in_err-still_wait.ensures.0

pub returns-in_err-still_wait-clause-within : goal.returns-in_err-still_wait-clause-within
returns-in_err-still_wait-clause-within c = IfOk-from_err _ _ c.from_residual-in_err-still_wait.ensures.0

pub returns-in_err-still_wait-clause-waiting : goal.returns-in_err-still_wait-clause-waiting
returns-in_err-still_wait-clause-waiting c = IfOk-from_err _ _ c.from_residual-in_err-still_wait.ensures.0

pub returns-in_err-still_wait-clause-longer : goal.returns-in_err-still_wait-clause-longer
returns-in_err-still_wait-clause-longer c =
    let longer = longer_appended c.loop-segment.held.items c.bytes.result.now c.extend_from_slice.new.self.items c.in_ok-extend_from_slice.ensures.items in
    omega arith

pub returns-in_err-still_wait-clause-front : goal.returns-in_err-still_wait-clause-front
returns-in_err-still_wait-clause-front c = rw (c.in_ok-extend_from_slice.ensures.items, take-append-le _ _ _ c.loop-segment.invariant.longer) c.loop-segment.invariant.front

pub loop-segment-preserved : goal.loop-segment-preserved
loop-segment-preserved c =
    let i = c.loop-segment.segment-index in
    let held : List ℕ = c.extend_from_slice.new.self.items in
    let bytes : List ℕ = drop c.loop-segment.start held in
    let left : drop i c.args.segments.now ≡ c.segment-item.result ∷ drop (i + 1) c.args.segments.now = rw add-one (drop-cons _ i c.segment-item.result c.loop-segment-test.true ∙ ap (λ (x : List ℕ). x ∷ drop (suc i) c.args.segments.now) (sym c.segment-item.is)) in
    let appended : bytes ≡ drop c.loop-segment.start c.loop-segment.held.items ++ c.segment-item.result = rw c.in_ok-extend_from_slice.ensures.items (drop-append-le _ _ _ c.loop-segment.invariant.within ∙ ap (λ (x : List ℕ). drop c.loop-segment.start c.loop-segment.held.items ++ x) c.bytes.ensures.same) in
    let longer = longer_appended c.loop-segment.held.items c.bytes.result.now held c.in_ok-extend_from_slice.ensures.items in
    let given : take (length c.deref.result.now - c.loop-segment.start) (drop c.loop-segment.start c.deref.result.now) ≡ bytes = rw c.deref.ensures.value (take_all _ bytes (omega (arith, length-drop c.loop-segment.start held))) in
    let after = rw given at c.in_ok-still_wait.ensures.waiting in
    let next : (drop c.if-not-branch.start held ≡ held_after (answer_of bytes) bytes) × (c.if-not-branch.start ≤ length held) = elim c.if-not-branch.branch [
      | then-not-branch w ↦ (drop_all c.if-not-branch.start held (omega arith) ∙ sym (rw w.if-not-branch.true at after), omega arith)
      | else-not-branch w ↦ (rw w.start-is (sym (rw w.if-not-branch.false at after)), omega arith)
    ] in
    record {
      within = next.1;
      longer = omega (arith, longer);
      front = rw (c.in_ok-extend_from_slice.ensures.items, take-append-le _ _ _ c.loop-segment.invariant.longer) c.loop-segment.invariant.front;
      told = told_more _ _ _ _ c.segment-item.result bytes _ _ _ left appended (rw given at c.in_ok-still_wait.ensures.joined) next.0 c.loop-segment.invariant.told;
      waiting = waits_more _ _ c.segment-item.result bytes _ _ _ left appended next.0 c.loop-segment.invariant.waiting;
    }

pub returns-clause-joined : goal.returns-clause-joined
returns-clause-joined c =
    let none = drop_all c.loop-segment.segment-index c.args.segments.now c.loop-segment-test.false in
    sym (append-nil _) ∙ (rw none at c.loop-segment.invariant.told)

pub returns-clause-within : goal.returns-clause-within
returns-clause-within c = c.loop-segment.invariant.within

pub returns-clause-waiting : goal.returns-clause-waiting
returns-clause-waiting c =
    let none = drop_all c.loop-segment.segment-index c.args.segments.now c.loop-segment-test.false in
    rw none at c.loop-segment.invariant.waiting

pub returns-clause-longer : goal.returns-clause-longer
returns-clause-longer c = c.loop-segment.invariant.longer

pub returns-clause-front : goal.returns-clause-front
returns-clause-front c = c.loop-segment.invariant.front
