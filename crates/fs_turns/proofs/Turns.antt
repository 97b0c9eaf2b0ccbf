-- One turn more, and one packet more.
use Rattle.std.proofs.Common.{◌≡◌, ◌≤◌, ◌<◌, ℕ, ◌+◌, Bool, true, false, List, [], ◌∷◌, ◌++◌, refl, ap, sym, ◌∙◌, length, take, append_assoc, append-nil, arith, subst, fold, length-append}
use Rattle.std.proofs.lemmas.List.{length-take-le}
use Rattle.std.specs.Prelude.{Option, Some, None, Result, Ok, Err, IfOk, IfSome, IsErrAnd, IsErrOf}
use Rattle.std.specs.Io.KnownBytes.{Appends}
use Rattle.fs_io.specs.Bytes.{IsPrefixWritten}
use Rattle.fs_io.specs.Calls.{Made, receive_made}
use Rattle.fs_io.specs.Told.{Adds, AddsAll}
use Rattle.fs_io.specs.declared.addr.Addr.{Addr}
use Rattle.fs_io.specs.declared.call.CallKind.TheVariants.{Receive}
use Rattle.fs_io.specs.declared.failed.Failed.{Failed}
use Rattle.fs_io.proofs.Known.{appends_none, appends_more}
use Rattle.fs_msg.specs.declared.core_error.Counter.{Counter}
use Rattle.fs_turns.specs.declared.counts.Counts.{Counts}
use Rattle.fs_turns.specs.declared.stop.Stop.{Stop}
use Rattle.fs_turns.specs.Run.{AreTurns, Due, Given, IsRun, IsRunCut, IsRunSpent, IsSent, IsSentOne, IsSpentTurn, IsTaken, IsTurn, IsTurnCut, IsWritten, Node, Outside, Run, Steps, calls_in, came_in, counted, counted_one, failed_count, first_run, got_of, more, node_after, receive_call, run_of, send_call, send_calls, step_at}

-- ## What is told

pub adds_none : {X : Type 0} (a : Option (List X)) → AddsAll a a []
adds_none None = tt
adds_none (Some xs) = sym (append-nil xs)

pub adds_one : {X : Type 0} (a b : Option (List X)) (x : X) → Adds a b x → AddsAll a b (x ∷ [])
adds_one None None x h = tt
adds_one (Some xs) None x h = tt
adds_one None (Some ys) x h = h
adds_one (Some xs) (Some ys) x h = h

pub adds_more : {X : Type 0} (a b c : Option (List X)) (xs ys : List X) → AddsAll a b xs → AddsAll b c ys → AddsAll a c (xs ++ ys)
adds_more None b None xs ys p q = tt
adds_more (Some us) b None xs ys p q = tt
adds_more None None (Some ws) xs ys p q = absurd q
adds_more None (Some vs) (Some ws) xs ys p q = absurd p
adds_more (Some us) None (Some ws) xs ys p q = absurd q
adds_more (Some us) (Some vs) (Some ws) xs ys p q = q ∙ ap (λ zs. zs ++ ys) p ∙ append_assoc us xs ys

-- ## Errors that are handed on

pub same_error : {T U : Type 0} (r : Result T Stop) (q : Result U Stop) (x e : Stop) → IsErrAnd r (λ y. y ≡ x) → q ≡ Err x → IsErrOf r e → IsErrOf q e
same_error (Ok t) q x e h p k = absurd h
same_error (Err y) q x e h p k = let same : y ≡ e = cc in p ∙ ap Err (sym h ∙ same)

-- ## Packets

failed_more : (n : ℕ) (ds : List Due) (bs : List Bool) (d : Due) (b : Bool) → length bs ≡ length ds → failed_count n (ds ++ d ∷ []) (bs ++ b ∷ []) ≡ counted_one (failed_count n ds bs) d b
failed_more n [] [] d b e = refl
failed_more n [] (c ∷ bs) d b e = absurd (omega (arith, e))
failed_more n (x ∷ ds) [] d b e = absurd (omega (arith, e))
failed_more n (x ∷ ds) (c ∷ bs) d b e = failed_more (counted_one n x c) ds bs d b (omega (arith, e))

sends_more : (ds : List Due) (bs : List Bool) (d : Due) (b : Bool) → length bs ≡ length ds → send_calls (ds ++ d ∷ []) (bs ++ b ∷ []) ≡ send_calls ds bs ++ send_call d b
sends_more [] [] d b e = append-nil (send_call d b)
sends_more [] (c ∷ bs) d b e = absurd (omega (arith, e))
sends_more (x ∷ ds) [] d b e = absurd (omega (arith, e))
sends_more (x ∷ ds) (c ∷ bs) d b e = ap (λ (r : List Made). send_call x c ++ r) (sends_more ds bs d b (omega (arith, e))) ∙ sym (append_assoc (send_call x c) (send_calls ds bs) (send_call d b))

pub sent_none : (n : ℕ) (a : Option (List Made)) → IsSent [] n n a a
sent_none n a = record { went = []; each = refl; counted = refl; calls = adds_none a }

pub sent_more : (ds : List Due) (d : Due) (l m n : ℕ) (a b c : Option (List Made)) → IsSent ds l m a b → IsSentOne d m n b c → IsSent (ds ++ d ∷ []) l n a c
sent_more ds d l m n a b c p q = record {
  went = p.went ++ q.went ∷ [];
  each = omega (arith, length-append p.went (q.went ∷ []), length-append ds (d ∷ []), p.each);
  counted = q.counted ∙ ap (λ k. counted_one k d q.went) p.counted ∙ sym (failed_more l ds p.went d q.went p.each);
  calls = subst (λ r. AddsAll a c r) (sym (sends_more ds p.went d q.went p.each)) (adds_more a b c _ _ p.calls q.call);
}

-- ## One turn

-- the call as a link keeps it is that of what was received
pub same_receive : (r : Result (Option (Addr × ℕ)) Failed) (buf : List ℕ) → IfOk r (λ got. IfSome got (λ d. d.1 ≤ length buf)) → length buf ≡ 1100 → receive_made r buf ≡ receive_call (got_of r buf)
same_receive (Err f) buf h e = ap (λ n. record { call = record { what = Receive; addr = None; size = n; len = 0; failed = true }; bytes = [] }) e
same_receive (Ok None) buf h e = ap (λ n. record { call = record { what = Receive; addr = None; size = n; len = 0; failed = false }; bytes = [] }) e
same_receive (Ok (Some got)) buf h e =
    let some : got.1 ≤ length buf = h in
    let len : got.1 ≡ length (take got.1 buf) = sym (length-take-le got.1 buf some) in
    ap (λ n. record { call = record { what = Receive; addr = Some got.0; size = n; len = got.1; failed = false }; bytes = take got.1 buf }) e
    ∙ ap (λ n. record { call = record { what = Receive; addr = Some got.0; size = 1100; len = n; failed = false }; bytes = take got.1 buf }) len

-- ## A turn whose sends are over

same_counts : (a b : Counts) (n : ℕ) → a ≡ b → record a { send_faults = n } ≡ record b { send_faults = n }
same_counts a b n e = ap (λ (c : Counts). record c { send_faults = n }) e

same_node : {X : Type 0} (a b : Node X) → a.actor ≡ b.actor → a.counts ≡ b.counts → a ≡ b
same_node a b p q = λ i. record { actor = p i; counts = q i }

kept_count : (a : Counts) (b : Counts) → a ≡ counted b (got_of (Err (record {})) []) → a.send_faults ≡ b.send_faults
kept_count a b e = ap (λ (c : Counts). c.send_faults) e

pub turn_done : {X : Type 0} (step : Steps X) (a b : Node X) (due : List Due) (lines : List ℕ) (o p : Outside) (mid : Option (List Made)) (n : ℕ) (t : IsTaken step a b due lines o.readings p.readings o.calls mid) (s : IsSent due b.counts.send_faults n mid p.calls) → Appends o.written p.written lines → IsTurn step a (record { actor = b.actor; counts = record b.counts { send_faults = n } }) o p
turn_done step a b due lines o p mid n t s w =
    let g : Given = record { reading = t.reading; got = t.got; went = s.went } in
    let faults : n ≡ failed_count a.counts.send_faults (step_at step a.actor g).due s.went = s.counted ∙ ap (λ k. failed_count k due s.went) (ap (λ (c : Counts). c.send_faults) t.counts) ∙ ap (λ ds. failed_count a.counts.send_faults ds s.went) t.due_then in
    record {
      given = g;
      unspent = t.unspent;
      after = same_node _ _ t.after (same_counts b.counts (counted a.counts t.got) n t.counts ∙ ap (λ k. record (counted a.counts t.got) { send_faults = k }) faults);
      readings = t.read;
      calls = subst (λ ds. AddsAll o.calls p.calls (receive_call t.got ∷ send_calls ds s.went)) t.due_then (adds_more o.calls mid p.calls (receive_call t.got ∷ []) (send_calls due s.went) t.call s.calls);
      lines = subst (λ xs. Appends o.written p.written xs) t.lines_then w;
    }

pub turn_cut : {X : Type 0} (step : Steps X) (a b : Node X) (due : List Due) (lines : List ℕ) (o p : Outside) (mid : Option (List Made)) (m n : ℕ) (t : IsTaken step a b due lines o.readings p.readings o.calls mid) (s : IsSent due m n mid p.calls) → IsPrefixWritten o.written p.written lines → IsTurnCut step a.actor o p
turn_cut step a b due lines o p mid m n t s w = record {
  given = record { reading = t.reading; got = t.got; went = s.went };
  unspent = t.unspent;
  readings = t.read;
  calls = subst (λ ds. AddsAll o.calls p.calls (receive_call t.got ∷ send_calls ds s.went)) t.due_then (adds_more o.calls mid p.calls (receive_call t.got ∷ []) (send_calls due s.went) t.call s.calls);
  lines = subst (λ xs. IsPrefixWritten o.written p.written xs) t.lines_then w;
}

-- ## Turns so far

-- what a run is before it ends
pub record IsSoFar {X : Type 0} (over : X → Bool) (step : Steps X) (turns : ℕ) (node next : Node X) (before now : Outside) : Type 0 where
  pub given : List Given
  pub turned : AreTurns over step node.actor given
  pub many : length given ≡ turns
  pub after : next ≡ (run_of step node given).node
  pub readings : AddsAll before.readings now.readings (run_of step node given).readings
  pub calls : AddsAll before.calls now.calls (run_of step node given).calls
  pub lines : Appends before.written now.written (run_of step node given).lines

pub run_none : {X : Type 0} (over : X → Bool) (step : Steps X) (n : Node X) (o : Outside) → IsSoFar over step 0 n n o o
run_none over step n o = record { given = []; turned = tt; many = refl; after = refl; readings = adds_none o.readings; calls = adds_none o.calls; lines = appends_none o.written }

fold_last : {X : Type 0} (step : Steps X) (r : Run X) (gs : List Given) (g : Given) → fold (more step) r (gs ++ g ∷ []) ≡ more step (fold (more step) r gs) g
fold_last step r [] g = refl
fold_last step r (h ∷ gs) g = fold_last step (more step r h) gs g

-- one turn more, from the actor that the run came to
turned_more : {X : Type 0} (over : X → Bool) (step : Steps X) (r : Run X) (gs : List Given) (g : Given) → AreTurns over step r.node.actor gs → over (fold (more step) r gs).node.actor ≡ false → (step_at step (fold (more step) r gs).node.actor g).spent ≡ None → AreTurns over step r.node.actor (gs ++ g ∷ [])
turned_more over step r [] g h o s = (o, s, tt)
turned_more over step r (x ∷ gs) g h o s = (h.0, h.1, turned_more over step (more step r x) gs g h.2 o s)

pub run_more : {X : Type 0} (over : X → Bool) (step : Steps X) (n : ℕ) (a b c : Node X) (o p q : Outside) → IsSoFar over step n a b o p → over b.actor ≡ false → IsTurn step b c p q → IsSoFar over step (n + 1) a c o q
run_more over step n a b c o p q r going t =
    let last : run_of step a (r.given ++ t.given ∷ []) ≡ more step (run_of step a r.given) t.given = fold_last step (first_run a) r.given t.given in
    let here : b.actor ≡ (run_of step a r.given).node.actor = ap (λ x. x.actor) r.after in
    record {
      given = r.given ++ t.given ∷ [];
      turned = turned_more over step (first_run a) r.given t.given r.turned (ap over (sym here) ∙ going) (ap (λ x. (step_at step x t.given).spent) (sym here) ∙ t.unspent);
      many = omega (arith, length-append r.given (t.given ∷ []), r.many);
      after = t.after ∙ ap (λ x. node_after step x t.given) r.after ∙ sym (ap (λ x. x.node) last);
      readings = subst (λ xs. AddsAll o.readings q.readings xs) (sym (ap (λ x. x.readings) last)) (adds_more o.readings p.readings q.readings _ _ r.readings t.readings);
      calls = subst (λ xs. AddsAll o.calls q.calls xs) (sym (ap (λ x. x.calls) last)) (adds_more o.calls p.calls q.calls _ _ r.calls (subst (λ x. AddsAll p.calls q.calls (calls_in step x t.given)) here t.calls));
      lines = subst (λ xs. Appends o.written q.written xs) (sym (ap (λ x. x.lines) last)) (appends_more o.written p.written q.written _ _ r.lines (subst (λ x. Appends p.written q.written (step_at step x t.given).lines) here t.lines));
    }

-- the run is over: after all turns, or where the actor makes no more
pub run_ends : {X : Type 0} (over : X → Bool) (step : Steps X) (n m : ℕ) (a b : Node X) (o p : Outside) → IsSoFar over step n a b o p → n ≤ m → (over b.actor ≡ false → n ≡ m) → IsRun over step m a b o p
run_ends over step n m a b o p r less last = record {
  given = r.given;
  turned = r.turned;
  many = omega (arith, r.many, less);
  last = λ going. r.many ∙ last going;
  after = r.after;
  readings = r.readings;
  calls = r.calls;
  lines = r.lines;
}

pub run_cut : {X : Type 0} (over : X → Bool) (step : Steps X) (n m : ℕ) (a b : Node X) (o p q : Outside) → IsSoFar over step n a b o p → n < m → over b.actor ≡ false → IsTurnCut step b.actor p q → IsRunCut over step m a o q
run_cut over step n m a b o p q r less going t =
    let last : run_of step a (r.given ++ t.given ∷ []) ≡ more step (run_of step a r.given) t.given = fold_last step (first_run a) r.given t.given in
    let here : b.actor ≡ (run_of step a r.given).node.actor = ap (λ x. x.actor) r.after in
    record {
      given = r.given;
      final = t.given;
      turned = turned_more over step (first_run a) r.given t.given r.turned (ap over (sym here) ∙ going) (ap (λ x. (step_at step x t.given).spent) (sym here) ∙ t.unspent);
      many = omega (arith, r.many, less);
      readings = subst (λ xs. AddsAll o.readings q.readings xs) (sym (ap (λ x. x.readings) last)) (adds_more o.readings p.readings q.readings _ _ r.readings t.readings);
      calls = subst (λ xs. AddsAll o.calls q.calls xs) (sym (ap (λ x. x.calls) last)) (adds_more o.calls p.calls q.calls _ _ r.calls (subst (λ x. AddsAll p.calls q.calls (calls_in step x t.given)) here t.calls));
      written = p.written;
      whole = r.lines;
      part = subst (λ x. IsPrefixWritten p.written q.written (step_at step x t.given).lines) here t.lines;
    }

pub run_spent : {X : Type 0} (over : X → Bool) (step : Steps X) (n m : ℕ) (counter : Counter) (a b : Node X) (o p : Outside) (readings : Option (List ℕ)) (calls : Option (List Made)) (written : Option (List ℕ)) → IsSoFar over step n a b o p → n < m → over b.actor ≡ false → IsSpentTurn step counter b.actor p.readings readings p.calls calls → written ≡ p.written → IsRunSpent over step m counter a o (record { readings = readings; calls = calls; written = written })
run_spent over step n m counter a b o p readings calls written r less going t same =
    let here : b.actor ≡ (run_of step a r.given).node.actor = ap (λ x. x.actor) r.after in
    record {
      given = r.given;
      turned = r.turned;
      many = omega (arith, r.many, less);
      reading = t.reading;
      got = t.got;
      going = ap over (sym here) ∙ going;
      spent = ap (λ x. (step x t.reading (came_in t.got)).spent) (sym here) ∙ t.spent;
      readings = adds_more o.readings p.readings readings _ _ r.readings t.read;
      calls = adds_more o.calls p.calls calls _ _ r.calls t.call;
      lines = subst (λ w. Appends o.written w (run_of step a r.given).lines) (sym same) r.lines;
    }

pub run_written : {X : Type 0} (over : X → Bool) (step : Steps X) (n m : ℕ) (a b : Node X) (o p : Outside) (written : Option (List ℕ)) → IsSoFar over step n a b o p → n < m → written ≡ p.written → IsWritten over step m a o.written written
run_written over step n m a b o p written r less same = record {
  given = r.given;
  turned = r.turned;
  many = omega (arith, r.many, less);
  lines = subst (λ w. Appends o.written w (run_of step a r.given).lines) (sym same) r.lines;
}
