-- A session that was owed an answer is sent it: what is on its way to it may as well come in that order.
use Rattle.std.proofs.Common.{◌≡◌, ℕ, ◌==◌, Bool, true, false, List, [], ◌∷◌, ◌++◌}
use Rattle.std.proofs.Common.{cond, refl, sym, ap, ◌∙◌, subst, append-nil, append_assoc, filter, map}
use mathlib.Core.Path.{fun_ext}
use Rattle.fs_ident.specs.declared.actor.Session.{Session}
use Rattle.fs_ident.proofs.Same.{itself, one_session}
use Rattle.fs_msg.specs.declared.answer.Answer.{Answer}
use Rattle.fs_serial.specs.World.{Ends, World, WorldHolds}
use Rattle.fs_serial.specs.Seen.{ClusterHolds}
use Rattle.fs_serial.proofs.ClientMessages.Reordered.{reordered, with_first}
use Rattle.fs_ident.specs.In.{In}
use Rattle.fs_ident.proofs.Standing.{In-got}
use Rattle.fs_field.specs.Table.{same_txn}
use Rattle.fs_msg.specs.declared.answer.Answer.TheVariants as answer
use Rattle.fs_server.specs.declared.state.Server.{Server}
use Rattle.fs_txn.specs.Leading.{with_ending, without_ending}
use Rattle.fs_txn.specs.declared.leading.Ending.{Ending}
use Rattle.fs_txn.proofs.Keys.{txn_itself}
use Rattle.fs_serial.specs.Cluster.{Cluster}
use Rattle.fs_serial.specs.Owed.{owed_at}
use Rattle.fs_serial.proofs.DecidedEffects.OwnApart.{one_ending}
use Rattle.fs_serial.proofs.Transactions.Tables.{in_without_ending, none_stay}
use Rattle.std.proofs.lemmas.List.Elements.{filter-append}
use Rattle.std.specs.Prelude.{Some, is_some, slice_get}

-- ## Order

-- the session's answers, set twice
first_twice : (by : Session) (one two : List Answer) (w : World)
    → (with_first by two (with_first by one w)).ends ≡ (with_first by two w).ends
first_twice by one two w = fun_ext (λ y. at y (by.0 == y.0))
  where
    at : (y : Session) (b : Bool)
        → cond b (let z : Ends = record ((with_first by one w).ends by) { down = two } in z)
        (cond b (record (w.ends by) { down = one }) (w.ends y))
        ≡ cond b (let z : Ends = record (w.ends by) { down = two } in z) (w.ends y)
    at y true = ap (λ b. let e : Ends = cond b (let x : Ends = record (w.ends by) { down = one } in x) (w.ends by) in
        let z : Ends = record e { down = two } in z) (itself by.0)
    at y false = refl

down_first : (by : Session) (down : List Answer) (w : World) → ((with_first by down w).ends by).down ≡ down
down_first by down w =
    ap (λ b. (let e : Ends = cond b (let x : Ends = record (w.ends by) { down = down } in x) (w.ends by) in e).down) (itself by.0)

-- the last of what is on its way may come first
pub rotated : (greatest : ℕ) (by : Session) (back front : List Answer) (w : World) → (w.ends by).down ≡ front ++ back
    → WorldHolds greatest w → WorldHolds greatest (with_first by (back ++ front) w)
rotated greatest by [] front w order h =
    subst (λ es. WorldHolds greatest (record w { ends = es })) (fun_ext (λ y. at y (by.0 == y.0) refl)) h
  where
    own : w.ends by ≡ (let z : Ends = record (w.ends by) { down = front } in z)
    own = ap (λ as_. let z : Ends = record (w.ends by) { down = as_ } in z) (order ∙ append-nil front)

    at : (y : Session) (b : Bool) → (by.0 == y.0) ≡ b
        → w.ends y ≡ cond (by.0 == y.0) (let z : Ends = record (w.ends by) { down = front } in z) (w.ends y)
    at y true e = ap w.ends (sym (one_session by y e)) ∙ own
        ∙ sym (ap (λ b. cond b (let z : Ends = record (w.ends by) { down = front } in z) (w.ends y)) e)
    at y false e = sym (ap (λ b. cond b (let z : Ends = record (w.ends by) { down = front } in z) (w.ends y)) e)
rotated greatest by (a ∷ back) front w order h =
    let one : World = with_first by (back ++ (front ++ a ∷ [])) w in
    let holds : WorldHolds greatest one = rotated greatest by back (front ++ a ∷ []) w (order ∙ sym (append_assoc front (a ∷ []) back)) h in
    let down : (one.ends by).down ≡ (back ++ front) ++ a ∷ [] =
    down_first by (back ++ (front ++ a ∷ [])) w ∙ sym (append_assoc back front (a ∷ [])) in
    subst (λ es. WorldHolds greatest (record w { ends = es })) (first_twice by (back ++ (front ++ a ∷ [])) (a ∷ (back ++ front)) w)
    (subst (λ as_. WorldHolds greatest (with_first by (a ∷ as_) one)) (append-nil (back ++ front))
    (reordered greatest one by (back ++ front) [] a down holds))

-- ## A part is done

-- an ending with these that are awaited stands for the one with its number
module _ (skew greatest k : ℕ) (c : Cluster) (s : Server) (at : slice_get c.servers k ≡ Some s) (h : ClusterHolds skew greatest c)
    (x : Ending) (there : In x s.ending) (awaits : List (ℕ × ℕ)) where
  abbrev by : Session
  by = x.session

  abbrev left : Ending
  left = record x { awaits = awaits }

  abbrev fresh : List Ending
  fresh = cond (is_some (slice_get awaits 0)) (left ∷ []) []

  here : In s c.servers
  here = In-got c.servers k s at

  only_its : (z : Ending) → In z s.ending → z.session ≡ by → z ≡ x
  only_its z i e = one_ending skew greatest c h s s z x here here i there e

  none_left : filter (λ (z : Ending). z.session.0 == by.0) (without_ending x.txn s.ending) ≡ []
  none_left = none_stay (λ (z : Ending). z.session.0 == by.0) (without_ending x.txn s.ending)
      (λ z i. let q = in_without_ending x.txn s.ending z i in off z q.0 q.1 (z.session.0 == by.0) refl)
    where
      off : (z : Ending) → In z s.ending → same_txn z.txn x.txn ≡ false → (b : Bool) → (z.session.0 == by.0) ≡ b → b ≡ false
      off z i apart true e =
          let same : z ≡ x = only_its z i (one_session z.session by e) in
          let wrong : true ≡ false = sym (txn_itself x.txn) ∙ ap (λ (y : Ending). same_txn y.txn x.txn) (sym same) ∙ apart in
          absurd (cc wrong)
      off z i apart false e = refl

  -- what its session is owed at the server then
  pub owed_then : (t : Server) → t.ending ≡ with_ending left s.ending
      → owed_at by t ≡ cond (is_some (slice_get awaits 0)) (answer.Led x.end ∷ []) []
  owed_then t ending =
      ap (λ (es : List Ending). map (λ (z : Ending). answer.Led z.end) (filter (λ (z : Ending). z.session.0 == by.0) es)) ending
      ∙ ap (map (λ (z : Ending). answer.Led z.end))
      (filter-append (λ (z : Ending). z.session.0 == by.0) (without_ending x.txn s.ending) fresh
      ∙ ap (λ es. es ++ filter (λ (z : Ending). z.session.0 == by.0) fresh) none_left)
      ∙ new (is_some (slice_get awaits 0))
    where
      new : (b : Bool) → map (λ (z : Ending). answer.Led z.end) (filter (λ (z : Ending). z.session.0 == by.0) (cond b (left ∷ []) []))
          ≡ cond b (answer.Led x.end ∷ []) []
      new true = ap (λ f. map (λ (z : Ending). answer.Led z.end) (cond f (left ∷ []) [])) (itself by.0)
      new false = refl
