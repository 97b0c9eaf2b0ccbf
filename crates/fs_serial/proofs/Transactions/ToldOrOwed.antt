-- A leader decides: in every world where the session is told how it ended, it may as well be owed that answer.
use mathlib.Core.Path.{fun_ext}
use Rattle.std.proofs.Common.{◌≡◌, ℕ, ◌+◌, ◌≤◌, ◌==◌, Bool, true, false, not, List, [], ◌∷◌, ◌++◌, length, map, filter, cond}
use Rattle.std.proofs.Common.{refl, sym, ap, ap₂, ◌∙◌, subst, inl, inr, append-nil, length-append, arith}
use Rattle.std.specs.Prelude.{Option, Some, is_some, slice_get, slice_set}
use Rattle.std.specs.List.{flat_map}
use Rattle.std.proofs.lemmas.List.{map-append}
use Rattle.std.proofs.lemmas.List.Elements.{filter-append}
use Rattle.fs_ident.specs.In.{In}
use Rattle.fs_ident.specs.declared.actor.Peer.{Peer}
use Rattle.fs_ident.specs.declared.actor.Session.{Session}
use Rattle.fs_ident.specs.declared.actor.TxnNo.{TxnNo}
use Rattle.fs_ident.proofs.Same.{itself, one_session}
use Rattle.fs_ident.proofs.Standing.{In-got, none_pass}
use Rattle.fs_field.specs.Table.{same_txn}
use Rattle.fs_msg.specs.declared.answer.Answer.{Answer}
use Rattle.fs_msg.specs.declared.answer.Answer.TheVariants as answer
use Rattle.fs_msg.specs.declared.client_msg.ClientMsg.{ClientMsg}
use Rattle.fs_msg.specs.declared.client_msg.ClientMsg.TheVariants.{Lead}
use Rattle.fs_msg.specs.declared.msg.Msg.{Msg}
use Rattle.fs_client.specs.Led.{lead_of}
use Rattle.fs_client.specs.declared.led.Led.{Led}
use Rattle.fs_server.specs.Concludes.{ends_now, tells}
use Rattle.fs_server.specs.Concludes as server
use Rattle.fs_server.specs.Server.{Stepped}
use Rattle.fs_server.specs.declared.state.Server.{Server}
use Rattle.fs_txn.specs.Leading.{elsewhere, end_of_decision, leading_of, without_ending, without_leading}
use Rattle.fs_txn.specs.declared.decision.Decision.{Decision}
use Rattle.fs_txn.specs.declared.leading.Ending.{Ending}
use Rattle.fs_txn.specs.declared.leading.Leading.{Leading}
use Rattle.fs_txn.proofs.Keys.{kept_in, txn_is, txn_itself}
use Rattle.fs_serial.specs.Cluster.{Cluster, with_sent}
use Rattle.fs_serial.specs.Exchange.{due}
use Rattle.fs_serial.specs.Leading.{IsLeading}
use Rattle.fs_serial.specs.Owed.{ends_in, ends_with, owed_at, owed_to, question_of, taken_at, taken_leads}
use Rattle.fs_serial.specs.World.{Ends, World, WorldHolds, with_answer, with_ends, without_question}
use Rattle.fs_serial.specs.World as world
use Rattle.fs_serial.specs.Seen.{ClusterHolds, world_of}
use Rattle.fs_serial.proofs.ClientMessages.Reordered.{reordered}
use Rattle.fs_serial.proofs.ClientMessages.Sending.{asked}
use Rattle.fs_serial.proofs.DecidedEffects.OwnApart.{one_each}
use Rattle.fs_serial.proofs.Lists.EachAt.{each_alone, each_none, each_same, none_long, nothing_of}
use Rattle.fs_serial.proofs.Lists.Traffic.{messages}
use Rattle.fs_serial.proofs.Transactions.OneOfSession.{all_owed_due, due_both, leads_its, one_txn}
use Rattle.fs_serial.proofs.Transactions.OneOwner.{some_there}
use Rattle.fs_serial.proofs.Transactions.SeenMeanwhile.{meanwhile_sent}
use Rattle.fs_serial.proofs.Transactions.Tables.{In_all, all_stay, in_without_leading, none_stay}
use Rattle.fs_serial.proofs.Transactions.Undecided.{up_led}

-- ## Lists

-- what is left out has not what is asked for
pub left_same : {X : Type 0} (p q : X → Bool) (xs : List X) → ((x : X) → In x xs → p x ≡ true → q x ≡ true)
    → filter p (filter q xs) ≡ filter p xs
left_same p q [] h = refl
left_same p q (x ∷ xs) h = at (p x) (q x) refl refl (left_same p q xs (λ y i. h y (inr i)))
  where
    at : (a b : Bool) → p x ≡ a → q x ≡ b → filter p (filter q xs) ≡ filter p xs
        → filter p (cond b (x ∷ filter q xs) (filter q xs)) ≡ cond (p x) (x ∷ filter p xs) (filter p xs)
    at a true e f rest = ap (λ ys. cond (p x) (x ∷ ys) ys) rest
    at true false e f rest = let wrong : false ≡ true = sym f ∙ h x (inl refl) e in absurd (cc wrong)
    at false false e f rest = rest ∙ sym (ap (λ c. cond c (x ∷ filter p xs) (filter p xs)) e)

-- words to other servers are no answers
told_elsewhere : (txn : TxnNo) (d : Decision) (out : List (ℕ × ℕ)) (more : List (Peer × Msg)) (ends : Session → Ends) (y : Session)
    → world.with_sent (tells txn d out ++ more) ends y ≡ world.with_sent more ends y
told_elsewhere txn d [] more ends y = refl
told_elsewhere txn d (x ∷ xs) more ends y = told_elsewhere txn d xs more ends y

-- ## Told at once

module _ (by : Session) (a : Answer) (ends : Session → Ends) where
  pub own_then : with_answer by a (without_question by ends) by
      ≡ (let z : Ends = record { client = (ends by).client; up = []; down = (ends by).down ++ a ∷ [] } in z)
  own_then = ap (λ b.
      let e : Ends = cond b (let y : Ends = record (ends by) { up = [] } in y) (ends by) in
      let z : Ends = cond b (let y : Ends = record e { down = e.down ++ a ∷ [] } in y) e in z) (itself by.0)

  pub other_then : (y : Session) → (by.0 == y.0) ≡ false → with_answer by a (without_question by ends) y ≡ ends y
  other_then y off = ap (λ b.
      let e : Ends = cond b (let y : Ends = record (ends y) { up = [] } in y) (ends y) in
      let z : Ends = cond b (let y : Ends = record e { down = e.down ++ a ∷ [] } in y) e in z) off

-- ## The session

module _ (k skew greatest : ℕ) (c : Cluster) (s : Server) (at : slice_get c.servers k ≡ Some s) (h : ClusterHolds skew greatest c)
    (l : Leading) (there : In l s.leading) (d : Decision) where
  s_in : In s c.servers
  s_in = In-got c.servers k s at

  view : WorldHolds greatest (world_of s c)
  view = (h.parts s s_in).0

  pub leads : IsLeading c.lines s h.led.parts l
  leads = h.led.leading s s_in l there

  abbrev pub by : Session
  by = l.leader.session

  abbrev pub t : TxnNo
  t = l.leader.txn

  abbrev pub m : Led
  m = leads.led

  abbrev pub its_end : Answer
  its_end = answer.Led (end_of_decision d)

  abbrev pub out : List (ℕ × ℕ)
  out = elsewhere s.me l

  abbrev pub x : Stepped
  x = server.ends_with d out l [] s

  abbrev pub servers : List Server
  servers = slice_set c.servers k x.server

  -- told at once
  abbrev pub told : Session → Ends
  told = with_answer by its_end (without_question by (ends_in c))

  -- as it is then
  abbrev pub ends_then : Session → Ends
  ends_then y = ends_with y servers (with_sent k x.out.send c.lines y)

  abbrev own : Leading → Bool
  own z = z.leader.session.0 == by.0

  abbrev asks : ClientMsg
  asks = Lead (lead_of m)

  pub led_is : (c.lines by).client.led ≡ Some m
  led_is = leads.client.led

  pub taken_here : In asks (taken_at by (Some m) s)
  taken_here =
      In_all (λ (z : Leading). question_of (Some m)) asks l (filter own s.leading) (kept_in own l s.leading there (itself by.0)) (inl refl)

  taken_some : In asks (taken_leads by (c.lines by).client.led c.servers)
  taken_some = subst (λ o. In asks (taken_leads by o c.servers)) (sym led_is)
      (In_all (taken_at by (Some m)) asks s c.servers s_in taken_here)

  pub its_up : (ends_in c by).up ≡ Lead (lead_of m) ∷ []
  its_up = up_led skew greatest c s s_in h by s s_in l there refl m led_is

  pub silent : due (ends_in c by).down ≡ []
  silent = (asked greatest (world_of s c) s c.journal by asks its_end its_up view).silent

  -- ## It asks for nothing else

  pub counted : length (messages (c.lines by).up) + length (taken_leads by (c.lines by).client.led c.servers) ≡ 1
  counted = sym (length-append (messages (c.lines by).up) (taken_leads by (c.lines by).client.led c.servers)) ∙ ap length its_up

  pub asks_no_more : messages (c.lines by).up ≡ []
  asks_no_more =
      let some : 1 ≤ length (taken_leads by (c.lines by).client.led c.servers) =
      some_there asks (taken_leads by (c.lines by).client.led c.servers) taken_some in
      none_long (messages (c.lines by).up) (omega (arith, counted, some))

  -- nothing is owed to it
  owed_none : owed_to by c.servers ≡ []
  owed_none = (nothing_of (owed_to by c.servers) (due (messages (c.lines by).down))
      (ap (λ ys. ys ++ due (messages (c.lines by).down)) (sym (all_owed_due by c.servers))
      ∙ sym (due_both (owed_to by c.servers) (messages (c.lines by).down)) ∙ silent)).0

  one : length (ends_in c by).up + length (due (ends_in c by).down) ≤ 1
  one = one_each skew greatest c h s s_in by

  -- ## What its server leads then

  -- another transaction is another session's
  not_its : (z : Leading) → In z s.leading → same_txn z.leader.txn t ≡ false → own z ≡ false
  not_its z i off = by_test (own z) refl
    where
      by_test : (b : Bool) → own z ≡ b → b ≡ false
      by_test true e =
          let its : z.leader.session ≡ by = one_session z.leader.session by e in
          let same : z.leader.txn ≡ t = one_txn c h.led by one z.leader.txn t (leads_its by c.servers s s_in z i its)
          (leads_its by c.servers s s_in l there refl) in
          let wrong : true ≡ false = sym (txn_itself t) ∙ ap (λ u. same_txn u t) (sym same) ∙ off in
          absurd (cc wrong)
      by_test false e = refl

  pub none_left : filter own (without_leading t s.leading) ≡ []
  none_left = none_stay own (without_leading t s.leading) (λ z i. let q = in_without_leading t s.leading z i in not_its z q.0 q.1)

  taken_gone : taken_leads by (c.lines by).client.led servers ≡ []
  taken_gone =
      let some : 1 ≤ length (taken_at by (Some m) s) = some_there asks (taken_at by (Some m) s) taken_here in
      let all : length (taken_leads by (c.lines by).client.led c.servers) ≡ length (taken_leads by (Some m) c.servers) =
      ap (λ o. length (taken_leads by o c.servers)) led_is in
      ap (λ o. taken_leads by o servers) led_is
      ∙ each_alone (taken_at by (Some m)) c.servers k s x.server at (omega (arith, counted, some, all))
      ∙ ap (λ (ls : List Leading). flat_map (λ (z : Leading). question_of (Some m)) ls) none_left

  -- its number is that of one transaction
  only_its : (z : Leading) → In z s.leading → same_txn z.leader.txn t ≡ true → z ≡ l
  only_its z i e =
      let same : z.leader.txn ≡ t = txn_is z.leader.txn t e in
      let found : Some z ≡ Some l = sym (h.led.leading s s_in z i).one ∙ ap (λ u. leading_of u s.leading) same ∙ leads.one in
      cc

  module _ (y : Session) (off : (by.0 == y.0) ≡ false) where
    pub others_led : filter (λ (z : Leading). z.leader.session.0 == y.0) (without_leading t s.leading)
        ≡ filter (λ (z : Leading). z.leader.session.0 == y.0) s.leading
    others_led = left_same (λ (z : Leading). z.leader.session.0 == y.0) (λ (z : Leading). not (same_txn z.leader.txn t)) s.leading
        (λ z i e. stays z i e (same_txn z.leader.txn t) refl)
      where
        stays : (z : Leading) → In z s.leading → (z.leader.session.0 == y.0) ≡ true → (b : Bool) → same_txn z.leader.txn t ≡ b
            → not b ≡ true
        stays z i e true f =
            let wrong : false ≡ true = sym off ∙ ap (λ (w : Leading). w.leader.session.0 == y.0) (sym (only_its z i f)) ∙ e in
            absurd (cc wrong)
        stays z i e false f = refl

    others_taken : (led : Option Led) → taken_leads y led servers ≡ taken_leads y led c.servers
    others_taken led = each_same (taken_at y led) c.servers k s x.server at
        (ap (λ (ls : List Leading). flat_map (λ (z : Leading). question_of led) ls) others_led)

  -- ## What is owed then

  abbrev ended : Ending
  ended = record { txn = t; session = by; end = end_of_decision d; awaits = out }

  abbrev fresh : Bool → List Ending
  fresh b = cond b (ended ∷ []) []

  abbrev waits : Bool
  waits = is_some (slice_get out 0)

  abbrev owed_new : Session → Bool → List Answer
  owed_new y b = map (λ (z : Ending). answer.Led z.end) (filter (λ (z : Ending). z.session.0 == y.0) (fresh b))

  without_same : without_ending t s.ending ≡ s.ending
  without_same = all_stay (λ (z : Ending). not (same_txn z.txn t)) s.ending
      (λ z i. ap not (none_pass (λ (w : Ending). same_txn w.txn t) s.ending leads.only z i))

  owed_more : (y : Session) → owed_at y x.server ≡ owed_at y s ++ owed_new y waits
  owed_more y =
      ap (λ (es : List Ending). map (λ (z : Ending). answer.Led z.end) (filter (λ (z : Ending). z.session.0 == y.0) (es ++ fresh waits)))
      without_same
      ∙ ap (map (λ (z : Ending). answer.Led z.end)) (filter-append (λ (z : Ending). z.session.0 == y.0) s.ending (fresh waits))
      ∙ map-append (λ (z : Ending). answer.Led z.end) (filter (λ (z : Ending). z.session.0 == y.0) s.ending)
      (filter (λ (z : Ending). z.session.0 == y.0) (fresh waits))

  its_owed : (b : Bool) → waits ≡ b → owed_to by servers ≡ cond b (its_end ∷ []) []
  its_owed b e =
      let few : length (owed_to by c.servers) ≡ 0 = ap length owed_none in
      each_alone (owed_at by) c.servers k s x.server at (omega (arith, few))
      ∙ owed_more by
      ∙ ap (λ os. os ++ owed_new by waits) (each_none (owed_at by) c.servers k s at owed_none)
      ∙ ap (owed_new by) e
      ∙ new b
    where
      new : (b : Bool) → owed_new by b ≡ cond b (its_end ∷ []) []
      new true = ap (λ f. map (λ (z : Ending). answer.Led z.end) (cond f (ended ∷ []) [])) (itself by.0)
      new false = refl

  others_owed : (y : Session) → (by.0 == y.0) ≡ false → owed_to y servers ≡ owed_to y c.servers
  others_owed y off = each_same (owed_at y) c.servers k s x.server at
      (owed_more y ∙ ap (λ os. owed_at y s ++ os) (new waits) ∙ append-nil (owed_at y s))
    where
      new : (b : Bool) → owed_new y b ≡ []
      new true = ap (λ f. map (λ (z : Ending). answer.Led z.end) (cond f (ended ∷ []) [])) off
      new false = refl

  -- ## Before answers are sent

  abbrev held : Session → Ends
  held y = ends_with y servers (c.lines y)

  abbrev heard : List Answer
  heard = messages (c.lines by).down

  its_held : (b : Bool) → waits ≡ b
      → held by ≡ (let z : Ends = record { client = (c.lines by).client; up = []; down = cond b (its_end ∷ []) [] ++ heard } in z)
  its_held b e =
      ap₂ (λ (us : List ClientMsg) (os : List Answer). let z : Ends =
      record { client = (c.lines by).client; up = us; down = os ++ heard } in z)
      (ap₂ (λ (us : List ClientMsg) (ts : List ClientMsg). us ++ ts) asks_no_more taken_gone) (its_owed b e)

  others_held : (y : Session) → (by.0 == y.0) ≡ false → held y ≡ ends_in c y
  others_held y off =
      ap₂ (λ (ts : List ClientMsg) (os : List Answer). let z : Ends =
      record { client = (c.lines y).client; up = messages (c.lines y).up ++ ts; down = os ++ messages (c.lines y).down } in z)
      (others_taken y off (c.lines y).client.led) (others_owed y off)

  its_down : (ends_in c by).down ≡ heard
  its_down = ap (λ os. os ++ heard) owed_none

  then_is : (y : Session) → ends_then y ≡ world.with_sent (ends_now out by (end_of_decision d)) held y
  then_is y =
      meanwhile_sent k x.out.send servers c.lines y
      ∙ told_elsewhere t d out (ends_now out by (end_of_decision d)) held y

  pub others_then : (y : Session) → (by.0 == y.0) ≡ false → ends_then y ≡ ends_in c y
  others_then y off = then_is y ∙ now out ∙ others_held y off
    where
      now : (o : List (ℕ × ℕ)) → world.with_sent (ends_now o by (end_of_decision d)) held y ≡ held y
      now [] =
          ap (λ b. let z : Ends = cond b (let w : Ends = record (held y) { down = (held y).down ++ its_end ∷ [] } in w) (held y) in z) off
      now (n ∷ ns) = refl

  -- where no other server has to do anything
  its_told : out ≡ [] → ends_then by ≡ told by
  its_told none =
      then_is by
      ∙ ap (λ ns. world.with_sent (ends_now ns by (end_of_decision d)) held by) none
      ∙ ap (λ b. let z : Ends = cond b (let w : Ends = record (held by) { down = (held by).down ++ its_end ∷ [] } in w) (held by) in z)
      (itself by.0)
      ∙ ap (λ (z : Ends). let w : Ends = record z { down = z.down ++ its_end ∷ [] } in w)
      (its_held false (ap (λ (ns : List (ℕ × ℕ)). is_some (slice_get ns 0)) none))
      ∙ ap (λ os. let w : Ends = record { client = (c.lines by).client; up = []; down = os ++ its_end ∷ [] } in w) (sym its_down)
      ∙ sym (own_then by its_end (ends_in c))

  -- where another has
  its_owing : (n : ℕ × ℕ) (ns : List (ℕ × ℕ)) → out ≡ n ∷ ns
      → ends_then by ≡ (let z : Ends = record { client = (c.lines by).client; up = []; down = its_end ∷ (ends_in c by).down } in z)
  its_owing n ns some =
      then_is by
      ∙ ap (λ os. world.with_sent (ends_now os by (end_of_decision d)) held by) some
      ∙ its_held true (ap (λ (os : List (ℕ × ℕ)). is_some (slice_get os 0)) some)
      ∙ ap (λ os. let w : Ends = record { client = (c.lines by).client; up = []; down = its_end ∷ os } in w) (sym its_down)

  -- ## In every world

  module _ (v : World) (ends : (y : Session) → v.ends y ≡ told y) (holds : WorldHolds greatest v) where
    abbrev before : List Answer
    before = (ends_in c by).down

    others_there : (y : Session) → (by.0 == y.0) ≡ false → v.ends y ≡ ends_then y
    others_there y off = ends y ∙ other_then by its_end (ends_in c) y off ∙ sym (others_then y off)

    told_now : out ≡ [] → WorldHolds greatest (record v { ends = ends_then })
    told_now none = subst (λ (es : Session → Ends). WorldHolds greatest (record v { ends = es })) (fun_ext same) holds
      where
        same : (y : Session) → v.ends y ≡ ends_then y
        same y = by_test (by.0 == y.0) refl
          where
            by_test : (b : Bool) → (by.0 == y.0) ≡ b → v.ends y ≡ ends_then y
            by_test true e = subst (λ z. v.ends z ≡ ends_then z) (one_session by y e) (ends by ∙ sym (its_told none))
            by_test false e = others_there y e

    owing : (n : ℕ × ℕ) (ns : List (ℕ × ℕ)) → out ≡ n ∷ ns → WorldHolds greatest (record v { ends = ends_then })
    owing n ns some =
        subst (λ (es : Session → Ends). WorldHolds greatest (record v { ends = es })) (fun_ext same)
        (reordered greatest v by before [] its_end (ap (λ (z : Ends). z.down) (ends by ∙ own_then by its_end (ends_in c))) holds)
      where
        first : Ends
        first = record (v.ends by) { down = its_end ∷ (before ++ []) }

        own_first : first ≡ ends_then by
        own_first =
            ap (λ (z : Ends). let w : Ends = record z { down = its_end ∷ (before ++ []) } in w) (ends by ∙ own_then by its_end (ends_in c))
            ∙ ap (λ os. let w : Ends = record { client = (c.lines by).client; up = []; down = its_end ∷ os } in w) (append-nil before)
            ∙ sym (its_owing n ns some)

        same : (y : Session) → with_ends by first v.ends y ≡ ends_then y
        same y = by_test (by.0 == y.0) refl
          where
            by_test : (b : Bool) → (by.0 == y.0) ≡ b → (let z : Ends = cond b first (v.ends y) in z) ≡ ends_then y
            by_test true e = own_first ∙ ap ends_then (one_session by y e)
            by_test false e = others_there y e

    pub ends_hold : WorldHolds greatest (record v { ends = ends_then })
    ends_hold = either out refl
      where
        either : (o : List (ℕ × ℕ)) → out ≡ o → WorldHolds greatest (record v { ends = ends_then })
        either [] e = told_now e
        either (n ∷ ns) e = owing n ns e
