-- A client answers a delete or a rename that changes nothing.
use Rattle.std.proofs.Common.{◌≡◌, ℕ, ◌+◌, ◌<◌, ◌≤◌, ◌&&◌, ◌⊎◌, not, Bool, true, false, List, [], map, refl, sym, ap, ◌∙◌, subst, inl, inr, cond, arith}
use Rattle.std.specs.Prelude.{Option, Some, None, is_some}
use Rattle.std.specs.FinMap.{get}
use Rattle.std.proofs.lemmas.Bool.{ltb-true}
use Rattle.fs_ident.specs.In.{In}
use Rattle.fs_ident.specs.Ident.{same}
use Rattle.fs_ident.specs.declared.actor.Session.{Session}
use Rattle.fs_ident.specs.declared.kind.Kind.{Kind}
use Rattle.fs_ident.specs.declared.kind.Kind.TheVariants.{File, Dir}
use Rattle.fs_field.specs.declared.field.Field.{Field}
use Rattle.fs_field.specs.declared.used.Use.{Use}
use Rattle.fs_field.specs.declared.value.Value.{Value}
use Rattle.fs_model.specs.Ancestors.{is_on_chain}
use Rattle.fs_model.specs.Children.{child_at}
use Rattle.fs_model.specs.Asking.{may_ask}
use Rattle.fs_model.specs.Namespace.{NodeMap}
use Rattle.fs_model.specs.Sound.{IsSound}
use Rattle.fs_model.specs.Step.{Stepped, delete, delete_child, delete_in, is_childless, is_unused, denies_delete, rename, rename_child, rename_in, rename_to, rename_to_dir, reply_alone, step, with_moved_node}
use Rattle.fs_model.specs.declared.node.Node.{Node}
use Rattle.fs_model.specs.declared.op.Op.{Op}
use Rattle.fs_model.specs.declared.op.Op.TheVariants as op
use Rattle.fs_model.specs.declared.reply.Reply.{Reply}
use Rattle.fs_model.specs.declared.reply.Reply.TheVariants as reply
use Rattle.fs_msg.specs.declared.answer.Answer.{Answer}
use Rattle.fs_msg.specs.declared.client_msg.ClientMsg.{ClientMsg}
use Rattle.fs_msg.specs.declared.item.Item.{Item}
use Rattle.fs_record.specs.Effects.{tells_its_effects}
use Rattle.fs_record.specs.Records.{nodes_of}
use Rattle.fs_record.specs.ValueOf.{value_of}
use Rattle.fs_client.specs.Acts.{with_id}
use Rattle.fs_client.specs.Led.{is_led}
use Rattle.fs_client.specs.declared.state.Client.{Client}
use Rattle.fs_view.specs.Gone.{IsUnread}
use Rattle.fs_view.specs.Laws.{but_cycle}
use Rattle.fs_view.specs.View.{reply_in, uses_in, value_after_log}
use Rattle.fs_view.specs.Walk.{always, known_in, walk}
use Rattle.fs_view.proofs.Led.{deletes, renames}
use Rattle.fs_ident.specs.declared.actor.Peer.TheVariants.{Client as OfSession}
use Rattle.fs_msg.specs.Journal.{is_reap}
use Rattle.fs_serial.specs.Fresh.{made_by}
use Rattle.fs_serial.specs.Leases.{IsBacked}
use Rattle.fs_serial.specs.Settled.{Lease, Settled, effects_in, settled_now}
use Rattle.fs_serial.specs.Sight.{Sight}
use Rattle.fs_serial.proofs.LedOperations.Cycles.{cycle_named, cycles}
use Rattle.fs_serial.proofs.Lists.Journals.{known_nodes}
use Rattle.fs_serial.proofs.OtherSessions.Gone.{lost_in, lost_unread}
use Rattle.fs_serial.proofs.Replies.Knowing.{IsUseOf, use_from}
use Rattle.fs_serial.proofs.Replies.Read.{IsReadOf, item_read, nothing_in}
use Rattle.fs_serial.proofs.Replies.Reply.{IsOfLease, value_seen}
use Rattle.fs_serial.proofs.Replies.ReplyNext.{of_lease, walked}
use Rattle.fs_serial.proofs.ClientMessages.SessionStates.{SessionStateHolds, seen_at}
use Rattle.fs_serial.proofs.ClientMessages.Settling.{settled_log}

-- ## A step that is not led changes nothing

module _ (m : NodeMap) (o : Op) where
  -- where it is not led, the space stays
  abbrev Stays : Stepped → Type 0
  Stays t = is_led o t.reply ≡ false → t.nodes ≡ m

  alone : (r : Reply) → Stays (reply_alone m r)
  alone r h = refl

  either : (b : Bool) (r : Reply) (t : Stepped) → Stays t → Stays (cond b (reply_alone m r) t)
  either true r t h = alone r
  either false r t h = h

delete_stays : (m : NodeMap) (dir name : List ℕ) (o : Option Node) → Stays m (op.Delete dir name) (delete o m dir name)
delete_stays m dir name None = alone m (op.Delete dir name) reply.Gone
delete_stays m dir name (Some d) = by_kind d.kind
  where
    by_child : (c : Option (List ℕ)) → Stays m (op.Delete dir name) (delete_child m dir name c)
    by_child None = alone m (op.Delete dir name) reply.NoName
    by_child (Some file) = either m (op.Delete dir name) (not (is_childless (get m file))) reply.NotEmpty _ (either m (op.Delete dir name) (not (is_unused (get m file))) reply.InUse _ (λ h. absurd (cc)))

    by_kind : (k : Kind) → Stays m (op.Delete dir name) (delete_in k m d dir name)
    by_kind File = alone m (op.Delete dir name) reply.NotDir
    by_kind Dir = by_child _

rename_stays : (m : NodeMap) (sdir sname ddir dname : List ℕ) (o : Option Node) → Stays m (op.Rename sdir sname ddir dname) (rename o m sdir sname ddir dname)
rename_stays m sdir sname ddir dname None = alone m (op.Rename sdir sname ddir dname) reply.Gone
rename_stays m sdir sname ddir dname (Some s) = by_kind s.kind
  where
    moves : (b : Bool) (n : NodeMap) → (same sdir ddir && same sname dname) ≡ b → is_led (op.Rename sdir sname ddir dname) reply.Renamed ≡ false → b ≡ false → n ≡ m
    moves b n e h f = absurd (let z : true ≡ false = sym (ap not (e ∙ f)) ∙ h in cc)

    last : (b : Bool) → (same sdir ddir && same sname dname) ≡ b → (t : Stepped) → (b ≡ false → Stays m (op.Rename sdir sname ddir dname) t) → Stays m (op.Rename sdir sname ddir dname) (cond b (reply_alone m reply.Renamed) t)
    last true e t h = alone m (op.Rename sdir sname ddir dname) reply.Renamed
    last false e t h = h refl

    by_child : (d : Node) (c : Option (List ℕ)) → Stays m (op.Rename sdir sname ddir dname) (rename_child m sdir sname d ddir dname c)
    by_child d None = alone m (op.Rename sdir sname ddir dname) reply.NoName
    by_child d (Some file) = last (same sdir ddir && same sname dname) refl _ (λ f.
        either m (op.Rename sdir sname ddir dname) (is_some (child_at d.children dname)) reply.Exists _
        (either m (op.Rename sdir sname ddir dname) (denies_delete (get m file)) reply.Sharing _
        (either m (op.Rename sdir sname ddir dname) (is_on_chain m file ddir) reply.Cycle (record { reply = reply.Renamed; nodes = with_moved_node m file sdir sname ddir dname }) (λ h. moves false _ f h refl))))

    by_dir : (d : Node) (k : Kind) → Stays m (op.Rename sdir sname ddir dname) (rename_to_dir k m s sdir sname d ddir dname)
    by_dir d File = alone m (op.Rename sdir sname ddir dname) reply.NotDirTo
    by_dir d Dir = by_child d _

    by_to : (p : Option Node) → Stays m (op.Rename sdir sname ddir dname) (rename_to m s sdir sname p ddir dname)
    by_to None = alone m (op.Rename sdir sname ddir dname) reply.GoneTo
    by_to (Some d) = by_dir d d.kind

    by_kind : (k : Kind) → Stays m (op.Rename sdir sname ddir dname) (rename_in k m s sdir sname ddir dname)
    by_kind File = alone m (op.Rename sdir sname ddir dname) reply.NotDir
    by_kind Dir = by_to (get m ddir)

move_stays : (m : NodeMap) (by : Session) (o : Op) → tells_its_effects o ≡ false → may_ask o ≡ true → is_led o (step m by o).reply ≡ false → (step m by o).nodes ≡ m
move_stays m by (op.Delete dir name) t may h = delete_stays m dir name (get m dir) h
move_stays m by (op.Rename sdir sname ddir dname) t may h = rename_stays m sdir sname ddir dname (get m sdir) h
move_stays m by o t may h = absurd (cc)

-- ## Its reply is the namespace's

but_renamed : (x r : Reply) → but_cycle x ≡ r → (x ≡ reply.Cycle → r ≡ reply.Renamed → ⊥) → x ≡ r
but_renamed reply.Cycle r h never = absurd (never refl (sym h))
but_renamed x r h never = h

own_place : (sdir sname ddir dname : List ℕ) (r : Reply) → r ≡ reply.Renamed → is_led (op.Rename sdir sname ddir dname) r ≡ false → (same sdir ddir && same sname dname) ≡ false → ⊥
own_place sdir sname ddir dname r e h f = let z : true ≡ false = sym (ap not f) ∙ ap (is_led (op.Rename sdir sname ddir dname)) (sym e) ∙ h in absurd (cc)

move_reply : (m : NodeMap) (by : Session) (o : Op) (r : Reply) → IsSound m → tells_its_effects o ≡ false → may_ask o ≡ true → is_led o r ≡ false → (walk (known_in m by) always o).reply ≡ Some r → (step m by o).reply ≡ r
move_reply m by (op.Delete dir name) r sound t may h w = let q : Some (step m by (op.Delete dir name)).reply ≡ Some r = sym (deletes m by dir name sound) ∙ w in cc
move_reply m by (op.Rename sdir sname ddir dname) r sound t may h w =
    let o = op.Rename sdir sname ddir dname in
    let q : Some (but_cycle (step m by o).reply) ≡ Some r = sym (renames m by sdir sname ddir dname) ∙ w in
    let p : but_cycle (step m by o).reply ≡ r = cc in
    but_renamed (step m by o).reply r p (λ c e.
    let f = cycle_named m sdir sname ddir dname (get m sdir) c in
    own_place sdir sname ddir dname r e h (cycles m sdir sname ddir dname f.0 (get m sdir) f.1 c).other)
move_reply m by o r sound t may h w = absurd (cc)

same_op : (c : Client) (o : Op) (r : Reply) → tells_its_effects o ≡ false → with_id c.view c.last o r ≡ o
same_op c (op.Create dir name kind new) r t = absurd (cc)
same_op c o r t = refl

makes_none : (o : Op) (r : Reply) (id : List ℕ) → tells_its_effects o ≡ false → is_some (made_by o r id) ≡ true → ⊥
makes_none (op.Create dir name kind new) r id t h = absurd (cc)
makes_none o r id t h = absurd (cc)

may_join : (by : Session) (o : Op) → may_ask o ≡ true → not (is_reap o) ≡ true
may_join by (op.Reap file session) h = absurd (cc)
may_join by o h = refl

-- what the client reads of a delete or a rename is the namespace's
pub move_read : (skew greatest : ℕ) (s : Sight) (by : Session) (replied : List Item) (c : Client) (up : List ClientMsg) (down : List Answer) (h : SessionStateHolds skew greatest s by replied c up down) (unled : c.led ≡ None) (o : Op) (r : Reply)
    → IsSound (nodes_of s.records) → tells_its_effects o ≡ false → may_ask o ≡ true → is_led o r ≡ false → reply_in c.view c.last o ≡ Some r → c.log ≡ [] → greatest ≤ c.last + skew → IsReadOf (nodes_of s.records) by c.next (item_read c o r)
move_read skew greatest s by replied c up down h unled o r sound t may n known empty within =
    let values : Field → Value = value_of s.records by in
    let d : Settled = seen_at by c down in
    let agree : (l : Lease) → In l d.leases → (u : Use) → In u (uses_in c.view c.last o) → l.no ≡ u.no → IsUnread values l.field ⊎ (values l.field ≡ value_seen by d l) = λ l held u i same.
    let w : IsOfLease d.leases u = of_lease by c down o r known h.client unled u i in
    let q : IsUseOf c.view c.last u = use_from c.view c.last o u (ap is_some known) i in
    let it : l ≡ w.lease = h.fits.distinct l w.lease held w.held (same ∙ sym w.number) in
    let until : l.until ≡ q.lease.until = ap (λ (l : Lease). l.until) it ∙ w.until ∙ sym (ap (λ (u : Use). u.until) q.used) in
    let live : c.last < q.lease.until = ltb-true c.last q.lease.until q.live in
    let b : IsBacked s.rows l.no l.until = h.holds.backed l held (omega arith) in
    elim (h.holds.telling l held b.row b.stands b.number) as (λ _. IsUnread values l.field ⊎ (values l.field ≡ value_seen by d l)) [
      | inl gone ↦ inl (lost_unread s.journal values l.field (lost_in s.records by s.journal l.field gone))
      | inr told ↦ inr (sym told ∙ sym (ap (λ es. value_after_log by l.field l.base (map (effects_in by) es)) (nothing_in d.log (λ x j. subst (In x) empty (settled_log by down (settled_now c) x j)))))
    ] in
    let walks : (walk (known_in (nodes_of s.records) by) always o).reply ≡ Some r = ap (λ k. (walk k always o).reply) (sym (known_nodes s.records by)) ∙ ap (λ w. w.reply) (walked by c down o r known h.client unled values agree) ∙ known in
    let gets : (step (nodes_of s.records) by o).reply ≡ r = move_reply (nodes_of s.records) by o r sound t may n walks in
    subst (λ (x : Op). let i : Item = record { by = OfSession c.session; n = c.next; op = x; reply = r } in IsReadOf (nodes_of s.records) by c.next i) (sym (same_op c o r t))
    (subst (λ (x : Session). let i : Item = record { by = OfSession x; n = c.next; op = o; reply = r } in IsReadOf (nodes_of s.records) by c.next i) (sym h.client.session) (record {
      session = refl;
      number = refl;
      admitted = may_join by o may;
      gets = gets;
      stays = move_stays (nodes_of s.records) by o t may (ap (is_led o) gets ∙ n);
      makes = λ id m. makes_none o r id t m;
    }))
