-- A client answers an operation: all parts of all sessions.
use Rattle.std.proofs.Common.{◌≡◌, ℕ, false, List, [], ◌∷◌, ◌++◌, refl, sym, ap, ◌∙◌, subst}
use Rattle.std.specs.Prelude.{Some, is_some, option_map}
use Rattle.fs_ident.specs.In.{In}
use Rattle.fs_ident.specs.declared.actor.Session.{Session}
use Rattle.fs_field.specs.declared.used.Use.{Use}
use Rattle.fs_lease.specs.Lease.{Lease as Term}
use Rattle.fs_model.specs.declared.op.Op.{Op}
use Rattle.fs_model.specs.declared.reply.Reply.{Reply}
use Rattle.fs_msg.specs.declared.answer.Answer.{Answer}
use Rattle.fs_msg.specs.declared.entry.Entry.{Entry}
use Rattle.fs_msg.specs.declared.item.Item.{Item}
use Rattle.fs_client.specs.Acts.{entry_of, replies}
use Rattle.fs_client.specs.Client.{changed}
use Rattle.fs_client.specs.declared.state.Client.{Client}
use Rattle.fs_record.specs.Effects.{effects_of}
use Rattle.fs_server.specs.Ships.{item_of}
use Rattle.fs_view.specs.declared.view_lease.ViewLease.{ViewLease}
use Rattle.fs_view.specs.declared.view_lease.Standing.{Standing}
use Rattle.fs_view.specs.declared.view_lease.Standing.TheVariants.{Held, Pinned, Leaving}
use Rattle.fs_view.specs.ViewLease.{lease_of, is_leaving}
use Rattle.fs_serial.specs.Client.{ClientFits}
use Rattle.fs_serial.specs.Parts.{AllHold, SessionHolds, SessionFits, with_client, with_replies}
use Rattle.fs_serial.specs.Settled.{Settled, lease_in, lease_with, settled, settled_now}
use Rattle.fs_serial.specs.Sight.{Sight}
use Rattle.fs_serial.specs.Steps.{IsReplied}
use Rattle.fs_serial.specs.Pending.{HasLease}
use Rattle.fs_serial.proofs.Grants.Claims.{AreUnborn, NoneAnew}
use Rattle.fs_serial.proofs.OtherSessions.Gone.{MakeAnew, all_anew, all_unborn}
use Rattle.fs_serial.proofs.Replies.Knowing.{In-filter_map, IsUseOf, use_from}
use Rattle.fs_serial.proofs.Replies.Reply.{with_last, reply_anew, reply_holds, reply_fits}
use Rattle.fs_serial.proofs.Replies.ReplyNext.{next}
use Rattle.fs_serial.proofs.Replies.ReplyPins.{InHand, reply_client, reply_settled}
use Rattle.fs_serial.proofs.ClientMessages.Settling.{settled_last}
use Rattle.fs_serial.proofs.OtherSessions.Together.{client_changes}
use Rattle.fs_serial.proofs.Returns.Lapse.{number_there}

pub not_leaving : (s : Standing) (l : Term) → lease_of s ≡ Some l → is_leaving s ≡ false
not_leaving (Held x) l e = refl
not_leaving (Pinned u) l e = refl
not_leaving (Leaving x) l e = absurd (cc)

module _ (by : Session) (c : Client) (down : List Answer) (o : Op) (r : Reply) (a : IsReplied c down o r) (f : ClientFits by c) where
  -- no lease that it uses goes back
  pub in_hand : InHand (entry_of o r c).uses c.view.leases
  in_hand u i k j e =
      let q : IsUseOf c.view c.last u = use_from c.view c.last o u (ap is_some a.reply) i in
      let same : k ≡ q.kept = f.distinct k q.kept j q.among (e ∙ ap (λ (u : Use). u.no) (sym q.used) ∙ sym (number_there q.kept.standing q.lease q.is)) in
      ap (λ (k : ViewLease). is_leaving k.standing) same ∙ not_leaving q.kept.standing q.lease q.is

  own : (u : Use) → In u (entry_of o r c).uses → HasLease (settled_now c).leases u
  own u i =
      let q : IsUseOf c.view c.last u = use_from c.view c.last o u (ap is_some a.reply) i in
      record {
        lease = lease_with q.kept q.lease;
        held = In-filter_map lease_in q.kept (lease_with q.kept q.lease) c.view.leases q.among (ap (option_map (lease_with q.kept)) q.is);
        number = ap (λ (u : Use). u.no) q.used;
        field = ap (λ (u : Use). u.field) q.used;
        kind = ap (λ (u : Use). u.kind) q.used;
      }

  pub replied_client : ClientFits by (changed (replies o r c).ready.change c)
  replied_client = reply_client by c (entry_of o r c) a.unled f in_hand own

  -- as it will be, it has one entry more
  pub replied_settled : settled by down (settled_now (changed (replies o r c).ready.change c)) ≡ with_last (entry_of o r c) (settled by down (settled_now c))
  replied_settled = ap (settled by down) (reply_settled c (entry_of o r c) (effects_of c.session (entry_of o r c).op r)) ∙ settled_last by down (entry_of o r c) (settled_now c) a.unled a.few

pub reply_kept : (skew greatest : ℕ) (s : Sight) (replied : Session → List Item) (clients : Session → Settled) (by : Session) (c : Client) (down : List Answer) (o : Op) (r : Reply) → AllHold skew greatest s replied clients → ClientFits by c → clients by ≡ settled by down (settled_now c) → IsReplied c down o r
    → AllHold skew greatest s (with_replies by (replied by ++ item_of by (entry_of o r c) ∷ []) replied) (with_client by (settled by down (settled_now (changed (replies o r c).ready.change c))) clients)
reply_kept skew greatest s replied clients by c down o r h f is a =
    let e : Entry = entry_of o r c in
    let d : Settled = settled by down (settled_now c) in
    let holds = subst (λ d. SessionHolds skew greatest s by (replied by) d) is (h.sessions by) in
    let fits = subst (λ d. SessionFits skew greatest s by d) is (h.fitting by) in
    let n = next by c down o r a.reply f a.unled a.plain a.asked fits.fresh fits.entries in
    let anew : MakeAnew by s.journal d.log = subst (λ (x : Settled). MakeAnew by s.journal x.log) is (all_anew skew greatest s replied clients h by) in
    let unborn : AreUnborn s.records d = subst (AreUnborn s.records) is (all_unborn skew greatest s replied clients h by) in
    subst (λ x. AllHold skew greatest s (with_replies by (replied by ++ item_of by e ∷ []) replied) (with_client by x clients)) (sym (replied_settled by c down o r a f))
    (client_changes skew greatest s replied clients by (replied by ++ item_of by e ∷ []) (with_last e d) h
    (reply_holds skew greatest s by (replied by) d e n holds fits anew unborn) (reply_fits skew greatest s by (replied by) d e n holds fits)
    (subst (λ (x : Settled). NoneAnew x (with_last e d)) (sym is) (reply_anew by d e n)))
