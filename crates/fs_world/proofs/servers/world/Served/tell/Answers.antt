use Rattle.std.proofs.Common.{◌≡◌, refl, ap, sym, ◌∙◌, arith, subst}
use Rattle.fs_world.specs.Linked.{IsLinked}
use Rattle.fs_world.specs.Packets.{Packets}
use Rattle.fs_world.specs.declared.servers.world.Served.{Served}
use Rattle.fs_world.proofs.Linked.{mark_linked}
use Rattle.std.specs.Prelude.{slice_get, Some}
use Rattle.std.proofs.lemmas.Option.{slice_get_within}
use Rattle.fs_ident.proofs.Standing.{In-got}
use Rattle.fs_window.specs.Reading.{packet_at}
use Rattle.fs_world.proofs.servers.world.Served.tell.Goals as goal

pub arrives-requires-clause-sent : goal.arrives-requires-clause-sent
arrives-requires-clause-sent c =
    let x = c.in-Some.sent.now in
    let there : slice_get c.args.self.now.packets.sent c.args.k ≡ Some x = sym c.in-Some.ensures in
    record {
      sent = x;
      among = In-got c.args.self.now.packets.sent c.args.k x there;
      sender = refl;
      addressee = refl;
      read = sym (c.in_ok-packet.ensures.exact ∙ ap packet_at c.as_slice.ensures);
    }

pub mark-requires : goal.mark-requires
mark-requires c =
    let x = c.in-Some.sent.now in
    let there : slice_get c.args.self.now.packets.sent c.args.k ≡ Some x = sym c.in-Some.ensures in
    omega (arith, slice_get_within c.args.self.now.packets.sent c.args.k x there, c.in_ok-arrived.ensures.kept)

pub returns-clause-linked : goal.returns-clause-linked
returns-clause-linked c =
    let v : Served = c.arrives.new.self in
    subst (λ (p : Packets). IsLinked (record v { packets = p })) (sym c.mark.ensures)
    (mark_linked v c.args.k c.in_ok-arrived.ensures.linked)
