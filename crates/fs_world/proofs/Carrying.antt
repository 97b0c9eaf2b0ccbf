-- The links of every world that steps make carry what was sent.
use Rattle.std.proofs.Common.{Option, refl, sym, subst}
use Rattle.fs_window.specs.Post.{Links}
use Rattle.fs_window.specs.declared.packet.Packet.{Packet}
use Rattle.fs_world.specs.Carried.{Carries, GivesFirst, AreFirstOf, LinksCarry, between, joined_at}
use Rattle.fs_world.specs.Linked.{IsLinked, IsWhole}
use Rattle.fs_world.specs.declared.form.Form.{Form}
use Rattle.fs_world.specs.declared.form.Form.TheVariants.{Direct, Served}
use Rattle.fs_world.specs.declared.servers.world.Served.{Served as TheServed}
use Rattle.fs_world.proofs.LinkedChange.{first_of, other_way}
use Rattle.fs_world.proofs.Linked.{packet_of, sent_read}

pub linked_carries : (w : TheServed) → IsLinked w → Carries w
linked_carries w h x i =
    let g = h.ties.between x i in
    let read = sent_read w x i h in
    let p : Packet = read.0 in
    let of = packet_of w x.from x.to g.from.0 g.to.0 p g.from.1 g.to.1 (record {
      sent = x;
      among = i;
      sender = refl;
      addressee =
          refl;
      read = read.1;
    }) h in
    subst (λ (o : Option Packet). GivesFirst w x.from x.to o) (sym read.1)
    (subst (λ (o : Option Links). AreFirstOf (joined_at o x.from p) (between w x.from x.to)) (sym g.to.1)
    (first_of x.to x.from g.to.0 g.from.0 p w g.to.1 g.from.1 (other_way x.from x.to g.apart) of h.ties))

pub links_carry : (w : Form) → IsWhole w → LinksCarry w
links_carry (Direct w) h = tt
links_carry (Served w) h = linked_carries w h
