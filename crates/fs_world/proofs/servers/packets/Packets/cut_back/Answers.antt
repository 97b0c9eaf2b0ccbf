use Rattle.std.proofs.Common.{◌≡◌, ◌++◌, ◌∙◌, List, Bool, false, ap, ap₂, sym, length, map, min, take}
use Rattle.fs_window.specs.declared.sent.Sent.{Sent}
use Rattle.fs_world.specs.Packets.{Packets}
use Rattle.fs_world.proofs.Marks.{marked_first, cut_off}
use Rattle.fs_world.proofs.servers.packets.Packets.cut_back.Goals as goal

pub invariant_of-self : goal.invariant_of-self
invariant_of-self c =
    let least : c.min-self-inside.result ≡ min c.self.inside.next c.args.len = c.min-self-inside.ensures in
    rw (c.truncate.ensures, c.truncate-2.ensures, least) (marked_first c.args.len c.self.inside.sent c.self.inside.delivered
    c.self.inside.next c.self.invariant)

pub returns : goal.returns
returns c = λ p more e l.
    let sent : c.self.inside.sent ≡ p.sent ++ more = ap (λ (x : Packets). x.sent) (c.self.view_is ∙ e) in
    let delivered : c.self.inside.delivered ≡ p.delivered ++ map (λ (x : Sent). false) more =
    ap (λ (x : Packets). x.delivered) (c.self.view_is ∙ e) in
    let parts = cut_off p more c.args.len (sym (ap length delivered) ∙ c.self.invariant.marks ∙ ap length sent) l in
    ap₂ (λ (s : List Sent) (t : List Bool). let q : Packets = record { sent = s; delivered = t } in q)
    (c.truncate.ensures ∙ ap (take c.args.len) sent ∙ parts.0) (c.truncate-2.ensures ∙ ap (take c.args.len) delivered ∙ parts.1)
