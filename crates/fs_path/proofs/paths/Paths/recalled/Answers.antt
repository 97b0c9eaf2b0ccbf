use Rattle.std.proofs.Common.{ap, sym, ◌∙◌}
use Rattle.fs_path.specs.Returns.{held_from, is_of}
use Rattle.fs_path.specs.Tables.{PathTables, lease_of}
use Rattle.fs_path.specs.declared.having.Having.{Having}
use Rattle.fs_path.proofs.Needing.{needed_once_asked}
use Rattle.fs_path.proofs.Placing.{none_of}
use Rattle.fs_path.proofs.paths.Paths.recalled.Goals as goal

pub invariant_of-self : goal.invariant_of-self
invariant_of-self c =
    let i = c.self.invariant in
    let needed = needed_once_asked (is_of c.args.no) c.self.inside.issued c.as_slice-4.result.now c.self.inside.held c.items_mut.result.now.items c.give_one_back.new.held.items c.give_one_back.ensures.held c.as_slice-4.ensures c.items_mut.ensures.value i.2 in
    (i.0, c.give_one_back.ensures.had, needed, i.3)

pub returns-in_default-clause-state : goal.returns-in_default-clause-state
returns-in_default-clause-state c =
    let none = sym (ap (λ (t : PathTables). held_from c.args.no t.held) c.self.view_is) ∙ sym (ap (held_from c.args.no) c.as_slice.ensures) ∙ sym c.held_from.ensures ∙ c.in_default.is in
    let t : PathTables = c.args.self.now in
    sym (ap (λ hs. let u : PathTables = record t { held = hs } in u) (none_of (λ (h : Having). (lease_of h).peer) (is_of c.args.no) t.issued t.held none))
