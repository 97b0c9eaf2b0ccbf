use Rattle.std.proofs.Common.{◌∙◌, ap, subst, sym}
use Rattle.fs_map.specs.Map.{IsMap, Owners, Tells, after_take}
use Rattle.fs_map.specs.Part.{with_part_replaced}
use Rattle.fs_map.proofs.Owned.{taken_map}
use Rattle.fs_map.proofs.change.change.Goals as goal

pub returns-clause-map : goal.returns-clause-map
returns-clause-map c = c.replace_part.ensures ∙ ap (λ l. with_part_replaced l c.in_ok-bounds.bounds.start c.in_ok-bounds.bounds.end c.in_ok-bounds.bounds.kept) c.items_mut.ensures.value ∙ c.in_ok-bounds.ensures.after

pub returns-clause-servers : goal.returns-clause-servers
returns-clause-servers c =
    subst (λ (l : Owners). Tells l (after_take c.args.owners.now c.args.to c.args.piece.now.prefix c.args.piece.now.given)) (sym (returns-clause-map c))
    (taken_map c.args.owners.now c.args.to c.args.piece.now.prefix c.args.piece.now.given c.requires.piece).1

pub returns-clause-valid : goal.returns-clause-valid
returns-clause-valid c =
    subst IsMap (sym (returns-clause-map c)) (taken_map c.args.owners.now c.args.to c.args.piece.now.prefix c.args.piece.now.given c.requires.piece).0
