use Rattle.std.proofs.Common.{ap, sym, ◌∙◌, length, reverse}
use Rattle.fs_parcel.specs.Merged.{is_first}
use Rattle.fs_parcel.proofs.Merging.{emptied, plain_taken, modes_taken}
use Rattle.fs_parcel.proofs.parts.least.Goals as goal

pub returns-then-is_first-clause-taken : goal.returns-then-is_first-clause-taken
returns-then-is_first-clause-taken c = plain_taken c.pop.result _ _ _ c.requires
    (ap (λ l. is_first (reverse l) (reverse c.args.modes.now.items)) (sym c.deref.ensures.value)
    ∙ ap (λ l. is_first (reverse c.deref.result.now) (reverse l)) (sym c.deref-2.ensures.value)
    ∙ sym c.is_first.ensures
    ∙ c.if-is_first.true)
    c.pop.ensures.items
    (emptied c.pop.result _ _ c.args.plain.now.items c.pop.ensures.cases (ap length (sym c.deref.ensures.value) ∙ c.deref.ensures.len))

pub returns-else-is_first-clause-taken : goal.returns-else-is_first-clause-taken
returns-else-is_first-clause-taken c = modes_taken c.pop-else-is_first.result _ _ _ c.requires
    (ap (λ l. is_first (reverse l) (reverse c.args.modes.now.items)) (sym c.deref.ensures.value)
    ∙ ap (λ l. is_first (reverse c.deref.result.now) (reverse l)) (sym c.deref-2.ensures.value)
    ∙ sym c.is_first.ensures
    ∙ c.if-is_first.false)
    c.pop-else-is_first.ensures.items
    (emptied c.pop-else-is_first.result _ _ c.args.modes.now.items c.pop-else-is_first.ensures.cases (ap length (sym c.deref-2.ensures.value) ∙ c.deref-2.ensures.len))
