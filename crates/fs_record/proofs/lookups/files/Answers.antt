use Rattle.std.proofs.Common.{◌≡◌, ◌∙◌, ◌++◌, List, ℕ, [], sym, ap, append-nil}
use Rattle.std.specs.Map.Iter.{deref}
use Rattle.std.proofs.lemmas.Map.Iter.{rest_all}
use Rattle.fs_ident.proofs.MapsOf.{map_of_keys}
use Rattle.fs_record.proofs.lookups.files.Goals as goal

pub returns : goal.returns
returns g c =
    let none : c.loop-id.id-iterator ≡ [] = rest_all deref _ _ _ c.in-None.is c.next.ensures.steps in
    sym (append-nil c.loop-id.ids) ∙ ap (λ (ids : List (List ℕ)). c.loop-id.ids ++ ids) (sym none) ∙ c.loop-id.invariant ∙ sym (map_of_keys c.args.records.now c.len.ensures.ordered)
