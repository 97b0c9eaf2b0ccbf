use Rattle.std.proofs.Common.{◌≡◌, ◌∙◌, List, ℕ, [], ◌∷◌, ◌++◌, ap, sym}
use Rattle.fs_ident.specs.Maps.{map_of}
use Rattle.fs_record.specs.Walk.{taken_back}
use Rattle.fs_record.proofs.Coming.{taken_last}
use Rattle.fs_record.proofs.moving.take_away.Goals as goal

pub loop-file-preserved : goal.loop-file-preserved
loop-file-preserved c =
    let m = map_of c.loop-file.records in
    let rest : List (List ℕ) = c.pop.new.self.items in
    let items : c.loop-file.came.items ≡ rest ++ c.in-Some.file ∷ [] = c.in-Some.ensures.items in
    ap (taken_back rest) c.remove.ensures ∙ sym (taken_last rest c.in-Some.file m) ∙ ap (λ (fs : List (List ℕ)). taken_back fs m) (sym items) ∙ c.loop-file.invariant
