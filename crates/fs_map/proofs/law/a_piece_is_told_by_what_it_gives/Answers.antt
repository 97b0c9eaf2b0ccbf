use Rattle.std.proofs.Common.{◌≡◌, ◌∙◌, ℕ, List, Bool, true, false, ap, sym}
use Rattle.std.specs.Prelude.{Some, unwrap_or, ◌&&◌}
use Rattle.fs_map.specs.Map.{told_of, begins}
use Rattle.fs_map.proofs.Listing.{told, listing, one_list}
use Rattle.fs_map.proofs.law.a_piece_is_told_by_what_it_gives.Goals as goal

pub returns : goal.returns
returns c prefix a b p q same =
    one_list given prefix a b
    (listing given prefix a p (λ id h. told prefix a p false id h))
    (listing given prefix b q (λ id h. told prefix b q false id h ∙ ap Some (below id h)))
  where
    given : List ℕ → Bool
    given id = unwrap_or (told_of a id) false

    below : (id : List ℕ) → begins prefix id ≡ true → unwrap_or (told_of b id) false ≡ given id
    below id h = ap (λ x. x && (unwrap_or (told_of b id) false)) (sym h) ∙ sym (same id) ∙ ap (λ x. x && given id) h
