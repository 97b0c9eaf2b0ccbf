-- The lines of the namespace.
use Rattle.std.proofs.Common.{◌≡◌, ℕ, ◌≤◌, List, [], ◌∷◌, ◌++◌, flat_map, map, refl, ap, sym, ◌∙◌, length, take}
use Rattle.std.specs.Prelude.{Some}
use Rattle.std.proofs.lemmas.Grind.{flat_map-append}
use Rattle.std.proofs.lemmas.List.{append_assoc, map-append, take_all}
use Rattle.serde_json.specs.Data.{Data, string}
use Rattle.fs_model.specs.declared.node.Handle.{Handle}
use Rattle.fs_model.specs.declared.node.Node.{Node}
use Rattle.fs_report.specs.Report.{ended, file_lines, file_text, handle_line, node_line}

-- what is made of each item of lists in a row
pub map_in : {X Y Z : Type 0} (f : Y → Z) (g : X → List Y) (xs : List X) → map f (flat_map g xs) ≡ flat_map (λ x. map f (g x)) xs
map_in f g [] = refl
map_in f g (x ∷ xs) = map-append f (g x) (flat_map g xs) ∙ ap (λ zs. map f (g x) ++ zs) (map_in f g xs)

pub flat_in : {X Y Z : Type 0} (f : Y → List Z) (g : X → List Y) (xs : List X) → flat_map f (flat_map g xs) ≡ flat_map (λ x. flat_map f (g x)) xs
flat_in f g [] = refl
flat_in f g (x ∷ xs) = flat_map-append f (g x) (flat_map g xs) ∙ ap (λ zs. flat_map f (g x) ++ zs) (flat_in f g xs)

-- of each item of a list first one thing, then another
pub flat_of_map : {X Y Z : Type 0} (f : Y → List Z) (g : X → Y) (xs : List X) → flat_map f (map g xs) ≡ flat_map (λ x. f (g x)) xs
flat_of_map f g [] = refl
flat_of_map f g (x ∷ xs) = ap (λ zs. f (g x) ++ zs) (flat_of_map f g xs)

-- a node's line and those of all its handles stand behind what stood
pub file_stands : (id : List ℕ) (n : Node) (hs : List Handle) (old line all new : List ℕ) (count : ℕ) → hs ≡ n.handles → line ≡ old ++ node_line id n → all ≡ line ++ 10 ∷ [] → new ≡ all ++ flat_map (λ (x : Handle). ended (handle_line id x)) (take count hs) → length hs ≤ count → new ≡ old ++ file_text id (Some n)
file_stands id n hs old line all new count same one two three whole =
    let lines : flat_map (λ (x : Handle). ended (handle_line id x)) (take count hs) ≡ flat_map ended (map (handle_line id) n.handles)
    = ap (flat_map (λ (x : Handle). ended (handle_line id x))) (take_all count hs whole ∙ same) ∙ sym (flat_of_map ended (handle_line id) n.handles) in
    let first : all ≡ old ++ ended (node_line id n) = two ∙ ap (λ (bs : List ℕ). bs ++ 10 ∷ []) one ∙ append_assoc old (node_line id n) (10 ∷ []) in
    three ∙ ap (λ (bs : List ℕ). all ++ bs) lines ∙ ap (λ (bs : List ℕ). bs ++ flat_map ended (map (handle_line id) n.handles)) first
    ∙ append_assoc old (ended (node_line id n)) (flat_map ended (map (handle_line id) n.handles))

pub map_of_map : {X Y Z : Type 0} (f : Y → Z) (g : X → Y) (xs : List X) → map f (map g xs) ≡ map (λ x. f (g x)) xs
map_of_map f g [] = refl
map_of_map f g (x ∷ xs) = ap (λ zs. f (g x) ∷ zs) (map_of_map f g xs)

-- the values of a node's line and of all its handles' stand behind what stood
pub values_stand : (id : List ℕ) (n : Node) (hs : List Handle) (old first new : List Data) (count : ℕ) → hs ≡ n.handles → first ≡ old ++ string (node_line id n) ∷ [] → new ≡ first ++ map (λ (x : Handle). string (handle_line id x)) (take count hs) → length hs ≤ count → new ≡ old ++ map string (file_lines id (Some n))
values_stand id n hs old first new count same one two whole =
    let lines : map (λ (x : Handle). string (handle_line id x)) (take count hs) ≡ map string (map (handle_line id) n.handles)
    = ap (map (λ (x : Handle). string (handle_line id x))) (take_all count hs whole ∙ same) ∙ sym (map_of_map string (handle_line id) n.handles) in
    two ∙ ap (λ (vs : List Data). first ++ vs) lines ∙ ap (λ (vs : List Data). vs ++ map string (map (handle_line id) n.handles)) one
    ∙ append_assoc old (string (node_line id n) ∷ []) (map string (map (handle_line id) n.handles))
