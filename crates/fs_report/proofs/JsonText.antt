-- The text of the value is the text that is wanted.
use Rattle.std.proofs.Common.{◌≡◌, ℕ, List, [], ◌∷◌, ◌++◌, true, false, codes, flat_map, map, refl, ap, sym, ◌∙◌, append_assoc}
use Rattle.json.specs.Print.{quoted}
use Rattle.serde_json.specs.Data.{Data, string}
use Rattle.serde_json.specs.View.{items_of}
use Rattle.serde_json.specs.Written.{compact_text, items_text, has_float, items_have_float}
use Rattle.serde_json.proofs.OnLiterals.{serde_json_on_literals}
use Rattle.fs_model.specs.Namespace.{NodeMap}
use Rattle.fs_msg.specs.declared.item.Item.{Item}
use Rattle.fs_report.specs.Json.{item_json, journal_json, parted}
use Rattle.fs_report.specs.Report.{space_lines}
use Rattle.fs_report.specs.Values.{item_value, journal_value}

item_text_is : (i : Item) → compact_text (item_value i) ≡ item_json i
unfolding serde_json_on_literals
item_text_is i = refl

items_plain : (is : List Item) → items_have_float (items_of (map item_value is)) ≡ false
items_plain [] = refl
items_plain (i ∷ is) = items_plain is

strings_plain : (ts : List (List ℕ)) → items_have_float (items_of (map string ts)) ≡ false
strings_plain [] = refl
strings_plain (t ∷ ts) = strings_plain ts

-- items behind the first
more : {X : Type 0} (value : X → Data) (text : X → List ℕ) (same : (x : X) → compact_text (value x) ≡ text x) (xs : List X) → items_text true (items_of (map value xs)) ≡ flat_map (λ u. 44 ∷ u) (map text xs) ++ 93 ∷ []
more value text same [] = refl
more value text same (x ∷ xs) =
    ap (λ (r : List ℕ). 44 ∷ (r ++ items_text true (items_of (map value xs)))) (same x)
    ∙ ap (λ (r : List ℕ). 44 ∷ (text x ++ r)) (more value text same xs)
    ∙ ap (λ (r : List ℕ). 44 ∷ r) (sym (append_assoc (text x) (flat_map (λ u. 44 ∷ u) (map text xs)) (93 ∷ [])))

all_items : {X : Type 0} (value : X → Data) (text : X → List ℕ) (same : (x : X) → compact_text (value x) ≡ text x) (xs : List X) → items_text false (items_of (map value xs)) ≡ parted (map text xs) ++ 93 ∷ []
all_items value text same [] = refl
all_items value text same (x ∷ xs) =
    ap (λ (r : List ℕ). r ++ items_text true (items_of (map value xs))) (same x)
    ∙ ap (λ (r : List ℕ). text x ++ r) (more value text same xs)
    ∙ sym (append_assoc (text x) (flat_map (λ u. 44 ∷ u) (map text xs)) (93 ∷ []))

pub no_floats : (journal : List Item) (m : NodeMap) → has_float (journal_value journal m) ≡ false
no_floats journal m = cc (items_plain journal, strings_plain (space_lines m))

-- the text, and a line feed behind it
pub journal_text : (journal : List Item) (m : NodeMap) → compact_text (journal_value journal m) ++ 10 ∷ [] ≡ journal_json journal m
unfolding serde_json_on_literals
journal_text journal m =
    let lines : List (List ℕ) = space_lines m in
    let items : List ℕ = parted (map item_json journal) in
    let texts : List ℕ = parted (map quoted lines) in
    ap (λ (r : List ℕ). (codes "{\"journal\":[" ++ (r ++ (codes ",\"space\":[" ++ (items_text false (items_of (map string lines)) ++ codes "}")))) ++ codes "\n") (all_items item_value item_json item_text_is journal)
    ∙ ap (λ (r : List ℕ). (codes "{\"journal\":[" ++ ((items ++ codes "]") ++ (codes ",\"space\":[" ++ (r ++ codes "}")))) ++ codes "\n") (all_items string quoted (λ t. refl) lines)
    ∙ ap (λ (r : List ℕ). codes "{\"journal\":[" ++ r) (
    append_assoc (items ++ codes "]") (codes ",\"space\":[" ++ ((texts ++ codes "]") ++ codes "}")) (codes "\n")
    ∙ append_assoc items (codes "]") ((codes ",\"space\":[" ++ ((texts ++ codes "]") ++ codes "}")) ++ codes "\n"))
    ∙ ap (λ (r : List ℕ). codes "{\"journal\":[" ++ (items ++ (codes "],\"space\":[" ++ r))) (
    append_assoc (texts ++ codes "]") (codes "}") (codes "\n")
    ∙ append_assoc texts (codes "]") (codes "}\n"))
