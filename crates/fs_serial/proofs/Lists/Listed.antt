-- What a changed map lists was made, where what was listed was.
use Rattle.std.proofs.Common.{ℕ, Bool, List, [], refl, sym, subst, inl, inr}
use Rattle.std.specs.Prelude.{nat_eq}
use Rattle.std.specs.Bool.{beq}
use Rattle.fs_ident.specs.In.{In}
use Rattle.fs_ident.specs.Ordered.{Keyed}
use Rattle.fs_ident.proofs.Standing.{In-append}
use Rattle.fs_map.specs.Lists.{map_after_take, piece_of, places_of}
use Rattle.fs_map.specs.Map.{Owners, after_take}
use Rattle.fs_map.proofs.Changing.{is_mine}
use Rattle.fs_map.proofs.Turns.{turns_In}
use Rattle.fs_msg.specs.declared.item.Item.{Item}
use Rattle.fs_serial.specs.Fresh.{IsMade}

-- each place that is listed was made
abbrev pub AreMade : {V : Type 0} → List Item → Keyed V → Type 0
AreMade journal listed = (place : List ℕ) → In place (places_of listed) → IsMade journal place

root_made : (journal : List Item) → IsMade journal []
root_made journal = refl

pub map_made : (journal : List Item) (owners : Owners) (me : ℕ) (prefix : List ℕ) (given : Keyed Bool) → AreMade journal owners → AreMade journal given → AreMade journal (map_after_take owners me prefix given)
map_made journal owners me prefix given h k place i = elim i as (λ _. IsMade journal place) [
  | inl e ↦ subst (IsMade journal) (sym e) (root_made journal)
  | inr j ↦ elim (In-append place (places_of owners) (places_of given) (turns_In nat_eq (after_take owners me prefix given) [] _ place j)) as (λ _. IsMade journal place) [
    | inl l ↦ h place l
    | inr l ↦ k place l
  ]
]

pub piece_made : (journal : List Item) (owners : Owners) (me : ℕ) (prefix : List ℕ) → IsMade journal prefix → AreMade journal owners → AreMade journal (piece_of owners me prefix)
piece_made journal owners me prefix own h place i = elim i as (λ _. IsMade journal place) [
  | inl e ↦ subst (IsMade journal) (sym e) own
  | inr j ↦ h place (turns_In beq (is_mine owners me) prefix _ place j)
]
