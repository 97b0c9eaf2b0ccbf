use Rattle.std.proofs.Common.{inl, inr, []}
use Rattle.std.specs.Prelude.{nat_eq}
use Rattle.std.specs.Bool.{beq}
use Rattle.fs_ident.proofs.Standing.{In-append}
use Rattle.fs_map.specs.Map.{after_take}
use Rattle.fs_map.specs.Lists.{places_of}
use Rattle.fs_map.proofs.Changing.{is_mine}
use Rattle.fs_map.proofs.Turns.{turns_In}
use Rattle.fs_map.proofs.law.changes_list_nothing_new.Goals as goal

pub returns-clause-taken : goal.returns-clause-taken
returns-clause-taken c owners me prefix place given i = elim i [
  | inl top ↦ inl top
  | inr j ↦ inr (In-append place (places_of owners) (places_of given) (turns_In nat_eq (after_take owners me prefix given) [] _ place j))
]

pub returns-clause-given : goal.returns-clause-given
returns-clause-given c owners me prefix place i = elim i [
  | inl top ↦ inl top
  | inr j ↦ inr (turns_In beq (is_mine owners me) prefix _ place j)
]
