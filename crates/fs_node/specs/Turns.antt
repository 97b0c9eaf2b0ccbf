-- What a call of a turn leaves, and what it tells of it.
use Rattle.std.specs.Prelude.{◌≡◌, None}
use Rattle.fs_turns.specs.Run.{Stepped}
use Rattle.fs_turns.specs.declared.actor.Turn.{Turn}

-- what is there is what the turn leaves, with what is due and the lines
pub record TookTurn {X : Type 0} (y : Stepped X) (now : X) (t : Turn) : Type 0 where
  pub now_then : now ≡ y.after
  pub due : t.due ≡ y.due
  pub lines : t.lines.items ≡ y.lines
  pub unspent : y.spent ≡ None
