use Rattle.std.proofs.Common.{sym, ◌∙◌}
use Rattle.fs_moderows.proofs.FoundOnce.{tells_no_mode, tells_none_told}
use Rattle.fs_moderows.proofs.fixed.resting.Goals.{else-has_mode-via-then-has_mode+else-is_told, else-has_mode-via-else-has_mode}
use Rattle.fs_moderows.proofs.fixed.resting.Goals as goal

pub returns-else-has_mode : goal.returns-else-has_mode
returns-else-has_mode c = elim c.else-has_mode.branch [
  | else-has_mode-via-then-has_mode+else-is_told w ↦ tells_none_told _ _ _ _ _ (sym w.is_told.ensures ∙ w.if-is_told.false)
  | else-has_mode-via-else-has_mode w ↦ tells_no_mode _ _ _ _ _ (sym c.has_mode.ensures ∙ w.if-has_mode.false)
]
