use Rattle.std.proofs.Common.{◌≡◌, ◌++◌, flat_map, drop}
use Rattle.fs_window.specs.Post.{sent_on}
use Rattle.fs_window.proofs.links.add_each.Given as goal

-- what was added, and then what is left, are all of them
abbrev pub invariant-loop-entry : goal.invariant-loop-entry
invariant-loop-entry l = l.sent ++ flat_map (sent_on l.me l.turn l.heard) (drop l.entry-index l.links) ≡ l.fn.sent ++ flat_map (sent_on l.me l.turn l.heard) l.links
