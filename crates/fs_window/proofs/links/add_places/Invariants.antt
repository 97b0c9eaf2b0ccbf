use Rattle.std.proofs.Common.{◌≡◌, ℕ, ◌≤◌, [], ◌++◌, length, flat_map, drop}
use Rattle.fs_window.specs.Post.{sent_on}
use Rattle.fs_window.specs.Touched.{RestIs}
use Rattle.fs_window.proofs.links.add_places.Given as goal

-- from a place on what was added, and then what is left, are all of them
abbrev pub invariant-loop-place : goal.invariant-loop-place
invariant-loop-place l =
    (from : ℕ) × ((from ≤ length l.links) × RestIs (λ e. sent_on l.me l.turn l.heard e ≡ []) from (drop l.place-index l.places) l.links
    × (l.sent ++ flat_map (sent_on l.me l.turn l.heard) (drop from l.links) ≡ l.fn.sent ++ flat_map (sent_on l.me l.turn l.heard) l.links))
