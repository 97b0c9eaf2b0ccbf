use Rattle.std.proofs.Common.{◌≡◌, ℕ, ◌≤◌, ◌++◌, length, map, take, drop}
use Rattle.fs_window.specs.Post.{link_sent}
use Rattle.fs_window.specs.Touched.{IsSettled, RestIs}
use Rattle.fs_window.proofs.touched.mark_places.Given as goal

-- up to a place each is marked
abbrev pub invariant-loop-place : goal.invariant-loop-place
invariant-loop-place l =
    (from : ℕ) × ((from ≤ length l.fn.links) × RestIs IsSettled from (drop l.place-index l.places) l.fn.links
    × (l.links ≡ map (λ e. (e.0, link_sent e.1)) (take from l.fn.links) ++ drop from l.fn.links))
