use Rattle.std.proofs.Common.{◌≡◌, ◌≤◌, ◌++◌, length, take, drop}
use Rattle.fs_frag.specs.Joined.{answers, held_by, joined_of}
use Rattle.fs_frag.proofs.joiner.join_all.Given as goal

-- what was told, and then what the bytes that wait and the segments that are left give, is what all give
abbrev pub invariant-loop-segment : goal.invariant-loop-segment
invariant-loop-segment l = record {
  within : l.start ≤ length l.held.items;
  longer : length l.fn.held.items ≤ length l.held.items;
  front : take (length l.fn.held.items) l.held.items ≡ l.fn.held.items;
  told : l.joined ++ joined_of (answers (drop l.start l.held.items) (drop l.segment-index l.segments)) ≡ joined_of (answers l.fn.held.items l.segments);
  waiting : held_by (drop l.start l.held.items) (drop l.segment-index l.segments) ≡ held_by l.fn.held.items l.segments;
}
