use Rattle.std.proofs.Common.{◌≡◌, ◌∙◌, ℕ, ◌+◌, ◌≤◌, ◌++◌, ◌∷◌, suc, ap, sym, subst, drop, length, vec_len, vec_capacity, arith}
use Rattle.fs_ident.specs.Maps.{map_of}
use Rattle.fs_map.proofs.Changing.{next_item}
use Rattle.fs_record.specs.Moving.{records_without}
use Rattle.fs_record.specs.Walk.{taken_out}
use Rattle.fs_record.proofs.TakenOut.{taken_next}
use Rattle.fs_record.proofs.moving.take_out.Goals as goal

still_room : (was now left room more : ℕ) → now ≤ was + 1 → was + suc left ≤ room → room ≤ more → now + left ≤ more
still_room was now left room more n r m = omega arith

pub loop-file-preserved : goal.loop-file-preserved
loop-file-preserved c =
    let files = c.args.files.now in
    let file = c.file-item.result in
    let m = map_of c.loop-file.records in
    let next : drop c.loop-file.file-index files ≡ file ∷ drop (c.loop-file.file-index + 1) files = next_item files c.loop-file.file-index file c.loop-file-test.true c.file-item.is in
    record {
      moved = ap (λ n. c.take_one.new.moved.items ++ taken_out (drop (c.loop-file.file-index + 1) files) n) c.take_one.ensures.left
          ∙ taken_next c.loop-file.moved.items c.take_one.new.moved.items file (drop (c.loop-file.file-index + 1) files) m c.take_one.ensures.moved
          ∙ ap (λ fs. c.loop-file.moved.items ++ taken_out fs m) (sym next)
          ∙ c.loop-file.invariant.moved;
      left = ap (records_without (drop (c.loop-file.file-index + 1) files)) c.take_one.ensures.left
          ∙ ap (λ fs. records_without fs m) (sym next)
          ∙ c.loop-file.invariant.left;
      room = still_room _ _ _ _ _ c.take_one.ensures.len (subst (λ fs. vec_len c.loop-file.moved + length fs ≤ vec_capacity c.loop-file.moved) next c.loop-file.invariant.room) c.take_one.ensures.room;
    }
