use Rattle.std.proofs.Common.{◌≡◌, ap, ◌∙◌, arith}
use Rattle.std.specs.FinMap.{get, get-empty}
use Rattle.std.specs.Ordering.{nat_cmp}
use Rattle.std.specs.Cmp.Lexicographic.{slice_cmp}
use Rattle.fs_record.specs.Records.{RecordMap, next_of}
use Rattle.fs_record.specs.declared.record.Record.{Record}
use Rattle.fs_record.proofs.records.Records.new.Goals as goal

pub put-requires-clause-next : goal.put-requires-clause-next
put-requires-clause-next c =
    let none : next_of (get c.empty-records.result c.root.result) ≡ 1 = ap (λ (m : RecordMap). next_of (get m c.root.result)) c.empty-records.ensures ∙ ap next_of (get-empty (slice_cmp nat_cmp) c.root.result) in
    let one : c.root-then-first.result.next ≡ 1 = ap (λ (r : Record). r.next) c.root-then-first.ensures in
    omega arith
