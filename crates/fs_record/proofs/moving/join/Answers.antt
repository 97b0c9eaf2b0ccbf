use Rattle.std.proofs.Common.{◌≡◌, ◌∙◌, [], ◌∷◌, ◌++◌, true, List, ℕ, ap, sym, append_assoc}
use Rattle.std.specs.FinMap.{insert}
use Rattle.std.specs.Map.{keys_of}
use Rattle.std.specs.Vec.Iter.{into_iter_items}
use Rattle.fs_ident.specs.Maps.{map_of}
use Rattle.fs_ident.specs.Ordered.{Keyed}
use Rattle.fs_ident.proofs.Booleans.{second}
use Rattle.fs_record.specs.declared.record.Record.{Record}
use Rattle.fs_record.specs.Moving.{are_absent, are_distinct, with_records}
use Rattle.fs_record.specs.Records.{RecordMap}
use Rattle.fs_record.specs.Walk.{taken_back}
use Rattle.fs_record.proofs.Coming.{back_again, come_next}
use Rattle.fs_record.proofs.moving.join.Goals as goal

pub loop-entry-preserved : goal.loop-entry-preserved
loop-entry-preserved c =
    let m : RecordMap = map_of c.loop-entry.records in
    let e : List ℕ × Record = c.in-Some.entry in
    let es : Keyed Record = into_iter_items c.next.new.self in
    let items : into_iter_items c.loop-entry.entry-iterator ≡ e ∷ es = c.in-Some.ensures.steps.0 in
    let absent : are_absent m (e ∷ es) ≡ true = ap (are_absent m) (sym items) ∙ c.loop-entry.invariant.absent in
    let distinct : are_distinct (e ∷ es) ≡ true = ap are_distinct (sym items) ∙ c.loop-entry.invariant.distinct in
    let added = c.in-Ok.ensures.ok in
    record {
      same = ap (with_records es) added ∙ ap (λ (xs : Keyed Record). with_records xs m) (sym items) ∙ c.loop-entry.invariant.same;
      distinct = second _ _ distinct;
      absent = ap (λ (n : RecordMap). are_absent n es) added ∙ come_next m e es distinct absent;
      named = ap (λ (files : List (List ℕ)). files ++ keys_of es) c.in-Ok.ensures.noted
          ∙ append_assoc c.loop-entry.came.items (e.0 ∷ []) (keys_of es)
          ∙ ap (λ (xs : Keyed Record). c.loop-entry.came.items ++ keys_of xs) (sym items)
          ∙ c.loop-entry.invariant.named;
      back = ap (taken_back c.add_noted.new.came.items) added
          ∙ ap (λ (files : List (List ℕ)). taken_back files (insert m e.0 e.1)) c.in-Ok.ensures.noted
          ∙ back_again c.loop-entry.came.items m e es absent
          ∙ c.loop-entry.invariant.back;
    }
