use Rattle.std.proofs.Common.{List, ℕ, subst, sym, inl, inr}
use Rattle.fs_ident.specs.In.{In}
use Rattle.fs_map.proofs.Merging.{empty}
use Rattle.fs_record.specs.Records.{IsRecord}
use Rattle.fs_record.specs.declared.record.Record.{Record}
use Rattle.tests_tables.proofs.parcel.are_records.Goals as goal

pub loop-first-preserved : goal.loop-first-preserved
loop-first-preserved c = λ later. c.loop-first.invariant (λ e i. elim (subst (In e) c.in-Some.ensures.cases.0 i) [
  | inl p ↦ subst (λ (x : List ℕ × Record). IsRecord x.1) (sym p) (c.is_record.ensures c.if-not-is_record.false)
  | inr j ↦ later e j
])

pub returns : goal.returns
returns c = λ _. c.loop-first.invariant (λ e i. absurd (subst (In e) (empty _ c.in_default.ensures.cases) i))
