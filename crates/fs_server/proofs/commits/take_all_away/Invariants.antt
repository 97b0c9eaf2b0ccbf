use Rattle.std.proofs.Common.{◌≡◌, true, drop}
use Rattle.std.specs.List.{list_all}
use Rattle.fs_record.specs.Applied.{records_after_all, takes_away}
use Rattle.fs_server.proofs.commits.take_all_away.Given as goal

abbrev pub invariant-loop-e : goal.invariant-loop-e
invariant-loop-e l = record {
  records : records_after_all l.records (drop l.e-index l.removals) ≡ records_after_all l.initial.records l.removals;
  away : list_all takes_away (drop l.e-index l.removals) ≡ true;
}
