use Rattle.std.proofs.Common.{◌≡◌, ◌++◌, true, take, flat_map}
use Rattle.std.specs.List.{AllByRecursion, list_all}
use Rattle.fs_ident.specs.Ident.{IsId}
use Rattle.fs_wire.specs.Spelling.{pair, identifier}
use Rattle.fs_wire.specs.Ranges.{FitsPair}
use Rattle.fs_msg.specs.Spelling.{file_record}
use Rattle.fs_msg.specs.Ranges.{FitsRecord}
use Rattle.fs_msg.specs.Readable.{is_readable_record}
use Rattle.fs_msg.proofs.bytes.record.put_each_record.Given as goal

abbrev pub invariant-loop-filed : goal.invariant-loop-filed
invariant-loop-filed l = record {
  text : l.out.items ≡ l.initial.out.items ++ flat_map (pair identifier file_record) (take l.filed-index l.records);
  fits : list_all (λ e. is_readable_record e.1) (take l.filed-index l.records) ≡ true → AllByRecursion (FitsPair IsId FitsRecord) (take l.filed-index l.records);
}
