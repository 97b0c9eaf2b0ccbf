use Rattle.fs_txn.proofs.HomeTold.{others_are_decided}
use Rattle.fs_txn.proofs.Parted.{own_parts_apart, part_files}
use Rattle.fs_txn.proofs.law.parts_are_told_apart.Goals as goal

pub returns : goal.returns
returns c = record { files = part_files; apart = own_parts_apart; decided = others_are_decided }
