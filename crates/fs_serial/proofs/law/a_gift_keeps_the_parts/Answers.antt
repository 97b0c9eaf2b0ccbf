use Rattle.fs_serial.proofs.Grants.Gift.{gift_is_relied, gift_is_told, gift_keeps_parts, gift_returns_none}
use Rattle.fs_serial.proofs.law.a_gift_keeps_the_parts.Goals as goal

pub returns-clause-parts : goal.returns-clause-parts
returns-clause-parts c = gift_keeps_parts

pub returns-clause-relied : goal.returns-clause-relied
returns-clause-relied c = gift_is_relied

pub returns-clause-returned : goal.returns-clause-returned
returns-clause-returned c = gift_returns_none

pub returns-clause-told : goal.returns-clause-told
returns-clause-told c = gift_is_told
