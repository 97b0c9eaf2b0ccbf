use Rattle.fs_ident.proofs.Codes.{log2_low}
use Rattle.fs_ident.proofs.Packs.{bits_of-packed, none_begins, one_spelling}
use Rattle.fs_ident.proofs.law.packed_identifiers.Goals as goal

pub returns-clause-log : goal.returns-clause-log
returns-clause-log c = λ n number. ((log2_low n number).0, (log2_low n number).1)

pub returns-clause-bits : goal.returns-clause-bits
returns-clause-bits c = λ id. bits_of-packed id

pub returns-clause-prefix : goal.returns-clause-prefix
returns-clause-prefix c = λ a b rest va vb e. none_begins a b rest va vb e

pub returns-clause-one : goal.returns-clause-one
returns-clause-one c = λ a b x y va vb e. one_spelling a b x y va vb e
