use Rattle.std.proofs.Common.{◌<◌, ℕ, arith}
use Rattle.std.proofs.lemmas.List.Elements.{All-nil}
use Rattle.fs_ident.proofs.Writes.{nothing_written}
use Rattle.fs_ident.proofs.bit_writer.BitWriter.new.Goals as goal

pub returns-clause-none : goal.returns-clause-none
returns-clause-none c = nothing_written _

pub returns-clause-ready : goal.returns-clause-ready
returns-clause-ready c = record { each = All-nil (λ (b : ℕ). b < 256); few = omega arith; low = omega arith; fits = omega arith }
