use Rattle.std.proofs.Common.{sym, subst}
use Rattle.std.specs.Fmt.{HasWritten}
use Rattle.farsite.specs.declared.status.Status.{Status}
use Rattle.farsite.specs.Status.{status_text}
use Rattle.farsite.proofs.status.StatusDisplay.fmt.Goals as goal

pub returns-in-Skewed-clause-writes : goal.returns-in-Skewed-clause-writes
returns-in-Skewed-clause-writes g c = λ plain ok.
    subst (λ (s : Status). HasWritten {W = g.row.W.Denot} g.W.Write.write_str_gives c.args.f.now (status_text s) c.write-in-Skewed.new.self) (sym c.in-Skewed.is) (c.write-in-Skewed.ensures.writes plain ok)
