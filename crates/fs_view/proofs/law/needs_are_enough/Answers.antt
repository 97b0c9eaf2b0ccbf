use Rattle.fs_view.specs.Script.{script_of}
use Rattle.fs_view.proofs.Walks.{alike}
use Rattle.fs_view.proofs.law.needs_are_enough.Goals as goal

pub returns : goal.returns
returns c = λ known other given others o. alike known other given others (script_of o)
