use Rattle.std.proofs.lemmas.Result.{IfOk-weaker}
use Rattle.fs_server.proofs.Shipping.{admit_can}
use Rattle.fs_server.proofs.ships.ship.Goals as goal

pub returns-clause-can : goal.returns-clause-can
returns-clause-can c = IfOk-weaker c.told.result _ _ (λ d e. admit_can d c.in_ok-taken.taken.effects c.args.at.now c.in_ok-taken.ensures.undoable c.requires e) c.told.ensures.change
