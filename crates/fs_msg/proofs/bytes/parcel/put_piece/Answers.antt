use Rattle.std.proofs.Common.{refl}
use Rattle.std.proofs.lemmas.Result.{on_ok_weaker}
use Rattle.fs_wire.proofs.Readable.{always_pairs}
use Rattle.fs_msg.proofs.bytes.parcel.put_piece.Goals as goal

pub returns-clause-fits : goal.returns-clause-fits
returns-clause-fits c = on_ok_weaker c.put-2.result (λ fits. record { prefix = c.in_ok-put.ensures.fits refl; given = fits (always_pairs c.args.p.now.given) }) c.put-2.ensures.fits
