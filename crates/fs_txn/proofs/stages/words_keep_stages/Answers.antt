use Rattle.fs_txn.proofs.Telling.{asks, decides, dones, drops, finds, owns, prepares, seeks, tells, voteds}
use Rattle.fs_txn.proofs.stages.words_keep_stages.Goals as goal

pub returns : goal.returns
returns c = record { ask = asks; own = owns; prepare = prepares; voted = voteds; seek = seeks; tell = tells; drop = drops; decide = decides; done = dones; found = finds }
