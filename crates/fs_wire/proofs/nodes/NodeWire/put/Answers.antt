use Rattle.std.proofs.Common.{rules}
use Rattle.fs_wire.proofs.Readable.{always_pair, always_pairs}
use Rattle.fs_wire.proofs.nodes.NodeWire.put.Goals as goal

pub returns-clause-fits : goal.returns-clause-fits
returns-clause-fits c = let parent = always_pair c.args.self.now.parent in let children = always_pairs c.args.self.now.children in search rules
