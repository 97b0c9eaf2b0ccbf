use Rattle.fs_record.proofs.NodeMaps.{node_there, nodes_alike}
use Rattle.fs_record.proofs.law.nodes_change_alike.Goals as goal

pub returns-clause-node : goal.returns-clause-node
returns-clause-node c = node_there

pub returns-clause-effect : goal.returns-clause-effect
returns-clause-effect c = nodes_alike
