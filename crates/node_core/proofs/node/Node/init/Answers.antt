use Rattle.node_core.proofs.NodeLemmas.{new_node}
use Rattle.node_core.proofs.node.Node.init.Goals as goal

pub returns-clause-stands : goal.returns-clause-stands
returns-clause-stands c = new_node _ c.in_ok-inner.ensures.stands
