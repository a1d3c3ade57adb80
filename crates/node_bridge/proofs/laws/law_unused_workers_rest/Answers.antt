use Rattle.node_bridge.proofs.Unused.{unused_workers_rest}
use Rattle.node_bridge.proofs.laws.law_unused_workers_rest.Goals as goal

pub returns : goal.returns
returns c = unused_workers_rest
