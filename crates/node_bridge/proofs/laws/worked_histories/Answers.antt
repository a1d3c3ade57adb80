use Rattle.node_bridge.proofs.Names.{rules, begun_start, all_bridge}
use Rattle.node_bridge.proofs.Worked.{worked_histories}
use Rattle.node_bridge.proofs.laws.worked_histories.Goals as goal

pub returns-clause-histories : goal.returns-clause-histories
returns-clause-histories c = worked_histories

pub returns-clause-images : goal.returns-clause-images
unfolding begun_start all_bridge
returns-clause-images c = search rules
