use Rattle.node_steps.proofs.Names.{w64, to_z-of_z}
use Rattle.node_steps.proofs.node.PoolNode.tally_write.Goals as goal

pub returns-in-Ok : goal.returns-in-Ok
returns-in-Ok c l v sound = rw (← to_z-of_z w64 c.args.value c.ranges.value) (c.write_cell.ensures l v sound)
