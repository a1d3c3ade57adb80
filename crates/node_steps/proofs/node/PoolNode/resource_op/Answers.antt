use Rattle.node_steps.proofs.Names.{◌∙◌, renamed_op}
use Rattle.node_steps.proofs.ResourceSteps.{carries, stays}
use Rattle.node_steps.proofs.node.PoolNode.resource_op.Goals as goal

pub returns : goal.returns
returns g c l v =
    let names = g.R.Rename.renaming c.args.names.now in
    carries c.args.self.now l c.args.who (renamed_op names c.args.op.now) c.execute.result c.gate-gate.result c.execute.new.self v (stays names c.args.op.now
    ∙ c.requires.resource) c.gate-gate.ensures.phase c.gate-gate.ensures.workers c.execute.ensures
