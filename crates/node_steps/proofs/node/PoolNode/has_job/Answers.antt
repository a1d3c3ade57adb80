use Rattle.node_steps.proofs.ActionSteps.{covers_none, covers_some, some_cover}
use Rattle.node_steps.proofs.node.PoolNode.has_job.Goals as goal

pub returns-in-NoAction : goal.returns-in-NoAction
returns-in-NoAction c l v = covers_none _ _ c.args.self.now.scheduler.actions l.actions c.args.job v.actions (rw c.in-NoAction.is at c.cover.ensures)

pub returns-in-AllDisabled : goal.returns-in-AllDisabled
returns-in-AllDisabled c l v = covers_some _ _ c.args.self.now.scheduler.actions l.actions c.args.job c.cover.result v.actions c.cover.ensures
    (some_cover c.cover.result c.in-AllDisabled.is)
