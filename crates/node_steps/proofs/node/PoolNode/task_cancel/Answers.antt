use Rattle.std.proofs.Common.{Some, refl, sym, ap, ◌∙◌}
use Rattle.node_steps.proofs.TaskSteps.{cancel_scheduled, cancel_running}
use Rattle.node_steps.proofs.Gives.{lands}
use Rattle.node_steps.proofs.node.PoolNode.task_cancel.Goals as goal

pub returns-in-Some-Scheduled : goal.returns-in-Some-Scheduled
returns-in-Some-Scheduled c l who v =
    lands c.args.self.now l who _ _ c.end_with.new.self _ _ c.end_with.ensures
    (cancel_scheduled c.args.self.now l who c.args.task _ v (sym c.if-not-is_up.ensures)
    (ap Some (sym c.in-Some-Scheduled.field-0-is) ∙ (sym c.in-Some-Scheduled.is ∙ c.state.ensures)) refl)

pub returns-in-Some-Running : goal.returns-in-Some-Running
returns-in-Some-Running c l who v =
    lands c.args.self.now l who _ _ c.request.new.self _ _ c.request.ensures
    (cancel_running c.args.self.now l who c.args.task _ _ _ v (sym c.if-not-is_up.ensures)
    (ap Some (sym c.in-Some-Running.field-0-is) ∙ (sym c.in-Some-Running.is ∙ c.state.ensures)) refl)
