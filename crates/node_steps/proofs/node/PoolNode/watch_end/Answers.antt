use Rattle.node_steps.proofs.Names.{sym, ◌∙◌, refl, arith, slot_value}
use Rattle.node_steps.proofs.WorkSteps.{watch_failed, watch_ended}
use Rattle.node_steps.proofs.Gives.{lands}
use Rattle.node_steps.proofs.node.PoolNode.watch_end.Goals as goal

pub returns-in-Ok : goal.returns-in-Ok
returns-in-Ok c l v = rw c.again-answer.ensures
    (lands c.args.self.now l c.args.who _ _ c.end_with.new.self _ _ c.end_with.ensures
    (watch_ended c.args.self.now l c.args.who c.args.task v (omega arith) c.in-Ok.end _ (slot_value c.args.self.now.scheduler.tasks.pool c.args.task.0) refl
    (sym c.watch_end.ensures ∙ c.in-Ok.is) refl))

pub returns-in-Err : goal.returns-in-Err
returns-in-Err c l v = watch_failed c.args.self.now l c.args.who c.args.task v (omega arith) c.in-Err.status
    (slot_value c.args.self.now.scheduler.tasks.pool c.args.task.0) refl (sym c.watch_end.ensures ∙ c.in-Err.is)
