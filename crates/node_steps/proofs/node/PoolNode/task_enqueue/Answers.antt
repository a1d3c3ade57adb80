use Rattle.std.proofs.Common.{Ok, Err, refl}
use Rattle.mtapi_values.specs.declared.handles.ObjectKind.TheVariants as kind
use Rattle.mtapi_machine.specs.declared.ops.Op.TheVariants as op
use Rattle.node_steps.proofs.QueueSteps.{enqueue_told}
use Rattle.node_steps.proofs.RefusedSteps.{refused}
use Rattle.node_steps.proofs.node.PoolNode.task_enqueue.Goals as goal

pub returns-in-Err : goal.returns-in-Err
returns-in-Err c l who v =
    refused c.args.self.now l who (op.TaskEnqueue c.args.queue c.args.args.now c.args.cores c.args.detached c.args.group) kind.Task c.in-Err.status v refl tt
    (c.in-Err.ensures.refused l who c.args.args.now v)

pub returns-in-Ok-enqueue : goal.returns-in-Ok-enqueue
returns-in-Ok-enqueue c l who v =
    enqueue_told c.args.self.now l who c.args.queue c.args.args.now c.args.cores c.args.detached c.args.group v c.is_kept.ensures c.in-Ok.facts
    c.in-Ok.ensures.may c.enqueue.new.self _ _ (Ok c.in-Ok-enqueue.task) c.again.ensures c.in-Ok-enqueue.is c.enqueue.ensures.new c.enqueue.ensures.adds

pub returns-in-Err-enqueue : goal.returns-in-Err-enqueue
returns-in-Err-enqueue c l who v =
    enqueue_told c.args.self.now l who c.args.queue c.args.args.now c.args.cores c.args.detached c.args.group v c.is_kept.ensures c.in-Ok.facts
    c.in-Ok.ensures.may c.enqueue.new.self _ _ (Err c.in-Err-enqueue.status) c.again.ensures c.in-Err-enqueue.is c.enqueue.ensures.new c.enqueue.ensures.adds
