use Rattle.node_steps.proofs.Names.{Ok, Err, None, refl, ap, ◌∙◌, option_map, Result, ◌≡◌, ℕ, ℤ, Bool, List, Option, GroupHandle, Mask, TaskHandle, MtapiStatus, first, SchedulerTable, Becomes, asked_for, PoolNode, Lists, Live, PoolNodeSteps, state_of}
use Rattle.task_core.specs.Table.{AddsTask}
use Rattle.mtapi_values.specs.declared.handles.ObjectKind.TheVariants as kind
use Rattle.mtapi_machine.specs.declared.ops.Op.TheVariants as op
use Rattle.mtapi_machine.specs.declared.replies.Reply.TheVariants as reply
use Rattle.node_steps.proofs.RefusedSteps.{refused, task_told, task_past}
use Rattle.node_steps.specs.Refusals.{task_refusals}
use Rattle.node_steps.proofs.TaskSteps.{add_reply, start_steps}
use Rattle.node_steps.proofs.StartSteps.{may_join}
use Rattle.node_steps.proofs.Gives.{lands}
use Rattle.node_steps.proofs.node.PoolNode.task_start.Goals as goal

-- what was told of a start, with a copy of the arguments
started : (n : PoolNode) (l : Lists) (who job : ℕ) (args : List ℤ) (priority : ℕ) (cores : Mask) (detached : Bool) (group : Option GroupHandle) → Live n l
    → first (task_refusals (state_of n l) job args priority cores detached group) ≡ None → (b : SchedulerTable) (copy : List ℤ)
    (s r : Result TaskHandle MtapiStatus) → copy ≡ args → s ≡ r → Becomes n.scheduler b n.scheduler.actions b.tasks
    → AddsTask n.scheduler.tasks (asked_for job copy priority cores detached group) s b.tasks
    → PoolNodeSteps n l who (op.TaskStart job args priority cores detached group) (add_reply r) (record n { scheduler = b })
started n l who job args priority cores detached group v none b copy s r same is new adds =
    let past = task_past n l who job args priority cores detached group none in
    lands n l who _ _ b _ b.tasks new
    (start_steps n l who job args priority cores detached group v past.0 b.tasks r past.1 past.2 (rw (same, is) at adds))

pub returns-in-Some : goal.returns-in-Some
returns-in-Some c l who v =
    refused c.args.self.now l who (op.TaskStart c.args.job c.args.args.now c.args.priority c.args.cores c.args.detached c.args.group) kind.Task c.in-Some.status
    v refl tt
    (task_told c.args.self.now l who c.args.job c.args.args.now c.args.priority c.args.cores c.args.detached c.args.group
    ∙ ap (option_map reply.Mtapi) (c.task_refusal.ensures.first l c.args.args.now v ∙ c.in-Some.is))

pub returns-in-Ok : goal.returns-in-Ok
returns-in-Ok c l who v =
    started c.args.self.now l who c.args.job c.args.args.now c.args.priority c.args.cores c.args.detached c.args.group v
    (c.task_refusal.ensures.first l c.args.args.now v ∙ c.in_default.is) c.add.new.self _ _ (Ok c.in-Ok.task) c.again.ensures c.in-Ok.is c.add.ensures.new
    c.add.ensures.adds

pub returns-in-Err : goal.returns-in-Err
returns-in-Err c l who v =
    started c.args.self.now l who c.args.job c.args.args.now c.args.priority c.args.cores c.args.detached c.args.group v
    (c.task_refusal.ensures.first l c.args.args.now v ∙ c.in_default.is) c.add.new.self _ _ (Err c.in-Err.status) c.again.ensures c.in-Err.is
    c.add.ensures.new c.add.ensures.adds

pub add-requires-clause-member : goal.add-requires-clause-member
add-requires-clause-member c = may_join c.args.self.now _ c.args.detached c.args.group c.in_default.ensures.right c.in_default.ensures.group
