use Rattle.node_steps.proofs.Names.{◌≡◌, ℕ, Bool, Ok, Err, None, Result, refl, ap, ◌∙◌, QueueAttributes, QueueHandle, MtapiStatus, first, SchedulerTable, BecomesWith, new_queue, option_map, PoolNode, Lists, Live, PoolNodeSteps, state_of}
use Rattle.queue_core.specs.Held.{CreatesQueue}
use Rattle.queue_core.specs.Held as HeldNew
use Rattle.node_steps.proofs.Gives.{lands_with}
use Rattle.mtapi_values.specs.declared.handles.ObjectKind.TheVariants as kind
use Rattle.mtapi_machine.specs.declared.ops.Op.TheVariants as op
use Rattle.mtapi_machine.specs.declared.replies.Reply.TheVariants as reply
use Rattle.node_steps.specs.Refusals.{queue_causes}
use Rattle.node_steps.proofs.QueueSteps.{handle_reply, create_steps}
use Rattle.node_steps.proofs.RefusedSteps.{refused, queue_told, id_met, queue_past}
use Rattle.node_steps.proofs.node.PoolNode.queue_create.Goals as goal

-- what was told of a create
created : (n : PoolNode) (l : Lists) (who id job priority limit : ℕ) (ordered retain : Bool) → Live n l
    → first (queue_causes (state_of n l) job priority limit) ≡ None → (a : QueueAttributes) → a.priority ≡ priority → a.limit ≡ limit → a.ordered ≡ ordered
    → a.retain ≡ retain → (b : SchedulerTable) (s r : Result QueueHandle MtapiStatus) → s ≡ r → BecomesWith n.scheduler b b.queues.pool
    → CreatesQueue n.scheduler.queues (HeldNew.new_queue_of id job a) s b.queues
    → PoolNodeSteps n l who (op.QueueCreate id job priority limit ordered retain) (handle_reply r) (record n { scheduler = b })
created n l who id job priority limit ordered retain v none a p m o t b s r is new creates =
    let past = queue_past n l who job priority limit none in
    lands_with n l who _ _ b _ new
    (create_steps n l who id job priority limit ordered retain v past.0 past.1 past.2 b.queues _ r (λ i. new_queue id job (p i) (m i) (o i) (t i))
    (rw is at creates))

pub returns-in-Ok : goal.returns-in-Ok
returns-in-Ok c l who v =
    let a = c.attributes-attr.ensures in
    created c.args.self.now l who c.args.id c.args.job c.args.priority c.args.limit c.args.ordered c.args.retain v (c.queue_cause.ensures.first l v
    ∙ c.in_default.is) c.attributes-attr.result a.priority a.limit a.ordered a.retain c.create_queue.new.self _
    (Ok c.in-Ok.queue) c.in-Ok.is c.create_queue.ensures.new
    c.create_queue.ensures.creates

pub returns-in-Err : goal.returns-in-Err
returns-in-Err c l who v =
    let a = c.attributes-attr.ensures in
    created c.args.self.now l who c.args.id c.args.job c.args.priority c.args.limit c.args.ordered c.args.retain v (c.queue_cause.ensures.first l v
    ∙ c.in_default.is) c.attributes-attr.result a.priority a.limit a.ordered a.retain c.create_queue.new.self _
    (Err c.in-Err.status) c.in-Err.is c.create_queue.ensures.new
    c.create_queue.ensures.creates

pub returns-in-Some : goal.returns-in-Some
returns-in-Some c l who v =
    let n = c.args.self.now in
    refused n l who (op.QueueCreate c.args.id c.args.job c.args.priority c.args.limit c.args.ordered c.args.retain) kind.Queue c.in-Some.status v refl tt
    (queue_told n l who c.args.id c.args.job c.args.priority c.args.limit c.args.ordered c.args.retain
    ∙ ap (option_map reply.Mtapi) (id_met n l who v c.args.id c.args.job c.args.priority c.args.limit c.in-Some.status (c.queue_cause.ensures.first l v
    ∙ c.in-Some.is)))
