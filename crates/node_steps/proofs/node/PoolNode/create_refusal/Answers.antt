use Rattle.node_steps.proofs.Names.{sym, ap, ◌∙◌, option_map, mutexes, sems, rwls, segments, makes, Mutexes, Sems, Rwls, Segments, new_mutex, new_sem, new_rwl, new_segment, state_of}
use Rattle.mtapi_machine.specs.declared.replies.Reply.TheVariants as reply
use Rattle.node_resources.specs.Refusals.{mutex_refusals, sem_refusals, rwl_refusals, shmem_refusals}
use Rattle.node_steps.proofs.RefusedSteps.{action_told, group_told, task_told, queue_told, makes_told}
use Rattle.node_steps.proofs.node.PoolNode.create_refusal.Goals as goal

pub returns-in-ActionCreate : goal.returns-in-ActionCreate
returns-in-ActionCreate c l v =
    rw c.in-ActionCreate.is
    (action_told c.args.self.now l c.args.who c.in-ActionCreate.job c.in-ActionCreate.kind c.in-ActionCreate.cores
    ∙ ap (option_map reply.Mtapi) (sym c.action_refusal.ensures)
    ∙ c.mtapi.ensures)

pub returns-in-TaskStart : goal.returns-in-TaskStart
returns-in-TaskStart c l v =
    rw c.in-TaskStart.is
    (task_told c.args.self.now l c.args.who c.in-TaskStart.job c.in-TaskStart.args c.in-TaskStart.priority c.in-TaskStart.cores c.in-TaskStart.detached
    c.in-TaskStart.group
    ∙ ap (option_map reply.Mtapi) (c.task_refusal.ensures.first l c.in-TaskStart.args v)
    ∙ c.mtapi-in-TaskStart.ensures)

pub returns-in-TaskEnqueue : goal.returns-in-TaskEnqueue
returns-in-TaskEnqueue c l v =
    rw c.in-TaskEnqueue.is
    (c.enqueue_refusal.ensures l c.args.who c.in-TaskEnqueue.args v
    ∙ c.mtapi-in-TaskEnqueue.ensures)

pub returns-in-GroupCreate : goal.returns-in-GroupCreate
returns-in-GroupCreate c l v =
    rw c.in-GroupCreate.is
    (group_told c.args.self.now l c.args.who
    ∙ ap (option_map reply.Mtapi) (sym c.group_refusal.ensures)
    ∙ c.mtapi-in-GroupCreate.ensures)

pub returns-in-QueueCreate : goal.returns-in-QueueCreate
returns-in-QueueCreate c l v =
    rw c.in-QueueCreate.is
    (queue_told c.args.self.now l c.args.who c.in-QueueCreate.id c.in-QueueCreate.job c.in-QueueCreate.priority c.in-QueueCreate.limit c.in-QueueCreate.ordered
    c.in-QueueCreate.retain
    ∙ ap (option_map reply.Mtapi) (c.queue_refusal.ensures l v)
    ∙ c.mtapi-in-QueueCreate.ensures)

pub returns-in-MutexCreate : goal.returns-in-MutexCreate
returns-in-MutexCreate c l v =
    rw c.in-MutexCreate.is
    (makes_told c.args.self.now l c.args.who mutexes (mutex_refusals (state_of c.args.self.now l) c.args.who c.in-MutexCreate.id)
    (λ h. makes Mutexes h (new_mutex c.in-MutexCreate.id c.in-MutexCreate.recursive))
    ∙ ap (option_map reply.Mrapi) (c.mutex_refusal.ensures l v)
    ∙ c.mrapi.ensures)

pub returns-in-SemCreate : goal.returns-in-SemCreate
returns-in-SemCreate c l v =
    rw c.in-SemCreate.is
    (makes_told c.args.self.now l c.args.who sems (sem_refusals (state_of c.args.self.now l) c.args.who c.in-SemCreate.id c.in-SemCreate.limit)
    (λ h. makes Sems h (new_sem c.in-SemCreate.id c.in-SemCreate.limit))
    ∙ ap (option_map reply.Mrapi) (c.sem_refusal.ensures l v)
    ∙ c.mrapi-in-SemCreate.ensures)

pub returns-in-RwlCreate : goal.returns-in-RwlCreate
returns-in-RwlCreate c l v =
    rw c.in-RwlCreate.is
    (makes_told c.args.self.now l c.args.who rwls (rwl_refusals (state_of c.args.self.now l) c.args.who c.in-RwlCreate.id c.in-RwlCreate.limit)
    (λ h. makes Rwls h (new_rwl c.in-RwlCreate.id c.in-RwlCreate.limit))
    ∙ ap (option_map reply.Mrapi) (c.rwl_refusal.ensures l v)
    ∙ c.mrapi-in-RwlCreate.ensures)

pub returns-in-ShmemCreate : goal.returns-in-ShmemCreate
returns-in-ShmemCreate c l v =
    rw c.in-ShmemCreate.is
    (makes_told c.args.self.now l c.args.who segments (shmem_refusals (state_of c.args.self.now l) c.args.who c.in-ShmemCreate.id c.in-ShmemCreate.cells)
    (λ h. makes Segments h (new_segment c.in-ShmemCreate.id c.in-ShmemCreate.cells))
    ∙ ap (option_map reply.Mrapi) (c.shmem_refusal.ensures l v)
    ∙ c.mrapi-in-ShmemCreate.ensures)
