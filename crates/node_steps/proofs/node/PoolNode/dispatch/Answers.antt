use Rattle.node_steps.proofs.Names.{◌≡◌, true, refl, sym, subst, FitsSigned, w64, rules, ℤ, Option, to_z-of_z, ActionHandle, GroupHandle, QueueHandle, TaskHandle, Op, renamed_op, other_queue, is_mrapi, PoolNodeSteps}
use Rattle.mtapi_machine.specs.declared.ops.Op.TheVariants as op
use Rattle.node_steps.proofs.node.PoolNode.dispatch.Goals as goal

pub returns-in-Initialize : goal.returns-in-Initialize
returns-in-Initialize g c l v k = rw c.in-Initialize.is (c.initialize.ensures l c.args.who v)

pub returns-in-Release : goal.returns-in-Release
returns-in-Release g c l v k = rw c.in-Release.is (c.release.ensures l c.args.who v)

pub returns-in-Enter : goal.returns-in-Enter
returns-in-Enter g c l v k = rw c.in-Enter.is (c.enter.ensures l c.args.who v)

pub returns-in-Close : goal.returns-in-Close
returns-in-Close g c l v k = rw c.in-Close.is (c.close.ensures l c.args.who v k)

pub returns-in-Final : goal.returns-in-Final
returns-in-Final g c l v k = rw c.in-Final.is (c.finalize.ensures l c.args.who v)

pub returns-in-JobGet : goal.returns-in-JobGet
returns-in-JobGet g c l v k = rw c.in-JobGet.is (c.job_get.ensures l c.args.who v)

pub returns-in-ActionCreate : goal.returns-in-ActionCreate
returns-in-ActionCreate g c l v k = rw c.in-ActionCreate.is (c.action_create.ensures l c.args.who v)

pub returns-in-ActionDelete : goal.returns-in-ActionDelete
returns-in-ActionDelete g c l v k = rw (c.in-ActionDelete.is, ← c.other_action.ensures) (c.action_delete.ensures l c.args.who v k)

pub returns-in-ActionDisable : goal.returns-in-ActionDisable
returns-in-ActionDisable g c l v k = rw (c.in-ActionDisable.is, ← c.other_action-in-ActionDisable.ensures) (c.action_disable.ensures l c.args.who v k)

pub returns-in-ActionEnable : goal.returns-in-ActionEnable
returns-in-ActionEnable g c l v k = rw (c.in-ActionEnable.is, ← c.other_action-in-ActionEnable.ensures) (c.action_enable.ensures l c.args.who v)

pub returns-in-TaskStart : goal.returns-in-TaskStart
returns-in-TaskStart g c l v k = rw (c.in-TaskStart.is, ← c.other_member.ensures) (c.task_start.ensures l c.args.who v)

pub returns-in-TaskEnqueue : goal.returns-in-TaskEnqueue
returns-in-TaskEnqueue g c l v k = rw (c.in-TaskEnqueue.is, ← c.other_member-in-TaskEnqueue.ensures, ← c.other_queue.ensures)
    (c.task_enqueue.ensures l c.args.who v)

pub returns-in-TaskLook : goal.returns-in-TaskLook
returns-in-TaskLook g c l v k = rw (c.in-TaskLook.is, ← c.other_task.ensures) (c.task_look.ensures l v)

pub returns-in-TaskCancel : goal.returns-in-TaskCancel
returns-in-TaskCancel g c l v k = rw (c.in-TaskCancel.is, ← c.other_task-in-TaskCancel.ensures) (c.task_cancel.ensures l c.args.who v)

pub returns-in-GroupCreate : goal.returns-in-GroupCreate
returns-in-GroupCreate g c l v k = rw c.in-GroupCreate.is (c.group_create.ensures l c.args.who v)

pub returns-in-GroupDelete : goal.returns-in-GroupDelete
returns-in-GroupDelete g c l v k = rw (c.in-GroupDelete.is, ← c.other_group.ensures) (c.group_delete.ensures l c.args.who v)

pub returns-in-AllLook : goal.returns-in-AllLook
returns-in-AllLook g c l v k = rw (c.in-AllLook.is, ← c.other_group-in-AllLook.ensures) (c.all_look.ensures l c.args.who v)

pub returns-in-AnyLook : goal.returns-in-AnyLook
returns-in-AnyLook g c l v k = rw (c.in-AnyLook.is, ← c.other_group-in-AnyLook.ensures) (c.any_look.ensures l c.args.who v)

pub returns-in-QueueCreate : goal.returns-in-QueueCreate
returns-in-QueueCreate g c l v k = rw c.in-QueueCreate.is (c.queue_create.ensures l c.args.who v)

pub returns-in-QueueGet : goal.returns-in-QueueGet
returns-in-QueueGet g c l v k = rw c.in-QueueGet.is (c.queue_get.ensures l c.args.who v)

pub returns-in-QueueEnable : goal.returns-in-QueueEnable
returns-in-QueueEnable g c l v k = rw (c.in-QueueEnable.is, ← c.other_queue-in-QueueEnable.ensures) (c.queue_enable.ensures l c.args.who v)

pub returns-in-QueueDisable : goal.returns-in-QueueDisable
returns-in-QueueDisable g c l v k = rw (c.in-QueueDisable.is, ← c.other_queue-in-QueueDisable.ensures) (c.queue_disable.ensures l c.args.who v k)

pub returns-in-QueueDelete : goal.returns-in-QueueDelete
returns-in-QueueDelete g c l v k = rw (c.in-QueueDelete.is, ← c.other_queue-in-QueueDelete.ensures) (c.queue_delete.ensures l c.args.who v k)

pub returns-in-Pick : goal.returns-in-Pick
returns-in-Pick g c l v k = rw c.in-Pick.is (c.pick_wanted.ensures.steps l v)

pub returns-in-Finish : goal.returns-in-Finish
returns-in-Finish g c l v k = rw (c.in-Finish.is, ← c.other_task-in-Finish.ensures) (c.finish.ensures l v)

pub returns-in-Asked : goal.returns-in-Asked
returns-in-Asked g c l v k = rw (c.in-Asked.is, ← c.other_task-in-Asked.ensures) (c.asked.ensures l v)

pub returns-in-WatchEnd : goal.returns-in-WatchEnd
returns-in-WatchEnd g c l v k = rw (c.in-WatchEnd.is, ← c.other_task-in-WatchEnd.ensures) (c.watch_end.ensures l v)

pub returns-in-TallyLock : goal.returns-in-TallyLock
returns-in-TallyLock g c l v k = rw (c.in-TallyLock.is, ← c.other_task-in-TallyLock.ensures) (c.tally_lock.ensures l v)

pub returns-in-TallyRead : goal.returns-in-TallyRead
returns-in-TallyRead g c l v k = rw (c.in-TallyRead.is, ← c.other_task-in-TallyRead.ensures) (c.tally_read.ensures l v k)

pub returns-in-TallyWrite : goal.returns-in-TallyWrite
returns-in-TallyWrite g c l v k = rw (c.in-TallyWrite.is, ← c.other_task-in-TallyWrite.ensures, ← to_z-of_z w64 c.in-TallyWrite.value (search rules))
    (c.tally_write.ensures l v k)

pub returns-in-TallyEnd : goal.returns-in-TallyEnd
returns-in-TallyEnd g c l v k = rw (c.in-TallyEnd.is, ← c.other_task-in-TallyEnd.ensures) (c.tally_end.ensures l v k)

pub resource_op-requires-clause-resource : goal.resource_op-requires-clause-resource
resource_op-requires-clause-resource g c = by_op c.args.op.now refl
  where
    -- what is none of the ops above
    by_op : (o : Op) → c.args.op.now ≡ o → is_mrapi o ≡ true
    by_op op.Initialize e = absurd (c.in_default.not-Initialize e)
    by_op op.Release e = absurd (c.in_default.not-Release e)
    by_op op.Enter e = absurd (c.in_default.not-Enter e)
    by_op op.Close e = absurd (c.in_default.not-Close e)
    by_op op.Final e = absurd (c.in_default.not-Final e)
    by_op (op.JobGet j) e = absurd (c.in_default.not-JobGet j e)
    by_op (op.ActionCreate j k x) e = absurd (c.in_default.not-ActionCreate j k x e)
    by_op (op.ActionDelete a) e = absurd (c.in_default.not-ActionDelete a e)
    by_op (op.ActionDisable a) e = absurd (c.in_default.not-ActionDisable a e)
    by_op (op.ActionEnable a) e = absurd (c.in_default.not-ActionEnable a e)
    by_op (op.TaskStart j a p x d g) e = absurd (c.in_default.not-TaskStart j a p x d g e)
    by_op (op.TaskEnqueue q a x d g) e = absurd (c.in_default.not-TaskEnqueue q a x d g e)
    by_op (op.TaskLook t l) e = absurd (c.in_default.not-TaskLook t l e)
    by_op (op.TaskCancel t) e = absurd (c.in_default.not-TaskCancel t e)
    by_op op.GroupCreate e = absurd (c.in_default.not-GroupCreate e)
    by_op (op.GroupDelete g) e = absurd (c.in_default.not-GroupDelete g e)
    by_op (op.AllLook g l) e = absurd (c.in_default.not-AllLook g l e)
    by_op (op.AnyLook g l) e = absurd (c.in_default.not-AnyLook g l e)
    by_op (op.QueueCreate i j p l o r) e = absurd (c.in_default.not-QueueCreate i j p l o r e)
    by_op (op.QueueGet i) e = absurd (c.in_default.not-QueueGet i e)
    by_op (op.QueueEnable q) e = absurd (c.in_default.not-QueueEnable q e)
    by_op (op.QueueDisable q) e = absurd (c.in_default.not-QueueDisable q e)
    by_op (op.QueueDelete q) e = absurd (c.in_default.not-QueueDelete q e)
    by_op op.Pick e = absurd (c.in_default.not-Pick e)
    by_op (op.Finish t d) e = absurd (c.in_default.not-Finish t d e)
    by_op (op.Asked t) e = absurd (c.in_default.not-Asked t e)
    by_op (op.WatchEnd t) e = absurd (c.in_default.not-WatchEnd t e)
    by_op (op.TallyLock t) e = absurd (c.in_default.not-TallyLock t e)
    by_op (op.TallyRead t) e = absurd (c.in_default.not-TallyRead t e)
    by_op (op.TallyWrite t z) e = absurd (c.in_default.not-TallyWrite t z e)
    by_op (op.TallyEnd t) e = absurd (c.in_default.not-TallyEnd t e)
    by_op _ e = refl
