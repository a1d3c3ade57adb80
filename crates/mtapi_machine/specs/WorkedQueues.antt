-- Worked: queues, what an enqueue is refused for, and what becomes of the tasks of a queue.
use Rattle.std.specs.Prelude.{◌≡◌, true, false, List, [], ◌∷◌, Some, None, pos}
use Rattle.mtapi_values.specs.declared.kinds.Kind.TheVariants as kind
use Rattle.mtapi_values.specs.declared.statuses.MtapiStatus.TheVariants as status
use Rattle.mtapi_machine.specs.Names.{Completed, Cancelled, Failed, Done}
use Rattle.mtapi_machine.specs.declared.ops.Op.TheVariants as op
use Rattle.mtapi_machine.specs.declared.replies.Reply.TheVariants as reply
use Rattle.mtapi_machine.specs.State.{opening}
use Rattle.mtapi_machine.specs.Kept.{skipped, no_counts}
use Rattle.mtapi_machine.specs.Tables.{TableLine, reported, IsWorkedTable, node_of, small, line, worker, main, worker_not, main_not, refused, h1, h2, h3, again1, action, task, group, queue, every_core, first_core, second_core, action_of, start, start_of_group, put_in, look, last_look, picked, finish}

-- what the ops on queues are refused for; the priorities are 0 to 3
unfoldable pub queues_made : List TableLine
queues_made =
    main op.Initialize reply.Ok
    ∷ refused (op.QueueCreate 1 1 4 1 false false) status.ErrParameter (reply.Mtapi status.ErrJobInvalid)
    ∷ refused (op.QueueCreate 1 1 0 0 false false) status.ErrParameter (reply.Mtapi status.ErrJobInvalid)
    ∷ refused (op.QueueCreate 1 1 0 65537 false false) status.ErrParameter (reply.Mtapi status.ErrJobInvalid)
    ∷ refused (op.QueueCreate 1 1 3 65536 false false) status.ErrJobInvalid (reply.Handle h1)
    ∷ main (action_of kind.Add) (reply.Handle h1)
    ∷ main_not (op.QueueCreate 1 1 3 65536 false false) (reply.Handle h1) (reply.Handle again1)
    ∷ refused (op.QueueCreate 1 1 0 1 false false) status.ErrQueueExists (reply.Handle h2)
    ∷ refused (op.QueueCreate 1 2 0 1 false false) status.ErrJobInvalid (reply.Mtapi status.ErrQueueExists)
    ∷ main_not (op.QueueCreate 2 1 0 1 false false) (reply.Handle h2) (reply.Handle h1)
    ∷ refused (op.QueueCreate 3 1 0 1 false false) status.ErrQueueLimit (reply.Handle h3)
    ∷ refused (op.QueueCreate 2 1 0 1 false false) status.ErrQueueExists (reply.Mtapi status.ErrQueueLimit)
    ∷ main_not (op.QueueGet 2) (reply.Handle h2) (reply.Handle h1)
    ∷ refused (op.QueueGet 3) status.ErrQueueInvalid (reply.Handle h2)
    ∷ refused (op.QueueEnable (queue h3)) status.ErrQueueInvalid reply.Ok
    ∷ refused (op.QueueDisable (queue h3)) status.ErrQueueInvalid reply.Ok
    ∷ refused (op.QueueDelete (queue 0)) status.ErrQueueInvalid reply.Ok
    ∷ main_not (op.QueueDisable (queue h1)) reply.Ok (reply.Mtapi status.ErrQueueDisabled)
    ∷ main (op.QueueDisable (queue h1)) reply.Ok
    ∷ main (op.QueueEnable (queue h1)) reply.Ok
    ∷ main (op.QueueDelete (queue h1)) reply.Ok
    ∷ refused (op.QueueDelete (queue h1)) status.ErrQueueInvalid reply.Ok
    ∷ refused (op.QueueGet 1) status.ErrQueueInvalid (reply.Handle h1)
    ∷ line 1 (op.QueueCreate 1 1 0 1 false false) (reply.Handle again1) (reply.Handle h1 ∷ reply.Mtapi status.ErrQueueLimit ∷ [])
    ∷ []

-- what an enqueue is refused for, in the order in which it is looked for; room for one task
unfoldable pub puts_refused : List TableLine
puts_refused =
    main op.Initialize reply.Ok
    ∷ main (op.ActionCreate 1 kind.Add first_core) (reply.Handle h1)
    ∷ main (op.QueueCreate 1 1 0 1 false false) (reply.Handle h1)
    ∷ main (op.QueueCreate 2 1 0 2 false false) (reply.Handle h2)
    ∷ main (op.QueueDisable (queue h1)) reply.Ok
    ∷ main (op.ActionDelete (action h1)) reply.Ok
    ∷ refused (op.TaskEnqueue (queue h3) [] second_core true (Some (group h1))) status.ErrParameter (reply.Mtapi status.ErrQueueInvalid)
    ∷ refused (op.TaskEnqueue (queue h3) [] second_core false (Some (group h1))) status.ErrQueueInvalid (reply.Mtapi status.ErrQueueDisabled)
    ∷ refused (op.TaskEnqueue (queue h1) [] second_core false (Some (group h1))) status.ErrQueueDisabled (reply.Mtapi status.ErrJobInvalid)
    ∷ main (op.QueueEnable (queue h1)) reply.Ok
    ∷ refused (op.TaskEnqueue (queue h1) [] second_core false (Some (group h1))) status.ErrJobInvalid (reply.Mtapi status.ErrGroupInvalid)
    ∷ main (op.ActionCreate 1 kind.Add first_core) (reply.Handle again1)
    ∷ main (op.ActionDisable (action again1)) reply.Ok
    ∷ refused (op.TaskEnqueue (queue h1) [] second_core false (Some (group h1))) status.ErrGroupInvalid (reply.Mtapi status.ErrActionDisabled)
    ∷ refused (op.TaskEnqueue (queue h1) [] second_core false None) status.ErrActionDisabled (reply.Mtapi status.ErrNoCore)
    ∷ main (op.ActionEnable (action again1)) reply.Ok
    ∷ refused (op.TaskEnqueue (queue h1) [] second_core false None) status.ErrNoCore (reply.Handle h1)
    ∷ line 1 (op.TaskEnqueue (queue h1) [] first_core true None) (reply.Handle h1) (reply.Handle again1 ∷ reply.Mtapi status.ErrQueueLimit ∷ [])
    ∷ refused (op.TaskEnqueue (queue h1) [] second_core false None) status.ErrNoCore (reply.Mtapi status.ErrQueueLimit)
    ∷ refused (op.TaskEnqueue (queue h1) [] first_core false None) status.ErrQueueLimit (reply.Mtapi status.ErrTaskLimit)
    ∷ refused (op.TaskEnqueue (queue h2) [] first_core false None) status.ErrTaskLimit (reply.Handle h2)
    ∷ []

-- a queue that retains its task: the task waits while the queue is disabled, and closing cancels it
unfoldable pub retained : List TableLine
retained =
    main op.Initialize reply.Ok
    ∷ main (action_of kind.Add) (reply.Handle h1)
    ∷ main (op.QueueCreate 1 1 0 65536 false true) (reply.Handle h1)
    ∷ main (op.QueueDisable (queue h1)) reply.Ok
    ∷ main_not (put_in h1 (pos 1 ∷ [])) (reply.Handle h1) (reply.Mtapi status.ErrQueueDisabled)
    ∷ worker_not op.Pick reply.Idle (picked h1 kind.Add (pos 1 ∷ []))
    ∷ main (look h1) reply.Pending
    ∷ main (look h1) reply.Pending
    ∷ main (look h1) reply.Pending
    ∷ refused (last_look h1) status.Timeout reply.Pending
    ∷ main op.Close reply.Ok
    ∷ main_not (look h1) (reply.Ended Cancelled) reply.Pending
    ∷ []

-- the same, and it is cancelled
unfoldable pub retained_cancelled : List TableLine
retained_cancelled =
    main op.Initialize reply.Ok
    ∷ main (action_of kind.Add) (reply.Handle h1)
    ∷ main (op.QueueCreate 1 1 0 65536 false true) (reply.Handle h1)
    ∷ main (op.QueueDisable (queue h1)) reply.Ok
    ∷ main (put_in h1 (pos 1 ∷ [])) (reply.Handle h1)
    ∷ main (op.TaskCancel (task h1)) reply.Ok
    ∷ main_not (look h1) (reply.Ended Cancelled) reply.Pending
    ∷ []

-- the same, and its queue is deleted
unfoldable pub retained_deleted : List TableLine
retained_deleted =
    main op.Initialize reply.Ok
    ∷ main (action_of kind.Add) (reply.Handle h1)
    ∷ main (op.QueueCreate 1 1 0 65536 false true) (reply.Handle h1)
    ∷ main (op.QueueDisable (queue h1)) reply.Ok
    ∷ main (put_in h1 (pos 1 ∷ [])) (reply.Handle h1)
    ∷ main (op.QueueDelete (queue h1)) reply.Ok
    ∷ line 1 (look h1) (reply.Ended (Failed status.ErrQueueDeleted)) (reply.Pending ∷ reply.Ended Cancelled ∷ [])
    ∷ []

-- a disabled queue for two tasks that retains them: a third is refused, and closing cancels both
unfoldable pub third_refused : List TableLine
third_refused =
    main op.Initialize reply.Ok
    ∷ main (action_of kind.Add) (reply.Handle h1)
    ∷ main (op.QueueCreate 1 1 0 2 false true) (reply.Handle h1)
    ∷ main (op.QueueDisable (queue h1)) reply.Ok
    ∷ main (put_in h1 []) (reply.Handle h1)
    ∷ main (put_in h1 []) (reply.Handle h2)
    ∷ refused (put_in h1 []) status.ErrQueueLimit (reply.Handle h3)
    ∷ main op.Close reply.Ok
    ∷ main_not (look h1) (reply.Ended Cancelled) reply.Pending
    ∷ main_not (look h2) (reply.Ended Cancelled) reply.Pending
    ∷ worker op.Pick reply.Stop
    ∷ main op.Final reply.Ok
    ∷ []

-- closing leaves the tasks of an enabled queue, and those of none; they are executed, and the worker stops after that
unfoldable pub enabled_left : List TableLine
enabled_left =
    main op.Initialize reply.Ok
    ∷ main (action_of kind.Add) (reply.Handle h1)
    ∷ main (op.QueueCreate 1 1 0 1 false false) (reply.Handle h1)
    ∷ main (put_in h1 (pos 4 ∷ [])) (reply.Handle h1)
    ∷ main (start (pos 5 ∷ [])) (reply.Handle h2)
    ∷ main op.Close reply.Ok
    ∷ main_not (look h1) reply.Pending (reply.Ended Cancelled)
    ∷ main_not (look h2) reply.Pending (reply.Ended Cancelled)
    ∷ line 0 op.Pick (picked h1 kind.Add (pos 4 ∷ [])) (reply.Stop ∷ reply.Idle ∷ [])
    ∷ worker (finish h1 kind.Add (pos 4 ∷ []) (Done (pos 4 ∷ []))) reply.Ok
    ∷ main (look h1) (reply.Ended (Completed (pos 4 ∷ [])))
    ∷ worker (op.Pick) (picked h2 kind.Add (pos 5 ∷ []))
    ∷ worker (finish h2 kind.Add (pos 5 ∷ []) (Done (pos 5 ∷ []))) reply.Ok
    ∷ worker_not op.Pick reply.Stop reply.Idle
    ∷ []

-- a queue that doesn't retain is disabled: its tasks that haven't begun end cancelled, in the order of their starts, and the running
-- one goes on; a task outside the queue is left
unfoldable pub not_retained : List TableLine
not_retained =
    main op.Initialize reply.Ok
    ∷ main (action_of kind.Add) (reply.Handle h1)
    ∷ main op.GroupCreate (reply.Handle h1)
    ∷ main (op.QueueCreate 1 1 0 65536 false false) (reply.Handle h1)
    ∷ main (put_in h1 (pos 1 ∷ [])) (reply.Handle h1)
    ∷ worker op.Pick (picked h1 kind.Add (pos 1 ∷ []))
    ∷ main (op.TaskEnqueue (queue h1) [] every_core false (Some (group h1))) (reply.Handle h3)
    ∷ main (op.TaskEnqueue (queue h1) [] every_core false (Some (group h1))) (reply.Handle h2)
    ∷ main (start_of_group h1 []) (reply.Handle 4294967299)
    ∷ main (op.QueueDisable (queue h1)) reply.Ok
    ∷ refused (put_in h1 []) status.ErrQueueDisabled (reply.Mtapi status.ErrTaskLimit)
    ∷ main_not (look h1) reply.Pending (reply.Ended Cancelled)
    ∷ main_not (op.AnyLook (group h1) false) (reply.Given (task h3) Cancelled) (reply.Given (task h2) Cancelled)
    ∷ main (op.AnyLook (group h1) false) (reply.Given (task h2) Cancelled)
    ∷ main_not (op.AnyLook (group h1) false) reply.Pending (reply.Given (task 4294967299) Cancelled)
    ∷ worker (finish h1 kind.Add (pos 1 ∷ []) (Done (pos 1 ∷ []))) reply.Ok
    ∷ main (op.QueueEnable (queue h1)) reply.Ok
    ∷ main_not (look h1) (reply.Ended (Completed (pos 1 ∷ []))) (reply.Ended Cancelled)
    ∷ []

-- a queue is deleted: its tasks that haven't begun fail, and the running one goes on; a task of another queue is left
unfoldable pub queue_deleted_table : List TableLine
queue_deleted_table =
    main op.Initialize reply.Ok
    ∷ main (action_of kind.Add) (reply.Handle h1)
    ∷ main (op.QueueCreate 1 1 0 65536 false false) (reply.Handle h1)
    ∷ main (op.QueueCreate 2 1 0 65536 false false) (reply.Handle h2)
    ∷ main (put_in h1 (pos 1 ∷ [])) (reply.Handle h1)
    ∷ worker op.Pick (picked h1 kind.Add (pos 1 ∷ []))
    ∷ main (put_in h1 (pos 2 ∷ [])) (reply.Handle h2)
    ∷ main (put_in h2 (pos 3 ∷ [])) (reply.Handle h3)
    ∷ main (op.QueueDelete (queue h1)) reply.Ok
    ∷ refused (put_in h1 []) status.ErrQueueInvalid (reply.Handle 4294967299)
    ∷ main_not (look h2) (reply.Ended (Failed status.ErrQueueDeleted)) reply.Pending
    ∷ main_not (look h1) reply.Pending (reply.Ended (Failed status.ErrQueueDeleted))
    ∷ main_not (look h3) reply.Pending (reply.Ended (Failed status.ErrQueueDeleted))
    ∷ worker (finish h1 kind.Add (pos 1 ∷ []) (Done (pos 1 ∷ []))) reply.Ok
    ∷ main (look h1) (reply.Ended (Completed (pos 1 ∷ [])))
    ∷ []

-- a task of a queue has the queue's priority, and begins again once its queue is enabled again
unfoldable pub queue_priority : List TableLine
queue_priority =
    main op.Initialize reply.Ok
    ∷ main (action_of kind.Add) (reply.Handle h1)
    ∷ main (op.QueueCreate 1 1 2 65536 false true) (reply.Handle h1)
    ∷ main (put_in h1 (pos 1 ∷ [])) (reply.Handle h1)
    ∷ main (op.TaskStart 1 (pos 2 ∷ []) 3 every_core false None) (reply.Handle h2)
    ∷ main (op.QueueDisable (queue h1)) reply.Ok
    ∷ main (op.TaskStart 1 (pos 3 ∷ []) 1 every_core false None) (reply.Handle h3)
    ∷ worker_not op.Pick (picked h3 kind.Add (pos 3 ∷ [])) (picked h2 kind.Add (pos 2 ∷ []))
    ∷ worker (finish h3 kind.Add (pos 3 ∷ []) (Done (pos 3 ∷ []))) reply.Ok
    ∷ main (op.QueueEnable (queue h1)) reply.Ok
    ∷ line 0 op.Pick (picked h1 kind.Add (pos 1 ∷ [])) (picked h2 kind.Add (pos 2 ∷ []) ∷ reply.Idle ∷ [])
    ∷ []

pub record WorkedQueues : Type 0 where
  pub made : IsWorkedTable small queues_made
  pub refused : IsWorkedTable (node_of 1 1 2) puts_refused
  pub waits : IsWorkedTable small retained
  -- of the looks by which main waits, the first and the last are kept; two were left out before the last one
  pub waits_skipped : skipped (opening small) no_counts (reported retained) ≡ (0 ∷ 0 ∷ 0 ∷ 0 ∷ 0 ∷ 0 ∷ 2 ∷ 0 ∷ 0 ∷ [])
  pub cancelled : IsWorkedTable small retained_cancelled
  pub deleted : IsWorkedTable small retained_deleted
  pub third : IsWorkedTable (node_of 1 4 2) third_refused
  pub enabled : IsWorkedTable small enabled_left
  pub disabled : IsWorkedTable (node_of 1 4 2) not_retained
  pub fails : IsWorkedTable (node_of 1 4 2) queue_deleted_table
  pub priority : IsWorkedTable (node_of 1 4 2) queue_priority
