-- Worked: starting tasks, looking at them, and cancelling them.
use Rattle.std.specs.Prelude.{true, false, List, [], ◌∷◌, Some, None, pos}
use Rattle.mtapi_values.specs.declared.kinds.Kind.TheVariants as kind
use Rattle.mtapi_values.specs.declared.statuses.MtapiStatus.TheVariants as status
use Rattle.mtapi_machine.specs.Names.{Completed, Cancelled, One, Done}
use Rattle.mtapi_machine.specs.declared.terms.Terms.{Terms}
use Rattle.mtapi_machine.specs.declared.ops.Op.TheVariants as op
use Rattle.mtapi_machine.specs.declared.replies.Reply.TheVariants as reply
use Rattle.mtapi_machine.specs.Tables.{TableLine, IsWorkedTable, node_of, small, line, worker, main, worker_not, main_not, second_not, refused, h1, h2, h3, again1, action, task, group, every_core, first_core, second_core, action_of, start, start_of_group, look, last_look, picked, finish}

-- what a start is refused for, in the order in which it is looked for; the priorities are 0 to 3
unfoldable pub starts_refused : List TableLine
starts_refused =
    main op.Initialize reply.Ok
    ∷ refused (op.TaskStart 1 [] 4 second_core false (Some (group h1))) status.ErrParameter (reply.Mtapi status.ErrJobInvalid)
    ∷ refused (op.TaskStart 1 [] 3 second_core true (Some (group h1))) status.ErrParameter (reply.Mtapi status.ErrJobInvalid)
    ∷ refused (op.TaskStart 1 [] 3 second_core false (Some (group h1))) status.ErrJobInvalid (reply.Mtapi status.ErrGroupInvalid)
    ∷ main (op.ActionCreate 1 kind.Add first_core) (reply.Handle h1)
    ∷ main (op.ActionDisable (action h1)) reply.Ok
    ∷ refused (op.TaskStart 1 [] 3 second_core false (Some (group h1))) status.ErrGroupInvalid (reply.Mtapi status.ErrActionDisabled)
    ∷ main op.GroupCreate (reply.Handle h1)
    ∷ refused (op.TaskStart 1 [] 3 second_core false (Some (group h1))) status.ErrActionDisabled (reply.Mtapi status.ErrNoCore)
    ∷ main (op.ActionEnable (action h1)) reply.Ok
    ∷ refused (op.TaskStart 1 [] 3 second_core false (Some (group h1))) status.ErrNoCore (reply.Handle h1)
    ∷ refused (op.TaskStart 1 [] 4 first_core false (Some (group h1))) status.ErrParameter (reply.Handle h1)
    ∷ line 1 (op.TaskStart 1 [] 3 first_core false (Some (group h1))) (reply.Handle h1) (reply.Handle 0 ∷ reply.Handle again1 ∷ reply.Mtapi status.ErrTaskLimit
    ∷ [])
    ∷ main_not (op.TaskStart 1 [] 0 every_core true None) (reply.Handle h2) (reply.Handle h1)
    ∷ refused (op.TaskStart 1 [] 0 every_core true None) status.ErrTaskLimit (reply.Handle h3)
    ∷ refused (op.TaskStart 1 [] 0 second_core true None) status.ErrNoCore (reply.Mtapi status.ErrTaskLimit)
    ∷ []

-- what a look and a cancel are refused for
unfoldable pub looks_refused : List TableLine
looks_refused =
    main op.Initialize reply.Ok
    ∷ main (action_of kind.Add) (reply.Handle h1)
    ∷ main op.GroupCreate (reply.Handle h2)
    ∷ refused (look h1) status.ErrTaskInvalid reply.Pending
    ∷ refused (op.TaskCancel (task h1)) status.ErrTaskInvalid reply.Ok
    ∷ main (op.TaskStart 1 [] 0 every_core true None) (reply.Handle h1)
    ∷ refused (look h1) status.ErrParameter reply.Pending
    ∷ main (start_of_group h2 []) (reply.Handle h2)
    ∷ refused (look h2) status.ErrParameter reply.Pending
    ∷ refused (last_look h2) status.ErrParameter (reply.Mtapi status.Timeout)
    ∷ main (op.TaskCancel (task h1)) reply.Ok
    ∷ refused (op.TaskCancel (task h1)) status.ErrTaskInvalid reply.Ok
    ∷ []

-- one seat waits for a task at a time
unfoldable pub one_waiter : List TableLine
one_waiter =
    main op.Initialize reply.Ok
    ∷ main (action_of kind.Add) (reply.Handle h1)
    ∷ main (start []) (reply.Handle h1)
    ∷ main_not (look h1) reply.Pending (reply.Mtapi status.Timeout)
    ∷ main (look h1) reply.Pending
    ∷ second_not (look h1) (reply.Mtapi status.ErrWaitPending) reply.Pending
    ∷ second_not (last_look h1) (reply.Mtapi status.ErrWaitPending) (reply.Mtapi status.Timeout)
    ∷ refused (last_look h1) status.Timeout reply.Pending
    ∷ second_not (look h1) reply.Pending (reply.Mtapi status.ErrWaitPending)
    ∷ refused (look h1) status.ErrWaitPending reply.Pending
    ∷ []

-- a scheduled task ends cancelled, one that has ended is left, and a running one goes on; room for one task, so its place is used
-- again, under another handle, once it isn't live
unfoldable pub cancelled_table : List TableLine
cancelled_table =
    main op.Initialize reply.Ok
    ∷ main (action_of kind.Add) (reply.Handle h1)
    ∷ main (start (pos 1 ∷ [])) (reply.Handle h1)
    ∷ refused (start (pos 2 ∷ [])) status.ErrTaskLimit (reply.Handle h2)
    ∷ main_not (op.TaskCancel (task h1)) reply.Ok (reply.Mtapi status.ErrTaskCancelled)
    ∷ main_not (op.TaskCancel (task h1)) reply.Ok (reply.Mtapi status.ErrTaskInvalid)
    ∷ worker_not op.Pick reply.Idle (picked h1 kind.Add (pos 1 ∷ []))
    ∷ line 1 (last_look h1) (reply.Ended Cancelled) (reply.Mtapi status.Timeout ∷ reply.Ended (Completed (pos 1 ∷ [])) ∷ [])
    ∷ refused (look h1) status.ErrTaskInvalid (reply.Ended Cancelled)
    ∷ line 1 (start (pos 2 ∷ pos 3 ∷ [])) (reply.Handle again1) (reply.Handle h1 ∷ reply.Handle 12884901888 ∷ [])
    ∷ refused (look h1) status.ErrTaskInvalid reply.Pending
    ∷ worker op.Pick (picked again1 kind.Add (pos 2 ∷ pos 3 ∷ []))
    ∷ main (op.TaskCancel (task again1)) reply.Ok
    ∷ main_not (look again1) reply.Pending (reply.Ended Cancelled)
    ∷ worker (finish again1 kind.Add (pos 2 ∷ pos 3 ∷ []) (Done (pos 5 ∷ []))) reply.Ok
    ∷ main_not (look again1) (reply.Ended (Completed (pos 5 ∷ []))) (reply.Ended Cancelled)
    ∷ []

-- with one generation a place retires
abbrev pub one_generation : Terms
one_generation = record {
  layout = One;
  settings = record { workers = 1; tasks = 1; actions = 1; groups = 1; queues = 1; objects = 1; priorities = 4; generations = 1 };
  callers = 2;
}

unfoldable pub place_retires : List TableLine
place_retires =
    main op.Initialize reply.Ok
    ∷ main (action_of kind.Add) (reply.Handle h1)
    ∷ main_not (start (pos 1 ∷ [])) (reply.Handle h1) (reply.Handle again1)
    ∷ worker op.Pick (picked h1 kind.Add (pos 1 ∷ []))
    ∷ worker (finish h1 kind.Add (pos 1 ∷ []) (Done (pos 1 ∷ []))) reply.Ok
    ∷ main (look h1) (reply.Ended (Completed (pos 1 ∷ [])))
    ∷ refused (start (pos 2 ∷ [])) status.ErrTaskLimit (reply.Handle again1)
    ∷ []

-- two workers: the job's only action runs on the first core, and the task asks for the second one; so there is no task
unfoldable pub no_core : List TableLine
no_core =
    line 2 op.Initialize reply.Ok []
    ∷ line 2 (op.ActionCreate 1 kind.Add first_core) (reply.Handle h1) []
    ∷ line 2 (op.TaskStart 1 (pos 1 ∷ []) 0 second_core false None) (reply.Mtapi status.ErrNoCore) (reply.Handle h1 ∷ [])
    ∷ line 2 (last_look 0) (reply.Mtapi status.ErrTaskInvalid) (reply.Mtapi status.Timeout ∷ [])
    ∷ []

pub record WorkedTasks : Type 0 where
  pub starts_refused : IsWorkedTable small starts_refused
  pub looks_refused : IsWorkedTable small looks_refused
  pub one_waiter : IsWorkedTable small one_waiter
  pub cancelled : IsWorkedTable (node_of 1 1 1) cancelled_table
  pub place_retires : IsWorkedTable one_generation place_retires
  pub no_core : IsWorkedTable (node_of 2 2 2) no_core
