-- Worked: the ops by which workers take tasks and end them.
use Rattle.std.specs.Prelude.{true, false, List, [], ◌∷◌, ◌++◌, None, pos, negsuc}
use Rattle.mtapi_values.specs.declared.kinds.Kind.TheVariants as kind
use Rattle.mtapi_values.specs.declared.statuses.MtapiStatus.TheVariants as status
use Rattle.mtapi_machine.specs.Names.{Completed, Cancelled, Failed, Done, Fails, entry}
use Rattle.mtapi_machine.specs.declared.ops.Op.TheVariants as op
use Rattle.mtapi_machine.specs.declared.replies.Reply.TheVariants as reply
use Rattle.mtapi_machine.specs.Legal.{Legal}
use Rattle.mtapi_machine.specs.Tables.{TableLine, reported, IsWorkedTable, node_of, small, line, worker, main, worker_not, main_not, refused, h1, h2, h3, again1, action, task, every_core, second_core, action_of, start, look, picked, finish}

-- a worker takes a task of the smallest priority; it takes none while it runs one, and stops once no task is left
unfoldable pub picking : List TableLine
picking =
    worker_not op.Pick reply.Idle reply.Stop
    ∷ main op.Initialize reply.Ok
    ∷ main (action_of kind.Add) (reply.Handle h1)
    ∷ worker_not op.Pick reply.Idle (picked h1 kind.Add [])
    ∷ main (op.TaskStart 1 (pos 1 ∷ []) 2 every_core false None) (reply.Handle h1)
    ∷ main (op.TaskStart 1 (pos 2 ∷ []) 1 every_core false None) (reply.Handle h2)
    ∷ main (op.TaskStart 1 (pos 3 ∷ []) 1 every_core false None) (reply.Handle h3)
    ∷ refused op.Pick status.ErrParameter (picked h2 kind.Add (pos 2 ∷ []))
    ∷ line 0 op.Pick (picked h3 kind.Add (pos 3 ∷ []))
    (picked h1 kind.Add (pos 1 ∷ []) ∷ reply.Idle ∷ reply.Stop ∷ picked h3 kind.Mul (pos 3 ∷ []) ∷ picked h3 kind.Add [] ∷ picked again1 kind.Add [] ∷ [])
    ∷ line 0 op.Pick (reply.Mtapi status.ErrParameter) (picked h2 kind.Add (pos 2 ∷ []) ∷ reply.Idle ∷ [])
    ∷ worker (finish h3 kind.Add (pos 3 ∷ []) (Done (pos 3 ∷ []))) reply.Ok
    ∷ worker_not op.Pick (picked h2 kind.Add (pos 2 ∷ [])) (picked h3 kind.Add (pos 3 ∷ []))
    ∷ main op.Close reply.Ok
    ∷ main (op.TaskCancel (task h1)) reply.Ok
    ∷ worker_not op.Pick (reply.Mtapi status.ErrParameter) reply.Stop
    ∷ worker (finish h2 kind.Add (pos 2 ∷ []) (Done (pos 2 ∷ []))) reply.Ok
    ∷ worker_not op.Pick reply.Stop reply.Idle
    ∷ worker op.Pick reply.Stop
    ∷ main op.Final reply.Ok
    ∷ worker_not op.Pick reply.Stop reply.Idle
    ∷ []

-- two workers: an action and a task run on the cores of their masks; each worker stops, and then the node is finalized
unfoldable pub two_workers_table : List TableLine
two_workers_table =
    line 2 op.Initialize reply.Ok []
    ∷ line 2 (op.ActionCreate 1 kind.Add second_core) (reply.Handle h1) []
    ∷ line 2 (op.ActionCreate 2 kind.Mul every_core) (reply.Handle h2) []
    ∷ line 2 (start (pos 1 ∷ [])) (reply.Handle h1) []
    ∷ line 2 (op.TaskStart 2 (pos 7 ∷ []) 0 second_core false None) (reply.Handle h2) []
    ∷ line 0 op.Pick reply.Idle (picked h1 kind.Add (pos 1 ∷ []) ∷ reply.Picked (task h2) (action h2) kind.Mul (pos 7 ∷ []) ∷ [])
    ∷ line 1 op.Pick (reply.Picked (task h2) (action h2) kind.Mul (pos 7 ∷ [])) (reply.Picked (task h2) (action h1) kind.Mul (pos 7 ∷ []) ∷ reply.Idle ∷ [])
    ∷ line 0 op.Pick reply.Idle (picked h1 kind.Add (pos 1 ∷ []) ∷ [])
    ∷ line 2 (op.TaskCancel (task h1)) reply.Ok []
    ∷ line 2 op.Close reply.Ok []
    ∷ line 0 op.Pick reply.Idle (reply.Stop ∷ [])
    ∷ line 1 (finish h2 kind.Mul (pos 7 ∷ []) (Done (pos 7 ∷ []))) reply.Ok []
    ∷ line 0 op.Pick reply.Stop (reply.Idle ∷ [])
    ∷ line 2 op.Final (reply.Mtapi status.ErrNodeInitialized) (reply.Ok ∷ [])
    ∷ line 1 op.Pick reply.Stop (reply.Idle ∷ [])
    ∷ line 2 op.Final reply.Ok []
    ∷ []

-- what a finish is refused for: the task isn't live, or doesn't run on this worker, with this kind and these arguments
unfoldable pub finishing : List TableLine
finishing =
    line 2 op.Initialize reply.Ok []
    ∷ line 2 (action_of kind.Div) (reply.Handle h1) []
    ∷ line 0 (finish h1 kind.Div (pos 6 ∷ pos 4 ∷ []) (Done (pos 1 ∷ []))) (reply.Mtapi status.ErrTaskInvalid) (reply.Ok ∷ [])
    ∷ line 2 (start (pos 6 ∷ pos 4 ∷ [])) (reply.Handle h1) []
    ∷ line 0 (finish h1 kind.Div (pos 6 ∷ pos 4 ∷ []) (Done (pos 1 ∷ []))) (reply.Mtapi status.ErrTaskInvalid) (reply.Ok ∷ [])
    ∷ line 0 op.Pick (picked h1 kind.Div (pos 6 ∷ pos 4 ∷ [])) []
    ∷ line 1 (finish h1 kind.Div (pos 6 ∷ pos 4 ∷ []) (Done (pos 1 ∷ []))) (reply.Mtapi status.ErrTaskInvalid) (reply.Ok ∷ [])
    ∷ line 2 (finish h1 kind.Div (pos 6 ∷ pos 4 ∷ []) (Done (pos 1 ∷ []))) (reply.Mtapi status.ErrParameter) (reply.Ok ∷ [])
    ∷ line 0 (finish h1 kind.Add (pos 6 ∷ pos 4 ∷ []) (Done (pos 10 ∷ []))) (reply.Mtapi status.ErrTaskInvalid) (reply.Ok ∷ [])
    ∷ line 0 (finish h1 kind.Div (pos 6 ∷ pos 5 ∷ []) (Done (pos 1 ∷ []))) (reply.Mtapi status.ErrTaskInvalid) (reply.Ok ∷ [])
    ∷ line 0 (finish h1 kind.Div (pos 6 ∷ []) (Fails status.ErrArgSize)) (reply.Mtapi status.ErrTaskInvalid) (reply.Ok ∷ [])
    ∷ line 0 (op.Asked (task h1)) (reply.Mtapi status.ErrTaskInvalid) (reply.Asked false ∷ [])
    ∷ line 0 (op.WatchEnd (task h1)) (reply.Mtapi status.ErrTaskInvalid) (reply.Ended (Completed []) ∷ [])
    ∷ line 0 (finish h1 kind.Div (pos 6 ∷ pos 4 ∷ []) (Done (pos 1 ∷ []))) reply.Ok (reply.Mtapi status.ErrTaskInvalid ∷ [])
    ∷ line 0 (finish h1 kind.Div (pos 6 ∷ pos 4 ∷ []) (Done (pos 1 ∷ []))) (reply.Mtapi status.ErrTaskInvalid) (reply.Ok ∷ [])
    ∷ line 2 (look h1) (reply.Ended (Completed (pos 1 ∷ []))) (reply.Ended Cancelled ∷ [])
    ∷ line 2 (start (pos 1 ∷ pos 0 ∷ [])) (reply.Handle again1) []
    ∷ line 0 op.Pick (picked again1 kind.Div (pos 1 ∷ pos 0 ∷ [])) []
    ∷ line 0 (finish again1 kind.Div (pos 1 ∷ pos 0 ∷ []) (Fails status.ErrActionFailed)) reply.Ok []
    ∷ line 2 (look again1) (reply.Ended (Failed status.ErrActionFailed)) (reply.Ended (Completed []) ∷ [])
    ∷ []

-- a watch that is asked to stop before it looks
unfoldable pub stopped_watch : List TableLine
stopped_watch =
    main op.Initialize reply.Ok
    ∷ main (action_of kind.Watch) (reply.Handle h1)
    ∷ main (start (pos 2 ∷ [])) (reply.Handle h1)
    ∷ worker_not (op.Asked (task h1)) (reply.Mtapi status.ErrTaskInvalid) (reply.Asked false)
    ∷ worker (op.Pick) (picked h1 kind.Watch (pos 2 ∷ []))
    ∷ main (op.TaskCancel (task h1)) reply.Ok
    ∷ refused (op.Asked (task h1)) status.ErrParameter (reply.Asked true)
    ∷ worker_not (op.WatchEnd (task h1)) (reply.Mtapi status.ErrParameter) (reply.Ended Cancelled)
    ∷ worker_not (op.Asked (task h1)) (reply.Asked true) (reply.Asked false)
    ∷ worker_not (op.Asked (task h1)) (reply.Mtapi status.ErrParameter) (reply.Asked true)
    ∷ worker_not (op.WatchEnd (task h1)) (reply.Ended Cancelled) (reply.Ended (Completed (pos 2 ∷ [])))
    ∷ worker_not (op.WatchEnd (task h1)) (reply.Mtapi status.ErrTaskInvalid) (reply.Ended Cancelled)
    ∷ main_not (look h1) (reply.Ended Cancelled) (reply.Ended (Completed (pos 2 ∷ [])))
    ∷ refused (look h1) status.ErrTaskInvalid (reply.Ended Cancelled)
    ∷ []

-- a watch that isn't asked to stop: it looks as often as its argument says
unfoldable pub whole_watch : List TableLine
whole_watch =
    main op.Initialize reply.Ok
    ∷ main (action_of kind.Watch) (reply.Handle h1)
    ∷ main (start (pos 2 ∷ [])) (reply.Handle h1)
    ∷ worker (op.Pick) (picked h1 kind.Watch (pos 2 ∷ []))
    ∷ worker_not (op.Asked (task h1)) (reply.Asked false) (reply.Asked true)
    ∷ worker_not (op.WatchEnd (task h1)) (reply.Mtapi status.ErrParameter) (reply.Ended (Completed (pos 2 ∷ [])))
    ∷ worker_not (op.Asked (task h1)) (reply.Asked false) (reply.Mtapi status.ErrParameter)
    ∷ worker_not (op.Asked (task h1)) (reply.Mtapi status.ErrParameter) (reply.Asked false)
    ∷ line 0 (op.WatchEnd (task h1)) (reply.Ended (Completed (pos 2 ∷ []))) (reply.Mtapi status.ErrParameter ∷ reply.Ended Cancelled ∷ [])
    ∷ main (look h1) (reply.Ended (Completed (pos 2 ∷ [])))
    ∷ []

-- watches with arguments that aren't one number from 0 to 64; the workers are two
unfoldable pub bad_watches : List TableLine
bad_watches =
    line 2 op.Initialize reply.Ok []
    ∷ line 2 (action_of kind.Watch) (reply.Handle h1) []
    ∷ line 2 (start (pos 65 ∷ [])) (reply.Handle h1) []
    ∷ line 0 op.Pick (picked h1 kind.Watch (pos 65 ∷ [])) []
    ∷ line 0 (op.Asked (task h1)) (reply.Mtapi status.ErrParameter) (reply.Asked false ∷ [])
    ∷ line 1 (op.Asked (task h1)) (reply.Mtapi status.ErrTaskInvalid) (reply.Mtapi status.ErrParameter ∷ [])
    ∷ line 1 (op.WatchEnd (task h1)) (reply.Mtapi status.ErrTaskInvalid) (reply.Ended (Failed status.ErrActionFailed) ∷ [])
    ∷ line 0 (op.WatchEnd (task h1)) (reply.Ended (Failed status.ErrActionFailed)) (reply.Mtapi status.ErrParameter ∷ reply.Ended (Failed status.ErrArgSize)
    ∷ [])
    ∷ line 2 (start (negsuc 0 ∷ [])) (reply.Handle h2) []
    ∷ line 0 op.Pick (picked h2 kind.Watch (negsuc 0 ∷ [])) []
    ∷ line 0 (op.Asked (task h2)) (reply.Mtapi status.ErrParameter) (reply.Asked false ∷ [])
    ∷ line 0 (op.WatchEnd (task h2)) (reply.Ended (Failed status.ErrActionFailed)) (reply.Ended Cancelled ∷ [])
    ∷ line 2 (start (pos 1 ∷ pos 1 ∷ [])) (reply.Handle h3) []
    ∷ line 0 op.Pick (picked h3 kind.Watch (pos 1 ∷ pos 1 ∷ [])) []
    ∷ line 0 (op.Asked (task h3)) (reply.Mtapi status.ErrParameter) (reply.Asked false ∷ [])
    ∷ line 0 (op.WatchEnd (task h3)) (reply.Ended (Failed status.ErrArgSize)) (reply.Ended (Failed status.ErrActionFailed) ∷ [])
    ∷ line 2 (start (pos 0 ∷ [])) (reply.Handle 4294967299) []
    ∷ line 0 op.Pick (picked 4294967299 kind.Watch (pos 0 ∷ [])) []
    ∷ line 0 (op.Asked (task 4294967299)) (reply.Mtapi status.ErrParameter) (reply.Asked false ∷ [])
    ∷ line 0 (op.WatchEnd (task 4294967299)) (reply.Ended (Completed (pos 0 ∷ []))) (reply.Mtapi status.ErrParameter ∷ [])
    ∷ []

-- a task that a worker runs; its kind makes 5 of 2 and 3
unfoldable pub running : List TableLine
running =
    main op.Initialize reply.Ok
    ∷ main (action_of kind.Add) (reply.Handle h1)
    ∷ main (start (pos 2 ∷ pos 3 ∷ [])) (reply.Handle h1)
    ∷ worker op.Pick (picked h1 kind.Add (pos 2 ∷ pos 3 ∷ []))
    ∷ []

pub record WorkedWork : Type 0 where
  pub picking : IsWorkedTable (node_of 1 4 2) picking
  pub two_workers : IsWorkedTable (node_of 2 4 2) two_workers_table
  pub finishing : IsWorkedTable (node_of 2 1 2) finishing
  pub stopped_watch : IsWorkedTable small stopped_watch
  pub whole_watch : IsWorkedTable small whole_watch
  pub bad_watches : IsWorkedTable (node_of 2 4 2) bad_watches
  pub running_task : IsWorkedTable small running
  -- a worker can't say that it made anything else of them; and nobody asks who has no seat
  pub another_end : Legal small (reported running ++ entry 0 (finish h1 kind.Add (pos 2 ∷ pos 3 ∷ []) (Done (pos 6 ∷ []))) reply.Ok ∷ []) → ⊥
  pub no_seat : Legal small (reported running ++ entry 3 (op.JobGet 1) (reply.Number (pos 1)) ∷ []) → ⊥
