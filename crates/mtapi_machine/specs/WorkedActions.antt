-- Worked: jobs and actions, and the tasks that fail when no worker can take them any more.
use Rattle.std.specs.Prelude.{true, false, List, [], ◌∷◌, pos}
use Rattle.mtapi_values.specs.declared.kinds.Kind.TheVariants as kind
use Rattle.mtapi_values.specs.declared.statuses.MtapiStatus.TheVariants as status
use Rattle.mtapi_machine.specs.Names.{Completed, Failed, Done}
use Rattle.mtapi_machine.specs.declared.ops.Op.TheVariants as op
use Rattle.mtapi_machine.specs.declared.replies.Reply.TheVariants as reply
use Rattle.mtapi_machine.specs.Tables.{TableLine, IsWorkedTable, node_of, small, line, worker, main, main_not, refused, h1, h2, h3, again1, again2, action, task, group, queue, every_core, first_core, second_core, action_of, start, start_of_group, put_in, look, picked, finish}

-- what the ops on jobs and actions are refused for, and what they answer
unfoldable pub actions_made : List TableLine
actions_made =
    main op.Initialize reply.Ok
    ∷ refused (op.JobGet 1) status.ErrJobInvalid (reply.Number (pos 1))
    ∷ refused (op.ActionCreate 0 kind.Add every_core) status.ErrJobInvalid (reply.Handle h1)
    ∷ refused (op.ActionCreate 65536 kind.Add every_core) status.ErrJobInvalid (reply.Handle h1)
    ∷ line 1 (op.ActionCreate 65535 kind.Echo every_core) (reply.Handle h1) (reply.Handle 0 ∷ reply.Handle again1 ∷ [])
    ∷ main_not (op.ActionCreate 1 kind.Add first_core) (reply.Handle h2) (reply.Handle h1)
    ∷ refused (op.ActionCreate 2 kind.Add every_core) status.ErrActionLimit (reply.Handle h3)
    ∷ refused (op.ActionCreate 0 kind.Add every_core) status.ErrJobInvalid (reply.Mtapi status.ErrActionLimit)
    ∷ main_not (op.JobGet 1) (reply.Number (pos 1)) (reply.Mtapi status.ErrJobInvalid)
    ∷ main (op.JobGet 65535) (reply.Number (pos 65535))
    ∷ refused (op.ActionDelete (action h3)) status.ErrActionInvalid reply.Ok
    ∷ refused (op.ActionDisable (action h3)) status.ErrActionInvalid reply.Ok
    ∷ refused (op.ActionEnable (action 0)) status.ErrActionInvalid reply.Ok
    ∷ main_not (op.ActionDisable (action h2)) reply.Ok (reply.Mtapi status.ErrActionDisabled)
    ∷ main (op.ActionDisable (action h2)) reply.Ok
    ∷ main_not (op.JobGet 1) (reply.Number (pos 1)) (reply.Mtapi status.ErrJobInvalid)
    ∷ refused (start (pos 1 ∷ [])) status.ErrActionDisabled (reply.Handle h1)
    ∷ main (op.ActionEnable (action h2)) reply.Ok
    ∷ main (op.ActionEnable (action h2)) reply.Ok
    ∷ main_not (start (pos 1 ∷ [])) (reply.Handle h1) (reply.Mtapi status.ErrActionDisabled)
    ∷ main (op.ActionDelete (action h2)) reply.Ok
    ∷ refused (op.ActionDelete (action h2)) status.ErrActionInvalid reply.Ok
    ∷ refused (op.ActionDisable (action h2)) status.ErrActionInvalid reply.Ok
    ∷ refused (op.ActionEnable (action h2)) status.ErrActionInvalid reply.Ok
    ∷ refused (op.JobGet 1) status.ErrJobInvalid (reply.Number (pos 1))
    ∷ line 1 (op.ActionCreate 1 kind.Mul every_core) (reply.Handle again2) (reply.Handle h2 ∷ reply.Mtapi status.ErrActionLimit ∷ [])
    ∷ []

-- two workers: a task that waits in a disabled queue fails when its only action is deleted
unfoldable pub action_deleted : List TableLine
action_deleted =
    line 2 op.Initialize reply.Ok []
    ∷ line 2 (action_of kind.Add) (reply.Handle h1) []
    ∷ line 2 (op.QueueCreate 1 1 0 65536 false true) (reply.Handle h1) []
    ∷ line 2 (op.QueueDisable (queue h1)) reply.Ok []
    ∷ line 2 (put_in h1 (pos 1 ∷ [])) (reply.Handle h1) []
    ∷ line 0 op.Pick reply.Idle (picked h1 kind.Add (pos 1 ∷ []) ∷ [])
    ∷ line 2 (look h1) reply.Pending []
    ∷ line 2 (op.ActionDelete (action h1)) reply.Ok []
    ∷ line 2 (look h1) (reply.Ended (Failed status.ErrActionDeleted)) (reply.Pending ∷ reply.Ended (Failed status.ErrActionDisabled) ∷ [])
    ∷ line 2 (look h1) (reply.Mtapi status.ErrTaskInvalid) (reply.Ended (Failed status.ErrActionDeleted) ∷ [])
    ∷ []

-- two tasks in a group fail together when their action is disabled: they end in the order of their starts, whatever their handles; a
-- task that runs goes on
unfoldable pub action_disabled : List TableLine
action_disabled =
    main op.Initialize reply.Ok
    ∷ main (action_of kind.Echo) (reply.Handle h1)
    ∷ main op.GroupCreate (reply.Handle h1)
    ∷ main (start (pos 9 ∷ [])) (reply.Handle h3)
    ∷ worker op.Pick (picked h3 kind.Echo (pos 9 ∷ []))
    ∷ main (start_of_group h1 (pos 2 ∷ [])) (reply.Handle h2)
    ∷ main (start_of_group h1 (pos 1 ∷ [])) (reply.Handle h1)
    ∷ main (op.AnyLook (group h1) false) reply.Pending
    ∷ main (op.ActionDisable (action h1)) reply.Ok
    ∷ line 1 (op.AnyLook (group h1) false) (reply.Given (task h2) (Failed status.ErrActionDisabled))
    (reply.Given (task h1) (Failed status.ErrActionDisabled) ∷ reply.Given (task h2) (Failed status.ErrActionDeleted) ∷ [])
    ∷ main (op.AnyLook (group h1) false) (reply.Given (task h1) (Failed status.ErrActionDisabled))
    ∷ worker (finish h3 kind.Echo (pos 9 ∷ []) (Done (pos 9 ∷ []))) reply.Ok
    ∷ main (look h3) (reply.Ended (Completed (pos 9 ∷ [])))
    ∷ []

-- another action of the job keeps a task: the first on its core, the second on the other one, which no worker has
unfoldable pub action_kept : List TableLine
action_kept =
    main op.Initialize reply.Ok
    ∷ main (op.ActionCreate 1 kind.Add first_core) (reply.Handle h1)
    ∷ main (op.ActionCreate 1 kind.Mul every_core) (reply.Handle h2)
    ∷ main (start (pos 1 ∷ [])) (reply.Handle h1)
    ∷ main (op.ActionDelete (action h1)) reply.Ok
    ∷ main_not (look h1) reply.Pending (reply.Ended (Failed status.ErrActionDeleted))
    ∷ main (op.ActionCreate 1 kind.Max second_core) (reply.Handle again1)
    ∷ main (op.ActionDisable (action h2)) reply.Ok
    ∷ main_not (look h1) (reply.Ended (Failed status.ErrActionDisabled)) reply.Pending
    ∷ []

pub record WorkedActions : Type 0 where
  pub made : IsWorkedTable small actions_made
  pub deleted : IsWorkedTable (node_of 2 2 2) action_deleted
  pub disabled : IsWorkedTable (node_of 1 4 2) action_disabled
  pub kept : IsWorkedTable small action_kept
