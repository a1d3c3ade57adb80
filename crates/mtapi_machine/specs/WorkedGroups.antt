-- Worked: groups, the order of the ends of their members, and what becomes of the members.
use Rattle.std.specs.Prelude.{ℕ, true, false, List, [], ◌∷◌, Some, pos}
use Rattle.mtapi_values.specs.declared.kinds.Kind.TheVariants as kind
use Rattle.mtapi_values.specs.declared.statuses.MtapiStatus.TheVariants as status
use Rattle.mtapi_machine.specs.Names.{Completed, Cancelled, Done, Fails}
use Rattle.mtapi_machine.specs.declared.ops.Op.{Op}
use Rattle.mtapi_machine.specs.declared.ops.Op.TheVariants as op
use Rattle.mtapi_machine.specs.declared.replies.Reply.TheVariants as reply
use Rattle.mtapi_machine.specs.Tables.{TableLine, IsWorkedTable, node_of, small, line, worker, main, main_not, second_not, refused, h1, h2, h3, again1, action, task, group, queue, every_core, action_of, start_of_group, look, picked, finish}

-- looks at a whole group and at the first of its members
abbrev pub look_at_all : ℕ → Op
look_at_all g = op.AllLook (group g) false

abbrev pub any : ℕ → Op
any g = op.AnyLook (group g) false

-- what the ops on groups are refused for; a group without members
unfoldable pub groups_made : List TableLine
groups_made =
    main op.Initialize reply.Ok
    ∷ refused (look_at_all h1) status.ErrGroupInvalid reply.Ok
    ∷ refused (any h1) status.ErrGroupInvalid (reply.Mtapi status.GroupCompleted)
    ∷ refused (op.GroupDelete (group h1)) status.ErrGroupInvalid reply.Ok
    ∷ main_not op.GroupCreate (reply.Handle h1) (reply.Handle 0)
    ∷ main_not op.GroupCreate (reply.Handle h2) (reply.Handle h1)
    ∷ refused op.GroupCreate status.ErrGroupLimit (reply.Handle h3)
    ∷ main_not (look_at_all h1) reply.Ok reply.Pending
    ∷ refused (any h1) status.GroupCompleted reply.Pending
    ∷ refused (op.AnyLook (group h1) true) status.GroupCompleted (reply.Mtapi status.Timeout)
    ∷ main (op.GroupDelete (group h1)) reply.Ok
    ∷ refused (op.GroupDelete (group h1)) status.ErrGroupInvalid reply.Ok
    ∷ refused (look_at_all h1) status.ErrGroupInvalid reply.Ok
    ∷ main_not op.GroupCreate (reply.Handle again1) (reply.Handle h1)
    ∷ []

-- the members are given in the order of their ends, and not of their starts, nor of their handles; any seat may look
unfoldable pub order_of_ends : List TableLine
order_of_ends =
    main op.Initialize reply.Ok
    ∷ main (action_of kind.Echo) (reply.Handle h1)
    ∷ main op.GroupCreate (reply.Handle h1)
    ∷ main (start_of_group h1 (pos 1 ∷ [])) (reply.Handle h2)
    ∷ main (start_of_group h1 (pos 2 ∷ [])) (reply.Handle h1)
    ∷ main (start_of_group h1 (pos 3 ∷ [])) (reply.Handle h3)
    ∷ main_not (any h1) reply.Pending (reply.Mtapi status.GroupCompleted)
    ∷ refused (op.AnyLook (group h1) true) status.Timeout reply.Pending
    ∷ second_not (any h1) reply.Pending (reply.Mtapi status.ErrWaitPending)
    ∷ worker (op.Pick) (picked h3 kind.Echo (pos 3 ∷ []))
    ∷ worker (finish h3 kind.Echo (pos 3 ∷ []) (Done (pos 3 ∷ []))) reply.Ok
    ∷ main (op.TaskCancel (task h2)) reply.Ok
    ∷ line 1 (any h1) (reply.Given (task h3) (Completed (pos 3 ∷ []))) (reply.Given (task h2) Cancelled ∷ reply.Pending ∷ [])
    ∷ refused (look h3) status.ErrTaskInvalid (reply.Ended (Completed (pos 3 ∷ [])))
    ∷ main_not (any h1) (reply.Given (task h2) Cancelled) (reply.Given (task h3) (Completed (pos 3 ∷ [])))
    ∷ main_not (any h1) reply.Pending (reply.Mtapi status.GroupCompleted)
    ∷ worker (op.Pick) (picked h1 kind.Echo (pos 2 ∷ []))
    ∷ main (op.TaskCancel (task h1)) reply.Ok
    ∷ main_not (any h1) reply.Pending (reply.Given (task h1) Cancelled)
    ∷ worker (finish h1 kind.Echo (pos 2 ∷ []) (Done (pos 2 ∷ []))) reply.Ok
    ∷ main (op.AnyLook (group h1) true) (reply.Given (task h1) (Completed (pos 2 ∷ [])))
    ∷ refused (any h1) status.GroupCompleted reply.Pending
    ∷ []

-- a whole group: too early while a member hasn't ended; then all members are freed, and the first that wasn't completed is told of
unfoldable pub whole_group : List TableLine
whole_group =
    main op.Initialize reply.Ok
    ∷ main (action_of kind.Echo) (reply.Handle h1)
    ∷ main (op.ActionCreate 2 kind.Fail every_core) (reply.Handle h2)
    ∷ main op.GroupCreate (reply.Handle h1)
    ∷ main (start_of_group h1 (pos 1 ∷ [])) (reply.Handle h1)
    ∷ main_not (look_at_all h1) reply.Pending reply.Ok
    ∷ refused (op.AllLook (group h1) true) status.Timeout reply.Pending
    ∷ worker op.Pick (picked h1 kind.Echo (pos 1 ∷ []))
    ∷ main_not (look_at_all h1) reply.Pending reply.Ok
    ∷ worker (finish h1 kind.Echo (pos 1 ∷ []) (Done (pos 1 ∷ []))) reply.Ok
    ∷ refused (look h1) status.ErrParameter (reply.Ended (Completed (pos 1 ∷ [])))
    ∷ main_not (look_at_all h1) reply.Ok reply.Pending
    ∷ refused (look h1) status.ErrTaskInvalid (reply.Mtapi status.ErrParameter)
    ∷ refused (any h1) status.GroupCompleted (reply.Given (task h1) (Completed (pos 1 ∷ [])))
    ∷ main (start_of_group h1 (pos 1 ∷ [])) (reply.Handle h2)
    ∷ main (op.TaskStart 2 [] 0 every_core false (Some (group h1))) (reply.Handle h3)
    ∷ worker op.Pick (reply.Picked (task h3) (action h2) kind.Fail [])
    ∷ worker (finish h3 kind.Fail [] (Fails status.ErrActionFailed)) reply.Ok
    ∷ main_not (look_at_all h1) reply.Pending (reply.Mtapi status.ErrActionFailed)
    ∷ main (op.TaskCancel (task h2)) reply.Ok
    ∷ line 1 (op.AllLook (group h1) true) (reply.Mtapi status.ErrActionFailed) (reply.Mtapi status.ErrTaskCancelled ∷ reply.Ok ∷ reply.Mtapi status.Timeout
    ∷ [])
    ∷ main_not (look_at_all h1) reply.Ok (reply.Mtapi status.ErrActionFailed)
    ∷ main (op.TaskStart 2 [] 0 every_core false (Some (group h1))) (reply.Handle again1)
    ∷ main (start_of_group h1 (pos 1 ∷ [])) (reply.Handle 4294967299)
    ∷ main (op.TaskCancel (task 4294967299)) reply.Ok
    ∷ worker op.Pick (reply.Picked (task again1) (action h2) kind.Fail [])
    ∷ worker (finish again1 kind.Fail [] (Fails status.ErrActionFailed)) reply.Ok
    ∷ refused (look_at_all h1) status.ErrTaskCancelled (reply.Mtapi status.ErrActionFailed)
    ∷ []

-- a group is deleted: the member that has ended stops being live, and the others become detached
unfoldable pub group_deleted : List TableLine
group_deleted =
    main op.Initialize reply.Ok
    ∷ main (action_of kind.Echo) (reply.Handle h1)
    ∷ main op.GroupCreate (reply.Handle h1)
    ∷ main op.GroupCreate (reply.Handle h2)
    ∷ main (start_of_group h1 []) (reply.Handle h1)
    ∷ main (start_of_group h1 []) (reply.Handle h2)
    ∷ main (start_of_group h2 []) (reply.Handle h3)
    ∷ main (op.TaskCancel (task h1)) reply.Ok
    ∷ main (op.TaskCancel (task h3)) reply.Ok
    ∷ main (op.GroupDelete (group h1)) reply.Ok
    ∷ refused (look h1) status.ErrTaskInvalid (reply.Ended Cancelled)
    ∷ refused (look h2) status.ErrParameter reply.Pending
    ∷ main (op.TaskCancel (task h2)) reply.Ok
    ∷ refused (look h2) status.ErrTaskInvalid (reply.Mtapi status.ErrParameter)
    ∷ main_not (any h2) (reply.Given (task h3) Cancelled) (reply.Mtapi status.GroupCompleted)
    ∷ []

-- four workers: an ordered queue lets its tasks run one after another, so they end in the order of their starts
unfoldable pub ordered_members : List TableLine
ordered_members =
    line 4 op.Initialize reply.Ok []
    ∷ line 4 (action_of kind.Echo) (reply.Handle h1) []
    ∷ line 4 (op.QueueCreate 1 1 0 65536 true false) (reply.Handle h1) []
    ∷ line 4 op.GroupCreate (reply.Handle h1) []
    ∷ line 4 (op.TaskEnqueue (queue h1) (pos 1 ∷ []) every_core false (Some (group h1))) (reply.Handle h1) []
    ∷ line 4 (op.TaskEnqueue (queue h1) (pos 2 ∷ []) every_core false (Some (group h1))) (reply.Handle h2) []
    ∷ line 4 (op.TaskEnqueue (queue h1) (pos 3 ∷ []) every_core false (Some (group h1))) (reply.Handle h3) []
    ∷ line 3 op.Pick (picked h1 kind.Echo (pos 1 ∷ [])) (picked h2 kind.Echo (pos 2 ∷ []) ∷ reply.Idle ∷ [])
    ∷ line 0 op.Pick reply.Idle (picked h2 kind.Echo (pos 2 ∷ []) ∷ [])
    ∷ line 3 (finish h1 kind.Echo (pos 1 ∷ []) (Done (pos 1 ∷ []))) reply.Ok []
    ∷ line 0 op.Pick (picked h2 kind.Echo (pos 2 ∷ [])) (picked h3 kind.Echo (pos 3 ∷ []) ∷ reply.Idle ∷ [])
    ∷ line 1 op.Pick reply.Idle (picked h3 kind.Echo (pos 3 ∷ []) ∷ [])
    ∷ line 0 (finish h2 kind.Echo (pos 2 ∷ []) (Done (pos 2 ∷ []))) reply.Ok []
    ∷ line 1 op.Pick (picked h3 kind.Echo (pos 3 ∷ [])) []
    ∷ line 4 (any h1) (reply.Given (task h1) (Completed (pos 1 ∷ []))) (reply.Given (task h2) (Completed (pos 2 ∷ [])) ∷ [])
    ∷ line 4 (any h1) (reply.Given (task h2) (Completed (pos 2 ∷ []))) []
    ∷ line 1 (finish h3 kind.Echo (pos 3 ∷ []) (Done (pos 3 ∷ []))) reply.Ok []
    ∷ line 4 (any h1) (reply.Given (task h3) (Completed (pos 3 ∷ []))) []
    ∷ line 4 (any h1) (reply.Mtapi status.GroupCompleted) (reply.Pending ∷ [])
    ∷ []

pub record WorkedGroups : Type 0 where
  pub made : IsWorkedTable small groups_made
  pub ends : IsWorkedTable (node_of 1 4 2) order_of_ends
  pub whole : IsWorkedTable (node_of 1 4 2) whole_group
  pub deleted : IsWorkedTable (node_of 1 4 2) group_deleted
  pub ordered : IsWorkedTable (node_of 4 4 2) ordered_members
