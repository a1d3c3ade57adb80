-- Worked: layout two, in which a handle names the kind of its object.
use Rattle.std.specs.Prelude.{false, List, [], ◌∷◌, pos}
use Rattle.mtapi_values.specs.declared.kinds.Kind.TheVariants as kind
use Rattle.mtapi_values.specs.declared.statuses.MtapiStatus.TheVariants as status
use Rattle.mtapi_values.specs.declared.statuses.MrapiStatus.TheVariants as code
use Rattle.mtapi_machine.specs.Names.{Two, Cancelled}
use Rattle.mtapi_machine.specs.declared.terms.Terms.{Terms}
use Rattle.mtapi_machine.specs.declared.ops.Op.TheVariants as op
use Rattle.mtapi_machine.specs.declared.replies.Reply.TheVariants as reply
use Rattle.mtapi_machine.specs.Tables.{TableLine, IsWorkedTable, line, main, main_not, refused, denied, h1, again1, action, task, group, queue, mutex, action_of, start, look}

-- one worker, two callers, and room for one object of each kind
abbrev pub single : Terms
single = record {
  layout = Two;
  settings = record { workers = 1; tasks = 1; actions = 1; groups = 1; queues = 1; objects = 1; priorities = 4; generations = 4294967295 };
  callers = 2;
}

-- the first handles of an action, a task and a group name their kinds, and each is invalid for another kind
unfoldable pub kinds_named : List TableLine
kinds_named =
    main op.Initialize reply.Ok
    ∷ line 1 (action_of kind.Add) (reply.Handle 4311744512) (reply.Handle h1 ∷ reply.Handle 4328521728 ∷ [])
    ∷ line 1 op.GroupCreate (reply.Handle 4345298944) (reply.Handle h1 ∷ reply.Handle 4328521728 ∷ [])
    ∷ line 1 (start (pos 1 ∷ [])) (reply.Handle 4328521728) (reply.Handle h1 ∷ reply.Handle 4345298944 ∷ [])
    ∷ refused (look 4345298944) status.ErrTaskInvalid reply.Pending
    ∷ refused (look h1) status.ErrTaskInvalid reply.Pending
    ∷ refused (op.AllLook (group 4328521728) false) status.ErrGroupInvalid reply.Ok
    ∷ refused (op.ActionDelete (action 4328521728)) status.ErrActionInvalid reply.Ok
    ∷ line 0 op.Pick (reply.Picked (task 4328521728) (action 4311744512) kind.Add (pos 1 ∷ [])) (reply.Picked (task h1) (action h1) kind.Add (pos 1 ∷ [])
    ∷ reply.Idle ∷ [])
    ∷ []

-- a place that is used again has the next generation of its kind
unfoldable pub kinds_again : List TableLine
kinds_again =
    main op.Initialize reply.Ok
    ∷ main (action_of kind.Add) (reply.Handle 4311744512)
    ∷ main (start []) (reply.Handle 4328521728)
    ∷ main (op.TaskCancel (task 4328521728)) reply.Ok
    ∷ main (look 4328521728) (reply.Ended Cancelled)
    ∷ line 1 (start []) (reply.Handle 8623489024) (reply.Handle again1 ∷ reply.Handle 4328521728 ∷ [])
    ∷ main_not (look 8623489024) reply.Pending (reply.Mtapi status.ErrTaskInvalid)
    ∷ []

-- queues and the four kinds of resources
unfoldable pub other_kinds : List TableLine
other_kinds =
    main op.Initialize reply.Ok
    ∷ main (action_of kind.Add) (reply.Handle 4311744512)
    ∷ main_not (op.QueueCreate 1 1 0 1 false false) (reply.Handle 4362076160) (reply.Handle h1)
    ∷ main_not (op.MutexCreate 1 false) (reply.Handle 4378853376) (reply.Handle h1)
    ∷ main_not (op.SemCreate 1 1) (reply.Handle 4395630592) (reply.Handle 4378853376)
    ∷ main_not (op.RwlCreate 1 1) (reply.Handle 4412407808) (reply.Handle 4395630592)
    ∷ main_not (op.ShmemCreate 1 1) (reply.Handle 4429185024) (reply.Handle 4412407808)
    ∷ main_not (op.QueueGet 1) (reply.Handle 4362076160) (reply.Handle h1)
    ∷ main_not (op.MutexGet 1) (reply.Handle 4378853376) (reply.Handle h1)
    ∷ denied (op.MutexLook (mutex 4395630592) false) code.ErrMutexInvalid (reply.Number (pos 1))
    ∷ refused (op.QueueDelete (queue 4378853376)) status.ErrQueueInvalid reply.Ok
    ∷ []

pub record WorkedLayouts : Type 0 where
  pub named : IsWorkedTable single kinds_named
  pub again : IsWorkedTable single kinds_again
  pub others : IsWorkedTable single other_kinds
