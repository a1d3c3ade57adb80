-- Worked: the phases of a node, and what each op answers in a phase in which it is refused. One worker, two callers.
use Rattle.std.specs.Prelude.{false, List, [], ◌∷◌, ◌++◌, pos}
use Rattle.mtapi_values.specs.declared.kinds.Kind.TheVariants as kind
use Rattle.mtapi_values.specs.declared.statuses.MtapiStatus.TheVariants as status
use Rattle.mtapi_values.specs.declared.statuses.MrapiStatus.TheVariants as code
use Rattle.action_fn.specs.declared.finished.ActEnd.TheVariants.{Done}
use Rattle.mtapi_machine.specs.declared.ops.Op.{Op}
use Rattle.mtapi_machine.specs.declared.ops.Op.TheVariants as op
use Rattle.mtapi_machine.specs.declared.replies.Reply.TheVariants as reply
use Rattle.mtapi_machine.specs.Tables.{TableLine, IsWorkedTable, small, worker, main, worker_not, main_not, second_not, refused, denied, each, h1, action, task, group, queue, mutex, sem, rwl, segment, action_of, start, put_in, look, finish}

-- the ops of MTAPI and of MRAPI that are refused in Closing too, and those that aren't
abbrev pub mtapi_makers : List Op
mtapi_makers =
    op.Release
    ∷ action_of kind.Add
    ∷ op.ActionDelete (action h1)
    ∷ op.ActionDisable (action h1)
    ∷ op.ActionEnable (action h1)
    ∷ start []
    ∷ put_in h1 []
    ∷ op.GroupCreate
    ∷ op.GroupDelete (group h1)
    ∷ op.QueueCreate 1 1 0 1 false false
    ∷ op.QueueEnable (queue h1)
    ∷ op.QueueDisable (queue h1)
    ∷ op.QueueDelete (queue h1)
    ∷ []

abbrev pub mtapi_others : List Op
mtapi_others =
    op.JobGet 1
    ∷ look h1
    ∷ op.TaskCancel (task h1)
    ∷ op.AllLook (group h1) false
    ∷ op.AnyLook (group h1) false
    ∷ op.QueueGet 1
    ∷ []

abbrev pub mrapi_makers : List Op
mrapi_makers =
    op.MutexCreate 1 false
    ∷ op.MutexDelete (mutex h1)
    ∷ op.SemCreate 1 1
    ∷ op.SemDelete (sem h1)
    ∷ op.RwlCreate 1 1
    ∷ op.RwlDelete (rwl h1)
    ∷ op.ShmemCreate 1 1
    ∷ op.ShmemDelete (segment h1)
    ∷ []

abbrev pub mrapi_others : List Op
mrapi_others =
    op.MutexGet 1
    ∷ op.MutexLook (mutex h1) false
    ∷ op.MutexUnlock (mutex h1) 1
    ∷ op.SemGet 1
    ∷ op.SemLook (sem h1) false
    ∷ op.SemUnlock (sem h1)
    ∷ op.RwlGet 1
    ∷ op.RwlLook (rwl h1) false false
    ∷ op.RwlUnlock (rwl h1) false
    ∷ op.ShmemGet 1
    ∷ op.ShmemAttach (segment h1)
    ∷ op.ShmemDetach (segment h1)
    ∷ op.ShmemRead (segment h1) 0
    ∷ op.ShmemWrite (segment h1) 0 (pos 1)
    ∷ []

-- the ops of workers that name a task
abbrev pub steps : List Op
steps =
    finish h1 kind.Add [] (Done (pos 0 ∷ []))
    ∷ op.Asked (task h1)
    ∷ op.WatchEnd (task h1)
    ∷ op.TallyLock (task h1)
    ∷ op.TallyRead (task h1)
    ∷ op.TallyWrite (task h1) (pos 1)
    ∷ op.TallyEnd (task h1)
    ∷ []

-- New: every op of MTAPI and MRAPI is refused, by callers and by workers alike
unfoldable pub in_new : List TableLine
in_new =
    each 1 mtapi_makers (reply.Mtapi status.ErrNodeNotinit) reply.Ok
    ++ each 1 mtapi_others (reply.Mtapi status.ErrNodeNotinit) reply.Pending
    ++ each 1 mrapi_makers (reply.Mrapi code.ErrNodeNotinit) (reply.Handle h1)
    ++ each 0 mrapi_others (reply.Mrapi code.ErrNodeNotinit) (reply.Mrapi code.ErrParameter)
    ++ each 0 steps (reply.Mtapi status.ErrTaskInvalid) reply.Ok
    ++ refused op.Final status.ErrNodeNotinit (reply.Mtapi status.ErrNodeInitialized)
    ∷ second_not op.Enter reply.Pending (reply.Mtapi status.ErrNodeNotinit)
    ∷ worker_not op.Pick reply.Idle reply.Stop
    ∷ refused op.Pick status.ErrParameter reply.Idle
    ∷ main op.Initialize reply.Ok
    ∷ []

-- Open: what a seat may not ask for. Then Closing: no new objects, and no object is given up
unfoldable pub in_closing : List TableLine
in_closing =
    main op.Initialize reply.Ok
    ∷ refused op.Initialize status.ErrNodeInitialized reply.Ok
    ∷ refused op.Final status.ErrNodeInitialized reply.Ok
    ∷ second_not op.Enter reply.Pending reply.Ok
    ∷ main op.Release reply.Ok
    ∷ main_not op.Release reply.Ok (reply.Mtapi status.ErrNodeInitialized)
    ∷ second_not op.Enter reply.Ok reply.Pending
    ∷ refused op.Pick status.ErrParameter reply.Idle
    ∷ worker_not op.Pick reply.Idle reply.Stop
    ∷ each 1 steps (reply.Mtapi status.ErrParameter) (reply.Mtapi status.ErrTaskInvalid)
    ++ each 0 mrapi_makers (reply.Mrapi code.ErrParameter) (reply.Handle h1)
    ++ each 0 mrapi_others (reply.Mrapi code.ErrParameter) reply.Pending
    ++ main op.Close reply.Ok
    ∷ refused op.Close status.ErrNodeNotinit reply.Ok
    ∷ refused op.Initialize status.ErrNodeInitialized reply.Ok
    ∷ second_not op.Enter (reply.Mtapi status.ErrNodeNotinit) reply.Ok
    ∷ refused op.Final status.ErrNodeInitialized reply.Ok
    ∷ each 1 mtapi_makers (reply.Mtapi status.ErrNodeNotinit) reply.Ok
    ++ each 0 mrapi_makers (reply.Mrapi code.ErrNodeNotinit) (reply.Mrapi code.ErrParameter)
    ++ refused (look h1) status.ErrTaskInvalid (reply.Mtapi status.ErrNodeNotinit)
    ∷ refused (op.JobGet 1) status.ErrJobInvalid (reply.Mtapi status.ErrNodeNotinit)
    ∷ refused (op.QueueGet 1) status.ErrQueueInvalid (reply.Mtapi status.ErrNodeNotinit)
    ∷ denied (op.MutexGet 1) code.ErrMutexIdInvalid (reply.Mrapi code.ErrNodeNotinit)
    ∷ worker_not op.Pick reply.Stop reply.Idle
    ∷ main op.Final reply.Ok
    ∷ []

-- Closed: every op is refused again
unfoldable pub in_closed : List TableLine
in_closed =
    second_not op.Enter reply.Pending reply.Ok
    ∷ main_not op.Close reply.Ok (reply.Mtapi status.ErrNodeNotinit)
    ∷ worker op.Pick reply.Stop
    ∷ main op.Final reply.Ok
    ∷ refused op.Final status.ErrNodeNotinit reply.Ok
    ∷ refused op.Initialize status.ErrNodeInitialized reply.Ok
    ∷ refused op.Close status.ErrNodeNotinit reply.Ok
    ∷ second_not op.Enter (reply.Mtapi status.ErrNodeNotinit) reply.Pending
    ∷ each 1 mtapi_makers (reply.Mtapi status.ErrNodeNotinit) reply.Ok
    ++ each 1 mtapi_others (reply.Mtapi status.ErrNodeNotinit) reply.Pending
    ++ each 1 mrapi_makers (reply.Mrapi code.ErrNodeNotinit) (reply.Handle h1)
    ++ each 0 mrapi_others (reply.Mrapi code.ErrNodeNotinit) (reply.Mrapi code.ErrParameter)
    ++ each 0 steps (reply.Mtapi status.ErrTaskInvalid) reply.Ok
    ++ worker_not op.Pick reply.Stop reply.Idle
    ∷ refused op.Pick status.ErrParameter reply.Stop
    ∷ []

pub record WorkedPhases : Type 0 where
  pub in_new : IsWorkedTable small in_new
  pub in_closing : IsWorkedTable small in_closing
  pub in_closed : IsWorkedTable small in_closed
