-- Ops and replies without a list of arguments, in little room.
use Rattle.std.specs.Prelude.{[], ◌∷◌}
use Rattle.mtapi_values.specs.declared.ends.TaskEnd.{TaskEnd}
use Rattle.mtapi_values.specs.declared.ends.TaskEnd.TheVariants as task_end
use Rattle.mtapi_machine.specs.declared.ops.Op.{Op}
use Rattle.mtapi_machine.specs.declared.ops.Op.TheVariants as op
use Rattle.mtapi_machine.specs.declared.replies.Reply.{Reply}
use Rattle.mtapi_machine.specs.declared.replies.Reply.TheVariants as reply
use Rattle.node_journals.specs.declared.short_ops.ShortOp.{ShortOp}
use Rattle.node_journals.specs.declared.short_ops.ShortOp.TheVariants.{
  Pick,
  TaskLook,
  TaskCancel,
  AllLook,
  AnyLook,
  Asked,
  WatchEnd,
  TallyLock,
  TallyRead,
  TallyWrite,
  TallyEnd,
  MutexLook,
  MutexUnlock,
  SemLook,
  SemUnlock,
  RwlLook,
  RwlUnlock,
  ShmemRead,
  ShmemWrite,
}
use Rattle.node_journals.specs.declared.short_replies.ShortTaskEnd.{ShortTaskEnd}
use Rattle.node_journals.specs.declared.short_replies.ShortTaskEnd.TheVariants as short_end
use Rattle.node_journals.specs.declared.short_replies.ShortReply.{ShortReply}
use Rattle.node_journals.specs.declared.short_replies.ShortReply.TheVariants as short

-- the op that a short one stands for
abbrev pub op_in_full : ShortOp → Op
op_in_full Pick = op.Pick
op_in_full (TaskLook task last) = op.TaskLook task last
op_in_full (TaskCancel task) = op.TaskCancel task
op_in_full (AllLook group last) = op.AllLook group last
op_in_full (AnyLook group last) = op.AnyLook group last
op_in_full (Asked task) = op.Asked task
op_in_full (WatchEnd task) = op.WatchEnd task
op_in_full (TallyLock task) = op.TallyLock task
op_in_full (TallyRead task) = op.TallyRead task
op_in_full (TallyWrite task value) = op.TallyWrite task value
op_in_full (TallyEnd task) = op.TallyEnd task
op_in_full (MutexLook mutex last) = op.MutexLook mutex last
op_in_full (MutexUnlock mutex key) = op.MutexUnlock mutex key
op_in_full (SemLook sem last) = op.SemLook sem last
op_in_full (SemUnlock sem) = op.SemUnlock sem
op_in_full (RwlLook rwl writer last) = op.RwlLook rwl writer last
op_in_full (RwlUnlock rwl writer) = op.RwlUnlock rwl writer
op_in_full (ShmemRead shmem cell) = op.ShmemRead shmem cell
op_in_full (ShmemWrite shmem cell value) = op.ShmemWrite shmem cell value

-- the end of a task that a short one stands for
abbrev pub task_end_in_full : ShortTaskEnd → TaskEnd
task_end_in_full (short_end.Number z) = task_end.Completed (z ∷ [])
task_end_in_full short_end.Cancelled = task_end.Cancelled
task_end_in_full (short_end.Failed status) = task_end.Failed status

-- the reply that a short one stands for
abbrev pub reply_in_full : ShortReply → Reply
reply_in_full short.Ok = reply.Ok
reply_in_full (short.Handle handle) = reply.Handle handle
reply_in_full (short.Number z) = reply.Number z
reply_in_full (short.Ended end) = reply.Ended (task_end_in_full end)
reply_in_full (short.Given task end) = reply.Given task (task_end_in_full end)
reply_in_full short.Pending = reply.Pending
reply_in_full short.Idle = reply.Idle
reply_in_full short.Stop = reply.Stop
reply_in_full (short.Asked requested) = reply.Asked requested
reply_in_full (short.Mtapi status) = reply.Mtapi status
reply_in_full (short.Mrapi status) = reply.Mrapi status
