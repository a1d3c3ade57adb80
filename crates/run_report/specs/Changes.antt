-- What an entry changes in what decides how tasks end, by its op and its reply alone.
use Rattle.std.specs.Prelude.{ℕ, Bool, true, None}
use Rattle.mtapi_values.specs.declared.kinds.Kind.{Kind}
use Rattle.run_report.specs.Names.{Mask, Reply}
use Rattle.mtapi_machine.specs.declared.ops.Op.{Op}
use Rattle.mtapi_machine.specs.declared.ops.Op.TheVariants as op
use Rattle.mtapi_machine.specs.declared.replies.Reply.TheVariants as reply
use Rattle.mtapi_machine.specs.WorkRows.{task_end}
use Rattle.run_report.specs.declared.changes.EndEffect.{EndEffect}
use Rattle.run_report.specs.declared.changes.EndEffect.TheVariants.{Nothing, MakesAction, EnablesAction, DisablesAction, DeletesAction, StartsTask, EnqueuesTask, BeginsTask, EndsTask, CancelsTask, MakesQueue, EnablesQueue, DisablesQueue, DeletesQueue, Closes}

-- a new action is enabled, and so is a new queue
abbrev pub action_made : ℕ → ℕ → Kind → Mask → EndEffect
action_made h job kind cores = MakesAction (record { handle = h; job = job; kind = kind; cores = cores; enabled = true })

abbrev pub queue_made : ℕ → ℕ → Bool → EndEffect
queue_made h job retain = MakesQueue h (record { job = job; retain = retain; enabled = true })

-- what an op of a worker changes
abbrev pub change_by_work : Op → Reply → EndEffect
change_by_work op.Pick (reply.Picked t a k args) = BeginsTask t.0
change_by_work (op.Finish t done) reply.Ok = EndsTask t.0 (task_end done.end)
change_by_work (op.WatchEnd t) (reply.Ended e) = EndsTask t.0 e
change_by_work (op.TallyEnd t) (reply.Ended e) = EndsTask t.0 e
change_by_work _ _ = Nothing

-- what an op on a queue changes, or one of a worker
abbrev pub change_by_queue : Op → Reply → EndEffect
change_by_queue (op.QueueCreate id job priority limit ordered retain) (reply.Handle h) = queue_made h job retain
change_by_queue (op.QueueEnable q) reply.Ok = EnablesQueue q.0
change_by_queue (op.QueueDisable q) reply.Ok = DisablesQueue q.0
change_by_queue (op.QueueDelete q) reply.Ok = DeletesQueue q.0
change_by_queue o r = change_by_work o r

-- what an entry with this op and this reply changes
abbrev pub effect_of : Op → Reply → EndEffect
effect_of op.Close reply.Ok = Closes
effect_of (op.ActionCreate job kind cores) (reply.Handle h) = action_made h job kind cores
effect_of (op.ActionEnable a) reply.Ok = EnablesAction a.0
effect_of (op.ActionDisable a) reply.Ok = DisablesAction a.0
effect_of (op.ActionDelete a) reply.Ok = DeletesAction a.0
effect_of (op.TaskStart job args priority cores detached group) (reply.Handle h) = StartsTask h (record { job = job; cores = cores; queue = None })
effect_of (op.TaskEnqueue q args cores detached group) (reply.Handle h) = EnqueuesTask h q.0 cores
effect_of (op.TaskCancel t) reply.Ok = CancelsTask t.0
effect_of o r = change_by_queue o r
