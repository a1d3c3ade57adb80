-- The rows of the ops by which workers take tasks and end them.
use Rattle.std.specs.Prelude.{ℕ, Bool, not, ◌&&◌, ◌||◌, nat_lt, [], ◌∷◌, is_none, if◌then◌else◌}
use Rattle.mtapi_values.specs.declared.statuses.MtapiStatus.TheVariants as m
use Rattle.mtapi_machine.specs.Names.{TaskEnd, Completed, Failed, holds, ActEnd, Done, Fails, Answered, live_of, live_object, any_listed, is_eligible, Task, is_unstarted, runs_on, finish_refusals, asked_refusals, asked_once, watch_end_refusals, watch_end, lets}
use Rattle.mtapi_machine.specs.declared.replies.Reply.{Reply}
use Rattle.mtapi_machine.specs.declared.replies.Reply.TheVariants.{Ok, Ended, Picked, Idle, Stop, Asked, Mtapi}
use Rattle.mtapi_machine.specs.State.{State, workers, is_new, is_stop, actions, tasks}
use Rattle.mtapi_machine.specs.Moves.{stops, runs_task, ends_task, notes}
use Rattle.mtapi_machine.specs.Row.{Row, unless, says, gives, only, mtapi_unless, work, on, chosen}

-- Picking

-- the task is scheduled, and its queue, if it has one, lets it begin
unfoldable pub is_ready : State → Task → Bool
is_ready s t = is_unstarted t && (is_none t.queue || holds (λ h. holds (lets h t (live_of s.tasks)) (live_object s.queues h)) t.queue)

-- the task is ready, and the worker has an eligible action for it
unfoldable pub can_take : State → ℕ → Task → Bool
can_take s w t = is_ready s t && any_listed (is_eligible (workers s) w t.job t.cores) s.actions

-- the worker could take a task of a smaller priority
unfoldable pub has_better : State → ℕ → ℕ → Bool
has_better s w priority = any_listed (λ t. can_take s w t && nat_lt t.priority priority) s.tasks

-- the worker takes the task and the action that the reply chooses: a ready task, by an eligible action, and none of a
-- smaller priority could be taken; or it is idle, where there is nothing that it could take
abbrev pub picks : State → ℕ → Reply → Row
picks s w (Picked t a k args) =
    chosen tasks s t.0 (λ x. chosen actions s a.0 (λ y.
    only (is_ready s x && is_eligible (workers s) w x.job x.cores y && not (has_better s w x.priority))
    (gives (Picked t a y.kind x.args) (runs_task t.0 w y.kind ∷ []))))
picks s w _ = only (not (any_listed (can_take s w) s.tasks)) (says Idle)

-- a worker that runs a task may not pick; in New there is nothing to take; late, and without a task that hasn't ended, it stops
abbrev pub pick : State → ℕ → Reply → Row
pick s who r =
    work s who (unless (any_listed (runs_on who) s.tasks) (Mtapi m.ErrParameter)
    (unless (is_new s.phase) Idle (if is_stop s then gives Stop (stops who ∷ []) else picks s who r)))

-- Ending

-- how a task ends whose action answered so
abbrev pub task_end : ActEnd → TaskEnd
task_end (Done args) = Completed args
task_end (Fails status) = Failed status

abbrev pub finish : State → ℕ → ℕ → Answered → Row
finish s who t done =
    work s who (on tasks s t (λ x. mtapi_unless (finish_refusals who done.kind done.args x) (gives Ok (ends_task t (task_end done.end) ∷ []))))

-- a watch is told whether cancelling was requested
abbrev pub asked : State → ℕ → ℕ → Row
asked s who t =
    work s who (on tasks s t (λ x. mtapi_unless (asked_refusals who x) (gives (Asked x.notes.requested) (notes t asked_once ∷ []))))

abbrev pub ends_watch : State → ℕ → ℕ → Row
ends_watch s who t =
    work s who (on tasks s t (λ x. mtapi_unless (watch_end_refusals who x) (gives (Ended (watch_end x)) (ends_task t (watch_end x) ∷ []))))
