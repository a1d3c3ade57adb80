-- All tasks: their slots, and how many were started and have ended.
use Rattle.std.specs.Prelude.{◌≡◌, ℕ, ◌+◌, ◌≤◌, ◌^◌, Bool, true, Option, Some, None, is_some, Result, Ok, Err, count_by, if◌then◌else◌}
use Rattle.mtapi_values.specs.declared.statuses.MtapiStatus.{MtapiStatus}
use Rattle.mtapi_values.specs.declared.statuses.MtapiStatus.TheVariants.{ErrTaskLimit}
use Rattle.mtapi_values.specs.declared.handles.TaskHandle.{TaskHandle}
use Rattle.mtapi_values.specs.declared.ends.TaskEnd.{TaskEnd}
use Rattle.mtapi_values.specs.Conditions.{first}
use Rattle.handle_pool.specs.Slots.{Slot, Slots, IsFull, Inserts, with_value, without}
use Rattle.handle_pool.specs.Walks.{value_passes}
use Rattle.mtapi_objects.specs.Tasks.{Task, Ended, NewTask, new_task, is_unended, with_state, with_notes, with_waiter, task_look_refusals}
use Rattle.task_core.specs.Answers.{without_group, waiter_after}

-- the slots of the tasks, how many tasks were added, and how many have ended
pub record TaskTable : Type 0 where
  pub pool : Slots Task
  pub starts : ℕ
  pub ends : ℕ

-- an add: refused exactly where there is no room; else a scheduled task with the next number of a start
abbrev pub AddsTask : TaskTable → NewTask → Result TaskHandle MtapiStatus → TaskTable → Type 0
AddsTask old task (Ok t) new = (IsFull old.pool → ⊥) × Inserts old.pool new.pool t.0 (new_task task old.starts) × (new.starts ≡ old.starts + 1)
    × (new.ends ≡ old.ends)
AddsTask old task (Err ErrTaskLimit) new = IsFull old.pool × (new ≡ old)
AddsTask old task (Err _) new = ⊥

-- a live task that passes
abbrev pub IsLiveAnd : (Task → Bool) → Option Task → Type 0
IsLiveAnd p None = ⊥
IsLiveAnd p (Some t) = p t ≡ true

-- the slots once the task has ended so: a detached one stops being live
abbrev pub ended_in : Slots Task → ℕ → TaskEnd → ℕ → Option Task → Slots Task
ended_in p h end number None = p
ended_in p h end number (Some t) = if t.notes.detached then without p h else with_value p h (with_state (Ended end number) t)

-- the slots once the task has left its group: an ended one stops being live
abbrev pub detached_in : Slots Task → ℕ → Option Task → Slots Task
detached_in p h None = p
detached_in p h (Some t) = if is_unended t then with_value p h (without_group t) else without p h

-- the slots after a look: an ended task stops being live, another has its waiter set or taken away, and a refusal changes nothing
abbrev pub looked_in : Slots Task → ℕ → ℕ → Bool → Option Task → Slots Task
looked_in p h who last None = p
looked_in p h who last (Some t) =
    if is_some (first (task_look_refusals who t)) then p
    else if is_unended t then with_value p h (with_notes (with_waiter (waiter_after who last)) t) else without p h

-- a slot with a task that hasn't ended
abbrev pub holds_unended : Slot Task → Bool
holds_unended slot = value_passes is_unended slot

-- how many tasks haven't ended
abbrev pub unended_count : Slots Task → ℕ
unended_count p = count_by holds_unended p.slots

-- what the numbers of starts and ends keep: those that were started are those that have ended and those that haven't
pub record AreCounted (p : Slots Task) (starts ends : ℕ) : Type 0 where
  pub once : ends + unended_count p ≡ starts
  pub few : starts ≤ 2 ^ 63
