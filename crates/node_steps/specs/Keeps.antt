-- What a scheduler keeps beside its pools, as the machine's state says it.
use Rattle.std.specs.Prelude.{◌≡◌, ◌↔◌, ℕ, ◌<◌, Bool, true, ◌&&◌, ◌==◌, List, map, Some, slice_get}
use Rattle.node_steps.specs.Names.{holds, TaskHandle, slot_value, used_at, live_of, live_object, Task, is_unstarted, runs_on, Ending, is_unended_member, endings, is_unended_in, HeldQueue, SchedulerTable, running_on, State, workers}
use Rattle.linked_places.specs.Lists.{list_at, has_handle}
use Rattle.ready_index.specs.Marks.{mark_at, is_for_at}
use Rattle.group_core.specs.Members.{Members}
use Rattle.mtapi_machine.specs.WorkRows.{can_take}

-- the list has exactly the live tasks that pass, in the order of their starts
pub record ListsByStart (s : State) (p : Task → Bool) (hs : List ℕ) : Type 0 where
  pub has : (h : ℕ) → (has_handle h hs ≡ true) ↔ ((x : Task) × (live_object s.tasks h ≡ Some x) × (p x ≡ true))
  pub in_order : (i j h k : ℕ) (x y : Task) → i < j → slice_get hs i ≡ Some h → slice_get hs j ≡ Some k → live_object s.tasks h ≡ Some x
      → live_object s.tasks k ≡ Some y → x.start < y.start

pub record Keeps (s : State) (b : SchedulerTable) : Type 0 where
  -- a slot is marked for a worker, with a priority, exactly where its task is ready, has this priority, and has an eligible action on this worker
  pub marks : (w p place : ℕ) → w < workers s
      → is_for_at w p (mark_at b.ready.marks place) ≡ holds (λ e. can_take s w e.1 && (p == e.1.priority)) (used_at place (slice_get b.tasks.pool.slots place))
  -- the task that stands beside a worker is the one that runs there
  pub running : (w : ℕ) (t : TaskHandle) → (running_on b.running w ≡ Some t) ↔ ((x : Task) × (live_object s.tasks t.0 ≡ Some x) × (runs_on w x ≡ true))
  -- the waiting tasks are those that are scheduled
  pub waiting : ListsByStart s is_unstarted (list_at b.waiting.lists 0)
  -- the list of each live queue has its unended tasks
  pub queues : (q : ℕ) (x : HeldQueue) → slot_value b.queues.pool q ≡ Some x → ListsByStart s (is_unended_in q) x.tasks
  -- the lists of each live group are its members: those that haven't ended, and those that have, in the order of their ends
  pub members : (g : ℕ) (m : Members) → slot_value b.groups.pool g ≡ Some m → ListsByStart s (is_unended_member g) m.unended
  pub ended : (g : ℕ) (m : Members) → slot_value b.groups.pool g ≡ Some m → m.ended ≡ map (λ (e : Ending). e.task) (endings g (live_of s.tasks))
