-- What is known of a running tally.
use Rattle.std.specs.Prelude.{◌≡◌, ◌⊎◌, ℕ, ◌+◌, ◌<◌, ◌≤◌, true, false, ◌==◌, [], ◌∷◌, length, Some, ℤ, pos}
use Rattle.std.specs.Option.{option_map}
use Rattle.mtapi_values.specs.declared.kinds.Kind.TheVariants.{Tally}
use Rattle.node_steps.specs.Names.{MtapiStatus, ErrParameter, ErrTaskInvalid, slot_value, live_object, Task, runs_as, tally_args, Becomes, Reply, Ended, State, ResourcesStand}
use Rattle.mtapi_values.specs.declared.ends.TaskEnd.{TaskEnd}
use Rattle.mtapi_objects.specs.Mutexes.{Mutex, unlocked}
use Rattle.mtapi_objects.specs.Segments.{with_attached}
use Rattle.task_core.specs.declared.tallies.TallyState.{TallyState}
use Rattle.task_core.specs.declared.tallies.TallyState.TheVariants.{Read, Written}
use Rattle.task_core.specs.Tallies.{adds_of, notes_of}
use Rattle.task_core.specs.Table.{ended_in}
use Rattle.mtapi_machine.specs.Moves.{Mutexes, Segments, alters, after_moves}
use Rattle.node_steps.specs.declared.node.PoolNode.{PoolNode}
use Rattle.node_steps.specs.declared.tally_ops.RunningTally.{RunningTally}

-- the number that it has read or written last
abbrev pub tally_number : TallyState → ℤ
tally_number (Read mutex segment kept) = kept
tally_number (Written mutex segment sum) = sum
tally_number _ = pos 0

-- the task of this handle runs as a tally on the worker, has come so far, and has these arguments
pub record RunsTally (n : PoolNode) (who t : ℕ) (r : RunningTally) : Type 0 where
  pub task : Task
  pub found : slot_value n.scheduler.tasks.pool t ≡ Some task
  pub worker : who < n.scheduler.settings.workers
  pub runs : runs_as who Tally task ≡ true
  pub state : notes_of task.args r.state ≡ task.notes.tally
  pub args : option_map adds_of r.args ≡ tally_args task.args
  pub four : (length task.args == 4) ≡ r.is_four

-- the seat isn't a worker's; or no task of this handle runs as a tally on the worker
abbrev pub NoTally : PoolNode → ℕ → ℕ → MtapiStatus → Type 0
NoTally n who t c =
    ((n.scheduler.settings.workers ≤ who) × (c ≡ ErrParameter))
    ⊎ ((who < n.scheduler.settings.workers) × (c ≡ ErrTaskInvalid) × ((x : Task) → slot_value n.scheduler.tasks.pool t ≡ Some x → runs_as who Tally x ≡ false))

-- the task ends so, and the reply tells it; the worker, which owned the mutex once, has given it and the segment back
pub record GivesBack (n : PoolNode) (who t mutex segment : ℕ) (e : TaskEnd) (r : Reply) (m : PoolNode) : Type 0 where
  pub reply : r ≡ Ended e
  pub core : m.core ≡ n.core
  pub scheduler : Becomes n.scheduler m.scheduler n.scheduler.actions
      (record n.scheduler.tasks {
        pool = ended_in n.scheduler.tasks.pool t e n.scheduler.tasks.ends (slot_value n.scheduler.tasks.pool t);
        ends = n.scheduler.tasks.ends + 1;
      })
  pub resources : (s : State) (x : Mutex) → ResourcesStand s n.resources → live_object s.mutexes mutex ≡ Some x → x.owner ≡ Some who → x.depth ≡ 1
      → ResourcesStand (after_moves (alters Segments segment (with_attached who false) ∷ alters Mutexes mutex unlocked ∷ []) s) m.resources
