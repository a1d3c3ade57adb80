-- What a worker takes.
use Rattle.std.specs.Prelude.{◌≡◌, ℕ, ℤ, List, Option, Some}
use Rattle.mtapi_values.specs.declared.handles.ActionHandle.{ActionHandle}
use Rattle.node_steps.specs.Names.{TaskHandle, slot_value, changed, Task, Running, with_state, Becomes, State, Allows, row, Reply, Picked}
use Rattle.mtapi_values.specs.declared.kinds.Kind.{Kind}
use Rattle.task_board.specs.declared.scheduler.Choice.{Choice}
use Rattle.task_board.specs.Picks.{IsChoice, NoneBetter}
use Rattle.mtapi_machine.specs.declared.ops.Op.TheVariants.{Pick}
use Rattle.node_steps.specs.declared.node.PoolNode.{PoolNode}

-- the worker takes what was chosen: the reply says what it is, and the task runs on the worker; all else is as it was
pub record TakesChoice (n : PoolNode) (w : ℕ) (c : Choice) (r : Reply) (m : PoolNode) : Type 0 where
  pub t : Task
  pub task : slot_value n.scheduler.tasks.pool c.task.0 ≡ Some t
  pub reply : r ≡ Picked c.task c.action c.kind t.args
  pub core : m.core ≡ n.core
  pub resources : m.resources ≡ n.resources
  pub scheduler : Becomes n.scheduler m.scheduler n.scheduler.actions
      (record n.scheduler.tasks { pool = changed n.scheduler.tasks.pool c.task.0 (with_state (Running w c.kind)) })

-- the seat may take this task by this action, of this kind and with these arguments
abbrev pub MayPick : State → ℕ → TaskHandle → ActionHandle → Kind → List ℤ → Type 0
MayPick s who task action kind args = Allows (row s who Pick (Picked task action kind args)) (Picked task action kind args)

-- the choice of this task and this action was found, where these may be taken and no task of a smaller priority may be
abbrev pub IsToward : PoolNode → ℕ → TaskHandle → ActionHandle → Option Choice → Type 0
IsToward n w task action found =
    (c : Choice) → c.task ≡ task → c.action ≡ action → IsChoice n.scheduler.actions n.scheduler.tasks.pool n.scheduler.queues.pool w c
    → NoneBetter n.scheduler.actions n.scheduler.tasks.pool n.scheduler.queues.pool w c.priority → found ≡ Some c
