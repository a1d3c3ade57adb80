-- What an op that makes an object is refused for before it is asked whether there is room, in the order of its row.
use Rattle.std.specs.Prelude.{◌≡◌, ℕ, ℤ, Bool, not, nat_lt, nat_le, ◌&&◌, ◌||◌, ◌==◌, false, true, List, [], ◌∷◌, ◌++◌, Option, Some, None}
use Rattle.std.specs.Option.{option_map}
use Rattle.node_steps.specs.Names.{first, MtapiStatus, ErrNodeNotinit, ErrParameter, ErrJobInvalid, ErrQueueDisabled, ErrQueueExists, ErrQueueLimit, slot_value, any_listed, has_job, State, is_open, facts_of}
use Rattle.mtapi_values.specs.declared.handles.GroupHandle.{GroupHandle}
use Rattle.mtapi_values.specs.declared.masks.Mask.{Mask}
use Rattle.mtapi_machine.specs.declared.terms.Phase.{Phase}
use Rattle.mtapi_machine.specs.TaskRows.{asked_for, start_refusals, is_detached_member, number_of}
use Rattle.queue_core.specs.declared.facts.QueueFacts.{QueueFacts}
use Rattle.task_board.specs.Members.{names_dead}
use Rattle.node_steps.specs.declared.node.PoolNode.{PoolNode}
use Rattle.node_steps.specs.Stands.{Lists, Live, state_of}

-- that the node isn't open, and then these
abbrev pub phase_refusals : Phase → List (Bool × MtapiStatus) → List (Bool × MtapiStatus)
phase_refusals phase causes = (not (is_open phase), ErrNodeNotinit) ∷ causes

-- a start of a task
abbrev pub task_refusals : State → ℕ → List ℤ → ℕ → Mask → Bool → Option GroupHandle → List (Bool × MtapiStatus)
task_refusals s job args priority cores detached group =
    phase_refusals s.phase
    ((not (nat_lt priority s.terms.settings.priorities) || is_detached_member detached group, ErrParameter)
    ∷ start_refusals s (asked_for job args priority cores detached group))

-- a create of a queue, but for its id
abbrev pub queue_causes : State → ℕ → ℕ → ℕ → List (Bool × MtapiStatus)
queue_causes s job priority limit =
    phase_refusals s.phase
    ((not (nat_lt priority s.terms.settings.priorities) || not (nat_le 1 limit && nat_le limit 65536), ErrParameter)
    ∷ (not (any_listed (has_job job) s.actions), ErrJobInvalid) ∷ [])

abbrev pub queue_refusals : State → ℕ → ℕ → ℕ → ℕ → List (Bool × MtapiStatus)
queue_refusals s id job priority limit = queue_causes s job priority limit ++ (any_listed (λ x. x.id == id) s.queues, ErrQueueExists) ∷ []

-- a task may be put into this queue, which shows these facts, but for want of room among the tasks
pub record MayPut (n : PoolNode) (q : ℕ) (cores : Mask) (detached : Bool) (group : Option GroupHandle) (f : QueueFacts) : Type 0 where
  pub opened : is_open n.core.phase ≡ true
  pub alone : is_detached_member detached group ≡ false
  pub found : Some f ≡ option_map facts_of (slot_value n.scheduler.queues.pool q)
  pub takes : (not f.enabled && not f.retain) ≡ false
  pub room : (f.unended == f.limit) ≡ false
  pub member : names_dead n.scheduler.groups.pool (number_of group) ≡ false
  pub none : (l : Lists) (args : List ℤ) (priority : ℕ) → Live n l
      → first ((not f.enabled && not f.retain, ErrQueueDisabled) ∷ start_refusals (state_of n l) (asked_for f.job args priority cores detached group)
      ++ (f.unended == f.limit, ErrQueueLimit) ∷ []) ≡ None
