-- Queues: what a queue is, and which of its tasks may begin. The tasks of a queue are those that name it, in the order of their starts.
use Rattle.std.specs.Prelude.{ℕ, Bool, not, ◌&&◌, ◌||◌, ◌==◌, nat_lt, List, [], ◌∷◌}
use Rattle.mtapi_values.specs.declared.statuses.MtapiStatus.{MtapiStatus}
use Rattle.mtapi_values.specs.declared.statuses.MtapiStatus.TheVariants.{ErrQueueDisabled}
use Rattle.mtapi_values.specs.Conditions.{holds}
use Rattle.handle_pool.specs.Issued.{Listed, any_live, live_object}
use Rattle.mtapi_objects.specs.Tasks.{Task, is_unstarted, is_unended}

-- its id, the job and the priority of its tasks, how many unended tasks it holds at most, whether they run one
-- after another, whether it takes and keeps tasks while it is disabled, and whether it is enabled
pub record Queue : Type 0 where
  pub id : ℕ
  pub job : ℕ
  pub priority : ℕ
  pub limit : ℕ
  pub ordered : Bool
  pub retain : Bool
  pub enabled : Bool

-- the queue, enabled or disabled
abbrev pub opened : Bool → Queue → Queue
opened on q = record q { enabled = on }

-- the task names the queue
abbrev pub is_in : ℕ → Task → Bool
is_in q t = holds (λ h. h == q) t.queue

-- the task names the queue and hasn't begun
abbrev pub is_waiting_in : ℕ → Task → Bool
is_waiting_in q t = is_in q t && is_unstarted t

-- the task names the queue and hasn't ended
abbrev pub is_unended_in : ℕ → Task → Bool
is_unended_in q t = is_in q t && is_unended t

-- what an enqueue is refused for before anything else of the queue: it is disabled and doesn't retain
abbrev pub put_refusals : Queue → List (Bool × MtapiStatus)
put_refusals q = (not q.enabled && not q.retain, ErrQueueDisabled) ∷ []

-- no unended task of the queue was started before this one
abbrev pub is_head : ℕ → Task → List (ℕ × Task) → Bool
is_head q t tasks = not (any_live (λ u. is_unended_in q u && nat_lt u.start t.start) tasks)

-- the queue lets the task begin
abbrev pub lets : ℕ → Task → List (ℕ × Task) → Queue → Bool
lets h t tasks q = q.enabled && (not q.ordered || is_head h t tasks)

-- the task's queue is disabled
abbrev pub is_shut_in : List (Listed Queue) → Task → Bool
is_shut_in queues t = holds (λ h. holds (λ q. not q.enabled) (live_object queues h)) t.queue
