-- For fields of laws that no list breaks alone what each refuses: a state, or what a worker has; and what a law says where only its premise
-- can be had.
use Rattle.std.specs.Prelude.{◌≡◌, ℕ, true, false, List, [], ◌∷◌, ◌++◌, pos}
use Rattle.mtapi_values.specs.declared.kinds.Kind.TheVariants as kind
use Rattle.history_law.specs.Names.{ObjectKind, Listed, Task, Running, with_state, no_tally, Terms, State, NodeEntry, after, usual, worked_first_handle, next_handle}
use Rattle.history_law.specs.Words.{is_live_object}
use Rattle.history_law.specs.Reuse.{StaysGone}
use Rattle.history_law.specs.Seats.{Work, HoldsTask, WorkerKeeps}
use Rattle.history_law.specs.RefusedRuns.{started, takes, a_task, state_with_tasks}

-- a task without arguments that worker 0 runs, as a watch; and what the worker has of it
abbrev pub watching_task : Task
watching_task = with_state (Running 0 kind.Watch) a_task

abbrev pub watched : Work
watched = record { kind = kind.Watch; args = []; looks = 0; seen = false; tally = no_tally }

abbrev pub listed_at : ℕ → Listed Task
listed_at h = record { handle = h; live = true; fields = watching_task }

-- the worker runs one task; two; one that has left; another worker's
abbrev pub one_runs : State
one_runs = state_with_tasks (listed_at worked_first_handle ∷ [])

abbrev pub two_run : State
two_run = state_with_tasks (listed_at worked_first_handle ∷ listed_at next_handle ∷ [])

abbrev pub has_left : State
has_left = state_with_tasks (record (listed_at worked_first_handle) { live = false } ∷ [])

pub record FieldsRefuse : Type 0 where
  -- the worker has that task and no other one; so it has not another one, nor one of which anything differs
  pub has : HoldsTask one_runs 0 worked_first_handle watched
  pub alone : HoldsTask two_run 0 worked_first_handle watched → ⊥
  pub found : HoldsTask one_runs 0 next_handle watched → ⊥
  pub left : HoldsTask has_left 0 worked_first_handle watched → ⊥
  pub worker : HoldsTask one_runs 1 worked_first_handle watched → ⊥
  pub kind : HoldsTask one_runs 0 worked_first_handle (record watched { kind = kind.Tally }) → ⊥
  pub arguments : HoldsTask one_runs 0 worked_first_handle (record watched { args = pos 1 ∷ [] }) → ⊥
  pub looked : HoldsTask one_runs 0 worked_first_handle (record watched { looks = 1 }) → ⊥
  pub reported : HoldsTask one_runs 0 worked_first_handle (record watched { seen = true }) → ⊥
  pub did : HoldsTask one_runs 0 worked_first_handle (record watched { tally = record no_tally { stage = 1 } }) → ⊥
  -- a worker without a task doesn't get one
  pub free : WorkerKeeps (after usual started) (after usual (started ++ takes)) 0 → ⊥
  -- an object that has gone isn't live after what follows
  pub dead : (terms : Terms) (before behind : List NodeEntry) (k : ObjectKind) (h : ℕ) → StaysGone terms before behind k h
      → is_live_object k h (after terms (before ++ behind)) ≡ false
