-- Where tasks run.
use Rattle.std.specs.Prelude.{◌≡◌, ℕ, true, List, ◌∷◌, ◌++◌, ℤ, length, Option, Some, None}
use Rattle.history_law.specs.Names.{Kind, TaskHandle, ActionHandle, entry, Op, ActionCreate, TaskStart, TaskEnqueue, Pick, Picked, NodeEntry}
use Rattle.mtapi_values.specs.declared.handles.ObjectKind.TheVariants as kind
use Rattle.mtapi_values.specs.Masks.{in_mask}
use Rattle.history_law.specs.Words.{some_entry, issues}

-- the mask with which an op starts a task, and the one with which it makes an action
abbrev pub task_mask : Op → Option ℕ
task_mask (TaskStart job args priority cores detached group) = Some cores.0
task_mask (TaskEnqueue q args cores detached group) = Some cores.0
task_mask _ = None

abbrev pub action_mask : Op → Option ℕ
action_mask (ActionCreate job kind cores) = Some cores.0
action_mask _ = None

-- one of these entries started the task, and one made the action; and the worker is in the mask with which an entry did so
pub record IsAllowed (before : List NodeEntry) (w t a : ℕ) : Type 0 where
  pub started : some_entry (issues kind.Task t) before ≡ true
  pub made : some_entry (issues kind.Action a) before ≡ true
  pub task : (A B : List NodeEntry) (e : NodeEntry) (m : ℕ) → before ≡ A ++ e ∷ B → issues kind.Task t e ≡ true → task_mask e.op ≡ Some m → in_mask w m ≡ true
  pub action : (A B : List NodeEntry) (e : NodeEntry) (m : ℕ) → before ≡ A ++ e ∷ B → issues kind.Action a e ≡ true → action_mask e.op ≡ Some m
      → in_mask w m ≡ true

-- a pick at this place, counted from 0, obeys the masks that the entries before it gave
abbrev pub ObeysMasks : List NodeEntry → ℕ → Type 0
ObeysMasks es place =
    (P R : List NodeEntry) (w : ℕ) (t : TaskHandle) (a : ActionHandle) (k : Kind) (args : List ℤ) → es ≡ P ++ entry w Pick (Picked t a k args) ∷ R
    → length P ≡ place → IsAllowed P w t.0 a.0
