-- What becomes of every task that was accepted.
use Rattle.std.specs.Prelude.{◌≡◌, ℕ, List, [], ◌∷◌, ◌++◌, Option, Some, None, IsSome}
use Rattle.history_law.specs.Names.{TaskEnd, listed, Op, TaskStart, TaskEnqueue, Final, Reply, Ok, Handle, Terms, entry, NodeEntry, Legal, after, end_at}

-- the handle that a reply issues
abbrev pub issued_by : Reply → Option ℕ
issued_by (Handle h) = Some h
issued_by _ = None

-- the handle of the task that an entry accepted: a start or an enqueue that was answered with a handle, and no other op
abbrev pub accepted_by : Op → Reply → Option ℕ
accepted_by (TaskStart job args priority cores detached group) r = issued_by r
accepted_by (TaskEnqueue q args cores detached group) r = issued_by r
accepted_by o r = None

abbrev pub accepted : NodeEntry → Option ℕ
accepted e = accepted_by e.op e.reply

-- The task of this handle has one record, which is ended at the end of the list. A prefix that shows an end of it shows that end, and so
-- does every longer prefix.
pub record EndsOnce (terms : Terms) (es : List NodeEntry) (h : ℕ) : Type 0 where
  pub one : listed h (after terms es).tasks ≡ 1
  pub end : TaskEnd
  pub ended : end_at (after terms es).tasks h ≡ Some end
  pub stays : (P M Q : List NodeEntry) → es ≡ P ++ (M ++ Q) → IsSome (end_at (after terms P).tasks h) → end_at (after terms (P ++ M)).tasks h ≡ Some end

-- every task that an entry of the list accepted ends once
abbrev pub TasksEndOnce : Terms → List NodeEntry → Type 0
TasksEndOnce terms es = (P Q : List NodeEntry) (e : NodeEntry) (h : ℕ) → es ≡ P ++ e ∷ Q → accepted e ≡ Some h → EndsOnce terms es h

-- in a legal list that ends with the final step, every task that was accepted ends once
abbrev pub AcceptedTasksEndOnce : Type 0
AcceptedTasksEndOnce = (terms : Terms) (es before : List NodeEntry) (main : ℕ) → Legal terms es → es ≡ before ++ entry main Final Ok ∷ []
    → TasksEndOnce terms es
