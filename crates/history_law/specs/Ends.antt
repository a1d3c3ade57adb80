-- The ends of one task.
use Rattle.std.specs.Prelude.{◌≡◌, ℕ, ◌≤◌, List, ◌∷◌, ◌++◌, Some}
use Rattle.history_law.specs.Names.{TaskEnd, Final, Ok, Terms, entry, listed, NodeEntry, after, end_at}
use Rattle.history_law.specs.Accepted.{accepted, EndsOnce}

-- At most one record is listed under the handle. An end that a prefix shows of it is the end that every longer prefix shows.
pub record OneEnd (terms : Terms) (es : List NodeEntry) (h : ℕ) : Type 0 where
  pub one : listed h (after terms es).tasks ≤ 1
  pub stays : (P M Q : List NodeEntry) (e : TaskEnd) → es ≡ P ++ (M ++ Q) → end_at (after terms P).tasks h ≡ Some e
      → end_at (after terms (P ++ M)).tasks h ≡ Some e

-- where the list has the final step and accepted the task of this handle, the task ends once
abbrev pub EndsAfterClose : Terms → List NodeEntry → ℕ → Type 0
EndsAfterClose terms es h =
    (A B P Q : List NodeEntry) (e : NodeEntry) (main : ℕ) → es ≡ A ++ entry main Final Ok ∷ B → es ≡ P ++ e ∷ Q → accepted e ≡ Some h → EndsOnce terms es h
