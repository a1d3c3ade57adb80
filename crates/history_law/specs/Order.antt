-- The order in which a group gives its members.
use Rattle.std.specs.Prelude.{◌≡◌, ℕ, ◌<◌, Bool, true, false, ◌==◌, ◌&&◌, List, [], ◌∷◌, ◌++◌, Option, Some, None, if◌then◌else◌}
use Rattle.history_law.specs.Names.{Listed, Task, TaskState, Scheduled, Running, Op, AnyLook, Reply, Given, Terms, State, NodeEntry, after}
use Rattle.mtapi_objects.specs.Tasks.{Ended}

-- the op looks for any end of this group, and the reply gives this task
abbrev pub looks_for_any : ℕ → Op → Bool
looks_for_any g (AnyLook x last) = x.0 == g
looks_for_any g _ = false

abbrev pub is_given : ℕ → Reply → Bool
is_given h (Given t e) = t.0 == h
is_given h _ = false

-- the entry gives this task of this group
abbrev pub gives_task : ℕ → ℕ → NodeEntry → Bool
gives_task g h e = looks_for_any g e.op && is_given h e.reply

-- the number of the end of a task in this state: ends are numbered in the order in which they come
abbrev pub number_of_end : TaskState → Option ℕ
number_of_end Scheduled = None
number_of_end (Running w k) = None
number_of_end (Ended e n) = Some n

-- the number of its end in the record of this handle's task, live or not
unfoldable pub number_at : List (Listed Task) → ℕ → Option ℕ
number_at [] h = None
number_at (r ∷ rs) h = if r.handle == h then number_of_end r.fields.state else number_at rs h

-- both tasks have ended, the first one before the other
pub record EndedBefore (s : State) (a b : ℕ) : Type 0 where
  pub first : ℕ
  pub second : ℕ
  pub first_end : number_at s.tasks a ≡ Some first
  pub second_end : number_at s.tasks b ≡ Some second
  pub less : first < second

-- of two tasks that the group gave, the one given first ended first; so no task is given twice
abbrev pub GivenInOrder : Terms → List NodeEntry → ℕ → Type 0
GivenInOrder terms es g =
    (A B C : List NodeEntry) (x y : NodeEntry) (a b : ℕ) → es ≡ A ++ x ∷ (B ++ y ∷ C) → gives_task g a x ≡ true → gives_task g b y ≡ true
    → EndedBefore (after terms es) a b
