-- Waits in a quiet history: a task that its own caller alone looks at stays until it has ended and told its end.
use Rattle.std.specs.Prelude.{◌≡◌, ◌⊎◌, ℕ, ◌==◌, ◌&&◌, not, is_none, Bool, true, false, List, [], ◌∷◌, ◌++◌}
use Rattle.settled_runs.specs.Names.{TaskEnd, entry, Op, TaskStart, TaskEnqueue, TaskLook, Reply, Handle, Pending, Ended, Terms, NodeEntry}
use Rattle.mtapi_values.specs.declared.handles.TaskHandle.{TaskHandle}
use Rattle.settled_runs.specs.Granted.{Asks}

-- the op asks for a task that isn't detached and is in no group
abbrev pub starts_alone : Op → Bool
starts_alone (TaskStart job args priority cores detached group) = not detached && is_none group
starts_alone (TaskEnqueue q args cores detached group) = not detached && is_none group
starts_alone _ = false

-- the op is a look at the task of this handle
abbrev pub is_look_at : ℕ → Op → Bool
is_look_at h (TaskLook t last) = t.0 == h
is_look_at h _ = false

-- none of these entries looks at the task, but that this seat may have been told that it hasn't ended
abbrev pub AreLeft : ℕ → ℕ → List NodeEntry → Type 0
AreLeft who h [] = Unit {0}
AreLeft who h (e ∷ es) = (is_look_at h e.op ≡ true → (e.who ≡ who) × (e.reply ≡ Pending)) × AreLeft who h es

-- one of these entries started such a task under this handle, and those behind it left it to this seat
pub record IsLeftToSeat (who h : ℕ) (L : List NodeEntry) : Type 0 where
  pub op : Op
  pub alone : starts_alone op ≡ true
  pub before : List NodeEntry
  pub starter : ℕ
  pub behind : List NodeEntry
  pub is : L ≡ before ++ entry starter op (Handle h) ∷ behind
  pub left : AreLeft who h behind

-- a look by this seat, which isn't its last, is told the end or that there is none yet
abbrev pub QuietLooksAreAnswered : Type 0
QuietLooksAreAnswered = (terms : Terms) (L : List NodeEntry) (who : ℕ) (t : TaskHandle) (r : Reply) → Asks terms L who (TaskLook t false) r
    → IsLeftToSeat who t.0 L
    → (r ≡ Pending) ⊎ ((end : TaskEnd) × (r ≡ Ended end))
