-- When a queue lets its task begin, by the list of its unended tasks.
use Rattle.std.specs.Prelude.{◌≡◌, ℕ, ◌<◌, Bool, true, not, ◌&&◌, ◌||◌, ◌==◌, List, [], ◌∷◌, Some, slice_get}
use Rattle.mtapi_values.specs.Conditions.{holds}
use Rattle.handle_pool.specs.Issued.{lookup}
use Rattle.mtapi_objects.specs.Tasks.{Task}
use Rattle.mtapi_objects.specs.Queues.{Queue, is_unended_in, lets}
use Rattle.handle_pool.specs.Issued.{handles_of}

-- each task was started before those behind it
unfoldable pub StartsInOrder : List (ℕ × Task) → Type 0
StartsInOrder [] = Unit {0}
StartsInOrder (e ∷ es) = ((h : ℕ) (t : Task) → lookup es h ≡ Some t → e.1.start < t.start) × StartsInOrder es

-- the handle is the first of the list
abbrev pub is_first : ℕ → List ℕ → Bool
is_first h hs = holds (λ k. k == h) (slice_get hs 0)

-- the queue may begin its task: what the node asks of the queue's record and of its list
abbrev pub may_begin : ℕ → Queue → List ℕ → Bool
may_begin h q hs = q.enabled && (not q.ordered || is_first h hs)

-- of tasks in the order of their starts, each under a handle of its own
abbrev pub QueueReady : Type 0
QueueReady = (q : ℕ) (record_of : Queue) (h : ℕ) (t : Task) (tasks : List (ℕ × Task)) → StartsInOrder tasks → lookup tasks h ≡ Some t → is_unended_in q t ≡ true
    → lets q t tasks record_of ≡ may_begin h record_of (handles_of (is_unended_in q) tasks)
