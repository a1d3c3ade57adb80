-- What a running tally holds.
use Rattle.std.specs.Prelude.{◌≡◌, ℕ, Bool, true, not, ◌&&◌, ◌==◌, List, Option, Some, None}
use Rattle.history_law.specs.Names.{marked, live_object, Task, TallyNotes, runs_on, Segment, Terms, State, NodeEntry, Legal, after}
use Rattle.mtapi_objects.specs.Mutexes.{Mutex}

-- the tally has got its mutex and its segment: it has begun and hasn't failed
abbrev pub got_both : TallyNotes → Bool
got_both x = not (x.stage == 0) && not (x.stage == 4)

-- the mutex is there, and this seat owns it once
abbrev pub IsOwned : ℕ → Option Mutex → Type 0
IsOwned w None = ⊥
IsOwned w (Some x) = (x.owner ≡ Some w) × (x.depth ≡ 1)

-- the segment is there, and this seat is attached to it
abbrev pub IsAttached : ℕ → Option Segment → Type 0
IsAttached w None = ⊥
IsAttached w (Some y) = marked w y.attached ≡ true

-- the worker owns the mutex of the task's tally, and is attached to its segment
pub record HoldsBoth (s : State) (w : ℕ) (t : Task) : Type 0 where
  pub mutex : IsOwned w (live_object s.mutexes t.notes.tally.mutex)
  pub segment : IsAttached w (live_object s.segments t.notes.tally.segment)

-- so does the worker of every running tally that has got both
abbrev pub TalliesHold : State → Type 0
TalliesHold s = (h w : ℕ) (t : Task) → live_object s.tasks h ≡ Some t → runs_on w t ≡ true → got_both t.notes.tally ≡ true → HoldsBoth s w t

abbrev pub RunningTalliesHold : Type 0
RunningTalliesHold = (terms : Terms) (L : List NodeEntry) → Legal terms L → TalliesHold (after terms L)
