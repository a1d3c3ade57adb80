-- What tallies add to a cell of a segment.
use Rattle.std.specs.Prelude.{◌≡◌, ℕ, ◌<◌, Bool, true, false, not, ◌&&◌, ◌==◌, List, [], ◌∷◌, ◌++◌, length, ℤ, pos, ◌+ℤ◌, Option, Some, None, if◌then◌else◌}
use Rattle.history_law.specs.Names.{TaskEnd, Completed, TaskHandle, entry, Listed, live_object, Task, TaskState, Adds, tally_args, cell_in, number_in, Segment, cell_of, Op, Final, ShmemWrite, Ok, Terms, NodeEntry, after}
use Rattle.mtapi_objects.specs.Tasks.{Ended}
use Rattle.history_law.specs.Words.{some_entry}
use Rattle.history_law.specs.Seats.{says_ok}
use Rattle.history_law.specs.Exclusion.{tally_got}

-- the record of the object of this handle, live or not
unfoldable pub record_of : {T : Type 0} → List (Listed T) → ℕ → Option T
record_of [] h = None
record_of (r ∷ rs) h = if r.handle == h then Some r.fields else record_of rs h

-- the id of the mutex that a tally's arguments name
abbrev pub mutex_in : Option Adds → ℕ
mutex_in None = 0
mutex_in (Some a) = a.mutex

-- the task's tally kept this segment, and the task names this cell: the tally has begun and hasn't failed, so that it has got its segment
abbrev pub adds_to : ℕ → ℕ → Task → Bool
adds_to s cell t = (not (t.notes.tally.stage == 0) && not (t.notes.tally.stage == 4)) && ((t.notes.tally.segment == s) && (cell_in (tally_args t.args) == cell))

-- the task has ended, completed
abbrev pub completed_in : TaskEnd → Bool
completed_in (Completed args) = true
completed_in _ = false

abbrev pub is_completed : TaskState → Bool
is_completed (Ended e n) = completed_in e
is_completed _ = false

-- the number that a task adds to the cell, where it has completed, and 0 where it adds nothing
abbrev pub number_added : ℕ → ℕ → Task → ℤ
number_added s cell t = if adds_to s cell t && is_completed t.state then number_in (tally_args t.args) else pos 0

-- the sum of the numbers of these tasks
abbrev pub sum_of : (Task → ℤ) → List (Listed Task) → ℤ
sum_of f [] = pos 0
sum_of f (r ∷ rs) = f r.fields +ℤ sum_of f rs

-- the entry is a `shmem_write` of this cell, which was executed
abbrev pub is_write : ℕ → ℕ → Op → Bool
is_write s cell (ShmemWrite x c value) = (x.0 == s) && (c == cell)
is_write s cell _ = false

abbrev pub writes_to : ℕ → ℕ → NodeEntry → Bool
writes_to s cell e = is_write s cell e.op && says_ok e.reply

-- every task whose tally kept the segment, and that names the cell, names the mutex of this id: so its record says after the
-- `tally_lock` by which its tally kept it
abbrev pub NamesOneMutex : Terms → List NodeEntry → ℕ → ℕ → ℕ → Type 0
NamesOneMutex terms es s cell id =
    (A B : List NodeEntry) (w : ℕ) (t : TaskHandle) (x : Task) → es ≡ A ++ tally_got w t ∷ B
    → live_object (after terms (A ++ tally_got w t ∷ [])).tasks t.0 ≡ Some x → adds_to s cell x ≡ true → mutex_in (tally_args x.args) ≡ id

-- Where the list has the final step, the segment was issued and has the cell, no caller wrote to the cell, and all tallies of the cell
-- name one mutex, the cell holds the sum of the numbers that the completed tallies among its tasks add.
abbrev pub HoldsTheSum : Terms → List NodeEntry → ℕ → ℕ → Type 0
HoldsTheSum terms es s cell =
    (A B : List NodeEntry) (main id : ℕ) (x : Segment) → es ≡ A ++ entry main Final Ok ∷ B → record_of (after terms es).segments s ≡ Some x
    → cell < length x.cells → some_entry (writes_to s cell) es ≡ false → NamesOneMutex terms es s cell id
    → cell_of cell x ≡ sum_of (number_added s cell) (after terms es).tasks
