-- The rows of the ops by which a worker executes a tally: under a mutex it adds a number to a cell of a segment.
use Rattle.std.specs.Prelude.{ℕ, true, false, not, ◌&&◌, ◌||◌, ◌==◌, nat_lt, List, [], ◌∷◌, length, ℤ, Option, Some, None, is_some, if◌then◌else◌}
use Rattle.std.specs.Ordering.{int_eq}
use Rattle.mtapi_values.specs.declared.kinds.Kind.TheVariants.{Tally}
use Rattle.mtapi_machine.specs.Names.{MtapiStatus, TaskEnd, Completed, Failed, fits, live_of, live_object, first_handle, Task, runs_as, with_tally, Adds, tally_args, cell_in, added, tally_failed, tally_has, tally_read, tally_written, locked_by, unlocked, with_attached, cell_of, with_cell}
use Rattle.mtapi_values.specs.declared.statuses.MtapiStatus.TheVariants as m
use Rattle.mtapi_machine.specs.declared.replies.Reply.TheVariants.{Ok, Number, Ended, Pending, Asked, Mtapi}
use Rattle.mtapi_machine.specs.State.{State, tasks, mutexes, segments}
use Rattle.mtapi_machine.specs.Moves.{Mutexes, Segments, ends_task, notes, alters}
use Rattle.mtapi_machine.specs.Row.{Row, unless, says, gives, work, live, on, chosen}

-- an op on a live tally that runs on this worker
abbrev pub on_tally : State → ℕ → ℕ → (Task → Row) → Row
on_tally s who t row = work s who (on tasks s t (λ x. unless (not (runs_as who Tally x)) (Mtapi m.ErrTaskInvalid) (row x)))

-- the tally has failed, and will end so
abbrev pub gives_up : ℕ → MtapiStatus → Row
gives_up t status = gives (Asked false) (notes t (with_tally (tally_failed status)) ∷ [])

-- the worker takes the mutex and the segment of these handles; the segment has to have the cell, and the mutex must not be owned
abbrev pub takes_both : State → ℕ → ℕ → ℕ → Option ℕ → Option ℕ → Row
takes_both s who t cell (Some a) (Some b) =
    live (live_object s.mutexes a) (gives_up t m.ErrActionFailed) (λ x. live (live_object s.segments b) (gives_up t m.ErrActionFailed) (λ y.
    if not (nat_lt cell (length y.cells)) then gives_up t m.ErrActionFailed
    else if is_some x.owner then says Pending
    else gives (Asked true) (alters Mutexes a (locked_by who) ∷ alters Segments b (with_attached who true) ∷ notes t (with_tally (tally_has a b)) ∷ [])))
takes_both s who t cell _ _ = gives_up t m.ErrActionFailed

-- the mutex and the segment are those of the ids among its four arguments
abbrev pub locks : State → ℕ → ℕ → List ℤ → Option Adds → Row
locks s who t args (Some x) =
    takes_both s who t x.cell (first_handle (λ y. y.id == x.mutex) (live_of s.mutexes)) (first_handle (λ y. y.id == x.segment) (live_of s.segments))
locks s who t args None = gives_up t (if length args == 4 then m.ErrActionFailed else m.ErrArgSize)

abbrev pub tally_lock : State → ℕ → ℕ → Row
tally_lock s who t = on_tally s who t (λ x. unless (not (x.notes.tally.stage == 0)) (Mtapi m.ErrParameter) (locks s who t x.args (tally_args x.args)))

-- it keeps the number in the cell
abbrev pub reads : State → ℕ → ℕ → Row
reads s who t =
    on_tally s who t (λ x. unless (not (x.notes.tally.stage == 1)) (Mtapi m.ErrParameter) (chosen segments s x.notes.tally.segment (λ y.
    let z : ℤ = cell_of (cell_in (tally_args x.args)) y in
    gives (Number z) (notes t (with_tally (tally_read z)) ∷ []))))

-- it writes what it read and what it adds, together, and nothing else
abbrev pub writes : State → ℕ → ℕ → ℤ → Row
writes s who t value =
    on_tally s who t (λ x. unless (not (x.notes.tally.stage == 2) || not (int_eq value (added x))) (Mtapi m.ErrParameter)
    (chosen segments s x.notes.tally.segment
    (λ y. gives Ok (alters Segments x.notes.tally.segment (with_cell (cell_in (tally_args x.args)) value) ∷ notes t (with_tally tally_written) ∷ []))))

-- it gives both back, and ends
abbrev pub gives_back : State → ℕ → ℕ → Task → TaskEnd → Row
gives_back s who t x e =
    chosen segments s x.notes.tally.segment (λ y. chosen mutexes s x.notes.tally.mutex (λ z.
    gives (Ended e) (alters Segments x.notes.tally.segment (with_attached who false) ∷ alters Mutexes x.notes.tally.mutex unlocked ∷ ends_task t e ∷ [])))

-- how it ends at a stage: failed before; with a sum that doesn't fit; with the number that it wrote
abbrev pub tally_end : State → ℕ → ℕ → Row
tally_end s who t =
    on_tally s who t (λ x. unless (nat_lt x.notes.tally.stage 2 || ((x.notes.tally.stage == 2) && fits (added x))) (Mtapi m.ErrParameter)
    (if x.notes.tally.stage == 4 then gives (Ended x.notes.tally.verdict) (ends_task t x.notes.tally.verdict ∷ [])
    else gives_back s who t x (if x.notes.tally.stage == 2 then Failed m.ErrActionFailed else Completed (added x ∷ []))))
