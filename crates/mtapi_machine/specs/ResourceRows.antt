-- The rows of the ops on mutexes, semaphores, reader-writer locks and segments.
use Rattle.std.specs.Prelude.{ℕ, ◌+◌, Bool, true, false, [], ℤ, pos}
use Rattle.mtapi_machine.specs.declared.replies.Reply.{Reply}
use Rattle.mtapi_machine.specs.declared.replies.Reply.TheVariants.{Ok, Number}
use Rattle.mtapi_machine.specs.Names.{new_mutex, mutex_delete_refusals, mutex_look_refusals, mutex_busy, locked_by, mutex_unlock_refusals, unlocked, new_sem, sem_create_refusals, sem_delete_refusals, sem_busy, sem_taken, sem_unlock_refusals, sem_given, new_rwl, rwl_create_refusals, rwl_delete_refusals, rwl_look_refusals, rwl_busy, rwl_taken, rwl_unlock_refusals, rwl_given, new_segment, shmem_create_refusals, shmem_delete_refusals, attach_refusals, detach_refusals, with_attached, cell_refusals, cell_of, with_cell}
use Rattle.mtapi_machine.specs.State.{State, segments}
use Rattle.mtapi_machine.specs.Moves.{Mutexes, Sems, Rwls, Segments}
use Rattle.mtapi_machine.specs.Row.{Row, says, on}
use Rattle.mtapi_machine.specs.KeyedRows.{keyed_mutexes, keyed_sems, keyed_rwls, keyed_segments, mrapi, mrapi_open, mrapi_unless, creates_keyed, gets, alters_one, looks_one, deletes}

-- Mutexes

abbrev pub mutex_create : State → ℕ → Reply → ℕ → Bool → Row
mutex_create s who r id recursive = mrapi_open s who (creates_keyed keyed_mutexes s r (new_mutex id recursive))

abbrev pub mutex_get : State → ℕ → ℕ → Row
mutex_get s who id = mrapi s who (gets keyed_mutexes s id)

abbrev pub mutex_delete : State → ℕ → ℕ → Row
mutex_delete s who h = mrapi_open s who (deletes Mutexes s h mutex_delete_refusals)

-- the key is the new depth
abbrev pub mutex_look : State → ℕ → ℕ → Bool → Row
mutex_look s who h last =
    mrapi s who (looks_one Mutexes s h last (mutex_look_refusals who) (mutex_busy who) (λ x. Number (pos (x.depth + 1))) (locked_by who))

abbrev pub mutex_unlock : State → ℕ → ℕ → ℕ → Row
mutex_unlock s who h key = mrapi s who (alters_one Mutexes s h (mutex_unlock_refusals who key) (λ x. Ok) unlocked)

-- Semaphores

abbrev pub sem_create : State → ℕ → Reply → ℕ → ℕ → Row
sem_create s who r id limit = mrapi_open s who (mrapi_unless (sem_create_refusals limit) (creates_keyed keyed_sems s r (new_sem id limit)))

abbrev pub sem_get : State → ℕ → ℕ → Row
sem_get s who id = mrapi s who (gets keyed_sems s id)

abbrev pub sem_delete : State → ℕ → ℕ → Row
sem_delete s who h = mrapi_open s who (deletes Sems s h sem_delete_refusals)

abbrev pub sem_look : State → ℕ → ℕ → Bool → Row
sem_look s who h last = mrapi s who (looks_one Sems s h last (λ x. []) sem_busy (λ x. Ok) (sem_taken who))

abbrev pub sem_unlock : State → ℕ → ℕ → Row
sem_unlock s who h = mrapi s who (alters_one Sems s h (sem_unlock_refusals who) (λ x. Ok) (sem_given who))

-- Reader-writer locks

abbrev pub rwl_create : State → ℕ → Reply → ℕ → ℕ → Row
rwl_create s who r id limit = mrapi_open s who (mrapi_unless (rwl_create_refusals limit) (creates_keyed keyed_rwls s r (new_rwl id limit)))

abbrev pub rwl_get : State → ℕ → ℕ → Row
rwl_get s who id = mrapi s who (gets keyed_rwls s id)

abbrev pub rwl_delete : State → ℕ → ℕ → Row
rwl_delete s who h = mrapi_open s who (deletes Rwls s h rwl_delete_refusals)

abbrev pub rwl_look : State → ℕ → ℕ → Bool → Bool → Row
rwl_look s who h writer last = mrapi s who (looks_one Rwls s h last (rwl_look_refusals who) (rwl_busy writer) (λ x. Ok) (rwl_taken who writer))

abbrev pub rwl_unlock : State → ℕ → ℕ → Bool → Row
rwl_unlock s who h writer = mrapi s who (alters_one Rwls s h (rwl_unlock_refusals who writer) (λ x. Ok) (rwl_given who writer))

-- Segments

abbrev pub shmem_create : State → ℕ → Reply → ℕ → ℕ → Row
shmem_create s who r id cells = mrapi_open s who (mrapi_unless (shmem_create_refusals cells) (creates_keyed keyed_segments s r (new_segment id cells)))

abbrev pub shmem_get : State → ℕ → ℕ → Row
shmem_get s who id = mrapi s who (gets keyed_segments s id)

abbrev pub shmem_delete : State → ℕ → ℕ → Row
shmem_delete s who h = mrapi_open s who (deletes Segments s h shmem_delete_refusals)

abbrev pub shmem_attach : State → ℕ → ℕ → Row
shmem_attach s who h = mrapi s who (alters_one Segments s h (attach_refusals who) (λ x. Ok) (with_attached who true))

abbrev pub shmem_detach : State → ℕ → ℕ → Row
shmem_detach s who h = mrapi s who (alters_one Segments s h (detach_refusals who) (λ x. Ok) (with_attached who false))

abbrev pub shmem_read : State → ℕ → ℕ → ℕ → Row
shmem_read s who h cell = mrapi s who (on segments s h (λ x. mrapi_unless (cell_refusals who cell x) (says (Number (cell_of cell x)))))

abbrev pub shmem_write : State → ℕ → ℕ → ℕ → ℤ → Row
shmem_write s who h cell value = mrapi s who (alters_one Segments s h (cell_refusals who cell) (λ x. Ok) (with_cell cell value))
