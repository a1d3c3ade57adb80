-- What a create of a resource is refused for before it is asked whether there is room: the conditions of its row but for the last one.
use Rattle.std.specs.Prelude.{ℕ, Bool, ◌==◌, List, [], ◌∷◌, ◌++◌}
use Rattle.mtapi_values.specs.declared.statuses.MrapiStatus.{MrapiStatus}
use Rattle.mtapi_values.specs.declared.statuses.MrapiStatus.TheVariants.{ErrMutexExists, ErrSemExists, ErrRwlExists, ErrShmExists}
use Rattle.handle_pool.specs.Issued.{any_listed}
use Rattle.mtapi_objects.specs.Sems.{sem_create_refusals}
use Rattle.mtapi_objects.specs.Rwls.{rwl_create_refusals}
use Rattle.mtapi_objects.specs.Segments.{shmem_create_refusals}
use Rattle.mtapi_machine.specs.State.{State, workers, is_open}
use Rattle.node_resources.specs.Steps.{gate_refusals}

-- what every create is refused for first, and then these
abbrev pub open_refusals : State → ℕ → List (Bool × MrapiStatus) → List (Bool × MrapiStatus)
open_refusals s who causes = gate_refusals (is_open s.phase) who (workers s) ++ causes

abbrev pub mutex_refusals : State → ℕ → ℕ → List (Bool × MrapiStatus)
mutex_refusals s who id = open_refusals s who ((any_listed (λ x. x.id == id) s.mutexes, ErrMutexExists) ∷ [])

abbrev pub sem_refusals : State → ℕ → ℕ → ℕ → List (Bool × MrapiStatus)
sem_refusals s who id limit = open_refusals s who (sem_create_refusals limit ++ (any_listed (λ x. x.id == id) s.sems, ErrSemExists) ∷ [])

abbrev pub rwl_refusals : State → ℕ → ℕ → ℕ → List (Bool × MrapiStatus)
rwl_refusals s who id limit = open_refusals s who (rwl_create_refusals limit ++ (any_listed (λ x. x.id == id) s.rwls, ErrRwlExists) ∷ [])

abbrev pub shmem_refusals : State → ℕ → ℕ → ℕ → List (Bool × MrapiStatus)
shmem_refusals s who id cells = open_refusals s who (shmem_create_refusals cells ++ (any_listed (λ x. x.id == id) s.segments, ErrShmExists) ∷ [])
