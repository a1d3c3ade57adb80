-- What each call on semaphores answers and leaves, on the slots that hold them.
use Rattle.std.specs.Prelude.{◌≡◌, ◌⊎◌, ℕ, ◌≤◌, Bool, List, length, Option, Some, None, is_none, if◌then◌else◌}
use Rattle.mtapi_values.specs.declared.looks.Look.{Look}
use Rattle.mtapi_values.specs.declared.looks.Look.TheVariants.{Refused}
use Rattle.mtapi_values.specs.declared.statuses.MrapiStatus.{MrapiStatus}
use Rattle.mtapi_values.specs.declared.statuses.MrapiStatus.TheVariants.{ErrSemInvalid, ErrSemExists, ErrSemLimit}
use Rattle.mtapi_values.specs.Conditions.{first}
use Rattle.mtapi_values.specs.Looks.{answer}
use Rattle.handle_pool.specs.Slots.{Slots, slot_value, IsFull}
use Rattle.handle_pool.specs.Walks.{SomeLive, NoneLive}
use Rattle.mtapi_objects.specs.Sems.{Sem, total, sem_create_refusals, sem_busy, sem_taken, sem_unlock_refusals, sem_given}

-- the semaphore has this id
abbrev pub HasId : ℕ → Sem → Type 0
HasId id s = s.id ≡ id

-- a create is refused for its limit, then where a live semaphore has the id, and then where no further semaphore can be made
abbrev pub SemCreateRefused : Slots Sem → ℕ → ℕ → MrapiStatus → Type 0
SemCreateRefused old id limit c =
    (first (sem_create_refusals limit) ≡ Some c)
    ⊎ ((first (sem_create_refusals limit) ≡ None)
    × (((c ≡ ErrSemExists) × SomeLive (slot_value old) (HasId id)) ⊎ ((c ≡ ErrSemLimit) × NoneLive (slot_value old) (HasId id) × IsFull old)))

-- what a call on the semaphore of a handle answers in place of what it does: that the handle isn't live, and else the first of the semaphore's own refusals
abbrev pub sem_refusal : (Sem → List (Bool × MrapiStatus)) → Option Sem → Option MrapiStatus
sem_refusal causes None = Some ErrSemInvalid
sem_refusal causes (Some s) = first (causes s)

-- the answer of a look at one semaphore, and at the semaphore of a handle
abbrev pub sem_look_answer : Sem → Look Unit
sem_look_answer s = answer None (sem_busy s) tt

abbrev pub sem_look_at : Option Sem → Look Unit
sem_look_at None = Refused ErrSemInvalid
sem_look_at (Some s) = sem_look_answer s

-- the semaphore after a look: held once more where the look got it
abbrev pub sem_after_look : ℕ → Sem → Sem
sem_after_look who s = if sem_busy s then s else sem_taken who s

-- the semaphore after an unlock: held once less where nothing refuses it
abbrev pub sem_after_unlock : ℕ → Sem → Sem
sem_after_unlock who s = if is_none (first (sem_unlock_refusals who s)) then sem_given who s else s

-- what every semaphore keeps: a holding for each seat, together at most the limit
pub record IsSem (limit : ℕ) (holdings : List ℕ) : Type 0 where
  pub seats : length holdings ≡ 25
  pub at_most : total holdings ≤ limit
  pub small : limit ≤ 65535
