-- What each call on mutexes answers and leaves, on the slots that hold them.
use Rattle.std.specs.Prelude.{◌≡◌, ◌⊎◌, ℕ, ◌+◌, ◌≤◌, Bool, List, Option, Some, None, is_none, if◌then◌else◌}
use Rattle.mtapi_values.specs.declared.looks.Look.{Look}
use Rattle.mtapi_values.specs.declared.looks.Look.TheVariants.{Refused}
use Rattle.mtapi_values.specs.declared.statuses.MrapiStatus.{MrapiStatus}
use Rattle.mtapi_values.specs.declared.statuses.MrapiStatus.TheVariants.{ErrMutexInvalid, ErrMutexExists, ErrMutexLimit}
use Rattle.mtapi_values.specs.Conditions.{first}
use Rattle.mtapi_values.specs.Looks.{answer, is_got}
use Rattle.handle_pool.specs.Slots.{Slots, slot_value, IsFull}
use Rattle.handle_pool.specs.Walks.{SomeLive, NoneLive}
use Rattle.mtapi_objects.specs.Mutexes.{Mutex, mutex_look_refusals, mutex_busy, locked_by, mutex_unlock_refusals, unlocked}

-- the mutex has this id
abbrev pub HasId : ℕ → Mutex → Type 0
HasId id m = m.id ≡ id

-- a create is refused where a live mutex has the id, and then where no further mutex can be made
abbrev pub CreateRefused : Slots Mutex → ℕ → MrapiStatus → Type 0
CreateRefused old id c =
    ((c ≡ ErrMutexExists) × SomeLive (slot_value old) (HasId id)) ⊎ ((c ≡ ErrMutexLimit) × NoneLive (slot_value old) (HasId id) × IsFull old)

-- what a call on the mutex of a handle answers in place of what it does: that the handle isn't live, and else the first of the mutex's own refusals
abbrev pub refusal : (Mutex → List (Bool × MrapiStatus)) → Option Mutex → Option MrapiStatus
refusal causes None = Some ErrMutexInvalid
refusal causes (Some m) = first (causes m)

-- the answer of a look at one mutex, and at the mutex of a handle
abbrev pub look_answer : ℕ → Mutex → Look ℕ
look_answer who m = answer (first (mutex_look_refusals who m)) (mutex_busy who m) (m.depth + 1)

abbrev pub look_at : ℕ → Option Mutex → Look ℕ
look_at who None = Refused ErrMutexInvalid
look_at who (Some m) = look_answer who m

-- the mutex after a look: one level deeper where the look got it
abbrev pub after_look : ℕ → Mutex → Mutex
after_look who m = if is_got (look_answer who m) then locked_by who m else m

-- the mutex after an unlock: one level less deep where nothing refuses it
abbrev pub after_unlock : ℕ → ℕ → Mutex → Mutex
after_unlock who key m = if is_none (first (mutex_unlock_refusals who key m)) then unlocked m else m

-- what every mutex keeps: it has an owner exactly where it is locked, and is at most 64 deep
pub record IsMutex (owner : Option ℕ) (depth : ℕ) : Type 0 where
  pub at_most : depth ≤ 64
  pub free : owner ≡ None → depth ≡ 0
  pub owned : depth ≡ 0 → owner ≡ None
