-- What each call on reader-writer locks answers and leaves, on the slots that hold them.
use Rattle.std.specs.Prelude.{◌≡◌, ◌⊎◌, ℕ, Bool, List, Option, Some, None, is_none, if◌then◌else◌}
use Rattle.mtapi_values.specs.declared.looks.Look.{Look}
use Rattle.mtapi_values.specs.declared.looks.Look.TheVariants.{Refused}
use Rattle.mtapi_values.specs.declared.statuses.MrapiStatus.{MrapiStatus}
use Rattle.mtapi_values.specs.declared.statuses.MrapiStatus.TheVariants.{ErrRwlInvalid, ErrRwlExists, ErrRwlLimit}
use Rattle.mtapi_values.specs.Conditions.{first}
use Rattle.mtapi_values.specs.Looks.{answer, is_got}
use Rattle.handle_pool.specs.Slots.{Slots, slot_value, IsFull}
use Rattle.handle_pool.specs.Walks.{SomeLive, NoneLive}
use Rattle.mtapi_objects.specs.Rwls.{Rwl, rwl_create_refusals, rwl_look_refusals, rwl_busy, rwl_taken, rwl_unlock_refusals, rwl_given}

-- the lock has this id
abbrev pub HasId : ℕ → Rwl → Type 0
HasId id r = r.id ≡ id

-- a create is refused for its limit, then where a live lock has the id, and then where no further lock can be made
abbrev pub RwlCreateRefused : Slots Rwl → ℕ → ℕ → MrapiStatus → Type 0
RwlCreateRefused old id limit c =
    (first (rwl_create_refusals limit) ≡ Some c)
    ⊎ ((first (rwl_create_refusals limit) ≡ None)
    × (((c ≡ ErrRwlExists) × SomeLive (slot_value old) (HasId id)) ⊎ ((c ≡ ErrRwlLimit) × NoneLive (slot_value old) (HasId id) × IsFull old)))

-- what a call on the lock of a handle answers in place of what it does: that the handle isn't live, and else the first of the lock's own refusals
abbrev pub rwl_refusal : (Rwl → List (Bool × MrapiStatus)) → Option Rwl → Option MrapiStatus
rwl_refusal causes None = Some ErrRwlInvalid
rwl_refusal causes (Some r) = first (causes r)

-- the answer of a look at one lock, and at the lock of a handle
abbrev pub rwl_look_answer : ℕ → Bool → Rwl → Look Unit
rwl_look_answer who writer r = answer (first (rwl_look_refusals who r)) (rwl_busy writer r) tt

abbrev pub rwl_look_at : ℕ → Bool → Option Rwl → Look Unit
rwl_look_at who writer None = Refused ErrRwlInvalid
rwl_look_at who writer (Some r) = rwl_look_answer who writer r

-- the lock after a look: this seat holds it where the look got it
abbrev pub rwl_after_look : ℕ → Bool → Rwl → Rwl
rwl_after_look who writer r = if is_got (rwl_look_answer who writer r) then rwl_taken who writer r else r

-- the lock after an unlock: this seat doesn't hold it any more where nothing refuses it
abbrev pub rwl_after_unlock : ℕ → Bool → Rwl → Rwl
rwl_after_unlock who writer r = if is_none (first (rwl_unlock_refusals who writer r)) then rwl_given who writer r else r
