-- One semaphore, and what each call on it answers and leaves; `who` is the seat that calls.
use Rattle.std.specs.Prelude.{ℕ, ◌+◌, ◌-◌, Bool, not, ◌&&◌, ◌==◌, nat_lt, nat_le, List, [], ◌∷◌, replicate, slice_index, slice_set}
use Rattle.mtapi_values.specs.declared.statuses.MrapiStatus.{MrapiStatus}
use Rattle.mtapi_values.specs.declared.statuses.MrapiStatus.TheVariants.{ErrParameter, ErrSemLocked, ErrSemNotlocked}

-- its id, how often it may be held, and how often each seat holds it
pub record Sem : Type 0 where
  pub id : ℕ
  pub limit : ℕ
  pub holdings : List ℕ

-- a new semaphore is held by none of the 25 seats
abbrev pub new_sem : ℕ → ℕ → Sem
new_sem id limit = record { id = id; limit = limit; holdings = replicate 25 0 }

-- a create is refused where the limit isn't 1 to 65,535
abbrev pub sem_create_refusals : ℕ → List (Bool × MrapiStatus)
sem_create_refusals limit = (not (nat_le 1 limit && nat_le limit 65535), ErrParameter) ∷ []

-- the sum of these numbers
abbrev pub total : List ℕ → ℕ
total [] = 0
total (n ∷ ns) = n + total ns

-- a delete is refused while anybody holds it
abbrev pub sem_delete_refusals : Sem → List (Bool × MrapiStatus)
sem_delete_refusals s = (nat_lt 0 (total s.holdings), ErrSemLocked) ∷ []

-- it is held as often as it may be
abbrev pub sem_busy : Sem → Bool
sem_busy s = total s.holdings == s.limit

-- this seat holds it once more
abbrev pub sem_taken : ℕ → Sem → Sem
sem_taken who s = record s { holdings = slice_set s.holdings who (slice_index s.holdings who + 1) }

-- an unlock is refused where this seat doesn't hold it
abbrev pub sem_unlock_refusals : ℕ → Sem → List (Bool × MrapiStatus)
sem_unlock_refusals who s = (slice_index s.holdings who == 0, ErrSemNotlocked) ∷ []

-- this seat holds it once less
abbrev pub sem_given : ℕ → Sem → Sem
sem_given who s = record s { holdings = slice_set s.holdings who (slice_index s.holdings who - 1) }
