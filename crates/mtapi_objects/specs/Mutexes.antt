-- One mutex, and what each call on it answers and leaves; `who` is the seat that calls.
use Rattle.std.specs.Prelude.{ℕ, ◌+◌, ◌-◌, Bool, not, ◌&&◌, ◌||◌, ◌==◌, nat_lt, List, [], ◌∷◌, Option, Some, None, is_some, if◌then◌else◌}
use Rattle.mtapi_values.specs.declared.statuses.MrapiStatus.{MrapiStatus}
use Rattle.mtapi_values.specs.declared.statuses.MrapiStatus.TheVariants.{ErrMutexLocked, ErrMutexNotlocked, ErrMutexKey, ErrMutexLockorder}
use Rattle.mtapi_values.specs.Seats.{is_seat, is_other}

-- its id, whether its owner may lock it again, the seat that owns it, and how deep it is locked
pub record Mutex : Type 0 where
  pub id : ℕ
  pub recursive : Bool
  pub owner : Option ℕ
  pub depth : ℕ

-- a new mutex is free
abbrev pub new_mutex : ℕ → Bool → Mutex
new_mutex id recursive = record { id = id; recursive = recursive; owner = None; depth = 0 }

-- a delete is refused while anybody owns it
abbrev pub mutex_delete_refusals : Mutex → List (Bool × MrapiStatus)
mutex_delete_refusals m = (is_some m.owner, ErrMutexLocked) ∷ []

-- a look is refused where this seat owns it, and it isn't recursive or is 64 deep already
abbrev pub mutex_look_refusals : ℕ → Mutex → List (Bool × MrapiStatus)
mutex_look_refusals who m = (is_seat who m.owner && (not m.recursive || (m.depth == 64)), ErrMutexLocked) ∷ []

-- another seat owns it
abbrev pub mutex_busy : ℕ → Mutex → Bool
mutex_busy who m = is_other who m.owner

-- this seat owns it, one level deeper; the new depth is the key
abbrev pub locked_by : ℕ → Mutex → Mutex
locked_by who m = record m { owner = Some who; depth = m.depth + 1 }

-- an unlock is refused where this seat isn't the owner, the key isn't from 1 to the depth, or it isn't the last key that is still out
abbrev pub mutex_unlock_refusals : ℕ → ℕ → Mutex → List (Bool × MrapiStatus)
mutex_unlock_refusals who key m =
    (not (is_seat who m.owner), ErrMutexNotlocked) ∷ ((key == 0) || nat_lt m.depth key, ErrMutexKey) ∷ (nat_lt key m.depth, ErrMutexLockorder) ∷ []

-- one level less deep; at depth 0 it is free
abbrev pub unlocked : Mutex → Mutex
unlocked m = record m { owner = if m.depth == 1 then None else m.owner; depth = m.depth - 1 }
