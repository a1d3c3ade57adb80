-- One reader-writer lock, and what each call on it answers and leaves; `who` is the seat that calls.
use Rattle.std.specs.Prelude.{ℕ, Bool, true, false, not, ◌&&◌, ◌||◌, ◌==◌, nat_le, List, [], ◌∷◌, Option, Some, None, is_some, slice_set, if◌then◌else◌}
use Rattle.mtapi_values.specs.declared.statuses.MrapiStatus.{MrapiStatus}
use Rattle.mtapi_values.specs.declared.statuses.MrapiStatus.TheVariants.{ErrParameter, ErrRwlLocked, ErrRwlNotlocked}
use Rattle.handle_pool.specs.Issued.{how_many}
use Rattle.mtapi_values.specs.Seats.{no_marks, marked, any_mark, is_seat}

-- its id, how many readers there may be, the seats that hold it as readers, and the one that holds it as the writer
pub record Rwl : Type 0 where
  pub id : ℕ
  pub limit : ℕ
  pub readers : List Bool
  pub writer : Option ℕ

-- a new lock is held by nobody
abbrev pub new_rwl : ℕ → ℕ → Rwl
new_rwl id limit = record { id = id; limit = limit; readers = no_marks; writer = None }

-- a create is refused where the limit isn't 1 to 32
abbrev pub rwl_create_refusals : ℕ → List (Bool × MrapiStatus)
rwl_create_refusals limit = (not (nat_le 1 limit && nat_le limit 32), ErrParameter) ∷ []

-- somebody holds it, as a reader or as the writer
abbrev pub rwl_held : Rwl → Bool
rwl_held r = is_some r.writer || any_mark r.readers

-- a delete is refused while anybody holds it
abbrev pub rwl_delete_refusals : Rwl → List (Bool × MrapiStatus)
rwl_delete_refusals r = (rwl_held r, ErrRwlLocked) ∷ []

-- a look is refused where this seat holds it, in either mode
abbrev pub rwl_look_refusals : ℕ → Rwl → List (Bool × MrapiStatus)
rwl_look_refusals who r = (is_seat who r.writer || marked who r.readers, ErrRwlLocked) ∷ []

-- to a writer where anybody holds it; to a reader where a writer does, or the readers are as many as can be
abbrev pub rwl_busy : Bool → Rwl → Bool
rwl_busy writer r = if writer then rwl_held r else is_some r.writer || (how_many (λ b. b) r.readers == r.limit)

-- this seat holds it, as the writer or as a reader
abbrev pub rwl_taken : ℕ → Bool → Rwl → Rwl
rwl_taken who writer r = if writer then record r { writer = Some who } else record r { readers = slice_set r.readers who true }

-- an unlock is refused where this seat doesn't hold it in this mode
abbrev pub rwl_unlock_refusals : ℕ → Bool → Rwl → List (Bool × MrapiStatus)
rwl_unlock_refusals who writer r = (not (if writer then is_seat who r.writer else marked who r.readers), ErrRwlNotlocked) ∷ []

-- this seat doesn't hold it in this mode any more
abbrev pub rwl_given : ℕ → Bool → Rwl → Rwl
rwl_given who writer r = if writer then record r { writer = None } else record r { readers = slice_set r.readers who false }
