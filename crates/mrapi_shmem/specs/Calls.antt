-- What each call on segments answers and leaves, on the slots that hold them.
use Rattle.std.specs.Prelude.{◌≡◌, ◌⊎◌, ℕ, ◌+◌, ◌≤◌, ℤ, Bool, true, false, List, Option, Some, None, is_none, Result, Ok, Err, if◌then◌else◌}
use Rattle.mtapi_values.specs.declared.statuses.MrapiStatus.{MrapiStatus}
use Rattle.mtapi_values.specs.declared.statuses.MrapiStatus.TheVariants.{ErrShmInvalid, ErrShmExists, ErrShmLimit}
use Rattle.mtapi_values.specs.Conditions.{first}
use Rattle.handle_pool.specs.Slots.{Slots, slot_value, live_count, max_of, IsFull}
use Rattle.handle_pool.specs.Walks.{SomeLive, NoneLive}
use Rattle.mtapi_objects.specs.Segments.{Segment, shmem_create_refusals, attach_refusals, detach_refusals, with_attached, cell_refusals, cell_of, with_cell}

-- the segment has this id
abbrev pub HasId : ℕ → Segment → Type 0
HasId id s = s.id ≡ id

-- a create is refused for its number of cells, then where a live segment has the id, and then where no further segment can be made
abbrev pub CreateRefused : Slots Segment → ℕ → ℕ → MrapiStatus → Type 0
CreateRefused old id cells c =
    (first (shmem_create_refusals cells) ≡ Some c)
    ⊎ ((first (shmem_create_refusals cells) ≡ None)
    × (((c ≡ ErrShmExists) × SomeLive (slot_value old) (HasId id)) ⊎ ((c ≡ ErrShmLimit) × NoneLive (slot_value old) (HasId id) × IsFull old)))

-- what a call on the segment of a handle answers in place of what it does: that the handle isn't live, and else the first of the segment's own refusals
abbrev pub refusal : (Segment → List (Bool × MrapiStatus)) → Option Segment → Option MrapiStatus
refusal causes None = Some ErrShmInvalid
refusal causes (Some s) = first (causes s)

-- a refusal, or the number that was read
abbrev pub read_answer : Option MrapiStatus → ℤ → Result ℤ MrapiStatus
read_answer (Some c) number = Err c
read_answer None number = Ok number

-- the answer of a read of the segment of a handle
abbrev pub read_at : ℕ → ℕ → Option Segment → Result ℤ MrapiStatus
read_at who cell None = Err ErrShmInvalid
read_at who cell (Some s) = read_answer (first (cell_refusals who cell s)) (cell_of cell s)

-- the segment after an attach, a detach and a write: changed where nothing refuses it
abbrev pub after_attach : ℕ → Segment → Segment
after_attach who s = if is_none (first (attach_refusals who s)) then with_attached who true s else s

abbrev pub after_detach : ℕ → Segment → Segment
after_detach who s = if is_none (first (detach_refusals who s)) then with_attached who false s else s

abbrev pub after_write : ℕ → ℕ → ℤ → Segment → Segment
after_write who cell value s = if is_none (first (cell_refusals who cell s)) then with_cell cell value s else s

-- what segments keep: memory for each segment that may still be made, which goes back to its place
pub record IsStore (p : Slots Segment) (spare room : ℕ) : Type 0 where
  pub counted : spare + live_count p ≡ max_of p
  pub fits : max_of p ≤ room
