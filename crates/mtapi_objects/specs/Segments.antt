-- One segment, and what each call on it answers and leaves; `who` is the seat that calls.
use Rattle.std.specs.Prelude.{ℕ, Bool, not, ◌&&◌, nat_lt, nat_le, List, [], ◌∷◌, length, ℤ, pos, replicate, slice_index_or, slice_set}
use Rattle.mtapi_values.specs.declared.statuses.MrapiStatus.{MrapiStatus}
use Rattle.mtapi_values.specs.declared.statuses.MrapiStatus.TheVariants.{ErrParameter, ErrShmAttached, ErrShmNotattached}
use Rattle.mtapi_values.specs.Seats.{no_marks, marked, any_mark}

-- its id, the numbers in its cells, and the seats that are attached
pub record Segment : Type 0 where
  pub id : ℕ
  pub cells : List ℤ
  pub attached : List Bool

-- a new segment has 0 in each of its cells, and nobody is attached
abbrev pub new_segment : ℕ → ℕ → Segment
new_segment id cells = record { id = id; cells = replicate cells (pos 0); attached = no_marks }

-- a create is refused where the number of cells isn't 1 to 4,096
abbrev pub shmem_create_refusals : ℕ → List (Bool × MrapiStatus)
shmem_create_refusals cells = (not (nat_le 1 cells && nat_le cells 4096), ErrParameter) ∷ []

-- a delete is refused while anybody is attached
abbrev pub shmem_delete_refusals : Segment → List (Bool × MrapiStatus)
shmem_delete_refusals s = (any_mark s.attached, ErrShmAttached) ∷ []

-- an attach is refused where this seat is attached, and a detach where it isn't
abbrev pub attach_refusals : ℕ → Segment → List (Bool × MrapiStatus)
attach_refusals who s = (marked who s.attached, ErrShmAttached) ∷ []

abbrev pub detach_refusals : ℕ → Segment → List (Bool × MrapiStatus)
detach_refusals who s = (not (marked who s.attached), ErrShmNotattached) ∷ []

-- this seat is attached, or isn't any more
abbrev pub with_attached : ℕ → Bool → Segment → Segment
with_attached who on s = record s { attached = slice_set s.attached who on }

-- a read or a write is refused where this seat isn't attached, or the cell isn't one of the segment's
abbrev pub cell_refusals : ℕ → ℕ → Segment → List (Bool × MrapiStatus)
cell_refusals who cell s = (not (marked who s.attached), ErrShmNotattached) ∷ (not (nat_lt cell (length s.cells)), ErrParameter) ∷ []

-- the number in a cell
abbrev pub cell_of : ℕ → Segment → ℤ
cell_of cell s = slice_index_or s.cells cell (pos 0)

-- the segment with another number in a cell
abbrev pub with_cell : ℕ → ℤ → Segment → Segment
with_cell cell value s = record s { cells = slice_set s.cells cell value }
