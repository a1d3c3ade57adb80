-- How a handle names the kind of its object. Inside a pool a handle is generation * 2^32 + slot; in layout two it has the kind's number
-- in the bits 24 to 31 beside.
use Rattle.std.specs.Prelude.{ℕ, ◌+◌, ◌-◌, ◌*◌, ◌/◌, ◌%◌, ◌^◌, Bool, true, ◌==◌, Option, Some, None, if◌then◌else◌}
use Rattle.mtapi_values.specs.declared.handles.ObjectKind.{ObjectKind}
use Rattle.mtapi_values.specs.declared.handles.ObjectKind.TheVariants.{Action, Task, Group, Queue, Mutex, Sem, Rwl, Shmem}
use Rattle.mtapi_values.specs.declared.handles.Layout.{Layout}
use Rattle.mtapi_values.specs.declared.handles.Layout.TheVariants.{One, Two}

-- the number of a kind
abbrev pub object_number : ObjectKind → ℕ
object_number Action = 1
object_number Task = 2
object_number Group = 3
object_number Queue = 4
object_number Mutex = 5
object_number Sem = 6
object_number Rwl = 7
object_number Shmem = 8

-- the number in the bits 24 to 31 of a handle
abbrev pub named_kind : ℕ → ℕ
named_kind h = h / 2 ^ 24 % 256

-- a handle of a pool, as callers see it in layout two
abbrev pub outer : ObjectKind → ℕ → ℕ
outer k h = h + object_number k * 2 ^ 24

-- a handle that callers see, as the pool of this kind has it; none where it names another kind
abbrev pub inner : ObjectKind → ℕ → Option ℕ
inner k h = if named_kind h == object_number k then Some (h - object_number k * 2 ^ 24) else None

-- in layout two a handle has to name its kind
abbrev pub names_kind : Layout → ObjectKind → ℕ → Bool
names_kind One k h = true
names_kind Two k h = named_kind h == object_number k
