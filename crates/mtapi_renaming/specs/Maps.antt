-- The renaming that maps of handles keep, a map for each kind.
use Rattle.std.specs.Prelude.{ℕ}
use Rattle.std.specs.Ordering.{nat_cmp}
use Rattle.std.specs.BTreeMap.{BTreeMap, get}
use Rattle.mtapi_renaming.specs.Names.{ObjectKind, Action, Group, Queue, Mutex, Sem, Rwl, Shmem}
use Rattle.mtapi_values.specs.declared.handles.ObjectKind.TheVariants.{Task}
use Rattle.mtapi_renaming.specs.declared.maps.OtherHandles.{OtherHandles}
use Rattle.mtapi_renaming.specs.Renaming.{or_zero, Renaming}

-- the map of a kind
abbrev pub map_of : OtherHandles → ObjectKind → BTreeMap ℕ ℕ
map_of m Action = m.actions
map_of m Task = m.tasks
map_of m Group = m.groups
map_of m Queue = m.queues
map_of m Mutex = m.mutexes
map_of m Sem = m.sems
map_of m Rwl = m.rwls
map_of m Shmem = m.segments

-- what stands beside a handle, and 0 where nothing does
abbrev pub renaming_of : OtherHandles → Renaming
renaming_of m k h = or_zero (get nat_cmp (map_of m k) h)
