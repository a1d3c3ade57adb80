-- What it means that pools stand for lists of the machine, one pool and the four of the resources.
use Rattle.std.specs.Prelude.{◌≡◌, ℕ, ◌≤◌, List}
use Rattle.mtapi_values.specs.Attributes.{NodeSettings}
use Rattle.handle_pool.specs.Slots.{Slots, max_of}
use Rattle.handle_pool.specs.Issued.{Listed}
use Rattle.handle_pool.specs.Stands.{Stands as SlotsStand}
use Rattle.mtapi_objects.specs.Mutexes.{Mutex}
use Rattle.mtapi_objects.specs.Sems.{Sem}
use Rattle.mtapi_objects.specs.Rwls.{Rwl}
use Rattle.mtapi_objects.specs.Segments.{Segment}
use Rattle.mtapi_machine.specs.State.{State, Objects, mutexes, sems, rwls, segments}

-- the slots of a pool stand for this list, and are as many and used as often as the settings say
pub record Holds {T : Type 0} (size turns : ℕ) (p : Slots T) (l : List (Listed T)) : Type 0 where
  pub stands : SlotsStand p l
  pub max : max_of p ≡ size
  pub generations : p.generations ≡ turns

-- the same for the pool of a kind, with the settings of a node
abbrev pub HoldsList : {T : Type 0} → Objects T → NodeSettings → Slots T → List (Listed T) → Type 0
HoldsList o settings p l = Holds (o.max settings) settings.generations p l

-- the four kinds of resources, each as the slots of its pool
pub record ResourceTable : Type 0 where
  pub mutexes : Slots Mutex
  pub sems : Slots Sem
  pub rwls : Slots Rwl
  pub segments : Slots Segment

-- the objects of these kinds that were ever made
pub record ResourceLists : Type 0 where
  pub mutexes : List (Listed Mutex)
  pub sems : List (Listed Sem)
  pub rwls : List (Listed Rwl)
  pub segments : List (Listed Segment)

-- each pool stands for the list of its kind
pub record HoldsAll (settings : NodeSettings) (r : ResourceTable) (l : ResourceLists) : Type 0 where
  pub mutexes : HoldsList mutexes settings r.mutexes l.mutexes
  pub sems : HoldsList sems settings r.sems l.sems
  pub rwls : HoldsList rwls settings r.rwls l.rwls
  pub segments : HoldsList segments settings r.segments l.segments

-- the four lists of a state
abbrev pub resource_lists : State → ResourceLists
resource_lists s = record { mutexes = s.mutexes; sems = s.sems; rwls = s.rwls; segments = s.segments }

-- the pools stand for the four lists of a state, with its settings
abbrev pub ResourcesStand : State → ResourceTable → Type 0
ResourcesStand s r = HoldsAll s.terms.settings r (resource_lists s)

-- each pool has at most 65,536 slots
pub record AreSmall (r : ResourceTable) : Type 0 where
  pub mutexes : max_of r.mutexes ≤ 65536
  pub sems : max_of r.sems ≤ 65536
  pub rwls : max_of r.rwls ≤ 65536
  pub segments : max_of r.segments ≤ 65536
