-- In which parts a node agrees with the state that its callers see after a list for which it stands.
use Rattle.std.specs.Prelude.{◌≡◌, ◌⊎◌, ℕ, ◌<◌, ◌≤◌, true, List, Some, None, slice_get}
use Rattle.std.specs.Option.{option_map}
use Rattle.mtapi_values.specs.Layouts.{outer}
use Rattle.mtapi_values.specs.declared.handles.ObjectKind.{ObjectKind}
use Rattle.mtapi_values.specs.declared.handles.ObjectKind.TheVariants as kind
use Rattle.handle_pool.specs.Slots.{Slot, Slots, slot_of, generation_of, slot_value, retired_count}
use Rattle.handle_pool.specs.Issued.{Listed, live_object, listed, issued_at, retired}
use Rattle.handle_pool.specs.Stands.{generation_after}
use Rattle.mtapi_machine.specs.State.{State}
use Rattle.mtapi_layouts.specs.Inward.{inward}
use Rattle.mtapi_layouts.specs.Turned.{state_in_one, turned_list, turned_task}
use Rattle.task_board.specs.Scheduler.{records_of, group_slots}
use Rattle.node_resources.specs.Holds.{resource_lists}
use Rattle.node_steps.specs.Stands.{Lists, state_of}
use Rattle.node_steps.specs.Keeps.{Keeps}
use Rattle.node_core.specs.declared.node.Node.{Node}
use Rattle.node_core.specs.Stands.{terms_of_node}

-- the slot has had this generation: it has a later one, or it is retired with the last one
abbrev pub IsPast : {T : Type 0} → ℕ → ℕ → Slot T → Type 0
IsPast last generation slot = (generation < slot.generation) ⊎ ((slot.retired ≡ true) × (slot.generation ≡ last))

-- the pool of a kind agrees with the list of this kind, where `f` turns the handles among the fields of an object inwards
pub record AgreesIn {T : Type 0} (k : ObjectKind) (f : T → T) (generations : ℕ) (p : Slots T) (l : List (Listed T)) : Type 0 where
  -- the live slots, with their handles turned by `outer`, are live records with the same fields, and these are all
  pub slots : (h : ℕ) (x : T) → slot_value p h ≡ Some x → option_map f (live_object l (outer k h)) ≡ Some x
  pub records : (h : ℕ) (x : T) → live_object l h ≡ Some x → (h ≡ outer k (inward k h)) × (slot_value p (inward k h) ≡ Some (f x))
  -- a listed handle that isn't live is past: each taken as the pool has it
  pub past : (h : ℕ) (slot : Slot T) → 1 ≤ listed h (turned_list k f l) → live_object (turned_list k f l) h ≡ None → slice_get p.slots (slot_of h) ≡ Some slot
      → IsPast generations (generation_of h) slot
  -- a slot's generation is the number of listed handles that have the slot, and one more where it is empty and not retired
  pub turns : (place : ℕ) (slot : Slot T) → slice_get p.slots place ≡ Some slot
      → slot.generation ≡ generation_after slot.value slot.retired (issued_at place (turned_list k f l))
  -- as many slots are retired as handles of the list
  pub retired : retired_count p ≡ retired generations (turned_list k f l)

-- objects whose fields have no handle
abbrev pub same_fields : {T : Type 0} → T → T
same_fields x = x

-- the lists of a state
abbrev pub lists_in : State → Lists
lists_in s = record { actions = s.actions; tasks = s.tasks; groups = s.groups; queues = s.queues; resources = resource_lists s }

-- the node agrees with the state that its callers see
pub record Agrees (n : Node) (s : State) : Type 0 where
  -- the terms, the phase, the release, the stopped workers and the two counts are the node's: all but the lists
  pub beside : state_in_one s ≡ state_of n.inner (lists_in (state_in_one s))
  -- the pool of each kind
  pub actions : AgreesIn kind.Action same_fields (terms_of_node n).settings.generations n.inner.scheduler.actions s.actions
  pub tasks : AgreesIn kind.Task turned_task (terms_of_node n).settings.generations n.inner.scheduler.tasks.pool s.tasks
  pub groups : AgreesIn kind.Group same_fields (terms_of_node n).settings.generations (group_slots n.inner.scheduler) s.groups
  pub queues : AgreesIn kind.Queue same_fields (terms_of_node n).settings.generations (records_of n.inner.scheduler.queues.pool) s.queues
  pub mutexes : AgreesIn kind.Mutex same_fields (terms_of_node n).settings.generations n.inner.resources.mutexes s.mutexes
  pub sems : AgreesIn kind.Sem same_fields (terms_of_node n).settings.generations n.inner.resources.sems s.sems
  pub rwls : AgreesIn kind.Rwl same_fields (terms_of_node n).settings.generations n.inner.resources.rwls s.rwls
  pub segments : AgreesIn kind.Shmem same_fields (terms_of_node n).settings.generations n.inner.resources.segments s.segments
  -- the marks of the ready index, the tasks that run and wait, and the lists of groups and of queues, each task as the pool has it
  pub keeps : Keeps (state_in_one s) n.inner.scheduler
