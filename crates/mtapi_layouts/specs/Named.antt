-- States of layout two in which each handle names its kind.
use Rattle.std.specs.Prelude.{List}
use Rattle.mtapi_values.specs.declared.handles.ObjectKind.{ObjectKind}
use Rattle.mtapi_values.specs.declared.handles.ObjectKind.TheVariants as kind
use Rattle.handle_pool.specs.Issued.{Listed}
use Rattle.mtapi_objects.specs.Tasks.{Task}
use Rattle.mtapi_machine.specs.State.{State}
use Rattle.mtapi_renaming.specs.Follows.{HasTaskNames, HasEach}
pub use Rattle.mtapi_renaming.specs.Follows.{NoHandle}
use Rattle.mtapi_layouts.specs.Inward.{inward}

-- the handles of a task, of its queue, its group, and the mutex and the segment of its tally, where it has them
abbrev pub TaskIsNamed : Task → Type 0
TaskIsNamed t = HasTaskNames inward t

-- each handle of the list names the kind, and so do those among the fields
abbrev pub AreNamed : {T : Type 0} → ObjectKind → (T → Type 0) → List (Listed T) → Type 0
AreNamed k P l = HasEach inward k P l

-- each handle in the state names its kind
pub record Named (s : State) : Type 0 where
  pub actions : AreNamed kind.Action NoHandle s.actions
  pub tasks : AreNamed kind.Task TaskIsNamed s.tasks
  pub groups : AreNamed kind.Group NoHandle s.groups
  pub queues : AreNamed kind.Queue NoHandle s.queues
  pub mutexes : AreNamed kind.Mutex NoHandle s.mutexes
  pub sems : AreNamed kind.Sem NoHandle s.sems
  pub rwls : AreNamed kind.Rwl NoHandle s.rwls
  pub segments : AreNamed kind.Shmem NoHandle s.segments
