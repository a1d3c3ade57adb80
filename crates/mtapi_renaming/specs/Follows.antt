-- Renamings that have just the handles that were issued in a state.
use Rattle.std.specs.Prelude.{◌≡◌, ◌⊎◌, ℕ, ◌≤◌, List, [], ◌∷◌}
use Rattle.std.specs.Option.{IfSome}
use Rattle.mtapi_renaming.specs.Names.{ObjectKind, Listed, listed, Notes, TallyNotes, State, objects_of}
use Rattle.mtapi_values.specs.declared.handles.ObjectKind.TheVariants as kind
use Rattle.mtapi_objects.specs.Tasks.{Task}
use Rattle.mtapi_renaming.specs.Renaming.{Renaming, HasOtherName, IsOneToOne}

-- no handle, or one that has another
abbrev pub HasOrNone : Renaming → ObjectKind → ℕ → Type 0
HasOrNone g k h = (h ≡ 0) ⊎ HasOtherName g k h

-- the mutex and the segment of a tally, where it has them
pub record HasTally (g : Renaming) (t : TallyNotes) : Type 0 where
  pub mutex : HasOrNone g kind.Mutex t.mutex
  pub segment : HasOrNone g kind.Shmem t.segment

-- what is noted of a task: its group, and what its tally has
pub record HasNotes (g : Renaming) (n : Notes) : Type 0 where
  pub group : IfSome n.group (HasOtherName g kind.Group)
  pub tally : HasTally g n.tally

-- the fields of a task: its queue, and what is noted of it
pub record HasTaskNames (g : Renaming) (t : Task) : Type 0 where
  pub queue : IfSome t.queue (HasOtherName g kind.Queue)
  pub notes : HasNotes g t.notes

-- objects whose fields have no handle
abbrev pub NoHandle : {T : Type 0} → T → Type 0
NoHandle x = Unit {0}

-- each handle of the list has another one, and so have those among the fields
abbrev pub HasEach : {T : Type 0} → Renaming → ObjectKind → (T → Type 0) → List (Listed T) → Type 0
HasEach g k P [] = Unit {0}
HasEach g k P (r ∷ rs) = (HasOtherName g k r.handle × P r.fields) × HasEach g k P rs

-- each handle in the state has another one; no two have the same, and 0, which is never issued, stays 0
pub record FitsState (g : Renaming) (s : State) : Type 0 where
  pub one : IsOneToOne g
  pub zero : (k : ObjectKind) → g k 0 ≡ 0
  pub actions : HasEach g kind.Action NoHandle s.actions
  pub tasks : HasEach g kind.Task (HasTaskNames g) s.tasks
  pub groups : HasEach g kind.Group NoHandle s.groups
  pub queues : HasEach g kind.Queue NoHandle s.queues
  pub mutexes : HasEach g kind.Mutex NoHandle s.mutexes
  pub sems : HasEach g kind.Sem NoHandle s.sems
  pub rwls : HasEach g kind.Rwl NoHandle s.rwls
  pub segments : HasEach g kind.Shmem NoHandle s.segments

-- how often a handle of the kind was issued
abbrev pub listed_in : ObjectKind → State → ℕ → ℕ
listed_in k s h = listed h ((objects_of k).list s)

-- no handle has another one but those that were issued
abbrev pub Only : Renaming → State → Type 0
Only g s = (k : ObjectKind) (h : ℕ) → HasOtherName g k h → 1 ≤ listed_in k s h

-- the handles that have other ones are those that were issued
pub record Follows (g : Renaming) (s : State) : Type 0 where
  pub fits : FitsState g s
  pub only : Only g s
