-- What is shown of the list of one kind, said of each kind.
use Rattle.mtapi_machine.proofs.Names.{◌≡◌, ℕ, Bool, List, refl, Listed, Action, Task, Terms, State, Objects, FieldsOf, objects_of, opening, Sort, Groups, Queues, Mutexes, Sems, Rwls, Segments, Fields, all_of, []}
use Rattle.mtapi_values.specs.declared.handles.ObjectKind.{ObjectKind}
use Rattle.mtapi_values.specs.declared.handles.ObjectKind.TheVariants as kind
use Rattle.mtapi_machine.specs.declared.terms.Phase.{Phase}
use Rattle.mtapi_machine.specs.State.{actions, tasks}

pub own_kind : (k : ObjectKind) → (objects_of k).kind ≡ k
own_kind kind.Action = refl
own_kind _ = refl

-- what an empty list has, each list has before the first entry
pub at_opening : (P : (T : Type 0) → List (Listed T) → Type 0) → ((T : Type 0) → P T []) → (terms : Terms) (k : ObjectKind)
    → P (FieldsOf k) ((objects_of k).list (opening terms))
at_opening P none terms kind.Action = none _
at_opening P none terms _ = none _

-- what a sort has, its kind has
pub of_sort : (P : (T : Type 0) → Objects T → Type 0) (t : Sort) → P (Fields t) (all_of t) → P (FieldsOf (all_of t).kind) (objects_of (all_of t).kind)
of_sort P Groups v = v
of_sort P _ v = v

-- the list of a sort, where it is this one
pub sort_at : (t : Sort) (l : List (Listed (Fields t))) (s : State) → (all_of t).list ((all_of t).with_list l s) ≡ l
sort_at Groups l s = refl
sort_at _ l s = refl

-- each list of one state and that of the other one
abbrev pub OnEach : ((T : Type 0) → Objects T → List (Listed T) → List (Listed T) → Type 0) → State → State → Type 0
OnEach P s t = (k : ObjectKind) → P (FieldsOf k) (objects_of k) ((objects_of k).list s) ((objects_of k).list t)

-- the state with other actions and tasks, or with another list of a sort: what each list has with itself is left to show of these alone
module _ (P : (T : Type 0) → Objects T → List (Listed T) → List (Listed T) → Type 0) (same : (T : Type 0) (o : Objects T) (l : List (Listed T))
    → P T o l l) (s : State) where
  pub each_so : (p : Phase) (b : Bool) (marks : List Bool) (starts ends : ℕ) (l : List (Listed Action)) (ts : List (Listed Task)) → P Action actions s.actions l
      → P Task tasks s.tasks ts →
      OnEach P s (record s { phase = p; released = b; stopped = marks; starts = starts; ends = ends; actions = l; tasks = ts })
  each_so p b marks starts ends l ts v w kind.Action = v
  each_so p b marks starts ends l ts v w kind.Task = w
  each_so p b marks starts ends l ts v w k = same (FieldsOf k) (objects_of k) ((objects_of k).list s)

  pub each_with : (t : Sort) (l : List (Listed (Fields t))) → P (Fields t) (all_of t) ((all_of t).list s) l → OnEach P s ((all_of t).with_list l s)
  each_with Groups l v kind.Group = v
  each_with Queues l v kind.Queue = v
  each_with Mutexes l v kind.Mutex = v
  each_with Sems l v kind.Sem = v
  each_with Rwls l v kind.Rwl = v
  each_with Segments l v kind.Shmem = v
  each_with _ l v k = same (FieldsOf k) (objects_of k) ((objects_of k).list s)
