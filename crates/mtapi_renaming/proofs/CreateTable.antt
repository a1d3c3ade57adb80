-- Every row of an op that makes an object, in the renamed state: a line an op.
use Rattle.mtapi_renaming.proofs.Names.{◌≡◌, ℕ, Bool, Option, Some, None, refl, ap, subst, ◌==◌, not, ObjectKind, GroupHandle, QueueHandle, new_action, has_job, new_group, new_mutex, new_sem, sem_create_refusals, new_rwl, rwl_create_refusals, new_segment, shmem_create_refusals, Op, State, Groups, keyed_queues, keyed_mutexes, keyed_sems, keyed_rwls, keyed_segments, asked_for, asked_of, new_queue, row, Renaming, Room, renamed, Follows, renamed_op, made_kind}
use Rattle.mtapi_values.specs.declared.handles.ObjectKind.TheVariants as kind
use Rattle.mtapi_machine.specs.declared.ops.Op.TheVariants as op
use Rattle.mtapi_renaming.proofs.TaskRows.{action-any, count-in}
use Rattle.mtapi_renaming.proofs.Creates.{CreateAlike, unless_creates, mrapi_creates, creates_action, creates_task, creates_sort, keyed_creates, starts_creates, on_queue}

module _ {g : Renaming} {s : State} (n : Follows g s) (x : Room) (h other : ℕ) (who : ℕ) where
  abbrev Alike : ObjectKind → Op → Type 0
  Alike k o = CreateAlike g x s k h other (λ r. row s who o r) (λ r. row (renamed g x s) who (renamed_op g o) r)

  action_alike : (job : ℕ) (y : _) (cores : _) → Alike kind.Action (op.ActionCreate job y cores)
  action_alike job y cores = unless_creates refl refl (unless_creates refl refl (creates_action n (new_action job y cores.0)))

  start_alike : (job : ℕ) (args : _) (priority : ℕ) (cores : _) (detached : Bool) (group : Option GroupHandle)
      → Alike kind.Task (op.TaskStart job args priority cores detached group)
  start_alike job args priority cores detached None =
      unless_creates refl refl (unless_creates refl refl
      (starts_creates n (asked_for job args priority cores detached None) (λ c. creates_task n (asked_for job args priority cores detached None) c tt)))
  start_alike job args priority cores detached (Some c) =
      unless_creates refl refl (unless_creates refl refl
      (starts_creates n (asked_for job args priority cores detached (Some c))
      (λ d. creates_task n (asked_for job args priority cores detached (Some c)) d tt)))

  enqueue_alike : (q : QueueHandle) (args : _) (cores : _) (detached : Bool) (group : Option GroupHandle)
      → Alike kind.Task (op.TaskEnqueue q args cores detached group)
  enqueue_alike q args cores detached None =
      unless_creates refl refl (unless_creates refl refl
      (on_queue n q.0 _ _ (λ y has. unless_creates refl refl (starts_creates n (asked_of q.0 y args cores detached None)
      (λ d. unless_creates (ap (λ (m : ℕ). m == y.limit) (count-in n.fits x q.0)) refl (creates_task n (asked_of q.0 y args cores detached None) d has))))))
  enqueue_alike q args cores detached (Some f) =
      unless_creates refl refl (unless_creates refl refl
      (on_queue n q.0 _ _ (λ y has. unless_creates refl refl (starts_creates n (asked_of q.0 y args cores detached (Some f))
      (λ d. unless_creates (ap (λ (m : ℕ). m == y.limit) (count-in n.fits x q.0)) refl (creates_task n (asked_of q.0 y args cores detached (Some f)) d has))))))

  queue_alike : (id job priority limit : ℕ) (ordered retain : Bool) → Alike kind.Queue (op.QueueCreate id job priority limit ordered retain)
  queue_alike id job priority limit ordered retain =
      unless_creates refl refl (unless_creates refl refl
      (unless_creates (ap not (action-any n.fits x (has_job job))) refl
      (keyed_creates n keyed_queues (new_queue id job priority limit ordered retain) refl)))

  -- of the kind that an op makes
  abbrev OfMade : Option ObjectKind → Op → Type 0
  OfMade None o = Unit {0}
  OfMade (Some k) o = Alike k o

  made_alike : (o : Op) → OfMade (made_kind o) o
  made_alike (op.ActionCreate job y cores) = action_alike job y cores
  made_alike (op.TaskStart job args priority cores detached group) = start_alike job args priority cores detached group
  made_alike (op.TaskEnqueue q args cores detached group) = enqueue_alike q args cores detached group
  made_alike op.GroupCreate = unless_creates refl refl (creates_sort n Groups new_group)
  made_alike (op.QueueCreate id job priority limit ordered retain) = queue_alike id job priority limit ordered retain
  made_alike (op.MutexCreate id recursive) =
      unless_creates refl refl (unless_creates refl refl (keyed_creates n keyed_mutexes (new_mutex id recursive) refl))
  made_alike (op.SemCreate id limit) =
      unless_creates refl refl (unless_creates refl refl (mrapi_creates (sem_create_refusals limit) (keyed_creates n keyed_sems (new_sem id limit) refl)))
  made_alike (op.RwlCreate id limit) =
      unless_creates refl refl (unless_creates refl refl (mrapi_creates (rwl_create_refusals limit) (keyed_creates n keyed_rwls (new_rwl id limit) refl)))
  made_alike (op.ShmemCreate id cells) =
      unless_creates refl refl
      (unless_creates refl refl (mrapi_creates (shmem_create_refusals cells) (keyed_creates n keyed_segments (new_segment id cells) refl)))
  made_alike _ = tt

  pub create_alike : (k : ObjectKind) (o : Op) → made_kind o ≡ Some k → Alike k o
  create_alike k o i = subst (λ (m : Option ObjectKind). OfMade m o) i (made_alike o)
