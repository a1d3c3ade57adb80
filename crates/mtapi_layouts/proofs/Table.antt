-- Every row of layout two, seen from inside, and the handles in the replies inside.
use Rattle.mtapi_layouts.proofs.Names.{◌≡◌, ℕ, Bool, Option, Some, None, refl, sym, ◌∙◌, ap, subst, ◌==◌, not, ObjectKind, Two, new_action, has_job, Op, Reply, Ok, Handle, State, Groups, Row, Allows, handle_of, keyed_queues, keyed_mutexes, keyed_sems, keyed_rwls, keyed_segments, asked_for, asked_of, row, FitsState, answered_kind, renamed_answer, renamed_reply, HasAnswer, IsRenamed, Alike, unless_alike, mrapi_alike, action-any, count-in, inward, room_one, state_in_one, inward_op, outward, HandleIsSmall, IssuesSmall, IsSmall, nat_tests, arith}
use Rattle.mtapi_values.specs.declared.handles.GroupHandle.{GroupHandle}
use Rattle.mtapi_values.specs.declared.handles.QueueHandle.{QueueHandle}
use Rattle.mtapi_objects.specs.Groups.{new_group}
use Rattle.mtapi_objects.specs.Mutexes.{new_mutex}
use Rattle.mtapi_objects.specs.Sems.{new_sem, sem_create_refusals}
use Rattle.mtapi_objects.specs.Rwls.{new_rwl, rwl_create_refusals}
use Rattle.mtapi_objects.specs.Segments.{new_segment, shmem_create_refusals}
use Rattle.mtapi_machine.specs.declared.ops.Op.TheVariants as op
use Rattle.mtapi_machine.specs.QueueRows.{new_queue}
use Rattle.mtapi_renaming.specs.Kinds.{made_kind}
use Rattle.mtapi_renaming.proofs.Table.{row_alike}
use Rattle.mtapi_renaming.proofs.Comes.{reply_comes}
use Rattle.mtapi_layouts.proofs.Handles.{inward-room, inward-outer}
use Rattle.mtapi_layouts.proofs.Creates.{creates_action, creates_task, creates_sort, keyed_creates, starts_alike, on_queue}

-- a reply with turned handles is small
small_of : (k : Option ObjectKind) (y : Reply) → HasAnswer inward k y → IsSmall (renamed_answer inward k y)
small_of k y has = grind (arith, nat_tests, inward-room)

-- a small reply, turned outwards and inwards again
pub inward-outward : (k : Option ObjectKind) (q : Reply) → IsSmall q → renamed_answer inward k (outward k q) ≡ q
inward-outward k q small = grind (arith, nat_tests, inward-outer)

come_small : (k : Option ObjectKind) (q : Reply) → IsRenamed inward k q → IsSmall q
come_small k q c = subst (λ (y : Reply). IsSmall y) (sym c.is) (small_of k c.own c.has)

-- an op that makes an object reads of its reply the handle alone
reads_handle : (u : State) (who : ℕ) (k : ObjectKind) (o : Op) (q : Reply) → made_kind o ≡ Some k
    → row u who (inward_op o) q ≡ row u who (inward_op o) (Handle (handle_of q))
reads_handle u who k o q i = grind (arith, nat_tests)

issues : (k : ObjectKind) (o : Op) (q : Reply) → made_kind o ≡ Some k → IssuesSmall o q → HandleIsSmall q
issues k o q i small = grind (arith, nat_tests)

module _ {s : State} (n : FitsState inward s) (two : s.terms.layout ≡ Two) (who : ℕ) where
  abbrev pub Turned : Op → Reply → Type 0
  Turned o r = Alike inward (room_one s.terms) s (answered_kind o) r (row s who o r) (row (state_in_one s) who (inward_op o) (renamed_reply inward o r))

  start_turned : (job : ℕ) (args : _) (priority : ℕ) (cores : _) (detached : Bool) (group : Option GroupHandle) (r : Reply)
      → Turned (op.TaskStart job args priority cores detached group) r
  start_turned job args priority cores detached None r =
      unless_alike n refl refl (unless_alike n refl refl
      (starts_alike n two (asked_for job args priority cores detached None)
      (λ a. creates_task n two (asked_for job args priority cores detached None) a tt r)))
  start_turned job args priority cores detached (Some c) r =
      unless_alike n refl refl (unless_alike n refl refl
      (starts_alike n two (asked_for job args priority cores detached (Some c))
      (λ a. creates_task n two (asked_for job args priority cores detached (Some c)) a tt r)))

  enqueue_turned : (q : QueueHandle) (args : _) (cores : _) (detached : Bool) (group : Option GroupHandle) (r : Reply)
      → Turned (op.TaskEnqueue q args cores detached group) r
  enqueue_turned q args cores detached None r =
      unless_alike n refl refl (unless_alike n refl refl
      (on_queue n two q.0 _ _ (λ y has. unless_alike n refl refl (starts_alike n two (asked_of q.0 y args cores detached None)
      (λ a. unless_alike n (ap (λ (m : ℕ). m == y.limit) (count-in n (room_one s.terms) q.0)) refl
      (creates_task n two (asked_of q.0 y args cores detached None) a has r))))))
  enqueue_turned q args cores detached (Some c) r =
      unless_alike n refl refl (unless_alike n refl refl
      (on_queue n two q.0 _ _ (λ y has. unless_alike n refl refl (starts_alike n two (asked_of q.0 y args cores detached (Some c))
      (λ a. unless_alike n (ap (λ (m : ℕ). m == y.limit) (count-in n (room_one s.terms) q.0)) refl
      (creates_task n two (asked_of q.0 y args cores detached (Some c)) a has r))))))

  pub row_turned : (o : Op) (r : Reply) → Turned o r
  row_turned (op.ActionCreate job y cores) r = unless_alike n refl refl (unless_alike n refl refl (creates_action n two (new_action job y cores.0) r))
  row_turned (op.TaskStart job args priority cores detached group) r = start_turned job args priority cores detached group r
  row_turned (op.TaskEnqueue q args cores detached group) r = enqueue_turned q args cores detached group r
  row_turned op.GroupCreate r = unless_alike n refl refl (creates_sort n two Groups new_group r)
  row_turned (op.QueueCreate id job priority limit ordered retain) r =
      unless_alike n refl refl (unless_alike n refl refl
      (unless_alike n (ap not (action-any n (room_one s.terms) (has_job job))) refl
      (keyed_creates n two keyed_queues (new_queue id job priority limit ordered retain) r refl)))
  row_turned (op.MutexCreate id recursive) r =
      unless_alike n refl refl (unless_alike n refl refl (keyed_creates n two keyed_mutexes (new_mutex id recursive) r refl))
  row_turned (op.SemCreate id limit) r = unless_alike n refl refl
      (unless_alike n refl refl (mrapi_alike n (sem_create_refusals limit) (keyed_creates n two keyed_sems (new_sem id limit) r refl)))
  row_turned (op.RwlCreate id limit) r = unless_alike n refl refl
      (unless_alike n refl refl (mrapi_alike n (rwl_create_refusals limit) (keyed_creates n two keyed_rwls (new_rwl id limit) r refl)))
  row_turned (op.ShmemCreate id cells) r =
      unless_alike n refl refl (unless_alike n refl refl
      (mrapi_alike n (shmem_create_refusals cells) (keyed_creates n two keyed_segments (new_segment id cells) r refl)))
  row_turned o r = row_alike n (room_one s.terms) who o r refl

  -- each handle in a reply inside leaves room for the number of its kind
  pub row_small : (o : Op) (q : Reply) → IssuesSmall o q → Allows (row (state_in_one s) who (inward_op o) q) q → IsSmall q
  row_small o q small a = by_kind (made_kind o) refl
    where
      by_reply : (k : ObjectKind) → made_kind o ≡ Some k → (y : Reply) → HandleIsSmall y → Allows (row (state_in_one s) who (inward_op o) y) y → IsSmall y
      by_reply k e (Handle h) room b = room
      by_reply k e y room b = come_small (answered_kind o) y
          ((row_turned o Ok).comes y (subst (λ (w : Row). Allows w y) (reads_handle (state_in_one s) who k o y e
          ∙ sym (reads_handle (state_in_one s) who k o Ok e)) b))

      by_kind : (m : Option ObjectKind) → made_kind o ≡ m → IsSmall q
      by_kind None e = come_small (answered_kind o) q (reply_comes n (room_one s.terms) who o q e a)
      by_kind (Some k) e = by_reply k e q (issues k o q e small) a
