-- The rows of the ops that make objects: a refusal, or the limit and then a new object, behind conditions. What holds of these parts
-- holds of each such row. This is the one proof with a case for each of these ops.
use Rattle.mtapi_renaming.proofs.Names.{arith, nat_tests, ◌≡◌, ℕ, Bool, true, [], ◌∷◌, ◌++◌, Option, Some, None, refl, subst, ◌==◌, ObjectKind, live_object, count_listed, Action, new_action, NewTask, new_group, put_refusals, is_unended_in, new_mutex, new_sem, new_rwl, new_segment, Op, Reply, Handle, Mtapi, State, Objects, actions, tasks, Move, Sort, Groups, Queues, Mutexes, Sems, Rwls, Segments, Fields, all_of, makes_action, starts_task, makes, apply, Row, unless, Allows, after_row, says, mtapi_unless, live, creates, start_refusals, asked_for, asked_of, new_queue, row, made_kind}
use Rattle.mtapi_values.specs.declared.handles.ObjectKind.TheVariants as kind
use Rattle.mtapi_values.specs.declared.statuses.MtapiStatus.TheVariants as m
use Rattle.mtapi_machine.specs.declared.ops.Op.TheVariants as op
use Rattle.mtapi_renaming.proofs.Rows.{is_plain}
use Rattle.mtapi_renaming.proofs.Creates.{no_handle, limit_plain}

-- what holds of the rows of an op for each reply, by the kind that it makes
pub record HoldsInParts (s : State) (P : ObjectKind → (Reply → Row) → Type 0) : Type 0 where
  pub refusal : {k : ObjectKind} (y : Reply) → is_plain y ≡ true → P k (λ r. says y)
  pub condition : {k : ObjectKind} {a : Bool} {y : Reply} {own : Reply → Row} → is_plain y ≡ true → P k own → P k (λ r. unless a y (own r))
  pub action : (a : Action) → P kind.Action (λ r. creates actions s r (λ b. makes_action b a))
  pub task : (t : NewTask) → P kind.Task (λ r. creates tasks s r (λ b. starts_task b t))
  pub sort : (t : Sort) (v : Fields t) → P (all_of t).kind (λ r. creates (all_of t) s r (λ b. makes t b v))

module _ {s : State} {P : ObjectKind → (Reply → Row) → Type 0} (w : HoldsInParts s P) (who : ℕ) where
  on_live : {T : Type 0} {k : ObjectKind} (o : Option T) (y : Reply) (v : T → Reply → Row) → is_plain y ≡ true → ((z : T) → P k (v z))
      → P k (λ r. live o (says y) (λ z. v z r))
  on_live None y v p each = w.refusal y p
  on_live (Some z) y v p each = each z

  abbrev Of : ObjectKind → Op → Type 0
  Of k o = P k (λ r. row s who o r)

  -- of the kind that an op makes
  abbrev OfMade : Option ObjectKind → Op → Type 0
  OfMade None o = Unit {0}
  OfMade (Some k) o = Of k o

  made_row : (o : Op) → OfMade (made_kind o) o
  made_row (op.ActionCreate job y cores) =
      w.condition refl (w.condition refl (w.action (new_action job y cores.0)))
  made_row (op.TaskStart job args priority cores detached group) =
      w.condition refl (w.condition refl (w.condition refl
      (w.condition refl (w.condition refl (w.condition refl (w.task (asked_for job args priority cores detached group)))))))
  made_row (op.TaskEnqueue queue args cores detached group) =
      w.condition refl (w.condition refl (on_live (live_object s.queues queue.0) (Mtapi m.ErrQueueInvalid)
      (λ z r. mtapi_unless (put_refusals z ++ start_refusals s (asked_of queue.0 z args cores detached group)
      ++ (count_listed (is_unended_in queue.0) s.tasks == z.limit, m.ErrQueueLimit) ∷ [])
      (creates tasks s r (λ b. starts_task b (asked_of queue.0 z args cores detached group)))) refl
      (λ z. w.condition refl (w.condition refl
      (w.condition refl (w.condition refl (w.condition refl (w.condition refl (w.task (asked_of queue.0 z args cores detached group))))))))))
  made_row op.GroupCreate =
      w.condition refl (w.sort Groups new_group)
  made_row (op.QueueCreate id job priority limit ordered retain) =
      w.condition refl (w.condition refl (w.condition refl (w.condition refl (w.sort Queues (new_queue id job priority limit ordered retain)))))
  made_row (op.MutexCreate id recursive) =
      w.condition refl (w.condition refl (w.condition refl (w.sort Mutexes (new_mutex id recursive))))
  made_row (op.SemCreate id limit) =
      w.condition refl (w.condition refl (w.condition refl (w.condition refl (w.sort Sems (new_sem id limit)))))
  made_row (op.RwlCreate id limit) =
      w.condition refl (w.condition refl (w.condition refl (w.condition refl (w.sort Rwls (new_rwl id limit)))))
  made_row (op.ShmemCreate id cells) =
      w.condition refl (w.condition refl (w.condition refl (w.condition refl (w.sort Segments (new_segment id cells)))))
  made_row _ = tt

  pub create_row : (k : ObjectKind) (o : Op) → made_kind o ≡ Some k → Of k o
  create_row k o i = subst (λ (m : Option ObjectKind). OfMade m o) i (made_row o)

-- where the row allows the handle, this holds of the state after it
record Makes (s : State) (Q : ObjectKind → State → Type 0) (h : ℕ) (k : ObjectKind) (own : Reply → Row) : Type 0 where
  makes : Allows (own (Handle h)) (Handle h) → Q k (after_row s (own (Handle h)))

-- what holds of a state with a new object under this handle
pub record HoldsOfNew (s : State) (Q : ObjectKind → State → Type 0) (h : ℕ) : Type 0 where
  pub action : (a : Action) → Q kind.Action (apply (makes_action h a) s)
  pub task : (t : NewTask) → Q kind.Task (apply (starts_task h t) s)
  pub sort : (t : Sort) (v : Fields t) → Q (all_of t).kind (apply (makes t h v) s)

module _ {s : State} {Q : ObjectKind → State → Type 0} {h : ℕ} where
  unless_makes : {k : ObjectKind} {a : Bool} {y : Reply} {own : Reply → Row} → is_plain y ≡ true → Makes s Q h k own → Makes s Q h k (λ r. unless a y (own r))
  unless_makes i j = grind (arith, nat_tests)

  creates_makes : {T : Type 0} {k : ObjectKind} (o : Objects T) (make : ℕ → Move) → is_plain o.limit ≡ true → Q k (apply (make h) s)
      → Makes s Q h k (λ r. creates o s r make)
  creates_makes o make i j = grind (arith, nat_tests)

  -- and so it holds after an op that answers the handle of a new object
  pub after_create : HoldsOfNew s Q h → (who : ℕ) (k : ObjectKind) (o : Op) → made_kind o ≡ Some k → Allows (row s who o (Handle h)) (Handle h)
      → Q k (after_row s (row s who o (Handle h)))
  after_create v who k o i a = (create_row parts who k o i).makes a
    where
      parts : HoldsInParts s (Makes s Q h)
      parts = record {
        refusal = λ y p. record { makes = λ i. absurd (no_handle h y p i) };
        condition = λ p x. unless_makes p x;
        action = λ a. creates_makes actions (λ b. makes_action b a) refl (v.action a);
        task = λ t. creates_makes tasks (λ b. starts_task b t) refl (v.task t);
        sort = λ t f. creates_makes (all_of t) (λ b. makes t b f) (limit_plain t) (v.sort t f);
      }
