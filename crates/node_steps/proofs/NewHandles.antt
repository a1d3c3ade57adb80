-- The handle of a new object names a slot of its pool, so it is small.
use Rattle.node_steps.proofs.Names.{nat_tests, ℕ, ◌≤◌, true, false, List, [], ◌∷◌, Option, sym, subst, arith, eq-eqb, Slots, Listed, live_object, listed, issue, Op, Reply, Handle, State, Objects, actions, tasks, groups, queues, mutexes, sems, rwls, segments, new_action, new_task, new_group, new_mutex, new_sem, new_rwl, new_segment, Move, Groups, Queues, Mutexes, Sems, Rwls, Segments, makes_action, starts_task, makes, is_fresh, apply, after_moves, asked_for, new_queue, Row, unless, gives, never, only, live, handle_of, Allows, after_row, row, HandleIsSmall, IssuesSmall, PoolNode, Lists, Holds, PoolNodeSteps, state_of}
use Rattle.handle_pool.proofs.ListedLemmas.{listed-issue}
use Rattle.mtapi_machine.specs.declared.ops.Op.TheVariants as op
use Rattle.mtapi_machine.specs.TaskRows.{asked_of}
use Rattle.mtapi_layouts.specs.Inward.{HasKindRoom}

-- P of the handle that the reply gives, if it gives one, and of the state then
abbrev OfHandle : (ℕ → State → Type 0) → Reply → State → Type 0
OfHandle P (Handle h) t = P h t
OfHandle P r t = Unit {0}

-- P of each handle that the row gives, and of the state that it leads to; no row refuses with a handle
abbrev AllOfHandle : (ℕ → State → Type 0) → State → Row → Type 0
AllOfHandle P s (unless c (Handle h) w) = ⊥
AllOfHandle P s (unless c x w) = AllOfHandle P s w
AllOfHandle P s (gives x ms) = OfHandle P x (after_moves ms s)
AllOfHandle P s never = Unit {0}

of_allowed : (P : ℕ → State → Type 0) (s : State) (w : Row) (r : Reply) → AllOfHandle P s w → Allows w r → OfHandle P r (after_row s w)
of_allowed P s (unless c (Handle h) w) r g a = absurd g
of_allowed P s (unless true x w) r g a = subst (λ (y : Reply). OfHandle P y s) (sym a) tt
of_allowed P s (unless false x w) r g a = of_allowed P s w r g a
of_allowed P s (gives x ms) r g a = subst (λ (y : Reply). OfHandle P y (after_moves ms s)) (sym a) g
of_allowed P s never r g a = absurd a

of_live : (P : ℕ → State → Type 0) (s : State) {T : Type 0} (o : Option T) (v : Row) (w : T → Row) → AllOfHandle P s v → ((x : T) → AllOfHandle P s (w x))
    → AllOfHandle P s (live o v w)
of_live P s o v w e1 e2 = grind (arith, nat_tests)

-- the object of this handle is among those that were made
abbrev Made : {T : Type 0} → Objects T → ℕ → State → Type 0
Made o h t = 1 ≤ listed h (o.list t)

issued : {T : Type 0} (h : ℕ) (x : T) (l : List (Listed T)) → 1 ≤ listed h (issue h x l)
issued h x l = grind (arith, nat_tests, listed-issue, eq-eqb)

-- the end of a row that makes an object
new_made : {T : Type 0} (k : Objects T) (s : State) (r : Reply) (make : ℕ → Move) → Made k (handle_of r) (apply (make (handle_of r)) s)
    → AllOfHandle (Made k) s (only (is_fresh k s (handle_of r)) (gives (Handle (handle_of r)) (make (handle_of r) ∷ [])))
new_made k s r make e1 = grind (arith, nat_tests)

-- each handle that is listed names a slot of the pool
has_room : {T : Type 0} {size turns : ℕ} {p : Slots T} {l : List (Listed T)} (h : ℕ) → Holds size turns p l → 1 ≤ listed h l → HasKindRoom h
has_room h holds made = let slot = (holds.stands.turns h made).has_slot in let few = holds.stands.few in omega (arith, slot, few)

-- the handle of a new object is small, once the list that it was added to has room
module _ (n m : PoolNode) (l : Lists) (who : ℕ) (o : Op) (r : Reply) (s : PoolNodeSteps n l who o r m) where
  small : {T : Type 0} (k : Objects T) → AllOfHandle (Made k) (state_of n l) (row (state_of n l) who o r)
      → ((h : ℕ) → 1 ≤ listed h (k.list (state_of m s.0)) → HasKindRoom h) → HandleIsSmall r
  small k all room = by_reply r (of_allowed (Made k) (state_of n l) (row (state_of n l) who o r) r all s.1.allowed)
    where
      by_reply : (q : Reply) → OfHandle (Made k) q (after_row (state_of n l) (row (state_of n l) who o r)) → HandleIsSmall q
      by_reply (Handle h) made = room h (subst (λ (t : State). 1 ≤ listed h (k.list t)) s.1.leads made)
      by_reply q made = tt

pub issues_small : (n m : PoolNode) (l : Lists) (who : ℕ) (o : Op) (r : Reply) → PoolNodeSteps n l who o r m → IssuesSmall o r
issues_small n m l who (op.ActionCreate job x cores) r s =
    small n m l who (op.ActionCreate job x cores) r s actions
    (new_made actions (state_of n l) r (λ h. makes_action h (new_action job x cores.0)) (issued _ _ l.actions)) (λ h. has_room h s.1.live.actions)
issues_small n m l who (op.TaskStart job args priority cores detached group) r s =
    small n m l who (op.TaskStart job args priority cores detached group) r s tasks
    (new_made tasks (state_of n l) r (λ h. starts_task h (asked_for job args priority cores detached group)) (issued _ _ l.tasks))
    (λ h. has_room h s.1.live.tasks)
issues_small n m l who (op.TaskEnqueue q args cores detached group) r s =
    small n m l who (op.TaskEnqueue q args cores detached group) r s tasks
    (of_live (Made tasks) (state_of n l) (live_object l.queues q.0) _ _ tt
    (λ x. new_made tasks (state_of n l) r (λ h. starts_task h (asked_of q.0 x args cores detached group)) (issued _ _ l.tasks)))
    (λ h. has_room h s.1.live.tasks)
issues_small n m l who op.GroupCreate r s =
    small n m l who op.GroupCreate r s groups (new_made groups (state_of n l) r (λ h. makes Groups h new_group) (issued _ _ l.groups))
    (λ h. has_room h s.1.live.groups)
issues_small n m l who (op.QueueCreate id job priority limit ordered retain) r s =
    small n m l who (op.QueueCreate id job priority limit ordered retain) r s queues
    (new_made queues (state_of n l) r (λ h. makes Queues h (new_queue id job priority limit ordered retain)) (issued _ _ l.queues))
    (λ h. has_room h s.1.live.queues)
issues_small n m l who (op.MutexCreate id recursive) r s =
    small n m l who (op.MutexCreate id recursive) r s mutexes
    (new_made mutexes (state_of n l) r (λ h. makes Mutexes h (new_mutex id recursive)) (issued _ _ l.resources.mutexes))
    (λ h. has_room h s.1.live.resources.mutexes)
issues_small n m l who (op.SemCreate id limit) r s =
    small n m l who (op.SemCreate id limit) r s sems
    (new_made sems (state_of n l) r (λ h. makes Sems h (new_sem id limit)) (issued _ _ l.resources.sems)) (λ h. has_room h s.1.live.resources.sems)
issues_small n m l who (op.RwlCreate id limit) r s =
    small n m l who (op.RwlCreate id limit) r s rwls
    (new_made rwls (state_of n l) r (λ h. makes Rwls h (new_rwl id limit)) (issued _ _ l.resources.rwls)) (λ h. has_room h s.1.live.resources.rwls)
issues_small n m l who (op.ShmemCreate id cells) r s =
    small n m l who (op.ShmemCreate id cells) r s segments
    (new_made segments (state_of n l) r (λ h. makes Segments h (new_segment id cells)) (issued _ _ l.resources.segments))
    (λ h. has_room h s.1.live.resources.segments)
issues_small n m l who o r s = tt
