-- The ops on actions are steps of the machine.
use Rattle.node_steps.proofs.Names.{nat_tests, ◌≡◌, ◌⊎◌, ℕ, Bool, true, false, not, List, Option, Some, None, Result, Ok, Err, refl, sym, ap, subst, arith, ◌&&◌, Kind, Mask, ActionHandle, MtapiStatus, first, Slots, slot_value, IsFull, Inserts, changed, Listed, live_object, any_listed, issue, update, any-none, any-live, Action, new_action, action_create_refusals, has_job, has_enabled_job, with_enabled, Covers, job_of, Cover, NoAction, AllDisabled, Cores, Op, Reply, is_open, row, IsHonest, PoolNode, Lists, Holds, Live, PoolNodeSteps, state_of, and_parts}
use Rattle.mtapi_values.specs.declared.statuses.MtapiStatus.TheVariants as m
use Rattle.job_table.specs.Answers.{CreatesAction}
use Rattle.mtapi_machine.specs.declared.ops.Op.TheVariants as op
use Rattle.mtapi_machine.specs.declared.replies.Reply.TheVariants as reply
use Rattle.node_steps.proofs.Gives.{Gives, allows, gives_this, past, past_all, at_some, steps}
use Rattle.node_steps.proofs.Moves.{found, full_list, room_in, may_be, holds_insert, holds_changed}

pub not_true : (b : Bool) → b ≡ true → not b ≡ false
not_true b e = ap not e

-- which job has an action, by the cores that its actions cover
pub covers_none : (size turns : ℕ) (p : Slots Action) (l : List (Listed Action)) (job : ℕ) → Holds size turns p l → Covers p job NoAction
    → any_listed (has_job job) l ≡ false
covers_none size turns p l job s c = any-none p l (has_job job) s.stands c

pub covers_some : (size turns : ℕ) (p : Slots Action) (l : List (Listed Action)) (job : ℕ) (c : Cover) → Holds size turns p l → Covers p job c
    → (c ≡ NoAction → ⊥) → any_listed (has_job job) l ≡ true
covers_some size turns p l job c e1 e2 e3 = grind (arith, nat_tests, any-live, has_job, and_parts)

pub enabled_some : (size turns : ℕ) (p : Slots Action) (l : List (Listed Action)) (job : ℕ) (mask : Mask) → Holds size turns p l → Covers p job (Cores mask)
    → any_listed (has_enabled_job job) l ≡ true
enabled_some size turns p l job mask s c = any-live p l (has_enabled_job job) c.0.0 c.0.1 s.stands c.0.2 c.0.3

pub enabled_none : (size turns : ℕ) (p : Slots Action) (l : List (Listed Action)) (job : ℕ) → Holds size turns p l → Covers p job AllDisabled
    → any_listed (has_enabled_job job) l ≡ false
enabled_none size turns p l job s c = any-none p l (has_enabled_job job) s.stands c.1

-- what a create is answered
abbrev pub create_reply : Result ActionHandle MtapiStatus → Reply
create_reply (Ok a) = reply.Handle a.0
create_reply (Err c) = reply.Mtapi c

create_refused : (n : PoolNode) (l : Lists) (who job : ℕ) (kind : Kind) (cores : Mask) (c : MtapiStatus) → Live n l → is_open n.core.phase ≡ true
    → first (action_create_refusals job) ≡ Some c → PoolNodeSteps n l who (op.ActionCreate job kind cores) (reply.Mtapi c) n
create_refused n l who job kind cores c e1 e2 e3 = grind (arith, nat_tests)

create_full : (n : PoolNode) (l : Lists) (who job : ℕ) (kind : Kind) (cores : Mask) → Live n l → is_open n.core.phase ≡ true
    → first (action_create_refusals job) ≡ None → IsFull n.scheduler.actions
    → PoolNodeSteps n l who (op.ActionCreate job kind cores) (reply.Mtapi m.ErrActionLimit) n
create_full n l who job kind cores e1 e2 e3 e4 = grind (arith, nat_tests, not_true, past_all, action_create_refusals, full_list)

create_made : (n : PoolNode) (q : Slots Action) (l : Lists) (who job : ℕ) (kind : Kind) (cores : Mask) (h : ℕ) → Live n l → is_open n.core.phase ≡ true
    → first (action_create_refusals job) ≡ None → (IsFull n.scheduler.actions → ⊥) → Inserts n.scheduler.actions q h (new_action job kind cores.0)
    → PoolNodeSteps n l who (op.ActionCreate job kind cores) (reply.Handle h) (record n { scheduler = record n.scheduler { actions = q } })
create_made n q l who job kind cores h v up f room i =
    steps n (record n { scheduler = record n.scheduler { actions = q } }) l (record l { actions = issue h (new_action job kind cores.0) l.actions }) who
    (op.ActionCreate job kind cores) (reply.Handle h)
    (past _ _ _ _ _ _ (not_true _ up) (past_all _ _ (action_create_refusals job) _ _ f
    (past _ _ _ _ _ _ (room_in _ _ n.scheduler.actions l.actions v.actions room)
    (allows _ _ _ _ _ (may_be _ _ n.scheduler.actions q l.actions h _ v.actions i) (gives_this _ _ _)))))
    (record {
      actions = holds_insert _ _ n.scheduler.actions q l.actions h (new_action job kind cores.0) v.actions i;
      tasks = v.tasks;
      groups = v.groups;
      queues = v.queues;
      resources = v.resources;
    })
    refl (omega arith) tt

as_was : (n : PoolNode) (q : Slots Action) (l : Lists) (who job : ℕ) (kind : Kind) (cores : Mask) (r : Reply) → q ≡ n.scheduler.actions
    → PoolNodeSteps n l who (op.ActionCreate job kind cores) r n
    → PoolNodeSteps n l who (op.ActionCreate job kind cores) r (record n { scheduler = record n.scheduler { actions = q } })
as_was n q l who job kind cores r e s = grind (arith, nat_tests)

create_failed : (n : PoolNode) (q : Slots Action) (l : Lists) (who job : ℕ) (kind : Kind) (cores : Mask) (c : MtapiStatus) → Live n l
    → is_open n.core.phase ≡ true → CreatesAction n.scheduler.actions job kind cores.0 (Err c) q
    → PoolNodeSteps n l who (op.ActionCreate job kind cores) (reply.Mtapi c) (record n { scheduler = record n.scheduler { actions = q } })
create_failed n q l who job kind cores m.ErrActionLimit v up c = as_was n q l who job kind cores _ c.2 (create_full n l who job kind cores v up c.0 c.1)
create_failed n q l who job kind cores x v up c = as_was n q l who job kind cores _ c.1 (create_refused n l who job kind cores x v up c.0)

pub create_steps : (n : PoolNode) (q : Slots Action) (l : Lists) (who job : ℕ) (kind : Kind) (cores : Mask) (x : Result ActionHandle MtapiStatus) → Live n l
    → is_open n.core.phase ≡ true → CreatesAction n.scheduler.actions job kind cores.0 x q
    → PoolNodeSteps n l who (op.ActionCreate job kind cores) (create_reply x) (record n { scheduler = record n.scheduler { actions = q } })
create_steps n q l who job kind cores (Ok a) v up c = create_made n q l who job kind cores a.0 v up c.0 c.1 c.2
create_steps n q l who job kind cores (Err x) v up c = create_failed n q l who job kind cores x v up c

-- enabling
job_found : (o : Option Action) (j : ℕ) → job_of o ≡ Ok j → (x : Action) × (o ≡ Some x)
job_found o j e1 = grind (arith, nat_tests)

pub enable_steps : (n : PoolNode) (q : Slots Action) (l : Lists) (who j : ℕ) (a : ActionHandle) → Live n l → is_open n.core.phase ≡ true
    → job_of (slot_value n.scheduler.actions a.0) ≡ Ok j → q ≡ changed n.scheduler.actions a.0 (with_enabled true)
    → PoolNodeSteps n l who (op.ActionEnable a) reply.Ok (record n { scheduler = record n.scheduler { actions = q } })
enable_steps n q l who j a v up e new =
    let x = job_found (slot_value n.scheduler.actions a.0) j e in
    subst (λ (p : Slots Action). PoolNodeSteps n l who (op.ActionEnable a) reply.Ok (record n { scheduler = record n.scheduler { actions = p } })) (sym new)
    (steps n (record n { scheduler = record n.scheduler { actions = changed n.scheduler.actions a.0 (with_enabled true) } }) l
    (record l { actions = update a.0 (with_enabled true) l.actions }) who (op.ActionEnable a) reply.Ok
    (past _ _ _ _ _ _ (not_true _ up) (at_some _ _ _ x.0 _ _ _ (found _ _ n.scheduler.actions l.actions a.0 (Some x.0) v.actions x.1) (gives_this _ _ _)))
    (record {
      actions = holds_changed _ _ n.scheduler.actions l.actions a.0 (with_enabled true) v.actions;
      tasks = v.tasks;
      groups = v.groups;
      queues = v.queues;
      resources = v.resources;
    })
    refl (omega arith) tt)

pub action_absent : (n : PoolNode) (l : Lists) (who : ℕ) (o : Op) (a : ActionHandle) (c : MtapiStatus) (f : Action → Action) → Live n l
    → job_of (slot_value n.scheduler.actions a.0) ≡ Err c → IsHonest o
    → (live_object l.actions a.0 ≡ None → Gives (state_of n l) (row (state_of n l) who o (reply.Mtapi m.ErrActionInvalid)) (reply.Mtapi m.ErrActionInvalid)
    (state_of n l)) → PoolNodeSteps n l who o (reply.Mtapi c) (record n { scheduler = record n.scheduler { actions = changed n.scheduler.actions a.0 f } })
action_absent n l who o a c f e1 e2 e3 e4 = grind (arith, nat_tests)

-- one of the two other cases
pub some_cover : (c : Cover) → (c ≡ AllDisabled) ⊎ ((mask : Mask) × (c ≡ Cores mask)) → c ≡ NoAction → ⊥
some_cover c e1 e2 = grind (arith, nat_tests)
