-- The ops on groups are steps of the machine.
use Rattle.node_steps.proofs.Names.{nat_tests, ◌≡◌, ℕ, ◌+◌, ◌<◌, Bool, true, not, cond, List, [], ◌∷◌, length, Option, Some, None, Result, Ok, Err, refl, sym, ◌∙◌, ap, subst, arith, option_map, TaskEnd, GroupHandle, MtapiStatus, Slots, slot_value, without, NoneLive, live_of, live_object, change_all, issue, update, retire, TaskState, end_of, with_notes, Group, Ending, new_group, is_member, endings, first_fault, freed, let_go, in_no_group, Members, no_members, counts_of, Reply, State, is_open, is_up, row, QueueTable, SchedulerTable, group_slots, records_of, IsScheduler, without_members, is_ended_member, ends_numbered, ending_of, endings_of, Regroups, NoneTaken, FreesAll, LetsAllGo, value-mapped, mapped-insert, mapped-without, IsFull-mapped, PoolNode, Lists, Holds, Live, PoolNodeSteps, state_of}
use Rattle.mtapi_values.specs.declared.statuses.MtapiStatus.TheVariants as m
use Rattle.group_core.specs.Members.{CreatesGroup}
use Rattle.mtapi_machine.specs.declared.ops.Op.TheVariants as op
use Rattle.mtapi_machine.specs.declared.replies.Reply.TheVariants as reply
use Rattle.mtapi_machine.specs.GroupRows.{verdict, gives_end, gives_first}
use Rattle.task_board.specs.GroupMoves.{TakesMember}
use Rattle.node_steps.proofs.Gives.{Gives, allows, gives_this, says_this, met, past, at_some, at_none, then_row, else_row, steps, stays, lands, lands_to, regroups_to}
use Rattle.node_steps.proofs.Moves.{found, full_list, room_in, may_be, holds_insert, holds_remove, holds_change_and_remove}
use Rattle.node_steps.proofs.ActionSteps.{not_true}
use Rattle.node_steps.proofs.TaskSteps.{task_steps}
use Rattle.node_steps.proofs.GroupLists.{holds_all_freed, holds_all_let_go, endings-are, none-unended, some-unended, none-listed, some-listed}

-- a group that is live on the scheduler, and one that isn't
group_found : (n : PoolNode) (l : Lists) (g : ℕ) (x : Members) → Live n l → slot_value n.scheduler.groups.pool g ≡ Some x
    → live_object l.groups g ≡ Some new_group
group_found n l g x v live = grind (arith, nat_tests, found, value-mapped)

group_absent : (n : PoolNode) (l : Lists) (g : ℕ) → Live n l → slot_value n.scheduler.groups.pool g ≡ None → live_object l.groups g ≡ None
group_absent n l g v dead = grind (arith, nat_tests, found, value-mapped)

-- what the counts of a group tell
pub no_counts : (o : Option Members) → None ≡ option_map counts_of o → o ≡ None
no_counts o e1 = grind (arith, nat_tests)

pub record Counted (o : Option Members) (all ended : ℕ) : Type 0 where
  pub x : Members
  pub is : o ≡ Some x
  pub all_is : length x.unended + length x.ended ≡ all
  pub ended_is : length x.ended ≡ ended

pub counted : (o : Option Members) (all ended : ℕ) → Some (all, ended) ≡ option_map counts_of o → Counted o all ended
counted o all ended e1 = grind (arith, nat_tests)

pub no-items : (l : List ℕ) → length l ≡ 0 → l ≡ []
no-items [] e = refl
no-items (h ∷ hs) e = absurd (omega (arith, e))

pub record Items (l : List ℕ) : Type 0 where
  pub h : ℕ
  pub rest : List ℕ
  pub is : l ≡ h ∷ rest

pub some-items : (l : List ℕ) → 0 < length l → Items l
some-items [] e = absurd (omega (arith, e))
some-items (h ∷ hs) e = record { h = h; rest = hs; is = refl }

-- Making

abbrev pub create_reply : Result GroupHandle MtapiStatus → Reply
create_reply (Ok g) = reply.Handle g.0
create_reply (Err c) = reply.Mtapi c

pub group_create_steps : (n : PoolNode) (l : Lists) (who : ℕ) (b : SchedulerTable) (r : Result GroupHandle MtapiStatus) → Live n l → is_open n.core.phase ≡ true
    → CreatesGroup n.scheduler.groups r b.groups → Regroups n.scheduler b n.scheduler.tasks
    → PoolNodeSteps n l who op.GroupCreate (create_reply r) (record n { scheduler = b })
group_create_steps n l who b (Ok g) v up c e =
    let i = mapped-insert (λ (y : Members). new_group) n.scheduler.groups.pool b.groups.pool g.0 no_members c.1 in
    regroups_to n l who op.GroupCreate (reply.Handle g.0) b n.scheduler.tasks e
    (steps n (record n { scheduler = record n.scheduler { groups = b.groups } }) l (record l { groups = issue g.0 new_group l.groups }) who op.GroupCreate
    (reply.Handle g.0)
    (past _ _ _ _ _ _ (not_true _ up) (past _ _ _ _ _ _
    (room_in _ _ (group_slots n.scheduler) l.groups v.groups (λ full. c.0 ((IsFull-mapped (λ (y : Members). new_group) n.scheduler.groups.pool).0 full)))
    (allows _ _ _ _ _ (may_be _ _ (group_slots n.scheduler) (group_slots b) l.groups g.0 new_group v.groups i) (gives_this _ _ _))))
    (record {
      actions = v.actions;
      tasks = v.tasks;
      groups = holds_insert _ _ (group_slots n.scheduler) (group_slots b) l.groups g.0 new_group v.groups i;
      queues = v.queues;
      resources = v.resources;
    })
    refl (omega arith) tt)
group_create_steps n l who b (Err m.ErrGroupLimit) v up c e =
    regroups_to n l who op.GroupCreate (reply.Mtapi m.ErrGroupLimit) b n.scheduler.tasks e
    (rw c.1 (stays n l who op.GroupCreate (reply.Mtapi m.ErrGroupLimit) v tt
    (past _ _ _ _ _ _ (not_true _ up) (met _ _ _ _
    (full_list _ _ (group_slots n.scheduler) l.groups v.groups ((IsFull-mapped (λ (y : Members). new_group) n.scheduler.groups.pool).1 c.0))))))
group_create_steps n l who b (Err x) v up c e = absurd c

-- Deleting

pub group_delete_steps : (n : PoolNode) (l : Lists) (who : ℕ) (g : GroupHandle) (x : Members) (now b : SchedulerTable) → Live n l → is_open n.core.phase ≡ true
    → slot_value n.scheduler.groups.pool g.0 ≡ Some x → LetsAllGo n.scheduler now g.0 → NoneLive (slot_value now.tasks.pool) (λ t. is_member g.0 t ≡ true)
    → b.groups.pool ≡ without now.groups.pool g.0 → Regroups now b now.tasks → PoolNodeSteps n l who (op.GroupDelete g) reply.Ok (record n { scheduler = b })
group_delete_steps n l who g x now b v up live go none gone e =
    lands_to n n l who (op.GroupDelete g) reply.Ok b n.scheduler.actions
    (record n.scheduler.tasks { pool = now.tasks.pool }) n.scheduler.queues.pool b.groups refl (e.settings ∙ go.becomes.settings) (e.actions_are
    ∙ go.becomes.actions_are) (e.tasks_are ∙ go.becomes.tasks_are)
    (ap (λ (z : QueueTable). records_of z.pool) e.queues_are ∙ go.becomes.queues_are) refl
    (steps n (record n { scheduler = record n.scheduler { tasks = record n.scheduler.tasks { pool = now.tasks.pool }; groups = b.groups } }) l
    (record l { tasks = change_all (is_member g.0) let_go l.tasks; groups = retire g.0 l.groups }) who (op.GroupDelete g) reply.Ok
    (past _ _ _ _ _ _ (not_true _ up) (at_some _ _ _ new_group _ _ _ (group_found n l g.0 x v live) (gives_this _ _ _)))
    (record {
      actions = v.actions;
      tasks = holds_all_let_go _ _ g.0 go.handles n.scheduler.tasks.pool now.tasks.pool l.tasks v.tasks go.each none;
      groups = subst (λ (p : Slots Group). Holds n.scheduler.settings.groups n.scheduler.settings.generations p (retire g.0 l.groups)) (sym slots)
          (holds_remove _ _ (group_slots n.scheduler) l.groups g.0 new_group v.groups (value-mapped (λ (y : Members). new_group) n.scheduler.groups.pool g.0
          ∙ ap (option_map (λ (y : Members). new_group)) live));
      queues = v.queues;
      resources = v.resources;
    })
    refl (omega arith) tt)
  where
    slots : group_slots b ≡ without (group_slots n.scheduler) g.0
    slots = ap without_members gone ∙ (mapped-without (λ (y : Members). new_group) now.groups.pool g.0
        ∙ ap (λ (p : Slots Group). without p g.0) go.becomes.groups_are)

-- Looking at all

-- what a look that is too early is answered
abbrev pub early : Bool → Reply
early last = cond last (reply.Mtapi m.Timeout) reply.Pending

module _ (n : PoolNode) (l : Lists) (who : ℕ) (g : GroupHandle) (last : Bool) (v : Live n l) (up : is_up n.core.phase ≡ true) where
  module _ (k : IsScheduler n.scheduler) (x : Members) (live : slot_value n.scheduler.groups.pool g.0 ≡ Some x) where
    -- some member hasn't ended
    pub all_look_early : 0 < length x.unended → PoolNodeSteps n l who (op.AllLook g last) (early last) n
    all_look_early some =
        let i = some-items x.unended some in
        stays n l who (op.AllLook g last) (early last) v tt
        (past _ _ _ _ _ _ (not_true _ up) (at_some _ _ _ new_group _ _ _ (group_found n l g.0 x v live)
        (then_row _ _ _ _ _ _ (some-unended n.scheduler l.tasks g.0 i.h x i.rest k v.tasks.stands live i.is) (says_this _ _))))

    -- all have ended
    pub all_look_freed : (b : SchedulerTable) (fault : Option MtapiStatus) → length x.unended ≡ 0 → FreesAll n.scheduler b g.0 fault
        → NoneLive (slot_value b.tasks.pool) (λ t. is_ended_member g.0 t ≡ true)
        → PoolNodeSteps n l who (op.AllLook g last) (verdict fault) (record n { scheduler = b })
    all_look_freed b fault none f left = rw same
        (lands n l who (op.AllLook g last) _ b n.scheduler.actions (record n.scheduler.tasks { pool = b.tasks.pool }) f.becomes
        (task_steps n l (record n.scheduler.tasks { pool = b.tasks.pool }) (change_all (is_ended_member g.0) freed l.tasks) who (op.AllLook g last)
        (verdict (first_fault (endings g.0 (live_of l.tasks)))) v
        (past _ _ _ _ _ _ (not_true _ up) (at_some _ _ _ new_group _ _ _ (group_found n l g.0 x v live)
        (else_row _ _ _ _ _ _ (none-unended n.scheduler l.tasks g.0 x k v.tasks.stands live (no-items x.unended none)) (gives_this _ _ _))))
        (holds_all_freed _ _ g.0 f.members.ended n.scheduler.tasks.pool b.tasks.pool l.tasks v.tasks f.each left) (omega arith) tt))
      where
        same : fault ≡ first_fault (endings g.0 (live_of l.tasks))
        same = f.fault_is ∙ ap first_fault (sym (endings-are n.scheduler l.tasks g.0 f.members k v.tasks.stands f.group))

    -- Looking at any

    pub any_look_done : length x.unended + length x.ended ≡ 0 → PoolNodeSteps n l who (op.AnyLook g last) (reply.Mtapi m.GroupCompleted) n
    any_look_done none =
        stays n l who (op.AnyLook g last) (reply.Mtapi m.GroupCompleted) v tt
        (past _ _ _ _ _ _ (not_true _ up) (at_some _ _ _ new_group _ _ _ (group_found n l g.0 x v live)
        (met _ _ _ _ (ap not (none-listed n.scheduler l.tasks g.0 k v.tasks.stands (live
        ∙ (λ i. Some (record { unended = no-items x.unended (omega (arith, none)) i; ended = no-items x.ended (omega (arith, none)) i }))))))))

    some : 0 < length x.unended + length x.ended → x ≡ no_members → ⊥
    some less is = grind (arith, nat_tests)

    any_row : (r : Reply) (t : State) (es : List Ending) → 0 < length x.unended + length x.ended → endings g.0 (live_of l.tasks) ≡ es
        → Gives (state_of n l) (gives_first (state_of n l) last es) r t → Gives (state_of n l) (row (state_of n l) who (op.AnyLook g last) r) r t
    any_row r t es less is w = grind (arith, nat_tests, past, not_true, at_some, group_found, some-listed, some)

    pub any_look_early : 0 < length x.unended + length x.ended → NoneTaken n.scheduler n.scheduler g.0
        → PoolNodeSteps n l who (op.AnyLook g last) (early last) n
    any_look_early less none =
        stays n l who (op.AnyLook g last) (early last) v tt
        (any_row (early last) (state_of n l) [] less (endings-are n.scheduler l.tasks g.0 x k v.tasks.stands live
        ∙ ap (endings_of (slot_value n.scheduler.tasks.pool)) (none.1 x live)) (says_this _ _))

    pub any_look_taken : (b : SchedulerTable) (h : ℕ) (e : TaskEnd) → 0 < length x.unended + length x.ended → TakesMember n.scheduler b g.0 h e
        → PoolNodeSteps n l who (op.AnyLook g last) (reply.Given (record { 0 = h }) e) (record n { scheduler = b })
    any_look_taken b h e less f = lands n l who (op.AnyLook g last) (reply.Given (record { 0 = h }) e) b n.scheduler.actions
        (record n.scheduler.tasks { pool = without n.scheduler.tasks.pool h }) f.parts.becomes
        (task_steps n l (record n.scheduler.tasks { pool = without n.scheduler.tasks.pool h }) (retire h (update h (with_notes in_no_group) l.tasks)) who
        (op.AnyLook g last) (reply.Given (record { 0 = h }) e) v
        (any_row _ _ _ less list (at_some _ _ _ f.t _ _ _ (found _ _ n.scheduler.tasks.pool l.tasks h (Some f.t) v.tasks f.parts.task)
        (rw f.state (gives_this _ _ _)))) (holds_change_and_remove _ _ n.scheduler.tasks.pool l.tasks h (with_notes in_no_group) f.t v.tasks f.parts.task)
        (omega arith) tt)
      where
        list : endings g.0 (live_of l.tasks) ≡ record { task = h; end = e; number = f.number } ∷ endings_of (slot_value n.scheduler.tasks.pool) f.rest
        list =
            endings-are n.scheduler l.tasks g.0 f.members k v.tasks.stands f.parts.group
            ∙ (ap (endings_of (slot_value n.scheduler.tasks.pool)) f.list
            ∙ ap (λ (o : Option _). ending_of h o (endings_of (slot_value n.scheduler.tasks.pool) f.rest)) (ap ends_numbered f.parts.task ∙ ap end_of f.state))
