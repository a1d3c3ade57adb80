-- The ops of tallies are steps of the machine.
use Rattle.node_steps.proofs.Names.{◌≡◌, ℕ, ◌+◌, ◌≤◌, Bool, true, false, not, cond, List, [], ◌∷◌, Option, Some, None, refl, sym, ◌∙◌, ap, subst, arith, length, ◌&&◌, ◌||◌, ◌==◌, nat_lt, ℤ, ◌+ℤ◌, ◌-ℤ◌, int_eq, option_map, nat_tests, Decides-int_eq, holds, TaskHandle, MtapiStatus, TaskEnd, Completed, fits, fitting, Slots, slot_value, changed, live_object, update, change, Task, TaskState, runner, TallyNotes, no_tally, is_unended, runs_as, kind_number, ended, with_notes, with_tally, tally_args, cell_in, added, tally_failed, tally_has, tally_read, tally_written, Mutex, locked_by, unlocked, Segment, cell_of, with_attached, with_cell, adds_of, notes_of, tallied, IsLiveAnd, Begun, Locked, Read, Written, SchedulerTable, Becomes, Op, Reply, State, Mutexes, Segments, alters, notes, ends_task, after_moves, Row, never, gives, row, IsHonest, ResourceTable, HoldsAll, resource_lists, PoolNode, Lists, Holds, Live, PoolNodeSteps, state_of, Sound, RunsTally, NoTally, GivesBack}
use Rattle.std.proofs.Math.IntN.{+ℤ-neg_ℤ_cancel, -ℤ-+ℤ_cancel}
use Rattle.mtapi_values.specs.declared.kinds.Kind.TheVariants as kinds
use Rattle.mtapi_values.specs.declared.handles.MutexHandle.{MutexHandle}
use Rattle.mtapi_values.specs.declared.handles.ShmemHandle.{ShmemHandle}
use Rattle.mtapi_values.specs.declared.statuses.MtapiStatus.TheVariants as m
use Rattle.mtapi_values.specs.declared.ends.TaskEnd.TheVariants.{Failed as EndFailed}
use Rattle.mtapi_objects.specs.Tasks.{Adds, number_in}
use Rattle.task_core.specs.declared.tallies.TallyArgs.{TallyArgs}
use Rattle.task_core.specs.declared.tallies.TallyState.{TallyState}
use Rattle.task_core.specs.declared.tallies.TallyState.TheVariants.{Failed}
use Rattle.mtapi_machine.specs.declared.ops.Op.TheVariants as op
use Rattle.mtapi_machine.specs.declared.replies.Reply.TheVariants as reply
use Rattle.mtapi_machine.specs.TallyRows.{on_tally, locks}
use Rattle.history_law.specs.TallyHolds.{got_both, IsOwned, IsAttached, HoldsBoth}
use Rattle.node_resources.specs.Holds.{ResourcesStand}
use Rattle.node_resources.specs.Tallies.{after_lock, Locks}
use Rattle.node_resources.specs.declared.tally_ops.TallyLock.TheVariants.{Both, Owned, Absent}
use Rattle.node_resources.proofs.TallyLemmas.{changed_as}
use Rattle.node_steps.specs.declared.tally_ops.RunningTally.{RunningTally}
use Rattle.node_steps.proofs.Gives.{Gives, gives_this, met, past, at_some, then_row, else_row, steps, stays, lands_to}
use Rattle.node_steps.proofs.Moves.{found, holds_changed}
use Rattle.node_steps.proofs.Changes.{holds_ended}
use Rattle.node_steps.proofs.ActionSteps.{not_true}
use Rattle.node_steps.proofs.TaskSteps.{with_pool, ended_tasks}
use Rattle.node_steps.proofs.WorkSteps.{is_worker}

-- A seat that is no worker's, and a task that doesn't run as a tally on it

no_worker : (who workers : ℕ) → workers ≤ who → not (nat_lt who workers) ≡ true
no_worker who workers l = grind (arith, nat_tests)

pub refused : (n : PoolNode) (l : Lists) (who : ℕ) (o : Op) (t : ℕ) (f : Task → Row) (c : MtapiStatus) → Live n l → IsHonest o
    → ((r : Reply) → row (state_of n l) who o r ≡ on_tally (state_of n l) who t f) → NoTally n who t c → PoolNodeSteps n l who o (reply.Mtapi c) n
refused n l who o t f c e1 e2 e3 e4 = grind (arith, nat_tests)

-- Stages

not_begun : (args : List ℤ) (y : TallyState) → (y ≡ Begun → ⊥) → ((notes_of args y).stage == 0) ≡ false
not_begun args y e1 = grind (arith, nat_tests)

not_read : (args : List ℤ) (y : TallyState) → ((a : MutexHandle) (b : ShmemHandle) (z : ℤ) → y ≡ Read a b z → ⊥) → ((notes_of args y).stage == 2) ≡ false
not_read args y e1 = grind (arith, nat_tests)

runs : (w : ℕ) (x : TaskState) → holds (λ r. (r.0 == w) && (kind_number r.1 == 10)) (runner x) ≡ true → holds (λ r. r.0 == w) (runner x) ≡ true
runs w x e1 = grind (arith, nat_tests)

unended : (w : ℕ) (x : Task) (y : TaskState) → x.state ≡ y → runs_as w kinds.Tally x ≡ true → is_unended x ≡ true
unended w x y e1 e2 = grind (arith, nat_tests)

module _ (n : PoolNode) (l : Lists) (who : ℕ) (t : TaskHandle) (r : RunningTally) (v : Live n l) (k : RunsTally n who t.0 r) where
  abbrev s : State
  s = state_of n l

  abbrev x : Task
  x = k.task

  abbrev pool : Slots Task
  pool = n.scheduler.tasks.pool

  x_live : live_object l.tasks t.0 ≡ Some x
  x_live = found _ _ pool l.tasks t.0 (Some x) v.tasks k.found

  -- the row goes on
  on_it : (f : Task → Row) (y : Reply) (z : State) → Gives s (f x) y z → Gives s (on_tally s who t.0 f) y z
  on_it f y z g = past _ _ _ _ _ _ (is_worker who _ k.worker) (at_some _ _ _ x _ _ _ x_live (past _ _ _ _ _ _ (not_true _ k.runs) g))

  -- what it has done, where the code knows how far it has come
  notes_are : (y : TallyState) → r.state ≡ y → x.notes.tally ≡ notes_of x.args y
  notes_are y e = sym k.state ∙ ap (notes_of x.args) e

  stage_of : (y : TallyState) → r.state ≡ y → (i : ℕ) → (x.notes.tally.stage == i) ≡ ((notes_of x.args y).stage == i)
  stage_of y e i = ap (λ (z : TallyNotes). z.stage == i) (notes_are y e)

  -- a step that notes how far it has come, beside other mutexes and segments
  noted : (o : Op) (y : Reply) (q : TallyState) (f : TallyNotes → TallyNotes) (new : ResourceTable) (z : State) (b : SchedulerTable)
      → notes_of x.args q ≡ f x.notes.tally → HoldsAll n.scheduler.settings new (resource_lists z) → IsHonest o
      → Gives s (row s who o y) y (record s {
        tasks = update t.0 (with_notes (with_tally f)) l.tasks;
        mutexes = z.mutexes;
        sems = z.sems;
        rwls = z.rwls;
        segments = z.segments;
      })
      → Becomes n.scheduler b n.scheduler.actions (record n.scheduler.tasks { pool = changed pool t.0 (tallied q) })
      → PoolNodeSteps n l who o y (record n { scheduler = b; resources = new })
  noted o y q f new z b e h i g d =
      lands_to n (record n { resources = new }) l who o y b n.scheduler.actions
      (with_pool n (changed pool t.0 (tallied q))) n.scheduler.queues.pool n.scheduler.groups refl d.settings d.actions_are d.tasks_are d.queues_are
      d.groups_are
      (steps n (record n { scheduler = record n.scheduler { tasks = with_pool n (changed pool t.0 (tallied q)) }; resources = new }) l
      (record l { tasks = update t.0 (with_notes (with_tally f)) l.tasks; resources = resource_lists z }) who o y g
      (record {
        actions = v.actions;
        tasks = subst (λ (p : Slots Task). Holds n.scheduler.settings.tasks n.scheduler.settings.generations p (update t.0 (with_notes (with_tally f)) l.tasks))
            (sym as_changed) (holds_changed _ _ pool l.tasks t.0 (with_notes (with_tally f)) v.tasks);
        groups = v.groups;
        queues = v.queues;
        resources = h;
      }) refl (omega arith) i)
    where
      some_of : {p q : Task} → Some p ≡ Some q → p ≡ q
      some_of e = cc

      as_changed : changed pool t.0 (tallied q) ≡ changed pool t.0 (with_notes (with_tally f))
      as_changed =
          changed_as pool t.0 (tallied q) (with_notes (with_tally f))
          (λ u w. subst (λ (a : Task). tallied q a
          ≡ with_notes (with_tally f) a) (some_of (sym k.found ∙ w)) (ap (λ (a : TallyNotes). record x { notes = record x.notes { tally = a } }) e))

  -- Locking

  module _ (begun : r.state ≡ Begun) where
    -- the rest of the row
    locking : (a : Option Adds) (y : Reply) (z : State) → a ≡ tally_args x.args → Gives s (locks s who t.0 x.args a) y z
        → Gives s (row s who (op.TallyLock t) y) y z
    locking a y z e g = grind (arith, nat_tests, on_it, past, stage_of)

    fails_so : (c : MtapiStatus) → notes_of x.args (Failed c) ≡ tally_failed c x.notes.tally
    fails_so c = ap (tally_failed c) (sym (notes_are Begun begun))

    pub lock_fault : (c : MtapiStatus) (b : SchedulerTable) → r.args ≡ None → c ≡ cond r.is_four m.ErrActionFailed m.ErrArgSize
        → Becomes n.scheduler b n.scheduler.actions (record n.scheduler.tasks { pool = changed pool t.0 (tallied (Failed c)) })
        → PoolNodeSteps n l who (op.TallyLock t) (reply.Asked false) (record n { scheduler = b })
    lock_fault c b e f d =
        noted (op.TallyLock t) (reply.Asked false) (Failed c) (tally_failed (cond (length x.args == 4) m.ErrActionFailed m.ErrArgSize)) n.resources s b
        (fails_so c ∙ ap (λ (i : MtapiStatus). tally_failed i x.notes.tally) (f
        ∙ sym (ap (λ (i : Bool). cond i m.ErrActionFailed m.ErrArgSize) k.four))) v.resources tt
        (locking None (reply.Asked false) _ (sym (ap (option_map adds_of) e) ∙ k.args) (gives_this _ _ _)) d

    module _ (a : TallyArgs) (named : r.args ≡ Some a) where
      args_are : Some (adds_of a) ≡ tally_args x.args
      args_are = sym (ap (option_map adds_of) named) ∙ k.args

      abbrev got : MutexHandle → ShmemHandle → State
      got p q = after_moves (alters Mutexes p.0 (locked_by who) ∷ alters Segments q.0 (with_attached who true) ∷ notes t.0 (with_tally (tally_has p.0 q.0))
          ∷ []) s

      abbrev gave_up : State
      gave_up = after_moves (notes t.0 (with_tally (tally_failed m.ErrActionFailed)) ∷ []) s

      pub lock_both : (p : MutexHandle) (q : ShmemHandle) (new : ResourceTable) (b : SchedulerTable) → Locks s who a.mutex a.segment a.cell (Both p q) new
          → Becomes n.scheduler b n.scheduler.actions (record n.scheduler.tasks { pool = changed pool t.0 (tallied (Locked p q)) })
          → PoolNodeSteps n l who (op.TallyLock t) (reply.Asked true) (record n { scheduler = b; resources = new })
      lock_both p q new b h d = noted (op.TallyLock t) (reply.Asked true) (Locked p q) (tally_has p.0 q.0) new (after_lock who (Both p q) s) b
          (ap (tally_has p.0 q.0) (sym (notes_are Begun begun))) h.stands tt
          (locking (Some (adds_of a)) (reply.Asked true) (got p q) args_are (rw (h.row t.0) (gives_this _ _ _))) d

      pub lock_owned : (new : ResourceTable) → Locks s who a.mutex a.segment a.cell Owned new
          → PoolNodeSteps n l who (op.TallyLock t) reply.Pending (record n { resources = new })
      lock_owned new h = grind (arith, nat_tests, steps, locking, args_are, gives_this)

      pub lock_absent : (new : ResourceTable) (b : SchedulerTable) → Locks s who a.mutex a.segment a.cell Absent new
          → Becomes n.scheduler b n.scheduler.actions (record n.scheduler.tasks { pool = changed pool t.0 (tallied (Failed m.ErrActionFailed)) })
          → PoolNodeSteps n l who (op.TallyLock t) (reply.Asked false) (record n { scheduler = b; resources = new })
      lock_absent new b h d = noted (op.TallyLock t) (reply.Asked false) (Failed m.ErrActionFailed) (tally_failed m.ErrActionFailed) new s b
          (fails_so m.ErrActionFailed) h.stands tt (locking (Some (adds_of a)) (reply.Asked false) gave_up args_are (rw (h.row t.0) (gives_this _ _ _))) d

  -- What it holds

  module _ (sound : Sound s) (y : TallyState) (is : r.state ≡ y) (both : got_both (notes_of x.args y) ≡ true) where
    held : HoldsBoth s who x
    held = sound.tallies t.0 who x x_live (runs who x.state k.runs) (ap got_both (notes_are y is) ∙ both)

    segment_at : (o : Option Segment) → IsAttached who o → (z : Segment) × (o ≡ Some z)
    segment_at None i = absurd i
    segment_at (Some z) i = (z, refl)

    segment_live : (z : Segment) × (live_object s.segments x.notes.tally.segment ≡ Some z)
    segment_live = segment_at (live_object s.segments x.notes.tally.segment) held.segment

    mutex_at : (o : Option Mutex) → IsOwned who o → (z : Mutex) × (o ≡ Some z) × (z.owner ≡ Some who) × (z.depth ≡ 1)
    mutex_at None i = absurd i
    mutex_at (Some z) i = (z, refl, i.0, i.1)

    mutex_live : (z : Mutex) × (live_object s.mutexes x.notes.tally.mutex ≡ Some z) × (z.owner ≡ Some who) × (z.depth ≡ 1)
    mutex_live = mutex_at (live_object s.mutexes x.notes.tally.mutex) held.mutex

  -- Reading

  pub reads : Sound s → (p : MutexHandle) (q : ShmemHandle) (cell : ℕ) (z : ℤ) (b : SchedulerTable) → r.state ≡ Locked p q
      → cell ≡ cell_in (option_map adds_of r.args) → ((y : Segment) → live_object s.segments q.0 ≡ Some y → z ≡ cell_of cell y)
      → Becomes n.scheduler b n.scheduler.actions (record n.scheduler.tasks { pool = changed pool t.0 (tallied (Read p q z)) })
      → PoolNodeSteps n l who (op.TallyRead t) (reply.Number z) (record n { scheduler = b })
  reads sound p q cell z b is c told d = rw same
      (noted (op.TallyRead t) (reply.Number number) (Read p q z) (tally_read number) n.resources s b
      (λ i. tally_read (same i) (sym (notes_are (Locked p q) is) i)) v.resources tt
      (on_it _ _ _ (past _ _ _ _ _ _ (ap not (stage_of (Locked p q) is 1)) (at_some _ _ _ g.0 never _ _ g.1 (gives_this _ _ _)))) d)
    where
      g : (y : Segment) × (live_object s.segments x.notes.tally.segment ≡ Some y)
      g = segment_live sound (Locked p q) is refl

      number : ℤ
      number = cell_of (cell_in (tally_args x.args)) g.0

      same : z ≡ number
      same =
          told g.0 (ap (λ (i : TallyNotes). live_object s.segments i.segment) (sym (notes_are (Locked p q) is)) ∙ g.1)
          ∙ ap (λ (i : ℕ). cell_of i g.0) (c ∙ ap cell_in k.args)

  -- Writing

  module _ (p : MutexHandle) (q : ShmemHandle) (kept number : ℤ) (is : r.state ≡ Read p q kept) (adds : number ≡ number_in (option_map adds_of r.args)) where
    added_is : added x ≡ kept +ℤ number
    added_is = (λ i. (notes_are (Read p q kept) is i).kept +ℤ number_in (sym k.args i)) ∙ ap (λ (z : ℤ). kept +ℤ z) (sym adds)

    pub write_other : (value : ℤ) → (value ≡ kept +ℤ number → ⊥) → PoolNodeSteps n l who (op.TallyWrite t value) (reply.Mtapi m.ErrParameter) n
    write_other value h =
        stays n l who (op.TallyWrite t value) (reply.Mtapi m.ErrParameter) v tt
        (on_it _ _ _ (met _ _ _ _ ((λ i. not (stage_of (Read p q kept) is 2 i) || not (differs (int_eq value (added x)) refl i)))))
      where
        differs : (b : Bool) → int_eq value (added x) ≡ b → b ≡ false
        differs true e = absurd (h ((Decides-int_eq value (added x)).0 e ∙ added_is))
        differs false e = refl

    pub writes : Sound s → (cell : ℕ) (value : ℤ) (new : ResourceTable) (b : SchedulerTable) → cell ≡ cell_in (option_map adds_of r.args)
        → value ≡ kept +ℤ number → ResourcesStand (after_moves (alters Segments q.0 (with_cell cell value) ∷ []) s) new
        → Becomes n.scheduler b n.scheduler.actions (record n.scheduler.tasks { pool = changed pool t.0 (tallied (Written p q value)) })
        → PoolNodeSteps n l who (op.TallyWrite t value) reply.Ok (record n { scheduler = b; resources = new })
    writes sound cell value new b c h stand d =
        noted (op.TallyWrite t value) reply.Ok (Written p q value) tally_written new
        (after_moves (alters Segments x.notes.tally.segment (with_cell (cell_in (tally_args x.args)) value) ∷ []) s) b wrote
        (subst (λ (z : State). HoldsAll n.scheduler.settings new (resource_lists z))
        (λ i. after_moves (alters Segments (sym (notes_are (Read p q kept) is) i).segment (with_cell ((c ∙ ap cell_in k.args) i) value) ∷ []) s) stand) tt
        (on_it _ _ _ (past _ _ _ _ _ _ may (at_some _ _ _ g.0 never _ _ g.1 (gives_this _ _ _)))) d
      where
        g : (y : Segment) × (live_object s.segments x.notes.tally.segment ≡ Some y)
        g = segment_live sound (Read p q kept) is refl

        may : (not (x.notes.tally.stage == 2) || not (int_eq value (added x))) ≡ false
        may = (λ i. not (stage_of (Read p q kept) is 2 i) || not ((Decides-int_eq value (added x)).1 (h ∙ sym added_is) i))

        less : value -ℤ number_in (tally_args x.args) ≡ kept
        less = ap (λ (z : ℤ). value -ℤ z) (sym (adds ∙ ap number_in k.args)) ∙ (ap (λ (z : ℤ). z -ℤ number) h ∙ +ℤ-neg_ℤ_cancel kept number)

        wrote : notes_of x.args (Written p q value) ≡ tally_written x.notes.tally
        wrote = (λ i. tally_written (tally_read (less i) (tally_has p.0 q.0 no_tally))) ∙ ap tally_written (sym (notes_are (Read p q kept) is))

  -- Ending

  -- a step that ends it, beside other mutexes and segments
  ended_so : (y : Reply) (e : TaskEnd) (new : ResourceTable) (z : State) (b : SchedulerTable) → HoldsAll n.scheduler.settings new (resource_lists z)
      → Gives s (row s who (op.TallyEnd t) y) y
      (record s { tasks = change t.0 (ended e s.ends) l.tasks; ends = s.ends + 1; mutexes = z.mutexes; sems = z.sems; rwls = z.rwls; segments = z.segments })
      → Becomes n.scheduler b n.scheduler.actions (ended_tasks n t.0 e (slot_value pool t.0))
      → PoolNodeSteps n l who (op.TallyEnd t) y (record n { scheduler = b; resources = new })
  ended_so y e new z b h g d =
      lands_to n (record n { resources = new }) l who (op.TallyEnd t) y b n.scheduler.actions
      (ended_tasks n t.0 e (Some x)) n.scheduler.queues.pool n.scheduler.groups refl d.settings d.actions_are (d.tasks_are
      ∙ ap (ended_tasks n t.0 e) k.found) d.queues_are d.groups_are
      (steps n (record n { scheduler = record n.scheduler { tasks = ended_tasks n t.0 e (Some x) }; resources = new }) l
      (record l { tasks = change t.0 (ended e n.scheduler.tasks.ends) l.tasks; resources = resource_lists z }) who (op.TallyEnd t) y g
      (record {
        actions = v.actions;
        tasks = holds_ended _ _ pool l.tasks t.0 e n.scheduler.tasks.ends x v.tasks k.found;
        groups = v.groups;
        queues = v.queues;
        resources = h;
      }) refl (omega arith) tt)

  pub end_failed : (c : MtapiStatus) (b : SchedulerTable) → r.state ≡ Failed c
      → Becomes n.scheduler b n.scheduler.actions (ended_tasks n t.0 (EndFailed c) (slot_value pool t.0))
      → PoolNodeSteps n l who (op.TallyEnd t) (reply.Ended (EndFailed c)) (record n { scheduler = b })
  end_failed c b is d = ended_so (reply.Ended (EndFailed c)) (EndFailed c) n.resources s b v.resources
      (on_it _ _ _ (past _ _ _ _ _ _ (λ i. nat_lt (notes_are (Failed c) is i).stage 2
      || (stage_of (Failed c) is 2 i && fits (added x)))
      (then_row _ _ _ _ _ _ (stage_of (Failed c) is 4) (rw (← ap (λ (z : TallyNotes). z.verdict) (sym (notes_are (Failed c) is))) (gives_this _ _ _))))) d

  -- it gives both back
  module _ (sound : Sound s) (y : TallyState) (is : r.state ≡ y) (both : got_both (notes_of x.args y)
      ≡ true) (late : (nat_lt x.notes.tally.stage 2 || ((x.notes.tally.stage == 2) && fits (added x))) ≡ false) (a b : ℕ) (mutex_is : (notes_of x.args y).mutex
      ≡ a) (segment_is : (notes_of x.args y).segment ≡ b) where
    back : (e : TaskEnd) (z : Reply) (o : PoolNode) → cond (x.notes.tally.stage == 2) (EndFailed m.ErrActionFailed) (Completed (added x ∷ [])) ≡ e
        → (x.notes.tally.stage == 4) ≡ false → GivesBack n who t.0 a b e z o → PoolNodeSteps n l who (op.TallyEnd t) z o
    back e z o so four g =
        subst (λ (i : Reply). PoolNodeSteps n l who (op.TallyEnd t) i o) (sym g.reply)
        (subst (λ (i : PoolNode). PoolNodeSteps n l who (op.TallyEnd t) (reply.Ended e) i) (λ i. record o { core = sym g.core i })
        (ended_so (reply.Ended e) e o.resources after o.scheduler stand
        (on_it _ _ _ (past _ _ _ _ _ _ late (else_row _ _ _ _ _ _ four
        (at_some _ _ _ (segment_live sound y is both).0 never _ _ (segment_live sound y is both).1
        (at_some _ _ _ (mutex_live sound y is both).0 never _ _ (mutex_live sound y is both).1
        (subst
        (λ (i : TaskEnd).
        Gives s (gives (reply.Ended i) (alters Segments x.notes.tally.segment (with_attached who false) ∷ alters Mutexes x.notes.tally.mutex unlocked
        ∷ ends_task t.0 i ∷ [])) (reply.Ended e)
        (record s {
          tasks = change t.0 (ended e s.ends) l.tasks;
          ends = s.ends + 1;
          mutexes = after.mutexes;
          sems = after.sems;
          rwls = after.rwls;
          segments = after.segments;
        })) (sym so) (gives_this _ _ _))))))) g.scheduler))
      where
        after : State
        after = after_moves (alters Segments x.notes.tally.segment (with_attached who false) ∷ alters Mutexes x.notes.tally.mutex unlocked ∷ []) s

        mutex_same : x.notes.tally.mutex ≡ a
        mutex_same = ap (λ (i : TallyNotes). i.mutex) (notes_are y is) ∙ mutex_is

        segment_same : x.notes.tally.segment ≡ b
        segment_same = ap (λ (i : TallyNotes). i.segment) (notes_are y is) ∙ segment_is

        stand : HoldsAll n.scheduler.settings o.resources (resource_lists after)
        stand =
            let q = mutex_live sound y is both in
            subst (λ (z : State). HoldsAll n.scheduler.settings o.resources (resource_lists z))
            (λ i. after_moves (alters Segments (sym segment_same i) (with_attached who false) ∷ alters Mutexes (sym mutex_same i) unlocked ∷ []) s)
            (g.resources s q.0 v.resources (ap (λ (i : ℕ). live_object s.mutexes i) (sym mutex_same) ∙ q.1) q.2 q.3)

  pub end_fits : (p : MutexHandle) (q : ShmemHandle) (kept number sum : ℤ) → r.state ≡ Read p q kept → number ≡ number_in (option_map adds_of r.args)
      → Some sum ≡ fitting (kept +ℤ number) → PoolNodeSteps n l who (op.TallyEnd t) (reply.Mtapi m.ErrParameter) n
  end_fits p q kept number sum e1 e2 e3 = grind (arith, nat_tests)

  pub end_too_large : Sound s → (p : MutexHandle) (q : ShmemHandle) (kept number : ℤ) (z : Reply) (o : PoolNode) → r.state ≡ Read p q kept
      → number ≡ number_in (option_map adds_of r.args) → None ≡ fitting (kept +ℤ number)
      → GivesBack n who t.0 p.0 q.0 (EndFailed m.ErrActionFailed) z o → PoolNodeSteps n l who (op.TallyEnd t) z o
  end_too_large sound p q kept number z o is c h g =
      back sound (Read p q kept) is refl (λ i. nat_lt (notes_are (Read p q kept) is i).stage 2
      || (stage_of (Read p q kept) is 2 i && (ap fits (added_is p q kept number is c) ∙ unfit (fits (kept +ℤ number)) h) i)) p.0 q.0 refl refl
      (EndFailed m.ErrActionFailed) z o (ap (λ (b : Bool). cond b (EndFailed m.ErrActionFailed) (Completed (added x ∷ []))) (stage_of (Read p q kept) is 2))
      (stage_of (Read p q kept) is 4) g
    where
      unfit : (b : Bool) → None ≡ cond b (Some (kept +ℤ number)) None → b ≡ false
      unfit true e = absurd (cc)
      unfit false e = refl

  pub end_written : Sound s → (p : MutexHandle) (q : ShmemHandle) (sum : ℤ) (z : Reply) (o : PoolNode) → r.state ≡ Written p q sum
      → GivesBack n who t.0 p.0 q.0 (Completed (sum ∷ [])) z o → PoolNodeSteps n l who (op.TallyEnd t) z o
  end_written sound p q sum z o is g =
      back sound (Written p q sum) is refl (λ i. nat_lt (notes_are (Written p q sum) is i).stage 2
      || (stage_of (Written p q sum) is 2 i && fits (added x))) p.0 q.0 refl refl
      (Completed (sum ∷ [])) z o (ap (λ (b : Bool). cond b (EndFailed m.ErrActionFailed) (Completed (added x ∷ []))) (stage_of (Written p q sum) is 2)
      ∙ ap (λ (i : ℤ). Completed (i ∷ [])) adds_up) (stage_of (Written p q sum) is 4) g
    where
      adds_up : added x ≡ sum
      adds_up = ap (λ (i : TallyNotes). i.kept +ℤ number_in (tally_args x.args)) (notes_are (Written p q sum) is)
          ∙ -ℤ-+ℤ_cancel sum (number_in (tally_args x.args))

-- a sum that fits isn't one that doesn't
pub none_fits : (z : ℤ) → None ≡ fitting z → fits z ≡ true → ⊥
none_fits z e f = absurd (let q : None ≡ cond true (Some z) None = e ∙ ap (λ (b : Bool). cond b (Some z) None) f in cc)
