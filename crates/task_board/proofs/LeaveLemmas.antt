-- What an end is of a scheduler.
use Rattle.task_board.proofs.Names.{nat_tests, ◌≡◌, ◌≢◌, ◌+◌, ℕ, ◌<◌, true, List, length, length-set, Option, Some, None, set, slice_get, refl, sym, ◌∙◌, ap, subst, arith, is_none, false≢true, Kind, TaskEnd, Slots, slot_of, slot_value, max_of, changed, slot_of-live, list_at, has_handle, without_handle, has-first, ReadyMarks, Task, TaskState, Scheduled, Running, Ended, end_of, is_unended, shown_state, TaskTable, ended_in, IsLiveAnd, HeldQueue, QueueTable, without_task, Seen, seen_as, seen, seen_in, GroupTable, members_seen, AreMembers, ended_member, begins_in, AreQueued, left_queue, head_of_queue, SchedulerTable, IsScheduler, Marked, AreWaiting, AreRanked, IsFreshAt, WaitingTable, without_waiting, none-some, TaskHandle, AreByJob, AreRunning}
use Rattle.task_core.specs.declared.states.TaskState.TheVariants as shown
use Rattle.task_board.proofs.SeenLemmas.{some_same}
use Rattle.task_board.proofs.ByJobLemmas.{by-job-same}
use Rattle.task_board.proofs.KeyedLemmas.{Put, has-sub}
use Rattle.task_board.proofs.MoveLemmas.{ranked-put, Alone, Steady, alone, alone-old, put-ended, max-ended, marked-steady, marked-again, waiting-leave, waiting-same, running-end, running-same, slot-changed}
use Rattle.task_board.proofs.RemarkLemmas.{seen-slot}
use Rattle.task_board.proofs.GivenLemmas.{dead-queue}
use Rattle.task_board.proofs.QueuedLemmas.{queued-out, queued-leave, begins-leave}
use Rattle.task_board.proofs.SchedulerLemmas.{left-jobs, SameSizes, sizes-set, put-scheduler, put-marked, steady-same, unmarked-none, one-list, one-length, seat-below, over-tasks}
use Rattle.task_board.proofs.TaskMemberLemmas.{members-over}

first-of : (queues : Slots HeldQueue) (q : ℕ) (x : HeldQueue) → slot_value queues q ≡ Some x → head_of_queue queues (Some q) ≡ slice_get x.tasks 0
first-of queues q x e = rw e refl

no-first : (queues : Slots HeldQueue) (q : ℕ) → slot_value queues q ≡ None → head_of_queue queues (Some q) ≡ None
no-first queues q e = rw e refl

-- an ended task leaves its queue, whose first task is marked anew
pub record Leaves (b : SchedulerTable) (q : TaskTable) (queues : QueueTable) (cleared ready : ReadyMarks) (h : ℕ) (o : Option ℕ) : Type 0 where
  left : queues ≡ record b.queues { pool = left_queue b.queues.pool o h }
  cleared_is : cleared ≡ record b.ready { marks = set b.ready.marks (slot_of h) None }
  fresh : IsFreshAt b.actions (begins_in queues.pool) (seen_in q.pool) (head_of_queue queues.pool o) cleared ready

pub leaves : (b : SchedulerTable) (q : TaskTable) (queues : QueueTable) (cleared ready : ReadyMarks) (h : ℕ) (o named : Option ℕ) → o ≡ named
    → queues ≡ record b.queues { pool = left_queue b.queues.pool o h } → cleared ≡ record b.ready { marks = set b.ready.marks (slot_of h) None }
    → IsFreshAt b.actions (begins_in queues.pool) (seen_in q.pool) (head_of_queue queues.pool o) cleared ready → Leaves b q queues cleared ready h named
leaves b q queues cleared ready h o named is left cleared_is fresh = grind (arith, nat_tests)

-- The state of the task

pub scheduled-is : (x : TaskState) → shown.Scheduled ≡ shown_state x → x ≡ Scheduled
scheduled-is x e1 = grind (arith, nat_tests)

pub running-is : (x : TaskState) (w : ℕ) (kind : Kind) → shown.Running w kind ≡ shown_state x → x ≡ Running w kind
running-is x w kind e1 = grind (arith, nat_tests)

-- a task that hasn't ended is seen, with its queue
unended-seen : (t : Task) (x : TaskState) → is_none (end_of x) ≡ true → (s : Seen) × (seen_as t x ≡ Some s) × (s.queue ≡ t.queue)
unended-seen t Scheduled e = (_, refl, refl)
unended-seen t (Running w k) e = (_, refl, refl)
unended-seen t (Ended y n) e = absurd (false≢true e)

-- its queue, if that is live, has it
pub member-of : (b : SchedulerTable) (h : ℕ) (t : Task) (o : Option ℕ) → IsScheduler b → slot_value b.tasks.pool h ≡ Some t
    → IsLiveAnd is_unended (slot_value b.tasks.pool h) → o ≡ t.queue → (q : ℕ) (x : HeldQueue) → o ≡ Some q → slot_value b.queues.pool q ≡ Some x
    → has_handle h x.tasks ≡ true
member-of b h t o k g unended same q x names live = grind (arith, nat_tests, unended-seen t t.state, k.queued.listed h q)

-- the slot of the first task of the queue, once the task has left it
pub first-slot_of : (b : SchedulerTable) (h : ℕ) (o : Option ℕ) → IsScheduler b → (j : ℕ) → head_of_queue (left_queue b.queues.pool o h) o ≡ Some j
    → slot_of j < max_of b.tasks.pool
first-slot_of b h None k j e = absurd (none-some _ e)
first-slot_of b h (Some q) k j e = by_live (slot_value b.queues.pool q) refl
  where
    by_live : (o : Option HeldQueue) → slot_value b.queues.pool q ≡ o → slot_of j < max_of b.tasks.pool
    by_live None dead = absurd (none-some _
        (sym (no-first (changed b.queues.pool q (without_task h)) q
        (ap (λ (z : Slots HeldQueue). slot_value z q) (dead-queue b.queues.pool q (without_task h) dead) ∙ dead)) ∙ e))
    by_live (Some x) live =
        let now = (slot-changed b.queues.pool q (without_task h) x live).here in
        let has = has-first j (without_handle h x.tasks) (sym (first-of (changed b.queues.pool q (without_task h)) q (without_task h x) now) ∙ e) in
        let s = k.queued.names j q x live (has-sub j h x.tasks has) in
        seen-slot b.tasks.pool j s.0 s.1

pub ended-ranked : (b : SchedulerTable) (q : Slots Task) (h n : ℕ) (e : TaskEnd) (t : Task) → IsScheduler b → slot_value b.tasks.pool h ≡ Some t
    → q ≡ ended_in b.tasks.pool h e n (Some t) → AreRanked (seen_in q) b.settings.priorities
ended-ranked b q h n e t k g is =
    subst (λ (p : Slots Task). AreRanked (seen_in p) b.settings.priorities) (sym is)
    (ranked-put (seen_in b.tasks.pool) _ h None b.settings.priorities (put-ended b.tasks.pool h e n t g) (λ s f. absurd (none-some _ f)) k.ranked)

-- The queue, the marks and the lists

module _ (b : SchedulerTable) (q : TaskTable) (queues : QueueTable) (cleared ready : ReadyMarks) (h : ℕ) (s : Seen) (t : Task) (k : IsScheduler b)
    (move : Put (seen_in b.tasks.pool) h None (seen_in q.pool)) (max : max_of q.pool ≡ max_of b.tasks.pool) (g : slot_value b.tasks.pool h
    ≡ Some t) (seen_was : seen_in b.tasks.pool h ≡ Some s) (l : Leaves b q queues cleared ready h s.queue) where
  sizes-cleared : SameSizes b.ready cleared
  sizes-cleared = sizes-set b.ready cleared (slot_of h) None l.cleared_is

  sizes-left : SameSizes b.ready ready
  sizes-left = grind (arith, nat_tests, head_of_queue, begins_in, seen_in, sizes-cleared, sizes-set, slot_of)

  -- without the task, and with the queues as they were
  marked-cleared : Marked b.actions (begins_in b.queues.pool) (seen_in q.pool) cleared.marks
  marked-cleared =
      put-marked b q b.queues.pool cleared h None None k move (steady-same b.queues.pool (seen_in b.tasks.pool) h)
      (alone-old b.tasks.pool h t None (seen_in q.pool) g move) (slot_of-live b.tasks.pool h t g)
      (unmarked-none b.actions (begins_in b.queues.pool h)) l.cleared_is

  -- the list of the queue has changed
  module _ (p : ℕ) (v : HeldQueue) (names : s.queue ≡ Some p) (live : slot_value b.queues.pool p ≡ Some v) where
    pool-is : queues.pool ≡ changed b.queues.pool p (without_task h)
    pool-is = ap (λ (z : QueueTable). z.pool) l.left ∙ ap (λ (o : Option ℕ). left_queue b.queues.pool o h) names

    queue-is : slot_value queues.pool p ≡ Some (without_task h v)
    queue-is = ap (λ (z : Slots HeldQueue). slot_value z p) pool-is ∙ (slot-changed b.queues.pool p (without_task h) v live).here

    queued-live : AreQueued (seen_in q.pool) queues.pool b.settings.priorities
    queued-live =
        subst (λ (z : Slots HeldQueue). AreQueued (seen_in q.pool) z b.settings.priorities) (sym pool-is)
        (queued-leave (seen_in b.tasks.pool) (seen_in q.pool) h p s b.queues.pool b.settings.priorities v move seen_was live names k.queued)

    lets-same : (j : ℕ) (o : Option ℕ) → j ≢ h → ((i : ℕ) → slice_get (without_handle h v.tasks) 0 ≡ Some i → j ≢ i)
        → begins_in queues.pool j o ≡ begins_in b.queues.pool j o
    lets-same j None d e = refl
    lets-same j (Some z) d e = ap (λ (x : Slots HeldQueue). begins_in x j (Some z)) pool-is ∙ begins-leave b.queues.pool h p j z v live d e

    unseen-now : (j : ℕ) (u : Seen) → seen_in q.pool j ≡ Some u → j ≢ h
    unseen-now j u e here = absurd (none-some _ (sym move.here ∙ ap (seen_in q.pool) (sym here) ∙ e))

    first-seen : (i : ℕ) → slice_get (without_handle h v.tasks) 0 ≡ Some i → (u : Seen) × (seen_in q.pool i ≡ Some u)
    first-seen i some = let u = queued-live.names i p (without_task h v) queue-is (has-first i (without_handle h v.tasks) some) in (u.0, u.1)

    steady-but : (i : ℕ) → slice_get (without_handle h v.tasks) 0 ≡ Some i → Steady (begins_in b.queues.pool) (begins_in queues.pool) (seen_in q.pool) i
    unfolding Steady
    steady-but i some j u d e n = lets-same j u.queue (unseen-now j u e) (λ a first here. d (here ∙ some_same (sym first ∙ some)))

    alone-first : (i : ℕ) → (u : Seen) × (seen_in q.pool i ≡ Some u) → Alone (seen_in q.pool) i
    unfolding Alone
    alone-first i u j a e f = alone q.pool i j u.0 a u.1 f e

    first-slot : (i : ℕ) → slice_get (without_handle h v.tasks) 0 ≡ Some i → slot_of i < length cleared.marks
    first-slot i some =
        let u = first-seen i some in
        let less = seen-slot q.pool i u.0 u.1 in
        omega (arith, less, max, sizes-cleared.slots, k.slots)

    marked-first : (o : Option ℕ) → slice_get (without_handle h v.tasks) 0 ≡ o → IsFreshAt b.actions (begins_in queues.pool) (seen_in q.pool) o cleared ready
        → Marked b.actions (begins_in queues.pool) (seen_in q.pool) ready.marks
    marked-first None none is =
        subst (λ (r : ReadyMarks). Marked b.actions (begins_in queues.pool) (seen_in q.pool) r.marks) (sym is)
        (marked-steady b.actions (begins_in b.queues.pool) (begins_in queues.pool) (seen_in q.pool) cleared.marks
        (λ j u e n. lets-same j u.queue (unseen-now j u e) (λ i first. absurd (none-some _ (sym none ∙ first)))) marked-cleared)
    marked-first (Some i) some f =
        subst (λ (r : ReadyMarks). Marked b.actions (begins_in queues.pool) (seen_in q.pool) r.marks) (sym f.now)
        (marked-again b.actions (begins_in b.queues.pool) (begins_in queues.pool) (seen_in q.pool) i cleared.marks f.mark
        (steady-but i some) (alone-first i (first-seen i some)) (first-slot i some) f.right marked-cleared)

    head-is : head_of_queue queues.pool s.queue ≡ slice_get (without_handle h v.tasks) 0
    head-is = ap (head_of_queue queues.pool) names ∙ first-of queues.pool p (without_task h v) queue-is

    marked-live : Marked b.actions (begins_in queues.pool) (seen_in q.pool) ready.marks
    marked-live = marked-first (slice_get (without_handle h v.tasks) 0) refl
        (subst (λ (o : Option ℕ). IsFreshAt b.actions (begins_in queues.pool) (seen_in q.pool) o cleared ready) head-is l.fresh)

  -- what has left no live queue
  module _ (out : (p : ℕ) (y : HeldQueue) → s.queue ≡ Some p → slot_value b.queues.pool p ≡ Some y
      → ⊥) (same : left_queue b.queues.pool s.queue h ≡ b.queues.pool) (none : head_of_queue queues.pool s.queue ≡ None) where
    pool-was : queues.pool ≡ b.queues.pool
    pool-was = ap (λ (z : QueueTable). z.pool) l.left ∙ same

    marked-was : Marked b.actions (begins_in queues.pool) (seen_in q.pool) ready.marks
    marked-was =
        let is = subst (λ (o : Option ℕ). IsFreshAt b.actions (begins_in queues.pool) (seen_in q.pool) o cleared ready) none l.fresh in
        subst (λ (r : ReadyMarks). Marked b.actions (begins_in queues.pool) (seen_in q.pool) r.marks) (sym is)
        (subst (λ (z : Slots HeldQueue). Marked b.actions (begins_in z) (seen_in q.pool) cleared.marks) (sym pool-was) marked-cleared)

    queued-was : AreQueued (seen_in q.pool) queues.pool b.settings.priorities
    queued-was =
        subst (λ (z : Slots HeldQueue). AreQueued (seen_in q.pool) z b.settings.priorities) (sym pool-was)
        (queued-out (seen_in b.tasks.pool) (seen_in q.pool) h b.queues.pool b.settings.priorities move
        (λ p y there e. let u = k.queued.names h p y there e in out p y (ap (λ (z : Seen). z.queue) (some_same (sym seen_was ∙ u.1)) ∙ u.2) there) k.queued)

  pub left-both : AreQueued (seen_in q.pool) queues.pool b.settings.priorities × Marked b.actions (begins_in queues.pool) (seen_in q.pool) ready.marks
  left-both = by_queue s.queue refl
    where
      by_live : (p : ℕ) → s.queue ≡ Some p → (o : Option HeldQueue) → slot_value b.queues.pool p ≡ o
          → AreQueued (seen_in q.pool) queues.pool b.settings.priorities × Marked b.actions (begins_in queues.pool) (seen_in q.pool) ready.marks
      by_live p names (Some v) live = (queued-live p v names live, marked-live p v names live)
      by_live p names None dead =
          let out = λ (i : ℕ) (y : HeldQueue) (e : s.queue ≡ Some i) (f : slot_value b.queues.pool i ≡ Some y). absurd
          (none-some _ (sym dead ∙ ap (slot_value b.queues.pool) (some_same (sym names ∙ e)) ∙ f)) in
          let same = ap (λ (o : Option ℕ). left_queue b.queues.pool o h) names ∙ dead-queue b.queues.pool p (without_task h) dead in
          let none = ap (head_of_queue queues.pool) names
          ∙ no-first queues.pool p (ap (λ (z : Slots HeldQueue). slot_value z p) (ap (λ (z : QueueTable). z.pool) l.left ∙ same) ∙ dead) in
          (queued-was out same none, marked-was out same none)

      by_queue : (o : Option ℕ) → s.queue ≡ o
          → AreQueued (seen_in q.pool) queues.pool b.settings.priorities × Marked b.actions (begins_in queues.pool) (seen_in q.pool) ready.marks
      by_queue (Some p) names = by_live p names (slot_value b.queues.pool p) refl
      by_queue None apart =
          let out = λ (i : ℕ) (y : HeldQueue) (e : s.queue ≡ Some i) (f : slot_value b.queues.pool i ≡ Some y). absurd (none-some _ (sym apart ∙ e)) in
          let same = ap (λ (o : Option ℕ). left_queue b.queues.pool o h) apart in
          let none = ap (head_of_queue queues.pool) apart in
          (queued-was out same none, marked-was out same none)

module _ (b : SchedulerTable) (q : TaskTable) (queues : QueueTable) (cleared ready : ReadyMarks) (groups : GroupTable) (h : ℕ) (e : TaskEnd) (t : Task)
    (k : IsScheduler b) (g : slot_value b.tasks.pool h ≡ Some t) (pool : q.pool ≡ ended_in b.tasks.pool h e b.tasks.ends (Some t))
    (count : q.starts ≡ b.tasks.starts) (l : Leaves b q queues cleared ready h t.queue) (ends : q.ends ≡ b.tasks.ends + 1)
    (notes : groups ≡ ended_member b.groups t.notes.group h) where
  move : Put (seen_in b.tasks.pool) h None (seen_in q.pool)
  move = subst (λ (p : Slots Task). Put (seen_in b.tasks.pool) h None (seen_in p)) (sym pool) (put-ended b.tasks.pool h e b.tasks.ends t g)

  -- with what waits and what runs now, where the task is seen so
  end-seen : (s : Seen) (waiting : WaitingTable) (running : List (Option TaskHandle)) → seen_in b.tasks.pool h ≡ Some s → s.queue ≡ t.queue
      → is_unended t ≡ true → waiting.places ≡ b.waiting.places → length waiting.lists ≡ 1 → length running ≡ 25
      → AreWaiting (seen_in q.pool) (list_at waiting.lists 0) → AreByJob b.settings.actions (seen_in q.pool) waiting.by_job
      → AreRunning (seen_in q.pool) running
      → IsScheduler (record b { tasks = q; queues = queues; ready = ready; waiting = waiting; running = running; groups = groups })
  end-seen s waiting running was named un places one_waits seats are_waiting are_by_job are_running =
      let max = ap max_of pool ∙ max-ended b.tasks.pool h e b.tasks.ends (Some t) in
      let leaves_it = subst (λ (o : Option ℕ). Leaves b q queues cleared ready h o) (sym named) l in
      let both = left-both b q queues cleared ready h s t k move max g was leaves_it in
      put-scheduler b q queues ready waiting running groups h None k move max (sizes-left b q queues cleared ready h s t k move max g was leaves_it)
      both.1 both.0 (ap (λ (z : QueueTable). z.tasks) l.left) places one_waits seats are_waiting are_by_job are_running
      (λ s f. absurd (none-some _ f)) (λ s f. absurd (none-some _ f)) (omega (arith, count))
      (ap (λ (z : GroupTable). z.tasks) notes ∙ over-tasks b.groups t.notes.group h)
      (subst (λ (z : GroupTable). AreMembers (members_seen q.pool) (slot_value z.pool) q.starts q.ends) (sym notes)
      (members-over b.tasks.pool q.pool h e t b.groups b.tasks.starts b.tasks.ends q.starts q.ends k.members g un pool count ends))

  pub end-waiting : (waiting : WaitingTable) → t.state ≡ Scheduled → waiting ≡ without_waiting b.waiting t.job h
      → IsScheduler (record b { tasks = q; queues = queues; ready = ready; waiting = waiting; groups = groups })
  end-waiting waiting x is =
      let was = ap seen g ∙ ap (seen_as t) x in
      end-seen _ waiting b.running was refl (ap (λ (y : TaskState). is_none (end_of y)) x)
      (ap (λ (z : WaitingTable). z.places) is) (ap (λ (z : WaitingTable). length z.lists) is ∙ one-length b.waiting _ k.lists) k.seats
      (subst (λ (hs : List ℕ). AreWaiting (seen_in q.pool) hs) (sym (ap (λ (z : WaitingTable). list_at z.lists 0) is ∙ one-list b.waiting _ k.lists))
      (waiting-leave (seen_in b.tasks.pool) (seen_in q.pool) h _ (list_at b.waiting.lists 0) move (λ s f o. absurd (none-some _ f)) k.waiting_are))
      (left-jobs b waiting (seen_in q.pool) h t.job _ None move was refl (λ s f o. absurd (none-some _ f)) is k)
      (running-same (seen_in b.tasks.pool) (seen_in q.pool) h _ b.running move
      (λ s w f on. absurd (none-some _ (ap (λ (z : Seen). z.on) (some_same (sym was ∙ f)) ∙ on))) (λ s w f on. absurd (none-some _ f)) k.running_are)

  pub end-running : (w : ℕ) (kind : Kind) → t.state ≡ Running w kind
      → IsScheduler (record b { tasks = q; queues = queues; ready = ready; running = set b.running w None; groups = groups })
  end-running w kind x =
      let was = ap seen g ∙ ap (seen_as t) x in
      let waits = λ (s : Seen) (f : seen_in b.tasks.pool h ≡ Some s) (o : s.on ≡ None).
      none-some _ (sym o ∙ ap (λ (z : Seen). z.on) (some_same (sym f ∙ was))) in
      end-seen _ b.waiting (set b.running w None) was refl (ap (λ (y : TaskState). is_none (end_of y)) x) refl k.lists (length-set b.running w None ∙ k.seats)
      (waiting-same (seen_in b.tasks.pool) (seen_in q.pool) h _ (list_at b.waiting.lists 0) move waits (λ s f o. absurd (none-some _ f)) k.waiting_are)
      (by-job-same (seen_in b.tasks.pool) (seen_in q.pool) h _ b.waiting.by_job move waits (λ s f o. absurd (none-some _ f)) k.by_job)
      (running-end (seen_in b.tasks.pool) (seen_in q.pool) h w _ b.running move was refl (omega (arith, seat-below b h w kind t k g x, k.seats)) k.running_are)
