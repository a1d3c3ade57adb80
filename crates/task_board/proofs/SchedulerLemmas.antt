-- What each call keeps of a scheduler.
use Rattle.task_board.proofs.Names.{nat_tests, ◌≡◌, ◌≢◌, ◌⊎◌, ◌≤◌, ◌+◌, ℕ, zero, suc, ◌<◌, Bool, true, false, List, [], ◌∷◌, length, length-set, Option, Some, None, Result, Ok, Err, set, refl, sym, ◌∙◌, ap, subst, inl, inr, arith, ◌%◌, is_some, is_none, option_map, false≢true, cases_eq, Kind, TaskHandle, MtapiStatus, without, Slots, slot_of, generation_of, free_slot, value_at, slot_value, max_of, Inserts, changed, put, value_at-none, get-insert_same, get-insert_before, slot_of-live, list_at, has_handle, without_handle, stands_at, NowhereAt, list_at-set_same, Mark, ReadyMarks, Action, Queue, job_of, IsUnion, Task, NewTask, new_task, Running, is_unstarted, with_state, TaskState, scheduled, end_of, TaskTable, GroupTable, members_seen, AreMembers, MayJoin, joined, ended_member, Seen, seen_as, seen, seen_in, HeldQueue, QueueTable, NoTaskAt, live_reply, held, facts_of, tasks_of, with_opened, with_task, QueueHandle, ErrQueueExists, ErrQueueLimit, begins_in, AreQueued, NoneWaitsIn, WaitingTable, job_list, with_waiting, without_waiting, AreSeen, AreByJob, SchedulerTable, IsScheduler, IsMarkOf, Marked, AreWaiting, AreRunning, AreRanked, running_on, IsFresh, Remarked, RemarkedUnless, none-some}
use Rattle.std.specs.Result.{OnOk, OnErr}
use Rattle.queue_core.specs.Held.{CreatesQueue}
use Rattle.queue_core.specs.declared.facts.QueueFacts.{QueueFacts}
use Rattle.task_board.proofs.ByJobLemmas.{by-job-push, by-job-leave, by-job-has}
use Rattle.task_board.proofs.SeenLemmas.{some_same, SeenAs, seen-as, seen-live, unstarted-seen}
use Rattle.task_board.proofs.MoveLemmas.{none-stands, Put, Alone, Steady, alone-old, alone-new, put-insert, put-changed, max-insert, max-changed, marked-put, marked-steady, ranked-put, waiting-push, waiting-leave, running-begin, running-same, stands-handle, slot-changed, slot-insert, slot-without}
use Rattle.task_board.proofs.RemarkLemmas.{SameBut, TakenBy, taken-other, taken-steady, marked-anew, marked-over}
use Rattle.task_board.proofs.QueuedLemmas.{queued-apart, queued-enqueue, queued-run, queued-with, queued-new, queued-gone, begins-same, begins-enqueue}
use Rattle.task_board.proofs.MemberLemmas.{members-same}
use Rattle.task_board.proofs.TaskMemberLemmas.{members-add, member-runs}

-- the marks have the sizes that they had
pub record SameSizes (old new : ReadyMarks) : Type 0 where
  pub workers : new.workers ≡ old.workers
  pub priorities : new.priorities ≡ old.priorities
  pub slots : length new.marks ≡ length old.marks

pub sizes-set : (old new : ReadyMarks) (place : ℕ) (m : Option Mark) → new ≡ record old { marks = set old.marks place m } → SameSizes old new
sizes-set old new place m e1 = grind (arith, nat_tests, length-set)

-- a move of one handle
pub put-scheduler : (b : SchedulerTable) (q : TaskTable) (queues : QueueTable) (ready : ReadyMarks) (waiting : WaitingTable)
    (running : List (Option TaskHandle)) (groups : GroupTable) (h : ℕ) (x : Option Seen) → IsScheduler b → Put (seen_in b.tasks.pool) h x (seen_in q.pool)
    → max_of q.pool ≡ max_of b.tasks.pool → SameSizes b.ready ready → Marked b.actions (begins_in queues.pool) (seen_in q.pool) ready.marks
    → AreQueued (seen_in q.pool) queues.pool b.settings.priorities → queues.tasks ≡ b.queues.tasks → waiting.places ≡ b.waiting.places
    → length waiting.lists ≡ 1 → length running ≡ 25 → AreWaiting (seen_in q.pool) (list_at waiting.lists 0)
    → AreByJob b.settings.actions (seen_in q.pool) waiting.by_job → AreRunning (seen_in q.pool) running
    → ((s : Seen) → x ≡ Some s → s.priority < b.settings.priorities) → ((s : Seen) → x ≡ Some s → s.start < q.starts) → b.tasks.starts ≤ q.starts
    → groups.tasks ≡ b.groups.tasks → AreMembers (members_seen q.pool) (slot_value groups.pool) q.starts q.ends
    → IsScheduler (record b { tasks = q; queues = queues; ready = ready; waiting = waiting; running = running; groups = groups })
put-scheduler b q queues ready waiting running groups h x was put same_room same_sizes are_marked are_queued same_queues same_places one_waits each_worker
    are_waiting are_by_job are_running has_priority has_start starts_grow same_groups are_members = grind (arith, nat_tests)

-- no task changes
tasks-stay : (b : SchedulerTable) (actions : Slots Action) (queues : QueueTable) (ready : ReadyMarks) → IsScheduler b → SameSizes b.ready ready
    → queues.tasks ≡ b.queues.tasks → Marked actions (begins_in queues.pool) (seen_in b.tasks.pool) ready.marks
    → AreQueued (seen_in b.tasks.pool) queues.pool b.settings.priorities → IsScheduler (record b { actions = actions; queues = queues; ready = ready })
tasks-stay b actions queues ready was same_sizes same_queues are_marked are_queued = grind (arith, nat_tests)

-- the marks after a move of one handle, where its own is right
pub put-marked : (b : SchedulerTable) (q : TaskTable) (queues : Slots HeldQueue) (ready : ReadyMarks) (h : ℕ) (x : Option Seen) (m : Option Mark)
    → IsScheduler b → Put (seen_in b.tasks.pool) h x (seen_in q.pool) → Steady (begins_in b.queues.pool) (begins_in queues) (seen_in b.tasks.pool) h
    → Alone (seen_in q.pool) h → slot_of h < max_of b.tasks.pool → IsMarkOf b.actions (begins_in queues h) x m
    → ready ≡ record b.ready { marks = set b.ready.marks (slot_of h) m } → Marked b.actions (begins_in queues) (seen_in q.pool) ready.marks
put-marked b q queues ready h x m k move steady one less right is =
    subst (λ (r : ReadyMarks). Marked b.actions (begins_in queues) (seen_in q.pool) r.marks) (sym is)
    (marked-put b.actions (begins_in b.queues.pool) (begins_in queues) (seen_in b.tasks.pool) (seen_in q.pool) h x b.ready.marks m move steady one
    (subst (λ (n : ℕ). slot_of h < n) (sym k.slots) less) right k.marked)

-- queues that don't change
pub steady-same : (queues : Slots HeldQueue) (at : ℕ → Option Seen) (h : ℕ) → Steady (begins_in queues) (begins_in queues) at h
unfolding Steady
steady-same queues at h k s d e n = refl

-- the one list, after a change
pub one-list : (ls : WaitingTable) (list : List ℕ) → length ls.lists ≡ 1 → list_at (set ls.lists 0 list) 0 ≡ list
one-list ls list e = list_at-set_same ls.lists 0 list (omega (arith, e))

pub one-length : (ls : WaitingTable) (list : List ℕ) → length ls.lists ≡ 1 → length (set ls.lists 0 list) ≡ 1
one-length ls list e = length-set ls.lists 0 list ∙ e

-- Adding

-- nothing stands at a slot that was free
pub nowhere : (b : SchedulerTable) (q : Slots Task) (h : ℕ) (t : Task) → IsScheduler b → Inserts b.tasks.pool q h t → NowhereAt (slot_of h) b.waiting.lists
nowhere b q h t k i zero = none-stands b.tasks.pool q h t (list_at b.waiting.lists 0) i (λ w e none.
    let s = k.waiting_are.waits w e in absurd (none-some _ (sym (ap seen none) ∙ s.1)))
nowhere b q h t k i (suc n) = ap (stands_at (slot_of h)) (at_none b.waiting.lists k.lists)
  where
    at_none : (l : List (List ℕ)) → length l ≡ 1 → list_at l (suc n) ≡ []
    at_none [] e = refl
    at_none (x ∷ []) e = refl
    at_none (x ∷ (y ∷ ys)) e = absurd (omega (arith, e))

-- nor in the lists by jobs
pub nowhere-by-job : (b : SchedulerTable) (q : Slots Task) (h : ℕ) (t : Task) → IsScheduler b → Inserts b.tasks.pool q h t
    → NowhereAt (slot_of h) b.waiting.by_job
nowhere-by-job b q h t k i number = none-stands b.tasks.pool q h t (list_at b.waiting.by_job number) i (λ w e none.
    let s = (k.by_job.each number (has-number b.waiting.by_job number w e)).is_seen w e in absurd (none-some _ (sym (ap seen none) ∙ s.1)))
  where
    has-number : (ls : List (List ℕ)) (n w : ℕ) → has_handle w (list_at ls n) ≡ true → n < length ls
    has-number [] n w e = absurd (false≢true e)
    has-number (l ∷ ls) zero w e = omega arith
    has-number (l ∷ ls) (suc n) w e = let more = has-number ls n w e in omega (arith, more)

-- nothing was seen by a new handle
unseen : (b : SchedulerTable) (q : Slots Task) (h : ℕ) (t : Task) → Inserts b.tasks.pool q h t → seen_in b.tasks.pool h ≡ None
unseen b q h t i = ap (λ (o : Option _). seen (value_at o (generation_of h))) i.was_free
    ∙ ap seen (value_at-none (free_slot (generation_of h)) (generation_of h) refl)

-- the slot of a new handle
pub new-slot : (b : SchedulerTable) (q : Slots Task) (h : ℕ) (t : Task) → Inserts b.tasks.pool q h t → slot_of h < max_of b.tasks.pool
new-slot b q h t i = subst (λ (n : ℕ). slot_of h < n) (max-insert b.tasks.pool q h t i) (slot_of-live q h t (get-insert_same b.tasks.pool q h t i))

pub new-ranked : (b : SchedulerTable) (q : Slots Task) (h n : ℕ) (a : NewTask) → IsScheduler b → Inserts b.tasks.pool q h (new_task a n)
    → a.priority < b.settings.priorities → AreRanked (seen_in q) b.settings.priorities
new-ranked b q h n a k i less =
    ranked-put (seen_in b.tasks.pool) (seen_in q) h _ b.settings.priorities (put-insert b.tasks.pool q h (new_task a n) i)
    (λ s e. subst (λ (u : Seen). u.priority < b.settings.priorities) (some_same e) less) k.ranked

joined-tasks : (t : GroupTable) (o : Option ℕ) (h : ℕ) → (joined t o h).tasks ≡ t.tasks
joined-tasks t o h = grind (arith, nat_tests)

pub over-tasks : (t : GroupTable) (o : Option ℕ) (h : ℕ) → (ended_member t o h).tasks ≡ t.tasks
over-tasks t o h = grind (arith, nat_tests)

-- what a new task is of a scheduler: `queues` has it in its queue, if any, and `groups` in its group
add-with : (b : SchedulerTable) (q : TaskTable) (queues : QueueTable) (ready : ReadyMarks) (waiting : WaitingTable) (groups : GroupTable) (h n : ℕ)
    (a : NewTask) → IsScheduler b → Inserts b.tasks.pool q.pool h (new_task a n) → n ≡ b.tasks.starts → q.starts ≡ b.tasks.starts + 1
    → a.priority < b.settings.priorities → waiting ≡ with_waiting b.waiting a.job h → queues.tasks ≡ b.queues.tasks
    → Steady (begins_in b.queues.pool) (begins_in queues.pool) (seen_in b.tasks.pool) h → AreQueued (seen_in q.pool) queues.pool b.settings.priorities
    → IsFresh b.actions (begins_in queues.pool) (seen_in q.pool) h b.ready ready → q.ends ≡ b.tasks.ends → MayJoin b.groups.pool a.detached a.group
    → groups ≡ joined b.groups a.group h → IsScheduler (record b { tasks = q; queues = queues; ready = ready; waiting = waiting; groups = groups })
add-with b q queues ready waiting groups h n a k i next count less is room steady queued f ends may enters =
    let move = put-insert b.tasks.pool q.pool h (new_task a n) i in
    put-scheduler b q queues ready waiting b.running groups h (seen (Some (new_task a n))) k move (max-insert b.tasks.pool q.pool h (new_task a n) i)
    (sizes-set b.ready ready (slot_of h) f.mark f.now)
    (put-marked b q queues.pool ready h (seen (Some (new_task a n))) f.mark k move steady
    (alone-new q.pool h (new_task a n) (get-insert_same b.tasks.pool q.pool h (new_task a n) i))
    (new-slot b q.pool h (new_task a n) i) (subst (λ (o : Option Seen). IsMarkOf b.actions (begins_in queues.pool h) o f.mark) move.here f.right) f.now)
    queued room
    (ap (λ (l : WaitingTable). l.places) is) (ap (λ (l : WaitingTable). length l.lists) is ∙ one-length b.waiting _ k.lists) k.seats
    (subst (λ (hs : List ℕ). AreWaiting (seen_in q.pool) hs) (sym (ap (λ (l : WaitingTable). list_at l.lists 0) is ∙ one-list b.waiting _ k.lists))
    (waiting-push (seen_in b.tasks.pool) (seen_in q.pool) h _ (list_at b.waiting.lists 0) move (unseen b q.pool h (new_task a n) i) refl
    (λ j u e. subst (λ (m : ℕ). u.start < m) (sym next) (k.started.before j u e)) k.waiting_are))
    (subst (λ (ls : List (List ℕ)). AreByJob b.settings.actions (seen_in q.pool) ls) (sym (ap (λ (l : WaitingTable). l.by_job) is))
    (by-job-push (seen_in b.tasks.pool) (seen_in q.pool) h _ b.waiting.by_job move (unseen b q.pool h (new_task a n) i) refl
    (λ j u e. subst (λ (m : ℕ). u.start < m) (sym next) (k.started.before j u e)) k.by_job))
    (running-same (seen_in b.tasks.pool) (seen_in q.pool) h _ b.running move
    (λ s w e on. absurd (none-some _ (sym (unseen b q.pool h (new_task a n) i) ∙ e)))
    (λ s w e on. absurd (none-some _ (ap (λ (u : Seen). u.on) (some_same e) ∙ on))) k.running_are)
    (λ s e. subst (λ (u : Seen). u.priority < b.settings.priorities) (some_same e) less)
    (λ s e. subst (λ (u : Seen). u.start < q.starts) (some_same e) (omega (arith, next, count))) (omega (arith, count))
    (ap (λ (t : GroupTable). t.tasks) enters ∙ joined-tasks b.groups a.group h)
    (subst (λ (t : GroupTable). AreMembers (members_seen q.pool) (slot_value t.pool) q.starts q.ends) (sym enters)
    (members-add b.tasks.pool q.pool h a b.groups b.tasks.starts b.tasks.ends q.starts q.ends k.members
    (subst (λ (m : ℕ). Inserts b.tasks.pool q.pool h (new_task a m)) next i) count ends may))

pub add-scheduler : (b : SchedulerTable) (q : TaskTable) (ready : ReadyMarks) (waiting : WaitingTable) (groups : GroupTable) (h n : ℕ) (a : NewTask)
    → IsScheduler b → Inserts b.tasks.pool q.pool h (new_task a n) → n ≡ b.tasks.starts → q.starts ≡ b.tasks.starts + 1 → a.priority < b.settings.priorities
    → a.queue ≡ None → waiting ≡ with_waiting b.waiting a.job h → IsFresh b.actions (begins_in b.queues.pool) (seen_in q.pool) h b.ready ready
    → q.ends ≡ b.tasks.ends → MayJoin b.groups.pool a.detached a.group → groups ≡ joined b.groups a.group h
    → IsScheduler (record b { tasks = q; ready = ready; waiting = waiting; groups = groups })
add-scheduler b q ready waiting groups h n a k i next count less apart is f ends may enters =
    add-with b q b.queues ready waiting groups h n a k i next count less is refl (steady-same b.queues.pool (seen_in b.tasks.pool) h)
    (queued-apart (seen_in b.tasks.pool) (seen_in q.pool) h _ b.queues.pool b.settings.priorities (put-insert b.tasks.pool q.pool h (new_task a n) i)
    (unseen b q.pool h (new_task a n) i) apart k.queued) f ends may enters

pub enqueue-scheduler : (b : SchedulerTable) (q : TaskTable) (queues : QueueTable) (ready : ReadyMarks) (waiting : WaitingTable) (groups : GroupTable)
    (h n p : ℕ) (a : NewTask) (v : HeldQueue) → IsScheduler b → Inserts b.tasks.pool q.pool h (new_task a n) → n ≡ b.tasks.starts
    → q.starts ≡ b.tasks.starts + 1 → slot_value b.queues.pool p ≡ Some v → a.queue ≡ Some p → a.job ≡ v.queue.job → a.priority ≡ v.queue.priority
    → waiting ≡ with_waiting b.waiting a.job h → queues ≡ record b.queues { pool = changed b.queues.pool p (with_task h) }
    → IsFresh b.actions (begins_in queues.pool) (seen_in q.pool) h b.ready ready → q.ends ≡ b.tasks.ends → MayJoin b.groups.pool a.detached a.group
    → groups ≡ joined b.groups a.group h → IsScheduler (record b { tasks = q; queues = queues; ready = ready; waiting = waiting; groups = groups })
unfolding Steady
enqueue-scheduler b q queues ready waiting groups h n p a v k i next count live names job rank is put f ends may enters =
    add-with b q queues ready waiting groups h n a k i next count
    (subst (λ (m : ℕ). m < b.settings.priorities) (sym rank) (k.queued.ranked p v live)) is (ap (λ (z : QueueTable). z.tasks) put) steady
    (subst (λ (z : QueueTable). AreQueued (seen_in q.pool) z.pool b.settings.priorities) (sym put)
    (queued-enqueue (seen_in b.tasks.pool) (seen_in q.pool) h p _ b.queues.pool b.settings.priorities v (put-insert b.tasks.pool q.pool h (new_task a n) i)
    (unseen b q.pool h (new_task a n) i) live names job
    (λ j u e. subst (λ (m : ℕ). u.start < m) (sym next) (k.started.before j u e)) k.queued)) f ends may enters
  where
    by_queue : (j : ℕ) (o : Option ℕ) → j ≢ h → begins_in (changed b.queues.pool p (with_task h)) j o ≡ begins_in b.queues.pool j o
    by_queue j None d = refl
    by_queue j (Some z) d = begins-enqueue b.queues.pool h p j z v live d

    steady : Steady (begins_in b.queues.pool) (begins_in queues.pool) (seen_in b.tasks.pool) h
    steady j s d e o = ap (λ (z : QueueTable). begins_in z.pool j s.queue) put ∙ by_queue j s.queue d

-- no task of a queue has a slot that was free
pub no-task : (b : SchedulerTable) (q : Slots Task) (h : ℕ) (t : Task) → IsScheduler b → Inserts b.tasks.pool q h t → NoTaskAt (slot_of h) b.queues.pool
no-task b q h t e1 e2 = grind (arith, nat_tests, stands_at, slot_of, stands-handle, seen-live, slot_value, value_at)

-- Taking

unmarked : (actions : Slots Action) (lets : Option ℕ → Bool) (s : Seen) (w : ℕ) → s.on ≡ Some w → IsMarkOf actions lets (Some s) None
unmarked actions lets s w e1 = grind (arith, nat_tests)

pub unmarked-none : (actions : Slots Action) (lets : Option ℕ → Bool) → IsMarkOf actions lets None None
unmarked-none actions lets = record { sound = λ v p e. absurd (false≢true e); whole = λ v u e k. absurd (none-some _ e) }

-- a live task that hasn't begun waits
pub waits-in : (b : SchedulerTable) (h : ℕ) (t : Task) → IsScheduler b → slot_value b.tasks.pool h ≡ Some t → is_unstarted t ≡ true
    → has_handle h (list_at b.waiting.lists 0) ≡ true
waits-in b h t k g u =
    let s = unstarted-seen t t.state u in
    k.waiting_are.listed h s.0 (ap seen g ∙ s.1) s.2

unstarted-unended : (x : TaskState) → scheduled x ≡ true → is_none (end_of x) ≡ true
unstarted-unended x e1 = grind (arith, nat_tests)

-- the lists by jobs once a waiting task has left
pub left-jobs : (b : SchedulerTable) (waiting : WaitingTable) (after : ℕ → Option Seen) (h job : ℕ) (s : Seen) (x : Option Seen)
    → Put (seen_in b.tasks.pool) h x after → seen_in b.tasks.pool h ≡ Some s → s.job ≡ job → ((u : Seen) → x ≡ Some u → u.on ≡ None → ⊥)
    → waiting ≡ without_waiting b.waiting job h → IsScheduler b → AreByJob b.settings.actions after waiting.by_job
left-jobs b waiting after h job s x move was same left is k =
    let mine : waiting.by_job ≡ set b.waiting.by_job (s.job % length b.waiting.by_job)
    (without_handle h (list_at b.waiting.by_job (s.job % length b.waiting.by_job))) =
    ap (λ (l : WaitingTable). l.by_job) is ∙ ap
    (λ (j : ℕ). set b.waiting.by_job (j % length b.waiting.by_job) (without_handle h (list_at b.waiting.by_job (j % length b.waiting.by_job)))) (sym same)
    in
    subst (λ (ls : List (List ℕ)). AreByJob b.settings.actions after ls) (sym mine)
    (by-job-leave (seen_in b.tasks.pool) after h s x b.waiting.by_job move was left k.by_job)

pub take-scheduler : (b : SchedulerTable) (q : TaskTable) (ready : ReadyMarks) (waiting : WaitingTable) (h w : ℕ) (kind : Kind) (t : Task) → IsScheduler b
    → slot_value b.tasks.pool h ≡ Some t → is_unstarted t ≡ true → q.pool ≡ changed b.tasks.pool h (with_state (Running w kind)) → q.starts ≡ b.tasks.starts
    → w < b.settings.workers → is_some (running_on b.running w) ≡ false → waiting ≡ without_waiting b.waiting t.job h
    → ready ≡ record b.ready { marks = set b.ready.marks (slot_of h) None } → q.ends ≡ b.tasks.ends
    → IsScheduler (record b { tasks = q; ready = ready; waiting = waiting; running = set b.running w (Some (record { 0 = h })) })
take-scheduler b q ready waiting h w kind t k g u pool count less free is marks ends =
    put-scheduler b q b.queues ready waiting (set b.running w (Some (record { 0 = h }))) b.groups h (seen (Some (with_state (Running w kind) t))) k move
    (ap max_of pool ∙ max-changed b.tasks.pool h (with_state (Running w kind)))
    (sizes-set b.ready ready (slot_of h) None marks)
    (put-marked b q b.queues.pool ready h _ None k move (steady-same b.queues.pool (seen_in b.tasks.pool) h)
    (alone-old b.tasks.pool h t _ (seen_in q.pool) g move) (slot_of-live b.tasks.pool h t g)
    (unmarked b.actions (begins_in b.queues.pool h) _ w refl) marks)
    (queued-run (seen_in b.tasks.pool) (seen_in q.pool) h w was.0 _ b.queues.pool b.settings.priorities move (ap seen g
    ∙ was.1) like.queue like.job like.start refl k.queued) refl
    (ap (λ (l : WaitingTable). l.places) is) (ap (λ (l : WaitingTable). length l.lists) is ∙ one-length b.waiting _ k.lists) (length-set b.running w _
    ∙ k.seats)
    (subst (λ (hs : List ℕ). AreWaiting (seen_in q.pool) hs) (sym list)
    (waiting-leave (seen_in b.tasks.pool) (seen_in q.pool) h _ (list_at b.waiting.lists 0) move
    (λ s e n. absurd (none-some _ (sym n ∙ ap (λ (z : Seen). z.on) (sym (some_same e))))) k.waiting_are))
    (left-jobs b waiting (seen_in q.pool) h t.job was.0 _ move (ap seen g
    ∙ was.1) like.job (λ s e n. absurd (none-some _ (sym n ∙ ap (λ (z : Seen). z.on) (sym (some_same e))))) is k)
    (running-begin (seen_in b.tasks.pool) (seen_in q.pool) h w _ b.running move refl free
    (λ s e. ap (λ (z : Seen). z.on) (some_same (sym e ∙ ap seen g ∙ was.1)) ∙ was.2) (omega (arith, less, k.few, k.seats)) k.running_are)
    (λ s e. subst (λ (n : ℕ). n < b.settings.priorities) (rank ∙ ap (λ (z : Seen). z.priority) (some_same e)) (k.ranked.known h was.0 (ap seen g ∙ was.1)))
    (λ s e. let x = subst (λ (n : ℕ). n < b.tasks.starts) (begun ∙ ap (λ (z : Seen). z.start) (some_same e)) (k.started.before h was.0 (ap seen g ∙ was.1)) in
    omega (arith, x, count)) (omega (arith, count)) refl
    (members-same (members_seen b.tasks.pool) (members_seen q.pool) (slot_value b.groups.pool) b.tasks.starts b.tasks.ends q.starts q.ends
    (λ j. ap (λ (p : Slots Task). members_seen p j) pool
    ∙ member-runs b.tasks.pool h w kind t g (unstarted-unended t.state u) j) (omega (arith, count)) (omega (arith, ends)) k.members)
  where
    was : (s : Seen) × (seen_as t t.state ≡ Some s) × (s.on ≡ None)
    was = unstarted-seen t t.state u

    move : Put (seen_in b.tasks.pool) h (seen (Some (with_state (Running w kind) t))) (seen_in q.pool)
    move = subst (λ (p : Slots Task). Put (seen_in b.tasks.pool) h (seen (Some (with_state (Running w kind) t))) (seen_in p)) (sym pool)
        (put-changed b.tasks.pool h (with_state (Running w kind)) t g)

    list : list_at waiting.lists 0 ≡ without_handle h (list_at b.waiting.lists 0)
    list = ap (λ (l : WaitingTable). list_at l.lists 0) is ∙ one-list b.waiting _ k.lists

    like : SeenAs t t.state was.0
    like = seen-as t t.state was.0 was.1

    begun : was.0.start ≡ t.start
    begun = like.start

    rank : was.0.priority ≡ t.priority
    rank = like.priority

-- Ending

-- the seat of a running task
pub seat-below : (b : SchedulerTable) (h w : ℕ) (kind : Kind) (t : Task) → IsScheduler b → slot_value b.tasks.pool h ≡ Some t → t.state ≡ Running w kind
    → w < 25
seat-below b h w kind t k g x = subst (λ (n : ℕ). w < n) k.seats (within b.running w (k.running_are.found h w _ (ap seen g ∙ ap (seen_as t) x) refl))
  where
    within : (r : List (Option TaskHandle)) (i : ℕ) → running_on r i ≡ Some (record { 0 = h }) → i < length r
    within [] i f = absurd (none-some _ f)
    within (y ∷ r) zero f = omega arith
    within (y ∷ r) (suc i) f = let more = within r i f in omega (arith, more)

-- Other actions

pub remark-scheduler : (b : SchedulerTable) (new : Slots Action) (ready : ReadyMarks) (job : ℕ) → IsScheduler b → SameBut job b.actions new
    → Remarked new (begins_in b.queues.pool) (seen_in b.tasks.pool) job (job_list b.waiting job) (length (job_list b.waiting job)) b.ready ready
    → IsScheduler (record b { actions = new; ready = ready })
remark-scheduler b new ready job k same r =
    tasks-stay b new b.queues ready k (record { workers = r.workers; priorities = r.priorities; slots = r.slots }) refl
    (marked-anew b.actions new (begins_in b.queues.pool) (begins_in b.queues.pool) b.tasks.pool job (job_list b.waiting job) b.ready ready
    (λ h s e n. elim (cases_eq s.job job) [
      | inl mine ↦ inl (by-job-has (seen_in b.tasks.pool) h job s b.waiting.by_job k.by_job e n mine, mine)
      | inr other ↦ inr (taken-other job b.actions new (begins_in b.queues.pool h) s same other)
    ]) r k.marked)
    k.queued

-- the same where the waiting tasks of the job are marked anew unless its actions cover the cores that they covered
pub changed-scheduler : (b : SchedulerTable) (new : Slots Action) (ready : ReadyMarks) (job mask : ℕ) → IsScheduler b → SameBut job b.actions new
    → IsUnion b.actions job mask → RemarkedUnless new (begins_in b.queues.pool) (seen_in b.tasks.pool) job mask (job_list b.waiting job) b.ready ready
    → IsScheduler (record b { actions = new; ready = ready })
changed-scheduler b new ready job mask e1 e2 e3 e4 = grind (arith, nat_tests, remark-scheduler, tasks-stay, marked-over, begins_in, seen_in)

-- Other queues

-- a queue keeps its tasks where it is enabled or disabled
pub opened-tasks : (b : SchedulerTable) (queues : QueueTable) (q : ℕ) (on : Bool) → queues ≡ record b.queues { pool = changed b.queues.pool q (with_opened on) }
    → tasks_of (slot_value queues.pool q) ≡ tasks_of (slot_value b.queues.pool q)
opened-tasks b queues q on e1 = grind (arith, nat_tests, tasks_of, slot_value, with_opened, option_map, slot-changed)

-- the tasks of a queue are seen
pub queue-seen : (b : SchedulerTable) (q : ℕ) → IsScheduler b → AreSeen (seen_in b.tasks.pool) (tasks_of (slot_value b.queues.pool q))
queue-seen b q e1 = grind (arith, nat_tests)

pub opened-seen : (b : SchedulerTable) (queues : QueueTable) (q : ℕ) (on : Bool) → IsScheduler b
    → queues ≡ record b.queues { pool = changed b.queues.pool q (with_opened on) } → AreSeen (seen_in b.tasks.pool) (tasks_of (slot_value queues.pool q))
opened-seen b queues q on k is = subst (λ (hs : List ℕ). AreSeen (seen_in b.tasks.pool) hs) (sym (opened-tasks b queues q on is)) (queue-seen b q k)

-- a live task that hasn't begun is in the list of its job
pub waits-in-job : (b : SchedulerTable) (h job : ℕ) (t : Task) → IsScheduler b → slot_value b.tasks.pool h ≡ Some t → is_unstarted t ≡ true → t.job ≡ job
    → has_handle h (job_list b.waiting job) ≡ true
waits-in-job b h job t k g u is =
    let s = unstarted-seen t t.state u in
    by-job-has (seen_in b.tasks.pool) h job s.0 b.waiting.by_job k.by_job (ap seen g ∙ s.1) s.2 ((seen-as t t.state s.0 s.1).job ∙ is)

-- a queue is enabled or disabled, and its tasks are marked anew
pub opened-scheduler : (b : SchedulerTable) (queues : QueueTable) (ready : ReadyMarks) (q : ℕ) (v : HeldQueue) (on : Bool) → IsScheduler b
    → slot_value b.queues.pool q ≡ Some v → queues ≡ record b.queues { pool = changed b.queues.pool q (with_opened on) }
    → Remarked b.actions (begins_in queues.pool) (seen_in b.tasks.pool) v.queue.job v.tasks (length v.tasks) b.ready ready
    → IsScheduler (record b { queues = queues; ready = ready })
opened-scheduler b queues ready q v on k live is r =
    tasks-stay b b.actions queues ready k (record { workers = r.workers; priorities = r.priorities; slots = r.slots }) (ap (λ (z : QueueTable). z.tasks) is)
    (marked-anew b.actions b.actions (begins_in b.queues.pool) (begins_in queues.pool) b.tasks.pool v.queue.job v.tasks b.ready ready others r k.marked)
    (subst (λ (z : QueueTable). AreQueued (seen_in b.tasks.pool) z.pool b.settings.priorities) (sym is)
    (queued-with (seen_in b.tasks.pool) q b.queues.pool b.settings.priorities v on live k.queued))
  where
    -- each task is one of the queue, or its queue is as it was
    by_queue : (h : ℕ) (s : Seen) (o : Option ℕ) → s.queue ≡ o → seen_in b.tasks.pool h ≡ Some s
        → ((has_handle h v.tasks ≡ true) × (s.job ≡ v.queue.job)) ⊎ (begins_in (changed b.queues.pool q (with_opened on)) h o ≡ begins_in b.queues.pool h o)
    by_queue h s None e f = inr refl
    by_queue h s (Some p) e f = elim (cases_eq p q) [
      | inl here ↦
          let has = k.queued.listed h q s v f (e ∙ ap Some here) live in
          let u = k.queued.names h q v live has in
          inl (has, ap (λ (z : Seen). z.job) (some_same (sym f ∙ u.1)) ∙ u.3)
      | inr away ↦ inr (begins-same b.queues.pool (changed b.queues.pool q (with_opened on)) h p
          ((slot-changed b.queues.pool q (with_opened on) v live).others p away))
    ]

    others : (h : ℕ) (s : Seen) → seen_in b.tasks.pool h ≡ Some s → s.on ≡ None
        → ((has_handle h v.tasks ≡ true) × (s.job ≡ v.queue.job)) ⊎ TakenBy b.actions b.actions (begins_in b.queues.pool h) (begins_in queues.pool h) s
    others h s e n = elim (by_queue h s s.queue refl e) [
      | inl mine ↦ inl mine
      | inr same ↦ inr (taken-steady b.actions (begins_in b.queues.pool h) (begins_in queues.pool h) s (ap (λ (z : QueueTable). begins_in z.pool h s.queue) is
          ∙ same))
    ]

-- a queue that is made has no tasks
pub created-scheduler : (b : SchedulerTable) (queues : QueueTable) (q : ℕ) (x : Queue) → IsScheduler b → Inserts b.queues.pool queues.pool q (held x [])
    → queues.tasks ≡ b.queues.tasks → x.priority < b.settings.priorities → IsScheduler (record b { queues = queues })
created-scheduler b queues q x k i room rank =
    tasks-stay b b.actions queues b.ready k (record { workers = refl; priorities = refl; slots = refl }) room
    (marked-steady b.actions (begins_in b.queues.pool) (begins_in queues.pool) (seen_in b.tasks.pool) b.ready.marks
    (λ h s e n. by_queue h s s.queue refl e n) k.marked)
    (queued-new (seen_in b.tasks.pool) q b.queues.pool queues.pool b.settings.priorities x i rank k.queued)
  where
    by_queue : (h : ℕ) (s : Seen) (o : Option ℕ) → s.queue ≡ o → seen_in b.tasks.pool h ≡ Some s → s.on ≡ None
        → begins_in queues.pool h o ≡ begins_in b.queues.pool h o
    by_queue h s None e f n = refl
    by_queue h s (Some p) e f n = begins-same b.queues.pool queues.pool h p ((slot-insert b.queues.pool queues.pool q (held x []) i).others p (λ here.
        let old = k.queued.live h p s f n e in
        absurd (none-some _ (sym (get-insert_before b.queues.pool queues.pool q (held x []) i) ∙ ap (slot_value b.queues.pool) (sym here) ∙ old.1))))

-- a queue goes whose tasks have all begun
deleted-scheduler : (b : SchedulerTable) (queues : QueueTable) (q : ℕ) (v : HeldQueue) → IsScheduler b → NoneWaitsIn q (seen_in b.tasks.pool)
    → slot_value b.queues.pool q ≡ Some v → queues ≡ record b.queues { pool = without b.queues.pool q } → IsScheduler (record b { queues = queues })
deleted-scheduler b queues q v k none live is =
    tasks-stay b b.actions queues b.ready k (record { workers = refl; priorities = refl; slots = refl }) (ap (λ (z : QueueTable). z.tasks) is)
    (marked-steady b.actions (begins_in b.queues.pool) (begins_in queues.pool) (seen_in b.tasks.pool) b.ready.marks
    (λ h s e n. ap (λ (z : QueueTable). begins_in z.pool h s.queue) is ∙ by_queue h s s.queue refl e n) k.marked)
    (subst (λ (z : QueueTable). AreQueued (seen_in b.tasks.pool) z.pool b.settings.priorities) (sym is)
    (queued-gone (seen_in b.tasks.pool) q b.queues.pool b.settings.priorities v live none k.queued))
  where
    by_queue : (h : ℕ) (s : Seen) (o : Option ℕ) → s.queue ≡ o → seen_in b.tasks.pool h ≡ Some s → s.on ≡ None
        → begins_in (without b.queues.pool q) h o ≡ begins_in b.queues.pool h o
    by_queue h s None e f n = refl
    by_queue h s (Some p) e f n = begins-same b.queues.pool (without b.queues.pool q) h p
        ((slot-without b.queues.pool q v live).others p (λ here. none h s f n (e ∙ ap Some here)))

-- a delete that may have been refused
pub delete-scheduler : (b : SchedulerTable) (queues : QueueTable) (q : ℕ) (r : Result Unit MtapiStatus) → IsScheduler b → NoneWaitsIn q (seen_in b.tasks.pool)
    → r ≡ live_reply (slot_value b.queues.pool q) → OnOk r (queues ≡ record b.queues { pool = without b.queues.pool q }) → OnErr r (queues ≡ b.queues)
    → IsScheduler (record b { queues = queues })
delete-scheduler b queues q (Err c) k none e ok err = subst (λ (z : QueueTable). IsScheduler (record b { queues = z })) (sym err) k
delete-scheduler b queues q (Ok u) k none e ok err = by_found (slot_value b.queues.pool q) refl e
  where
    by_found : (o : Option HeldQueue) → slot_value b.queues.pool q ≡ o → Ok u ≡ live_reply o → IsScheduler (record b { queues = queues })
    by_found None dead f = absurd (cc)
    by_found (Some v) live f = deleted-scheduler b queues q v k none live ok

-- a create that may have been refused
pub create-scheduler : (b : SchedulerTable) (queues : QueueTable) (x : Queue) (r : Result QueueHandle MtapiStatus) → IsScheduler b
    → x.priority < b.settings.priorities → CreatesQueue b.queues x r queues → IsScheduler (record b { queues = queues })
create-scheduler b queues x (Ok q) k rank c = created-scheduler b queues q.0 x k c.2 c.3 rank
create-scheduler b queues x (Err ErrQueueExists) k rank c = subst (λ (z : QueueTable). IsScheduler (record b { queues = z })) (sym c.1) k
create-scheduler b queues x (Err ErrQueueLimit) k rank c = subst (λ (z : QueueTable). IsScheduler (record b { queues = z })) (sym c.2) k
create-scheduler b queues x (Err _) k rank c = absurd c

-- the queue of these facts
pub queue-found : (o : Option HeldQueue) (f : QueueFacts) → Some f ≡ option_map facts_of o → (x : HeldQueue) × (o ≡ Some x) × (f.job ≡ x.queue.job)
queue-found o f e1 = grind (arith, nat_tests)

pub job-found : (o : Option Action) (j : ℕ) → Ok j ≡ job_of o → (x : Action) × (o ≡ Some x) × (x.job ≡ j)
job-found o j e1 = grind (arith, nat_tests)

-- an action that isn't live doesn't change
pub unchanged : (p : Slots Action) (h : ℕ) (f : Action → Action) (c : MtapiStatus) → Err c ≡ job_of (slot_value p h) → changed p h f ≡ p
unchanged p h f c e1 = grind (arith, nat_tests)
