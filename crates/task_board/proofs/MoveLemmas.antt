-- What is seen after each move of the tasks, and what the move keeps of a scheduler.
use Rattle.task_board.proofs.Names.{ListsBy, ◌≡◌, ◌≢◌, ℕ, zero, suc, ◌<◌, Bool, true, false, cond, List, [], ◌∷◌, ◌++◌, length, length-set, Option, Some, None, set, slice_get, refl, sym, ◌∙◌, ap, subst, inl, inr, arith, ◌||◌, is_some, option_map, cases_eq, nat_tests, get_or-set_same, get_or-set_other, TaskEnd, TaskHandle, first, Slots, slot_of, generation_of, used_slot, slot_after, slot_value, max_of, Inserts, with_value, without, put, changed, get-with_value_same, get-with_value_other, get-insert_same, get-insert_other, get-without_same, get-without_other, list_at, has_handle, without_handle, stands_at, index-has, Mark, mark_at, is_for_at, Action, Task, TaskState, Ended, is_unended, Notes, with_state, with_notes, with_waiter, task_look_refusals, after_asked, waiter_after, TaskTable, ended_in, looked_in, Seen, seen_as, seen, seen_in, ListInOrder, begins_in, AreQueued, AreByJob, SchedulerTable, IsScheduler, IsMarkOf, Marked, AreWaiting, AreRunning, AreRanked, AreStarted, running_on, GroupTable, members_seen, AreMembers, cases_Bool}
use Rattle.task_board.proofs.SeenLemmas.{some_same, seen-live}
pub use Rattle.task_board.proofs.KeyedLemmas.{Put, put-by, put-same, has-self}
use Rattle.task_board.proofs.KeyedLemmas.{lists-push, lists-leave, lists-aside}

-- Sizes

pub max-value : (p : Slots Task) (h : ℕ) (t : Task) → max_of (with_value p h t) ≡ max_of p
max-value p h t = length-set p.slots (slot_of h) (used_slot (generation_of h) t)

pub max-without : (p : Slots Task) (h : ℕ) → max_of (without p h) ≡ max_of p
max-without p h = length-set p.slots (slot_of h) (slot_after p.generations (generation_of h))

pub max-changed : (p : Slots Task) (h : ℕ) (f : Task → Task) → max_of (changed p h f) ≡ max_of p
max-changed p h f = grind (arith, nat_tests, option_map, slot_value, max_of, max-value)

pub max-insert : (p q : Slots Task) (h : ℕ) (t : Task) → Inserts p q h t → max_of q ≡ max_of p
max-insert p q h t i = ap max_of i.now ∙ max-value p h t

pub max-ended : (p : Slots Task) (h : ℕ) (e : TaskEnd) (n : ℕ) (o : Option Task) → max_of (ended_in p h e n o) ≡ max_of p
max-ended p h e n o = grind (arith, nat_tests, max_of, with_value, with_state, max-without, max-value)

pub max-looked : (p : Slots Task) (h who : ℕ) (last : Bool) (o : Option Task) → max_of (looked_in p h who last o) ≡ max_of p
max-looked p h who last None = refl
max-looked p h who last (Some t) = grind (arith, nat_tests, max-value p h (with_notes (with_waiter (waiter_after who last)) t), max-without p h)

-- The value of each handle

module _ {T : Type 0} where
  pub slot-value : (p : Slots T) (h : ℕ) (t u : T) → slot_value p h ≡ Some t → Put (slot_value p) h (Some u) (slot_value (with_value p h u))
  slot-value p h t u g = record { here = get-with_value_same p h t u g; others = λ k d. get-with_value_other p h k t u g d }

  pub slot-without : (p : Slots T) (h : ℕ) (t : T) → slot_value p h ≡ Some t → Put (slot_value p) h None (slot_value (without p h))
  slot-without p h t g = record { here = get-without_same p h t g; others = λ k d. get-without_other p h k t g d }

  pub slot-insert : (p q : Slots T) (h : ℕ) (t : T) → Inserts p q h t → Put (slot_value p) h (Some t) (slot_value q)
  slot-insert p q h t i = record { here = get-insert_same p q h t i; others = λ k d. get-insert_other p q h k t i d }

  pub slot-changed : (p : Slots T) (h : ℕ) (f : T → T) (t : T) → slot_value p h ≡ Some t → Put (slot_value p) h (Some (f t)) (slot_value (changed p h f))
  slot-changed p h f t g = grind (arith, nat_tests, put p h, slot-value p h t (f t) g)

-- What is seen

pub put-value : (p : Slots Task) (h : ℕ) (t u : Task) → slot_value p h ≡ Some t → Put (seen_in p) h (seen (Some u)) (seen_in (with_value p h u))
put-value p h t u g = put-by seen (slot_value p) _ h (Some u) (slot-value p h t u g)

pub put-without : (p : Slots Task) (h : ℕ) (t : Task) → slot_value p h ≡ Some t → Put (seen_in p) h None (seen_in (without p h))
put-without p h t g = put-by seen (slot_value p) _ h None (slot-without p h t g)

pub put-insert : (p q : Slots Task) (h : ℕ) (t : Task) → Inserts p q h t → Put (seen_in p) h (seen (Some t)) (seen_in q)
put-insert p q h t i = put-by seen (slot_value p) (slot_value q) h (Some t) (slot-insert p q h t i)

pub put-ended : (p : Slots Task) (h : ℕ) (e : TaskEnd) (n : ℕ) (t : Task) → slot_value p h ≡ Some t
    → Put (seen_in p) h None (seen_in (ended_in p h e n (Some t)))
put-ended p h e n t g = grind (arith, nat_tests, t.notes.detached, put-without p h t g, put-value p h t (with_state (Ended e n) t) g)

pub put-changed : (p : Slots Task) (h : ℕ) (f : Task → Task) (t : Task) → slot_value p h ≡ Some t
    → Put (seen_in p) h (seen (Some (f t))) (seen_in (changed p h f))
put-changed p h f t g = put-by seen (slot_value p) _ h (Some (f t)) (slot-changed p h f t g)

pub seen-changed : (p : Slots Task) (h : ℕ) (f : Task → Task) → ((t : Task) → seen (Some (f t)) ≡ seen (Some t)) → (k : ℕ)
    → seen_in (changed p h f) k ≡ seen_in p k
seen-changed p h f same k = by_found (slot_value p h) refl
  where
    by_found : (o : Option Task) → slot_value p h ≡ o → seen_in (changed p h f) k ≡ seen_in p k
    by_found None g = ap (λ (o : Option Task). seen_in (put p h (option_map f o)) k) g
    by_found (Some t) g = put-same (seen_in p) (seen_in (changed p h f)) h _ (put-changed p h f t g) (same t ∙ ap seen (sym g)) k

notes-same : (f : Notes → Notes) (t : Task) (x : TaskState) → seen_as (with_notes f t) x ≡ seen_as t x
notes-same f t x = grind (arith, nat_tests)

-- what is noted of a task isn't seen
pub seen-noted : (f : Notes → Notes) (t : Task) → seen (Some (with_notes f t)) ≡ seen (Some t)
seen-noted f t = notes-same f t t.state

pub seen-asked : (w : ℕ) (t : Task) → seen (Some (after_asked w t)) ≡ seen (Some t)
seen-asked w t = grind (arith, nat_tests)

pub over-unseen : (t : Task) (x : TaskState) → t.state ≡ x → is_unended t ≡ false → seen (Some t) ≡ None
over-unseen t x e1 e2 = grind (arith, nat_tests)

pub seen-looked : (p : Slots Task) (h who : ℕ) (last : Bool) (o : Option Task) → slot_value p h ≡ o → (k : ℕ)
    → seen_in (looked_in p h who last o) k ≡ seen_in p k
seen-looked p h who last None g k = refl
seen-looked p h who last (Some t) g k = by_tests (is_some (first (task_look_refusals who t))) (is_unended t) refl
  where
    by_tests : (a b : Bool) → is_unended t ≡ b
        → seen_in (cond a p (cond b (with_value p h (with_notes (with_waiter (waiter_after who last)) t)) (without p h))) k ≡ seen_in p k
    by_tests true b e = refl
    by_tests false true e = put-same (seen_in p) _ h _ (put-value p h t (with_notes (with_waiter (waiter_after who last)) t) g)
        (seen-noted (with_waiter (waiter_after who last)) t ∙ ap seen (sym g)) k
    by_tests false false e = put-same (seen_in p) _ h None (put-without p h t g) (sym (over-unseen t t.state refl e) ∙ ap seen (sym g)) k

-- A move of which nothing is seen, with other groups, and with the same

pub regrouped : (b : SchedulerTable) (q : TaskTable) (groups : GroupTable) → ((k : ℕ) → seen_in q.pool k ≡ seen_in b.tasks.pool k)
    → max_of q.pool ≡ max_of b.tasks.pool → q.starts ≡ b.tasks.starts → groups.tasks ≡ b.groups.tasks
    → AreMembers (members_seen q.pool) (slot_value groups.pool) q.starts q.ends → IsScheduler b → IsScheduler (record b { tasks = q; groups = groups })
regrouped b q groups same max count sizes members k = record {
  members = members;
  task_slots = sizes ∙ k.task_slots ∙ sym max;
  few = k.few;
  workers = k.workers;
  priorities = k.priorities;
  slots = k.slots ∙ sym max;
  places = k.places ∙ sym max;
  lists = k.lists;
  seats = k.seats;
  room = k.room ∙ sym max;
  marked = subst (λ (f : ℕ → Option Seen). Marked b.actions (begins_in b.queues.pool) f b.ready.marks) all k.marked;
  waiting_are = subst (λ (f : ℕ → Option Seen). AreWaiting f (list_at b.waiting.lists 0)) all k.waiting_are;
  by_job = subst (λ (f : ℕ → Option Seen). AreByJob b.settings.actions f b.waiting.by_job) all k.by_job;
  running_are = subst (λ (f : ℕ → Option Seen). AreRunning f b.running) all k.running_are;
  ranked = subst (λ (f : ℕ → Option Seen). AreRanked f b.settings.priorities) all k.ranked;
  started = subst (λ (n : ℕ). AreStarted (seen_in q.pool) n) (sym count) (subst (λ (f : ℕ → Option Seen). AreStarted f b.tasks.starts) all k.started);
  queued = subst (λ (f : ℕ → Option Seen). AreQueued f b.queues.pool b.settings.priorities) all k.queued;
}
  where
    all : seen_in b.tasks.pool ≡ seen_in q.pool
    all = sym (λ i h. same h i)

pub quiet : (b : SchedulerTable) (q : TaskTable) → ((k : ℕ) → seen_in q.pool k ≡ seen_in b.tasks.pool k) → max_of q.pool ≡ max_of b.tasks.pool
    → q.starts ≡ b.tasks.starts → AreMembers (members_seen q.pool) (slot_value b.groups.pool) q.starts q.ends → IsScheduler b
    → IsScheduler (record b { tasks = q })
quiet b q same max count members k = regrouped b q b.groups same max count refl members k

-- One handle a slot

pub live-alone : (p : Slots Task) (h k : ℕ) (t v : Task) → slot_value p h ≡ Some t → slot_value p k ≡ Some v → slot_of k ≡ slot_of h → k ≡ h
live-alone p h k t v e1 e2 e3 = grind (arith, nat_tests)

pub alone : (p : Slots Task) (h k : ℕ) (s u : Seen) → seen_in p h ≡ Some s → seen_in p k ≡ Some u → slot_of k ≡ slot_of h → k ≡ h
alone p h k s u e1 e2 e3 = grind (arith, nat_tests)

-- after the move no other handle of this slot is seen
unfoldable pub Alone : (ℕ → Option Seen) → ℕ → Type 0
Alone after h = (k : ℕ) (s : Seen) → slot_of k ≡ slot_of h → after k ≡ Some s → k ≡ h

pub alone-old : (p : Slots Task) (h : ℕ) (t : Task) (x : Option Seen) (after : ℕ → Option Seen) → slot_value p h ≡ Some t → Put (seen_in p) h x after
    → Alone after h
unfolding Alone
alone-old p h t x after e1 e2 = grind (arith, nat_tests)

pub alone-new : (q : Slots Task) (h : ℕ) (t : Task) → slot_value q h ≡ Some t → Alone (seen_in q) h
unfolding Alone
alone-new q h t g k s e b = let v = seen-live q k s b in live-alone q h k t v.0 g v.1 e

-- What a move keeps

pub mark-here : (marks : List (Option Mark)) (place : ℕ) (m : Option Mark) → place < length marks → mark_at (set marks place m) place ≡ m
mark-here marks place m less = get_or-set_same marks place m None less

pub mark-away : (marks : List (Option Mark)) (place other : ℕ) (m : Option Mark) → other ≢ place → mark_at (set marks place m) other ≡ mark_at marks other
mark-away marks place other m d = get_or-set_other marks place other m None d

-- the move lets no other handle begin, and keeps none from it
unfoldable pub Steady : (ℕ → Option ℕ → Bool) → (ℕ → Option ℕ → Bool) → (ℕ → Option Seen) → ℕ → Type 0
Steady lets now at h = (k : ℕ) (s : Seen) → k ≢ h → at k ≡ Some s → s.on ≡ None → now k s.queue ≡ lets k s.queue

pub marked-put : (actions : Slots Action) (lets now : ℕ → Option ℕ → Bool) (at after : ℕ
    → Option Seen) (h : ℕ) (x : Option Seen) (marks : List (Option Mark)) (m : Option Mark) → Put at h x after → Steady lets now at h → Alone after h
    → slot_of h < length marks → IsMarkOf actions (now h) x m → Marked actions lets at marks → Marked actions now after (set marks (slot_of h) m)
unfolding Alone Steady
marked-put actions lets now at after h x marks m e1 e2 e3 e4 e5 e6 = grind (arith, nat_tests, cases_eq, slot_of, is_for_at, mark-here, mark_at, mark-away)

-- the queues let the same tasks begin
pub marked-steady : (actions : Slots Action) (lets now : ℕ → Option ℕ → Bool) (at : ℕ → Option Seen) (marks : List (Option Mark))
    → ((k : ℕ) (s : Seen) → at k ≡ Some s → s.on ≡ None → now k s.queue ≡ lets k s.queue) → Marked actions lets at marks → Marked actions now at marks
marked-steady actions lets now at marks e1 e2 = grind (arith, nat_tests)

-- the mark of one handle is made anew
pub marked-again : (actions : Slots Action) (lets now : ℕ → Option ℕ → Bool) (at : ℕ → Option Seen) (h : ℕ) (marks : List (Option Mark)) (m : Option Mark)
    → Steady lets now at h → Alone at h → slot_of h < length marks → IsMarkOf actions (now h) (at h) m → Marked actions lets at marks
    → Marked actions now at (set marks (slot_of h) m)
marked-again actions lets now at h marks m steady one less right old = grind (arith, nat_tests, marked-put actions lets now)

pub ranked-put : (at after : ℕ → Option Seen) (h : ℕ) (x : Option Seen) (n : ℕ) → Put at h x after → ((s : Seen) → x ≡ Some s → s.priority < n) → AreRanked at n
    → AreRanked after n
ranked-put at after h x n e1 e2 e3 = grind (arith, nat_tests)

-- the waiting tasks

pub or-right : (a b : Bool) → b ≡ true → (a || b) ≡ true
or-right a b e1 = grind (arith, nat_tests)

-- a place that stands in a list is that of a handle in it
pub stands-handle : (place : ℕ) (hs : List ℕ) → stands_at place hs ≡ true → (k : ℕ) × (has_handle k hs ≡ true) × (slot_of k ≡ place)
stands-handle place [] e = absurd (cc)
stands-handle place (x ∷ hs) e = grind (arith, nat_tests, stands-handle place hs, has-self x hs, or-right)

-- no list of live handles has one at a slot that was free
pub none-stands : (p q : Slots Task) (h : ℕ) (t : Task) (hs : List ℕ) → Inserts p q h t → ((w : ℕ) → has_handle w hs ≡ true → slot_value p w ≡ None → ⊥)
    → stands_at (slot_of h) hs ≡ false
none-stands p q h t hs i live = elim (cases_Bool (stands_at (slot_of h) hs)) [
  | inl on ↦ let w = stands-handle (slot_of h) hs on in absurd (live w.0 w.1 (rw (w.2, i.was_free) (grind (arith, nat_tests))))
  | inr off ↦ off
]

-- the tasks that haven't begun, as a list of what passes
waiting-list : (at : ℕ → Option Seen) (hs : List ℕ) → AreWaiting at hs → ListsBy (λ s. s.start) (λ s. s.on ≡ None) at hs
waiting-list at hs old = record { listed = old.listed; is_seen = old.waits; ordered = old.ordered }

list-waiting : (at : ℕ → Option Seen) (hs : List ℕ) → ListsBy (λ s. s.start) (λ s. s.on ≡ None) at hs → AreWaiting at hs
list-waiting at hs new = record { listed = new.listed; waits = new.is_seen; ordered = new.ordered }

pub waiting-push : (at after : ℕ → Option Seen) (h : ℕ) (s : Seen) (hs : List ℕ) → Put at h (Some s) after → at h ≡ None → s.on ≡ None
    → ((k : ℕ) (u : Seen) → at k ≡ Some u → u.start < s.start) → AreWaiting at hs → AreWaiting after (hs ++ h ∷ [])
waiting-push at after h s hs move none waits less old =
    list-waiting after _ (lists-push (λ s. s.start) (λ s. s.on ≡ None) at after h s hs move none waits less (waiting-list at hs old))

-- the handle leaves the list
pub waiting-leave : (at after : ℕ → Option Seen) (h : ℕ) (x : Option Seen) (hs : List ℕ) → Put at h x after → ((s : Seen) → x ≡ Some s → s.on ≡ None → ⊥)
    → AreWaiting at hs → AreWaiting after (without_handle h hs)
waiting-leave at after h x hs move left old =
    list-waiting after _ (lists-leave (λ s. s.start) (λ s. s.on ≡ None) at after h x hs move left (waiting-list at hs old))

-- a handle that wasn't in the list
pub waiting-same : (at after : ℕ → Option Seen) (h : ℕ) (x : Option Seen) (hs : List ℕ) → Put at h x after → ((s : Seen) → at h ≡ Some s → s.on ≡ None → ⊥)
    → ((s : Seen) → x ≡ Some s → s.on ≡ None → ⊥) → AreWaiting at hs → AreWaiting after hs
waiting-same at after h x hs move was is old =
    list-waiting after _ (lists-aside (λ s. s.start) (λ s. s.on ≡ None) at after h x hs move was is (waiting-list at hs old))

-- the running tasks

seat-here : (r : List (Option TaskHandle)) (w : ℕ) (o : Option TaskHandle) → w < length r → running_on (set r w o) w ≡ o
seat-here r w o less = get_or-set_same r w o None less

seat-away : (r : List (Option TaskHandle)) (w v : ℕ) (o : Option TaskHandle) → v ≢ w → running_on (set r w o) v ≡ running_on r v
seat-away r w v o d = get_or-set_other r w v o None d

none-some : {A : Type 0} (o : Option A) (x : A) → is_some o ≡ false → o ≡ Some x → ⊥
none-some o x e1 e2 = grind (arith, nat_tests)

-- a task begins on a worker that has none
pub running-begin : (at after : ℕ → Option Seen) (h w : ℕ) (s : Seen) (r : List (Option TaskHandle)) → Put at h (Some s) after → s.on ≡ Some w
    → is_some (running_on r w) ≡ false → ((u : Seen) → at h ≡ Some u → u.on ≡ None) → w < length r → AreRunning at r
    → AreRunning after (set r w (Some (record { 0 = h })))
running-begin at after h w s r move on free waited less old = record {
  found = λ k v u e n. grind (arith, nat_tests, seat-here r w, old.found k v u, move.others k, seat-away r w v);
  runs = λ v t e. grind (arith, nat_tests, cases_eq, seat-away, some_same, running_on, seat-here, waited, old.runs v t, move.others t.0);
}

-- the task that runs on a worker ends
pub running-end : (at after : ℕ → Option Seen) (h w : ℕ) (s : Seen) (r : List (Option TaskHandle)) → Put at h None after → at h ≡ Some s → s.on ≡ Some w
    → w < length r → AreRunning at r → AreRunning after (set r w None)
running-end at after h w s r e1 e2 e3 e4 e5 = grind (arith, nat_tests, cases_eq, seat-away, some_same, running_on, seat-here)

-- a task that doesn't run
pub running-same : (at after : ℕ → Option Seen) (h : ℕ) (x : Option Seen) (r : List (Option TaskHandle)) → Put at h x after
    → ((s : Seen) (w : ℕ) → at h ≡ Some s → s.on ≡ Some w → ⊥) → ((s : Seen) (w : ℕ) → x ≡ Some s → s.on ≡ Some w → ⊥) → AreRunning at r → AreRunning after r
running-same at after h x r e1 e2 e3 e4 = grind (arith, nat_tests)

-- of two tasks of a list in order the one in front was started first
pub order-index : (at : ℕ → Option Seen) (hs : List ℕ) (i j h k : ℕ) (s u : Seen) → ListInOrder at hs → i < j → slice_get hs i ≡ Some h
    → slice_get hs j ≡ Some k
    → at h ≡ Some s → at k ≡ Some u → s.start < u.start
order-index at [] i j h k s u o less e f a b = absurd (cc)
order-index at (x ∷ xs) zero zero h k s u o less e f a b = absurd (omega arith)
order-index at (x ∷ xs) zero (suc j) h k s u o less e f a b = o.0 k s u (index-has k j xs f) (ap at (some_same e) ∙ a) b
order-index at (x ∷ xs) (suc i) zero h k s u o less e f a b = absurd (omega arith)
order-index at (x ∷ xs) (suc i) (suc j) h k s u o less e f a b = order-index at xs i j h k s u o.1 (omega arith) e f a b
