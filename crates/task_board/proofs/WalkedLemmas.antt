-- What the lists of walks have, and that tasks end alike along two lists which have the same of those that pass.
use Rattle.task_board.proofs.Names.{nat_tests, ◌≡◌, ◌≢◌, ℕ, Bool, true, false, List, [], ◌∷◌, length, Option, Some, None, refl, sym, ◌∙◌, ap, subst, arith, ◌==◌, ◌&&◌, ◌%◌, is_some, if◌then◌else◌, false≢true, TaskEnd, holds, Slots, slot_value, has_handle, Task, Ended, with_state, HeldQueue, tasks_of, TaskTable, ended_in, Walk, Waiting, OfJob, Queued, Seen, seen_in, ListInOrder, walked, AreIn, is_walked, SchedulerTable, IsScheduler, records_of, ended_next, ended_each, and_parts}
use Rattle.task_board.proofs.MarkLemmas.{same-number, number-same, named-is}
use Rattle.task_board.proofs.MappedLemmas.{value-mapped}
use Rattle.task_board.proofs.KeyedLemmas.{has-self, has-later, not-twice, same-order}
use Rattle.task_board.proofs.MoveLemmas.{slot-value, slot-without}

-- the list of a walk
abbrev pub list_of : Walk → SchedulerTable → List ℕ
list_of walk b = walked walk b.waiting b.queues.pool

-- it has the tasks that it is to have
pub walk-are : (b : SchedulerTable) (walk : Walk) → IsScheduler b
    → AreIn (is_walked b.settings.actions walk (records_of b.queues.pool)) (seen_in b.tasks.pool) (list_of walk b)
walk-are b Waiting k = grind (arith, nat_tests, k.waiting_are.listed, k.waiting_are.waits, k.waiting_are.ordered)
walk-are b (OfJob job) k = grind (arith, nat_tests, k.by_job.count, k.by_job.each (job % length b.waiting.by_job), b.waiting.by_job, k.by_job.some)
walk-are b (Queued q) k = by_found (slot_value b.queues.pool q.0) refl
  where
    live : Bool
    live = is_some (slot_value (records_of b.queues.pool) q.0)

    is_live : live ≡ is_some (slot_value b.queues.pool q.0)
    is_live = grind (arith, nat_tests, value-mapped (λ (x : HeldQueue). x.queue) b.queues.pool q.0)

    by_found : (o : Option HeldQueue) → slot_value b.queues.pool q.0 ≡ o
        → AreIn (λ s. live && holds (λ j. j == q.0) s.queue) (seen_in b.tasks.pool) (tasks_of (slot_value b.queues.pool q.0))
    by_found None e = subst (λ (z : Option HeldQueue). AreIn (λ s. live && holds (λ j. j == q.0) s.queue) (seen_in b.tasks.pool) (tasks_of z)) (sym e) (record {
      listed = λ h s f m. absurd (false≢true (sym (is_live ∙ ap is_some e) ∙ (and_parts live _ m).0));
      is_seen = λ h f. absurd (false≢true f);
      ordered = tt;
    })
    by_found (Some x) e = subst (λ (z : Option HeldQueue). AreIn (λ s. live && holds (λ j. j == q.0) s.queue) (seen_in b.tasks.pool) (tasks_of z)) (sym e)
        (record {
          listed = λ h s f m. k.queued.listed h q.0 s x f (named-is q.0 s.queue (and_parts live _ m).1) e;
          is_seen = λ h f.
              let s = k.queued.names h q.0 x e f in
              (s.0, s.1, (λ i. (is_live ∙ ap is_some e) i && holds (λ j. j == q.0) (s.2 i)) ∙ number-same q.0 q.0 refl);
          ordered = k.queued.ordered q.0 x e;
        })

-- Those of a list that pass

abbrev chosen : (ℕ → Bool) → List ℕ → List ℕ
chosen f [] = []
chosen f (h ∷ hs) = if f h then h ∷ chosen f hs else chosen f hs

chosen-from : (f : ℕ → Bool) (k : ℕ) (hs : List ℕ) → has_handle k (chosen f hs) ≡ true → (has_handle k hs ≡ true) × (f k ≡ true)
chosen-from f k [] e = absurd (false≢true e)
chosen-from f k (h ∷ hs) e = grind (arith, nat_tests, chosen-from f k hs, same-number h k, has-later k h hs)

chosen-has : (f : ℕ → Bool) (k : ℕ) (hs : List ℕ) → has_handle k hs ≡ true → f k ≡ true → has_handle k (chosen f hs) ≡ true
chosen-has f k [] e p = e
chosen-has f k (h ∷ hs) e p = grind (arith, nat_tests, chosen-has f k hs)

order-chosen : (at : ℕ → Option Seen) (f : ℕ → Bool) (hs : List ℕ) → ListInOrder at hs → ListInOrder at (chosen f hs)
order-chosen at f [] o = tt
order-chosen at f (h ∷ hs) o =
    let front = λ (k : ℕ) (s u : Seen) (e : has_handle k (chosen f hs) ≡ true). o.0 k s u (chosen-from f k hs e).0 in
    grind (arith, nat_tests, order-chosen at f hs o.1)

-- Ends along a list

-- the tasks once each of these has ended, one after the other
abbrev ended_all : TaskEnd → List ℕ → TaskTable → TaskTable
ended_all e [] q = q
ended_all e (h ∷ hs) q = ended_all e hs (ended_next e h q)

-- an end changes no other task
ended-others : (p : Slots Task) (h k n : ℕ) (e : TaskEnd) → k ≢ h → slot_value (ended_in p h e n (slot_value p h)) k ≡ slot_value p k
ended-others p h k n e d = by_found (slot_value p h) refl
  where
    by_found : (o : Option Task) → slot_value p h ≡ o → slot_value (ended_in p h e n o) k ≡ slot_value p k
    by_found None g = refl
    by_found (Some t) g =
        let gone = (slot-without p h t g).others k d in
        let over = (slot-value p h t (with_state (Ended e n) t) g).others k d in
        grind (arith, nat_tests)

-- each handle stands in the list once
abbrev AreOnce : List ℕ → Type 0
AreOnce [] = Unit {0}
AreOnce (h ∷ hs) = (has_handle h hs ≡ true → ⊥) × AreOnce hs

once : (at : ℕ → Option Seen) (hs : List ℕ) → ((h : ℕ) → has_handle h hs ≡ true → (s : Seen) × (at h ≡ Some s)) → ListInOrder at hs → AreOnce hs
once at [] live o = tt
once at (h ∷ hs) live o =
    let s = live h (has-self h hs) in
    (not-twice (λ s. s.start) at h s.0 hs s.1 o, once at hs (λ k e. live k (has-later k h hs e)) o.1)

-- those that pass end, and no others
each-chosen : (p : Task → Bool) (e : TaskEnd) (f : ℕ → Bool) (hs : List ℕ) (q : TaskTable) → AreOnce hs
    → ((h : ℕ) → has_handle h hs ≡ true → holds p (slot_value q.pool h) ≡ f h) → ended_each p e hs q ≡ ended_all e (chosen f hs) q
each-chosen p e f [] q one same = refl
each-chosen p e f (h ∷ hs) q one same =
    ap (λ (b : Bool). ended_each p e hs (if b then ended_next e h q else q)) (same h (has-self h hs))
    ∙ by_test (f h) (λ r k. each-chosen p e f hs r one.1 k)
  where
    by_test : (b : Bool) → ((r : TaskTable) → ((k : ℕ) → has_handle k hs ≡ true → holds p (slot_value r.pool k) ≡ f k)
        → ended_each p e hs r ≡ ended_all e (chosen f hs) r)
        → ended_each p e hs (if b then ended_next e h q else q) ≡ ended_all e (if b then h ∷ chosen f hs else chosen f hs) q
    by_test true rest = rest (ended_next e h q)
        (λ k g. ap (holds p) (ended-others q.pool h k q.ends e (λ z. one.0 (ap (λ (j : ℕ). has_handle j hs) (sym z) ∙ g))) ∙ same k (has-later k h hs g))
    by_test false rest = rest q (λ k g. same k (has-later k h hs g))

-- two lists in the order of starts that have the same of the tasks that pass
pub ends-same : (m n : Seen → Bool) (p r : Task → Bool) (e : TaskEnd) (q : TaskTable) (xs ys : List ℕ) → AreIn m (seen_in q.pool) xs
    → AreIn n (seen_in q.pool) ys → ((h : ℕ) (t : Task) → slot_value q.pool h ≡ Some t → has_handle h xs ≡ true → p t ≡ true
    → (has_handle h ys ≡ true) × (r t ≡ true))
    → ((h : ℕ) (t : Task) → slot_value q.pool h ≡ Some t → has_handle h ys ≡ true → r t ≡ true → (has_handle h xs ≡ true) × (p t ≡ true))
    → ended_each p e xs q ≡ ended_each r e ys q
ends-same m n p r e q xs ys a b there back =
    each-chosen p e f xs q (once (seen_in q.pool) xs on a.ordered) (λ h g. refl)
    ∙ ap (λ (hs : List ℕ). ended_all e hs q)
    (same-order (λ s. s.start) (seen_in q.pool) (chosen f xs) (chosen j ys) (λ h g. on h (chosen-from f h xs g).0)
    (order-chosen (seen_in q.pool) f xs a.ordered) (order-chosen (seen_in q.pool) j ys b.ordered) to from)
    ∙ sym (each-chosen r e j ys q (once (seen_in q.pool) ys off b.ordered) (λ h g. refl))
  where
    f : ℕ → Bool
    f h = holds p (slot_value q.pool h)

    j : ℕ → Bool
    j h = holds r (slot_value q.pool h)

    on : (h : ℕ) → has_handle h xs ≡ true → (s : Seen) × (seen_in q.pool h ≡ Some s)
    on h g = let s = a.is_seen h g in (s.0, s.1)

    off : (h : ℕ) → has_handle h ys ≡ true → (s : Seen) × (seen_in q.pool h ≡ Some s)
    off h g = let s = b.is_seen h g in (s.0, s.1)

    -- the task that passes
    passing : (z : Task → Bool) (o : Option Task) → holds z o ≡ true → (t : Task) × (o ≡ Some t) × (z t ≡ true)
    passing z None g = absurd (false≢true g)
    passing z (Some t) g = (t, refl, g)

    to : (h : ℕ) → has_handle h (chosen f xs) ≡ true → has_handle h (chosen j ys) ≡ true
    to h g =
        let c = chosen-from f h xs g in
        let t = passing p (slot_value q.pool h) c.1 in
        let d = there h t.0 t.1 c.0 t.2 in
        chosen-has j h ys d.0 (ap (holds r) t.1 ∙ d.1)

    from : (h : ℕ) → has_handle h (chosen j ys) ≡ true → has_handle h (chosen f xs) ≡ true
    from h g =
        let c = chosen-from j h ys g in
        let t = passing r (slot_value q.pool h) c.1 in
        let d = back h t.0 t.1 c.0 t.2 in
        chosen-has f h xs d.0 (ap (holds p) t.1 ∙ d.1)
