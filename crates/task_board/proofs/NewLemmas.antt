-- A new scheduler.
use Rattle.task_board.proofs.Names.{nat_tests, arith, subst, ◌≡◌, ℕ, zero, suc, ◌≤◌, List, [], length, replicate, Option, Some, None, refl, sym, ◌∙◌, ap, slice_index_or, slice_get, false≢true, length-replicate, TaskHandle, Slot, Slots, slot_of, generation_of, free_slot, value_at, slot_value, get-fresh, list_at, has_handle, ReadyMarks, mark_at, Task, Members, seen, seen_in, HeldQueue, ListInOrder, AreIn, waits_at, SchedulerTable, IsScheduler, running_on, membership, members_seen}

abbrev nones : {X : Type 0} → ℕ → List (Option X)
nones n = replicate n None

none-at : {X : Type 0} (n i : ℕ) → ◌≡◌ {A = Option X} (slice_index_or (nones n) i None) None
none-at zero i = refl
none-at (suc n) zero = refl
none-at (suc n) (suc i) = none-at n i

unseen : (p : Slots Task) (max h : ℕ) → p.slots ≡ replicate max (free_slot 1) → seen_in p h ≡ None
unseen p max h e = ap (λ (l : List (Slot Task)). seen (value_at (slice_get l (slot_of h)) (generation_of h))) e
    ∙ ap seen (get-fresh max (slot_of h) (generation_of h))

no-some : {A : Type 0} (o : Option A) (x : A) → o ≡ None → o ≡ Some x → ⊥
no-some o x e1 e2 = grind (arith, nat_tests)

pub new-scheduler : (b : SchedulerTable) (max many : ℕ) → b.settings.workers ≤ 16
    → b.ready ≡ record { workers = b.settings.workers; priorities = b.settings.priorities; marks = replicate max None }
    → b.tasks.pool.slots ≡ replicate max (free_slot 1) → b.waiting.places ≡ max → b.waiting.lists ≡ replicate 1 [] → 1 ≤ b.settings.actions
    → b.waiting.by_job ≡ replicate b.settings.actions [] → b.running ≡ replicate 25 None → b.queues.tasks ≡ max
    → b.queues.pool.slots ≡ replicate many (free_slot 1) → (count : ℕ) → b.groups.pool.slots ≡ replicate count (free_slot 1) → b.groups.tasks ≡ max
    → IsScheduler b
new-scheduler b max many few ready slots places lists some by_job running room queues count groups sizes = record {
  members = grind (arith, nat_tests, no_member, no_group);
  task_slots = sizes ∙ sym all;
  few = few;
  workers = ap (λ (r : ReadyMarks). r.workers) ready;
  priorities = ap (λ (r : ReadyMarks). r.priorities) ready;
  slots = ap (λ (r : ReadyMarks). length r.marks) ready ∙ length-replicate max None ∙ sym all;
  places = places ∙ sym all;
  lists = ap length lists;
  seats = ap length running;
  room = room ∙ sym all;
  marked = grind (arith, nat_tests, no_mark, none);
  waiting_are = record {
    listed = λ h s e n. absurd (no-some _ s (none h) e);
    waits = λ h e. absurd (false≢true (sym (ap (λ (l : List (List ℕ)). has_handle h (list_at l 0)) lists) ∙ e));
    ordered = subst (λ (l : List (List ℕ)). ListInOrder (seen_in b.tasks.pool) (list_at l 0)) (sym lists) tt;
  };
  by_job = record {
    some = subst (λ (n : ℕ). 1 ≤ n) (sym (ap length by_job ∙ length-replicate b.settings.actions [])) some;
    count = ap length by_job ∙ length-replicate b.settings.actions [];
    each = λ r less. subst (λ (l : List ℕ). AreIn (waits_at (length b.waiting.by_job) r) (seen_in b.tasks.pool) l)
        (sym (ap (λ (l : List (List ℕ)). list_at l r) by_job ∙ empty b.settings.actions r)) (record {
          listed = λ h s e n. absurd (no-some _ s (none h) e);
          is_seen = λ h e. absurd (false≢true e);
          ordered = tt;
        });
  };
  running_are = grind (arith, nat_tests, no_running, none);
  ranked = record { known = λ h s e. absurd (no-some _ s (none h) e) };
  started = record { before = λ h s e. absurd (no-some _ s (none h) e) };
  queued = grind (arith, nat_tests, no_queue, none);
}
  where
    all : length b.tasks.pool.slots ≡ max
    all = ap length slots ∙ length-replicate max (free_slot 1)

    no_queue : (q : ℕ) → slot_value b.queues.pool q ≡ None
    no_queue q = ap (λ (l : List (Slot HeldQueue)). value_at (slice_get l (slot_of q)) (generation_of q)) queues ∙ get-fresh many (slot_of q) (generation_of q)

    none : (h : ℕ) → seen_in b.tasks.pool h ≡ None
    none h = unseen b.tasks.pool max h slots

    no_member : (h : ℕ) → members_seen b.tasks.pool h ≡ None
    no_member h = ap (λ (l : List (Slot Task)). membership (value_at (slice_get l (slot_of h)) (generation_of h))) slots
        ∙ ap membership (get-fresh max (slot_of h) (generation_of h))

    no_group : (g : ℕ) → slot_value b.groups.pool g ≡ None
    no_group g = ap (λ (l : List (Slot Members)). value_at (slice_get l (slot_of g)) (generation_of g)) groups ∙ get-fresh count (slot_of g) (generation_of g)

    no_mark : (place : ℕ) → mark_at b.ready.marks place ≡ None
    no_mark place = ap (λ (r : ReadyMarks). mark_at r.marks place) ready ∙ none-at max place

    no_running : (w : ℕ) → running_on b.running w ≡ None
    no_running w = ap (λ (l : List (Option TaskHandle)). running_on l w) running ∙ none-at 25 w

    empty : (n r : ℕ) → list_at (replicate n []) r ≡ []
    empty zero r = refl
    empty (suc n) zero = refl
    empty (suc n) (suc r) = empty n r
