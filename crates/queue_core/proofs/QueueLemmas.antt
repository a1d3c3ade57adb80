-- What each move of the slots and the lists is for the queues that they are seen as.
use Rattle.std.proofs.Common.{◌≡◌, ◌≢◌, ℕ, ◌<◌, ◌≤◌, true, List, [], length, replicate, Option, Some, None, Ok, Err, refl, sym, ap, subst, ◌∙◌, slice_get, eqb-true}
use Rattle.std.specs.Option.{option_map}
use Rattle.std.proofs.lemmas.Bool.{eq-eqb, ne_eqb}
use Rattle.mtapi_values.specs.declared.statuses.MtapiStatus.{MtapiStatus}
use Rattle.mtapi_values.specs.declared.statuses.MtapiStatus.TheVariants.{ErrQueueExists, ErrQueueLimit}
use Rattle.mtapi_values.specs.Conditions.{first}
use Rattle.handle_pool.specs.Slots.{Slot, Slots, slot_of, free_slot, slot_value, IsFull, Inserts, with_value, without, changed}
use Rattle.handle_pool.specs.Walks.{SomeLive, NoneLive, HasLive, OneEach}
use Rattle.handle_pool.proofs.WalkLemmas.{slot_of-live}
use Rattle.linked_places.specs.Lists.{HandleLists, list_at, has_handle, NowhereAt, with_list}
use Rattle.linked_places.specs.Beside.{slot_beside, pool_beside}
use Rattle.linked_places.proofs.BesideLemmas.{slice_get-beside, get-beside, list-beside, with_value-beside, without-beside, beside-fresh, IsFull-beside, Inserts-beside, AreBeside-new, AreBeside-insert, AreBeside-value, AreBeside-list, AreBeside-remove, NowhereAt-beside}
use Rattle.mtapi_objects.specs.Queues.{Queue, put_refusals}
use Rattle.queue_core.specs.Held.{HeldQueue, QueueTable, held, HasQueueId, CreatesQueue, Finds, put_reply, NoTaskAt, IsUnendedTask, tasks_of, table_of, AreQueues, AreRetiredEmpty}

-- an unended task is one of a live queue
pub record Unended (pool : Slots Queue) (tasks : HandleLists) (q task : ℕ) : Type 0 where
  pub queue : Queue
  pub live : slot_value pool q ≡ Some queue
  pub has : has_handle task (list_at tasks.lists (slot_of q)) ≡ true

module _ (pool : Slots Queue) (tasks : HandleLists) (q : ℕ) where
  pub get-live : (old : QueueTable) (v : Queue) → table_of pool tasks ≡ old → slot_value pool q ≡ Some v
      → slot_value old.pool q ≡ Some (held v (list_at tasks.lists (slot_of q)))
  get-live old v is live = let P : QueueTable → Type 0 = λ o. slot_value o.pool q ≡ Some (held v (list_at tasks.lists (slot_of q))) in
      subst P is (get-beside held pool tasks.lists q ∙ rw live refl)

  pub get-dead : (old : QueueTable) → table_of pool tasks ≡ old → slot_value pool q ≡ None → slot_value old.pool q ≡ None
  get-dead old is dead = let P : QueueTable → Type 0 = λ o. slot_value o.pool q ≡ None in subst P is (get-beside held pool tasks.lists q ∙ rw dead refl)

  -- a call on a queue that isn't live changes nothing
  pub dead_unchanged : (old : QueueTable) (f : HeldQueue → HeldQueue) → table_of pool tasks ≡ old → slot_value pool q ≡ None
      → table_of pool tasks ≡ record old { pool = changed old.pool q f }
  dead_unchanged old f is dead = is ∙ rw (get-dead old is dead) refl

  pub unended_from : (old : QueueTable) (task : ℕ) → table_of pool tasks ≡ old → IsUnendedTask task (slot_value old.pool q) → Unended pool tasks q task
  unended_from old task is unended = by_value (slot_value pool q) refl
    where
      by_value : (o : Option Queue) → slot_value pool q ≡ o → Unended pool tasks q task
      by_value (Some v) live = record { queue = v; live = live; has = rw (get-live old v is live) at unended }
      by_value None dead = absurd (rw (get-dead old is dead) at unended)

  -- the list of the queue, where it has a task
  pub tasks-listed : (old : QueueTable) (i task : ℕ) → table_of pool tasks ≡ old → slice_get (tasks_of (slot_value old.pool q)) i ≡ Some task
      → tasks_of (slot_value old.pool q) ≡ list_at tasks.lists (slot_of q)
  tasks-listed old i task is at = by_value (slot_value pool q) refl
    where
      none : (o : Option HeldQueue) → o ≡ None → slice_get (tasks_of o) i ≡ Some task → ⊥
      none None e f = cc
      none (Some h) e f = cc

      by_value : (o : Option Queue) → slot_value pool q ≡ o → tasks_of (slot_value old.pool q) ≡ list_at tasks.lists (slot_of q)
      by_value (Some v) live = ap tasks_of (get-live old v is live)
      by_value None dead = absurd (none (slot_value old.pool q) (get-dead old is dead) at)

  module _ (are : AreQueues pool tasks) (v : Queue) (live : slot_value pool q ≡ Some v) where
    pub within : slot_of q < length tasks.lists
    within = rw are.beside.size (slot_of-live pool q v live)

    -- the queues once this one has changed
    pub view_changed : (old : QueueTable) (p : Slots Queue) (lists : HandleLists) (f : HeldQueue → HeldQueue) → table_of pool tasks ≡ old
        → pool_beside held p lists.lists ≡ with_value (pool_beside held pool tasks.lists) q (f (held v (list_at tasks.lists (slot_of q))))
        → lists.places ≡ tasks.places → table_of p lists ≡ record old { pool = changed old.pool q f }
    view_changed old p lists f is moved places =
        let found : slot_value (pool_beside held pool tasks.lists) q ≡ Some (held v (list_at tasks.lists (slot_of q))) =
        get-beside held pool tasks.lists q ∙ rw live refl in
        let is_changed : changed (pool_beside held pool tasks.lists) q f
        ≡ with_value (pool_beside held pool tasks.lists) q (f (held v (list_at tasks.lists (slot_of q)))) = rw found refl in
        let P : QueueTable → Type 0 = λ o. table_of p lists ≡ record o { pool = changed o.pool q f } in
        subst P is (rw (moved, places, is_changed) refl)

    pub AreQueues-list : (list : List ℕ) → AreQueues pool (with_list tasks (slot_of q) list)
    AreQueues-list list = record { beside = AreBeside-list pool tasks.lists q v list live are.beside; few = are.few }

    pub AreQueues-value : (w : Queue) → AreQueues (with_value pool q w) tasks
    AreQueues-value w = record { beside = AreBeside-value pool tasks.lists q w are.beside; few = are.few }

    pub AreQueues-delete : AreQueues (without pool q) (with_list tasks (slot_of q) [])
    AreQueues-delete = record { beside = AreBeside-remove pool tasks.lists q v live are.beside; few = are.few }

    pub list-changed : (list : List ℕ) → pool_beside held pool (with_list tasks (slot_of q) list).lists
        ≡ with_value (pool_beside held pool tasks.lists) q (held v list)
    list-changed list = list-beside held pool tasks.lists q v list are.beside live

    pub value-changed : (w : Queue) → pool_beside held (with_value pool q w) tasks.lists
        ≡ with_value (pool_beside held pool tasks.lists) q (held w (list_at tasks.lists (slot_of q)))
    value-changed w = with_value-beside held pool tasks.lists q w

    pub view_deleted : (old : QueueTable) → table_of pool tasks ≡ old
        → table_of (without pool q) (with_list tasks (slot_of q) []) ≡ record old { pool = without old.pool q }
    view_deleted old is =
        let P : QueueTable → Type 0 = λ o. table_of (without pool q) (with_list tasks (slot_of q) []) ≡ record o { pool = without o.pool q } in
        subst P is (rw (without-beside held pool tasks.lists q v are.beside live) refl)

module _ (pool : Slots Queue) (tasks : HandleLists) where
  -- a live queue with its tasks is one of the slots
  pub unheld : (old : QueueTable) (k : ℕ) (h : HeldQueue) → table_of pool tasks ≡ old → slot_value old.pool k ≡ Some h
      → (v : Queue) × (slot_value pool k ≡ Some v) × (v ≡ h.queue)
  unheld old k h is found = by_value (slot_value pool k) refl
    where
      by_value : (o : Option Queue) → slot_value pool k ≡ o → (v : Queue) × (slot_value pool k ≡ Some v) × (v ≡ h.queue)
      by_value None dead = let gone = get-dead pool tasks k old is dead in absurd (cc (gone, found))
      by_value (Some v) live =
          let there = get-live pool tasks k old v is live in
          let same : held v (list_at tasks.lists (slot_of k)) ≡ h = cc (there, found) in
          (v, live, ap (λ (x : HeldQueue). x.queue) same)

  -- no live queue of the slots has the id, so none has it with its tasks; and a live one with it is one with its tasks
  pub none_held : (old : QueueTable) (id : ℕ) → table_of pool tasks ≡ old → NoneLive (slot_value pool) (λ (v : Queue). v.id ≡ id)
      → NoneLive (slot_value old.pool) (HasQueueId id)
  none_held old id is none q h found has = let v = unheld old q h is found in none q v.0 v.1 (ap (λ (x : Queue). x.id) v.2 ∙ eqb-true h.queue.id id has)

  pub some_held : (old : QueueTable) (id : ℕ) → table_of pool tasks ≡ old → SomeLive (slot_value pool) (λ (v : Queue). v.id ≡ id)
      → SomeLive (slot_value old.pool) (HasQueueId id)
  some_held old id is (q, v, live, same) = (q, held v (list_at tasks.lists (slot_of q)), get-live pool tasks q old v is live, eq-eqb v.id id same)

  pub found_held : (old : QueueTable) (id q : ℕ) → OneEach (λ (x : Queue). x.id) pool → table_of pool tasks ≡ old → HasLive pool q (λ (v : Queue). v.id ≡ id)
      → Finds old.pool id (Ok (record { 0 = q }))
  found_held old id q each is found = (
    (held found.0 (list_at tasks.lists (slot_of q)), get-live pool tasks q old found.0 is found.1, eq-eqb found.0.id id found.2),
    λ k h there has.
        let v = unheld old k h is there in
        each.only k q v.0 found.0 v.1 found.1 (ap (λ (x : Queue). x.id) v.2 ∙ eqb-true h.queue.id id has ∙ sym found.2),
  )

  -- a retired slot holds no queue
  pub retired_empty : (old : QueueTable) → AreQueues pool tasks → table_of pool tasks ≡ old → AreRetiredEmpty old.pool
  retired_empty old are is = subst (λ (t : QueueTable). AreRetiredEmpty t.pool) is retired
    where
      by_slot : (place : ℕ) (o : Option (Slot Queue)) → slice_get pool.slots place ≡ o → (s : Slot HeldQueue)
          → option_map (λ t. slot_beside held t (list_at tasks.lists place)) o ≡ Some s → s.retired ≡ true → s.value ≡ None
      by_slot place None there s e retired = absurd (cc)
      by_slot place (Some t) there s e retired =
          let same : slot_beside held t (list_at tasks.lists place) ≡ s = cc in
          let none = are.beside.retired place t there (ap (λ (x : Slot HeldQueue). x.retired) same ∙ retired) in
          sym (ap (λ (x : Slot HeldQueue). x.value) same) ∙ ap (λ (o : Option Queue). option_map (λ v. held v (list_at tasks.lists place)) o) none

      retired : AreRetiredEmpty (table_of pool tasks).pool
      retired place s there gone = by_slot place (slice_get pool.slots place) refl s (sym (slice_get-beside held pool.slots tasks.lists place) ∙ there) gone

  pub IsFull-held : IsFull (pool_beside held pool tasks.lists) → IsFull pool
  IsFull-held full = (IsFull-beside held pool tasks.lists).0 full

  pub full_held : (old : QueueTable) → table_of pool tasks ≡ old → IsFull pool → IsFull old.pool
  full_held old is full = let P : QueueTable → Type 0 = λ o. IsFull o.pool in subst P is ((IsFull-beside held pool tasks.lists).1 full)

  pub room_held : (old : QueueTable) → table_of pool tasks ≡ old → (IsFull pool → ⊥) → IsFull old.pool → ⊥
  room_held old is room full = let P : QueueTable → Type 0 = λ o. IsFull o.pool in room (IsFull-held (subst P (sym is) full))

  pub Inserts-held : (old : QueueTable) (new : Slots Queue) (q : ℕ) (v : Queue) → table_of pool tasks ≡ old → Inserts pool new q v → AreQueues pool tasks
      → Inserts old.pool (pool_beside held new tasks.lists) q (held v [])
  Inserts-held old new q v is inserts are =
      let P : QueueTable → Type 0 = λ o. Inserts o.pool (pool_beside held new tasks.lists) q (held v []) in
      subst P is (Inserts-beside held pool new tasks.lists q v are.beside inserts)

  -- what an insert into the slots is for a create
  pub created : (old : QueueTable) (new : Slots Queue) (q : ℕ) (v : Queue) → AreQueues pool tasks → table_of pool tasks ≡ old
      → NoneLive (slot_value pool) (λ (x : Queue). x.id ≡ v.id) → (IsFull pool → ⊥) → Inserts pool new q v
      → CreatesQueue old v (Ok (record { 0 = q })) (table_of new tasks)
  created old new q v are is none room inserts =
      (none_held old v.id is none, room_held old is room, Inserts-held old new q v is inserts are, ap (λ (t : QueueTable). t.tasks) is)

  unchanged : (old : QueueTable) (new : Slots Queue) → table_of pool tasks ≡ old → new ≡ pool → table_of new tasks ≡ old
  unchanged old new is same = ap (λ p. table_of p tasks) same ∙ is

  pub not_created_taken : (old : QueueTable) (new : Slots Queue) (v : Queue) → table_of pool tasks ≡ old
      → SomeLive (slot_value pool) (λ (x : Queue). x.id ≡ v.id) → new ≡ pool → CreatesQueue old v (Err ErrQueueExists) (table_of new tasks)
  not_created_taken old new v is some same = (some_held old v.id is some, unchanged old new is same)

  pub not_created_full : (old : QueueTable) (new : Slots Queue) (v : Queue) → table_of pool tasks ≡ old
      → NoneLive (slot_value pool) (λ (x : Queue). x.id ≡ v.id) × IsFull pool → new ≡ pool → CreatesQueue old v (Err ErrQueueLimit) (table_of new tasks)
  not_created_full old new v is (none, full) same = (none_held old v.id is none, full_held old is full, unchanged old new is same)

  -- a slot that no task has stands in no list
  pub nowhere : (old : QueueTable) (slot : ℕ) → table_of pool tasks ≡ old → AreQueues pool tasks → NoTaskAt slot old.pool → NowhereAt slot tasks.lists
  nowhere old slot is are none =
      NowhereAt-beside pool tasks.lists slot are.beside (λ h v live. none h (held v (list_at tasks.lists (slot_of h))) (get-live pool tasks h old v is live))

  pub AreQueues-new : (count places : ℕ) → count ≤ 65536 → places ≤ 65536 → pool.slots ≡ replicate count (free_slot 1) → tasks.lists ≡ replicate count []
      → tasks.places ≡ places → AreQueues pool tasks
  AreQueues-new count places few few_places slots lists is =
      record { beside = AreBeside-new pool.slots tasks.lists count few slots lists; few = rw is few_places }

  pub slots-new : (count : ℕ) → pool.slots ≡ replicate count (free_slot 1) → tasks.lists ≡ replicate count []
      → (pool_beside held pool tasks.lists).slots ≡ replicate count (free_slot 1)
  slots-new count slots lists = rw (slots, lists) (beside-fresh held count)

-- what a put answers, by what is refused
pub put_refused : (h : HeldQueue) (status : MtapiStatus) → first (put_refusals h.queue) ≡ Some status → put_reply (Some h) ≡ Err status
put_refused h status refused = rw refused refl

pub put_full : (h : HeldQueue) → first (put_refusals h.queue) ≡ None → length h.tasks ≡ h.queue.limit → put_reply (Some h) ≡ Err ErrQueueLimit
put_full h none full = rw (none, eq-eqb (length h.tasks) h.queue.limit full) refl

pub put_ok : (h : HeldQueue) → first (put_refusals h.queue) ≡ None → length h.tasks ≢ h.queue.limit → put_reply (Some h) ≡ Ok tt
put_ok h none room = rw (none, ne_eqb (length h.tasks) h.queue.limit room) refl
