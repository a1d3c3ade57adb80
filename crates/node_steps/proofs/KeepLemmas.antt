-- What a scheduler keeps is what the machine's state says.
use Rattle.node_steps.proofs.Names.{nat_tests, ◌≡◌, ◌↔◌, ℕ, zero, suc, ◌^◌, ◌<◌, Bool, true, List, [], ◌∷◌, Option, Some, None, slice_get, refl, sym, ◌∙◌, ap, subst, arith, ◌&&◌, ◌==◌, map, holds, TaskHandle, TaskEnd, Slot, slot_of, slot_value, used_at, live_of, live_object, same_tests, list_at, has_handle, Task, end_of, is_unstarted, is_unended, runs_on, Ending, is_member, is_unended_member, endings, is_unended_in, HeldQueue, Members, RisesBy, membership, members_seen, start_in, ends_numbered, ending_of, endings_of, Seen, seen, seen_in, ListInOrder, begins_in, SchedulerTable, IsScheduler, running_on, some_same, seen-as, unstarted-seen, seen-live, takes-from, takes-to, has-self, or-right, order-index, Member, member-from, ended-so, unended-so, can_take, PoolNode, Lists, Live, state_of, ListsByStart, Keeps, and_from, and_parts}
use Rattle.std.proofs.lemmas.Option.{slice_get_within}
use Rattle.handle_pool.proofs.WalkLemmas.{used_at-live, live-used_at}
use Rattle.linked_places.proofs.NextLemmas.{index-has}
use Rattle.ready_index.specs.Marks.{mark_at, is_for_at}
use Rattle.task_board.proofs.MarkLemmas.{same-number, number-same}
use Rattle.task_board.proofs.RunningLemmas.{runs-seen, self}
use Rattle.task_board.proofs.MemberLemmas.{end-tells}
use Rattle.node_steps.proofs.Moves.{found}
use Rattle.node_steps.proofs.StartSteps.{false≢true}
use Rattle.node_steps.proofs.PickSteps.{takes_if, takeable}
use Rattle.node_steps.proofs.QueueLemmas.{in-list, of-list}
use Rattle.node_steps.proofs.GroupLists.{endings-are}

-- the slot of a handle that stands at a place
used-slot : (o : Option (Slot Task)) (place h : ℕ) (t : Task) → place < 2 ^ 32 → used_at place o ≡ Some (h, t) → slot_of h ≡ place
used-slot o place h t e1 e2 = grind (arith, nat_tests)

-- a place with something below the greatest
within-place : (slots : List (Slot Task)) (place h : ℕ) (t : Task) → used_at place (slice_get slots place) ≡ Some (h, t)
    → (x : Slot Task) × (slice_get slots place ≡ Some x)
within-place slots place h t e1 = grind (arith, nat_tests)

-- The members of groups

-- the numbers rise along the list
rises-index : (key : ℕ → Option ℕ) (hs : List ℕ) (i j h k a b : ℕ) → RisesBy key hs → i < j → slice_get hs i ≡ Some h → slice_get hs j ≡ Some k → key h ≡ Some a
    → key k ≡ Some b → a < b
rises-index key [] i j h k a b o less e f c d = absurd (cc)
rises-index key (x ∷ xs) zero zero h k a b o less e f c d = absurd (omega arith)
rises-index key (x ∷ xs) zero (suc j) h k a b o less e f c d = o.0 k a b (index-has k j xs f) (ap key (some_same e) ∙ c) d
rises-index key (x ∷ xs) (suc i) zero h k a b o less e f c d = absurd (omega arith)
rises-index key (x ∷ xs) (suc i) (suc j) h k a b o less e f c d = rises-index key xs i j h k a b o.1 (omega arith) e f c d

unended-number : (g : ℕ) (t : Task) → is_member g t ≡ true → is_unended t ≡ true → start_in g (membership (Some t)) ≡ Some t.start
unended-number g t e1 e2 = grind (arith, nat_tests)

member-number : (g : ℕ) (t : Task) (a : ℕ) → start_in g (membership (Some t)) ≡ Some a → a ≡ t.start
member-number g t a e1 = grind (arith, nat_tests)

unended-at : (b : SchedulerTable) (g h : ℕ) (m : Members) → IsScheduler b → slot_value b.groups.pool g ≡ Some m → has_handle h m.unended ≡ true
    → Member b.tasks.pool g h None
unended-at b g h m e1 e2 e3 = grind (arith, nat_tests)

-- the tasks of the ends are those of the list
ended-at : (b : SchedulerTable) (g h : ℕ) (m : Members) → IsScheduler b → slot_value b.groups.pool g ≡ Some m → has_handle h m.ended ≡ true
    → (e : TaskEnd × ℕ) × (ends_numbered (slot_value b.tasks.pool h) ≡ Some e)
ended-at b g h m k live e =
    let a = (k.members.ended g m live).has_key h e in
    let x = end-tells g a.0 (members_seen b.tasks.pool h) a.1 in
    let y = member-from b.tasks.pool g h x.e x.is x.group in
    let z = ended-so y.t.state a.0 (y.end ∙ x.end) in
    ((z.e, a.0), ap ends_numbered y.live ∙ ap end_of z.is)

names-back : (at : ℕ → Option Task) (hs : List ℕ) → ((h : ℕ) → has_handle h hs ≡ true → (e : TaskEnd × ℕ) × (ends_numbered (at h) ≡ Some e))
    → map (λ (e : Ending). e.task) (endings_of at hs) ≡ hs
names-back at [] all = refl
names-back at (h ∷ hs) all =
    let e = all h (has-self h hs) in
    (λ i. map (λ (x : Ending). x.task) (ending_of h (e.1 i) (endings_of at hs)))
    ∙ ap (λ (l : List ℕ). h ∷ l) (names-back at hs (λ k f. all k (or-right (h == k) _ f)))

module _ (n : PoolNode) (l : Lists) (v : Live n l) (k : IsScheduler n.scheduler) where
  marks_are : (w p place : ℕ) → w < n.scheduler.settings.workers
      → is_for_at w p (mark_at n.scheduler.ready.marks place)
      ≡ holds (λ e. can_take (state_of n l) w e.1 && (p == e.1.priority)) (used_at place (slice_get n.scheduler.tasks.pool.slots place))
  marks_are w p place less = same_tests _ _ there back
    where
      there : is_for_at w p (mark_at n.scheduler.ready.marks place) ≡ true
          → holds (λ e. can_take (state_of n l) w e.1 && (p == e.1.priority)) (used_at place (slice_get n.scheduler.tasks.pool.slots place)) ≡ true
      there e =
          let s = k.marked.sound w p place e in
          let t = seen-live n.scheduler.tasks.pool s.0 s.1 s.3 in
          let used = subst (λ (q : ℕ). used_at q (slice_get n.scheduler.tasks.pool.slots q)
          ≡ Some (s.0, t.0)) s.2 (used_at-live n.scheduler.tasks.pool s.0 t.0 t.1) in
          ap (λ (o : Option (ℕ × Task)). holds (λ e. can_take (state_of n l) w e.1 && (p == e.1.priority)) o) used
          ∙ and_from _ _ (takes_if n l w v k less s.0 t.0 t.1 (takes-from n.scheduler.actions (begins_in n.scheduler.queues.pool s.0) w t.0 s.1 t.2 s.5))
          (number-same p t.0.priority (sym s.4 ∙ (seen-as t.0 t.0.state s.1 t.2).priority))

      back : holds (λ e. can_take (state_of n l) w e.1 && (p == e.1.priority)) (used_at place (slice_get n.scheduler.tasks.pool.slots place)) ≡ true
          → is_for_at w p (mark_at n.scheduler.ready.marks place) ≡ true
      back e = by_used (used_at place (slice_get n.scheduler.tasks.pool.slots place)) refl e
        where
          by_used : (o : Option (ℕ × Task)) → used_at place (slice_get n.scheduler.tasks.pool.slots place) ≡ o
              → holds (λ e. can_take (state_of n l) w e.1 && (p == e.1.priority)) o ≡ true → is_for_at w p (mark_at n.scheduler.ready.marks place) ≡ true
          by_used None is f = absurd (false≢true f)
          by_used (Some (h, t)) is f =
              let x = within-place n.scheduler.tasks.pool.slots place h t is in
              let small : place < 2 ^ 32 = let a = slice_get_within n.scheduler.tasks.pool.slots place x.0 x.1 in omega (arith, v.tasks.stands.few, a) in
              let live = live-used_at n.scheduler.tasks.pool place h t small is in
              let slot = used-slot (slice_get n.scheduler.tasks.pool.slots place) place h t small is in
              let s = takes-to n.scheduler.actions (begins_in n.scheduler.queues.pool h) w t (takeable n l w v k less h t live (and_parts _ _ f).0) in
              let rank : s.s.priority ≡ p = s.priority ∙ sym (same-number p t.priority (and_parts _ _ f).1) in
              subst (λ (q : ℕ). is_for_at w q (mark_at n.scheduler.ready.marks place) ≡ true) rank
              (subst (λ (q : ℕ). is_for_at w s.s.priority (mark_at n.scheduler.ready.marks q)
              ≡ true) slot (k.marked.whole w h s.s (ap seen live ∙ s.is) s.takes))

  running_are : (w : ℕ) (t : TaskHandle) → (running_on n.scheduler.running w ≡ Some t)
      ↔ ((x : Task) × (live_object l.tasks t.0 ≡ Some x) × (runs_on w x ≡ true))
  running_are w t = (
    λ e.
        let s = k.running_are.runs w t e in
        let x = seen-live n.scheduler.tasks.pool t.0 s.0 s.1 in
        (x.0, found _ _ n.scheduler.tasks.pool l.tasks t.0 (Some x.0) v.tasks x.1, (seen-as x.0 x.0.state s.0 x.2).on w s.2 ∙ self w),
    λ x.
        let g = v.tasks.stands.found t.0 ∙ x.1 in
        let s = runs-seen x.0 w x.0.state refl x.2 in
        k.running_are.found t.0 w s.0 (ap seen g ∙ s.1) s.2,
  )

  -- a list is as the machine says it, where it is so for the pool
  lists : (p : Task → Bool) (hs : List ℕ) → ((h : ℕ) → has_handle h hs ≡ true → (t : Task) × (slot_value n.scheduler.tasks.pool h ≡ Some t) × (p t ≡ true))
      → ((h : ℕ) (t : Task) → slot_value n.scheduler.tasks.pool h ≡ Some t → p t ≡ true → has_handle h hs ≡ true)
      → ((i j h m : ℕ) (x y : Task) → i < j → slice_get hs i ≡ Some h → slice_get hs j ≡ Some m → slot_value n.scheduler.tasks.pool h ≡ Some x
      → slot_value n.scheduler.tasks.pool m ≡ Some y → x.start < y.start) → ListsByStart (state_of n l) p hs
  lists p hs e1 e2 e3 = grind (arith, nat_tests)

  -- tasks that were started one after the other, as the scheduler sees them
  seen-order : (hs : List ℕ) → ((h : ℕ) → has_handle h hs ≡ true → (s : Seen) × (seen_in n.scheduler.tasks.pool h ≡ Some s))
      → ListInOrder (seen_in n.scheduler.tasks.pool) hs → (i j h m : ℕ) (x y : Task) → i < j → slice_get hs i ≡ Some h → slice_get hs j ≡ Some m
      → slot_value n.scheduler.tasks.pool h ≡ Some x → slot_value n.scheduler.tasks.pool m ≡ Some y → x.start < y.start
  seen-order hs sees ordered i j h m x y less e f a b =
      let s = sees h (index-has h i hs e) in
      let u = sees m (index-has m j hs f) in
      let first = (seen-as x x.state s.0 (sym (ap seen a) ∙ s.1)).start in
      let last = (seen-as y y.state u.0 (sym (ap seen b) ∙ u.1)).start in
      omega (arith, order-index (seen_in n.scheduler.tasks.pool) hs i j h m s.0 u.0 ordered less e f s.1 u.1, first, last)

  waiting_are : ListsByStart (state_of n l) is_unstarted (list_at n.scheduler.waiting.lists 0)
  waiting_are =
      lists is_unstarted hs
      (λ h e.
      let s = k.waiting_are.waits h e in
      let x = seen-live n.scheduler.tasks.pool h s.0 s.1 in
      (x.0, x.1, (seen-as x.0 x.0.state s.0 x.2).unstarted s.2))
      (λ h t g u. let s = unstarted-seen t t.state u in k.waiting_are.listed h s.0 (ap seen g ∙ s.1) s.2)
      (seen-order hs (λ h e. let s = k.waiting_are.waits h e in (s.0, s.1)) k.waiting_are.ordered)
    where
      hs : List ℕ
      hs = list_at n.scheduler.waiting.lists 0

  queues_are : (q : ℕ) (x : HeldQueue) → slot_value n.scheduler.queues.pool q ≡ Some x → ListsByStart (state_of n l) (is_unended_in q) x.tasks
  queues_are q x live = grind (arith, nat_tests, lists, of-list, in-list, seen-order)

  members_are : (g : ℕ) (m : Members) → slot_value n.scheduler.groups.pool g ≡ Some m → ListsByStart (state_of n l) (is_unended_member g) m.unended
  members_are g m live =
      lists (is_unended_member g) m.unended
      (λ h e. let x = unended-at n.scheduler g h m k live e in (x.t, x.live, and_from _ _ x.member (unended-so x.t.state x.end)))
      (λ h t a u.
      let is = unended-number g t (and_parts (is_member g t) _ u).0 (and_parts (is_member g t) _ u).1 in
      (k.members.unended g m live).listed h t.start (ap (λ (o : Option Task). start_in g (membership o)) a ∙ is))
      (λ i j h u x y less e f a b.
      let has = λ (z : ℕ) (w : Task) (at : has_handle z m.unended ≡ true) (here : slot_value n.scheduler.tasks.pool z ≡ Some w). member-number g w
      ((k.members.unended g m live).has_key z at).0 (ap (λ (o : Option Task). start_in g (membership o)) (sym here)
      ∙ ((k.members.unended g m live).has_key z at).1) in
      let first = has h x (index-has h i m.unended e) a in
      let last = has u y (index-has u j m.unended f) b in
      let less-key = rises-index (λ z. start_in g (members_seen n.scheduler.tasks.pool z)) m.unended i j h u _ _ (k.members.unended g m live).rises less e f
      ((k.members.unended g m live).has_key h (index-has h i m.unended e)).1 ((k.members.unended g m live).has_key u (index-has u j m.unended f)).1 in
      omega (arith, less-key, first, last))

  ended_are : (g : ℕ) (m : Members) → slot_value n.scheduler.groups.pool g ≡ Some m → m.ended ≡ map (λ (e : Ending). e.task) (endings g (live_of l.tasks))
  ended_are g m live =
      sym (ap (map (λ (e : Ending). e.task)) (endings-are n.scheduler l.tasks g m k v.tasks.stands live)
      ∙ names-back (slot_value n.scheduler.tasks.pool) m.ended (λ h e. ended-at n.scheduler g h m k live e))

  pub keeps-scheduler : Keeps (state_of n l) n.scheduler
  keeps-scheduler = record { marks = marks_are; running = running_are; waiting = waiting_are; queues = queues_are; members = members_are; ended = ended_are }
