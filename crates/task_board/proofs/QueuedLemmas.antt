-- What each move of the tasks and of the queues keeps of the lists of the queues.
use Rattle.task_board.proofs.Names.{nat_tests, ListsBy, ◌≡◌, ◌≢◌, ℕ, ◌<◌, Bool, true, false, List, [], ◌∷◌, ◌++◌, Option, Some, None, refl, sym, ◌∙◌, ap, inl, inr, arith, slice_get, false≢true, cases_eq, holds, Slots, slot_value, Inserts, without, changed, has_handle, without_handle, HeldQueue, held, with_task, without_task, with_opened, Queue, Seen, begins_in, WasGiven, AreQueued, none-some}
use Rattle.queue_ready.specs.Ready.{is_first, may_begin}
use Rattle.task_board.proofs.SeenLemmas.{some_same}
use Rattle.task_board.proofs.KeyedLemmas.{Put, rises-as, rises-same, lists-push, lists-leave}
use Rattle.task_board.proofs.MoveLemmas.{slot-changed, slot-insert, slot-without}
use Rattle.task_board.proofs.GivenLemmas.{given-live, given-changed, given-insert, given-new, given-without}

-- One task moves, and no queue's list changes

-- what is seen of the task names the queue as its list says
pub record NamesAs (at : ℕ → Option Seen) (h : ℕ) (x : Option Seen) (q : ℕ) (y : HeldQueue) : Type 0 where
  pub there : has_handle h y.tasks ≡ true
      → (s : Seen) × (x ≡ Some s) × (s.queue ≡ Some q) × (s.job ≡ y.queue.job) × ((u : Seen) → at h ≡ Some u → u.start ≡ s.start)
  pub back : (s : Seen) → x ≡ Some s → s.queue ≡ Some q → has_handle h y.tasks ≡ true

pub queued-put : (at after : ℕ → Option Seen) (h : ℕ) (x : Option Seen) (queues : Slots HeldQueue) (n : ℕ) → Put at h x after
    → ((q : ℕ) (y : HeldQueue) → slot_value queues q ≡ Some y → NamesAs at h x q y)
    → ((q : ℕ) (s : Seen) → x ≡ Some s → s.on ≡ None → s.queue ≡ Some q → (y : HeldQueue) × (slot_value queues q ≡ Some y))
    → ((q : ℕ) (s : Seen) → x ≡ Some s → s.queue ≡ Some q → WasGiven queues q) → AreQueued at queues n → AreQueued after queues n
queued-put at after h x queues n move same live given old = record {
  listed = λ k q s y e f g. grind (arith, nat_tests, move.others k, (same q y g).back s, old.listed k q s y);
  names = λ k q y g e. grind (arith, nat_tests, move.others k, (same q y g).there, old.names k q y g e);
  ordered = λ q y g. rises-as (λ s. s.start) at after y.tasks
      (λ k u e is. grind (arith, nat_tests, move.others k, (same q y g).there, old.names k q y g e)) (old.ordered q y g);
  live = λ k q s e o f. grind (arith, nat_tests, move.others k, live q s, old.live k q s);
  given = λ k q s e f. grind (arith, nat_tests, move.others k, given q s, old.given k q s);
  ranked = old.ranked;
}

-- a task of no queue starts
pub queued-apart : (at after : ℕ → Option Seen) (h : ℕ) (s : Seen) (queues : Slots HeldQueue) (n : ℕ) → Put at h (Some s) after → at h ≡ None → s.queue ≡ None
    → AreQueued at queues n → AreQueued after queues n
queued-apart at after h s queues n move none apart old =
    queued-put at after h (Some s) queues n move
    (λ q y g. record {
      there = λ e. let u = old.names h q y g e in absurd (none-some _ (sym none ∙ u.1));
      back = λ u e f. absurd (none-some _ (sym apart ∙ ap (λ (z : Seen). z.queue) (some_same e) ∙ f));
    })
    (λ q u e o f. absurd (none-some _ (sym apart ∙ ap (λ (z : Seen). z.queue) (some_same e) ∙ f)))
    (λ q u e f. absurd (none-some _ (sym apart ∙ ap (λ (z : Seen). z.queue) (some_same e) ∙ f))) old

-- a task begins to run
pub queued-run : (at after : ℕ → Option Seen) (h w : ℕ) (was s : Seen) (queues : Slots HeldQueue) (n : ℕ) → Put at h (Some s) after → at h ≡ Some was
    → was.queue ≡ s.queue → was.job ≡ s.job → was.start ≡ s.start → s.on ≡ Some w → AreQueued at queues n → AreQueued after queues n
queued-run at after h w was s queues n move seen queue job start on old =
    queued-put at after h (Some s) queues n move
    (λ q y g. record {
      there = grind (arith, nat_tests, old.names h q y g);
      back = λ u e f. old.listed h q was y seen (queue ∙ ap (λ (z : Seen). z.queue) (some_same e) ∙ f) g;
    })
    (λ q u e o f. absurd (none-some _ (sym o ∙ ap (λ (z : Seen). z.on) (sym (some_same e)) ∙ on)))
    (λ q u e f. old.given h q was seen (queue ∙ ap (λ (z : Seen). z.queue) (some_same e) ∙ f)) old

-- a task ends that is in no live queue
pub queued-out : (at after : ℕ → Option Seen) (h : ℕ) (queues : Slots HeldQueue) (n : ℕ) → Put at h None after
    → ((q : ℕ) (y : HeldQueue) → slot_value queues q ≡ Some y → has_handle h y.tasks ≡ true → ⊥) → AreQueued at queues n → AreQueued after queues n
queued-out at after h queues n move out old =
    queued-put at after h None queues n move
    (λ q y g. record { there = λ e. absurd (out q y g e); back = λ u e f. absurd (none-some _ e) })
    (λ q u e o f. absurd (none-some _ e)) (λ q u e f. absurd (none-some _ e)) old

-- One task moves, and the list of its queue with it

-- the list of a live queue
list-in : (at : ℕ → Option Seen) (q : ℕ) (old : Slots HeldQueue) (n : ℕ) (v : HeldQueue) → AreQueued at old n → slot_value old q ≡ Some v
    → ListsBy (λ s. s.start) (λ s. s.queue ≡ Some q) at v.tasks
list-in at q old n v e1 e2 = grind (arith, nat_tests)

of-job-in : (at : ℕ → Option Seen) (q : ℕ) (s : Seen) (old : Slots HeldQueue) (n : ℕ) (v : HeldQueue) (j : ℕ) → AreQueued at old n → slot_value old q ≡ Some v
    → at j ≡ Some s → s.queue ≡ Some q → s.job ≡ v.queue.job
of-job-in at q s old n v j k was e f = grind (arith, nat_tests, k.names j q v was (k.listed j q s v e f was), k.listed j q s v e f was)

-- the lists of all other queues, and what they say
module _ (at after : ℕ → Option Seen) (h q : ℕ) (x : Option Seen) (old new : Slots HeldQueue) (n : ℕ) (v y : HeldQueue) (move : Put at h x after)
    (turn : Put (slot_value old) q (Some y) (slot_value new)) (was : slot_value old q ≡ Some v) (same : y.queue ≡ v.queue) (k : AreQueued at old n) where
  -- the queue of another handle
  pub record Lists : Type 0 where
    pub list : ListsBy (λ s. s.start) (λ s. s.queue ≡ Some q) after y.tasks
    pub job : (s : Seen) → x ≡ Some s → s.job ≡ v.queue.job
    pub apart : (p : ℕ) (z : HeldQueue) → p ≢ q → slot_value old p ≡ Some z → has_handle h z.tasks ≡ false
    pub only : (s : Seen) (p : ℕ) → x ≡ Some s → s.queue ≡ Some p → p ≡ q
    pub given : (p : ℕ) → WasGiven old p → WasGiven new p

  pub queued-turn : Lists → AreQueued after new n
  queued-turn l = record {
    listed = λ j p s z e f g. grind (arith, nat_tests, l.list.listed j s e, l.only s p, k.listed j p s z, move.others j, turn.others p);
    names = λ j p z g e. elim (cases_eq p q) [
      | inl here ↦
          let is : y ≡ z = some_same (sym turn.here ∙ ap (slot_value new) (sym here) ∙ g) in
          let s = l.list.is_seen j (ap (λ (u : HeldQueue). has_handle j u.tasks) is ∙ e) in
          let job : s.0.job ≡ v.queue.job = elim (cases_eq j h) [
            | inl too ↦ l.job s.0 (sym move.here ∙ ap after (sym too) ∙ s.1)
            | inr other ↦ of-job-in at q s.0 old n v j k was (sym (move.others j other) ∙ s.1) s.2
          ] in
          (s.0, s.1, s.2 ∙ ap Some (sym here), job ∙ ap (λ (u : Queue). u.job) (sym same) ∙ ap (λ (u : HeldQueue). u.queue.job) is)
      | inr away ↦
          let there = sym (turn.others p away) ∙ g in
          elim (cases_eq j h) [
            | inl too ↦ absurd (false≢true (sym (l.apart p z away there) ∙ ap (λ (i : ℕ). has_handle i z.tasks) (sym too) ∙ e))
            | inr other ↦ let s = k.names j p z there e in (s.0, move.others j other ∙ s.1, s.2, s.3)
          ]
    ];
    ordered = λ p z g. grind (arith, nat_tests, l.list.ordered, turn.others p, rises-same, l.apart p z, k.ordered p z);
    live = λ j p s e o f. grind (arith, nat_tests, l.only s p, turn.others p, k.live j p s, move.others j);
    given = λ j p s e f. grind (arith, nat_tests, l.only s p, given-live new q y turn.here, l.given p, k.given j p s, move.others j);
    ranked = λ p z g. grind (arith, nat_tests, k.ranked q v was, k.ranked p z, turn.others p);
  }

-- a new task is put into a queue
pub queued-enqueue : (at after : ℕ → Option Seen) (h q : ℕ) (s : Seen) (old : Slots HeldQueue) (n : ℕ) (v : HeldQueue) → Put at h (Some s) after → at h ≡ None
    → slot_value old q ≡ Some v → s.queue ≡ Some q → s.job ≡ v.queue.job → ((j : ℕ) (u : Seen) → at j ≡ Some u → u.start < s.start) → AreQueued at old n
    → AreQueued after (changed old q (with_task h)) n
queued-enqueue at after h q s old n v move none was queue job last k =
    queued-turn at after h q (Some s) old (changed old q (with_task h)) n v (with_task h v) move (slot-changed old q (with_task h) v was) was refl k
    (record {
      list = lists-push (λ s. s.start) (λ s. s.queue ≡ Some q) at after h s v.tasks move none queue last (list-in at q old n v k was);
      job = λ u e. ap (λ (z : Seen). z.job) (sym (some_same e)) ∙ job;
      apart = λ p z away there. grind (arith, nat_tests);
      only = λ u p e f. some_same (sym f ∙ ap (λ (z : Seen). z.queue) (sym (some_same e)) ∙ queue);
      given = λ p g. given-changed old q p (with_task h) v was g;
    })
  where
    apart : (p : ℕ) (z : HeldQueue) → slot_value old p ≡ Some z → has_handle h z.tasks ≡ true → ⊥
    apart p z there e = let u = k.names h p z there e in absurd (none-some _ (sym none ∙ u.1))

-- an ended task leaves its queue
pub queued-leave : (at after : ℕ → Option Seen) (h q : ℕ) (s : Seen) (old : Slots HeldQueue) (n : ℕ) (v : HeldQueue) → Put at h None after → at h ≡ Some s
    → slot_value old q ≡ Some v → s.queue ≡ Some q → AreQueued at old n → AreQueued after (changed old q (without_task h)) n
queued-leave at after h q s old n v move seen was queue k =
    queued-turn at after h q None old (changed old q (without_task h)) n v (without_task h v) move (slot-changed old q (without_task h) v was) was refl k
    (record {
      list = lists-leave (λ s. s.start) (λ s. s.queue ≡ Some q) at after h None v.tasks move (λ u e f. absurd (none-some _ e)) (list-in at q old n v k was);
      job = λ u e. absurd (none-some _ e);
      apart = λ p z away there. grind (arith, nat_tests, k.names h p z there);
      only = λ u p e f. absurd (none-some _ e);
      given = λ p g. given-changed old q p (without_task h) v was g;
    })

-- A queue changes, and no task does

pub queued-with : (at : ℕ → Option Seen) (q : ℕ) (old : Slots HeldQueue) (n : ℕ) (v : HeldQueue) (on : Bool) → slot_value old q ≡ Some v → AreQueued at old n
    → AreQueued at (changed old q (with_opened on)) n
queued-with at q old n v on was k = record {
  listed = λ j p s z e f g. grind (arith, nat_tests, turn.here, turn.others p, k.listed j q s v e, k.listed j p s z e f);
  names = λ j p z g e. grind (arith, nat_tests, turn.here, turn.others p, k.names j q v was, k.names j p z);
  ordered = λ p z g. grind (arith, nat_tests, turn.here, turn.others p, k.ordered q v was, k.ordered p z);
  live = λ j p s e o f. grind (arith, nat_tests, turn.here, turn.others p, k.live j p s e o f);
  given = λ j p s e f. given-changed old q p (with_opened on) v was (k.given j p s e f);
  ranked = λ p z g. grind (arith, nat_tests, turn.here, turn.others p, k.ranked q v was, k.ranked p z);
}
  where
    turn : Put (slot_value old) q (Some (with_opened on v)) (slot_value (changed old q (with_opened on)))
    turn = slot-changed old q (with_opened on) v was

pub queued-new : (at : ℕ → Option Seen) (q : ℕ) (old new : Slots HeldQueue) (n : ℕ) (r : Queue) → Inserts old new q (held r []) → r.priority < n
    → AreQueued at old n → AreQueued at new n
queued-new at q old new n r i rank k = record {
  listed = λ j p s z e f g. grind (arith, nat_tests, given-new old new q (held r []) i, k.given j p s e f, k.listed j p s z e f, turn.others p);
  names = λ j p z g e. grind (arith, nat_tests, turn.here, turn.others p, k.names j p z);
  ordered = λ p z g. grind (arith, nat_tests, turn.here, turn.others p, k.ordered p z);
  live = λ j p s e o f. grind (arith, nat_tests, turn.others p, k.live j p s e o f);
  given = λ j p s e f. given-insert old new q p (held r []) i (k.given j p s e f);
  ranked = λ p z g. grind (arith, nat_tests, turn.here, turn.others p, k.ranked p z);
}
  where
    turn : Put (slot_value old) q (Some (held r [])) (slot_value new)
    turn = slot-insert old new q (held r []) i

-- a queue goes whose tasks that haven't ended all run
pub queued-gone : (at : ℕ → Option Seen) (q : ℕ) (old : Slots HeldQueue) (n : ℕ) (v : HeldQueue) → slot_value old q ≡ Some v
    → ((h : ℕ) (s : Seen) → at h ≡ Some s → s.on ≡ None → s.queue ≡ Some q → ⊥) → AreQueued at old n → AreQueued at (without old q) n
queued-gone at q old n v was none k = record {
  listed = λ j p s z e f g. grind (arith, nat_tests, turn.here, turn.others p, k.listed j p s z e f);
  names = λ j p z g e. k.names j p z (there p z g) e;
  ordered = λ p z g. k.ordered p z (there p z g);
  live = λ j p s e o f. grind (arith, nat_tests, turn.others p, k.live j p s e o f);
  given = λ j p s e f. given-without old q p v was (k.given j p s e f);
  ranked = λ p z g. k.ranked p z (there p z g);
}
  where
    turn : Put (slot_value old) q None (slot_value (without old q))
    turn = slot-without old q v was

    there : (p : ℕ) (z : HeldQueue) → slot_value (without old q) p ≡ Some z → slot_value old p ≡ Some z
    there p z g = grind (arith, nat_tests, turn.here, turn.others p)

-- What a queue lets begin

-- a queue that doesn't change lets the same tasks begin
pub begins-same : (old new : Slots HeldQueue) (h q : ℕ) → slot_value new q ≡ slot_value old q → begins_in new h (Some q) ≡ begins_in old h (Some q)
begins-same old new h q e = ap (λ (o : Option HeldQueue). holds (λ (x : HeldQueue). may_begin h x.queue x.tasks) o) e

-- the list of the queue has changed, but it has the same first task, or another one than this before and after
begins-list : (old new : Slots HeldQueue) (h q : ℕ) (v y : HeldQueue) → slot_value old q ≡ Some v → slot_value new q ≡ Some y → y.queue ≡ v.queue
    → is_first h y.tasks ≡ is_first h v.tasks → begins_in new h (Some q) ≡ begins_in old h (Some q)
begins-list old new h q v y e1 e2 e3 e4 = grind (arith, nat_tests)

first-push : (h k : ℕ) (hs : List ℕ) → k ≢ h → is_first k (hs ++ h ∷ []) ≡ is_first k hs
first-push h k [] d = grind (arith, nat_tests)
first-push h k (a ∷ hs) d = refl

first-leave : (h k : ℕ) (hs : List ℕ) → k ≢ h → ((j : ℕ) → slice_get (without_handle h hs) 0 ≡ Some j → k ≢ j)
    → is_first k (without_handle h hs) ≡ is_first k hs
first-leave h k [] d e = refl
first-leave h k (a ∷ hs) d e = grind (arith, nat_tests)

pub begins-enqueue : (old : Slots HeldQueue) (h q k p : ℕ) (v : HeldQueue) → slot_value old q ≡ Some v → k ≢ h
    → begins_in (changed old q (with_task h)) k (Some p) ≡ begins_in old k (Some p)
begins-enqueue old h q k p v was d = elim (cases_eq p q) [
  | inl here ↦ rw here (begins-list old (changed old q (with_task h)) k q v (with_task h v) was
      (slot-changed old q (with_task h) v was).here refl (first-push h k v.tasks d))
  | inr away ↦ begins-same old (changed old q (with_task h)) k p ((slot-changed old q (with_task h) v was).others p away)
]

pub begins-leave : (old : Slots HeldQueue) (h q k p : ℕ) (v : HeldQueue) → slot_value old q ≡ Some v → k ≢ h
    → ((j : ℕ) → slice_get (without_handle h v.tasks) 0 ≡ Some j → k ≢ j) → begins_in (changed old q (without_task h)) k (Some p) ≡ begins_in old k (Some p)
begins-leave old h q k p v was d e = elim (cases_eq p q) [
  | inl here ↦ rw here (begins-list old (changed old q (without_task h)) k q v (without_task h v) was
      (slot-changed old q (without_task h) v was).here refl (first-leave h k v.tasks d e))
  | inr away ↦ begins-same old (changed old q (without_task h)) k p ((slot-changed old q (without_task h) v was).others p away)
]
