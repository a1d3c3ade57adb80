-- What is seen of a task, and which tasks a worker may take.
use Rattle.task_board.proofs.Names.{arith, nat_tests, ◌≡◌, ℕ, Bool, true, Option, Some, None, refl, sym, ◌∙◌, ap, subst, false≢true, holds, ◌==◌, ◌<◌, IfSome, Mark, AreRanked, Slots, slot_value, Action, Task, TaskState, Scheduled, Running, Ended, scheduled, runner, is_unstarted, Takeable, Seen, seen_as, seen, seen_in}
use Rattle.task_board.specs.Seen.{MayTake}

pub some_same : {A : Type 0} {a b : A} → Some a ≡ Some b → a ≡ b
some_same h = cc

-- what is seen of a task is its own
pub record SeenAs (t : Task) (x : TaskState) (s : Seen) : Type 0 where
  pub job : s.job ≡ t.job
  pub priority : s.priority ≡ t.priority
  pub cores : s.cores ≡ t.cores
  pub queue : s.queue ≡ t.queue
  pub start : s.start ≡ t.start
  pub unstarted : s.on ≡ None → scheduled x ≡ true
  pub on : (w : ℕ) → s.on ≡ Some w → holds (λ r. r.0 == w) (runner x) ≡ (w == w)

pub seen-as : (t : Task) (x : TaskState) (s : Seen) → seen_as t x ≡ Some s → SeenAs t x s
seen-as t x s e1 = grind (arith, nat_tests)

-- a scheduled task is seen
pub unstarted-seen : (t : Task) (x : TaskState) → scheduled x ≡ true → (s : Seen) × (seen_as t x ≡ Some s) × (s.on ≡ None)
unstarted-seen t Scheduled e = (_, refl, refl)
unstarted-seen t (Running w k) e = absurd (false≢true e)
unstarted-seen t (Ended y n) e = absurd (false≢true e)

-- what is seen is live
pub seen-live : (p : Slots Task) (h : ℕ) (s : Seen) → seen_in p h ≡ Some s → (t : Task) × (slot_value p h ≡ Some t) × (seen (Some t) ≡ Some s)
seen-live p h s e1 = grind (arith, nat_tests)

-- a worker may take what it sees exactly where it may take the task
pub takes-from : (actions : Slots Action) (lets : Option ℕ → Bool) (w : ℕ) (t : Task) (s : Seen) → seen (Some t) ≡ Some s → MayTake actions lets w s
    → Takeable actions lets w t
takes-from actions lets w t s e1 e2 = grind (arith, nat_tests)

pub record TakenAs (actions : Slots Action) (lets : Option ℕ → Bool) (w : ℕ) (t : Task) : Type 0 where
  pub s : Seen
  pub is : seen (Some t) ≡ Some s
  pub takes : MayTake actions lets w s
  pub priority : s.priority ≡ t.priority

pub takes-to : (actions : Slots Action) (lets : Option ℕ → Bool) (w : ℕ) (t : Task) → Takeable actions lets w t → TakenAs actions lets w t
takes-to actions lets w t k =
    let s = unstarted-seen t t.state k.3.unstarted in
    let a = seen-as t t.state s.0 s.1 in
    record {
      s = s.0;
      is = s.1;
      takes = grind (arith, nat_tests, k.3.core, k.3.action);
      priority = a.priority;
    }

-- the priority of a mark that was made of a scheduled task
pub mark-known : (p : Slots Task) (h : ℕ) (t : Task) (n : ℕ) (o : Option Mark) → slot_value p h ≡ Some t → AreRanked (seen_in p) n
    → IfSome o (λ m. is_unstarted t ≡ true) → IfSome o (λ m. m.priority ≡ t.priority) → IfSome o (λ m. m.priority < n)
mark-known p h t n None g r u e = tt
mark-known p h t n (Some m) g r u e =
    let s = unstarted-seen t t.state u in
    subst (λ (k : ℕ). k < n) ((seen-as t t.state s.0 s.1).priority ∙ sym e) (r.known h s.0 (ap seen g ∙ s.1))

-- what holds anyway
pub if_some-any : {A P : Type 0} (o : Option A) → P → IfSome o (λ x. P)
if_some-any o e1 = grind (arith, nat_tests)
