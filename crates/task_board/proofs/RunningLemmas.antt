-- The running tasks, as their slots show them.
use Rattle.task_board.proofs.Names.{◌≡◌, ℕ, Bool, true, false, Option, Some, None, refl, sym, ◌∙◌, ap, arith, ◌==◌, is_some, OnTrue, OnFalse, false≢true, nat_tests, TaskHandle, slot_value, SomeLive, NoneLive, Passes, Task, TaskState, Scheduled, Running, Ended, runs_on, with_state, Seen, seen_as, seen, SchedulerTable, IsScheduler, running_on}

pub self : (w : ℕ) → (w == w) ≡ true
self w = grind (arith, nat_tests)

-- what is seen of a task that runs on the worker
pub runs-seen : (t : Task) (w : ℕ) (x : TaskState) → t.state ≡ x → runs_on w t ≡ true → (s : Seen) × (seen (Some t) ≡ Some s) × (s.on ≡ Some w)
runs-seen t w Scheduled e r = absurd (false≢true (ap (λ (y : TaskState). runs_on w (with_state y t)) (sym e) ∙ r))
runs-seen t w (Running v k) e r =
    let test : (v == w) ≡ true = ap (λ (y : TaskState). runs_on w (with_state y t)) (sym e) ∙ r in
    let same : v ≡ w = grind (arith, nat_tests) in
    (_, ap (seen_as t) e, ap Some same)
runs-seen t w (Ended y n) e r = absurd (false≢true (ap (λ (z : TaskState). runs_on w (with_state z t)) (sym e) ∙ r))

pub some-runs : (b : SchedulerTable) (w : ℕ) (t : TaskHandle) → IsScheduler b → running_on b.running w ≡ Some t
    → SomeLive (slot_value b.tasks.pool) (Passes (runs_on w))
some-runs b w t e1 e2 = grind (arith, nat_tests)

pub none-runs : (b : SchedulerTable) (w : ℕ) → IsScheduler b → running_on b.running w ≡ None → NoneLive (slot_value b.tasks.pool) (Passes (runs_on w))
none-runs b w k e h t g r =
    let s = runs-seen t w t.state refl r in
    let found = k.running_are.found h w s.0 (ap seen g ∙ s.1) s.2 in
    grind (arith, nat_tests)

pub not-running : (b : SchedulerTable) (w : ℕ) → IsScheduler b → NoneLive (slot_value b.tasks.pool) (Passes (runs_on w))
    → is_some (running_on b.running w) ≡ false
not-running b w e1 e2 = grind (arith, nat_tests, running_on, some-runs)

pub running-tells : (b : SchedulerTable) (w : ℕ) (o : Option TaskHandle) → IsScheduler b → running_on b.running w ≡ o → is_some o ≡ true
    → SomeLive (slot_value b.tasks.pool) (Passes (runs_on w))
running-tells b w o e1 e2 e3 = grind (arith, nat_tests)

pub running-denies : (b : SchedulerTable) (w : ℕ) (o : Option TaskHandle) → IsScheduler b → running_on b.running w ≡ o → is_some o ≡ false
    → NoneLive (slot_value b.tasks.pool) (Passes (runs_on w))
running-denies b w o e1 e2 e3 = grind (arith, nat_tests, none-runs)

pub on-true : {P : Type 0} (b : Bool) → (b ≡ true → P) → OnTrue b P
on-true b e1 = grind (arith, nat_tests)

pub on-false : {P : Type 0} (b : Bool) → (b ≡ false → P) → OnFalse b P
on-false b e1 = grind (arith, nat_tests)
