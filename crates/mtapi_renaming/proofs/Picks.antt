-- A worker that may take a task isn't told anything else.
use Rattle.mtapi_renaming.proofs.Names.{nat_tests, ◌≡◌, ℕ, Bool, true, false, ◌&&◌, cond, List, [], ◌∷◌, Some, refl, not, ℤ, Kind, TaskHandle, ActionHandle, live_of, live_object, any_listed, any_live-at, Action, is_eligible, Task, Reply, Picked, Idle, Stop, State, workers, is_stop, stops, Row, unless, gives, Allows, says, only, is_ready, can_take, picks, row, fst_true, takes_task, arith}
use Rattle.mtapi_machine.specs.declared.ops.Op.TheVariants as op
use Rattle.mtapi_machine.specs.Moves.{Move}
use Rattle.mtapi_renaming.proofs.Comes.{if_there}

-- where a row takes a task, it allows nothing else
record OnlyTakes (own : Reply → Row) : Type 0 where
  takes : (t : TaskHandle) (a : ActionHandle) (k : Kind) (args : List ℤ) (r : Reply) → Allows (own (Picked t a k args)) (Picked t a k args) → Allows (own r) r
      → takes_task op.Pick r ≡ true

unless_takes : {b : Bool} {y : Reply} {own : Reply → Row} → takes_task op.Pick y ≡ false → OnlyTakes own → OnlyTakes (λ r. unless b y (own r))
unless_takes i j = grind (arith, nat_tests)

stop_takes : (b : Bool) (w : ℕ) {own : Reply → Row} → OnlyTakes own → OnlyTakes (λ r. cond b (gives Stop (stops w ∷ [])) (own r))
stop_takes b w i = grind (arith, nat_tests)

-- the worker could take the task that it takes
could_take : (s : State) (w : ℕ) (t a : ℕ) (x : Task) (y : Action) → live_object s.tasks t ≡ Some x → live_object s.actions a ≡ Some y
    → (is_ready s x && is_eligible (workers s) w x.job x.cores y) ≡ true → any_listed (can_take s w) s.tasks ≡ true
unfolding can_take
could_take s w t a x y d e may = any_live-at (can_take s w) (live_of s.tasks) t x d
    (grind (arith, any_live-at (is_eligible (workers s) w x.job x.cores) (live_of s.actions) a y e))

holds_only : (b : Bool) (w : Row) (q : Reply) → Allows (only b w) q → b ≡ true
holds_only b w q i = grind (arith, nat_tests)

picked : (s : State) (w : ℕ) (t : TaskHandle) (a : ActionHandle) (k : Kind) (args : List ℤ) → Allows (picks s w (Picked t a k args)) (Picked t a k args)
    → any_listed (can_take s w) s.tasks ≡ true
picked s w t a k args i = grind (arith, nat_tests, if_there, could_take, fst_true, holds_only)

not_idle : (b : Bool) (r : Reply) → b ≡ true → Allows {Move = Move} (only (not b) (says Idle)) r → ⊥
not_idle b r i j = grind (arith, nat_tests)

picks_take : (s : State) (w : ℕ) → OnlyTakes (picks s w)
picks_take s w = record {
  takes = λ t a k args. elim [
    | Picked u b l brgs ↦ λ i j. refl
    | r ↦
        λ i j. absurd (not_idle (any_listed (can_take s w) s.tasks) r (picked s w t a k args i) j)
  ];
}

pub pick_takes : (s : State) (who : ℕ) (t : TaskHandle) (a : ActionHandle) (k : Kind) (args : List ℤ) (r : Reply) →
    Allows (row s who op.Pick (Picked t a k args)) (Picked t a k args) → Allows (row s who op.Pick r) r → takes_task op.Pick r ≡ true
pick_takes s who =
    let whole : OnlyTakes (λ r. row s who op.Pick r) =
    unless_takes refl (unless_takes refl (unless_takes refl (stop_takes (is_stop s) who (picks_take s who)))) in whole.takes
