-- What a worker's pick and finish do to its task.
use Rattle.history_law.proofs.Names.{row, ◌≡◌, ℕ, ◌<◌, Bool, true, false, cond, List, Some, refl, sym, ◌∙◌, ap, subst, arith, ◌==◌, ◌&&◌, int_eq, pointwise, entry, holds, Kind, TaskEnd, Answered, eq-eqb, Decides-int_eq, slice_eq-Decides, Reply, Ok, Picked, Idle, Stop, live_object, count_listed, any_listed, change, with_fields, Task, TaskState, Running, runner, runs_on, runs_as, kind_number, is_unstarted, with_state, no_tally, ended, State, workers, tasks, object_changed, Allows, task_end, IsNext, next, at-update, Work, RunsWith, HoldsTask, Free, IsUntouched, ℤ, Answers, Move, Op, after_moves, moves_of, nat_tests, row, Row, unless, says, live, Mtapi, not, nat_lt, Option}
use Rattle.history_law.proofs.Others.{runs_scheduled}
use Rattle.mtapi_machine.specs.declared.ops.Op.TheVariants as op
use Rattle.history_law.proofs.lists.Found.{count_changed, count_none}
use Rattle.history_law.proofs.Answered.{true_false}
use Rattle.history_law.proofs.SeatMoves.{answer, ready_unstarted}
use Rattle.mtapi_machine.specs.Answers as is
use Rattle.history_law.proofs.RowRest.{Goes, goes_then, small_not}
use Rattle.mtapi_values.specs.declared.statuses.MtapiStatus.TheVariants as m

-- each task that hasn't begun is untouched
abbrev pub Untouched : State → Type 0
Untouched s = (h : ℕ) (t : Task) → live_object s.tasks h ≡ Some t → is_unstarted t ≡ true → IsUntouched t

abbrev pub work_of : Kind → List ℤ → Work
work_of k args = record { kind = k; args = args; looks = 0; seen = false; tally = no_tally }

-- what a pick of a worker without a task may answer, and what it leaves
abbrev pub PickedAs : State → ℕ → Reply → State → Type 0
PickedAs s w (Picked t a k args) u = HoldsTask u w t.0 (work_of k args)
PickedAs s w Idle u = u ≡ s
PickedAs s w Stop u = Unit {0}
PickedAs s w _ u = ⊥

-- a task that begins is the only one of its worker
begins : (s : State) (w h : ℕ) (t : Task) (k : Kind) (args : List ℤ) → Untouched s → Free s w → live_object s.tasks h ≡ Some t → is_unstarted t ≡ true
    → args ≡ t.args → HoldsTask (object_changed tasks h (with_state (Running w k)) s) w h (work_of k args)
begins s w h t k args clean free a u e =
    let z = clean h t a u in
    let n = count_changed (runs_on w) h (with_fields (with_state (Running w k))) true s.tasks t a (λ r l i j. l j && (eq-eqb w w refl) j) in
    let m : cond {A = ℕ} (runs_on w t) 1 0 ≡ 0 = ap (λ (b : Bool). cond {A = ℕ} b 1 0) (runs_scheduled w t u) in
    record {
      task = with_state (Running w k) t;
      found = at-update h (with_state (Running w k)) t s.tasks a;
      runs = record { state = refl; arguments = sym e; looked = z.looks; reported = z.seen; did = z.tally };
      alone = omega (arith, n, m, free);
    }

abbrev is_choice : Reply → Bool
is_choice (Picked t a k args) = true
is_choice Idle = true
is_choice Stop = true
is_choice _ = false

-- its pick isn't refused
picks_said : (s : State) (w : ℕ) (r : Reply) → w < workers s → any_listed (runs_on w) s.tasks ≡ false → Allows (row s w op.Pick r) r → is_choice r ≡ true
picks_said s w r e1 e2 e3 = grind (arith, nat_tests)

by_answer : (s : State) (w : ℕ) (o : Op) (r : Reply) (ms : List Move) → o ≡ op.Pick → is_choice r ≡ true → Untouched s → Free s w → Answers s w o r ms
    → PickedAs s w r (after_moves ms s)
by_answer s w o r ms e1 e2 e3 e4 e5 = grind (arith, nat_tests, begins s w, ready_unstarted s, true_false)

pub picked_as : (s : State) (w : ℕ) (r : Reply) → w < workers s → Untouched s → Free s w → IsNext s (entry w op.Pick r)
    → PickedAs s w r (next s (entry w op.Pick r))
picked_as s w r l clean free n = by_answer s w op.Pick r _ refl (picks_said s w r l (count_none (runs_on w) s.tasks free) n.allowed) clean free
    (answer s (entry w op.Pick r) n)

-- Ops on the task that the worker has

number_self : (k : Kind) → (kind_number k == kind_number k) ≡ true
number_self k = eq-eqb (kind_number k) (kind_number k) refl

pub runs_as_its : (w : ℕ) (x : Work) (t : Task) → RunsWith w x t → runs_as w x.kind t ≡ true
runs_as_its w x t h = grind (arith, nat_tests, eq-eqb w w refl, number_self x.kind, kind_number)

pub runs_on_its : (w : ℕ) (x : Work) (t : Task) → RunsWith w x t → runs_on w t ≡ true
runs_on_its w x t h = ap (λ (y : TaskState). holds (λ r. r.0 == w) (runner y)) h.state ∙ eq-eqb w w refl

-- a task that ends leaves its worker free
pub ends_free : (s : State) (w h : ℕ) (x : Work) (v : HoldsTask s w h x) (e : TaskEnd) (n : ℕ) → count_listed (runs_on w) (change h (ended e n) s.tasks) ≡ 0
ends_free s w h x v e n = grind (arith, nat_tests, count_changed (runs_on w) h (ended e n) false s.tasks v.task v.found, runs_on_its w x v.task v.runs)

pub same_list : (xs ys : List ℤ) → ys ≡ xs → pointwise int_eq xs ys ≡ true
same_list xs ys e = (slice_eq-Decides Decides-int_eq xs ys (pointwise int_eq xs ys) refl).1 (sym e)

-- the row of the live object
found_goes : (s : State) (x : Option Task) (t : Task) (i : Row) (r : Reply) (f : Task → Row) → x ≡ Some t → Allows (live x i f) r → Goes s (live x i f) r (f t)
found_goes s x t i r f e1 e2 = grind (arith, nat_tests, nat_tests)

-- the row's ways to the live task that the worker has
pub own_goes : (s : State) (w h : ℕ) (x : Work) (v : HoldsTask s w h x) (r : Reply) (f : Task → Row) → w < workers s
    → Allows (unless (not (nat_lt w (workers s))) (Mtapi m.ErrParameter) (live (live_object s.tasks h) (says tasks.invalid) f)) r
    → Goes s (unless (not (nat_lt w (workers s))) (Mtapi m.ErrParameter) (live (live_object s.tasks h) (says tasks.invalid) f)) r (f v.task)
own_goes s w h x v r f l a = grind (arith, nat_tests, small_not w (workers s) l, goes_then s)

pub record Finished (r : Reply) (w : ℕ) (u : State) : Type 0 where
  pub reply : r ≡ Ok
  pub free : Free u w

-- a finish with the answer to the worker's task is done, and leaves the worker free
pub finish_said : (s : State) (w h : ℕ) (done : Answered) (t : Task) (r : Reply) → w < workers s → live_object s.tasks h ≡ Some t → runs_as w done.kind t ≡ true
    → pointwise int_eq t.args done.args ≡ true
    → Allows (row s w (op.Finish (record { 0 = h }) done) r) r → r ≡ Ok
finish_said s w h done t r e1 e2 e3 e4 e5 = grind (arith, nat_tests)

ends_by : (s : State) (w h : ℕ) (x : Work) (v : HoldsTask s w h x) (done : Answered) (ms : List Move) → Answers s w (op.Finish (record { 0 = h }) done) Ok ms
    → Free (after_moves ms s) w
ends_by s w _ x v _ _ (is.finishes t done y k u) = ends_free s w t.0 x v (task_end done.end) s.ends

pub finished_as : (s : State) (w h : ℕ) (x : Work) (v : HoldsTask s w h x) (done : Answered) (r : Reply) → w < workers s → done.kind ≡ x.kind
    → done.args ≡ x.args
    → IsNext s (entry w (op.Finish (record { 0 = h }) done) r)
    → Finished r w (next s (entry w (op.Finish (record { 0 = h }) done) r))
finished_as s w h x v done r l k e n =
    let runs : runs_as w done.kind v.task ≡ true = ap (λ (z : Kind). runs_as w z v.task) k ∙ runs_as_its w x v.task v.runs in
    let ok : r ≡ Ok = finish_said s w h done v.task r l v.found runs (same_list v.task.args done.args (e ∙ sym v.runs.arguments)) n.allowed in
    record {
      reply = ok;
      free = ends_by s w h x v done _ (subst (λ (z : Reply). Answers s w (op.Finish (record { 0 = h }) done) z
          (moves_of (row s w (op.Finish (record { 0 = h }) done) r))) ok (answer s (entry w (op.Finish (record { 0 = h }) done) r) n));
    }
