-- What a worker asks of the task that it has isn't refused.
use Rattle.history_law.proofs.Names.{◌≡◌, ℕ, ◌<◌, true, Some, sym, arith, nat_tests, Kind, TaskHandle, live_object, Task, runs_as, entry, Op, Reply, State, workers, IsNext, Work, HoldsTask, AsksOf, IsStepServed}
use Rattle.history_law.proofs.WorkerTurns.{same_list, runs_as_its, finish_said}
use Rattle.mtapi_values.specs.declared.kinds.Kind.TheVariants as kind
use Rattle.mtapi_machine.specs.declared.ops.Op.TheVariants as op

-- the task of the worker, and that it runs as this kind
own : (s : State) (w : ℕ) (t u : TaskHandle) (x : Work) (k : Kind) → HoldsTask s w t.0 x → u ≡ t → k ≡ x.kind
    → (y : Task) × (live_object s.tasks u.0 ≡ Some y) × (runs_as w k y ≡ true) × (y.args ≡ x.args)
own s w t u x k v a e = grind (arith, nat_tests, runs_as_its w x v.task v.runs, live_object, runs_as)

pub work_is_served : (s : State) (w : ℕ) (t : TaskHandle) (x : Work) (o : Op) (r : Reply) → w < workers s → HoldsTask s w t.0 x → AsksOf t x o
    → IsNext s (entry w o r) → IsStepServed o r
work_is_served s w t x (op.Finish u done) r l v a n = grind (arith, nat_tests, own s w t u x done.kind v a.0 a.1, finish_said s w u.0 done, same_list)
work_is_served s w t x (op.Asked u) r l v a n = let y = own s w t u x kind.Watch v a.0 (sym a.1) in grind (arith, nat_tests, y.1, y.2, n.allowed)
work_is_served s w t x (op.WatchEnd u) r l v a n = let y = own s w t u x kind.Watch v a.0 (sym a.1) in grind (arith, nat_tests, y.1, y.2, n.allowed)
work_is_served s w t x (op.TallyLock u) r l v a n = let y = own s w t u x kind.Tally v a.0 (sym a.1) in grind (arith, nat_tests, y.1, y.2, n.allowed)
work_is_served s w t x (op.TallyRead u) r l v a n = let y = own s w t u x kind.Tally v a.0 (sym a.1) in grind (arith, nat_tests, y.1, y.2, n.allowed)
work_is_served s w t x (op.TallyWrite u value) r l v a n = let y = own s w t u x kind.Tally v a.0 (sym a.1) in grind (arith, nat_tests, y.1, y.2, n.allowed)
work_is_served s w t x (op.TallyEnd u) r l v a n = let y = own s w t u x kind.Tally v a.0 (sym a.1) in grind (arith, nat_tests, y.1, y.2, n.allowed)
work_is_served s w t x _ r l v a n = absurd a
