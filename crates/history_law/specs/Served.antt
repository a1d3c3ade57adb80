-- What a worker may ask of the task that it has.
use Rattle.std.specs.Prelude.{◌≡◌, ℕ, ◌<◌}
use Rattle.mtapi_values.specs.declared.kinds.Kind.TheVariants.{Watch, Tally}
use Rattle.history_law.specs.Names.{ErrTaskInvalid, TaskHandle, entry, Op, Finish, WatchEnd, TallyLock, TallyRead, TallyWrite, TallyEnd, Reply, Ok, Mtapi, State, workers, IsNext}
use Rattle.mtapi_machine.specs.declared.ops.Op.TheVariants.{Asked}
use Rattle.history_law.specs.Seats.{Work, HoldsTask}

-- the op asks this of the task: to finish it, with its own kind and arguments, or a step of a watch or of a tally
abbrev pub AsksOf : TaskHandle → Work → Op → Type 0
AsksOf t x (Finish u done) = (u ≡ t) × (done.kind ≡ x.kind) × (done.args ≡ x.args)
AsksOf t x (Asked u) = (u ≡ t) × (x.kind ≡ Watch)
AsksOf t x (WatchEnd u) = (u ≡ t) × (x.kind ≡ Watch)
AsksOf t x (TallyLock u) = (u ≡ t) × (x.kind ≡ Tally)
AsksOf t x (TallyRead u) = (u ≡ t) × (x.kind ≡ Tally)
AsksOf t x (TallyWrite u value) = (u ≡ t) × (x.kind ≡ Tally)
AsksOf t x (TallyEnd u) = (u ≡ t) × (x.kind ≡ Tally)
AsksOf t x _ = ⊥

-- a finish is done; a step isn't refused as one of a task that isn't the worker's
abbrev pub IsStepServed : Op → Reply → Type 0
IsStepServed (Finish u done) r = r ≡ Ok
IsStepServed _ r = r ≡ Mtapi ErrTaskInvalid → ⊥

-- what the worker asks of the task that it has is served by this reply
abbrev pub ServesOp : State → ℕ → TaskHandle → Work → Op → Reply → Type 0
ServesOp s w t x o r = HoldsTask s w t.0 x → AsksOf t x o → IsStepServed o r

-- so it is of every worker and the task that it has
abbrev pub WorkIsServed : Type 0
WorkIsServed = (s : State) (w : ℕ) (t : TaskHandle) (x : Work) (o : Op) (r : Reply) → w < workers s → IsNext s (entry w o r) → ServesOp s w t x o r
