use Rattle.std.proofs.Common.{ℕ, ◌<◌}
use Rattle.begun_runs.specs.Halts.{WorkerHalts}
use Rattle.begun_runs.proofs.halting.workers_halt.Given as goal

abbrev pub invariant-loop-who : goal.invariant-loop-who
invariant-loop-who l = (v : ℕ) → v < l.who → WorkerHalts l.looks v
