use Rattle.run_check.proofs.Names.{ℕ, ◌<◌, lines_of, WorkerRan}
use Rattle.run_check.proofs.whole.workers_ran.Given as goal

abbrev pub invariant-loop-w : goal.invariant-loop-w
invariant-loop-w l = (v : ℕ) → v < l.w → WorkerRan (lines_of v l.entries l.skipped)
