use Rattle.std.proofs.Common.{length}
use Rattle.begun_runs.proofs.halting.+callers_halt.Given as goal

abbrev pub decreases-callers_halt : goal.decreases-callers_halt
decreases-callers_halt l = length l.parts.now
