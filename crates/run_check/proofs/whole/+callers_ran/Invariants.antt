use Rattle.std.proofs.Common.{length}
use Rattle.run_check.proofs.whole.+callers_ran.Given as goal

abbrev pub decreases-callers_ran : goal.decreases-callers_ran
decreases-callers_ran l = length l.parts.now
