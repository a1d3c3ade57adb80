use Rattle.std.proofs.Common.{length}
use Rattle.run_report.proofs.summary.+with_further.Given as goal

abbrev pub decreases-with_further : goal.decreases-with_further
decreases-with_further l = length l.parts.now
