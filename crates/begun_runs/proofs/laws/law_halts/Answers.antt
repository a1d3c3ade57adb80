use Rattle.begun_runs.proofs.Deadlocks.{halts_is_stuck}
use Rattle.begun_runs.proofs.laws.law_halts.Goals as goal

-- src/laws.rt:28:1
pub returns : goal.returns
returns c = halts_is_stuck
