use Rattle.begun_runs.proofs.Fronts.{no_run_goes_on}
use Rattle.begun_runs.proofs.laws.law_deadlock.Goals as goal

-- src/laws.rt:13:1
pub returns : goal.returns
returns c = no_run_goes_on
