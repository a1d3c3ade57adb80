use Rattle.settled_runs.proofs.SeatsGranted.{settled_statements_are_granted}
use Rattle.settled_runs.proofs.laws.law_settled_granted.Goals as goal

pub returns : goal.returns
returns c = settled_statements_are_granted
