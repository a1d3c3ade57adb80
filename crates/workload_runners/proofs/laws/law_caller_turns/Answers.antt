use Rattle.workload_runners.proofs.EntriesToTurns.{caller_turns}
use Rattle.workload_runners.proofs.laws.law_caller_turns.Goals as goal

pub returns : goal.returns
returns c = caller_turns
