use Rattle.workload_runners.proofs.EntriesToTurns.{worker_turns}
use Rattle.workload_runners.proofs.laws.law_worker_turns.Goals as goal

pub returns : goal.returns
returns c = worker_turns
