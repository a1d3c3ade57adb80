use Rattle.workload_runners.proofs.EntriesToTurns.{main_turns}
use Rattle.workload_runners.proofs.laws.law_main_turns.Goals as goal

pub returns : goal.returns
returns c = main_turns
