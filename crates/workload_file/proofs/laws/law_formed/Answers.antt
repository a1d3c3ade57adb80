use Rattle.workload_file.proofs.Invariant.{workload_formed}
use Rattle.workload_file.proofs.laws.law_formed.Goals as goal

pub returns : goal.returns
returns c = workload_formed
