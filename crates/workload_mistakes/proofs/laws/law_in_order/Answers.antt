use Rattle.workload_mistakes.proofs.Order.{ordered}
use Rattle.workload_mistakes.proofs.laws.law_in_order.Goals as goal

pub returns : goal.returns
returns c = ordered
