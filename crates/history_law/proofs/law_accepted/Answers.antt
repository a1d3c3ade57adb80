use Rattle.history_law.proofs.Accepted.{accepted_end}
use Rattle.history_law.proofs.law_accepted.Goals as goal

pub returns : goal.returns
returns c terms es before main legal last = accepted_end terms es before main legal last
