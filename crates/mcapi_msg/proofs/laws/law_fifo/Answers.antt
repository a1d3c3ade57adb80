use Rattle.mcapi_msg.proofs.FifoLemmas.{in_order}
use Rattle.mcapi_msg.proofs.laws.law_fifo.Goals as goal

pub returns : goal.returns
returns c = in_order c.args.at c.args.sender c.args.priority _ c.args.entries.now c.requires
