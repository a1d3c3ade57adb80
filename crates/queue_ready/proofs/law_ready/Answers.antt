use Rattle.queue_ready.proofs.ReadyLemmas.{queue-ready}
use Rattle.queue_ready.proofs.law_ready.Goals as goal

pub returns : goal.returns
returns c = queue-ready
