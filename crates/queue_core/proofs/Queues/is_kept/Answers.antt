use Rattle.queue_core.proofs.QueueLemmas.{retired_empty}
use Rattle.queue_core.proofs.Queues.is_kept.Goals as goal

pub returns : goal.returns
returns c = retired_empty c.self.inside.pool c.self.inside.tasks c.args.self.now c.self.invariant c.self.view_is
