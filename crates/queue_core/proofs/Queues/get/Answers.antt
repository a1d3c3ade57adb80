use Rattle.std.proofs.Common.{refl}
use Rattle.queue_core.proofs.QueueLemmas.{none_held, found_held}
use Rattle.queue_core.proofs.Queues.get.Goals as goal

pub returns-in-Some : goal.returns-in-Some
returns-in-Some c = found_held c.self.inside.pool c.self.inside.tasks c.args.self.now c.args.id c.in-Some.handle c.find.ensures.only c.self.view_is
    (rw c.from.ensures at c.in-Some.ensures.found)

pub returns-in-None : goal.returns-in-None
returns-in-None c = none_held c.self.inside.pool c.self.inside.tasks c.args.self.now c.args.id c.self.view_is
    (rw c.from.ensures at (c.in-None.ensures.absent refl))
