use Rattle.task_board.proofs.PartLemmas.{create-scheduler}
use Rattle.task_board.proofs.scheduler.Scheduler.create_group.Goals as goal

pub invariant_of-self : goal.invariant_of-self
invariant_of-self c =
    create-scheduler _ c.create.new.self c.create.result c.self.invariant c.create.ensures
