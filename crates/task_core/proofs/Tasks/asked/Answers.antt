use Rattle.task_core.specs.Answers.{after_asked}
use Rattle.task_core.proofs.CountLemmas.{AreCounted-changed, is_unended-asked}
use Rattle.task_core.proofs.Tasks.asked.Goals as goal

pub invariant_of-self : goal.invariant_of-self
invariant_of-self c =
    rw c.ask.ensures.new (AreCounted-changed c.self.inside.pool c.args.t.0 (after_asked c.args.worker) c.self.inside.starts c.self.inside.ends
    (is_unended-asked c.args.worker) c.self.invariant)
