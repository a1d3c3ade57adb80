use Rattle.task_board.proofs.Names.{refl, slot_value}
use Rattle.task_board.proofs.TaskMemberLemmas.{quiet-pool, member-looked}
use Rattle.task_board.proofs.MoveLemmas.{seen-looked, max-looked}
use Rattle.task_board.proofs.scheduler.Scheduler.look.Goals as goal

pub invariant_of-self : goal.invariant_of-self
invariant_of-self c =
    let pool = c.self.inside.tasks.pool in
    let was = slot_value pool c.args.t.0 in
    quiet-pool _ _ _ c.look.ensures.new (seen-looked pool c.args.t.0 c.args.who c.args.last was refl)
    (max-looked pool c.args.t.0 c.args.who c.args.last was) (member-looked pool c.args.t.0 c.args.who c.args.last was refl) c.self.invariant
