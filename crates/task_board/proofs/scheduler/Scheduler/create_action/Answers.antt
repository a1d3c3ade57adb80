use Rattle.task_board.proofs.RemarkLemmas.{same-insert}
use Rattle.task_board.proofs.SchedulerLemmas.{changed-scheduler}
use Rattle.task_board.proofs.scheduler.Scheduler.create_action.Goals as goal

pub invariant_of-self-2 : goal.invariant_of-self-2
invariant_of-self-2 c =
    changed-scheduler _ c.create.new.self c.remark_where_changed.new.ready c.args.job c.covered_cores-before.result.0 c.self.invariant
    (same-insert c.self.inside.actions c.create.new.self c.in_ok-action.action.0 c.args.job c.args.kind c.args.cores.0 c.in_ok-action.ensures.2)
    (c.covered_cores-before.ensures c.self.inside.actions c.args.job c.cover.ensures) c.remark_where_changed.ensures
