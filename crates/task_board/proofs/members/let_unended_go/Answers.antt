use Rattle.task_board.proofs.EachLemmas.{left-next}
use Rattle.task_board.proofs.members.let_unended_go.Goals as goal

pub loop-index-preserved : goal.loop-index-preserved
loop-index-preserved c = left-next c.args.scheduler.now c.loop-index.scheduler c.leave_first.new.self c.args.g.0 c.loop-index._index c.in-Some.field-0.0
    c.loop-index.invariant c.in-Some.ensures
