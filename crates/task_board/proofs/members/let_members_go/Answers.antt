use Rattle.task_board.proofs.EachLemmas.{all-go, none-left-in}
use Rattle.task_board.proofs.members.let_members_go.Goals as goal

pub returns-clause-gone : goal.returns-clause-gone
returns-clause-gone c = all-go c.args.scheduler.now c.free_members.new.scheduler c.let_unended_go.new.scheduler c.args.g.0 c.free_members.result
    c.free_members.ensures.freed c.let_unended_go.ensures

pub returns-clause-none : goal.returns-clause-none
returns-clause-none c =
    let go = all-go c.args.scheduler.now c.free_members.new.scheduler c.let_unended_go.new.scheduler c.args.g.0 c.free_members.result
    c.free_members.ensures.freed c.let_unended_go.ensures in
    none-left-in c.let_unended_go.new.scheduler c.args.g.0 c.is_kept.ensures go.group_now
