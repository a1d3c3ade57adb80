use Rattle.task_board.proofs.Names.{ap, ◌∙◌, GroupTable, with_member, without_members}
use Rattle.task_board.proofs.GroupSlotLemmas.{members-unseen}
use Rattle.task_board.proofs.members.join.Goals as goal

pub returns-in-Some-clause-slots : goal.returns-in-Some-clause-slots
returns-in-Some-clause-slots c = ap (λ (t : GroupTable). without_members t.pool) c.enter.ensures
    ∙ members-unseen c.args.groups.now.pool c.in-Some.group.0 (with_member c.args.task.0) c.is_kept.ensures
