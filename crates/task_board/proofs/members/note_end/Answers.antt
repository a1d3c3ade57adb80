use Rattle.task_board.proofs.Names.{ap, ◌∙◌, GroupTable, with_ended, without_members}
use Rattle.task_board.proofs.GroupSlotLemmas.{members-unseen}
use Rattle.task_board.proofs.members.note_end.Goals as goal

pub returns-in-Some-clause-slots : goal.returns-in-Some-clause-slots
returns-in-Some-clause-slots c = ap (λ (t : GroupTable). without_members t.pool) c.ended.ensures
    ∙ members-unseen c.args.groups.now.pool c.in-Some.group.0 (with_ended c.args.task.0) c.is_kept.ensures
