use Rattle.group_core.proofs.GroupLemmas.{AreGroups-new, members-new}
use Rattle.group_core.proofs.Groups.new.Goals as goal

pub invariant_of-result : goal.invariant_of-result
invariant_of-result c = AreGroups-new c.in_ok-new.field-0 c.in_ok-new-2.field-0 c.in_ok-new-3.field-0 c.args.max c.args.tasks c.requires.few
    c.requires.few_tasks c.in_ok-new.ensures.slots c.in_ok-new-2.ensures.lists c.in_ok-new-3.ensures.lists c.in_ok-new-2.ensures.places
    c.in_ok-new-3.ensures.places

pub returns-clause-slots : goal.returns-clause-slots
returns-clause-slots c = members-new c.in_ok-new.field-0 c.in_ok-new-2.field-0 c.in_ok-new-3.field-0 c.args.max c.in_ok-new.ensures.slots
    c.in_ok-new-2.ensures.lists c.in_ok-new-3.ensures.lists
