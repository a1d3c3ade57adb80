use Rattle.node_steps.proofs.Names.{refl, arith, List, map, ap, ◌∙◌, One, records_of, group_slots, Slot, new_group, Members, mapped_slot, mapped-new}
use Rattle.node_steps.proofs.InitSteps.{new_node, records_new}
use Rattle.node_steps.proofs.Moves.{holds_new}
use Rattle.node_steps.proofs.node.PoolNode.init.Goals as goal

pub returns-clause-stands : goal.returns-clause-stands
returns-clause-stands c =
    let settings = c.is_kept.ensures in
    let b = c.in_ok-scheduler.scheduler in
    new_node c.args.attr c.args.callers b c.in_ok-resources.resources settings c.requires.some_caller c.requires.few_callers c.in_ok-scheduler.ensures.settings
    (holds_new c.args.attr.actions c.args.attr.generations b.actions settings.generations.0
    (omega (arith, settings.actions.1)) c.in_ok-scheduler.ensures.action_turns c.in_ok-scheduler.ensures.action_slots)
    (holds_new c.args.attr.tasks c.args.attr.generations b.tasks.pool settings.generations.0 settings.tasks.1 c.in_ok-scheduler.ensures.task_turns
    c.in_ok-scheduler.ensures.task_slots)
    (holds_new c.args.attr.groups c.args.attr.generations (group_slots b) settings.generations.0
    (omega (arith, settings.groups.1)) c.in_ok-scheduler.ensures.group_turns
    (ap (λ (l : List (Slot Members)). map (mapped_slot (λ (m : Members). new_group)) l) c.in_ok-scheduler.ensures.group_slots
    ∙ mapped-new (λ (m : Members). new_group) c.args.attr.groups))
    (holds_new c.args.attr.queues c.args.attr.generations (records_of b.queues.pool) settings.generations.0
    (omega (arith, settings.queues.1)) c.in_ok-scheduler.ensures.queue_turns
    (records_new b.queues.pool c.args.attr.queues c.in_ok-scheduler.ensures.queue_slots))
    (c.in_ok-resources.ensures (record { layout = One; settings = c.args.attr; callers = c.args.callers }) refl)
    c.in_ok-scheduler.ensures.starts c.in_ok-scheduler.ensures.ends c.is_kept-2.ensures
