use Rattle.node_steps.proofs.Names.{sym, slot_value}
use Rattle.node_steps.proofs.GroupSteps.{counted, group_delete_steps}
use Rattle.node_steps.proofs.node.PoolNode.group_delete.Goals as goal

pub returns : goal.returns
returns c l who v =
    let x = counted (slot_value c.args.self.now.scheduler.groups.pool c.args.group.0) _ _ c.in-Some.ensures in
    group_delete_steps c.args.self.now l who c.args.group x.x c.let_members_go.new.scheduler c.delete_group.new.self v
    (sym c.if-not-is_open.ensures) x.is c.let_members_go.ensures.gone c.let_members_go.ensures.none c.delete_group.ensures.group
    c.delete_group.ensures.others
