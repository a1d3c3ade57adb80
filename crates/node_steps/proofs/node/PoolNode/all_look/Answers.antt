use Rattle.node_steps.proofs.Names.{sym, arith, slot_value}
use Rattle.node_steps.proofs.GroupSteps.{counted, all_look_early, all_look_freed}
use Rattle.node_steps.proofs.node.PoolNode.all_look.Goals as goal

pub returns-then-all-ended : goal.returns-then-all-ended
returns-then-all-ended c l who v =
    let x = counted (slot_value c.args.self.now.scheduler.groups.pool c.args.group.0) c.in-Some.all c.in-Some.ended c.in-Some.ensures in
    rw c.early.ensures (all_look_early c.args.self.now l who c.args.group c.args.last v (sym c.if-not-is_up.ensures) c.is_kept.ensures x.x x.is
    (omega (arith, c.if-all-ended.true, x.all_is, x.ended_is)))

pub returns : goal.returns
returns c l who v =
    let x = counted (slot_value c.args.self.now.scheduler.groups.pool c.args.group.0) c.in-Some.all c.in-Some.ended c.in-Some.ensures in
    rw c.verdict.ensures (all_look_freed c.args.self.now l who c.args.group c.args.last v
    (sym c.if-not-is_up.ensures) c.is_kept.ensures x.x x.is c.free_members.new.scheduler c.free_members.result
    (omega (arith, c.if-all-ended.false, x.all_is, x.ended_is)) c.free_members.ensures.freed c.free_members.ensures.none)
