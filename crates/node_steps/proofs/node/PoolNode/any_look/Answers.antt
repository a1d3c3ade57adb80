use Rattle.node_steps.proofs.Names.{refl, sym, arith, slot_value}
use Rattle.node_steps.proofs.GroupSteps.{counted, any_look_done, any_look_early, any_look_taken}
use Rattle.node_steps.proofs.node.PoolNode.any_look.Goals as goal

pub returns-then-all-eq0 : goal.returns-then-all-eq0
returns-then-all-eq0 c l who v =
    let x = counted (slot_value c.args.self.now.scheduler.groups.pool c.args.group.0) c.in-Some.all c.in-Some.field-0-1 c.in-Some.ensures in
    any_look_done c.args.self.now l who c.args.group c.args.last v (sym c.if-not-is_up.ensures) c.is_kept.ensures x.x x.is
    (omega (arith, c.if-all-eq0.true, x.all_is))

pub returns-in-Some-take_first : goal.returns-in-Some-take_first
returns-in-Some-take_first c l who v =
    let x = counted (slot_value c.args.self.now.scheduler.groups.pool c.args.group.0) c.in-Some.all c.in-Some.field-0-1 c.in-Some.ensures in
    any_look_taken c.args.self.now l who c.args.group c.args.last v
    (sym c.if-not-is_up.ensures) c.is_kept.ensures x.x x.is c.take_first.new.self c.in-Some-take_first.task.0 c.in-Some-take_first.end
    (omega (arith, c.if-all-eq0.false, x.all_is)) c.in-Some-take_first.ensures

pub returns-in-None : goal.returns-in-None
returns-in-None c l who v =
    let x = counted (slot_value c.args.self.now.scheduler.groups.pool c.args.group.0) c.in-Some.all c.in-Some.field-0-1 c.in-Some.ensures in
    rw c.early.ensures (rw c.in-None.ensures.0
    (any_look_early c.args.self.now l who c.args.group c.args.last v (sym c.if-not-is_up.ensures) c.is_kept.ensures x.x x.is
    (omega (arith, c.if-all-eq0.false, x.all_is)) (refl, c.in-None.ensures.1)))
