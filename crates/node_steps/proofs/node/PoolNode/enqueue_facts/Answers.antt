use Rattle.node_steps.proofs.Names.{Some, sym, ◌∙◌, slot_value}
use Rattle.node_steps.proofs.RefusedSteps.{none_found, enqueue_closed, enqueue_member, enqueue_dead, enqueue_put}
use Rattle.node_steps.proofs.node.PoolNode.enqueue_facts.Goals as goal

pub returns-then-not-is_open-clause-refused : goal.returns-then-not-is_open-clause-refused
returns-then-not-is_open-clause-refused c l who args v =
    enqueue_closed c.args.self.now l who c.args.queue args c.args.cores c.args.detached c.args.group (sym c.if-not-is_open.ensures)

pub returns-then-is_detached_member-clause-refused : goal.returns-then-is_detached_member-clause-refused
returns-then-is_detached_member-clause-refused c l who args v =
    enqueue_member c.args.self.now l who c.args.queue args c.args.cores c.args.detached c.args.group v (sym c.if-not-is_open.ensures)
    (sym c.if-is_detached_member.ensures)

pub returns-in_default-clause-refused : goal.returns-in_default-clause-refused
returns-in_default-clause-refused c l who args v =
    enqueue_dead c.args.self.now l who c.args.queue args c.args.cores c.args.detached c.args.group v (sym c.if-not-is_open.ensures)
    (sym c.if-is_detached_member.ensures)
    (none_found (slot_value c.args.self.now.scheduler.queues.pool c.args.queue.0) (sym c.in_default.is ∙ c.queue.ensures))

pub returns-in-Some-put_refusal-clause-refused : goal.returns-in-Some-put_refusal-clause-refused
returns-in-Some-put_refusal-clause-refused c l who args v =
    let f = c.in-Some.facts in
    enqueue_put c.args.self.now l who c.args.queue args c.args.cores c.args.detached c.args.group v (sym c.if-not-is_open.ensures)
    (sym c.if-is_detached_member.ensures) c.is_kept.ensures f (Some c.in-Some-put_refusal.status) (sym c.in-Some.is ∙ c.queue.ensures)
    (c.put_refusal.ensures.refused l args f.priority c.args.detached v ∙ c.in-Some-put_refusal.is)

pub returns-in-None-clause-may : goal.returns-in-None-clause-may
returns-in-None-clause-may c = record {
  opened = sym c.if-not-is_open.ensures;
  alone = sym c.if-is_detached_member.ensures;
  found = sym c.in-Some.is ∙ c.queue.ensures;
  takes = c.put_refusal.ensures.takes c.in-None.is;
  room = c.put_refusal.ensures.room c.in-None.is;
  member = c.put_refusal.ensures.group c.in-None.is;
  none = λ l args priority v. c.put_refusal.ensures.refused l args priority c.args.detached v ∙ c.in-None.is;
}
