use Rattle.node_steps.proofs.Names.{refl, sym, ◌∙◌, ap, subst, arith, task_end, PoolNode, PoolNodeSteps}
use Rattle.action_fn.specs.declared.finished.ActEnd.{ActEnd}
use Rattle.node_steps.proofs.WorkSteps.{finish_steps, finish_absent, finish_other}
use Rattle.mtapi_values.specs.declared.statuses.MtapiStatus.TheVariants as m
use Rattle.mtapi_machine.specs.declared.ops.Op.TheVariants as op
use Rattle.mtapi_machine.specs.declared.replies.Reply.TheVariants as reply
use Rattle.node_steps.proofs.Gives.{lands}
use Rattle.node_steps.proofs.node.PoolNode.finish.Goals as goal
use Rattle.node_steps.proofs.node.PoolNode.finish.Goals.{in_default-via-in-Some+else-runs_so, in_default-via-in_default}

pub returns : goal.returns
returns c l v =
    lands c.args.self.now l c.args.who _ _ c.end_with.new.self _ _ c.end_with.ensures
    (finish_steps c.args.self.now l c.args.who c.args.task c.args.done.now c.in-Some.found.now c.task_end.result _ v (omega arith)
    (sym c.in-Some.ensures) (sym c.if-runs_so.ensures) (c.task_end.ensures ∙ ap (λ (e : ActEnd). task_end e) c.end.ensures.value)
    c.is_answered.ensures refl)

pub returns-in_default : goal.returns-in_default
returns-in_default c l v = elim c.in_default.branch [
  | in_default-via-in-Some+else-runs_so w ↦
      subst (λ (n : PoolNode). PoolNodeSteps c.args.self.now l c.args.who (op.Finish c.args.task c.args.done.now) (reply.Mtapi m.ErrTaskInvalid) n)
      (sym w.self-is)
      (finish_other c.args.self.now l c.args.who c.args.task c.args.done.now w.in-Some.found.now v (omega arith) (sym w.in-Some.ensures) (sym w.runs_so.ensures
      ∙ w.if-runs_so.false) c.is_answered.ensures)
  | in_default-via-in_default w ↦
      subst (λ (n : PoolNode). PoolNodeSteps c.args.self.now l c.args.who (op.Finish c.args.task c.args.done.now) (reply.Mtapi m.ErrTaskInvalid) n)
      (sym w.self-is)
      (finish_absent c.args.self.now l c.args.who c.args.task c.args.done.now v (omega arith) (sym w.in_default.ensures) c.is_answered.ensures)
]
