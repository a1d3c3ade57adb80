use Rattle.mcapi_msg.specs.declared.ops.MsgOp.TheVariants as op
use Rattle.mcapi_msg.specs.Answers.{Done}
use Rattle.mcapi_msg.proofs.CallAnswers.{has_answer, called, called_same, send_says}
use Rattle.mcapi_msg.proofs.mailer.Mailer.send.Goals as goal

pub done-requires : goal.done-requires
done-requires g c = has_answer Done (op.Send c.args.to c.args.priority c.args.msg)
    (send_says c.args.to c.args.priority c.args.msg) c.args.self.now c.once-reply.new.self c.once-reply.result c.once-reply.ensures.turned

pub returns-clause-called : goal.returns-clause-called
returns-clause-called g c = called Done
    (op.Send c.args.to c.args.priority c.args.msg) c.args.self.now c.once-reply.new.self c.once-reply.result c.done.result c.once-reply.ensures.turned
    c.once-reply.ensures.spent c.done.ensures

pub returns-clause-same : goal.returns-clause-same
returns-clause-same g c = called_same Done (op.Send c.args.to c.args.priority c.args.msg) c.args.self.now c.once-reply.new.self c.done.result
    (returns-clause-called g c)
