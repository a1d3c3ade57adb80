use Rattle.mcapi_msg.specs.declared.ops.MsgOp.TheVariants as op
use Rattle.mcapi_msg.specs.Answers.{Done}
use Rattle.mcapi_msg.proofs.CallAnswers.{has_answer, called, called_same, shut_says}
use Rattle.mcapi_msg.proofs.mailer.Mailer.shut.Goals as goal

pub done-requires : goal.done-requires
done-requires g c = has_answer Done (op.Shut c.args.at) (shut_says c.args.at) c.args.self.now c.once.new.self c.once.result c.once.ensures.turned

pub returns-clause-called : goal.returns-clause-called
returns-clause-called g c = called Done
    (op.Shut c.args.at) c.args.self.now c.once.new.self c.once.result c.done.result c.once.ensures.turned c.once.ensures.spent c.done.ensures

pub returns-clause-same : goal.returns-clause-same
returns-clause-same g c = called_same Done (op.Shut c.args.at) c.args.self.now c.once.new.self c.done.result (returns-clause-called g c)
