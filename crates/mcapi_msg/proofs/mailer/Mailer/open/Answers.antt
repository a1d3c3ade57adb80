use Rattle.mcapi_msg.specs.declared.ops.MsgOp.TheVariants as op
use Rattle.mcapi_msg.specs.Answers.{NamesEndpoint}
use Rattle.mcapi_msg.proofs.CallAnswers.{has_answer, called, called_same, open_says}
use Rattle.mcapi_msg.proofs.mailer.Mailer.open.Goals as goal

pub named-requires : goal.named-requires
named-requires g c = has_answer NamesEndpoint (op.Open c.args.port) (open_says c.args.port) c.args.self.now c.once.new.self c.once.result c.once.ensures.turned

pub returns-clause-called : goal.returns-clause-called
returns-clause-called g c = called NamesEndpoint
    (op.Open c.args.port) c.args.self.now c.once.new.self c.once.result c.named.result c.once.ensures.turned c.once.ensures.spent c.named.ensures

pub returns-clause-same : goal.returns-clause-same
returns-clause-same g c = called_same NamesEndpoint (op.Open c.args.port) c.args.self.now c.once.new.self c.named.result (returns-clause-called g c)
