use Rattle.mcapi_msg.proofs.Names.{sym, subst, MsgOp, PostSteps}
use Rattle.mcapi_msg.proofs.post.Post.dispatch.Goals as goal

pub returns-in-Open : goal.returns-in-Open
returns-in-Open c l v = subst (λ (o : MsgOp). PostSteps c.args.self.now l c.args.who o c.open.result c.open.new.self) (sym c.in-Open.is) (c.open.ensures l v)

pub returns-in-Find : goal.returns-in-Find
returns-in-Find c l v = subst (λ (o : MsgOp). PostSteps c.args.self.now l c.args.who o c.find.result c.args.self.now) (sym c.in-Find.is)
    (c.find.ensures l c.args.who v)

pub returns-in-Send : goal.returns-in-Send
returns-in-Send c l v = subst (λ (o : MsgOp). PostSteps c.args.self.now l c.args.who o c.send.result c.send.new.self) (sym c.in-Send.is) (c.send.ensures l v)

pub returns-in-Recv : goal.returns-in-Recv
returns-in-Recv c l v = subst (λ (o : MsgOp). PostSteps c.args.self.now l c.args.who o c.recv.result c.recv.new.self) (sym c.in-Recv.is) (c.recv.ensures l v)

pub returns-in-Shut : goal.returns-in-Shut
returns-in-Shut c l v = subst (λ (o : MsgOp). PostSteps c.args.self.now l c.args.who o c.shut.result c.shut.new.self) (sym c.in-Shut.is) (c.shut.ensures l v)
