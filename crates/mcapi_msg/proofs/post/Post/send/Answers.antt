use Rattle.mcapi_msg.proofs.Names.{sym, ap, ◌∙◌, option_copied}
use Rattle.mcapi_msg.proofs.PostSteps.{send_invalid, send_range, send_full, send_put, has_space}
use Rattle.mcapi_msg.proofs.post.Post.send.Goals as goal

pub returns-in_default : goal.returns-in_default
returns-in_default c l v = send_invalid c.args.self.now l c.args.who c.args.to c.args.priority c.args.msg v (sym c.get.ensures
    ∙ ap option_copied c.in_default.is)

pub returns-then-priority-ge-PRIORITIES : goal.returns-then-priority-ge-PRIORITIES
returns-then-priority-ge-PRIORITIES c l v =
    send_range c.args.self.now l c.args.who c.args.to c.args.priority c.args.msg c.in-Some.mailbox.now v (sym c.get.ensures
    ∙ ap option_copied c.in-Some.is) c.if-priority-ge-PRIORITIES.true

pub returns-then-is_full : goal.returns-then-is_full
returns-then-is_full c l v =
    send_full c.args.self.now l c.args.who c.args.to c.args.priority c.args.msg c.in-Some.mailbox.now v (sym c.get.ensures
    ∙ ap option_copied c.in-Some.is) c.if-priority-ge-PRIORITIES.false (sym c.is_full.ensures.full ∙ c.if-is_full.true)

pub put-requires-clause-space : goal.put-requires-clause-space
put-requires-clause-space c = has_space _ c.in-Some.mailbox.now (sym c.get.ensures ∙ ap option_copied c.in-Some.is) (sym c.is_full.ensures.full
    ∙ c.if-is_full.false) c.is_full.ensures.within

pub returns : goal.returns
returns c l v =
    let found = sym c.get.ensures ∙ ap option_copied c.in-Some.is in
    send_put c.args.self.now c.put.new.self l c.args.who c.args.to c.args.priority c.args.msg c.in-Some.mailbox.now v found c.if-priority-ge-PRIORITIES.false
    (sym c.is_full.ensures.full ∙ c.if-is_full.false) c.put.ensures.limit
    (c.put.ensures.put c.in-Some.mailbox.now found)
