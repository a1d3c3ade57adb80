use Rattle.mcapi_msg.proofs.PostSteps.{open_taken, open_full, open_made, free_full}
use Rattle.mcapi_msg.proofs.post.Post.open.Goals as goal

pub returns-in-Some : goal.returns-in-Some
returns-in-Some c l v = open_taken c.args.self.now l c.args.who c.args.port c.in-Some._taken.0 v c.in-Some.ensures.found

pub returns-then-is_full : goal.returns-then-is_full
returns-then-is_full c l v = open_full c.args.self.now l c.args.who c.args.port v c.in_default.ensures.absent (c.is_full.ensures.full.0 c.if-is_full.true)

pub returns : goal.returns
returns c l v = open_made c.args.self.now c.insert.new.self l c.args.who c.args.port c.insert.result v c.in_default.ensures.absent
    (free_full c.args.self.now.boxes.pool c.if-is_full.ensures.room) c.insert.ensures.limit c.insert.ensures.made
