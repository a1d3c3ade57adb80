use Rattle.mcapi_msg.proofs.PostStands.{new_post}
use Rattle.mcapi_msg.proofs.post.Post.new.Goals as goal

pub returns-clause-stands : goal.returns-clause-stands
returns-clause-stands c =
    let r = c.requires in
    let e = c.in_ok-boxes.ensures in
    new_post c.args.seats c.args.endpoints c.args.limit c.in_ok-boxes.boxes r.some_seat r.seats r.some_endpoint r.endpoints r.some_message r.messages e.limit
    e.generations e.slots
