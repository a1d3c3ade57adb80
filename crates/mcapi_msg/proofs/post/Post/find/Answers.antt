use Rattle.mcapi_msg.proofs.PostSteps.{find_found, find_absent}
use Rattle.mcapi_msg.proofs.post.Post.find.Goals as goal

pub returns-in-Some : goal.returns-in-Some
returns-in-Some c l who v = find_found c.args.self.now l who c.args.port c.in-Some.handle.0 v c.in-Some.ensures.found c.in-Some.ensures.only

pub returns-in-None : goal.returns-in-None
returns-in-None c l who v = find_absent c.args.self.now l who c.args.port v c.in-None.ensures.absent
