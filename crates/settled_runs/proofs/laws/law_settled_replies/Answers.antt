use Rattle.settled_runs.proofs.ReplyWalk.{settled_replies_are_plain}
use Rattle.settled_runs.proofs.laws.law_settled_replies.Goals as goal

pub returns : goal.returns
returns c = settled_replies_are_plain
