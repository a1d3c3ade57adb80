use Rattle.std.proofs.Common.{rules}
use Rattle.action_fn.specs.Answers.{fits, gcd, answer_of}
use Rattle.action_fn.proofs.laws.worked_answers.Goals as goal

pub returns : goal.returns
unfolding fits gcd answer_of
returns c = search rules
