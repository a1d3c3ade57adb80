use Rattle.action_fn.proofs.Divisors.{IsGcd-gcd}
use Rattle.action_fn.proofs.laws.law_gcd.Goals as goal

pub returns : goal.returns
returns c = IsGcd-gcd c.args.a c.args.b
