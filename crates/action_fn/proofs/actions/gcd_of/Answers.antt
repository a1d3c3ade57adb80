-- At the end x is the greatest common divisor of x and 0, and so that of a and b.
use Rattle.std.proofs.Common.{arith}
use Rattle.std.proofs.lemmas.Nat.Gcd.{IsGcd-from_zero, IsGcd-from_mod}
use Rattle.action_fn.proofs.Divisors.{gcd_from_IsGcd}
use Rattle.action_fn.proofs.actions.gcd_of.Goals as goal

pub loop-y-preserved : goal.loop-y-preserved
loop-y-preserved c = λ g h. c.loop-y.invariant g (IsGcd-from_mod c.loop-y.x c.loop-y.y g h)

pub returns-clause-value : goal.returns-clause-value
returns-clause-value c = gcd_from_IsGcd c.args.a c.args.b c.loop-y.x (c.loop-y.invariant _ (IsGcd-from_zero c.loop-y.x c.loop-y.y (omega arith)))

pub returns-clause-greatest : goal.returns-clause-greatest
returns-clause-greatest c = c.loop-y.invariant _ (IsGcd-from_zero c.loop-y.x c.loop-y.y (omega arith))
