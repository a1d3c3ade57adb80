use Rattle.history_law.proofs.Ordered.{runs_in_order}
use Rattle.history_law.proofs.law_ordered.Goals as goal

pub returns : goal.returns
returns c Z A B C D o x y z a b cut p r t u = runs_in_order _ _ c.args.q.0 c.requires Z A B C D o x y z a b cut p r t u
