use Rattle.run_check.proofs.Names.{sym, subst, Call, Takes}
use Rattle.run_check.proofs.made.stated.Goals as goal

pub returns-in-None-clause-none : goal.returns-in-None-clause-none
returns-in-None-clause-none c = λ rest r t. c.in-None.ensures.none rest r (subst (λ (x : Call). Takes x c.args.lines.now rest r) (sym c.call_of.ensures.call) t)
