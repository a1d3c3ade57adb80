use Rattle.run_check.proofs.Names.{sym, subst, List, IfNone, Reply, Line, shape, Stated, Takes}
use Rattle.workload_runs.specs.declared.calls.Call.{Call as StatementCall}
use Rattle.run_check.proofs.Stated.{once_is_stated}
use Rattle.run_check.proofs.made.made.Goals as goal

pub once-requires : goal.once-requires
once-requires c = record { stated = once_is_stated c.in-Once.op (subst Stated c.in-Once.is c.requires.stated) }

pub returns-in-Once-clause-none : goal.returns-in-Once-clause-none
returns-in-Once-clause-none c = subst (λ (x : StatementCall). IfNone c.once.result ((rest : List Line) (r : Reply) → Takes (shape x) c.args.lines.now rest r
    → ⊥)) (sym c.in-Once.is) c.once.ensures.none

pub returns-in-Looking-clause-none : goal.returns-in-Looking-clause-none
returns-in-Looking-clause-none c = subst (λ (x : StatementCall). IfNone c.looking.result ((rest : List Line) (r : Reply)
    → Takes (shape x) c.args.lines.now rest r → ⊥)) (sym c.in-Looking.is) c.looking.ensures.none
