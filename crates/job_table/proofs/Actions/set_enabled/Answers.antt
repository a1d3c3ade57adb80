use Rattle.job_table.proofs.Names.{sym, subst, Slots, Action, AreListed}
use Rattle.job_table.proofs.ListedLemmas.{listed-changed}
use Rattle.job_table.proofs.Actions.set_enabled.Goals as goal

pub invariant_of-self : goal.invariant_of-self
invariant_of-self c = subst (λ (p : Slots Action). AreListed p c.self.inside.jobs) (sym c.set_enabled_in.ensures.new)
    (listed-changed c.self.inside.pool c.self.inside.jobs c.args.a.0 c.args.enabled c.self.invariant)
