use Rattle.job_table.proofs.Names.{◌<◌, ◌%◌, ℕ, sym, ap, subst, ◌∙◌, length, max_of, Action}
use Rattle.job_table.proofs.ListedLemmas.{nowhere, list-below, listed-insert}
use Rattle.job_table.proofs.Actions.create.Goals as goal

pub push-requires-clause-nowhere : goal.push-requires-clause-nowhere
push-requires-clause-nowhere c = nowhere c.self.inside.pool c.insert.new.self c.self.inside.jobs c.in-Ok.handle _ c.self.invariant c.in-Ok.ensures.inserts

pub invariant_of-self : goal.invariant_of-self
invariant_of-self c =
    let below = subst (λ (m : ℕ). c.args.job % m
    < length c.self.inside.jobs.lists) (sym c.max-lists.ensures.value) (list-below c.self.inside.pool c.self.inside.jobs c.args.job c.self.invariant) in
    listed-insert c.self.inside.pool c.insert.new.self c.self.inside.jobs c.push.new.self c.in-Ok.handle
    (c.args.job % c.max-lists.result) c.new.result c.self.invariant below c.in-Ok.ensures.inserts
    (ap (λ (m : ℕ). c.args.job % m) c.max-lists.ensures.value ∙ ap (λ (x : Action). x.job % max_of c.self.inside.pool) (sym c.new.ensures)) c.push.ensures
