use Rattle.job_table.proofs.Names.{◌<◌, ◌%◌, ℕ, sym, ap, subst, ◌∙◌, length, max_of}
use Rattle.job_table.proofs.ListedLemmas.{listed-without, list-below}
use Rattle.job_table.proofs.Actions.delete.Goals as goal

pub invariant_of-self-in-Some : goal.invariant_of-self-in-Some
invariant_of-self-in-Some c =
    let below = subst (λ (m : ℕ). c.job.result % m
    < length c.self.inside.jobs.lists) (sym c.max-lists.ensures.value) (list-below c.self.inside.pool c.self.inside.jobs c.job.result c.self.invariant) in
    listed-without c.self.inside.pool c.remove.new.self c.self.inside.jobs c.remove-in-Some.new.self c.args.a.0
    (c.job.result % c.max-lists.result) c.in-Some.action c.self.invariant below (sym c.remove.ensures.value ∙ c.in-Some.is)
    (ap (λ (m : ℕ). c.job.result % m) c.max-lists.ensures.value
    ∙ ap (λ (j : ℕ). j % max_of c.self.inside.pool) c.job.ensures) c.in-Some.ensures.removed c.remove-in-Some.ensures.new c.remove-in-Some.ensures.gone
