use Rattle.node_steps.proofs.Names.{sym, ◌∙◌, ap, ◌&&◌, ℕ, in_mask, some_below, AllDisabled, Cores}
use Rattle.node_steps.proofs.StartSteps.{refused_job, refused_group, refused_disabled, refused_core, refused_none, disabled_not_none, cores_not_none}
use Rattle.node_steps.proofs.node.PoolNode.start_refusal.Goals as goal

pub returns-in-NoAction-clause-first : goal.returns-in-NoAction-clause-first
returns-in-NoAction-clause-first c l args priority detached v =
    refused_job c.args.self.now l c.args.job args priority c.args.cores detached c.args.group v (rw c.in-NoAction.is at c.cover.ensures)

pub returns-then-dead-clause-first : goal.returns-then-dead-clause-first
returns-then-dead-clause-first c l args priority detached v =
    refused_group c.args.self.now l c.args.job args priority c.args.cores detached c.args.group v AllDisabled
    (rw c.in-AllDisabled.is at c.cover.ensures) disabled_not_none (sym c.names_dead-dead.ensures ∙ c.if-dead.true)

pub returns-else-dead-clause-first : goal.returns-else-dead-clause-first
returns-else-dead-clause-first c l args priority detached v =
    refused_disabled c.args.self.now l c.args.job args priority c.args.cores detached c.args.group v (rw c.in-AllDisabled.is at c.cover.ensures)
    (sym c.names_dead-dead.ensures ∙ c.if-dead.false)

pub returns-then-dead-2-clause-first : goal.returns-then-dead-2-clause-first
returns-then-dead-2-clause-first c l args priority detached v =
    refused_group c.args.self.now l c.args.job args priority c.args.cores detached c.args.group v (Cores c.in-Cores.mask) (rw c.in-Cores.is at c.cover.ensures)
    (cores_not_none c.in-Cores.mask) (sym c.names_dead-dead.ensures ∙ c.if-dead-2.true)

pub returns-then-share_core-clause-first : goal.returns-then-share_core-clause-first
returns-then-share_core-clause-first c l args priority detached v =
    refused_none c.args.self.now l c.args.job args priority c.args.cores detached c.args.group v c.in-Cores.mask (rw c.in-Cores.is at c.cover.ensures)
    (sym c.names_dead-dead.ensures ∙ c.if-dead-2.false)
    (ap (λ (w : ℕ). some_below w (λ k. in_mask k c.in-Cores.mask.0 && in_mask k c.args.cores.0)) (sym c.workers.ensures.value)
    ∙ (c.share_core.ensures ∙ c.if-share_core.true))

pub returns-else-share_core-clause-first : goal.returns-else-share_core-clause-first
returns-else-share_core-clause-first c l args priority detached v =
    refused_core c.args.self.now l c.args.job args priority c.args.cores detached c.args.group v c.in-Cores.mask (rw c.in-Cores.is at c.cover.ensures)
    (sym c.names_dead-dead.ensures ∙ c.if-dead-2.false)
    (ap (λ (w : ℕ). some_below w (λ k. in_mask k c.in-Cores.mask.0 && in_mask k c.args.cores.0)) (sym c.workers.ensures.value)
    ∙ (c.share_core.ensures ∙ c.if-share_core.false))
