use Rattle.node_steps.proofs.Names.{sym, ◌∙◌}
use Rattle.node_steps.proofs.TowardSteps.{wanted_task, wanted_action, one_priority, same_priority}
use Rattle.node_steps.proofs.node.PoolNode.chosen.Goals as goal

pub returns-in_default-choice_of-clause-toward : goal.returns-in_default-choice_of-clause-toward
returns-in_default-choice_of-clause-toward c task action e d is by x better =
    let n = c.args.self.now in
    let wants = sym c.in-Some-wanted.is ∙ e in
    let best = rw c.in-Some.is at c.best.ensures in
    let found = rw c.in-Some-choice_of.is at c.choice_of.ensures in
    absurd (c.if-choice-best.false (same_priority n c.args.who c.in-Some-choice_of.choice d (found.0 ∙ wanted_task wants ∙ sym is) found.2 x
    ∙ one_priority n c.args.who c.in-Some.best d best x better))

pub returns-in_default-choice_of-2-clause-toward : goal.returns-in_default-choice_of-2-clause-toward
returns-in_default-choice_of-2-clause-toward c task action e d is by x better =
    let n = c.args.self.now in
    let wants = sym c.in-Some-wanted.is ∙ e in
    let none = rw c.in_default-choice_of.is at c.choice_of.ensures in
    absurd (none d (is ∙ sym (wanted_task wants)) (by ∙ sym (wanted_action wants)) x)
