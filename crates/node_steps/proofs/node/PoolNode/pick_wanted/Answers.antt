use Rattle.node_steps.proofs.Names.{sym, ◌∙◌, arith, state_of}
use Rattle.node_steps.proofs.PickSteps.{pick_idle, pick_takes}
use Rattle.node_steps.proofs.TowardSteps.{can_pick, is_found, is_taken}
use Rattle.node_steps.proofs.node.PoolNode.pick_wanted.Goals as goal

pub take-requires-clause-choice : goal.take-requires-clause-choice
take-requires-clause-choice c =
    let best = rw c.in-Some.is at c.chosen.ensures.best in
    best.0

pub returns-in-None-clause-steps : goal.returns-in-None-clause-steps
returns-in-None-clause-steps c l v = pick_idle c.args.self.now l c.args.who v c.is_kept.ensures (omega arith) (c.runs_any.ensures.reported l v
    ∙ c.if-runs_any.false) (sym c.if-is_new.ensures) (c.stops.ensures l v ∙ c.if-stops.false) (rw c.in-None.is at c.chosen.ensures.best)

pub returns-in-Some-clause-steps : goal.returns-in-Some-clause-steps
returns-in-Some-clause-steps c l v = pick_takes c.args.self.now l c.args.who v c.is_kept.ensures (omega arith) (c.runs_any.ensures.reported l v
    ∙ c.if-runs_any.false) (sym c.if-is_new.ensures) (c.stops.ensures l v
    ∙ c.if-stops.false) c.in-Some.choice c.take.result c.take.new.self (rw c.in-Some.is at c.chosen.ensures.best) c.take.ensures

pub returns-in-None-clause-toward : goal.returns-in-None-clause-toward
returns-in-None-clause-toward c task action l kind args e v m =
    let p = can_pick (state_of c.args.self.now l) c.args.who task action kind args m in
    let none = c.in-None.is in
    let some = is_found c.args.self.now l c.args.who v c.is_kept.ensures (omega arith) task action kind args p c.chosen.result
    (c.chosen.ensures.toward task action e) in
    absurd (cc (none, some))

pub returns-in-Some-clause-toward : goal.returns-in-Some-clause-toward
returns-in-Some-clause-toward c task action l kind args e v m =
    let n = c.args.self.now in
    let p = can_pick (state_of n l) c.args.who task action kind args m in
    is_taken n l c.args.who v c.is_kept.ensures (omega arith) task action kind args p c.in-Some.choice c.take.result c.take.new.self
    (rw (← c.in-Some.is) (c.chosen.ensures.toward task action e)) c.take.ensures
