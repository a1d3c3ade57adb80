use Rattle.node_steps.proofs.Names.{Bool, cond, List, [], ◌∷◌, ◌++◌, Some, None, sym, ap, ◌∙◌, ◌==◌, eq-eqb, ne_eqb, first, MtapiStatus, asked_for, start_refusals, state_of}
use Rattle.mtapi_values.specs.declared.statuses.MtapiStatus.TheVariants as m
use Rattle.node_steps.proofs.QueueSteps.{first_some, first_none}
use Rattle.node_steps.proofs.node.PoolNode.put_refusal.Goals as goal

pub returns-in-Some-clause-refused : goal.returns-in-Some-clause-refused
returns-in-Some-clause-refused c l args priority detached v =
    let f = c.args.facts in
    let xs = start_refusals (state_of c.args.self.now l) (asked_for f.job args priority c.args.cores detached c.args.group) in
    let ys : List (Bool × MtapiStatus) = (f.unended == f.limit, m.ErrQueueLimit) ∷ [] in
    ap (λ (b : Bool). cond b (Some m.ErrQueueDisabled) (first (xs ++ ys))) (sym c.if-is_shut.ensures)
    ∙ first_some xs ys c.in-Some.status (c.start_refusal.ensures.first l args priority detached v ∙ c.in-Some.is)

pub returns-then-facts-clause-refused : goal.returns-then-facts-clause-refused
returns-then-facts-clause-refused c l args priority detached v =
    let f = c.args.facts in
    let xs = start_refusals (state_of c.args.self.now l) (asked_for f.job args priority c.args.cores detached c.args.group) in
    let ys : List (Bool × MtapiStatus) = (f.unended == f.limit, m.ErrQueueLimit) ∷ [] in
    ap (λ (b : Bool). cond b (Some m.ErrQueueDisabled) (first (xs ++ ys))) (sym c.if-is_shut.ensures)
    ∙ first_none xs ys (c.start_refusal.ensures.first l args priority detached v ∙ c.in_default.is)
    ∙ ap (λ (b : Bool). cond b (Some m.ErrQueueLimit) None) (eq-eqb f.unended f.limit c.if-facts.true)

pub returns-clause-refused : goal.returns-clause-refused
returns-clause-refused c l args priority detached v =
    let f = c.args.facts in
    let xs = start_refusals (state_of c.args.self.now l) (asked_for f.job args priority c.args.cores detached c.args.group) in
    let ys : List (Bool × MtapiStatus) = (f.unended == f.limit, m.ErrQueueLimit) ∷ [] in
    ap (λ (b : Bool). cond b (Some m.ErrQueueDisabled) (first (xs ++ ys))) (sym c.if-is_shut.ensures)
    ∙ first_none xs ys (c.start_refusal.ensures.first l args priority detached v ∙ c.in_default.is)
    ∙ ap (λ (b : Bool). cond b (Some m.ErrQueueLimit) None) (ne_eqb f.unended f.limit c.if-facts.false)
