use Rattle.run_check.proofs.Names.{subst, ℕ, List, Reply, call_of, Line, Takes}
use Rattle.run_check.proofs.Reached.{one_more, none_more, at_end}
use Rattle.run_check.proofs.made.carried.Goals as goal

pub returns-in-None-clause-none : goal.returns-in-None-clause-none
returns-in-None-clause-none c =
    none_more c.args.statements.now c.args.lines.now c.loop-statement.bound.items c.loop-statement.rest.now c.loop-statement.statement-index
    c.statement-item.result
    c.loop-statement-test.true c.statement-item.is c.loop-statement.invariant
    (subst (λ (b : List ℕ). (left : List Line) (r : Reply) → Takes (call_of b c.statement-item.result.deed) c.loop-statement.rest.now left r
    → ⊥) c.deref.ensures.value c.in-None.ensures.none)

pub loop-statement-preserved : goal.loop-statement-preserved
loop-statement-preserved c =
    let some = c.in-Some.ensures.some in
    one_more c.args.statements.now c.args.lines.now c.loop-statement.bound.items c.loop-statement.rest.now c.loop-statement.statement-index
    c.statement-item.result
    c.loop-statement-test.true c.statement-item.is c.loop-statement.invariant c.in-Some.left.now some.0 c.in-Some.handle c.push.new.self.items
    (subst (λ (b : List ℕ). Takes (call_of b c.statement-item.result.deed) c.loop-statement.rest.now c.in-Some.left.now some.0) c.deref.ensures.value some.1)
    some.2 c.in_ok-push-in-Some.ensures.items

pub returns-clause-some : goal.returns-clause-some
returns-clause-some c = at_end c.args.statements.now c.args.lines.now c.loop-statement.bound.items c.loop-statement.rest.now c.loop-statement.statement-index
    (c.loop-statement-test.false) c.loop-statement.invariant
