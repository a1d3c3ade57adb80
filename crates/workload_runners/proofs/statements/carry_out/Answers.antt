use Rattle.workload_runners.proofs.Names.{[], ◌++◌, ◌∙◌, ◌∷◌, AddsOwn, CarriedAs, List, StatedAs, Statement, ap, call_of, subst, sym, take, take_at_read, ℕ}
use Rattle.workload_runners.proofs.CarryLemmas.{SoFar, none_so_far, more_so_far, carried_out, all_taken}
use Rattle.workload_runners.proofs.statements.carry_out.Goals as goal

pub loop-statement-init : goal.loop-statement-init
loop-statement-init g c = none_so_far c.args.seat.now c.args.bound.now.items

pub loop-statement-preserved : goal.loop-statement-preserved
loop-statement-preserved g c =
    let a = c.args.seat.now in
    let b = c.state.new.seat in
    let k = c.loop-statement.statement-index in
    let first = c.args.bound.now.items in
    let stated = subst (λ (l : List ℕ). AddsOwn
    (StatedAs (call_of l c.statement-item.result.deed) c.in-Ok.handle) c.loop-statement.seat b) c.deref.ensures.value c.in-Ok.ensures.stated in
    let x = more_so_far a c.loop-statement.seat b first c.loop-statement.bound.items
    (take k c.args.statements.now) c.statement-item.result c.in-Ok.handle c.loop-statement.invariant stated in
    let y = subst (λ (l : List ℕ). AddsOwn (SoFar first l (take k c.args.statements.now ++ c.statement-item.result ∷ [])) a b)
    (sym c.in-Ok-push.ensures.items) x in
    subst (λ (d : List Statement). AddsOwn (SoFar first c.push.new.self.items d) a b)
    (ap (λ z. take k c.args.statements.now ++ z ∷ []) c.statement-item.is
    ∙ sym (take_at_read c.args.statements.now k c.statement-item.result c.loop-statement-test.true).1) y

pub returns-clause-carried : goal.returns-clause-carried
returns-clause-carried g c =
    subst (λ (ss : List Statement). AddsOwn (CarriedAs c.args.bound.now.items ss) c.args.seat.now c.loop-statement.seat)
    (all_taken c.args.statements.now c.loop-statement.statement-index c.loop-statement-test.false) (carried_out _ _ _ _ _ c.loop-statement.invariant)
