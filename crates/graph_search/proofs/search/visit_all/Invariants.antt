use Rattle.std.proofs.Common.{◌≡◌, vec_len}
use Rattle.graph_search.specs.Visiting.{visits, visit_steps}
use Rattle.graph_search.proofs.search.visit_all.Given as goal

abbrev pub invariant-loop-step : goal.invariant-loop-step
invariant-loop-step g l =
    visit_steps g.S.PartialEq.eq l.from l.steps.items (visits l.states.keys l.origins.items)
    ≡ visit_steps g.S.PartialEq.eq l.from l.initial.steps.items (visits l.initial.states.keys l.initial.origins.items)

abbrev pub decreases-loop-step : goal.decreases-loop-step
decreases-loop-step g l = vec_len l.steps
