use Rattle.graph_search.specs.Visiting.{visits, IsSearched}
use Rattle.graph_search.proofs.search.follow_each.Given as goal

abbrev pub invariant-loop-place : goal.invariant-loop-place
invariant-loop-place g l =
    IsSearched (g.G.Graph.has_steps l.graph) (g.G.Graph.opens l.graph) g.G.State.PartialEq.eq l.place
    (visits l.found.states.keys l.found.origins.items) l.found.stops.items
