use Rattle.graph_search.proofs.Visiting.{LeadsFrom}
use Rattle.graph_search.proofs.path.path_to.Given as goal

abbrev pub invariant-loop-at : goal.invariant-loop-at
invariant-loop-at g l = LeadsFrom (g.G.Graph.has_steps l.graph) (g.G.Graph.opens l.graph) l.found.states.keys l.at l.place l.labels.items

abbrev pub decreases-loop-at : goal.decreases-loop-at
decreases-loop-at g l = l.at
