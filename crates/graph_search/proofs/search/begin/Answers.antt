use Rattle.std.proofs.Common.{◌∙◌, ap}
use Rattle.indexmap.specs.IndexSet.{insert_key}
use Rattle.graph_search.proofs.Visiting.{begun}
use Rattle.graph_search.proofs.search.begin.Goals as goal

pub returns : goal.returns
returns g c =
    begun (g.G.Graph.has_steps c.args.graph.now)
    (g.G.Graph.opens c.args.graph.now) g.G.State.PartialEq.eq c.insert.new.self.keys c.new.result.items c.new-2.result.items
    c.in_ok-opening.opening c.in_ok-opening.ensures
    (c.in_ok-insert.ensures.keys ∙ ap (λ ks. insert_key g.G.State.PartialEq.eq ks c.in_ok-opening.opening) c.new-states.ensures.empty)
    c.new.ensures.items c.new-2.ensures.items
