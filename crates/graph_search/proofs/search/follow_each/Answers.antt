use Rattle.std.proofs.Common.{arith}
use Rattle.graph_search.specs.Visiting.{visits}
use Rattle.graph_search.proofs.Visiting.{searched_on, searched_all}
use Rattle.graph_search.proofs.search.follow_each.Goals as goal

pub loop-place-preserved : goal.loop-place-preserved
loop-place-preserved g c =
    searched_on (g.G.Graph.has_steps c.args.graph.now) (g.G.Graph.opens c.args.graph.now) g.G.State.PartialEq.eq g.met.G.State.Eq.laws.refl c.loop-place.place
    (visits c.loop-place.found.states.keys c.loop-place.found.origins.items) (visits c.follow.new.found.states.keys c.follow.new.found.origins.items)
    c.loop-place.found.stops.items c.follow.new.found.stops.items c.loop-place.invariant c.in_ok-follow.ensures

pub returns-then-place-count : goal.returns-then-place-count
returns-then-place-count g c =
    searched_all (g.G.Graph.has_steps c.args.graph.now)
    (g.G.Graph.opens c.args.graph.now) g.G.State.PartialEq.eq g.met.G.State.Eq.laws.refl c.loop-place.place c.args.most
    (visits c.loop-place.found.states.keys c.loop-place.found.origins.items) c.loop-place.found.stops.items c.loop-place.invariant (λ h. omega arith)

pub returns : goal.returns
returns g c =
    searched_all (g.G.Graph.has_steps c.args.graph.now)
    (g.G.Graph.opens c.args.graph.now) g.G.State.PartialEq.eq g.met.G.State.Eq.laws.refl c.loop-place.place c.args.most
    (visits c.loop-place.found.states.keys c.loop-place.found.origins.items) c.loop-place.found.stops.items c.loop-place.invariant (λ h. omega arith)
