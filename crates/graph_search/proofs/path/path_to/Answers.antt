use Rattle.std.proofs.Common.{arith, sym, subst}
use Rattle.graph_search.proofs.Visiting.{LeadsFrom, leads_at, leads_whole, reached_length, from_earlier, leads_further}
use Rattle.graph_search.proofs.path.path_to.Goals as goal

pub loop-at-init : goal.loop-at-init
loop-at-init g c =
    subst (LeadsFrom (g.G.Graph.has_steps c.args.graph.now) (g.G.Graph.opens c.args.graph.now) c.args.found.now.states.keys c.args.place c.args.place)
    (sym c.new-labels.ensures.items)
    (leads_at (g.G.Graph.has_steps c.args.graph.now) (g.G.Graph.opens c.args.graph.now) c.args.found.now.states.keys c.args.place c.requires.within)

pub index-origin-requires : goal.index-origin-requires
index-origin-requires g c =
    let n = reached_length (g.G.Graph.has_steps c.args.graph.now)
    (g.G.Graph.opens c.args.graph.now) c.args.found.now.states.keys c.args.found.now.origins.items c.requires.reached in
    omega (arith, n, c.loop-at.invariant.within, c.loop-at-test.true, c.args.found.now.origins.ok.0)

pub loop-at-smaller : goal.loop-at-smaller
loop-at-smaller g c =
    from_earlier (g.G.Graph.has_steps c.args.graph.now)
    (g.G.Graph.opens c.args.graph.now) c.args.found.now.states.keys c.args.found.now.origins.items c.requires.reached
    c.loop-at.at c.index-origin.result.now c.loop-at.invariant.within c.loop-at-test.true c.index-origin.ensures

pub loop-at-preserved : goal.loop-at-preserved
loop-at-preserved g c =
    leads_further (g.G.Graph.has_steps c.args.graph.now)
    (g.G.Graph.opens c.args.graph.now) c.args.found.now.states.keys c.args.found.now.origins.items c.requires.reached
    c.loop-at.at c.args.place c.index-origin.result.now c.loop-at.labels.items c.push.new.self.items c.loop-at-test.true c.index-origin.ensures
    c.in_ok-push.ensures.items c.loop-at.invariant

pub returns : goal.returns
returns g c =
    leads_whole (g.G.Graph.has_steps c.args.graph.now)
    (g.G.Graph.opens c.args.graph.now) c.args.found.now.states.keys c.args.found.now.origins.items c.requires.reached
    c.loop-at.at c.args.place c.loop-at.labels.items c.reverse.new.self.items (omega arith) c.reverse.ensures.items c.loop-at.invariant
