use Rattle.std.proofs.Common.{◌∙◌, ap, sym}
use Rattle.graph_search.specs.Visiting.{visits, visit_steps}
use Rattle.graph_search.proofs.Visiting.{visit_steps-snoc}
use Rattle.graph_search.proofs.search.visit_all.Goals as goal

pub loop-step-preserved : goal.loop-step-preserved
loop-step-preserved g c =
    let eq = g.S.PartialEq.eq in
    let before = visits c.loop-step.states.keys c.loop-step.origins.items in
    ap (visit_steps eq c.args.from c.pop.new.self.items) c.in_ok-visit.ensures
    ∙ sym (visit_steps-snoc eq c.args.from c.pop.new.self.items c.in-Some.step before)
    ∙ ap (λ xs. visit_steps eq c.args.from xs before) (sym c.in-Some.ensures.items)
    ∙ c.loop-step.invariant
