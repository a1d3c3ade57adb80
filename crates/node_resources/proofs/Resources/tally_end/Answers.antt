use Rattle.node_resources.proofs.Names.{sym, subst, [], ◌∷◌, false, unlocked, with_attached, Mutexes, Segments, alters, after_moves, ResourceTable, ResourcesStand, the_view}
use Rattle.node_resources.proofs.TallyLemmas.{gives_stand}
use Rattle.node_resources.proofs.Resources.tally_end.Goals as goal

pub returns-clause-ends : goal.returns-clause-ends
returns-clause-ends c s x v f o d =
    let p = c.self.inside in
    let w = subst (λ (t : ResourceTable). ResourcesStand s t) (sym c.self.view_is) v in
    subst (λ (t : ResourceTable). ResourcesStand (after_moves (alters Segments c.args.segment.0 (with_attached c.args.who false)
    ∷ alters Mutexes c.args.mutex.0 unlocked ∷ []) s) t)
    (λ i. record (the_view p) { mutexes = sym c.unlock.ensures.new i; segments = sym c.detach.ensures.new i })
    (gives_stand s (the_view p) c.args.who c.args.mutex.0 c.args.segment.0 x w f o d)

pub returns-clause-new : goal.returns-clause-new
returns-clause-new c =
    let p = c.self.inside in
    rw (← c.self.view_is) (λ i. record (the_view p) { mutexes = c.unlock.ensures.new i; segments = c.detach.ensures.new i })
