use Rattle.group_core.proofs.Names.{subst, GroupTable, LiveAreUsed}
use Rattle.group_core.proofs.GroupLemmas.{live-used}
use Rattle.group_core.proofs.Groups.is_kept.Goals as goal

pub returns : goal.returns
returns c = subst (λ (t : GroupTable). LiveAreUsed t.pool) c.self.view_is
    (live-used c.self.inside.pool c.self.inside.unended c.self.inside.ended c.self.invariant)
