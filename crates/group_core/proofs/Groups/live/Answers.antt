use Rattle.group_core.proofs.Names.{ap, sym, ◌∙◌, live_count, GroupTable}
use Rattle.group_core.proofs.GroupLemmas.{live_count-members}
use Rattle.group_core.proofs.Groups.live.Goals as goal

pub returns : goal.returns
returns c =
    c.live.ensures.value
    ∙ sym (live_count-members c.self.inside.pool c.self.inside.unended c.self.inside.ended)
    ∙ ap (λ (t : GroupTable). live_count t.pool) c.self.view_is
