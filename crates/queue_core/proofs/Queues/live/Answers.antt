use Rattle.std.proofs.Common.{ap, sym, ◌∙◌}
use Rattle.handle_pool.specs.Slots.{live_count}
use Rattle.linked_places.proofs.BesideLemmas.{live_count-beside}
use Rattle.queue_core.specs.Held.{QueueTable, held}
use Rattle.queue_core.proofs.Queues.live.Goals as goal

pub returns : goal.returns
returns c =
    c.live.ensures
    ∙ sym (live_count-beside held c.self.inside.pool.slots c.self.inside.tasks.lists)
    ∙ ap (λ (t : QueueTable). live_count t.pool) c.self.view_is
