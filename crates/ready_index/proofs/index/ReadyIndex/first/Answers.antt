use Rattle.std.proofs.Common.{◌<◌, length}
use Rattle.ready_index.proofs.MarkLemmas.{none_found_in}
use Rattle.ready_index.proofs.index.ReadyIndex.first.Goals as goal

pub returns-clause-none : goal.returns-clause-none
returns-clause-none g c =
    let within : c.args.worker < length c.self.inside.workers.items = rw (← c.self.view_is) at c.requires in
    rw (← c.self.view_is) (none_found_in c.self.inside.marks.items c.self.inside.workers.items c.self.inside.priorities c.args.worker c.index.result.now
    c.first.result c.self.invariant within c.index.ensures c.first.ensures.found c.first.ensures.none)
