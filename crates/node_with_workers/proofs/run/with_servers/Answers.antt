use Rattle.node_with_workers.proofs.Lemmas.{shown_causes, shown_unbegun, some_refused}
use Rattle.node_with_workers.proofs.run.with_servers.Goals as goal

pub shown-requires : goal.shown-requires
shown-requires g c = some_refused c.in-Err.failure _ _ c.new-beside.ensures.none c.in-Err.ensures.counts

pub returns-in-Err-clause-causes : goal.returns-in-Err-clause-causes
returns-in-Err-clause-causes g c = shown_causes _ c.in-Err.failure c.shown.result c.shown.ensures c.in-Err.ensures.causes

pub returns-in-Err-clause-unbegun : goal.returns-in-Err-clause-unbegun
returns-in-Err-clause-unbegun g c = shown_unbegun c.args.settings.workers c.in-Err.failure c.shown.result c.shown.ensures c.in-Err.ensures.unbegun
