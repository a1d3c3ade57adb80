use Rattle.keyed_pool.proofs.IndexLemmas.{each}
use Rattle.keyed_pool.proofs.KeyedPool.get.Goals as goal

pub returns-clause-only : goal.returns-clause-only
returns-clause-only g c = rw (← c.self.view_is) (each g.T.HasId.id_of c.self.inside.pool _ _ _ c.self.invariant)
