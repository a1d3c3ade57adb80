use Rattle.mrapi_shmem.proofs.Stores.{updates_keep}
use Rattle.mrapi_shmem.proofs.Segments.set_number.Goals as goal

pub invariant_of-self : goal.invariant_of-self
invariant_of-self c = updates_keep _ _ c.args.s.0 c.self.inside.pool c.update.new.self c.update.result _ _ c.self.invariant c.update.ensures
