use Rattle.std.proofs.Common.{sym}
use Rattle.handle_pool.proofs.FreshLemmas.{length-made}
use Rattle.handle_pool.proofs.places.Places.len.Goals as goal

pub returns : goal.returns
returns g c = rw (← c.self.view_is) (sym (length-made _ _ _ c.self.invariant.0 c.self.invariant.1))
