use Rattle.handle_pool.proofs.FreshLemmas.{used_made}
use Rattle.handle_pool.proofs.places.Places.used.Goals as goal

pub returns : goal.returns
returns g c = rw (← c.self.view_is, used_made, ← c.items.ensures) c.used.ensures
