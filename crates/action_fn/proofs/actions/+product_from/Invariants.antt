use Rattle.std.proofs.Common.{length}
use Rattle.action_fn.proofs.actions.+product_from.Given as goal

abbrev pub decreases-product_from : goal.decreases-product_from
decreases-product_from l = length l.values.now
