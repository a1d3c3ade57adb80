use Rattle.action_fn.proofs.Numbers.{fitting_from_ok}
use Rattle.action_fn.proofs.actions.signed.Goals as goal

pub returns : goal.returns
returns c = fitting_from_ok _ _ _ c.try_from.ensures c.ok.ensures.value
