use Rattle.mtapi_machine.proofs.Names.{◌∷◌, opening, start_numbers, after, []}
use Rattle.mtapi_machine.proofs.StartOrder.{after_numbered, rises-front}
use Rattle.mtapi_machine.proofs.laws.law_start_order.Goals as goal

pub returns : goal.returns
returns c terms L h = let s = after terms L in rises-front (start_numbers s.tasks) (s.starts ∷ []) (after_numbered (opening terms) L (tt, tt))
