use Rattle.mtapi_machine.proofs.Names.{subst, sym, State, Grows, after}
use Rattle.mtapi_machine.proofs.Lists.{after-append}
use Rattle.mtapi_machine.proofs.Ends.{after_grows}
use Rattle.mtapi_machine.proofs.laws.law_tasks_stay.Goals as goal

pub returns : goal.returns
returns c terms L M h = subst (λ (s : State). Grows (after terms L).tasks s.tasks) (sym (after-append _ L M)) (after_grows _ M)
