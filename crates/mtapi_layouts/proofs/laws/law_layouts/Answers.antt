use Rattle.mtapi_machine.specs.State.{opening}
use Rattle.mtapi_layouts.proofs.Handles.{outer-inward}
use Rattle.mtapi_layouts.proofs.Histories.{step_turns, opening_turns, history_turns, history_named, pends_turned}
use Rattle.mtapi_layouts.proofs.laws.law_layouts.Goals as goal

pub returns-clause-step : goal.returns-clause-step
returns-clause-step c s who op r two n small a = step_turns s who op r two n small a

pub returns-clause-start : goal.returns-clause-start
returns-clause-start c terms = opening_turns terms

pub returns-clause-history : goal.returns-clause-history
returns-clause-history c terms L two small l = history_turns terms L two small l

pub returns-clause-named : goal.returns-clause-named
returns-clause-named c terms L two = history_named (opening terms) L two (opening_turns terms).named

pub returns-clause-back : goal.returns-clause-back
returns-clause-back c k h v = outer-inward k h v

pub returns-clause-pending : goal.returns-clause-pending
returns-clause-pending c s who op n = pends_turned s who op n
