use Rattle.mtapi_machine.proofs.Worked.{nothing_asked-legal, one_task-legal}
use Rattle.mtapi_machine.proofs.tables.worked_histories.Goals as goal

pub returns : goal.returns
returns c = record { nothing_asked_legal = nothing_asked-legal; one_task_legal = one_task-legal }
