use Rattle.mtapi_machine.proofs.Names.{replay, live_of, issue, change, change_all, listed, issued_at, retired, is_full, may_issue, fits, answer_of, has_worker, end_each, endings, is_ready, can_take, has_better}
use Rattle.mtapi_machine.specs.WorkedTasks.{starts_refused, looks_refused, one_waiter, cancelled_table, place_retires, no_core}
use Rattle.mtapi_machine.proofs.Lines.{worked, wrong_differ}
use Rattle.mtapi_machine.proofs.tables.worked_tasks.Goals as goal

pub returns : goal.returns
unfolding starts_refused looks_refused one_waiter cancelled_table place_retires no_core replay wrong_differ live_of issue change change_all listed issued_at
    retired
    is_full may_issue fits answer_of has_worker end_each endings is_ready can_take has_better
returns c = search worked
