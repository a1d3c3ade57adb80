use Rattle.mtapi_machine.proofs.Names.{replay, live_of, issue, change, change_all, listed, issued_at, retired, is_full, may_issue, fits, answer_of, has_worker, end_each, endings, is_ready, can_take, has_better, skipped}
use Rattle.mtapi_machine.specs.WorkedQueues.{queues_made, puts_refused, retained, retained_cancelled, retained_deleted, third_refused, enabled_left, not_retained, queue_deleted_table, queue_priority}
use Rattle.mtapi_machine.proofs.Lines.{worked, wrong_differ}
use Rattle.mtapi_machine.proofs.tables.worked_queues.Goals as goal

pub returns : goal.returns
unfolding queues_made puts_refused retained retained_cancelled retained_deleted third_refused enabled_left not_retained queue_deleted_table queue_priority
    replay
    wrong_differ live_of issue change change_all listed issued_at retired is_full may_issue fits answer_of has_worker end_each endings is_ready can_take
    has_better skipped
returns c = search worked
