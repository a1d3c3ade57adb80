-- The worked workloads, computed.
use Rattle.settled_runs.proofs.Names.{rules, digits, fits, answer_of, numbers_text, end_text, task_in, plain_end, plain_fault, faults_behind, plain_call_line, plain_calls_from, plain_report, is_settled_deed, are_settled, sets_up_first, has_one_kind_a_job, has_different_ids, keep_limits, have_one_fault_a_group, is_settled, is_begin, has_begin, live_of, issue, change, listed, issued_at, retired, is_full, may_issue, has_worker, end_each, is_ready, can_take, has_better, after_from, end_at, one_task, decided, further_told, shown_of, task_lines_of, task_name, call_lines_of, report, with_tasks, with_parts, totals_text, totals, with_plain_tasks, with_plain_parts, plain_summary, WorkedSettled, WorkedUnsettled}

pub worked_settled : WorkedSettled
unfolding has_begin digits fits answer_of report totals totals_text with_tasks with_parts with_plain_tasks with_plain_parts plain_summary one_task after_from
    live_of issue change listed issued_at retired is_full may_issue has_worker end_each is_ready can_take has_better decided further_told end_at shown_of
    task_lines_of task_name call_lines_of numbers_text end_text task_in plain_end plain_fault faults_behind plain_call_line plain_calls_from plain_report
    is_settled_deed are_settled sets_up_first has_one_kind_a_job has_different_ids keep_limits have_one_fault_a_group is_settled is_begin
worked_settled = search rules

pub worked_unsettled : WorkedUnsettled
unfolding has_begin digits fits answer_of report one_task after_from live_of issue change listed issued_at retired is_full may_issue has_worker end_each
    is_ready can_take has_better decided further_told end_at shown_of task_lines_of task_name call_lines_of numbers_text end_text task_in plain_end plain_fault
    faults_behind plain_call_line plain_calls_from plain_report is_settled_deed are_settled sets_up_first has_one_kind_a_job has_different_ids keep_limits
    have_one_fault_a_group is_settled is_begin
worked_unsettled = search rules
