-- The worked reports, computed.
use Rattle.run_report.proofs.Names.{rules, digits, live_of, issue, change, listed, issued_at, retired, is_full, may_issue, has_worker, end_each, is_ready, can_take, has_better, after_from, has_begin, decided, further_told, end_at, shown_of, task_lines_of, task_name, call_lines_of, report, totals_text, with_parts}
use Rattle.action_fn.specs.Answers.{fits, answer_of}
use Rattle.mtapi_machine.specs.Worked.{one_task}
use Rattle.workload_file.specs.Deeds.{is_begin}
use Rattle.run_report.specs.Tasks.{numbers_text, end_text}
use Rattle.run_report.specs.Worked.{WorkedReports}
use Rattle.run_report.specs.WorkedLines.{WorkedShown, WorkedTaskEnds, WorkedReplies, WorkedReportLines}
unfoldable use Rattle.run_report.specs.Summary.{with_tasks}

pub worked_reports : WorkedReports
unfolding digits report one_task after_from live_of issue change listed issued_at retired is_full may_issue fits answer_of has_worker end_each is_ready can_take
    has_better is_begin has_begin decided further_told end_at numbers_text end_text shown_of task_lines_of task_name call_lines_of
worked_reports = search rules

worked_shown : WorkedShown
unfolding digits numbers_text end_text shown_of task_lines_of task_name call_lines_of
worked_shown = search rules

worked_ends : WorkedTaskEnds
unfolding digits numbers_text end_text shown_of task_lines_of totals_text with_parts with_tasks
worked_ends = search rules

worked_replies : WorkedReplies
unfolding is_begin has_begin decided further_told
worked_replies = search rules

pub worked_lines : WorkedReportLines
worked_lines = record { shown = worked_shown; ends = worked_ends; replies = worked_replies }
