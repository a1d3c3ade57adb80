-- The two whole runs, by computing.
use Rattle.mtapi_machine.proofs.Names.{rules, refl, Fits, fits, answer_of, live_of, issue, change, listed, issued_at, retired, is_full, may_issue, has_worker, end_each, is_ready, can_take, has_better, Legal, replay}
use Rattle.mtapi_machine.specs.Worked.{usual, nothing_asked, one_task}
use Rattle.mtapi_machine.proofs.Replays.{is_at_most, legal_if}

usual_fits : Fits usual
usual_fits = search (rules, is_at_most)

pub nothing_asked-legal : Legal usual nothing_asked
unfolding nothing_asked replay live_of issue change listed issued_at retired is_full may_issue fits answer_of has_worker end_each is_ready can_take has_better
nothing_asked-legal = record { fits = usual_fits; from = legal_if _ _ refl }

pub one_task-legal : Legal usual one_task
unfolding one_task replay live_of issue change listed issued_at retired is_full may_issue fits answer_of has_worker end_each is_ready can_take has_better
one_task-legal = record { fits = usual_fits; from = legal_if _ _ refl }
