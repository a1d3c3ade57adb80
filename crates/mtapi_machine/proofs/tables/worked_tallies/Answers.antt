use Rattle.mtapi_machine.proofs.Names.{replay, live_of, issue, change, change_all, listed, issued_at, retired, is_full, may_issue, fits, answer_of, has_worker, end_each, endings, is_ready, can_take, has_better}
use Rattle.mtapi_machine.specs.WorkedTallies.{both_added, no_cell, bad_tallies, too_great, five_arguments}
use Rattle.mtapi_machine.proofs.Lines.{worked, wrong_differ}
use Rattle.mtapi_machine.proofs.tables.worked_tallies.Goals as goal

pub returns : goal.returns
unfolding both_added no_cell bad_tallies too_great five_arguments replay wrong_differ live_of issue change change_all listed issued_at retired is_full
    may_issue fits answer_of has_worker end_each endings is_ready can_take has_better
returns c = search worked
