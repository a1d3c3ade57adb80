use Rattle.mtapi_renaming.proofs.Names.{refl, rules, first_illegal, refusal_in, lasts_in, after_from, inside, live_of, issue, change, change_all, listed, issued_at, retired, is_full, may_issue, fits, answer_of, has_worker, end_each, is_ready, can_take, has_better}
use Rattle.mtapi_renaming.proofs.laws.worked_renaming.Goals as goal

pub returns-clause-verdicts : goal.returns-clause-verdicts
unfolding first_illegal live_of issue change change_all listed issued_at retired is_full may_issue fits answer_of has_worker end_each is_ready can_take
    has_better
returns-clause-verdicts c = search rules

pub returns-clause-renaming : goal.returns-clause-renaming
unfolding first_illegal after_from inside live_of issue change change_all listed issued_at retired is_full may_issue fits answer_of has_worker end_each
    is_ready can_take has_better
returns-clause-renaming c = record { own = refl; other = refl; actions = refl; tasks = refl }

pub returns-clause-refusals : goal.returns-clause-refusals
unfolding first_illegal refusal_in after_from live_of issue change listed issued_at retired is_full may_issue
returns-clause-refusals c = search rules

pub returns-clause-lasts : goal.returns-clause-lasts
unfolding first_illegal lasts_in after_from live_of issue change listed issued_at retired is_full may_issue
returns-clause-lasts c = search rules
