use Rattle.mtapi_machine.proofs.Names.{arith, nat_tests, replay, live_of, issue, change, change_all, listed, issued_at, retired, is_full, may_issue, fits, answer_of, has_worker, end_each, endings, is_ready, can_take, has_better}
use Rattle.mtapi_machine.specs.WorkedLimits.{each_kind, each_resource, WorkedRanges}
use Rattle.mtapi_machine.proofs.Lines.{worked, wrong_differ}
use Rattle.mtapi_machine.proofs.tables.worked_limits.Goals as goal

ranges : WorkedRanges
ranges = grind (arith, nat_tests)

pub returns : goal.returns
unfolding each_kind each_resource replay wrong_differ live_of issue change change_all listed issued_at retired is_full may_issue fits answer_of has_worker
    end_each endings is_ready can_take has_better
returns c = search (worked, ranges)
