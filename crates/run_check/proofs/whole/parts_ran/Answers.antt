use Rattle.run_check.proofs.Names.{lines_of}
use Rattle.run_check.proofs.Several.{and_callers}
use Rattle.run_check.proofs.whole.parts_ran.Goals as goal

pub returns : goal.returns
returns c = and_callers (λ w. lines_of w c.args.entries.now c.args.skipped.now) c.args.main c.args.parts.now c.part-item.result c.in_ok-rest_ran.rest_ran
    c.in-len1-up.len_at_least c.part-item.is (c.in_ok-main_made.ensures.0 c.if-not-branch.false) c.in_ok-rest_ran.ensures
