use Rattle.history_law.proofs.tallies.TallySteps.{holds_the_sum}
use Rattle.history_law.proofs.law_tally.Goals as goal

pub returns : goal.returns
returns c A B main id x cut found inside w k = holds_the_sum _ _ c.args.s.0 c.args.cell c.requires A B main id x cut found inside w k
