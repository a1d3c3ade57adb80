use Rattle.history_law.proofs.tallies.Attends.{tallies_hold}
use Rattle.history_law.proofs.law_tally_holds.Goals as goal

pub returns : goal.returns
returns c terms L l h w t e r b = tallies_hold terms L l h w t e r b
