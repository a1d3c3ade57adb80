use Rattle.history_law.proofs.Accepted.{closed_end}
use Rattle.history_law.proofs.law_end_after_close.Goals as goal

pub returns : goal.returns
returns c A B P Q e main last cut i = closed_end _ _ A B main c.requires last P Q e c.args.t.0 cut i
