use Rattle.history_law.proofs.Reuse.{never_again}
use Rattle.history_law.proofs.law_no_reuse.Goals as goal

pub returns : goal.returns
returns c P M N R cut live dead = never_again _ _ c.args.kind c.args.h c.requires P M N R cut live dead
