use Rattle.mtapi_renaming.proofs.Verdicts.{judged}
use Rattle.mtapi_renaming.proofs.laws.law_verdicts.Goals as goal

pub returns : goal.returns
returns c = judged
