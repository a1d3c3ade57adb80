use Rattle.mtapi_renaming.proofs.CountRows.{creates_make_one}
use Rattle.mtapi_renaming.proofs.LastMoves.{terms_after}
use Rattle.mtapi_renaming.proofs.laws.law_counts.Goals as goal

pub returns-clause-created : goal.returns-clause-created
returns-clause-created c s who op k h i a = creates_make_one s who h op k i a

pub returns-clause-terms : goal.returns-clause-terms
returns-clause-terms c terms L = terms_after terms L
