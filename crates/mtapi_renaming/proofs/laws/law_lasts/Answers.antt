use Rattle.mtapi_renaming.proofs.LastMoves.{creates_make_last}
use Rattle.mtapi_renaming.proofs.laws.law_lasts.Goals as goal

pub returns-clause-created : goal.returns-clause-created
returns-clause-created c s who op k h i a = creates_make_last s who h op k i a
