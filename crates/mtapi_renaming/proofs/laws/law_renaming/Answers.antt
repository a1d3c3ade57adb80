use Rattle.mtapi_renaming.proofs.Steps.{step_renames, lives_alike, start_renames}
use Rattle.mtapi_renaming.proofs.laws.law_renaming.Goals as goal

pub returns-clause-answered : goal.returns-clause-answered
returns-clause-answered c g x s who op r n i = step_renames g x s who op r n i

pub returns-clause-live : goal.returns-clause-live
returns-clause-live c g x s k n = lives_alike g x s k n

pub returns-clause-opening : goal.returns-clause-opening
returns-clause-opening c x terms = start_renames x terms
