use Rattle.mtapi_renaming.proofs.Refusals.{refusals_stay}
use Rattle.mtapi_renaming.proofs.Picks.{pick_takes}
use Rattle.mtapi_renaming.proofs.laws.law_refusals.Goals as goal

pub returns-clause-stay : goal.returns-clause-stay
returns-clause-stay c s who op k r i a e = refusals_stay s who op k r i a e

pub returns-clause-picks : goal.returns-clause-picks
returns-clause-picks c s who t a kind args r i j = pick_takes s who t a kind args r i j
