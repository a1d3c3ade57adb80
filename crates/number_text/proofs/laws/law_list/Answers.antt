use Rattle.number_text.proofs.Reading.{list_fits}
use Rattle.number_text.proofs.laws.law_list.Goals as goal

pub returns-clause-range : goal.returns-clause-range
returns-clause-range c = list_fits
