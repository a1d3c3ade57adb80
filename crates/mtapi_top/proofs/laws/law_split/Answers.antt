use Rattle.journal_text.proofs.Splits.{some_split, same_split}
use Rattle.mtapi_top.proofs.laws.law_split.Goals as goal

pub returns-clause-some : goal.returns-clause-some
returns-clause-some c = some_split

pub returns-clause-one : goal.returns-clause-one
returns-clause-one c = same_split
