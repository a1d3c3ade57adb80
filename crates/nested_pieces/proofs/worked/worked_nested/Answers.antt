use Rattle.nested_pieces.proofs.WorkedRows.{rounds, works}
use Rattle.nested_pieces.proofs.worked.worked_nested.Goals as goal

pub returns-clause-works : goal.returns-clause-works
returns-clause-works c = works

pub returns-clause-rounds : goal.returns-clause-rounds
returns-clause-rounds c = rounds
