use Rattle.typed_pieces.proofs.WorkedRows.{gives, levels, results, runs, waits}
use Rattle.typed_pieces.proofs.worked.worked_pieces.Goals as goal

pub returns : goal.returns
returns c = record { results = results; waits = waits; gives = gives; levels = levels; runs = runs }
