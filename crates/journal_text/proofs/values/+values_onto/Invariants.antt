use Rattle.std.proofs.Common.{length}
use Rattle.journal_text.proofs.values.+values_onto.Given as goal

abbrev pub decreases-values_onto : goal.decreases-values_onto
decreases-values_onto l = length l.shapes.now
