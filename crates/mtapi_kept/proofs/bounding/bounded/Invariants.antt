use Rattle.std.proofs.Common.{length}
use Rattle.mtapi_kept.proofs.bounding.bounded.Given as goal

abbrev pub decreases-lines : goal.decreases-lines
decreases-lines l = length l.left
