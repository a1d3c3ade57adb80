use Rattle.std.proofs.Common.{length}
use Rattle.mtapi_kept.proofs.bounding.push_bounded.Given as goal

abbrev pub decreases-words : goal.decreases-words
decreases-words l = length l.left
