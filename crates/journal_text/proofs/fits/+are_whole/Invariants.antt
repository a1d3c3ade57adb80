use Rattle.std.proofs.Common.{length}
use Rattle.journal_text.proofs.fits.+are_whole.Given as goal

abbrev pub decreases-are_whole : goal.decreases-are_whole
decreases-are_whole l = length l.numbers.now
