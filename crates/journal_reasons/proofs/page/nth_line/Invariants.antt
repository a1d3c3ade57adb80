use Rattle.std.proofs.Common.{◌≡◌}
use Rattle.number_text.specs.Lists.{between}
use Rattle.journal_reasons.specs.Pages.{nth_line}
use Rattle.journal_reasons.proofs.page.nth_line.Given as goal

abbrev pub invariant-lines : goal.invariant-lines
invariant-lines l = nth_line (between 10 l.left) l.above ≡ nth_line (between 10 l.fn.text) l.fn.number

abbrev pub decreases-lines : goal.decreases-lines
decreases-lines l = l.above
