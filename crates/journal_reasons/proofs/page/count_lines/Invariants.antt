use Rattle.std.proofs.Common.{◌≡◌, ◌+◌, ◌≤◌, length}
use Rattle.number_text.specs.Lists.{between}
use Rattle.journal_reasons.proofs.page.count_lines.Given as goal

abbrev pub invariant-lines : goal.invariant-lines
invariant-lines l = record {
  so_far : l.count + length (between 10 l.left) ≡ length (between 10 l.fn.text) + 1;
  few : l.count + length l.left ≤ length l.fn.text + 1;
}

abbrev pub decreases-lines : goal.decreases-lines
decreases-lines l = length l.left
